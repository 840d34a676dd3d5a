-- The classes of the code, with the constants and methods that they list, are those of the rules.
use Rattle.std.proofs.Common.{◌≡◌, ℕ, ◌+◌, zero, suc, List, [], ◌∷◌, ◌++◌, append_assoc, append-nil, length, length-append, drop, map, Bool, true, false, Option, Some, None, sym, ap, ◌∙◌, refl, arith, subst, cond}
use Rattle.std.specs.Prelude.{slice_get, ◌||◌}
use Rattle.std.specs.List.{AllByRecursion}
use Rattle.rpy_tree.specs.declared.program.ClassInfo.{ClassInfo}
use Rattle.rpy_tree.specs.declared.program.Const.{Const}
use Rattle.rpy_nodes.specs.Names.{number}
use Rattle.rpy_nodes.specs.declared.unit.Unit.{Unit as Listed}
use Rattle.names_bound.specs.Base.{node_at}
use Rattle.names_bound.specs.Scopes.{base_in}
use Rattle.names_bound.specs.declared.declare.ClassAt.{ClassAt}
use Rattle.names_bound.specs.declared.declare.ConstantAt.{ConstantAt}
use Rattle.names_bound.specs.declared.declare.FunctionAt.{FunctionAt}
use Rattle.names_rules.specs.Bindings.{Counts, count}
use Rattle.names_rules.specs.Events.{Names}
use Rattle.names_rules.specs.Listed.{listed}
use Rattle.names_rules.specs.Locals.{Has, IsKnown}
use Rattle.names_rules.specs.Members as member
use Rattle.names_rules.specs.Members.{What, Placed, what_said}
use Rattle.names_rules.specs.Numbering.{said}
use Rattle.names_rules.specs.Order.{expr}
use Rattle.names_rules.proofs.Bindings.{longer}
use Rattle.names_rules.proofs.Locals.{all_rest}
use Rattle.names_rules.proofs.Stated.{unit_at}
use Rattle.names_value.specs.Machine.{narrow}
use Rattle.names_value.specs.Machine as machine
use Rattle.names_constants.proofs.Stands.{text_is}
use Rattle.names_whole.specs.Classes.{or_none, constant, method, is_class, is_in, constants_in, methods_in, builtins_to, class_info, stated, classes_from}
use Rattle.names_whole.proofs.Bodies.{Follows, is_statement, Never, Runs, runs}
use Rattle.names_whole.proofs.Declared.{class_of, constant_at, function_at, class_at, constants_at, functions_at, classes_at}
use Rattle.names_whole.proofs.Functions.{number_is}
use Rattle.rpy_names.specs.Tables as old

builtins_are : (bases : List (Option ℕ)) (n : ℕ) → old.builtins_to bases n ≡ builtins_to bases n
builtins_are bases zero = refl
builtins_are bases (suc n) = λ j. builtins_are bases n j ++ record { node = 0; file = 0; base = number_is (base_in bases n) j; constants = []; methods = [] } ∷ []

value_is : (o : Option Const) → old.value_or_none o ≡ or_none o
value_is None = refl
value_is (Some c) = refl

of_is : (class : ℕ) (o : Option ℕ) → old.is_of o class ≡ is_class class o
of_is class None = refl
of_is class (Some c) = refl

-- no member of the class, no constants and no methods
no_constants : (values : List (Option Const)) (class : ℕ) (ps : List Placed) (c : Counts) → Never class c ps → constants_in values class c ps ≡ []
no_constants values class [] c h = refl
no_constants values class (p ∷ ps) c h = λ j. cond (h.0 j) (constant values c.constants p.what) [] ++ no_constants values class ps (count p.what c) h.1 j

no_methods : (class : ℕ) (ps : List Placed) (c : Counts) → Never class c ps → methods_in class c ps ≡ []
no_methods class [] c h = refl
no_methods class (p ∷ ps) c h = λ j. cond (h.0 j) (method c.functions p.what) [] ++ no_methods class ps (count p.what c) h.1 j

nothing_if : {A : Type 0} (b : Bool) → cond {A = List A} b [] [] ≡ []
nothing_if true = refl
nothing_if false = refl

module _ (names : Names) (units : List Listed) where
  name_is : (unit : ℕ) (u : Listed) (name : List ℕ) → slice_get units unit ≡ Some u → old.name_in u.what ≡ number names name → Has names name → old.text_of names (old.name_of units unit) ≡ name
  name_is unit u name at e has = ap (λ o. old.text_of names (old.name_at o)) at ∙ ap (old.text_of names) e ∙ ap old.text_in (text_is names name has)

  abbrev Stands : ℕ → List Listed → List Placed → Type 0
  Stands unit before ps = (unit ≡ length before) × (units ≡ before ++ map (listed names) ps)

  here : (unit : ℕ) (before : List Listed) (p : Placed) (ps : List Placed) → Stands unit before (p ∷ ps) → slice_get units unit ≡ Some (listed names p)
  here unit before p ps s = (λ j. slice_get (s.1 j) (s.0 j)) ∙ unit_at before (map (listed names) ps) (listed names p)

  there : (unit : ℕ) (before : List Listed) (p : Placed) (ps : List Placed) → Stands unit before (p ∷ ps) → Stands (unit + 1) (before ++ listed names p ∷ []) ps
  there unit before p ps s = (ap (λ n. n + 1) s.0 ∙ sym (longer before (listed names p)), s.1 ∙ sym (append_assoc before (listed names p ∷ []) (map (listed names) ps)))

  -- ---- the constants of a class

  module _ (values : List (Option Const)) (class : ℕ) where
    abbrev found : ℕ → List ConstantAt → List (List ℕ × Const) → List (List ℕ × Const)
    found number ats done = old.constants_onto done names units values class number ats

    -- the first constant is of the class, or no further one is
    constant_first : (b : Bool) (pair : List ℕ × Const) (done more rest : List (List ℕ × Const)) → (b ≡ true → more ≡ (done ++ pair ∷ []) ++ rest) → (b ≡ false → rest ≡ []) → cond b more done ≡ done ++ (cond b (pair ∷ []) [] ++ rest)
    constant_first true pair done more rest h k = h refl ∙ append_assoc done (pair ∷ []) rest
    constant_first false pair done more rest h k = sym (ap (λ xs. done ++ xs) (k refl) ∙ append-nil done)

    constants_found : (ps : List Placed) (before : List Listed) (unit number : ℕ) (c : Counts) (done : List (List ℕ × Const)) → Stands unit before ps → AllByRecursion (IsKnown names) ps → Runs class c ps → c.constants ≡ number
        → found number (constants_at unit c ps) done ≡ done ++ constants_in values class c ps
    constants_found [] before unit number c done s has h n = sym (append-nil done)
    constants_found (p ∷ ps) before unit number c done s has h n = by_what (λ number' done' m. constants_found ps (before ++ listed names p ∷ []) (unit + 1) number' (count p.what c) done' (there unit before p ps s) has.1 h.1 m) p.what refl where
      still : ((number' : ℕ) (done' : List (List ℕ × Const)) → (count p.what c).constants ≡ number' → found number' (constants_at (unit + 1) (count p.what c) ps) done' ≡ done' ++ constants_in values class (count p.what c) ps)
          → constant_at unit (class_of p c) p.what ≡ [] → constant values c.constants p.what ≡ [] → (count p.what c).constants ≡ c.constants → found number (constants_at unit c (p ∷ ps)) done ≡ done ++ constants_in values class c (p ∷ ps)
      still go e f m = ap (λ xs. found number (xs ++ constants_at (unit + 1) (count p.what c) ps) done) e
          ∙ go number done (m ∙ n)
          ∙ ap (λ xs. done ++ (xs ++ constants_in values class (count p.what c) ps)) (sym (ap (λ xs. cond (is_in class c p) xs []) f ∙ nothing_if (is_in class c p)))

      by_what : ((number' : ℕ) (done' : List (List ℕ × Const)) → (count p.what c).constants ≡ number' → found number' (constants_at (unit + 1) (count p.what c) ps) done' ≡ done' ++ constants_in values class (count p.what c) ps)
          → (w : What) → p.what ≡ w → found number (constants_at unit c (p ∷ ps)) done ≡ done ++ constants_in values class c (p ∷ ps)
      by_what go (member.Import of) e = still go (ap (constant_at unit (class_of p c)) e) (ap (constant values c.constants) e) (ap (λ w. (count w c).constants) e)
      by_what go (member.From path of) e = still go (ap (constant_at unit (class_of p c)) e) (ap (constant values c.constants) e) (ap (λ w. (count w c).constants) e)
      by_what go (member.Def name qs star b) e = still go (ap (constant_at unit (class_of p c)) e) (ap (constant values c.constants) e) (ap (λ w. (count w c).constants) e)
      by_what go (member.Class name base) e = still go (ap (constant_at unit (class_of p c)) e) (ap (constant values c.constants) e) (ap (λ w. (count w c).constants) e)
      by_what go (member.Constant name v) e =
          let at : ConstantAt = record { unit = unit; class = class_of p c } in
          let rest : List ConstantAt = constants_at (unit + 1) (count p.what c) ps in
          let known : Has names name = (all_rest (Has names) (said (expr v.of)) (name ∷ []) (subst (λ (w : What). AllByRecursion (Has names) (what_said w)) e has.0)).0 in
          let pair : old.constant_pair names units values number at ≡ (name, or_none (machine.constant_at values c.constants))
          = λ j. (
            name_is unit (listed names p) name (here unit before p ps s) (ap (λ w. old.name_in (Rattle.names_rules.specs.Listed.says names w)) e) known j,
            (ap (λ k. old.value_or_none (machine.constant_at values k)) (sym n) ∙ value_is (machine.constant_at values c.constants)) j,
          ) in
          ap (λ xs. found number (xs ++ rest) done) (ap (constant_at unit (class_of p c)) e)
          ∙ ap (λ b. cond b (found (number + 1) rest (done ++ old.constant_pair names units values number at ∷ [])) done) (of_is class (class_of p c))
          ∙ constant_first (is_in class c p) (name, or_none (machine.constant_at values c.constants)) done _ (constants_in values class (count p.what c) ps)
          (λ f. ap (λ x. found (number + 1) rest (done ++ x ∷ [])) pair ∙ go (number + 1) (done ++ (name, or_none (machine.constant_at values c.constants)) ∷ []) (ap (λ w. (count w c).constants) e ∙ ap (λ k. k + 1) n))
          (λ f. no_constants values class ps (count p.what c) (h.0 f))
          ∙ ap (λ xs. done ++ (cond (is_in class c p) xs [] ++ constants_in values class (count p.what c) ps)) (sym (ap (constant values c.constants) e))

  -- ---- its methods

  module _ (class : ℕ) where
    abbrev found_methods : ℕ → List FunctionAt → List (List ℕ × ℕ) → List (List ℕ × ℕ)
    found_methods number ats done = old.methods_onto done names units class number ats

    method_first : (b : Bool) (pair : List ℕ × ℕ) (done more rest : List (List ℕ × ℕ)) → (b ≡ true → more ≡ (done ++ pair ∷ []) ++ rest) → (b ≡ false → rest ≡ []) → cond b more done ≡ done ++ (cond b (pair ∷ []) [] ++ rest)
    method_first true pair done more rest h k = h refl ∙ append_assoc done (pair ∷ []) rest
    method_first false pair done more rest h k = sym (ap (λ xs. done ++ xs) (k refl) ∙ append-nil done)

    methods_found : (ps : List Placed) (before : List Listed) (unit number : ℕ) (c : Counts) (done : List (List ℕ × ℕ)) → Stands unit before ps → AllByRecursion (IsKnown names) ps → Runs class c ps → c.functions ≡ number
        → found_methods number (functions_at unit c ps) done ≡ done ++ methods_in class c ps
    methods_found [] before unit number c done s has h n = sym (append-nil done)
    methods_found (p ∷ ps) before unit number c done s has h n = by_what (λ number' done' m. methods_found ps (before ++ listed names p ∷ []) (unit + 1) number' (count p.what c) done' (there unit before p ps s) has.1 h.1 m) p.what refl where
      still : ((number' : ℕ) (done' : List (List ℕ × ℕ)) → (count p.what c).functions ≡ number' → found_methods number' (functions_at (unit + 1) (count p.what c) ps) done' ≡ done' ++ methods_in class (count p.what c) ps)
          → function_at unit (class_of p c) p.what ≡ [] → method c.functions p.what ≡ [] → (count p.what c).functions ≡ c.functions → found_methods number (functions_at unit c (p ∷ ps)) done ≡ done ++ methods_in class c (p ∷ ps)
      still go e f m = ap (λ xs. found_methods number (xs ++ functions_at (unit + 1) (count p.what c) ps) done) e
          ∙ go number done (m ∙ n)
          ∙ ap (λ xs. done ++ (xs ++ methods_in class (count p.what c) ps)) (sym (ap (λ xs. cond (is_in class c p) xs []) f ∙ nothing_if (is_in class c p)))

      by_what : ((number' : ℕ) (done' : List (List ℕ × ℕ)) → (count p.what c).functions ≡ number' → found_methods number' (functions_at (unit + 1) (count p.what c) ps) done' ≡ done' ++ methods_in class (count p.what c) ps)
          → (w : What) → p.what ≡ w → found_methods number (functions_at unit c (p ∷ ps)) done ≡ done ++ methods_in class c (p ∷ ps)
      by_what go (member.Import of) e = still go (ap (function_at unit (class_of p c)) e) (ap (method c.functions) e) (ap (λ w. (count w c).functions) e)
      by_what go (member.From path of) e = still go (ap (function_at unit (class_of p c)) e) (ap (method c.functions) e) (ap (λ w. (count w c).functions) e)
      by_what go (member.Constant name v) e = still go (ap (function_at unit (class_of p c)) e) (ap (method c.functions) e) (ap (λ w. (count w c).functions) e)
      by_what go (member.Class name base) e = still go (ap (function_at unit (class_of p c)) e) (ap (method c.functions) e) (ap (λ w. (count w c).functions) e)
      by_what go (member.Def name qs star b) e =
          let at : FunctionAt = record { unit = unit; class = class_of p c } in
          let rest : List FunctionAt = functions_at (unit + 1) (count p.what c) ps in
          let known : Has names name = (subst (λ (w : What). AllByRecursion (Has names) (what_said w)) e has.0).0 in
          let pair : old.method_pair names units number at ≡ (name, narrow c.functions)
          = λ j. (
            name_is unit (listed names p) name (here unit before p ps s) (ap (λ w. old.name_in (Rattle.names_rules.specs.Listed.says names w)) e) known j,
            narrow (sym n j),
          ) in
          ap (λ xs. found_methods number (xs ++ rest) done) (ap (function_at unit (class_of p c)) e)
          ∙ ap (λ t. cond t (found_methods (number + 1) rest (done ++ old.method_pair names units number at ∷ [])) done) (of_is class (class_of p c))
          ∙ method_first (is_in class c p) (name, narrow c.functions) done _ (methods_in class (count p.what c) ps)
          (λ f. ap (λ x. found_methods (number + 1) rest (done ++ x ∷ [])) pair ∙ go (number + 1) (done ++ (name, narrow c.functions) ∷ []) (ap (λ w. (count w c).functions) e ∙ ap (λ k. k + 1) n))
          (λ f. no_methods class ps (count p.what c) (h.0 f))
          ∙ ap (λ xs. done ++ (cond (is_in class c p) xs [] ++ methods_in class (count p.what c) ps)) (sym (ap (method c.functions) e))

  -- ---- all classes

  drop_all : {A : Type 0} (xs ys : List A) (n : ℕ) → length xs ≡ n → drop n (xs ++ ys) ≡ ys
  drop_all xs ys n e = ap (λ m. drop m (xs ++ ys)) (sym e) ∙ drop_first xs ys where
    drop_first : {A : Type 0} (xs ys : List A) → drop (length xs) (xs ++ ys) ≡ ys
    drop_first [] ys = refl
    drop_first (x ∷ xs) ys = drop_first xs ys

  module _ (values : List (Option Const)) (ks : List ConstantAt) (fs : List FunctionAt) (bases : List (Option ℕ)) where
    -- what stands before these members
    pub record Before (unit : ℕ) (c : Counts) (before : List Listed) (ps : List Placed) : Type 0 where
      pub stands : (unit ≡ length before) × (units ≡ before ++ map (listed names) ps)
      pub constants : (first : List ConstantAt) × (ks ≡ first ++ constants_at unit c ps) × (length first ≡ c.constants)
      pub functions : (first : List FunctionAt) × (fs ≡ first ++ functions_at unit c ps) × (length first ≡ c.functions)

    more_long : {A : Type 0} (xs ys : List A) (n m : ℕ) → length xs ≡ n → length ys ≡ m → length (xs ++ ys) ≡ n + m
    more_long xs ys n m e f = length-append xs ys ∙ (λ j. e j + f j)

    constant_counted : (unit : ℕ) (o : Option ℕ) (w : What) (c : Counts) → c.constants + length (constant_at unit o w) ≡ (count w c).constants
    constant_counted unit o (member.Import of) c = omega arith
    constant_counted unit o (member.From path of) c = omega arith
    constant_counted unit o (member.Constant name v) c = refl
    constant_counted unit o (member.Def name ps star b) c = omega arith
    constant_counted unit o (member.Class name base) c = omega arith

    function_counted : (unit : ℕ) (o : Option ℕ) (w : What) (c : Counts) → c.functions + length (function_at unit o w) ≡ (count w c).functions
    function_counted unit o (member.Import of) c = omega arith
    function_counted unit o (member.From path of) c = omega arith
    function_counted unit o (member.Constant name v) c = omega arith
    function_counted unit o (member.Def name ps star b) c = refl
    function_counted unit o (member.Class name base) c = omega arith

    before_next : (unit : ℕ) (c : Counts) (before : List Listed) (p : Placed) (ps : List Placed) → Before unit c before (p ∷ ps) → Before (unit + 1) (count p.what c) (before ++ listed names p ∷ []) ps
    before_next unit c before p ps b = record {
      stands = there unit before p ps b.stands;
      constants = (
        b.constants.0 ++ constant_at unit (class_of p c) p.what,
        b.constants.1 ∙ sym (append_assoc b.constants.0 (constant_at unit (class_of p c) p.what) (constants_at (unit + 1) (count p.what c) ps)),
        more_long b.constants.0 (constant_at unit (class_of p c) p.what) c.constants _ b.constants.2 refl ∙ constant_counted unit (class_of p c) p.what c,
      );
      functions = (
        b.functions.0 ++ function_at unit (class_of p c) p.what,
        b.functions.1 ∙ sym (append_assoc b.functions.0 (function_at unit (class_of p c) p.what) (functions_at (unit + 1) (count p.what c) ps)),
        more_long b.functions.0 (function_at unit (class_of p c) p.what) c.functions _ b.functions.2 refl ∙ function_counted unit (class_of p c) p.what c,
      );
    }

    abbrev infos : List ClassInfo → ℕ → List ClassAt → List ClassInfo
    infos done place ats = old.classes_onto done names units values ks fs bases place ats

    -- the class that is stated here
    info_is : (unit : ℕ) (c : Counts) (before : List Listed) (p : Placed) (ps : List Placed) (name : List ℕ) (base : List (List ℕ)) → p.what ≡ member.Class name base → Before unit c before (p ∷ ps) → AllByRecursion (IsKnown names) ps → Follows true ps
        → old.class_info names units values ks fs bases (c.classes + 13) (record { unit = unit; file = p.file; place = p.place; constant = c.constants; function = c.functions }) ≡ class_info bases values c p ps
    info_is unit c before p ps name base e b has f =
        let class : ℕ = c.classes + 13 in
        let next : Before (unit + 1) (count p.what c) (before ++ listed names p ∷ []) ps = before_next unit c before p ps b in
        let run : Runs class (count p.what c) ps = runs c.classes ps (count p.what c) (ap (λ w. (count w c).classes) e) f in
        let constants : drop c.constants ks ≡ constants_at (unit + 1) (count p.what c) ps
        = ap (drop c.constants) b.constants.1 ∙ drop_all b.constants.0 (constants_at unit c (p ∷ ps)) c.constants b.constants.2
        ∙ ap (λ w. constant_at unit (class_of p c) w ++ constants_at (unit + 1) (count p.what c) ps) e in
        let functions : drop c.functions fs ≡ functions_at (unit + 1) (count p.what c) ps
        = ap (drop c.functions) b.functions.1 ∙ drop_all b.functions.0 (functions_at unit c (p ∷ ps)) c.functions b.functions.2
        ∙ ap (λ w. function_at unit (class_of p c) w ++ functions_at (unit + 1) (count p.what c) ps) e in
        λ j. record {
          node = node_at (here unit before p ps b.stands j);
          file = narrow p.file;
          base = number_is (base_in bases class) j;
          constants = (ap (λ xs. old.constants_onto [] names units values class c.constants xs) constants ∙ constants_found values class ps (before ++ listed names p ∷ []) (unit + 1) c.constants (count p.what c) [] next.stands has run (ap (λ w. (count w c).constants) e)) j;
          methods = (ap (λ xs. old.methods_onto [] names units class c.functions xs) functions ∙ methods_found class ps (before ++ listed names p ∷ []) (unit + 1) c.functions (count p.what c) [] next.stands has run (ap (λ w. (count w c).functions) e)) j;
        }

    infos_onto : (ps : List Placed) (unit : ℕ) (c : Counts) (before : List Listed) (done : List ClassInfo) (entered : Bool) → Before unit c before ps → AllByRecursion (IsKnown names) ps → Follows entered ps
        → infos done c.classes (classes_at unit c ps) ≡ done ++ classes_from bases values c ps
    infos_onto [] unit c before done entered b has f = sym (append-nil done)
    infos_onto (p ∷ ps) unit c before done entered b has f = by_what (λ done'. infos_onto ps (unit + 1) (count p.what c) (before ++ listed names p ∷ []) done' (p.inside || is_statement p.what) (before_next unit c before p ps b) has.1 f.1) p.what refl where
      still : ((done' : List ClassInfo) → infos done' (count p.what c).classes (classes_at (unit + 1) (count p.what c) ps) ≡ done' ++ classes_from bases values (count p.what c) ps)
          → class_at unit p c p.what ≡ [] → stated bases values c p ps p.what ≡ [] → (count p.what c).classes ≡ c.classes → infos done c.classes (classes_at unit c (p ∷ ps)) ≡ done ++ classes_from bases values c (p ∷ ps)
      still go e s n = (λ j. infos done (sym n j) (e j ++ classes_at (unit + 1) (count p.what c) ps)) ∙ go done ∙ ap (λ xs. done ++ (xs ++ classes_from bases values (count p.what c) ps)) (sym s)

      by_what : ((done' : List ClassInfo) → infos done' (count p.what c).classes (classes_at (unit + 1) (count p.what c) ps) ≡ done' ++ classes_from bases values (count p.what c) ps)
          → (w : What) → p.what ≡ w → infos done c.classes (classes_at unit c (p ∷ ps)) ≡ done ++ classes_from bases values c (p ∷ ps)
      by_what go (member.Import of) e = still go (ap (class_at unit p c) e) (ap (stated bases values c p ps) e) (ap (λ w. (count w c).classes) e)
      by_what go (member.From path of) e = still go (ap (class_at unit p c) e) (ap (stated bases values c p ps) e) (ap (λ w. (count w c).classes) e)
      by_what go (member.Constant name v) e = still go (ap (class_at unit p c) e) (ap (stated bases values c p ps) e) (ap (λ w. (count w c).classes) e)
      by_what go (member.Def name qs star body) e = still go (ap (class_at unit p c) e) (ap (stated bases values c p ps) e) (ap (λ w. (count w c).classes) e)
      by_what go (member.Class name base) e =
          let behind : Follows true ps = subst (λ (t : Bool). Follows t ps) (ap (λ w. (p.inside || is_statement w)) e ∙ or_true p.inside) f.1 in
          ap (λ xs. infos done c.classes (xs ++ classes_at (unit + 1) (count p.what c) ps)) (ap (class_at unit p c) e)
          ∙ (λ j. infos (done ++ info_is unit c before p ps name base e b has.1 behind j ∷ []) (sym (ap (λ w. (count w c).classes) e) j) (classes_at (unit + 1) (count p.what c) ps))
          ∙ go (done ++ class_info bases values c p ps ∷ [])
          ∙ append_assoc done (class_info bases values c p ps ∷ []) (classes_from bases values (count p.what c) ps)
          ∙ ap (λ xs. done ++ (xs ++ classes_from bases values (count p.what c) ps)) (sym (ap (stated bases values c p ps) e)) where
            or_true : (b : Bool) → (b || true) ≡ true
            or_true true = refl
            or_true false = refl

    pub infos_are : (ps : List Placed) (c : Counts) (entered : Bool) → c.classes ≡ 0 → Before 0 c [] ps → AllByRecursion (IsKnown names) ps → Follows entered ps
        → old.class_infos names units values ks fs bases (classes_at 0 c ps) ≡ builtins_to bases 13 ++ classes_from bases values c ps
    infos_are ps c entered z b has f = ap (λ n. infos (old.builtins_to bases 13) n (classes_at 0 c ps)) (sym z) ∙ infos_onto ps 0 c [] (old.builtins_to bases 13) entered b has f ∙ ap (λ xs. xs ++ classes_from bases values c ps) (builtins_are bases 13)

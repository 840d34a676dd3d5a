-- Each part that has a cell has a node.
use Rattle.std.proofs.Common.{◌≡◌, ◌<◌, ℕ, zero, suc, ◌+◌, Bool, true, false, List, [], ◌∷◌, ◌++◌, length, map, get_or, slice_get, sum, Option, Some, None, refl, sym, ap, ◌∙◌, subst, arith}
use Rattle.std.specs.Prelude.{◌||◌, if◌then◌else◌, unwrap_or, option_map, is_some}
use Rattle.std.specs.Str.{bytes_eq}
use Rattle.std.proofs.lemmas.Option.{slice_get_within}
use Rattle.std.proofs.lemmas.List.{length-map}
use Rattle.rpy_tree.specs.declared.syntax.Function.{Function}
use Rattle.rpy_tree.specs.declared.syntax.Member.{Member, out-Member}
use Rattle.rpy_tree.specs.declared.syntax.Member.TheOpen.{Member-F}
use Rattle.rpy_tree.specs.declared.syntax.ClassDef.{ClassDef, out-ClassDef}
use Rattle.rpy_tree.specs.declared.syntax.Module.{Module}
use Rattle.rpy_tree.specs.declared.program.Use.{Use}
use Rattle.rpy_tree.specs.declared.program.Program.{Program}
use Rattle.ann_needs.specs.View.{row_of, named, attribute_in}
use Rattle.ann_needs.specs.declared.plan.Callee.{Callee}
use Rattle.ann_needs.specs.declared.plan.Plan.{Plan}
use Rattle.ann_layout.specs.Callees as callees
use Rattle.ann_layout.specs.Layout.{numbers, rows, named_row, named_rows, param_count}
use Rattle.ann_shown.specs.Functions as nodes
use Rattle.ann_shown.specs.declared.functions.Nodes.{Nodes}
use Rattle.ann_shown.specs.Place.{names_of, named_cell, IsPlace}
use Rattle.ann_shown.specs.declared.place.Place.TheVariants as place
use Rattle.ann_shown.specs.Told.{IsPlanOf}
use Rattle.class_desc.specs.Stores.{has}
use Rattle.class_desc.specs.Tables.{Tables, declared, tables}
use Rattle.ann_shown.proofs.Names.{Distinct, same_name, declared_distinct}

-- ---- numbers

count_of_numbers : (n count : ℕ) → length (numbers n count) ≡ count
count_of_numbers n zero = refl
count_of_numbers n (suc count) = ap suc (count_of_numbers (suc n) count)

pub within_numbers : (n count i c : ℕ) → slice_get (numbers n count) i ≡ Some c → i < count
within_numbers n count i c e = let lt : i < length (numbers n count) = slice_get_within (numbers n count) i c e in omega (arith, lt, count_of_numbers n count)

pub within_rows : (counts : List ℕ) (n f i c : ℕ) → slice_get (row_of (rows n counts) f) i ≡ Some c → i < get_or counts f 0
within_rows [] n f i c e = absurd cc
within_rows (count ∷ counts) n zero i c e = within_numbers n count i c e
within_rows (count ∷ counts) n (suc f) i c e = within_rows counts (n + count) f i c e

-- ---- functions

abbrev as_many : List Callee → List Nodes → Type 0
as_many cs ns = map param_count cs ≡ map (λ (n : Nodes). length n.params) ns

one_more : (cs : List Callee) (ns : List Nodes) (c : Callee) (n : Nodes) → param_count c ≡ length n.params → as_many cs ns → as_many (cs ++ c ∷ []) (ns ++ n ∷ [])
one_more cs ns c n e h = map_more param_count cs c ∙ (λ i. h i ++ e i ∷ []) ∙ sym (map_more (λ (m : Nodes). length m.params) ns n)
  where
    map_more : {A : Type 0} (f : A → ℕ) (xs : List A) (x : A) → map f (xs ++ x ∷ []) ≡ map f xs ++ f x ∷ []
    map_more f [] x = refl
    map_more f (y ∷ ys) x = ap (λ zs. f y ∷ zs) (map_more f ys x)

module _ (uses : List Use) where
  count_is : (first : ℕ) (f : Function) → param_count (callees.callee uses first f) ≡ length (nodes.nodes_in first f).params
  count_is first f = length-map f.params (callees.default uses first) ∙ sym (length-map f.params (nodes.node_in first))

  method_as_many : (first : ℕ) (m : Member-F Member ClassDef) (cs : List Callee) (ns : List Nodes) → as_many cs ns → as_many (callees.with_method uses first m cs) (nodes.with_method first m ns)
  method_as_many first (Member-F.Def f) cs ns h = one_more cs ns (callees.callee uses first f) (nodes.nodes_in first f) (count_is first f) h
  method_as_many first (Member-F.Import n path) cs ns h = h
  method_as_many first (Member-F.From n path found) cs ns h = h
  method_as_many first (Member-F.Const n name value) cs ns h = h
  method_as_many first (Member-F.Class class) cs ns h = h

  methods_as_many : (first : ℕ) (ms : List Member) (cs : List Callee) (ns : List Nodes) → as_many cs ns → as_many (callees.with_methods uses first ms cs) (nodes.with_methods first ms ns)
  methods_as_many first [] cs ns h = h
  methods_as_many first (m ∷ ms) cs ns h =
      methods_as_many first ms (callees.with_method uses first (out-Member m) cs) (nodes.with_method first (out-Member m) ns) (method_as_many first (out-Member m) cs ns h)

  member_as_many : (first : ℕ) (m : Member-F Member ClassDef) (cs : List Callee) (ns : List Nodes) → as_many cs ns → as_many (callees.with_member uses first m cs) (nodes.with_member first m ns)
  member_as_many first (Member-F.Class class) cs ns h = methods_as_many first (out-ClassDef class).members cs ns h
  member_as_many first (Member-F.Def f) cs ns h = method_as_many first (Member-F.Def f) cs ns h
  member_as_many first (Member-F.Import n path) cs ns h = h
  member_as_many first (Member-F.From n path found) cs ns h = h
  member_as_many first (Member-F.Const n name value) cs ns h = h

  members_as_many : (first : ℕ) (ms : List Member) (cs : List Callee) (ns : List Nodes) → as_many cs ns → as_many (callees.with_members uses first ms cs) (nodes.with_members first ms ns)
  members_as_many first [] cs ns h = h
  members_as_many first (m ∷ ms) cs ns h =
      members_as_many first ms (callees.with_member uses first (out-Member m) cs) (nodes.with_member first (out-Member m) ns) (member_as_many first (out-Member m) cs ns h)

  modules_as_many : (first : ℕ) (ms : List Module) (cs : List Callee) (ns : List Nodes) → as_many cs ns → as_many (callees.with_modules uses first ms cs) (nodes.with_modules first ms ns)
  modules_as_many first [] cs ns h = h
  modules_as_many first (m ∷ ms) cs ns h =
      modules_as_many (first + m.nodes) ms (callees.with_members uses first m.members cs) (nodes.with_members first m.members ns) (members_as_many first m.members cs ns h)

-- as many functions, each with as many parameters
all_as_many : (p : Program) → as_many (callees.callees p) (nodes.function_nodes p)
all_as_many p = modules_as_many p.uses 0 p.modules [] [] refl

-- what stands in a list
stands : {A : Type 0} (xs : List A) (n : ℕ) → n < length xs → is_some (slice_get xs n) ≡ true
stands [] n lt = absurd (omega (arith, lt))
stands (x ∷ xs) zero lt = refl
stands (x ∷ xs) (suc n) lt = stands xs n (omega (arith, lt))

param_stands : (ns : List Nodes) (f i : ℕ) → i < get_or (map (λ (n : Nodes). length n.params) ns) f 0 → is_some (nodes.param_in (slice_get ns f) i) ≡ true
param_stands [] f i lt = absurd (omega (arith, lt))
param_stands (n ∷ ns) zero i lt = stands n.params i lt
param_stands (n ∷ ns) (suc f) i lt = param_stands ns f i lt

pub param_there : (p : Program) (n f i c : ℕ) → slice_get (row_of (rows n (map param_count (callees.callees p))) f) i ≡ Some c → is_some (nodes.param_node p f i) ≡ true
param_there p n f i c e =
    param_stands (nodes.function_nodes p) f i
    (subst (λ (counts : List ℕ). i < get_or counts f 0) (all_as_many p) (within_rows (map param_count (callees.callees p)) n f i c e))

mapped_stands : {A B : Type 0} (g : A → B) (xs : List A) (n : ℕ) → n < length xs → is_some (option_map g (slice_get xs n)) ≡ true
mapped_stands g [] n lt = absurd (omega (arith, lt))
mapped_stands g (x ∷ xs) zero lt = refl
mapped_stands g (x ∷ xs) (suc n) lt = mapped_stands g xs n (omega (arith, lt))

function_count_is : (p : Program) → length (callees.callees p) ≡ length (nodes.function_nodes p)
function_count_is p = sym (length-map (callees.callees p) param_count) ∙ (ap length (all_as_many p) ∙ length-map (nodes.function_nodes p) (λ (n : Nodes). length n.params))

pub result_there : (p : Program) (n f c : ℕ) → slice_get (numbers n (length (callees.callees p))) f ≡ Some c → is_some (nodes.function_node p f) ≡ true
result_there p n f c e =
    let lt : f < length (callees.callees p) = within_numbers n (length (callees.callees p)) f c e in
    mapped_stands (λ nodes. nodes.function) (nodes.function_nodes p) f (omega (arith, lt, function_count_is p))

-- ---- attributes

other_name : (x : List ℕ) (names : List (List ℕ)) (n i c : ℕ) (name : List ℕ) → has names x ≡ false → slice_get (named_row n names) i ≡ Some (name, c) → bytes_eq x name ≡ false
other_name x [] n i c name h e = absurd cc
other_name x (y ∷ ys) n zero c name h e = ap (bytes_eq x) (ap (λ (o : Option (List ℕ × ℕ)). (unwrap_or o (name, c)).0) (sym e)) ∙ first_no (bytes_eq x y) (has ys x) h
  where
    first_no : (a b : Bool) → (a || b) ≡ false → a ≡ false
    first_no false b e = refl
    first_no true b e = e
other_name x (y ∷ ys) n (suc i) c name h e = other_name x ys (suc n) i c name (second_no (bytes_eq x y) (has ys x) h) e
  where
    second_no : (a b : Bool) → (a || b) ≡ false → b ≡ false
    second_no false b e = e
    second_no true b e = absurd cc

-- a name leads to its number, where none stands twice
named_is : (names : List (List ℕ)) (n i c : ℕ) (name : List ℕ) → Distinct names → slice_get (named_row n names) i ≡ Some (name, c) → named name (named_row n names) ≡ c
named_is [] n i c name d e = absurd cc
named_is (x ∷ xs) n zero c name d e =
    subst (λ (b : Bool). (if b then n else named name (named_row (suc n) xs)) ≡ c) (sym (ap (bytes_eq x) (ap (λ (o : Option (List ℕ × ℕ)). (unwrap_or o (name, c)).0) (sym e)) ∙ same_name x))
    (ap (λ (o : Option (List ℕ × ℕ)). (unwrap_or o (name, n)).1) e)
named_is (x ∷ xs) n (suc i) c name d e =
    subst (λ (b : Bool). (if b then n else named name (named_row (suc n) xs)) ≡ c) (sym (other_name x xs (suc n) i c name d.0 e)) (named_is xs (suc n) i c name d.1 e)

pub attribute_is : (t : Tables) → ((c : ℕ) → Distinct (declared t c)) → (count n class k i c : ℕ) (name : List ℕ) → slice_get (names_of (named_rows t n class count) k) i ≡ Some (name, c) → attribute_in (named_rows t n class count) k name ≡ c
attribute_is t d zero n class k i c name e = absurd cc
attribute_is t d (suc count) n class zero i c name e = named_is (declared t class) n i c name (d class) e
attribute_is t d (suc count) n class (suc k) i c name e = attribute_is t d count (n + length (declared t class)) (suc class) k i c name e

pub class_within : (t : Tables) (count n class k i c : ℕ) (name : List ℕ) → slice_get (names_of (named_rows t n class count) k) i ≡ Some (name, c) → k < count
class_within t zero n class k i c name e = absurd cc
class_within t (suc count) n class zero i c name e = omega arith
class_within t (suc count) n class (suc k) i c name e = let lt : k < count = class_within t count (n + length (declared t class)) (suc class) k i c name e in omega (arith, lt)

-- ---- the parts of a plan

no_none : {A : Type 0} (o r : Option A) → is_some o ≡ true → r ≡ o → r ≡ None → ⊥
no_none o r some e none = differ (sym (ap is_some (sym e ∙ none)) ∙ some)
  where
    differ : false ≡ true → ⊥
    differ e = cc

module _ (p : Program) (q : Plan) (h : IsPlanOf p q) (c : ℕ) where
  pub param_has_node : (f i : ℕ) → IsPlace q c (place.Param f i) → (o : Option ℕ) → o ≡ nodes.param_node p f i → o ≡ None → ⊥
  param_has_node f i e o is none =
      no_none (nodes.param_node p f i) o (param_there p 0 f i c (subst (λ (r : Plan). slice_get (row_of r.places.params f) i ≡ Some c) h.is e)) is none

  pub result_has_node : (f : ℕ) → IsPlace q c (place.Result f) → (o : Option ℕ) → o ≡ nodes.function_node p f → o ≡ None → ⊥
  result_has_node f e o is none =
      no_none (nodes.function_node p f) o (result_there p (0 + sum (map param_count (callees.callees p))) f c (subst (λ (r : Plan). slice_get r.places.results f ≡ Some c) h.is e)) is none

  -- an entry of an attribute
  module _ (class i : ℕ) (row : List (List ℕ × ℕ)) (entry : List ℕ × ℕ) (e : IsPlace q c (place.Attribute class i)) (in_rows : Some row ≡ slice_get q.places.attributes class) (in_row : Some entry ≡ slice_get row i) where
    entry_is : slice_get (names_of q.places.attributes class) i ≡ Some entry
    entry_is = ap (λ (o : Option (List (List ℕ × ℕ))). slice_get (unwrap_or o []) i) (sym in_rows) ∙ sym in_row

    number_is : entry.1 ≡ c
    number_is = ap (λ (o : Option ℕ). unwrap_or o c) (sym (ap named_cell entry_is) ∙ e)

    abbrev at : ℕ
    at = 0 + sum (map param_count (callees.callees p)) + length (callees.callees p)

    in_plan : slice_get (names_of (named_rows (tables p) at 0 (length p.classes)) class) i ≡ Some (entry.0, c)
    in_plan = subst (λ (r : Plan). slice_get (names_of r.places.attributes class) i ≡ Some (entry.0, c)) h.is (entry_is ∙ ap (λ (n : ℕ). Some (entry.0, n)) number_is)

    pub attribute_has_class : class < length p.classes
    attribute_has_class = class_within (tables p) (length p.classes) at 0 class i c entry.0 in_plan

    pub attribute_has_cell : attribute_in q.places.attributes class entry.0 ≡ c
    attribute_has_cell =
        ap (λ (r : Plan). attribute_in r.places.attributes class entry.0) h.is
        ∙ attribute_is (tables p) (declared_distinct p.modules) (length p.classes) at 0 class i c entry.0 in_plan

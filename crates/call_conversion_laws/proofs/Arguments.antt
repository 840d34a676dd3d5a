-- Arguments are converted, and constants stand in for those that are missing.
use Rattle.std.proofs.Common.{◌≡◌, ◌≤◌, ℕ, suc, ◌+◌, ◌||◌, true, false, Bool, List, [], ◌∷◌, ◌++◌, length, map, Option, Some, None, refl, sym, ap, ◌∙◌, subst, arith, append_assoc, length-append}
use Rattle.std.specs.Prelude.{slice_get, if◌then◌else◌, option_map}
use Rattle.std.proofs.lemmas.List.{append-nil}
use Rattle.ann_element.specs.declared.element.Element.{Element}
use Rattle.csub_tree.specs.State.{Value, Block, Core}
use Rattle.csub_tree.specs.Statement.{operand, operands, any_unset}
use Rattle.csub_tree.specs.declared.tree.COperand.{COperand}
use Rattle.ll_code.specs.State.{Frame, At}
use Rattle.ll_code.specs.declared.program.LlType.{LlType}
use Rattle.ll_code.specs.declared.program.LlType.TheVariants as type
use Rattle.ll_code.specs.declared.program.LlOp.{LlOp}
use Rattle.ll_code.specs.declared.program.LlExit.{LlExit}
use Rattle.ll_code.specs.declared.program.LlProgram.{LlProgram}
use Rattle.ll_build.specs.declared.needs.Numbers.{Numbers}
use Rattle.rpy_resolved.specs.declared.tree.Function.{Function}
use Rattle.rpy_tree.specs.Value.{Value as Meant, Heap}
use Rattle.rpy_meaning.specs.Evaluation.{parameters}
use Rattle.rpy_meaning.specs.Operations.{constant as meant_of}
use Rattle.rpy_meaning.specs.Tree.{Function as MeantFunction}
use Rattle.rtyper_layout.specs.declared.kind.Kind.TheVariants as kind
use Rattle.rtyper_layout.specs.declared.layout.Layout.{Layout}
use Rattle.rtyper_layout.specs.Kinds.{kind_seen}
use Rattle.rtyper_layout.specs.Layout.{is_tuple}
use Rattle.rtyper_layout.specs.Types.{type_of as type_of_element}
use Rattle.rtyper_op.specs.Calls.{argument_if, arguments_from}
use Rattle.rtyper_op.specs.Lowering.{is_never, never_comes}
use Rattle.rtyper_data.specs.declared.found.Found.{Found}
use Rattle.rtyper_data.specs.Converting.{given}
use Rattle.rtyper_data.specs.Seen.{Around, Operand, kind_of, Writing, writing}
use Rattle.lower_laws.specs.Asked.{all_asked}
use Rattle.lower_laws.specs.Values.{AllBelow}
use Rattle.object_laws.specs.Done.{HasLayout}
use Rattle.object_laws.specs.Ghost.{Ghost}
use Rattle.object_laws.specs.Known.{Known}
use Rattle.object_laws.specs.Represents.{Represents}
use Rattle.object_laws.specs.Values.{AllHold, End, Next, Given}
use Rattle.object_laws.proofs.Valued.{held_set}
use Rattle.conversion_laws.specs.Asked.{Has}
use Rattle.conversion_laws.specs.Constants.{AreKept}
use Rattle.conversion_laws.proofs.Cells.{Begins}
use Rattle.conversion_laws.proofs.Valued.{to_typed}
use Rattle.passing_laws.specs.Passed.{Moved, ArePassed}
use Rattle.passing_laws.specs.Passing.{AllPass, each_given, pass_asks, tuples_of, items_of}
use Rattle.passing_laws.specs.Standing.{Stood}
use Rattle.passing_laws.proofs.Operands.{operands_are_passed, fine_moved}
use Rattle.call_conversion_laws.specs.Called.{Passed}
use Rattle.call_conversion_laws.specs.Defaults.{AllDefault, HasDefaults, defaults_of, stood_in}
use Rattle.call_conversion_laws.proofs.Standing.{Constants, constants_stand, all_parameters}

-- ---- operands

-- what goes to a parameter may be there
coming : (a : Operand) → never_comes (kind_of a) ≡ false → kind_seen a.element ≡ kind.Never → ⊥
coming a comes h = (let q : true ≡ false = sym (ap never_comes h) ∙ comes in absurd (cc))

abbrev pub AllTo : Around → List Element → Type 0
AllTo around [] = Unit {0}
AllTo around (e ∷ es) = (type_of_element around.layout e ≡ type.Void → ⊥) × AllTo around es

first_comes : (a : Operand) (args : List Operand) → is_never (a ∷ args) ≡ false → never_comes (kind_of a) ≡ false
first_comes a args h = by (never_comes (kind_of a)) refl
  where
    by : (b : Bool) → never_comes (kind_of a) ≡ b → never_comes (kind_of a) ≡ false
    by true e = absurd (let q : true ≡ false = sym (ap (λ c. if c then true else is_never args) e) ∙ h in cc)
    by false e = e

others_come : (a : Operand) (args : List Operand) → is_never (a ∷ args) ≡ false → is_never args ≡ false
others_come a args h = sym (ap (λ c. if c then true else is_never args) (first_comes a args h)) ∙ h

-- so each parameter that takes one has a type
pub all_to : (around : Around) (known : Known) (args : List Operand) (es : List Element) → is_never args ≡ false → AllPass around.layout known args es → AllTo around es
all_to around known [] [] comes pass = tt
all_to around known [] (e ∷ es) comes pass = absurd pass
all_to around known (a ∷ args) [] comes pass = absurd pass
all_to around known (a ∷ args) (e ∷ es) comes pass = (to_typed pass.0 (coming a (first_comes a args comes)), all_to around known args es (others_come a args comes) pass.1)

one_argument : (around : Around) (function : Option Function) (i : ℕ) (a : Operand) (t : LlType) (w : Writing) → (t ≡ type.Void → ⊥) → argument_if around function i (Some a) t w ≡ ((given around a t w).0 ∷ [], (given around a t w).1)
unfolding argument_if
one_argument around function i a type.Void w there = absurd (there refl)
one_argument around function i a t w there = refl

-- the operand at a place is written like this one
abbrev pub IsLike : Around → Option Function → List Operand → ℕ → List Operand → Type 0
IsLike around function all i args = (k : ℕ) (t : LlType) (w : Writing) → argument_if around function (i + k) (slice_get all (i + k)) t w ≡ argument_if around function (i + k) (slice_get args k) t w

pub given_arguments : (around : Around) (function : Option Function) (all : List Operand) (missing : List Element) (i : ℕ) (es : List Element) (args : List Operand) (before : List COperand) (w : Writing) → length args ≡ length es → IsLike around function all i args → AllTo around es
    → arguments_from around function all i (es ++ missing) (before, w) ≡ arguments_from around function all (i + length args) missing (before ++ (each_given around args es w).0, (each_given around args es w).1)
given_arguments around function all missing i [] [] before w long like to = ap (λ l. arguments_from around function all i missing (l, w)) (sym (append-nil before)) ∙ ap (λ k. arguments_from around function all k missing (before ++ [], w)) (let z : i ≡ i + 0 = omega arith in z)
given_arguments around function all missing i [] (a ∷ args) before w long like to = absurd (let z : suc (length args) ≡ 0 = long in omega (arith, z))
given_arguments around function all missing i (e ∷ es) [] before w long like to = absurd (let z : 0 ≡ suc (length es) = long in omega (arith, z))
given_arguments around function all missing i (e ∷ es) (a ∷ args) before w long like to =
    let t : LlType = type_of_element around.layout e in
    let y : COperand = (given around a t w).0 in
    let next : Writing = (given around a t w).1 in
    let first : argument_if around function i (slice_get all i) t w ≡ argument_if around function i (Some a) t w =
    ap (λ k. argument_if around function k (slice_get all k) t w) (let z : i ≡ i + 0 = omega arith in z) ∙ like 0 t w ∙ ap (λ k. argument_if around function k (Some a) t w) (let z : i + 0 ≡ i = omega arith in z) in
    ap (λ (m : List COperand × Writing). arguments_from around function all (i + 1) (es ++ missing) (before ++ m.0, m.1)) (first ∙ one_argument around function i a t w to.0)
    ∙ given_arguments around function all missing (i + 1) es args (before ++ y ∷ []) next (let z : suc (length args) ≡ suc (length es) = long in omega (arith, z))
    (λ k t w. let z : i + 1 + k ≡ i + suc k = omega arith in ap (λ n. argument_if around function n (slice_get all n) t w) z ∙ like (suc k) t w ∙ ap (λ n. argument_if around function n (slice_get args k) t w) (sym z)) to.1
    ∙ ap (λ k. arguments_from around function all k missing ((before ++ y ∷ []) ++ (each_given around args es next).0, (each_given around args es next).1)) (let z : i + 1 + length args ≡ i + suc (length args) = omega arith in z)
    ∙ ap (λ l. arguments_from around function all (i + suc (length args)) missing (l, (each_given around args es next).1)) (append_assoc before (y ∷ []) (each_given around args es next).0)

-- ---- all parameters

pub pass_long : (layout : Layout) (known : Known) (args : List Operand) (es : List Element) → AllPass layout known args es → length args ≡ length es
pass_long layout known [] [] pass = refl
pass_long layout known [] (e ∷ es) pass = absurd pass
pass_long layout known (a ∷ args) [] pass = absurd pass
pass_long layout known (a ∷ args) (e ∷ es) pass = ap suc (pass_long layout known args es pass.1)

pub given_long : (known : Known) (around : Around) (g : Ghost) (core : Core) (args : List Operand) (vs : List Meant) → Given known around g core args vs → length args ≡ length vs
given_long known around g core [] [] h = refl
given_long known around g core [] (v ∷ vs) h = absurd h
given_long known around g core (a ∷ args) [] h = absurd h
given_long known around g core (a ∷ args) (v ∷ vs) h = ap suc (given_long known around g core args vs h.1)

pub none_there : {A : Type 0} (xs : List A) (k : ℕ) → slice_get xs (length xs + k) ≡ None
none_there [] k = refl
none_there (x ∷ xs) k = ap (slice_get (x ∷ xs)) (let z : suc (length xs) + k ≡ suc (length xs + k) = omega arith in z) ∙ none_there xs k

pub hold_both : {layout : Layout} {known : Known} {g : Ghost} {es fs : List Element} {xs ys : List Value} {vs us : List Meant} → AllHold layout known g es xs vs → AllHold layout known g fs ys us → AllHold layout known g (es ++ fs) (xs ++ ys) (vs ++ us)
hold_both End b = b
hold_both (Next held a) b = Next held (hold_both a b)

pub operands_both : (vars : List Value) (xs ys : List COperand) → operands vars (xs ++ ys) ≡ operands vars xs ++ operands vars ys
operands_both vars [] ys = refl
operands_both vars (x ∷ xs) ys = ap (λ l. operand vars x ∷ l) (operands_both vars xs ys)

pub all_set : {layout : Layout} {known : Known} {g : Ghost} {heap : Heap} {left : ℕ} {blocks : List (Option Block)} {statics : List Block} {es : List Element} {xs : List Value} {vs : List Meant} → Represents layout known g heap left blocks statics → AllHold layout known g es xs vs → any_unset xs ≡ false
all_set r End = refl
all_set r (Next {xs = xs} held all) = ap (λ c. c || any_unset xs) (held_set r held) ∙ all_set r all

-- What is written for the arguments of a function, all of which are known to hold the values of its parameters behind it.
pub record Arguments (known : Known) (around : Around) (f : ℕ) (args : List Operand) (here missing : List Element) (w : Writing) (result : List COperand × Writing) : Type 0 where
  pub xs : List COperand
  pub ops : List LlOp
  pub new : List LlType
  pub is : result ≡ (xs, writing (stood_in around (slice_get around.functions f) (length args) missing (all_asked (pass_asks around.layout args here) w.found)) (record { types = w.body.types ++ new; ops = w.body.ops ++ ops }))
  pub follows : (p : LlProgram) (numbers : Numbers) (raised : ℕ → Value) (last : Found) → HasLayout p around.layout → Stood around.layout known (Has p around.layout numbers raised) (pass_asks around.layout args here) w.found
      → Begins (stood_in around (slice_get around.functions f) (length args) missing (all_asked (pass_asks around.layout args here) w.found)).statics last.statics → AreKept p around.layout known last
      → (arguments : List (List ℕ)) (rest : List LlOp) (e : LlExit) (frames : List Frame) (core : Core) (g : Ghost) (heap : Heap) (left : ℕ) (vs : List Meant) → Represents around.layout known g heap left core.blocks core.statics → left ≡ core.steps
      → length w.body.types + length new ≤ length core.vars → AllBelow (length w.body.types) args → Given known around g core args vs
      → Moved around.layout known p arguments (At (ops ++ rest) e frames core) rest e frames core g heap left (length w.body.types) (items_of here) (tuples_of here)
      (λ ghost end. (any_unset (operands end.vars xs) ≡ false) × ((function : MeantFunction) → slice_get known.program.functions f ≡ Some function → Passed known around function (here ++ missing) vs ghost (operands end.vars xs)))

module _ (known : Known) (around : Around) (f : ℕ) (all args : List Operand) (here missing : List Element) (w : Writing) (apart : is_tuple around.layout 0 ≡ false) (comes : is_never args ≡ false) (pass : AllPass around.layout known args here)
    (default : AllDefault around known (slice_get around.functions f) (length args) missing) (defaults : HasDefaults known f (slice_get around.functions f) (here ++ missing))
    (same_long : length all ≡ length args) (like : IsLike around (slice_get around.functions f) all 0 args) where
  abbrev function : Option Function
  function = slice_get around.functions f

  it : ArePassed known around args here w
  it = operands_are_passed known around args here w apart pass

  abbrev next : Writing
  next = writing (all_asked (pass_asks around.layout args here) w.found) (record { types = w.body.types ++ it.new; ops = w.body.ops ++ it.ops })

  no_more : (k : ℕ) → slice_get all (length args + k) ≡ None
  no_more k = ap (λ n. slice_get all (n + k)) (sym same_long) ∙ none_there all k

  cs : Constants around known function all (length args) missing it.xs next
  cs = constants_stand around known function all (length args) missing it.xs next no_more default

  written : arguments_from around function all 0 (here ++ missing) ([], w) ≡ (it.xs ++ cs.xs, writing (stood_in around function (length args) missing next.found) next.body)
  written =
      given_arguments around function all missing 0 here args [] w (pass_long around.layout known args here pass) like (all_to around known args here comes pass)
      ∙ ap (λ k. arguments_from around function all k missing ((each_given around args here w).0, (each_given around args here w).1)) (let z : 0 + length args ≡ length args = omega arith in z)
      ∙ ap (λ (m : List COperand × Writing). arguments_from around function all (length args) missing (m.0, m.1)) it.is
      ∙ cs.is

  means : (vs : List Meant) → length args ≡ length vs → (function : MeantFunction) → slice_get known.program.functions f ≡ Some function → parameters function.defaults vs ≡ Some (vs ++ cs.us)
  means vs long meant is =
      ap (λ ds. parameters ds vs) (defaults.same meant is)
      ∙ all_parameters (map (option_map (meant_of known.program.sites)) (defaults_of function)) vs cs.us (map_long (option_map (meant_of known.program.sites)) (defaults_of function) ∙ defaults.long ∙ length-append here missing ∙ (let a = pass_long around.layout known args here pass in let b = cs.long in omega (arith, a, b, long))) (λ k u h. ap (λ n. slice_get (map (option_map (meant_of known.program.sites)) (defaults_of function)) (n + k)) (sym long) ∙ cs.are k u h)
    where
      map_long : {A B : Type 0} (h : A → B) (xs : List A) → length (map h xs) ≡ length xs
      map_long h [] = refl
      map_long h (x ∷ xs) = ap suc (map_long h xs)

  pub arguments_pass : Arguments known around f args here missing w (arguments_from around function all 0 (here ++ missing) ([], w))
  arguments_pass = record {
    xs = it.xs ++ cs.xs;
    ops = it.ops;
    new = it.new;
    is = written;
    follows = λ p numbers raised last structs stood begins kept arguments rest e frames core g heap left vs stands steps room below given.
        let m = it.follows p numbers raised arguments rest e frames core g heap left vs structs stood stands steps room below given in
        let hold : AllHold around.layout known m.ghost (here ++ missing) (operands m.end.vars (it.xs ++ cs.xs)) (vs ++ cs.us) =
        subst (λ ys. AllHold around.layout known m.ghost (here ++ missing) ys (vs ++ cs.us)) (sym (operands_both m.end.vars it.xs cs.xs)) (hold_both m.fine (cs.holds p last m.ghost heap left m.end.blocks m.end.statics m.end.vars structs begins kept m.stands)) in
        fine_moved m (all_set m.stands hold, λ meant is. record { all = vs ++ cs.us; are = means vs (given_long known around g core args vs given) meant is; hold = hold });
  }

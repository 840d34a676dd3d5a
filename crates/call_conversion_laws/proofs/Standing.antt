-- Constants stand in for missing arguments.
use Rattle.std.proofs.Common.{◌≡◌, ℕ, zero, suc, ◌+◌, List, [], ◌∷◌, ◌++◌, length, map, Option, Some, None, refl, sym, ap, ◌∙◌, subst, arith, append_assoc}
use Rattle.std.specs.Prelude.{slice_get, option_map}
use Rattle.std.proofs.lemmas.List.{append-nil}
use Rattle.ann_element.specs.declared.element.Element.{Element}
use Rattle.csub_tree.specs.State.{Value, Block}
use Rattle.csub_tree.specs.Statement.{operands}
use Rattle.csub_tree.specs.declared.tree.CConst.{CConst}
use Rattle.csub_tree.specs.declared.tree.COperand.{COperand}
use Rattle.csub_tree.specs.declared.tree.COperand.TheVariants.{Const as held}
use Rattle.ll_code.specs.declared.program.LlType.{LlType}
use Rattle.ll_code.specs.declared.program.LlType.TheVariants as type
use Rattle.ll_code.specs.declared.program.LlProgram.{LlProgram}
use Rattle.rpy_resolved.specs.declared.tree.Function.{Function}
use Rattle.rpy_tree.specs.Value.{Value as Meant, Heap}
use Rattle.rpy_tree.specs.declared.program.Const.{Const}
use Rattle.rpy_meaning.specs.Evaluation.{parameters, with_value}
use Rattle.rpy_meaning.specs.Operations.{constant as meant_of}
use Rattle.rtyper_layout.specs.Types.{type_of}
use Rattle.rtyper_op.specs.Calls.{argument_if, arguments_from, constant_for, held_constant, stand_in}
use Rattle.rtyper_op.specs.Constants.{constant_of}
use Rattle.rtyper_data.specs.declared.found.Found.{Found}
use Rattle.rtyper_data.specs.Seen.{Around, Operand, Writing, writing}
use Rattle.object_laws.specs.Done.{HasLayout}
use Rattle.object_laws.specs.Ghost.{Ghost}
use Rattle.object_laws.specs.Known.{Known}
use Rattle.object_laws.specs.Represents.{Represents}
use Rattle.object_laws.specs.Values.{AllHold, End, Next}
use Rattle.conversion_laws.specs.Constants.{AreKept}
use Rattle.conversion_laws.proofs.Cells.{Begins, begins_same, begins_then}
use Rattle.conversion_laws.proofs.Constants.{Made, constant_made, value_typed}
use Rattle.call_conversion_laws.specs.Defaults.{AllDefault, IsDefault, defaults_of, stood_in}

-- ---- what is written for one

stands_in : (around : Around) (function : Option Function) (i : ℕ) (t : LlType) (found : Found) (c : Const) → slice_get (defaults_of function) i ≡ Some (Some c) → stand_in around function i t found ≡ held_constant (constant_of around c t found)
unfolding stand_in
stands_in around None i t found c h = absurd (cc)
stands_in around (Some function) i t found c h = ap (λ o. constant_for around o t found) h

missing_argument : (around : Around) (function : Option Function) (i : ℕ) (t : LlType) (w : Writing) (made : COperand × Found) → (t ≡ type.Void → ⊥) → stand_in around function i t w.found ≡ made → argument_if around function i None t w ≡ (made.0 ∷ [], writing made.1 w.body)
unfolding argument_if
missing_argument around function i type.Void w made there h = absurd (there refl)
missing_argument around function i t w made there h = ap (λ (m : COperand × Found). (m.0 ∷ [], writing m.1 w.body)) h

-- ---- all of them

-- the operands are constants, and give the values of the defaults where the statics that were asked for stay
pub record Constants (around : Around) (known : Known) (function : Option Function) (all : List Operand) (i : ℕ) (es : List Element) (before : List COperand) (w : Writing) : Type 0 where
  pub xs : List COperand
  pub is : arguments_from around function all i es (before, w) ≡ (before ++ xs, writing (stood_in around function i es w.found) w.body)
  pub begins : Begins w.found.statics (stood_in around function i es w.found).statics
  pub us : List Meant
  pub long : length us ≡ length es
  pub are : (k : ℕ) (u : Meant) → slice_get us k ≡ Some u → slice_get (map (option_map (meant_of known.program.sites)) (defaults_of function)) (i + k) ≡ Some (Some u)
  pub holds : (p : LlProgram) (last : Found) (g : Ghost) (heap : Heap) (left : ℕ) (blocks : List (Option Block)) (statics : List Block) (vars : List Value) → HasLayout p around.layout → Begins (stood_in around function i es w.found).statics last.statics → AreKept p around.layout known last
      → Represents around.layout known g heap left blocks statics → AllHold around.layout known g es (operands vars xs) us

get_map : {A B : Type 0} (f : A → B) (xs : List A) (i : ℕ) (x : A) → slice_get xs i ≡ Some x → slice_get (map f xs) i ≡ Some (f x)
get_map f [] i x h = absurd (cc)
get_map f (y ∷ xs) zero x h = (let q : y ≡ x = cc in ap (λ y. Some (f y)) q)
get_map f (y ∷ xs) (suc i) x h = get_map f xs i x h

pub constants_stand : (around : Around) (known : Known) (function : Option Function) (all : List Operand) (i : ℕ) (es : List Element) (before : List COperand) (w : Writing) → ((k : ℕ) → slice_get all (i + k) ≡ None) → AllDefault around known function i es → Constants around known function all i es before w
constants_stand around known function all i [] before w none defaults = record {
  xs = [];
  is = ap (λ xs. (xs, w)) (sym (append-nil before));
  begins = begins_same w.found.statics;
  us = [];
  long = refl;
  are = λ k u h. absurd (cc);
  holds = λ p last g heap left blocks statics vars has begins kept r. End;
}
constants_stand around known function all i (e ∷ es) before w none defaults =
    let one : IsDefault around known function i e = defaults.0 in
    let t : LlType = type_of around.layout e in
    let made : CConst × Found = constant_of around one.constant t w.found in
    let is : stand_in around function i t w.found ≡ held_constant made = stands_in around function i t w.found one.constant one.has in
    let it = constants_stand around known function all (i + 1) es (before ++ held made.0 ∷ []) (writing made.1 w.body) (λ k. ap (slice_get all) (let z : i + 1 + k ≡ i + suc k = omega arith in z) ∙ none (suc k)) defaults.1 in
    let next_is : stood_in around function (i + 1) es (stand_in around function i t w.found).1 ≡ stood_in around function (i + 1) es made.1 = ap (λ (m : COperand × Found). stood_in around function (i + 1) es m.1) is in
    let c : Made around.layout known (Some e) made w.found (meant_of known.program.sites one.constant) = constant_made around known known.program.sites w.found one.is in
    record {
      xs = held made.0 ∷ it.xs;
      is = ap (λ o. arguments_from around function all (i + 1) es (before ++ (argument_if around function i o t w).0, (argument_if around function i o t w).1)) (ap (slice_get all) (let z : i ≡ i + 0 = omega arith in z) ∙ none 0)
          ∙ ap (λ (m : List COperand × Writing). arguments_from around function all (i + 1) es (before ++ m.0, m.1)) (missing_argument around function i t w (held_constant made) (λ h. value_typed around known known.program.sites one.is h) is)
          ∙ it.is
          ∙ ap (λ xs. (xs, writing (stood_in around function (i + 1) es made.1) w.body)) (append_assoc before (held made.0 ∷ []) it.xs)
          ∙ ap (λ f. (before ++ held made.0 ∷ it.xs, writing f w.body)) (sym next_is);
      begins = subst (λ (f : Found). Begins w.found.statics f.statics) (sym next_is) (begins_then c.begins it.begins);
      us = meant_of known.program.sites one.constant ∷ it.us;
      long = ap suc it.long;
      are = are_all i one.constant it.us (λ k u h. ap (slice_get (map (option_map (meant_of known.program.sites)) (defaults_of function))) (let z : i + suc k ≡ i + 1 + k = omega arith in z) ∙ it.are k u h)
          (get_map (option_map (meant_of known.program.sites)) (defaults_of function) i (Some one.constant) one.has);
      holds = λ p last g heap left blocks statics vars has begins kept r.
          let after : Begins (stood_in around function (i + 1) es made.1).statics last.statics = subst (λ (f : Found). Begins f.statics last.statics) next_is begins in
          Next (c.holds p last g heap left blocks statics has (begins_then it.begins after) kept r) (it.holds p last g heap left blocks statics vars has after kept r);
    }
  where
    are_all : (i : ℕ) (c : Const) (us : List Meant) → ((k : ℕ) (u : Meant) → slice_get us k ≡ Some u → slice_get (map (option_map (meant_of known.program.sites)) (defaults_of function)) (i + suc k) ≡ Some (Some u))
        → slice_get (map (option_map (meant_of known.program.sites)) (defaults_of function)) i ≡ Some (Some (meant_of known.program.sites c))
        → (k : ℕ) (u : Meant) → slice_get (meant_of known.program.sites c ∷ us) k ≡ Some u → slice_get (map (option_map (meant_of known.program.sites)) (defaults_of function)) (i + k) ≡ Some (Some u)
    are_all i c us later first zero u h =
        let q : meant_of known.program.sites c ≡ u = cc in
        ap (slice_get (map (option_map (meant_of known.program.sites)) (defaults_of function))) (let z : i + 0 ≡ i = omega arith in z) ∙ first ∙ ap (λ v. Some (Some v)) q
    are_all i c us later first (suc k) u h = later k u h

-- ---- what they mean

-- each argument, and then each default
pub all_parameters : (ds : List (Option Meant)) (vs us : List Meant) → length ds ≡ length vs + length us → ((k : ℕ) (u : Meant) → slice_get us k ≡ Some u → slice_get ds (length vs + k) ≡ Some (Some u)) → parameters ds vs ≡ Some (vs ++ us)
all_parameters [] [] [] long are = refl
all_parameters [] [] (u ∷ us) long are = absurd (let z : 0 ≡ 0 + suc (length us) = long in omega (arith, z))
all_parameters [] (v ∷ vs) us long are = absurd (let z : 0 ≡ suc (length vs) + length us = long in omega (arith, z))
all_parameters (d ∷ ds) [] [] long are = absurd (let z : suc (length ds) ≡ 0 + 0 = long in omega (arith, z))
all_parameters (None ∷ ds) [] (u ∷ us) long are = absurd (let q : Some None ≡ Some (Some u) = are 0 u refl in cc)
all_parameters (Some d ∷ ds) [] (u ∷ us) long are =
    let q : Some (Some d) ≡ Some (Some u) = are 0 u refl in
    let r : d ≡ u = cc in
    ap (with_value d) (all_parameters ds [] us (let z : suc (length ds) ≡ 0 + suc (length us) = long in omega (arith, z)) (λ k v h. ap (slice_get (Some d ∷ ds)) (let z : suc (0 + k) ≡ 0 + suc k = omega arith in z) ∙ are (suc k) v h)) ∙ ap (λ d. Some (d ∷ us)) r
all_parameters (None ∷ ds) (v ∷ vs) us long are =
    ap (with_value v) (all_parameters ds vs us (let z : suc (length ds) ≡ suc (length vs) + length us = long in omega (arith, z)) (λ k u h. ap (slice_get (None ∷ ds)) (let z : suc (length vs + k) ≡ suc (length vs) + k = omega arith in z) ∙ are k u h))
all_parameters (Some d ∷ ds) (v ∷ vs) us long are =
    ap (with_value v) (all_parameters ds vs us (let z : suc (length ds) ≡ suc (length vs) + length us = long in omega (arith, z)) (λ k u h. ap (slice_get (Some d ∷ ds)) (let z : suc (length vs + k) ≡ suc (length vs) + k = omega arith in z) ∙ are k u h))

-- Arguments are passed as they are.
use Rattle.std.proofs.Common.{◌≡◌, ℕ, suc, ◌+◌, ◌||◌, true, false, List, [], ◌∷◌, ◌++◌, map, Option, Some, refl, sym, ap, ◌∙◌, arith, append_assoc}
use Rattle.std.specs.Prelude.{slice_get, if◌then◌else◌}
use Rattle.std.proofs.lemmas.List.{append-nil}
use Rattle.ann_element.specs.declared.element.Element.{Element}
use Rattle.csub_tree.specs.State.{Value, Block, Core}
use Rattle.csub_tree.specs.Statement.{operands, any_unset}
use Rattle.csub_tree.specs.declared.tree.COperand.{COperand}
use Rattle.ll_code.specs.declared.program.LlType.{LlType}
use Rattle.ll_code.specs.declared.program.LlType.TheVariants as type
use Rattle.rpy_tree.specs.Value.{Value as Meant, Heap}
use Rattle.rpy_resolved.specs.declared.tree.Function.{Function}
use Rattle.rtyper_layout.specs.declared.layout.Layout.{Layout}
use Rattle.rtyper_layout.specs.Types.{type_of as type_of_element}
use Rattle.rtyper_op.specs.Calls.{argument_if, arguments_from, arguments_for, arguments}
use Rattle.rtyper_op.specs.Lowering.{is_never}
use Rattle.rtyper_data.specs.Seen.{Around, Operand, type_of, Writing}
use Rattle.lower_laws.proofs.Tupled.{given_same}
use Rattle.object_laws.specs.Ghost.{Ghost}
use Rattle.object_laws.specs.Known.{Known}
use Rattle.object_laws.specs.Represents.{Represents}
use Rattle.object_laws.specs.Values.{Given, AllHold, End, Next}
use Rattle.object_laws.proofs.Valued.{stays_typed, stays_there, stays_comes, stays_held, held_set}
use Rattle.call_laws.specs.Calls.{AllStay}
use Rattle.call_laws.specs.Indirect.{AllTyped}

abbrev pub xs_of : List Operand → List COperand
xs_of args = map (λ (a : Operand). a.x) args

abbrev pub values_of : Core → List Operand → List Value
values_of core args = operands core.vars (xs_of args)

-- ---- what is written

pub all_come : (layout : Layout) (known : Known) (args : List Operand) (params : List Element) → AllStay layout known args params → is_never args ≡ false
all_come layout known [] params stay = refl
all_come layout known (a ∷ args) [] stay = absurd stay
all_come layout known (a ∷ args) (p ∷ params) stay = ap (λ c. if c then true else is_never args) (stays_comes stay.0) ∙ all_come layout known args params stay.1

one_argument : (around : Around) (f : Option Function) (i : ℕ) (a : Operand) (t : LlType) (w : Writing) → (t ≡ type.Void → ⊥) → type_of around a ≡ t → argument_if around f i (Some a) t w ≡ (a.x ∷ [], w)
unfolding argument_if
one_argument around f i a type.Void w there typed = absurd (there refl)
one_argument around f i a t w there typed = ap (λ (made : COperand × Writing). (made.0 ∷ [], made.1)) (given_same around a t w typed)

pub all_typed : (around : Around) (known : Known) (args : List Operand) (params : List Element) → AllStay around.layout known args params → AllTyped around args params
all_typed around known [] [] stay = tt
all_typed around known [] (p ∷ params) stay = absurd stay
all_typed around known (a ∷ args) [] stay = absurd stay
all_typed around known (a ∷ args) (p ∷ params) stay = (stays_typed stay.0, stays_there stay.0, all_typed around known args params stay.1)

module _ (around : Around) (f : Option Function) (all : List Operand) where
  arguments_are : (i : ℕ) (params : List Element) (args : List Operand) (before : List COperand) (w : Writing) → ((k : ℕ) → slice_get all (i + k) ≡ slice_get args k) → AllTyped around args params → arguments_from around f all i params (before, w) ≡ (before ++ xs_of args, w)
  arguments_are i [] [] before w at typed = ap (λ l. (l, w)) (sym (append-nil before))
  arguments_are i [] (a ∷ args) before w at typed = absurd typed
  arguments_are i (p ∷ params) [] before w at typed = absurd typed
  arguments_are i (p ∷ params) (a ∷ args) before w at typed =
      let here : slice_get all i ≡ Some a = ap (slice_get all) (let z : i ≡ i + 0 = omega arith in z) ∙ at 0 in
      ap (λ o. arguments_from around f all (i + 1) params (before ++ (argument_if around f i o (type_of_element around.layout p) w).0, (argument_if around f i o (type_of_element around.layout p) w).1)) here
      ∙ ap (λ (made : List COperand × Writing). arguments_from around f all (i + 1) params (before ++ made.0, made.1)) (one_argument around f i a (type_of_element around.layout p) w typed.1 typed.0)
      ∙ arguments_are (i + 1) params args (before ++ a.x ∷ []) w (λ k. ap (slice_get all) (let z : i + 1 + k ≡ i + suc k = omega arith in z) ∙ at (suc k)) typed.2
      ∙ ap (λ l. (l, w)) (append_assoc before (a.x ∷ []) (xs_of args))

pub passed_as_they_are : (around : Around) (f : ℕ) (params : List Element) (args : List Operand) (w : Writing) → slice_get around.params f ≡ Some params → AllTyped around args params → arguments around f args w ≡ (xs_of args, w)
unfolding arguments
passed_as_they_are around f params args w takes typed =
    ap (λ o. arguments_for around o f args w) takes ∙ arguments_are around (slice_get around.functions f) args 0 params args [] w (λ k. ap (slice_get args) (let z : 0 + k ≡ k = omega arith in z)) typed

-- ---- what is passed

module _ (around : Around) (known : Known) (g : Ghost) (core : Core) where
  pub all_passed : (args : List Operand) (params : List Element) (vs : List Meant) → AllStay around.layout known args params → Given known around g core args vs → AllHold around.layout known g params (values_of core args) vs
  all_passed [] [] [] stay given = End
  all_passed [] [] (v ∷ vs) stay given = absurd given
  all_passed [] (p ∷ params) vs stay given = absurd stay
  all_passed (a ∷ args) [] vs stay given = absurd stay
  all_passed (a ∷ args) (p ∷ params) [] stay given = absurd given
  all_passed (a ∷ args) (p ∷ params) (v ∷ vs) stay given = Next (stays_held stay.0 given.0) (all_passed args params vs stay.1 given.1)

  pub all_set : {heap : Heap} {left : ℕ} {blocks : List (Option Block)} {statics : List Block} → Represents around.layout known g heap left blocks statics → (args : List Operand) (vs : List Meant) → Given known around g core args vs → any_unset (values_of core args) ≡ false
  all_set r [] [] given = refl
  all_set r [] (v ∷ vs) given = absurd given
  all_set r (a ∷ args) [] given = absurd given
  all_set r (a ∷ args) (v ∷ vs) given = ap (λ c. c || any_unset (values_of core args)) (held_set r given.0) ∙ all_set r args vs given.1

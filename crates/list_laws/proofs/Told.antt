-- What is written for operations on lists that are lowered as those on any value are, and a truth value that is given.
use Rattle.std.proofs.Common.{◌≡◌, ◌<◌, ℕ, Bool, true, false, List, [], ◌∷◌, length, refl, sym, ap, ◌∙◌, subst}
use Rattle.std.specs.Prelude.{if◌then◌else◌}
use Rattle.csub_tree.specs.State.{Value, Flag, Core}
use Rattle.rpy_tree.specs.Value.{Flag as MeantFlag}
use Rattle.rpy_meaning.specs.declared.row.RowOp.{RowOp}
use Rattle.rpy_meaning.specs.World.{World, Gives}
use Rattle.ll_code.specs.State.{Frame, State, At}
use Rattle.ll_code.specs.declared.program.LlOp.{LlOp}
use Rattle.ll_code.specs.declared.program.LlExit.{LlExit}
use Rattle.ll_code.specs.declared.program.LlProgram.{LlProgram}
use Rattle.ll_leads.specs.Path.{Leads}
use Rattle.rtyper_layout.specs.declared.kind.Kind.TheVariants as kind
use Rattle.rtyper_layout.specs.Kinds.{kind_seen}
use Rattle.rtyper_op.specs.Lowering.{lower_op}
use Rattle.rtyper_data.specs.Seen.{Around, Operand, Place, Writing}
use Rattle.rtyper_list.specs.Lowering.{fails, lowered, lowered_unless, lower_list_op, of_one, of_two, first_of_one, first_of_two, second_of_two}
use Rattle.rtyper_list.specs.Operands.{is_list}
use Rattle.lower_laws.specs.Values.{is_plain}
use Rattle.lower_laws.proofs.Coming.{Comes}
use Rattle.lower_laws.proofs.Doing.{after}
use Rattle.lower_laws.proofs.Typing.{place_of_flags}
use Rattle.list_laws.proofs.Lowered.{one_comes, two_come}
use Rattle.object_laws.specs.Done.{Follows}
use Rattle.object_laws.specs.Ghost.{Ghost}
use Rattle.object_laws.specs.Known.{Known}
use Rattle.object_laws.specs.Represents.{Represents}
use Rattle.object_laws.specs.Values.{Plain, Stands, flag}
use Rattle.object_laws.proofs.Passing.{Passed, sets_last}

-- ---- what is written

module _ (around : Around) (o : RowOp) (place : Place) where
  pub one_plain : (a : Operand) (w : Writing) → Comes a → fails o (a ∷ []) ≡ false → lowered around o place (a ∷ []) w ≡ of_one around o place a w → first_of_one around o place a w ≡ lower_op around o place (a ∷ []) w
      → lower_list_op around o place (a ∷ []) w ≡ lower_op around o place (a ∷ []) w
  unfolding of_one
  one_plain a w comes fine list first = one_comes around o place a w comes ∙ ap (λ c. lowered_unless c around o place (a ∷ []) w) fine ∙ list ∙ by (is_list a)
    where
      by : (c : Bool) → (if c then first_of_one around o place a w else lower_op around o place (a ∷ []) w) ≡ lower_op around o place (a ∷ []) w
      by true = first
      by false = refl

  pub two_plain : (a b : Operand) (w : Writing) → Comes a → Comes b → fails o (a ∷ b ∷ []) ≡ false → lowered around o place (a ∷ b ∷ []) w ≡ of_two around o place a b w
      → first_of_two around o place a b w ≡ lower_op around o place (a ∷ b ∷ []) w → second_of_two around o place a b w ≡ lower_op around o place (a ∷ b ∷ []) w
      → lower_list_op around o place (a ∷ b ∷ []) w ≡ lower_op around o place (a ∷ b ∷ []) w
  unfolding of_two
  two_plain a b w comes comes2 fine list first second = two_come around o place a b w comes comes2 ∙ ap (λ c. lowered_unless c around o place (a ∷ b ∷ []) w) fine ∙ list ∙ by (is_list a)
    where
      by : (c : Bool) → (if c then first_of_two around o place a b w else second_of_two around o place a b w) ≡ lower_op around o place (a ∷ b ∷ []) w
      by true = first
      by false = second

-- ---- a truth value is given

module _ (around : Around) {known : Known} {place : Place} {p : LlProgram} {args : List (List ℕ)} {rest : List LlOp} {e : LlExit} {frames : List Frame} {core : Core} {g : Ghost} (raised : ℕ → Value) {s : State} {world : World} (flags : kind_seen place.element ≡ kind.Flag) where
  pub gives_flags : (most below : ℕ) (mid : Core) (t : Bool) → Represents around.layout known g world.heap world.left core.blocks core.statics → world.left ≡ core.steps → Passed below core mid → place.variable < length core.vars
      → Leads p args 0 s [] (At rest e frames (after mid place.variable (Flag t))) → Follows 0 known around place p args s rest e frames core g raised most below world (Gives (MeantFlag t) world)
  gives_flags most below mid t stands left passed inside way =
      sets_last most below mid (Flag t) (MeantFlag t) stands left passed inside way (Plain (ap is_plain flags) (subst (λ k. Stands g k (Flag t) (MeantFlag t)) (sym (place_of_flags around.layout place.element flags)) (flag t)))

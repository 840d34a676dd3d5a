-- What is written for operations that are lowered as those on any value are.
use Rattle.std.proofs.Common.{◌≡◌, Bool, true, false, List, [], ◌∷◌, refl, ap, ◌∙◌}
use Rattle.std.specs.Prelude.{if◌then◌else◌}
use Rattle.rpy_meaning.specs.declared.row.RowOp.{RowOp}
use Rattle.rtyper_op.specs.Lowering.{lower_op, is_never}
use Rattle.rtyper_data.specs.Seen.{Operand, Place, Writing}
use Rattle.rtyper_list.specs.Lowering.{fails, lowered as list_lowered, lowered_unless, lower_list_op, of_one as list_of_one, of_two as list_of_two, first_of_one, first_of_two, second_of_two}
use Rattle.rtyper_list.specs.Operands.{is_list}
use Rattle.rtyper_class.specs.Lowering.{lowered, lower_class_op}
use Rattle.rtyper_class.specs.Seen.{World}
use Rattle.lower_laws.proofs.Coming.{Comes}

module _ (world : World) (o : RowOp) (place : Place) where
  abbrev Class : List Operand → Writing → Bool → Writing
  Class args w c = if c then lower_list_op world.around o place args w else lowered world o place args w

  abbrev Lists : List Operand → Writing → Bool → Writing
  Lists args w c = if c then lower_op world.around o place args w else lowered_unless (fails o args) world.around o place args w

  pub class_one : (a : Operand) (w : Writing) → Comes a → lower_class_op world o place (a ∷ []) w ≡ lowered world o place (a ∷ []) w
  class_one a w h = ap (λ c. Class (a ∷ []) w (if c then true else false)) h

  pub class_two : (a b : Operand) (w : Writing) → Comes a → Comes b → lower_class_op world o place (a ∷ b ∷ []) w ≡ lowered world o place (a ∷ b ∷ []) w
  class_two a b w h k = ap (λ c. Class (a ∷ b ∷ []) w (if c then true else is_never (b ∷ []))) h ∙ ap (λ c. Class (a ∷ b ∷ []) w (if c then true else false)) k

  -- as one of a value
  pub one_plain : (a : Operand) (w : Writing) → Comes a → lowered world o place (a ∷ []) w ≡ lower_list_op world.around o place (a ∷ []) w → fails o (a ∷ []) ≡ false
      → list_lowered world.around o place (a ∷ []) w ≡ list_of_one world.around o place a w → first_of_one world.around o place a w ≡ lower_op world.around o place (a ∷ []) w
      → lower_class_op world o place (a ∷ []) w ≡ lower_op world.around o place (a ∷ []) w
  unfolding list_of_one
  one_plain a w comes class fine list first =
      class_one a w comes ∙ class
      ∙ ap (λ c. Lists (a ∷ []) w (if c then true else false)) comes
      ∙ ap (λ c. lowered_unless c world.around o place (a ∷ []) w) fine
      ∙ list
      ∙ by (is_list a)
    where
      by : (c : Bool) → (if c then first_of_one world.around o place a w else lower_op world.around o place (a ∷ []) w) ≡ lower_op world.around o place (a ∷ []) w
      by true = first
      by false = refl

  -- as one of two values
  pub two_plain : (a b : Operand) (w : Writing) → Comes a → Comes b → lowered world o place (a ∷ b ∷ []) w ≡ lower_list_op world.around o place (a ∷ b ∷ []) w → fails o (a ∷ b ∷ []) ≡ false
      → list_lowered world.around o place (a ∷ b ∷ []) w ≡ list_of_two world.around o place a b w → first_of_two world.around o place a b w ≡ lower_op world.around o place (a ∷ b ∷ []) w → second_of_two world.around o place a b w ≡ lower_op world.around o place (a ∷ b ∷ []) w
      → lower_class_op world o place (a ∷ b ∷ []) w ≡ lower_op world.around o place (a ∷ b ∷ []) w
  unfolding list_of_two
  two_plain a b w comes comes2 class fine list first second =
      class_two a b w comes comes2 ∙ class
      ∙ ap (λ c. Lists (a ∷ b ∷ []) w (if c then true else is_never (b ∷ []))) comes
      ∙ ap (λ c. Lists (a ∷ b ∷ []) w (if c then true else false)) comes2
      ∙ ap (λ c. lowered_unless c world.around o place (a ∷ b ∷ []) w) fine
      ∙ list
      ∙ by (is_list a)
    where
      by : (c : Bool) → (if c then first_of_two world.around o place a b w else second_of_two world.around o place a b w) ≡ lower_op world.around o place (a ∷ b ∷ []) w
      by true = first
      by false = second

-- How operations on values are lowered: as those that no list, dict, instance or function is in.
use Rattle.std.proofs.Common.{◌≡◌, not, ◌&&◌, Bool, true, false, List, [], ◌∷◌, refl, ap, ◌∙◌}
use Rattle.std.specs.Prelude.{if◌then◌else◌}
use Rattle.rpy_meaning.specs.declared.row.RowOp.{RowOp}
use Rattle.rtyper_op.specs.Lowering.{lower_op, is_never}
use Rattle.rtyper_data.specs.Seen.{Operand, Place, Writing}
use Rattle.rtyper_list.specs.Lowering.{fails, lowered as list_lowered, lowered_unless, lower_list_op, of_one as list_of_one, of_two as list_of_two, first_of_one, first_of_two, second_of_two}
use Rattle.rtyper_list.specs.Operands.{is_list}
use Rattle.rtyper_dict.specs.Lowering.{is_of_dicts, lower_dict_op}
use Rattle.rtyper_class.specs.Lowering.{lowered as class_lowered, lower_class_op}
use Rattle.rtyper_class.specs.Seen.{World}
use Rattle.rtyper_program.specs.Blocks.{lowered}
use Rattle.lower_laws.proofs.Coming.{Comes}
use Rattle.class_laws.proofs.Lowered.{class_one, class_two}

module _ (world : World) (o : RowOp) (place : Place) where
  -- no dict is in it
  pub no_dict : (args : List Operand) (w : Writing) → is_of_dicts o args ≡ false → lowered world o place args w ≡ lower_class_op world o place args w
  no_dict args w e = ap (λ b. if not (is_never args) && b then lower_dict_op world.around o place args w else lower_class_op world o place args w) e ∙ by (not (is_never args))
    where
      by : (b : Bool) → (if b && false then lower_dict_op world.around o place args w else lower_class_op world o place args w) ≡ lower_class_op world o place args w
      by true = refl
      by false = refl

  abbrev Lists : List Operand → Writing → Bool → Writing
  Lists args w c = if c then lower_op world.around o place args w else lowered_unless (fails o args) world.around o place args w

  -- no list is the first operand
  pub one_unlisted : (a : Operand) (w : Writing) → Comes a → is_list a ≡ false → is_of_dicts o (a ∷ []) ≡ false → class_lowered world o place (a ∷ []) w ≡ lower_list_op world.around o place (a ∷ []) w → fails o (a ∷ []) ≡ false
      → list_lowered world.around o place (a ∷ []) w ≡ list_of_one world.around o place a w → lowered world o place (a ∷ []) w ≡ lower_op world.around o place (a ∷ []) w
  unfolding list_of_one
  one_unlisted a w comes plain dict class fine list =
      no_dict (a ∷ []) w dict ∙ class_one world o place a w comes ∙ class
      ∙ ap (λ c. Lists (a ∷ []) w (if c then true else false)) comes
      ∙ ap (λ c. lowered_unless c world.around o place (a ∷ []) w) fine
      ∙ list
      ∙ ap (λ c. if c then first_of_one world.around o place a w else lower_op world.around o place (a ∷ []) w) plain

  pub two_unlisted : (a b : Operand) (w : Writing) → Comes a → Comes b → is_list a ≡ false → is_of_dicts o (a ∷ b ∷ []) ≡ false → class_lowered world o place (a ∷ b ∷ []) w ≡ lower_list_op world.around o place (a ∷ b ∷ []) w → fails o (a ∷ b ∷ []) ≡ false
      → list_lowered world.around o place (a ∷ b ∷ []) w ≡ list_of_two world.around o place a b w → second_of_two world.around o place a b w ≡ lower_op world.around o place (a ∷ b ∷ []) w → lowered world o place (a ∷ b ∷ []) w ≡ lower_op world.around o place (a ∷ b ∷ []) w
  unfolding list_of_two
  two_unlisted a b w comes comes2 plain dict class fine list second =
      no_dict (a ∷ b ∷ []) w dict ∙ class_two world o place a b w comes comes2 ∙ class
      ∙ ap (λ c. Lists (a ∷ b ∷ []) w (if c then true else is_never (b ∷ []))) comes
      ∙ ap (λ c. Lists (a ∷ b ∷ []) w (if c then true else false)) comes2
      ∙ ap (λ c. lowered_unless c world.around o place (a ∷ b ∷ []) w) fine
      ∙ list
      ∙ ap (λ c. if c then first_of_two world.around o place a b w else second_of_two world.around o place a b w) plain
      ∙ second

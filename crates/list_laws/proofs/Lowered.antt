-- What is written for operations whose first operand is a list.
use Rattle.std.proofs.Common.{◌≡◌, Bool, true, false, List, [], ◌∷◌, refl, ap, ◌∙◌}
use Rattle.std.specs.Prelude.{if◌then◌else◌}
use Rattle.rpy_meaning.specs.declared.row.RowOp.{RowOp}
use Rattle.rtyper_layout.specs.declared.kind.Kind.{Kind}
use Rattle.rtyper_layout.specs.declared.kind.Kind.TheVariants as kind
use Rattle.rtyper_op.specs.Lowering.{lower_op, never_comes, is_never}
use Rattle.rtyper_data.specs.Seen.{Around, Operand, Place, kind_of, Writing}
use Rattle.rtyper_list.specs.Lowering.{fails, lowered_unless, lower_list_op, of_one, of_two, first_of_one, first_of_two, second_of_two}
use Rattle.rtyper_list.specs.Operands.{of_list}
use Rattle.lower_laws.proofs.Coming.{Comes}

pub list_comes : (a : Operand) → of_list (kind_of a) ≡ true → Comes a
list_comes a h = by (kind_of a) h
  where
    by : (k : Kind) → of_list k ≡ true → never_comes k ≡ false
    by kind.List h = refl
    by kind.MaybeList h = refl
    by _ h = absurd (cc)

module _ (around : Around) (o : RowOp) (place : Place) where
  abbrev Lowered : List Operand → Writing → Bool → Writing
  Lowered args w c = if c then lower_op around o place args w else lowered_unless (fails o args) around o place args w

  pub one_comes : (a : Operand) (w : Writing) → Comes a → lower_list_op around o place (a ∷ []) w ≡ lowered_unless (fails o (a ∷ [])) around o place (a ∷ []) w
  one_comes a w ha = ap (λ c. Lowered (a ∷ []) w (if c then true else false)) ha

  pub two_come : (a b : Operand) (w : Writing) → Comes a → Comes b → lower_list_op around o place (a ∷ b ∷ []) w ≡ lowered_unless (fails o (a ∷ b ∷ [])) around o place (a ∷ b ∷ []) w
  two_come a b w ha hb = ap (λ c. Lowered (a ∷ b ∷ []) w (if c then true else is_never (b ∷ []))) ha ∙ ap (λ c. Lowered (a ∷ b ∷ []) w (if c then true else false)) hb

  pub three_come : (a b d : Operand) (w : Writing) → Comes a → Comes b → Comes d → lower_list_op around o place (a ∷ b ∷ d ∷ []) w ≡ lowered_unless (fails o (a ∷ b ∷ d ∷ [])) around o place (a ∷ b ∷ d ∷ []) w
  three_come a b d w ha hb hd =
      ap (λ c. Lowered (a ∷ b ∷ d ∷ []) w (if c then true else is_never (b ∷ d ∷ []))) ha
      ∙ ap (λ c. Lowered (a ∷ b ∷ d ∷ []) w (if c then true else is_never (d ∷ []))) hb
      ∙ ap (λ c. Lowered (a ∷ b ∷ d ∷ []) w (if c then true else false)) hd

  pub first_is_list : (a : Operand) (w : Writing) → of_list (kind_of a) ≡ true → of_one around o place a w ≡ first_of_one around o place a w
  unfolding of_one
  first_is_list a w h = ap (λ c. if c then first_of_one around o place a w else lower_op around o place (a ∷ []) w) h

  pub first_of_two_is_list : (a b : Operand) (w : Writing) → of_list (kind_of a) ≡ true → of_two around o place a b w ≡ first_of_two around o place a b w
  unfolding of_two
  first_of_two_is_list a b w h = ap (λ c. if c then first_of_two around o place a b w else second_of_two around o place a b w) h

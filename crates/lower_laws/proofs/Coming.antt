-- Operands that come, so that their operation is lowered.
use Rattle.std.proofs.Common.{◌≡◌, ◌⊎◌, inl, inr, Bool, true, false, List, [], ◌∷◌, refl, ap, ◌∙◌}
use Rattle.std.specs.Prelude.{if◌then◌else◌}
use Rattle.rpy_meaning.specs.declared.row.RowOp.{RowOp}
use Rattle.rtyper_layout.specs.declared.kind.Kind.{Kind}
use Rattle.rtyper_layout.specs.declared.kind.Kind.TheVariants as kind
use Rattle.rtyper_op.specs.Lowering.{lower_op, lowered, never_comes, is_never}
use Rattle.rtyper_op.specs.Placing.{says_nothing}
use Rattle.rtyper_data.specs.Seen.{Around, Operand, Place, kind_of, Writing}
use Rattle.lower_laws.specs.Follows.{IsWord, IsFlag, IsByte}
use Rattle.lower_laws.specs.Helped.{IsString, IsText}

abbrev pub Comes : Operand → Type 0
Comes a = never_comes (kind_of a) ≡ false

pub word_comes : {around : Around} {a : Operand} → IsWord around a → Comes a
word_comes h = ap never_comes h.kind

pub flag_comes : {around : Around} {a : Operand} → IsFlag around a → Comes a
flag_comes h = ap never_comes h.kind

pub byte_comes : {around : Around} {a : Operand} → IsByte around a → Comes a
byte_comes h = ap never_comes h.kind

pub string_comes : {around : Around} {a : Operand} → IsString around a → Comes a
string_comes h = ap never_comes h.kind

-- what is the same for a string as for what may be `None`
pub of_text_kind : {A : Type 0} {k : Kind} {x : A} (f : Kind → A) → (k ≡ kind.Text) ⊎ (k ≡ kind.MaybeText) → f kind.Text ≡ x → f kind.MaybeText ≡ x → f k ≡ x
of_text_kind f (inl e) p q = ap f e ∙ p
of_text_kind f (inr e) p q = ap f e ∙ q

pub text_comes : {around : Around} {a : Operand} → IsText around a → Comes a
text_comes h = of_text_kind never_comes h.kind refl refl

pub is_a_text : {around : Around} {a : Operand} → IsString around a → IsText around a
is_a_text h = record { kind = inl h.kind; type = h.type }

module _ (around : Around) (o : RowOp) (place : Place) where
  abbrev Lowered : List Operand → Writing → Bool → Writing
  Lowered args w c = if c then says_nothing around place w else lowered around place o args w

  pub one_comes : (a : Operand) (w : Writing) → Comes a → lower_op around o place (a ∷ []) w ≡ lowered around place o (a ∷ []) w
  one_comes a w ha = ap (λ c. Lowered (a ∷ []) w (if c then true else false)) ha

  pub two_come : (a b : Operand) (w : Writing) → Comes a → Comes b → lower_op around o place (a ∷ b ∷ []) w ≡ lowered around place o (a ∷ b ∷ []) w
  two_come a b w ha hb = ap (λ c. Lowered (a ∷ b ∷ []) w (if c then true else is_never (b ∷ []))) ha ∙ ap (λ c. Lowered (a ∷ b ∷ []) w (if c then true else false)) hb

  pub three_come : (a b d : Operand) (w : Writing) → Comes a → Comes b → Comes d → lower_op around o place (a ∷ b ∷ d ∷ []) w ≡ lowered around place o (a ∷ b ∷ d ∷ []) w
  three_come a b d w ha hb hd =
      ap (λ c. Lowered (a ∷ b ∷ d ∷ []) w (if c then true else is_never (b ∷ d ∷ []))) ha
      ∙ ap (λ c. Lowered (a ∷ b ∷ d ∷ []) w (if c then true else is_never (d ∷ []))) hb
      ∙ ap (λ c. Lowered (a ∷ b ∷ d ∷ []) w (if c then true else false)) hd

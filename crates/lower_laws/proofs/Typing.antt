-- Values of a kind have a type.
use Rattle.std.proofs.Common.{◌≡◌, ◌⊎◌, inl, inr, true, false, Option, Some, None, sym, ap, ◌∙◌, subst}
use Rattle.ann_element.specs.declared.element.Element.{Element, fold-roll-Element}
use Rattle.ann_element.specs.declared.element.Element.TheOpen.{Element-F}
use Rattle.ann_element.specs.declared.element.Element.TheVariants as e
use Rattle.ll_code.specs.declared.program.LlType.{LlType}
use Rattle.ll_code.specs.declared.program.LlType.TheVariants as type
use Rattle.rtyper_layout.specs.declared.kind.Kind.{Kind}
use Rattle.rtyper_layout.specs.declared.kind.Kind.TheVariants as kind
use Rattle.rtyper_layout.specs.declared.layout.Layout.{Layout}
use Rattle.rtyper_layout.specs.Kinds.{kind_of, kind_seen}
use Rattle.rtyper_layout.specs.Types.{type_of, type_seen, type_step}
use Rattle.rtyper_data.specs.Seen.{Around, Operand, type_of as type_of_operand, kind_of as kind_of_operand}
use Rattle.lower_laws.specs.Follows.{IsWord, IsFlag, IsByte}
use Rattle.lower_laws.specs.Helped.{IsString, IsText}

-- what the kind says of the type
abbrev TypeIs : Kind → LlType → Type 0
TypeIs kind.Word t = t ≡ type.Signed
TypeIs kind.Flag t = t ≡ type.Bool
TypeIs kind.Byte t = t ≡ type.Char
TypeIs kind.Text t = t ≡ type.Ptr 0
TypeIs kind.MaybeText t = t ≡ type.Ptr 0
TypeIs kind.Nothing t = t ≡ type.Bool
TypeIs _ t = Unit {0}

of_element : (layout : Layout) (element : Element) → TypeIs (kind_of element) (type_of layout element)
of_element layout e.Unreached = tt
of_element layout e.NoneOnly = ap (type_of layout) (sym e.rolls-NoneOnly) ∙ fold-roll-Element LlType (type_step layout) Element-F.NoneOnly
of_element layout e.KnownTrue = ap (type_of layout) (sym e.rolls-KnownTrue) ∙ fold-roll-Element LlType (type_step layout) Element-F.KnownTrue
of_element layout e.KnownFalse = ap (type_of layout) (sym e.rolls-KnownFalse) ∙ fold-roll-Element LlType (type_step layout) Element-F.KnownFalse
of_element layout e.Bool = ap (type_of layout) (sym e.rolls-Bool) ∙ fold-roll-Element LlType (type_step layout) Element-F.Bool
of_element layout e.IntPos = ap (type_of layout) (sym e.rolls-IntPos) ∙ fold-roll-Element LlType (type_step layout) Element-F.IntPos
of_element layout e.Int = ap (type_of layout) (sym e.rolls-Int) ∙ fold-roll-Element LlType (type_step layout) Element-F.Int
of_element layout e.Char = ap (type_of layout) (sym e.rolls-Char) ∙ fold-roll-Element LlType (type_step layout) Element-F.Char
of_element layout e.Str = ap (type_of layout) (sym e.rolls-Str) ∙ fold-roll-Element LlType (type_step layout) Element-F.Str
of_element layout e.StrOrNone = ap (type_of layout) (sym e.rolls-StrOrNone) ∙ fold-roll-Element LlType (type_step layout) Element-F.StrOrNone
of_element layout (e.List site true) = tt
of_element layout (e.List site false) = tt
of_element layout (e.Instance class true) = tt
of_element layout (e.Instance class false) = tt
of_element layout (e.Func functions true) = tt
of_element layout (e.Func functions false) = tt
of_element layout (e.Dict site true) = tt
of_element layout (e.Dict site false) = tt
of_element layout (e.Conflict lists dicts) = tt
of_element layout other = tt

seen : (layout : Layout) (element : Option Element) → TypeIs (kind_seen element) (type_seen layout element)
seen layout None = tt
seen layout (Some element) = of_element layout element

module _ (around : Around) (a : Operand) where
  of_kind : (k : Kind) → kind_of_operand a ≡ k → TypeIs k (type_of_operand around a)
  of_kind k h = subst (λ k. TypeIs k (type_of_operand around a)) h (seen around.layout a.element)

  pub is_word : kind_of_operand a ≡ kind.Word → IsWord around a
  is_word h = record { kind = h; type = of_kind kind.Word h }

  pub is_flag : kind_of_operand a ≡ kind.Flag → IsFlag around a
  is_flag h = record { kind = h; type = of_kind kind.Flag h }

  pub is_byte : kind_of_operand a ≡ kind.Byte → IsByte around a
  is_byte h = record { kind = h; type = of_kind kind.Byte h }

  pub is_string : kind_of_operand a ≡ kind.Text → IsString around a
  is_string h = record { kind = h; type = of_kind kind.Text h }

  pub is_text : (kind_of_operand a ≡ kind.Text) ⊎ (kind_of_operand a ≡ kind.MaybeText) → IsText around a
  is_text (inl h) = record { kind = inl h; type = of_kind kind.Text h }
  is_text (inr h) = record { kind = inr h; type = of_kind kind.MaybeText h }

pub place_of_words : (layout : Layout) (element : Option Element) → kind_seen element ≡ kind.Word → type_seen layout element ≡ type.Signed
place_of_words layout element h = subst (λ k. TypeIs k (type_seen layout element)) h (seen layout element)

pub place_of_flags : (layout : Layout) (element : Option Element) → kind_seen element ≡ kind.Flag → type_seen layout element ≡ type.Bool
place_of_flags layout element h = subst (λ k. TypeIs k (type_seen layout element)) h (seen layout element)

pub place_of_bytes : (layout : Layout) (element : Option Element) → kind_seen element ≡ kind.Byte → type_seen layout element ≡ type.Char
place_of_bytes layout element h = subst (λ k. TypeIs k (type_seen layout element)) h (seen layout element)

pub place_of_strings : (layout : Layout) (element : Option Element) → kind_seen element ≡ kind.Text → type_seen layout element ≡ type.Ptr 0
place_of_strings layout element h = subst (λ k. TypeIs k (type_seen layout element)) h (seen layout element)

pub place_of_texts : (layout : Layout) (element : Option Element) → kind_seen element ≡ kind.MaybeText → type_seen layout element ≡ type.Ptr 0
place_of_texts layout element h = subst (λ k. TypeIs k (type_seen layout element)) h (seen layout element)

pub place_of_none : (layout : Layout) (element : Option Element) → kind_seen element ≡ kind.Nothing → type_seen layout element ≡ type.Bool
place_of_none layout element h = subst (λ k. TypeIs k (type_seen layout element)) h (seen layout element)

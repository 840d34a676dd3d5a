-- Values of a kind are those of its type.
use Rattle.std.proofs.Common.{◌≡◌, ◌⊎◌, inl, inr, true, false, List, Option, refl, sym, ap, ◌∙◌, subst}
use Rattle.ann_element.specs.declared.element.Element.{Element}
use Rattle.csub_tree.specs.State.{Value, Flag, Block}
use Rattle.ll_code.specs.declared.program.LlType.TheVariants as type
use Rattle.ll_texts.specs.Stands.{Stands}
use Rattle.rpy_tree.specs.Value.{Value as Meant, Nothing}
use Rattle.rtyper_layout.specs.declared.kind.Kind.{Kind}
use Rattle.rtyper_layout.specs.declared.kind.Kind.TheVariants as kind
use Rattle.rtyper_layout.specs.declared.layout.Layout.{Layout}
use Rattle.rtyper_layout.specs.Kinds.{kind_seen}
use Rattle.rtyper_layout.specs.Types.{type_seen}
use Rattle.lower_laws.specs.Values.{is_plain, Holds, Plain, Alone, Items}
use Rattle.lower_laws.proofs.Doing.{WordIs, word_is, FlagIs, flag_is}
use Rattle.lower_laws.proofs.Truths.{ByteIs, byte_is}
use Rattle.lower_laws.proofs.Typing.{place_of_words, place_of_flags, place_of_bytes, place_of_strings, place_of_texts}

-- a kind that is plain is no other
plain_only : (seen : Option Element) (k : Kind) → kind_seen seen ≡ k → is_plain k ≡ false → is_plain (kind_seen seen) ≡ true → ⊥
plain_only seen k h other plain = (let q : false ≡ true = sym other ∙ ap is_plain (sym h) ∙ plain in absurd (cc))

module _ {layout : Layout} {blocks : List (Option Block)} {statics : List Block} {seen : Option Element} {x : Value} {v : Meant} where
  pub plain_stands : is_plain (kind_seen seen) ≡ true → Holds layout blocks statics seen x v → Stands blocks statics (type_seen layout seen) x v
  plain_stands plain (Plain p s) = s
  plain_stands plain (Alone k e f) = absurd (plain_only seen kind.Nothing k refl plain)
  plain_stands plain (Items parts n xs vs e f t is all) = absurd (plain_only seen kind.Tuple (ap kind_seen e) refl plain)

  pub none_held : kind_seen seen ≡ kind.Nothing → Holds layout blocks statics seen x v → (x ≡ Flag false) × (v ≡ Nothing)
  none_held h (Alone k e f) = (e, f)
  none_held h (Plain p s) = absurd (plain_only seen kind.Nothing h refl p)
  none_held h (Items parts n xs vs e f t is all) = (let q : kind.Tuple ≡ kind.Nothing = ap kind_seen (sym e) ∙ h in absurd (cc))

  pub word_held : kind_seen seen ≡ kind.Word → Holds layout blocks statics seen x v → WordIs x v
  word_held h held = word_is (place_of_words layout seen h) (plain_stands (ap is_plain h) held)

  pub flag_held : kind_seen seen ≡ kind.Flag → Holds layout blocks statics seen x v → FlagIs x v
  flag_held h held = flag_is (place_of_flags layout seen h) (plain_stands (ap is_plain h) held)

  pub byte_held : kind_seen seen ≡ kind.Byte → Holds layout blocks statics seen x v → ByteIs x v
  byte_held h held = byte_is (place_of_bytes layout seen h) (plain_stands (ap is_plain h) held)

  pub string_held : kind_seen seen ≡ kind.Text → Holds layout blocks statics seen x v → Stands blocks statics (type.Ptr 0) x v
  string_held h held = subst (λ t. Stands blocks statics t x v) (place_of_strings layout seen h) (plain_stands (ap is_plain h) held)

  pub text_held : (kind_seen seen ≡ kind.Text) ⊎ (kind_seen seen ≡ kind.MaybeText) → Holds layout blocks statics seen x v → Stands blocks statics (type.Ptr 0) x v
  text_held (inl h) held = string_held h held
  text_held (inr h) held = subst (λ t. Stands blocks statics t x v) (place_of_texts layout seen h) (plain_stands (ap is_plain h) held)

  pub flag_holds : kind_seen seen ≡ kind.Flag → Stands blocks statics (type_seen layout seen) x v → Holds layout blocks statics seen x v
  flag_holds h st = Plain (ap is_plain h) st

  pub word_holds : kind_seen seen ≡ kind.Word → Stands blocks statics (type_seen layout seen) x v → Holds layout blocks statics seen x v
  word_holds h st = Plain (ap is_plain h) st

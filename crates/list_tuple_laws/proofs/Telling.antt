-- Two values are equal or not.
use Rattle.std.proofs.Common.{◌≡◌, ◌⊎◌, inl, inr, ℕ, Bool, true, false, ℤ, List, [], ◌∷◌, Option, Some, refl, sym, ap, subst}
use Rattle.ann_element.specs.declared.element.Element.{Element}
use Rattle.csub_tree.specs.State.{Value}
use Rattle.ll_code.specs.declared.program.LlType.{LlType}
use Rattle.ll_code.specs.declared.program.LlType.TheVariants as type
use Rattle.rpy_tree.specs.Value.{Value as Meant, Word, Flag, Text, Nothing}
use Rattle.rpy_meaning.specs.Compare.{all_equal, both, equal, holds, is_equal}
use Rattle.rpy_meaning.specs.Sequences.{parts_of, tuple}
use Rattle.rtyper_layout.specs.declared.kind.Kind.{Kind}
use Rattle.rtyper_layout.specs.declared.kind.Kind.TheVariants as kind
use Rattle.rtyper_layout.specs.declared.layout.Layout.{Layout}
use Rattle.rtyper_layout.specs.Kinds.{is_text_or_none, kind_seen}
use Rattle.lower_laws.specs.Values.{is_plain, is_simple}
use Rattle.lower_laws.proofs.Typing.{place_of_words, place_of_flags, place_of_bytes, place_of_strings, place_of_texts}
use Rattle.object_laws.specs.Ghost.{Ghost}
use Rattle.object_laws.specs.Known.{Known}
use Rattle.object_laws.specs.Values.{AllHold, Holds, Next, End, Stands}
use Rattle.object_laws.specs.Values as stands
use Rattle.object_laws.proofs.Nothings.{nothing_held}
use Rattle.object_laws.proofs.Valued.{plain_stands}
use Rattle.conversion_laws.specs.Compared.{AllCompare, Compares}
use Rattle.conversion_laws.specs.Compared as compares
use Rattle.conversion_laws.proofs.Valued.{tuple_held}
use Rattle.list_tuple_laws.specs.Alike.{AllAlike, AreAlike}
use Rattle.list_tuple_laws.specs.Alike as alike

-- ---- what they are

word_in : {g : Ghost} {t : LlType} {x : Value} {v : Meant} → t ≡ type.Signed → Stands g t x v → (z : ℤ) × (v ≡ Word z)
word_in h (stands.word z f) = (z, refl)
word_in h (stands.flag b) = absurd (cc)
word_in h (stands.byte b s) = absurd (cc)
word_in h (stands.text x bytes t) = absurd (cc)
word_in h stands.missing = absurd (cc)

flag_in : {g : Ghost} {t : LlType} {x : Value} {v : Meant} → t ≡ type.Bool → Stands g t x v → (b : Bool) × (v ≡ Flag b)
flag_in h (stands.flag b) = (b, refl)
flag_in h (stands.word z f) = absurd (cc)
flag_in h (stands.byte b s) = absurd (cc)
flag_in h (stands.text x bytes t) = absurd (cc)
flag_in h stands.missing = absurd (cc)

abbrev IsText : Meant → Type 0
IsText v = ((bytes : List ℕ) × (v ≡ Text bytes)) ⊎ (v ≡ Nothing)

abbrev takes_text : LlType → Bool
takes_text type.Char = true
takes_text (type.Ptr n) = true
takes_text t = false

text_in : {g : Ghost} {t : LlType} {x : Value} {v : Meant} → takes_text t ≡ true → Stands g t x v → IsText v
text_in h (stands.byte b s) = inl (b ∷ [], refl)
text_in h (stands.text x bytes t) = inl (bytes, refl)
text_in h stands.missing = inr refl
text_in h (stands.word z f) = absurd (cc)
text_in h (stands.flag b) = absurd (cc)

module _ {layout : Layout} {known : Known} {g : Ghost} {seen : Option Element} {x : Value} {v : Meant} where
  word_held : kind_seen seen ≡ kind.Word → Holds layout known g seen x v → (z : ℤ) × (v ≡ Word z)
  word_held h held = word_in (place_of_words layout seen h) (plain_stands (ap is_plain h) held)

  flag_held : kind_seen seen ≡ kind.Flag → Holds layout known g seen x v → (b : Bool) × (v ≡ Flag b)
  flag_held h held = flag_in (place_of_flags layout seen h) (plain_stands (ap is_plain h) held)

  text_held : (k : Kind) → kind_seen seen ≡ k → is_text_or_none k ≡ true → Holds layout known g seen x v → IsText v
  text_held kind.Byte h q held = text_in (ap takes_text (place_of_bytes layout seen h)) (plain_stands (ap is_plain h) held)
  text_held kind.Text h q held = text_in (ap takes_text (place_of_strings layout seen h)) (plain_stands (ap is_plain h) held)
  text_held kind.MaybeText h q held = text_in (ap takes_text (place_of_texts layout seen h)) (plain_stands (ap is_plain h) held)
  text_held kind.Nothing h q held = inr (nothing_held h held)
  text_held _ h q held = absurd (cc)

-- ---- whether they are equal

told_so : (u v p q : Meant) → u ≡ p → v ≡ q → equal p q ≡ Some (is_equal p q) → equal u v ≡ Some (is_equal u v)
told_so u v p q h k e = subst (λ u. equal u v ≡ Some (is_equal u v)) (sym h) (subst (λ v. equal p v ≡ Some (is_equal p v)) (sym k) e)

texts_told : (u v : Meant) → IsText u → IsText v → equal u v ≡ Some (is_equal u v)
texts_told u v (inl i) (inl j) = told_so u v (Text i.0) (Text j.0) i.1 j.1 refl
texts_told u v (inl i) (inr j) = told_so u v (Text i.0) Nothing i.1 j refl
texts_told u v (inr i) (inl j) = told_so u v Nothing (Text j.0) i j.1 refl
texts_told u v (inr i) (inr j) = told_so u v Nothing Nothing i j refl

both_some : (a b : Bool) (o p : Option Bool) → o ≡ Some a → p ≡ Some b → both o p ≡ Some (holds (both o p))
both_some a b o p h k = subst (λ o. both o p ≡ Some (holds (both o p))) (sym h) (subst (λ p. both (Some a) p ≡ Some (holds (both (Some a) p))) (sym k) refl)

module _ {layout : Layout} {known : Known} {g : Ghost} where
  mutual
    alike_told : {a b : Option Element} {x y : Value} {u v : Meant} → AreAlike layout a b → Holds layout known g a x u → Holds layout known g b y v → equal u v ≡ Some (is_equal u v)
    alike_told {u = u} {v = v} (alike.Words h k) held held_too = (let i = word_held h held in let j = word_held k held_too in told_so u v (Word i.0) (Word j.0) i.1 j.1 refl)
    alike_told {u = u} {v = v} (alike.Flags h k) held held_too = (let i = flag_held h held in let j = flag_held k held_too in told_so u v (Flag i.0) (Flag j.0) i.1 j.1 refl)
    alike_told {a = a} {b = b} {u = u} {v = v} (alike.Texts h k) held held_too = texts_told u v (text_held (kind_seen a) refl h held) (text_held (kind_seen b) refl k held_too)
    alike_told {u = u} {v = v} (alike.Items m n parts others i j all) held held_too =
        let s = tuple_held m parts i held in
        let t = tuple_held n others j held_too in
        told_so u v (tuple s.vs) (tuple t.vs) s.high t.high (all_told all s.all t.all)

    pub all_told : {parts others : List Element} {xs ys : List Value} {us vs : List Meant} → AllAlike layout parts others → AllHold layout known g parts xs us → AllHold layout known g others ys vs → all_equal (parts_of us) (parts_of vs) ≡ Some (holds (all_equal (parts_of us) (parts_of vs)))
    all_told alike.End End End = refl
    all_told (alike.Next one all) (Next {v = u} {vs = us} held more_held) (Next {v = v} {vs = vs} held_too more_held_too) =
        both_some (is_equal u v) (holds (all_equal (parts_of us) (parts_of vs))) (equal u v) (all_equal (parts_of us) (parts_of vs)) (alike_told one held held_too) (all_told all more_held more_held_too)

-- ---- and are compared

text_simple : (k : Kind) → is_text_or_none k ≡ true → is_simple k ≡ true
text_simple kind.Byte h = refl
text_simple kind.Text h = refl
text_simple kind.MaybeText h = refl
text_simple kind.Nothing h = refl
text_simple _ h = absurd (cc)

mutual
  alike_compare : {layout : Layout} {a b : Option Element} → AreAlike layout a b → Compares layout a b
  alike_compare (alike.Words h k) = compares.Simple (ap is_simple h) (ap is_simple k)
  alike_compare (alike.Flags h k) = compares.Simple (ap is_simple h) (ap is_simple k)
  alike_compare {a = a} {b = b} (alike.Texts h k) = compares.Simple (text_simple (kind_seen a) h) (text_simple (kind_seen b) k)
  alike_compare (alike.Items m n parts others i j all) = compares.Items m n parts others i j (all_compare all)

  pub all_compare : {layout : Layout} {parts others : List Element} → AllAlike layout parts others → AllCompare layout parts others
  all_compare alike.End = compares.End
  all_compare (alike.Next one all) = compares.Next (alike_compare one) (all_compare all)

-- Keys that are equal are the same value, and keys that stand as words are equal where the words are.
use Rattle.std.proofs.Common.{◌≡◌, ℕ, ℤ, pos, Bool, true, false, ◌&&◌, ◌∷◌, Option, Some, None, refl, sym, ap, ◌∙◌, arith}
use Rattle.std.specs.Prelude.{nat_eq, if◌then◌else◌}
use Rattle.std.specs.Ordering.{int_eq}
use Rattle.std.specs.Str.{bytes_eq}
use Rattle.std.proofs.lemmas.Bool.Decides.{nat_tests, Decides-int_eq}
use Rattle.std.proofs.lemmas.Slice.Eq.{bytes_eq-Decides}
use Rattle.csub_tree.specs.State.{Value, Word}
use Rattle.ll_code.specs.declared.program.LlType.{LlType}
use Rattle.ll_code.specs.declared.program.LlType.TheVariants as type
use Rattle.rpy_tree.specs.Value.{Value as Meant, Values, none, more, Word as MeantWord, Flag as MeantFlag, Text, Nothing, Tuple}
use Rattle.rpy_meaning.specs.Compare.{equal, all_equal, is_equal, holds, both, same_flag}
use Rattle.rtyper_layout.specs.declared.layout.Layout.{Layout}
use Rattle.rtyper_layout.specs.Dicts.{is_plain}
use Rattle.rtyper_op.specs.Mapped.{mixed, hash_of_text}
use Rattle.object_laws.specs.Dicts.{as_item, hash}
use Rattle.object_laws.specs.Ghost.{Ghost}
use Rattle.object_laws.specs.Values.{Stands, word, flag, byte, text, missing}

-- ---- equal values

same_flags : (a b : Bool) → same_flag a b ≡ true → a ≡ b
same_flags true true e = refl
same_flags false false e = refl
same_flags true false e = absurd (cc)
same_flags false true e = absurd (cc)

both_hold : (a b : Option Bool) → both a b ≡ Some true → (a ≡ Some true) × (b ≡ Some true)
both_hold (Some true) (Some true) e = (refl, refl)
both_hold (Some true) (Some false) e = absurd (cc)
both_hold (Some false) b e = absurd (no_more b e)
  where
    no_more : (b : Option Bool) → both (Some false) b ≡ Some true → ⊥
    no_more None e = absurd (cc)
    no_more (Some b) e = absurd (cc)
both_hold (Some true) None e = absurd (cc)
both_hold None b e = absurd (cc)

some_true : (b : Bool) → Some b ≡ Some true → b ≡ true
some_true true e = refl
some_true false e = absurd (cc)

mutual
  equal_same : (x y : Meant) → equal x y ≡ Some true → x ≡ y
  equal_same (MeantWord a) (MeantWord b) e = ap MeantWord ((Decides-int_eq a b).0 (some_true (int_eq a b) e))
  equal_same (MeantFlag a) (MeantFlag b) e = ap MeantFlag (same_flags a b (some_true (same_flag a b) e))
  equal_same (Text a) (Text b) e = ap Text ((bytes_eq-Decides a b).0 (some_true (bytes_eq a b) e))
  equal_same Nothing Nothing e = refl
  equal_same (Tuple xs) (Tuple ys) e = ap Tuple (all_same xs ys e)
  equal_same x y e = absurd (cc)

  all_same : (xs ys : Values) → all_equal xs ys ≡ Some true → xs ≡ ys
  all_same none none e = refl
  all_same (more x xs) (more y ys) e = (let h = both_hold (equal x y) (all_equal xs ys) e in ap (λ v. more v xs) (equal_same x y h.0) ∙ ap (more y) (all_same xs ys h.1))
  all_same xs ys e = absurd (cc)

it_holds : (o : Option Bool) → holds o ≡ true → o ≡ Some true
it_holds None e = absurd (cc)
it_holds (Some true) e = refl
it_holds (Some false) e = absurd (cc)

pub are_same : (x y : Meant) → is_equal x y ≡ true → x ≡ y
are_same x y e = equal_same x y (it_holds (equal x y) e)

-- equal keys have the same hash, and keys that are equal to the same one are equal
pub same_start : {A : Type 0} (start : Meant → A) (x y : Meant) → is_equal x y ≡ true → start x ≡ start y
same_start start x y e = ap start (are_same x y e)

pub same_both : (x y z : Meant) → is_equal x z ≡ true → is_equal y z ≡ true → is_equal x y ≡ true
same_both x y z e f = ap (is_equal x) (are_same y z f) ∙ e

-- ---- keys that stand as words

abbrev pub number_of : Meant → ℤ
number_of (MeantWord z) = z
number_of (MeantFlag b) = if b then pos 1 else pos 0
number_of (Text (b ∷ bytes)) = pos b
number_of other = pos 0

pub key_word : {g : Ghost} {t : LlType} {x : Value} {v : Meant} → is_plain t ≡ true → Stands g t x v → as_item t type.Signed x ≡ Word (number_of v)
key_word h (word z f) = refl
key_word h (flag b) = refl
key_word h (byte b s) = refl
key_word h (text x bytes s) = absurd (cc)
key_word h missing = absurd (cc)

pub hash_word : (layout : Layout) {g : Ghost} {t : LlType} {x : Value} {v : Meant} → is_plain t ≡ true → Stands g t x v → hash layout t v ≡ mixed (number_of v)
unfolding hash_of_text
hash_word layout h (word z f) = refl
hash_word layout h (flag b) = refl
hash_word layout h (byte b s) = refl
hash_word layout h (text x bytes s) = absurd (cc)
hash_word layout h missing = absurd (cc)

flags_alike : (a b : Bool) → same_flag a b ≡ int_eq (if a then pos 1 else pos 0) (if b then pos 1 else pos 0)
flags_alike true true = refl
flags_alike true false = refl
flags_alike false true = refl
flags_alike false false = refl

same_number : (b c : ℕ) → int_eq (pos b) (pos c) ≡ nat_eq b c
same_number b c = by (nat_eq b c) refl
  where
    by : (t : Bool) → nat_eq b c ≡ t → int_eq (pos b) (pos c) ≡ t
    by true h = grind (arith, nat_tests, h)
    by false h = grind (arith, nat_tests, h)

and_true : (t : Bool) → (t && true) ≡ t
and_true true = refl
and_true false = refl

pub equal_words : {g : Ghost} {t : LlType} {x y : Value} {v w : Meant} → is_plain t ≡ true → Stands g t x v → Stands g t y w → is_equal w v ≡ int_eq (number_of w) (number_of v)
equal_words h (word z f) (word z2 f2) = refl
equal_words h (flag b) (flag c) = flags_alike c b
equal_words h (byte b s) (byte c t) = and_true (nat_eq c b) ∙ sym (same_number c b)
equal_words h (text x bytes s) other = absurd (cc)
equal_words h missing other = absurd (cc)

-- Keys that stand as the same value are equal.
use Rattle.std.proofs.Common.{◌≡◌, ℕ, ℤ, Bool, true, false, List, ◌∷◌, map, Option, Some, refl, sym, ap, ◌∙◌, subst, []}
use Rattle.std.specs.Prelude.{if◌then◌else◌}
use Rattle.std.specs.Ordering.{int_eq}
use Rattle.std.specs.Str.{bytes_eq}
use Rattle.std.proofs.lemmas.Bool.Decides.{Decides-int_eq}
use Rattle.std.proofs.lemmas.Slice.Eq.{bytes_eq-Decides}
use Rattle.ann_element.specs.declared.element.Element.{Element}
use Rattle.csub_tree.specs.State.{Value, Word, Byte, Block}
use Rattle.ll_code.specs.declared.program.LlType.{LlType}
use Rattle.ll_code.specs.declared.program.LlType.TheVariants as type
use Rattle.rpy_tree.specs.Value.{Value as Meant}
use Rattle.rpy_meaning.specs.Compare.{all_equal, both, equal, is_equal, holds, same_flag}
use Rattle.rpy_meaning.specs.Sequences.{parts_of, tuple}
use Rattle.rtyper_layout.specs.declared.layout.Layout.{Layout}
use Rattle.rtyper_layout.specs.Dicts.{is_plain}
use Rattle.rtyper_layout.specs.Types.{type_seen}
use Rattle.lower_laws.proofs.Doing.{same_type_is}
use Rattle.object_laws.specs.Dicts.{as_item, as_word}
use Rattle.object_laws.specs.Ghost.{Ghost, Stays, use_of}
use Rattle.object_laws.specs.Known.{Known}
use Rattle.object_laws.specs.Values.{Holds, AllHold, End, Next, Stands, IsText, word, flag, byte, text, missing}
use Rattle.object_laws.proofs.Valued.{plain_stands}
use Rattle.conversion_laws.proofs.Valued.{tuple_held}
use Rattle.dict_find_laws.specs.Keys.{AreKeys, AllAreKeys, Plain, Items, End as NoMore, Next as OneMore}
use Rattle.dict_find_laws.proofs.Alike.{equal_words, key_word, number_of}
use Rattle.layout_laws.proofs.Places.{no_some, same_some}

int_same : (z : ℤ) → int_eq z z ≡ true
int_same z = (Decides-int_eq z z).1 refl

bytes_same : (bytes : List ℕ) → bytes_eq bytes bytes ≡ true
bytes_same bytes = (bytes_eq-Decides bytes bytes).1 refl

flag_same : (b : Bool) → same_flag b b ≡ true
flag_same true = refl
flag_same false = refl

byte_list : (xs ys : List ℕ) → map Byte xs ≡ map Byte ys → xs ≡ ys
byte_list [] [] h = refl
byte_list [] (y ∷ ys) h = absurd (cc)
byte_list (x ∷ xs) [] h = absurd (cc)
byte_list (x ∷ xs) (y ∷ ys) h =
    let a : x ≡ y = cc in
    let b : map Byte xs ≡ map Byte ys = cc in
    ap (λ z. z ∷ xs) a ∙ ap (λ zs. y ∷ zs) (byte_list xs ys b)

same_stays : {a b : Block} → Stays a ≡ Stays b → a ≡ b
same_stays h = cc

text_same : (g : Ghost) (x : Value) (a b : List ℕ) → IsText g x a → IsText g x b → a ≡ b
text_same g x a b s t = byte_list a b (ap (λ (c : Block). c.items) (same_stays (same_some (sym s.is ∙ t.is))))

stands_equal : {g : Ghost} {t : LlType} {x y : Value} {v w : Meant} → Stands g t x v → Stands g t y w → x ≡ y → equal v w ≡ Some true
stands_equal (word z f) (word z2 f2) e = (let q : z ≡ z2 = cc in ap (λ k. Some (int_eq z k)) (sym q) ∙ ap Some (int_same z))
stands_equal (flag b) (flag c) e = (let q : b ≡ c = cc in ap (λ k. Some (same_flag b k)) (sym q) ∙ ap Some (flag_same b))
stands_equal (byte b s) (byte c s2) e = (let q : b ≡ c = cc in ap (λ k. Some (bytes_eq (b ∷ []) (k ∷ []))) (sym q) ∙ ap Some (bytes_same (b ∷ [])))
stands_equal {g = g} (text x bytes s) (text y bytes2 s2) e =
    let q : bytes ≡ bytes2 = text_same g x bytes bytes2 s (subst (λ k. IsText g k bytes2) (sym e) s2) in
    ap (λ k. Some (bytes_eq bytes k)) (sym q) ∙ ap Some (bytes_same bytes)
stands_equal {g = g} (text x bytes s) missing e = absurd (no_some (ap (use_of g) (sym e) ∙ s.is))
stands_equal {g = g} missing (text y bytes s) e = absurd (no_some (ap (use_of g) e ∙ s.is))
stands_equal missing missing e = refl

module _ (layout : Layout) (known : Known) (g : Ghost) where
  mutual
    keys_equal : {seen : Option Element} {x y : Value} {v w : Meant} → AreKeys layout seen → Holds layout known g seen x v → Holds layout known g seen y w → x ≡ y → equal v w ≡ Some true
    keys_equal (Plain plain) h k e = stands_equal (plain_stands plain h) (plain_stands plain k) e
    keys_equal {x = x} {y = y} {v = v} {w = w} (Items n parts none of all) h k e =
        let a = tuple_held n parts of h in
        let b = tuple_held n parts of k in
        let q : a.xs ≡ b.xs = ap (λ (c : Block). c.fields) (same_stays (same_some (sym a.is ∙ ap (use_of g) e ∙ b.is))) in
        ap (λ c. equal c w) a.high ∙ ap (equal (tuple a.vs)) b.high ∙ all_keys_equal all a.all b.all q

    all_keys_equal : {parts : List Element} {xs ys : List Value} {vs ws : List Meant} → AllAreKeys layout parts → AllHold layout known g parts xs vs → AllHold layout known g parts ys ws → xs ≡ ys → all_equal (parts_of vs) (parts_of ws) ≡ Some true
    all_keys_equal NoMore End End e = refl
    all_keys_equal (OneMore key more) (Next {x = x} {v = v} {vs = vs} h hs) (Next {x = y} {v = w} {vs = ws} k ks) e =
        let q : x ≡ y = cc in
        let r = all_keys_equal more hs ks (let z = e in cc) in
        ap (λ o. both o (all_equal (parts_of vs) (parts_of ws))) (keys_equal key h k q) ∙ ap (both (Some true)) r

  itself_kept : (kind : LlType) (x : Value) → as_item kind kind x ≡ x
  itself_kept kind x = ap (λ b. if b then x else as_word x) (same_type_is kind)

  -- also where they stand as items of an array
  pub stored_equal : {seen : Option Element} {x y : Value} {v w : Meant} (kind stored : LlType) → AreKeys layout seen → kind ≡ type_seen layout seen → stored ≡ (if is_plain kind then type.Signed else kind)
      → Holds layout known g seen x v → Holds layout known g seen y w → as_item kind stored x ≡ as_item kind stored y → is_equal v w ≡ true
  stored_equal {seen = seen} {x = x} {y = y} {v = v} {w = w} kind stored keys typed is h k e = by (is_plain kind) refl keys
    where
      words : is_plain (type_seen layout seen) ≡ true → Stands g (type_seen layout seen) x v → Stands g (type_seen layout seen) y w → as_item (type_seen layout seen) type.Signed x ≡ as_item (type_seen layout seen) type.Signed y → is_equal v w ≡ true
      words p s t q = equal_words p t s ∙ (let z : Word (number_of v) ≡ Word (number_of w) = sym (key_word p s) ∙ q ∙ key_word p t in let n : number_of v ≡ number_of w = cc in ap (λ m. int_eq m (number_of w)) n ∙ int_same (number_of w))

      by : (b : Bool) → is_plain kind ≡ b → AreKeys layout seen → is_equal v w ≡ true
      by false p keys =
          let stored_is : stored ≡ kind = is ∙ ap (λ b. if b then type.Signed else kind) p in
          let same : x ≡ y = sym (itself_kept kind x) ∙ subst (λ s. as_item kind s x ≡ as_item kind s y) stored_is e ∙ itself_kept kind y in
          ap holds (keys_equal keys h k same)
      by true p (Plain plain) =
          let stored_is : stored ≡ type.Signed = is ∙ ap (λ b. if b then type.Signed else kind) p in
          let q : as_item (type_seen layout seen) type.Signed x ≡ as_item (type_seen layout seen) type.Signed y = subst (λ s. as_item (type_seen layout seen) s x ≡ as_item (type_seen layout seen) s y) stored_is (subst (λ t. as_item t stored x ≡ as_item t stored y) typed e) in
          words (subst (λ t. is_plain t ≡ true) typed p) (plain_stands plain h) (plain_stands plain k) q
      by true p (Items n parts none of all) = absurd (let q : is_plain (type.Ptr n) ≡ true = subst (λ t. is_plain t ≡ true) (typed ∙ of.typed) p in cc)

-- What is asked of one string: its length, its truth, a byte, and the string itself for a walk.
use Rattle.std.proofs.Common.{◌≡◌, ◌<◌, ◌≤◌, ℕ, zero, suc, ◌+◌, ◌-◌, ◌^◌, Bool, true, false, List, [], ◌∷◌, length, Option, Some, None, Ok, ℤ, pos, negsuc, ◌+ℤ◌, refl, ap, ◌∙◌, subst, arith}
use Rattle.std.proofs.lemmas.Bool.Decides.{nat_tests}
use Rattle.std.proofs.lemmas.Int.{int_wrap_fits, ints}
use Rattle.std.specs.Int.{w64}
use Rattle.std.specs.Prelude.{slice_get, option_and_then, nat_lt, if◌then◌else◌, codes}
use Rattle.rpy_base.specs.Word.{Fits, wrap}
use Rattle.rpy_meaning.specs.declared.row.RowOp.TheVariants as row
use Rattle.rpy_meaning.specs.Classes.{no_covers}
use Rattle.rpy_meaning.specs.Sequences.{byte as meant_byte}
use Rattle.rpy_meaning.specs.World.{bad, give, index_error, if_some}
use Rattle.csub_tree.specs.State.{Word, Flag, Static}
use Rattle.csub_tree.specs.Operation.{binary_of}
use Rattle.csub_tree.specs.declared.tree.CBinary.TheVariants.{Add}
use Rattle.ll_code.specs.State.{Calling}
use Rattle.ll_code.specs.declared.program.LlType.TheVariants as type
use Rattle.ll_leads.proofs.Ways.{on, many, enter, gives}
use Rattle.ll_texts.specs.Texts.{AreBytes}
use Rattle.ll_texts.specs.Stands.{word, flag, byte, text, missing}
use Rattle.ll_texts.specs.Follows.{Follows}
use Rattle.ll_texts.proofs.Reading.{is_set, is_there, gets_length, gets_byte}
use Rattle.ll_texts.proofs.Following.{gave, failed}
use Rattle.ll_texts.proofs.Numbers.{fits_count, less_true, less_false}
use Rattle.ll_build.specs.declared.needs.Helper.TheVariants as helper
use Rattle.ll_strings.specs.Laws.{Is, IsTwo}
use Rattle.ll_strings.proofs.Parts.{gets_single}

-- a byte of a string
pub small_byte : (bytes : List ℕ) (k b : ℕ) → AreBytes bytes → slice_get bytes k ≡ Some b → b < 256
small_byte [] k b h e = absurd (cc)
small_byte (c ∷ bytes) zero b (h, hs) e = (let q : c ≡ b = cc in subst (λ n. n < 256) q h)
small_byte (c ∷ bytes) (suc k) b (h, hs) e = small_byte bytes k b hs e

inside : (bytes : List ℕ) (k : ℕ) → k < length bytes → slice_get bytes k ≡ None → ⊥
inside [] k h e = omega arith
inside (c ∷ bytes) zero h e = absurd (cc)
inside (c ∷ bytes) (suc k) h e = inside bytes k (omega (arith, h)) e

pub len_is : Is helper.StrLen (type.Ptr 0) type.Signed row.Len
len_is program p args numbers f frames core w h left x v (text y bytes t) =
    gave left (on (enter h.graph refl) (on (gives (Flag false) (is_there t)) (on (many 1 h.graph refl (simp (is_set t))) (on (gets_length h.text t) (many 1 h.graph refl refl))))) refl (word (pos (length bytes)) (fits_count (length bytes) t.short))
len_is program p args numbers f frames core w h left x v missing = failed (on (enter h.graph refl) (many 2 h.graph refl refl)) refl

pub truth_is : Is helper.StrTruth (type.Ptr 0) type.Bool row.Truth
truth_is program p args numbers f frames core w h left x v (text y [] t) =
    gave left (on (enter h.graph refl) (on (gives (Flag false) (is_there t)) (on (many 1 h.graph refl (simp (is_set t))) (on (gets_length h.text t) (on (gives (Flag false) (less_false 0 0 (omega arith))) (many 1 h.graph refl refl)))))) refl (flag false)
truth_is program p args numbers f frames core w h left x v (text y (c ∷ bytes) t) =
    gave left (on (enter h.graph refl) (on (gives (Flag false) (is_there t)) (on (many 1 h.graph refl (simp (is_set t))) (on (gets_length h.text t) (on (gives (Flag true) (less_true 0 (length (c ∷ bytes)) (omega arith))) (many 1 h.graph refl refl)))))) refl (flag true)
truth_is program p args numbers f frames core w h left x v missing = gave left (on (enter h.graph refl) (many 3 h.graph refl refl)) refl (flag false)

pub walk_is : (site : ℕ) → Is helper.StrWalk (type.Ptr 0) (type.Ptr 0) (row.Walk site)
walk_is site program p args numbers f frames core w h left x v (text y bytes t) =
    gave left (on (enter h.graph refl) (on (gives (Flag false) (is_there t)) (many 2 h.graph refl (simp (is_set t))))) refl (text x bytes t)
walk_is site program p args numbers f frames core w h left x v missing = failed (on (enter h.graph refl) (many 2 h.graph refl refl)) refl

pub has_item_is : IsTwo helper.StrHasItem (type.Ptr 0) type.Signed type.Bool (row.HasItem None)
has_item_is program p args numbers f frames core w h left x y v u (text z bytes t) (word (pos i) fits) =
    gave left (on (enter h.graph refl) (on (gets_length h.text t) (many 2 h.graph refl refl))) refl (flag (nat_lt i (length bytes)))
has_item_is program p args numbers f frames core w h left x y v u (text z bytes t) (word (negsuc i) fits) = tt
has_item_is program p args numbers f frames core w h left x y v u missing s = tt

pub item_is : IsTwo helper.StrItem (type.Ptr 0) type.Signed type.Char (row.Item None)
item_is program p args numbers f frames core w h left x y v u (text z bytes t) (word (pos i) fits) = by (slice_get bytes i) refl
  where
    by : (o : Option ℕ) → slice_get bytes i ≡ o → Follows p args (Calling f (x ∷ Word (pos i) ∷ []) frames core) frames core type.Char w (if_some bad o (λ b. give (meant_byte b)) w)
    by None e = tt
    by (Some b) e = gave left (on (enter h.graph refl) (on (gets_byte i b h.text t refl e) (many 1 h.graph refl refl))) refl (byte b (small_byte bytes i b t.small e))
item_is program p args numbers f frames core w h left x y v u (text z bytes t) (word (negsuc i) fits) = tt
item_is program p args numbers f frames core w h left x y v u missing s = tt

-- a byte is a string, where a string is asked
pub of_char_is : Is helper.StrOfChar type.Char (type.Ptr 0) row.Copy
of_char_is program p args numbers f frames core w h left x v (byte b small) =
    let statics = h.statics refl in
    gave left (on (enter h.graph refl) (on (many 2 h.graph refl refl) (on (gets_single numbers.table b statics refl refl small) (many 1 h.graph refl refl)))) refl
    (text (Static (b + 1)) (b ∷ []) (record { is = statics.singles b small; short = omega arith; small = (small, tt) }))

pub of_bool_is : Is helper.StrOfBool type.Bool (type.Ptr 0) row.ToStr
of_bool_is program p args numbers f frames core w h left x v (flag true) = (let statics = h.statics refl in
    gave left (on (enter h.graph refl) (many 2 h.graph refl refl)) refl (text (Static 258) (codes "True") (record { is = statics.yes; short = omega arith; small = (omega arith, (omega arith, (omega arith, (omega arith, tt)))) })))
of_bool_is program p args numbers f frames core w h left x v (flag false) = (let statics = h.statics refl in
    gave left (on (enter h.graph refl) (many 2 h.graph refl refl)) refl (text (Static 259) (codes "False") (record { is = statics.no; short = omega arith; small = (omega arith, (omega arith, (omega arith, (omega arith, (omega arith, tt))))) })))

-- ---- a byte at any place

turned : (i n : ℕ) → Fits (negsuc i) → n < 2 ^ 63 → i < n → binary_of Add (Word (negsuc i)) (Word (pos n)) ≡ Ok (Word (pos (n - suc i)))
turned i n f s l = ap (λ z. Ok (Word z)) ((let e : negsuc i +ℤ pos n ≡ pos (n - suc i) = omega (arith, ints) in ap wrap e) ∙ int_wrap_fits w64 (pos (n - suc i)) (fits_count (n - suc i) (omega (arith, s))))

left_of : (i n : ℕ) → Fits (negsuc i) → n < 2 ^ 63 → n ≤ i → binary_of Add (Word (negsuc i)) (Word (pos n)) ≡ Ok (Word (negsuc (i - n)))
left_of i n f s l = ap (λ z. Ok (Word z)) ((let e : negsuc i +ℤ pos n ≡ negsuc (i - n) = omega (arith, ints) in ap wrap e) ∙ int_wrap_fits w64 (negsuc (i - n)) (omega (arith, ints)))

pub index_is : (site : Option ℤ) → IsTwo helper.StrIndex (type.Ptr 0) type.Signed type.Char (row.Index site)
index_is site program p args numbers f frames core w h left x y v u missing (word z fits) = failed (on (enter h.graph refl) (many 2 h.graph refl refl)) refl
index_is site program p args numbers f frames core w h left x y v u (text x2 bytes t) (word (pos i) fits) = by (nat_lt i (length bytes)) refl
  where
    at : (o : Option ℕ) → nat_lt i (length bytes) ≡ true → slice_get bytes i ≡ o → Follows p args (Calling f (x ∷ Word (pos i) ∷ []) frames core) frames core type.Char w (if_some (index_error no_covers) o (λ b. give (meant_byte b)) w)
    at None l e = absurd (inside bytes i (grind (arith, nat_tests, l)) e)
    at (Some b) l e = gave left (on (enter h.graph refl) (on (gives (Flag false) (is_there t)) (on (many 1 h.graph refl (simp (is_set t))) (on (gets_length h.text t)
        (on (gives (Flag false) (less_false i 0 (omega arith))) (on (many 1 h.graph refl (simp (is_set t))) (on (gives (Flag true) (ap (λ t. Ok (Flag t)) l)) (on (many 1 h.graph refl (simp (is_set t)))
        (on (gets_byte i b h.text t refl e) (many 1 h.graph refl refl)))))))))) refl (byte b (small_byte bytes i b t.small e))

    by : (c : Bool) → nat_lt i (length bytes) ≡ c → Follows p args (Calling f (x ∷ Word (pos i) ∷ []) frames core) frames core type.Char w (if_some (index_error no_covers) (option_and_then (slice_get bytes) (if c then Some i else None)) (λ b. give (meant_byte b)) w)
    by true l = at (slice_get bytes i) l refl
    by false l = failed (on (enter h.graph refl) (on (gives (Flag false) (is_there t)) (on (many 1 h.graph refl (simp (is_set t))) (on (gets_length h.text t)
        (on (gives (Flag false) (less_false i 0 (omega arith))) (on (many 1 h.graph refl (simp (is_set t))) (on (gives (Flag false) (ap (λ t. Ok (Flag t)) l)) (many 1 h.graph refl refl)))))))) refl
index_is site program p args numbers f frames core w h left x y v u (text x2 bytes t) (word (negsuc i) fits) = by (nat_lt i (length bytes)) refl
  where
    at : (o : Option ℕ) → nat_lt i (length bytes) ≡ true → slice_get bytes (length bytes - suc i) ≡ o → Follows p args (Calling f (x ∷ Word (negsuc i) ∷ []) frames core) frames core type.Char w (if_some (index_error no_covers) o (λ b. give (meant_byte b)) w)
    at None l e = absurd (let m : i < length bytes = grind (arith, nat_tests, l) in inside bytes (length bytes - suc i) (omega (arith, m)) e)
    at (Some b) l e = (let m : i < length bytes = grind (arith, nat_tests, l) in
        gave left (on (enter h.graph refl) (on (gives (Flag false) (is_there t)) (on (many 1 h.graph refl (simp (is_set t))) (on (gets_length h.text t) (on (many 2 h.graph refl (simp (is_set t)))
        (on (gives (Word (pos (length bytes - suc i))) (turned i (length bytes) fits t.short m)) (on (gives (Flag false) (less_false (length bytes - suc i) 0 (omega arith))) (on (many 1 h.graph refl (simp (is_set t)))
        (on (gives (Flag true) (less_true (length bytes - suc i) (length bytes) (omega (arith, m)))) (on (many 1 h.graph refl (simp (is_set t)))
        (on (gets_byte (length bytes - suc i) b h.text t refl e) (many 1 h.graph refl refl)))))))))))) refl (byte b (small_byte bytes (length bytes - suc i) b t.small e)))

    by : (c : Bool) → nat_lt i (length bytes) ≡ c → Follows p args (Calling f (x ∷ Word (negsuc i) ∷ []) frames core) frames core type.Char w (if_some (index_error no_covers) (option_and_then (slice_get bytes) (if c then Some (length bytes - suc i) else None)) (λ b. give (meant_byte b)) w)
    by true l = at (slice_get bytes (length bytes - suc i)) l refl
    by false l = (let m : length bytes ≤ i = grind (arith, nat_tests, l) in
        failed (on (enter h.graph refl) (on (gives (Flag false) (is_there t)) (on (many 1 h.graph refl (simp (is_set t))) (on (gets_length h.text t) (on (many 2 h.graph refl (simp (is_set t)))
        (on (gives (Word (negsuc (i - length bytes))) (left_of i (length bytes) fits t.short m)) (many 2 h.graph refl refl))))))) refl)

-- Slices of strings.
use Rattle.std.proofs.Common.{◌≡◌, ◌<◌, ◌≤◌, ℕ, zero, suc, ◌-◌, ◌^◌, min, Bool, true, false, List, [], ◌∷◌, ◌++◌, length, take, drop, Ok, pos, negsuc, refl, sym, ap, ◌∙◌, subst, arith, append_assoc, length-take, length-drop}
use Rattle.std.proofs.Math.ListN.{take-append-drop}
use Rattle.std.proofs.lemmas.Bool.Decides.{nat_tests}
use Rattle.std.specs.Prelude.{nat_abs, nat_lt, int_le, ◌&&◌, if◌then◌else◌}
use Rattle.rpy_base.specs.Word.{Fits}
use Rattle.rpy_tree.specs.Value.{Word as MeantWord, Text, Nothing}
use Rattle.rpy_meaning.specs.declared.row.RowOp.TheVariants as row
use Rattle.rpy_meaning.specs.World.{new_text, negative_slice}
use Rattle.csub_tree.specs.State.{Unset, Word, Flag, Core}
use Rattle.ll_code.specs.State.{Calling, At}
use Rattle.ll_code.specs.declared.program.LlType.TheVariants as type
use Rattle.ll_leads.specs.Path.{Leads}
use Rattle.ll_leads.proofs.Ways.{on, many, enter, gives}
use Rattle.ll_texts.specs.Texts.{IsText}
use Rattle.ll_texts.specs.Stands.{word, text, missing}
use Rattle.ll_texts.specs.Follows.{Follows}
use Rattle.ll_texts.proofs.Reading.{is_set, is_there, gets_length}
use Rattle.ll_texts.proofs.Numbers.{less_true, less_false, subs, fits_count}
use Rattle.ll_texts.proofs.Following.{failed}
use Rattle.ll_helpers.specs.StringsMake.{str_slice_counts, str_slice_cuts}
use Rattle.ll_build.specs.declared.needs.Helper.TheVariants as helper
use Rattle.ll_build.specs.declared.needs.Shared.TheVariants as shared
use Rattle.ll_strings.specs.Laws.{Is, IsThree, any_end, SlicesUpTo, SlicesFrom, SlicesAll}
use Rattle.ll_strings.proofs.Parts.{part_at}
use Rattle.ll_strings.proofs.Results.{hands}

-- ---- all bytes but the last

pub but_last_is : (site : ℕ) → Is helper.StrButLast (type.Ptr 0) (type.Ptr 0) (row.AllButLast site)
but_last_is site program p args numbers f frames core w h left x v missing = failed (on (enter h.graph refl) (many 2 h.graph refl refl)) refl
but_last_is site program p args numbers f frames core w h left x v (text x2 a t) = by (nat_lt (length a) 1) refl
  where
    by : (c : Bool) → nat_lt (length a) 1 ≡ c → Follows p args (Calling f (x ∷ []) frames core) frames core (type.Ptr 0) w (new_text (take (length a - 1) a) w)
    by true e =
        let none : length a < 1 = grind (arith, nat_tests, e) in
        let next : Core = record core { function = f; block = 4; at = 0; vars = x ∷ Flag true ∷ Word (pos (length a)) ∷ Unset ∷ [] } in
        hands w (new_text (take (length a - 1) a) w)
        (on (enter h.graph refl) (on (gives (Flag false) (is_there t)) (on (many 1 h.graph refl (simp (is_set t))) (on (gets_length h.text t) (on (gives (Flag true) (less_true (length a) 1 none)) (many 1 h.graph refl (simp (is_set t))))))))
        refl (simp (is_set t)) (λ n k. k) (λ n k. k) (λ v. refl)
        (λ waits. part_at p args numbers.string_part numbers.table numbers.copy_bytes (h.shared shared.StringPart refl) (h.shared shared.CopyBytes refl) h.text waits next w x [] (take (length a - 1) a) (drop (length a - 1) a) 0 (length a) refl (omega (arith, none, length-take (length a - 1) a)) left (h.statics refl)
        (subst (IsText core.blocks core.statics x) (sym (take-append-drop (length a - 1) a)) t))
    by false e =
        let some : 1 ≤ length a = grind (arith, nat_tests, e) in
        let next : Core = record core { function = f; block = 4; at = 0; vars = x ∷ Flag false ∷ Word (pos (length a - 1)) ∷ Unset ∷ [] } in
        hands w (new_text (take (length a - 1) a) w)
        (on (enter h.graph refl) (on (gives (Flag false) (is_there t)) (on (many 1 h.graph refl (simp (is_set t))) (on (gets_length h.text t) (on (gives (Flag false) (less_false (length a) 1 some)) (on (many 1 h.graph refl (simp (is_set t)))
        (on (gives (Word (pos (length a - 1))) (subs (length a) 1 (length a - 1) (omega (arith, some)) t.short)) (many 1 h.graph refl (simp (is_set t))))))))))
        refl (simp (is_set t)) (λ n k. k) (λ n k. k) (λ v. refl)
        (λ waits. part_at p args numbers.string_part numbers.table numbers.copy_bytes (h.shared shared.StringPart refl) (h.shared shared.CopyBytes refl) h.text waits next w x [] (take (length a - 1) a) (drop (length a - 1) a) 0 (length a - 1) refl (omega (arith, length-take (length a - 1) a)) left (h.statics refl)
        (subst (IsText core.blocks core.statics x) (sym (take-append-drop (length a - 1) a)) t))

-- ---- from a place up to another

-- the bytes before, between and behind
split_at : (i j : ℕ) (a : List ℕ) → take i (take j a) ++ (drop i (take j a) ++ drop j a) ≡ a
split_at i j a = sym (append_assoc (take i (take j a)) (drop i (take j a)) (drop j a)) ∙ ap (λ l. l ++ drop j a) (take-append-drop i (take j a)) ∙ take-append-drop j a

no_bytes : (l : List ℕ) → length l ≤ 0 → l ≡ []
no_bytes [] h = refl
no_bytes (b ∷ l) h = absurd (omega arith)

not_below : (i : ℕ) → int_le (pos 0) (pos i) ≡ true
not_below i = grind (arith, nat_tests)

pub slice_is : (site : ℕ) → IsThree helper.StrSlice (type.Ptr 0) type.Signed type.Signed (type.Ptr 0) (row.Slice site true true)
slice_is site program p args numbers f frames core w h left x y z v u s missing (word i fi) (word j fj) = failed (on (enter h.graph refl) (many 2 h.graph refl refl)) refl
slice_is site program p args numbers f frames core w h left x y z v u s (text x2 a t) (word (negsuc i) fi) (word j fj) =
    failed (on (enter h.graph refl) (on (gives (Flag false) (is_there t)) (on (many 1 h.graph refl (simp (is_set t))) (many 2 h.graph refl refl)))) refl
slice_is site program p args numbers f frames core w h left x y z v u s (text x2 a t) (word (pos i) fi) (word (negsuc j) fj) =
    subst (λ c. Follows p args (Calling f (x ∷ Word (pos i) ∷ Word (negsuc j) ∷ []) frames core) frames core (type.Ptr 0) w ((if c && false then new_text (drop i (take (suc j) a)) else negative_slice) w)) (sym (not_below i))
    (failed (on (enter h.graph refl) (on (gives (Flag false) (is_there t)) (on (many 1 h.graph refl (simp (is_set t))) (on (gives (Flag false) (less_false i 0 (omega arith))) (on (many 1 h.graph refl (simp (is_set t))) (many 2 h.graph refl refl)))))) refl)
slice_is site program p args numbers f frames core w h left x y z v u s (text x2 a t) (word (pos i) fi) (word (pos j) fj) =
    subst (λ c. Follows p args (Calling f (x ∷ Word (pos i) ∷ Word (pos j) ∷ []) frames core) frames core (type.Ptr 0) w ((if c then new_text (drop i (take j a)) else negative_slice) w)) (sym (ap (λ c. c && int_le (pos 0) (pos j)) (not_below i) ∙ not_below j))
    (cuts (nat_lt j (length a)) refl)
  where
    piece : length (take j a) ≡ min j (length a)
    piece = length-take j a

    from_six : (c : Bool) (high : ℕ) → high ≡ length (take j a) → Leads p args 0 (Calling f (x ∷ Word (pos i) ∷ Word (pos j) ∷ []) frames core) [] (At str_slice_counts.ops str_slice_counts.exit frames (record core { function = f; block = 6; at = 0; vars = x ∷ Word (pos i) ∷ Word (pos high) ∷ Flag c ∷ Word (pos (length a)) ∷ Unset ∷ Unset ∷ [] }))
        → (d : Bool) → nat_lt i high ≡ d → Follows p args (Calling f (x ∷ Word (pos i) ∷ Word (pos j) ∷ []) frames core) frames core (type.Ptr 0) w (new_text (drop i (take j a)) w)
    from_six c high is l true e =
        let some : i < high = grind (arith, nat_tests, e) in
        let next : Core = record core { function = f; block = 7; at = 1; vars = x ∷ Word (pos i) ∷ Word (pos high) ∷ Flag true ∷ Word (pos (length a)) ∷ Word (pos (high - i)) ∷ Unset ∷ [] } in
        hands w (new_text (drop i (take j a)) w)
        (on l (on (gives (Flag true) (ap (λ t. Ok (Flag t)) e)) (on (many 1 h.graph refl (simp (is_set t))) (gives (Word (pos (high - i))) (subs high i (high - i) (omega (arith, some)) (omega (arith, is, piece, t.short)))))))
        refl (simp (is_set t)) (λ n k. k) (λ n k. k) (λ v. refl)
        (λ waits. part_at p args numbers.string_part numbers.table numbers.copy_bytes (h.shared shared.StringPart refl) (h.shared shared.CopyBytes refl) h.text waits next w x (take i (take j a)) (drop i (take j a)) (drop j a) i (high - i)
        (omega (arith, length-take i (take j a), some, is)) (omega (arith, length-drop i (take j a), is)) left (h.statics refl) (subst (IsText core.blocks core.statics x) (sym (split_at i j a)) t))
    from_six c high is l false e =
        let none : high ≤ i = grind (arith, nat_tests, e) in
        let next : Core = record core { function = f; block = 8; at = 0; vars = x ∷ Word (pos i) ∷ Word (pos high) ∷ Flag false ∷ Word (pos (length a)) ∷ Unset ∷ Unset ∷ [] } in
        subst (λ l. Follows p args (Calling f (x ∷ Word (pos i) ∷ Word (pos j) ∷ []) frames core) frames core (type.Ptr 0) w (new_text l w)) (sym (no_bytes (drop i (take j a)) (omega (arith, length-drop i (take j a), is, none))))
        (hands w (new_text [] w)
        (on l (on (gives (Flag false) (ap (λ t. Ok (Flag t)) e)) (many 1 h.graph refl (simp (is_set t)))))
        refl (simp (is_set t)) (λ n k. k) (λ n k. k) (λ v. refl)
        (λ waits. part_at p args numbers.string_part numbers.table numbers.copy_bytes (h.shared shared.StringPart refl) (h.shared shared.CopyBytes refl) h.text waits next w x [] [] a 0 0 refl refl left (h.statics refl) t))

    to_cuts : (c : Bool) → nat_lt j (length a) ≡ c → Leads p args 0 (Calling f (x ∷ Word (pos i) ∷ Word (pos j) ∷ []) frames core) [] (At [] str_slice_cuts.exit frames (record core { function = f; block = 5; at = 2; vars = x ∷ Word (pos i) ∷ Word (pos j) ∷ Flag c ∷ Word (pos (length a)) ∷ Unset ∷ Unset ∷ [] }))
    to_cuts c e = on (enter h.graph refl) (on (gives (Flag false) (is_there t)) (on (many 1 h.graph refl (simp (is_set t))) (on (gives (Flag false) (less_false i 0 (omega arith))) (on (many 1 h.graph refl (simp (is_set t)))
        (on (gives (Flag false) (less_false j 0 (omega arith))) (on (many 1 h.graph refl (simp (is_set t))) (on (gets_length h.text t) (gives (Flag c) (ap (λ t. Ok (Flag t)) e)))))))))

    cuts : (c : Bool) → nat_lt j (length a) ≡ c → Follows p args (Calling f (x ∷ Word (pos i) ∷ Word (pos j) ∷ []) frames core) frames core (type.Ptr 0) w (new_text (drop i (take j a)) w)
    cuts true e = (let some : j < length a = grind (arith, nat_tests, e) in from_six true j (omega (arith, piece, some)) (on (to_cuts true e) (many 1 h.graph refl (simp (is_set t)))) (nat_lt i j) refl)
    cuts false e = (let none : length a ≤ j = grind (arith, nat_tests, e) in from_six false (length a) (omega (arith, piece, none)) (on (to_cuts false e) (many 1 h.graph refl (simp (is_set t)))) (nat_lt i (length a)) refl)

-- ---- without a bound

all_taken : (n : ℕ) (a : List ℕ) → length a ≤ n → take n a ≡ a
all_taken zero [] h = refl
all_taken zero (b ∷ a) h = absurd (omega arith)
all_taken (suc n) [] h = refl
all_taken (suc n) (b ∷ a) h = ap (λ l. b ∷ l) (all_taken n a (omega arith))

first_fits : Fits (pos 0)
first_fits = fits_count 0 (omega arith)

end_fits : Fits (pos 9223372036854775807)
end_fits = fits_count 9223372036854775807 (omega arith)

pub up_to_is : (site : ℕ) → SlicesUpTo (row.Slice site false true)
up_to_is site program p args numbers f frames core w h left x y v u missing (word j fj) = slice_is site program p args numbers f frames core w h left x (Word (pos 0)) (Word j) Nothing (MeantWord (pos 0)) (MeantWord j) missing (word (pos 0) first_fits) (word j fj)
up_to_is site program p args numbers f frames core w h left x y v u (text x2 a t) (word (pos j) fj) = slice_is site program p args numbers f frames core w h left x (Word (pos 0)) (Word (pos j)) (Text a) (MeantWord (pos 0)) (MeantWord (pos j)) (text x a t) (word (pos 0) first_fits) (word (pos j) fj)
up_to_is site program p args numbers f frames core w h left x y v u (text x2 a t) (word (negsuc j) fj) = slice_is site program p args numbers f frames core w h left x (Word (pos 0)) (Word (negsuc j)) (Text a) (MeantWord (pos 0)) (MeantWord (negsuc j)) (text x a t) (word (pos 0) first_fits) (word (negsuc j) fj)

whole : (a : List ℕ) → length a < 2 ^ 63 → take 9223372036854775807 a ≡ a
whole a h = all_taken 9223372036854775807 a (omega (arith, h))

pub from_is : (site : ℕ) → SlicesFrom (row.Slice site true false)
from_is site program p args numbers f frames core w h left x y v u missing (word i fi) = slice_is site program p args numbers f frames core w h left x (Word i) any_end Nothing (MeantWord i) (MeantWord (pos 9223372036854775807)) missing (word i fi) (word (pos 9223372036854775807) end_fits)
from_is site program p args numbers f frames core w h left x y v u (text x2 a t) (word i fi) =
    subst (λ l. Follows p args (Calling f (x ∷ Word i ∷ any_end ∷ []) frames core) frames core (type.Ptr 0) w ((if int_le (pos 0) i && true then new_text (drop (nat_abs i) l) else negative_slice) w)) (whole a t.short)
    (slice_is site program p args numbers f frames core w h left x (Word i) any_end (Text a) (MeantWord i) (MeantWord (pos 9223372036854775807)) (text x a t) (word i fi) (word (pos 9223372036854775807) end_fits))

pub all_is : (site : ℕ) → SlicesAll (row.Slice site false false)
all_is site program p args numbers f frames core w h left x v missing = slice_is site program p args numbers f frames core w h left x (Word (pos 0)) any_end Nothing (MeantWord (pos 0)) (MeantWord (pos 9223372036854775807)) missing (word (pos 0) first_fits) (word (pos 9223372036854775807) end_fits)
all_is site program p args numbers f frames core w h left x v (text x2 a t) =
    subst (λ l. Follows p args (Calling f (x ∷ Word (pos 0) ∷ any_end ∷ []) frames core) frames core (type.Ptr 0) w (new_text l w)) (whole a t.short)
    (slice_is site program p args numbers f frames core w h left x (Word (pos 0)) any_end (Text a) (MeantWord (pos 0)) (MeantWord (pos 9223372036854775807)) (text x a t) (word (pos 0) first_fits) (word (pos 9223372036854775807) end_fits))

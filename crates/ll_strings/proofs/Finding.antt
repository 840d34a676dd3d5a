-- Strings that begin, end or contain others.
use Rattle.std.proofs.Common.{◌≡◌, ◌<◌, ◌≤◌, ℕ, suc, ◌+◌, ◌-◌, ◌^◌, Bool, true, false, ◌&&◌, List, [], ◌∷◌, ◌++◌, length, take, drop, Option, Some, None, Ok, ℤ, pos, negsuc, ◌-ℤ◌, refl, sym, ap, ◌∙◌, subst, arith, append_assoc, length-append, length-take, length-drop}
use Rattle.std.proofs.Math.ListN.{take-append-drop}
use Rattle.std.proofs.lemmas.Bool.Decides.{nat_tests}
use Rattle.std.proofs.lemmas.Int.{int_wrap_fits, ints}
use Rattle.std.proofs.lemmas.List.{append-nil}
use Rattle.std.specs.Int.{w64}
use Rattle.std.specs.List.{starts_with, ends_with}
use Rattle.std.specs.Prelude.{slice_get, cond, nat_le, nat_eq, int_le, is_some, codes, if◌then◌else◌}
use Rattle.std.specs.Str.{bytes_eq}
use Rattle.rpy_base.specs.Word.{Fits, wrap}
use Rattle.rpy_tree.specs.Value.{Flag as MeantFlag}
use Rattle.rpy_tree.specs.declared.syntax.CmpOp.TheVariants as cmp
use Rattle.rpy_meaning.specs.declared.row.RowOp.TheVariants as row
use Rattle.rpy_meaning.specs.Methods.{place_of, place_or_minus_one}
use Rattle.csub_tree.specs.State.{Value, Unset, Word, Flag, Core}
use Rattle.csub_tree.specs.Operation.{binary_of}
use Rattle.csub_tree.specs.declared.tree.CBinary.TheVariants.{Sub, Le}
use Rattle.ll_code.specs.State.{Frame, Calling, At}
use Rattle.ll_code.specs.declared.program.LlType.TheVariants as type
use Rattle.ll_code.specs.declared.program.LlProgram.{LlProgram}
use Rattle.ll_leads.proofs.Ways.{Comes, on, many, enter, gives, call}
use Rattle.ll_texts.specs.Texts.{IsText, HasText}
use Rattle.ll_texts.specs.Stands.{word, flag, text, missing}
use Rattle.ll_texts.specs.Follows.{Gave}
use Rattle.ll_texts.proofs.Reading.{is_set, is_there, gets_length}
use Rattle.ll_texts.proofs.Numbers.{fits_count, adds, subs}
use Rattle.ll_texts.proofs.Following.{gave, failed}
use Rattle.ll_helpers.specs.Loops.{alike_bytes, find_bytes, find_bytes_test}
use Rattle.ll_build.specs.declared.needs.Helper.TheVariants as helper
use Rattle.ll_build.specs.declared.needs.Shared.TheVariants as shared
use Rattle.ll_strings.specs.Laws.{IsTwo}
use Rattle.ll_strings.proofs.Equal.{compares, other_length}

-- ---- bytes

pub equal_turned : (a b : List ℕ) → bytes_eq a b ≡ bytes_eq b a
equal_turned [] [] = refl
equal_turned [] (m ∷ b) = refl
equal_turned (n ∷ a) [] = refl
equal_turned (n ∷ a) (m ∷ b) = ap (λ c. nat_eq n m && c) (equal_turned a b) ∙ ap (λ c. c && bytes_eq b a) (one (nat_eq n m) refl)
  where
    one : (c : Bool) → nat_eq n m ≡ c → c ≡ nat_eq m n
    one true e = grind (arith, nat_tests, e)
    one false e = grind (arith, nat_tests, e)

-- a string in its first bytes and the others
pub cut : {blocks : List (Option _)} {statics : List _} {x : Value} (n : ℕ) (a : List ℕ) → IsText blocks statics x a → IsText blocks statics x (take n a ++ drop n a)
cut {blocks = blocks} {statics = statics} {x = x} n a t = subst (IsText blocks statics x) (sym (take-append-drop n a)) t

pub le_flag : (m n : ℕ) (c : Bool) → nat_le m n ≡ c → binary_of Le (Word (pos m)) (Word (pos n)) ≡ Ok (Flag c)
le_flag m n c e = ap (λ t. Ok (Flag t)) e

pub first_length : (n : ℕ) (a : List ℕ) → n ≤ length a → length (take n a) ≡ n
first_length n a h = omega (arith, length-take n a, h)

-- ---- the beginning

pub starts_is : (site : Option ℕ) → IsTwo helper.StrStartsWith (type.Ptr 0) (type.Ptr 0) type.Bool (row.Method (codes "startswith") site)
starts_is site program p args numbers f frames core w h left x y v u missing s = failed (on (enter h.graph refl) (many 2 h.graph refl refl)) refl
starts_is site program p args numbers f frames core w h left x y v u (text x2 a t) missing = tt
starts_is site program p args numbers f frames core w h left x y v u (text x2 a t) (text y2 b s) = by (nat_le (length b) (length a)) refl
  where
    by : (c : Bool) → nat_le (length b) (length a) ≡ c → Gave p args (Calling f (x ∷ y ∷ []) frames core) frames core type.Bool w (MeantFlag (starts_with nat_eq a b)) w
    by true e =
        let n : ℕ = length b in
        let few : n ≤ length a = grind (arith, nat_tests, e) in
        let l : length (take n a) ≡ n = first_length n a few in
        subst (λ r. Gave p args (Calling f (x ∷ y ∷ []) frames core) frames core type.Bool w (MeantFlag r) w) (equal_turned (take n a) b)
        (gave left (on (enter h.graph refl) (on (gives (Flag false) (is_there t)) (on (many 1 h.graph refl (simp (is_set t, is_set s))) (on (gives (Flag false) (is_there s)) (on (many 1 h.graph refl (simp (is_set t, is_set s))) (on (gets_length h.text t) (on (gets_length h.text s)
        (on (gives (Flag true) (le_flag n (length a) true e)) (on (many 1 h.graph refl (simp (is_set t, is_set s)))
        (on (call (simp (is_set t, is_set s)) (λ waits. compares p args numbers.alike_bytes (h.shared shared.AlikeBytes refl) h.text waits _ x y [] (take n a) (drop n a) [] b [] 0 0 n
        (cut n a t) (subst (IsText core.blocks core.statics y) (sym (append-nil b)) s) (sym l) refl refl (sym l) (omega (arith, s.short)) (omega (arith, s.short))))
        (many 1 h.graph refl refl))))))))))) refl (flag (bytes_eq (take n a) b)))
    by false e =
        let n : ℕ = length b in
        let more : length a < n = grind (arith, nat_tests, e) in
        subst (λ r. Gave p args (Calling f (x ∷ y ∷ []) frames core) frames core type.Bool w (MeantFlag r) w) (sym (other_length b (take n a) (λ q. omega (arith, q, more, length-take n a))))
        (gave left (on (enter h.graph refl) (on (gives (Flag false) (is_there t)) (on (many 1 h.graph refl (simp (is_set t, is_set s))) (on (gives (Flag false) (is_there s)) (on (many 1 h.graph refl (simp (is_set t, is_set s))) (on (gets_length h.text t) (on (gets_length h.text s)
        (on (gives (Flag false) (le_flag n (length a) false e)) (many 2 h.graph refl refl))))))))) refl (flag false))

-- ---- the end

pub ends_is : (site : Option ℕ) → IsTwo helper.StrEndsWith (type.Ptr 0) (type.Ptr 0) type.Bool (row.Method (codes "endswith") site)
ends_is site program p args numbers f frames core w h left x y v u missing s = failed (on (enter h.graph refl) (many 2 h.graph refl refl)) refl
ends_is site program p args numbers f frames core w h left x y v u (text x2 a t) missing = tt
ends_is site program p args numbers f frames core w h left x y v u (text x2 a t) (text y2 b s) = by (nat_le (length b) (length a)) refl
  where
    by : (c : Bool) → nat_le (length b) (length a) ≡ c → Gave p args (Calling f (x ∷ y ∷ []) frames core) frames core type.Bool w (MeantFlag (c && ends_with nat_eq a b)) w
    by true e =
        let n : ℕ = length b in
        let m : ℕ = length a - n in
        let few : n ≤ length a = grind (arith, nat_tests, e) in
        let l : length (take m a) ≡ m = first_length m a (omega arith) in
        let k : length (drop m a) ≡ n = omega (arith, length-drop m a, few) in
        subst (λ r. Gave p args (Calling f (x ∷ y ∷ []) frames core) frames core type.Bool w (MeantFlag r) w) (equal_turned (drop m a) b)
        (gave left (on (enter h.graph refl) (on (gives (Flag false) (is_there t)) (on (many 1 h.graph refl (simp (is_set t, is_set s))) (on (gives (Flag false) (is_there s)) (on (many 1 h.graph refl (simp (is_set t, is_set s))) (on (gets_length h.text t) (on (gets_length h.text s)
        (on (gives (Flag true) (le_flag n (length a) true e)) (on (many 1 h.graph refl (simp (is_set t, is_set s)))
        (on (gives (Word (pos m)) (subs (length a) n m (omega (arith, few)) t.short))
        (on (call (simp (is_set t, is_set s)) (λ waits. compares p args numbers.alike_bytes (h.shared shared.AlikeBytes refl) h.text waits _ x y (take m a) (drop m a) [] [] b [] m 0 n
        (subst (λ z. IsText core.blocks core.statics x (take m a ++ z)) (sym (append-nil (drop m a))) (cut m a t)) (subst (IsText core.blocks core.statics y) (sym (append-nil b)) s) (sym k) (sym l) refl (sym k) (omega (arith, t.short, few)) (omega (arith, s.short))))
        (many 1 h.graph refl refl)))))))))))) refl (flag (bytes_eq (drop m a) b)))
    by false e =
        gave left (on (enter h.graph refl) (on (gives (Flag false) (is_there t)) (on (many 1 h.graph refl (simp (is_set t, is_set s))) (on (gives (Flag false) (is_there s)) (on (many 1 h.graph refl (simp (is_set t, is_set s))) (on (gets_length h.text t) (on (gets_length h.text s)
        (on (gives (Flag false) (le_flag (length b) (length a) false e)) (many 2 h.graph refl refl))))))))) refl (flag false)

-- ---- any place

-- the last place, or a number below zero
abbrev pub last_place : ℕ → ℕ → ℤ
last_place n m = cond (nat_le m n) (pos (n - m)) (negsuc (m - suc n))

pub last_is : (n m : ℕ) → n < 2 ^ 63 → m < 2 ^ 63 → binary_of Sub (Word (pos n)) (Word (pos m)) ≡ Ok (Word (last_place n m))
last_is n m hn hm = one (nat_le m n) refl
  where
    one : (c : Bool) → nat_le m n ≡ c → binary_of Sub (Word (pos n)) (Word (pos m)) ≡ Ok (Word (cond c (pos (n - m)) (negsuc (m - suc n))))
    one true e = (let l : m ≤ n = grind (arith, nat_tests, e) in subs n m (n - m) (omega (arith, l)) hn)
    one false e = (let l : n < m = grind (arith, nat_tests, e) in ap (λ z. Ok (Word z)) ((let q : pos n -ℤ pos m ≡ negsuc (m - suc n) = omega (arith, ints) in ap wrap q) ∙ int_wrap_fits w64 (negsuc (m - suc n)) (omega (arith, ints))))

pub reaches_last : (n m i : ℕ) (c : Bool) → nat_le (i + m) n ≡ c → int_le (pos i) (last_place n m) ≡ c
reaches_last n m i c e = one (nat_le m n) refl c e
  where
    one : (d : Bool) → nat_le m n ≡ d → (c : Bool) → nat_le (i + m) n ≡ c → int_le (pos i) (cond d (pos (n - m)) (negsuc (m - suc n))) ≡ c
    one true q true e = grind (arith, nat_tests, q, e)
    one true q false e = (let l : m ≤ n = grind (arith, nat_tests, q) in let g : n < i + m = grind (arith, nat_tests, e) in let r : n - m < i = omega (arith, l, g) in grind (arith, nat_tests, r))
    one false q true e = absurd (let l : n < m = grind (arith, nat_tests, q) in let g : i + m ≤ n = grind (arith, nat_tests, e) in omega (arith, l, g))
    one false q false e = refl

-- a part that is longer stands nowhere
pub too_long : (part xs : List ℕ) (i : ℕ) → length xs < length part → place_of part i xs ≡ None
too_long part [] i h = ap (λ c. if c then Some i else None) (other_length part (take (length part) []) (λ q. omega (arith, q, h, length-take {A = ℕ} (length part) [])))
too_long part (b ∷ xs) i h = ap (λ c. if c then Some i else place_of part (suc i) xs) (other_length part (take (length part) (b ∷ xs)) (λ q. omega (arith, q, h, length-take (length part) (b ∷ xs)))) ∙ too_long part xs (suc i) (omega (arith, h))

-- no byte stands everywhere
nothing_stands : (part : List ℕ) → length part ≤ 0 → bytes_eq (take (length part) []) part ≡ true
nothing_stands [] h = refl
nothing_stands (m ∷ part) h = absurd (omega arith)

-- a place lies in the string
within : (part xs : List ℕ) (i n : ℕ) → n ≡ i + length xs → n < 2 ^ 63 → Fits (place_or_minus_one (place_of part i xs))
within part [] i n e h = one (starts_with nat_eq [] part)
  where
    one : (c : Bool) → Fits (place_or_minus_one (if c then Some i else None))
    one true = fits_count i (omega (arith, e, h))
    one false = omega (arith, ints)
within part (b ∷ xs) i n e h = one (within part xs (suc i) n (omega (arith, e)) h) (starts_with nat_eq (b ∷ xs) part)
  where
    one : Fits (place_or_minus_one (place_of part (suc i) xs)) → (c : Bool) → Fits (place_or_minus_one (if c then Some i else place_of part (suc i) xs))
    one ih true = fits_count i (omega (arith, e, h))
    one ih false = ih

module _ (p : LlProgram) (args : List (List ℕ)) (find alike : ℕ) (of : slice_get p.graphs find ≡ Some (find_bytes alike)) (alike_of : slice_get p.graphs alike ≡ Some alike_bytes) (texts : HasText p) (frames : List Frame) (core : Core) (x y : Value) (part : List ℕ) (s : IsText core.blocks core.statics y part) where
  abbrev looks_at : ℕ → ℕ → Value → Core
  looks_at n i a = record core { function = find; block = 1; at = 0; vars = x ∷ Word (pos n) ∷ y ∷ Word (pos (length part)) ∷ Word (last_place n (length part)) ∷ Word (pos i) ∷ a ∷ [] }

  abbrev Looks : ℕ → ℕ → Value → Option ℕ → Type 0
  Looks n i a o = Comes p args (At find_bytes_test.ops find_bytes_test.exit frames (looks_at n i a)) [] (Word (place_or_minus_one o)) frames core

  module _ (pre xs : List ℕ) (n i : ℕ) (a : Value) (t : IsText core.blocks core.statics x (pre ++ xs)) (ei : i ≡ length pre) (en : n ≡ i + length xs) (nb : n < 2 ^ 63) where
    stands_not : nat_le (i + length part) n ≡ false → Looks n i a (place_of part i xs)
    stands_not e = (let g : n < i + length part = grind (arith, nat_tests, e) in
        subst (Looks n i a) (sym (too_long part xs i (omega (arith, g, en))))
        (record { end = _; same = refl; leads = on (gives (Flag false) (ap (λ t. Ok (Flag t)) (reaches_last n (length part) i false e))) (many 2 of refl refl) }))

    compares_here : (e : nat_le (i + length part) n ≡ true) (r : Bool) → bytes_eq (take (length part) xs) part ≡ r → (waits : List Frame) (now : Core) → now.blocks ≡ core.blocks → now.statics ≡ core.statics → Comes p args (Calling alike (x ∷ Word (pos i) ∷ y ∷ Word (pos 0) ∷ Word (pos (length part)) ∷ []) waits now) [] (Flag r) waits now
    compares_here e r q waits now same_blocks same_statics =
        let m : ℕ = length part in
        let g : i + m ≤ n = grind (arith, nat_tests, e) in
        let l : length (take m xs) ≡ m = first_length m xs (omega (arith, g, en)) in
        let t2 : IsText now.blocks now.statics x (pre ++ (take m xs ++ drop m xs)) = subst (λ bs. IsText bs now.statics x (pre ++ (take m xs ++ drop m xs))) (sym same_blocks) (subst (λ ss. IsText core.blocks ss x (pre ++ (take m xs ++ drop m xs))) (sym same_statics) (subst (λ z. IsText core.blocks core.statics x (pre ++ z)) (sym (take-append-drop m xs)) t)) in
        let s2 : IsText now.blocks now.statics y (part ++ []) = subst (λ bs. IsText bs now.statics y (part ++ [])) (sym same_blocks) (subst (λ ss. IsText core.blocks ss y (part ++ [])) (sym same_statics) (subst (IsText core.blocks core.statics y) (sym (append-nil part)) s)) in
        subst (λ r. Comes p args (Calling alike (x ∷ Word (pos i) ∷ y ∷ Word (pos 0) ∷ Word (pos m) ∷ []) waits now) [] (Flag r) waits now) q
        (compares p args alike alike_of texts waits now x y pre (take m xs) (drop m xs) [] part [] i 0 m t2 s2 (sym l) ei refl (sym l) (omega (arith, g, nb)) (omega (arith, s.short)))

    stands_here : nat_le (i + length part) n ≡ true → bytes_eq (take (length part) xs) part ≡ true → Looks n i a (Some i)
    stands_here e q = record {
      end = _;
      same = refl;
      leads = on (gives (Flag true) (ap (λ t. Ok (Flag t)) (reaches_last n (length part) i true e))) (on (many 1 of refl (simp (is_set t, is_set s)))
          (on (call (simp (is_set t, is_set s)) (λ waits. compares_here e true q waits _ refl refl)) (many 2 of refl refl)));
    }

    goes_on_from : nat_le (i + length part) n ≡ true → bytes_eq (take (length part) xs) part ≡ false → i + 1 < 2 ^ 63 → (o : Option ℕ) → Looks n (i + 1) (Flag false) o → Looks n i a o
    goes_on_from e q small o ih = record {
      end = ih.end;
      same = ih.same;
      leads = on (gives (Flag true) (ap (λ t. Ok (Flag t)) (reaches_last n (length part) i true e))) (on (many 1 of refl (simp (is_set t, is_set s)))
          (on (call (simp (is_set t, is_set s)) (λ waits. compares_here e false q waits _ refl refl)) (on (many 1 of refl (simp (is_set t, is_set s)))
          (on (gives (Word (pos (i + 1))) (adds i 1 small)) (on (many 1 of refl (simp (is_set t, is_set s))) ih.leads)))));
    }

  found : (pre xs : List ℕ) (n i : ℕ) (a : Value) → IsText core.blocks core.statics x (pre ++ xs) → i ≡ length pre → n ≡ i + length xs → n < 2 ^ 63 → Looks n i a (place_of part i xs)
  found pre [] n i a t ei en nb = by (nat_le (i + length part) n) refl
    where
      by : (c : Bool) → nat_le (i + length part) n ≡ c → Looks n i a (place_of part i [])
      by false e = stands_not pre [] n i a t ei en nb e
      by true e = (let g : i + length part ≤ n = grind (arith, nat_tests, e) in
          let q : bytes_eq (take (length part) []) part ≡ true = nothing_stands part (omega (arith, g, en)) in
          subst (λ c. Looks n i a (if c then Some i else None)) (sym q ∙ equal_turned (take (length part) []) part) (stands_here pre [] n i a t ei en nb e q))
  found pre (b ∷ xs) n i a t ei en nb = by (found (pre ++ b ∷ []) xs n (i + 1) (Flag false) (subst (IsText core.blocks core.statics x) (sym (append_assoc pre (b ∷ []) xs)) t) (omega (arith, ei, length-append pre (b ∷ []))) (omega (arith, en)) nb) (nat_le (i + length part) n) refl
    where
      looked : Looks n (i + 1) (Flag false) (place_of part (i + 1) xs) → nat_le (i + length part) n ≡ true → (r : Bool) → bytes_eq (take (length part) (b ∷ xs)) part ≡ r → Looks n i a (if r then Some i else place_of part (suc i) xs)
      looked ih e true q = stands_here pre (b ∷ xs) n i a t ei en nb e q
      looked ih e false q = goes_on_from pre (b ∷ xs) n i a t ei en nb e q (omega (arith, en, nb)) (place_of part (suc i) xs) (let k : i + 1 ≡ suc i = omega arith in subst (λ j. Looks n (i + 1) (Flag false) (place_of part j xs)) k ih)

      by : Looks n (i + 1) (Flag false) (place_of part (i + 1) xs) → (c : Bool) → nat_le (i + length part) n ≡ c → Looks n i a (place_of part i (b ∷ xs))
      by ih false e = stands_not pre (b ∷ xs) n i a t ei en nb e
      by ih true e = subst (λ c. Looks n i a (if c then Some i else place_of part (suc i) xs)) (equal_turned (take (length part) (b ∷ xs)) part) (looked ih e (bytes_eq (take (length part) (b ∷ xs)) part) refl)

  pub finds : (bytes : List ℕ) → IsText core.blocks core.statics x bytes → Comes p args (Calling find (x ∷ Word (pos (length bytes)) ∷ y ∷ Word (pos (length part)) ∷ []) frames core) [] (Word (place_or_minus_one (place_of part 0 bytes))) frames core
  finds bytes t = (let c = found [] bytes (length bytes) 0 Unset t refl (omega arith) t.short in
      record { end = c.end; same = c.same; leads = on (enter of refl) (on (gives (Word (last_place (length bytes) (length part))) (last_is (length bytes) (length part) t.short s.short)) (on (many 1 of refl (simp (is_set t, is_set s))) c.leads)) })

pub find_is : (site : Option ℕ) → IsTwo helper.StrFind (type.Ptr 0) (type.Ptr 0) type.Signed (row.Method (codes "find") site)
find_is site program p args numbers f frames core w h left x y v u missing s = failed (on (enter h.graph refl) (many 2 h.graph refl refl)) refl
find_is site program p args numbers f frames core w h left x y v u (text x2 a t) missing = tt
find_is site program p args numbers f frames core w h left x y v u (text x2 a t) (text y2 b s) =
    gave left (on (enter h.graph refl) (on (gives (Flag false) (is_there t)) (on (many 1 h.graph refl (simp (is_set t, is_set s))) (on (gives (Flag false) (is_there s)) (on (many 1 h.graph refl (simp (is_set t, is_set s))) (on (gets_length h.text t) (on (gets_length h.text s)
    (on (call (simp (is_set t, is_set s)) (λ waits. finds p args numbers.find_bytes numbers.alike_bytes (h.shared shared.FindBytes refl) (h.shared shared.AlikeBytes refl) h.text waits _ x y b s a t)) (many 1 h.graph refl refl)))))))))
    refl (word (place_or_minus_one (place_of b 0 a)) (within b a 0 (length a) (omega arith) t.short))

is_place : (o : Option ℕ) → int_le (pos 0) (place_or_minus_one o) ≡ is_some o
is_place None = refl
is_place (Some i) = grind (arith, nat_tests)

pub contains_is : IsTwo helper.StrContains (type.Ptr 0) (type.Ptr 0) type.Bool (row.Compare cmp.Within)
contains_is program p args numbers f frames core w h left x y v u missing missing = failed (on (enter h.graph refl) (many 2 h.graph refl refl)) refl
contains_is program p args numbers f frames core w h left x y v u (text x2 a t) missing = failed (on (enter h.graph refl) (many 2 h.graph refl refl)) refl
contains_is program p args numbers f frames core w h left x y v u missing (text y2 b s) = tt
contains_is program p args numbers f frames core w h left x y v u (text x2 a t) (text y2 b s) =
    gave left (on (enter h.graph refl) (on (gives (Flag false) (is_there s)) (on (many 1 h.graph refl (simp (is_set t, is_set s))) (on (gives (Flag false) (is_there t)) (on (many 1 h.graph refl (simp (is_set t, is_set s))) (on (gets_length h.text s) (on (gets_length h.text t)
    (on (call (simp (is_set t, is_set s)) (λ waits. finds p args numbers.find_bytes numbers.alike_bytes (h.shared shared.FindBytes refl) (h.shared shared.AlikeBytes refl) h.text waits _ y x a t b s))
    (on (gives (Flag (is_some (place_of a 0 b))) (ap (λ t. Ok (Flag t)) (is_place (place_of a 0 b)))) (many 1 h.graph refl refl))))))))))
    refl (flag (is_some (place_of a 0 b)))

-- The number of a text, digit by digit.
use Rattle.std.proofs.Common.{◌≡◌, ◌<◌, ◌≤◌, ℕ, zero, suc, ◌+◌, ◌-◌, ◌*◌, ◌==◌, Bool, true, false, List, [], ◌∷◌, Option, Some, None, ℤ, pos, refl, sym, ap, ◌∙◌, subst, arith}
use Rattle.std.specs.Ordering.{int_eq}
use Rattle.rpy_base.specs.Word.{Fits, wrap}
use Rattle.std.specs.Prelude.{drop, nat_le, nat_lt, neg_ℤ, cond, ◌&&◌, if◌then◌else◌}
use Rattle.std.specs.List.{list_all}
use Rattle.std.specs.Str.Parse.{digits_value_after, digits_value}
use Rattle.std.specs.Char.{digit_value}
use Rattle.std.proofs.lemmas.Bool.Decides.{nat_tests}
use Rattle.csub_tree.specs.Operation.{fits as low_fits}
use Rattle.rpy_tree.specs.Value.{Word as MeantWord}
use Rattle.rpy_meaning.specs.Methods.{is_digit, are_digits, number}
use Rattle.rpy_meaning.specs.World.{World, Op, give, no_number}
use Rattle.lower_laws.proofs.Fitting.{fits_so, wraps_so}

-- the sum so far, below zero or not, and what is left
abbrev pub signed : Bool → ℕ → ℤ
signed true m = neg_ℤ (pos m)
signed false m = pos m

abbrev pub closed : Bool → ℕ → Option ℤ
closed true m = Some (neg_ℤ (pos m))
closed false m = if m == 9223372036854775808 then None else Some (pos m)

abbrev pub next_sum : ℕ → ℕ → ℕ
next_sum m k = m * 10 + (k - 48)

abbrev pub reads : Bool → ℕ → List ℕ → Option ℤ
reads b m [] = closed b m
reads b m (k ∷ ds) = if is_digit k then (if nat_le (next_sum m k) 9223372036854775808 then reads b (next_sum m k) ds else None) else None

abbrev pub reads_some : Bool → List ℕ → Option ℤ
reads_some b [] = None
reads_some b (k ∷ ds) = reads b 0 (k ∷ ds)

abbrev pub reads_signed : List ℕ → Option ℤ
reads_signed [] = None
reads_signed (k ∷ ds) = if k == 45 then reads_some true ds else (if k == 43 then reads_some false ds else reads_some false (k ∷ ds))

-- ---- it is the number

at_least : (m : ℕ) (ds : List ℕ) → m ≤ digits_value_after 10 m ds
at_least m [] = omega arith
at_least m (k ∷ ds) = (let h : m * 10 + digit_value k ≤ digits_value_after 10 (m * 10 + digit_value k) ds = at_least (m * 10 + digit_value k) ds in omega (arith, h))

digit_is : (k : ℕ) → is_digit k ≡ true → digit_value k ≡ k - 48
digit_is k h = by (nat_lt k 48) (nat_lt k 58) refl refl
  where
    by : (c d : Bool) → nat_lt k 48 ≡ c → nat_lt k 58 ≡ d → cond c 36 (cond d (k - 48) (cond (nat_lt k 65) 36 (cond (nat_lt k 91) (k - 55) (cond (nat_lt k 97) 36 (cond (nat_lt k 123) (k - 87) 36))))) ≡ k - 48
    by true d e f = grind (arith, nat_tests, e, h)
    by false true e f = refl
    by false false e f = grind (arith, nat_tests, f, h)

fits_signed : (m : ℕ) → m ≤ 9223372036854775808 → low_fits (signed true m) ≡ true
fits_signed zero h = refl
fits_signed (suc n) h = (let l : n < 9223372036854775808 = omega (arith, h) in grind (arith, nat_tests, l))

too_large : (b : Bool) (m : ℕ) → 9223372036854775808 < m → low_fits (signed b m) ≡ false
too_large true zero h = absurd (omega (arith, h))
too_large true (suc n) h = (let l : 9223372036854775808 ≤ n = omega (arith, h) in grind (arith, nat_tests, l))
too_large false m h = (let l : 9223372036854775808 ≤ m = omega (arith, h) in grind (arith, nat_tests, l))

abbrev if_number : Bool → ℤ → Option ℤ
if_number c z = if c then Some z else None

reads_is : (b : Bool) (m : ℕ) (ds : List ℕ) → m ≤ 9223372036854775808 → reads b m ds ≡ if_number (list_all is_digit ds && low_fits (signed b (digits_value_after 10 m ds))) (signed b (digits_value_after 10 m ds))
reads_is true m [] h = sym (ap (λ c. if_number c (neg_ℤ (pos m))) (fits_signed m h))
reads_is false m [] h = by (m == 9223372036854775808) refl
  where
    by : (c : Bool) → (m == 9223372036854775808) ≡ c → (if c then None else Some (pos m)) ≡ if_number (low_fits (pos m)) (pos m)
    by true e = (let q : nat_lt m 9223372036854775808 ≡ false = grind (arith, nat_tests, e) in sym (ap (λ c. if_number c (pos m)) q))
    by false e = (let q : nat_lt m 9223372036854775808 ≡ true = grind (arith, nat_tests, e, h) in sym (ap (λ c. if_number c (pos m)) q))
reads_is b m (k ∷ ds) h = by (λ v l. reads_is b v ds l) (is_digit k) refl
  where
    after : ℕ
    after = digits_value_after 10 (m * 10 + digit_value k) ds

    inner : ((v : ℕ) → v ≤ 9223372036854775808 → reads b v ds ≡ if_number (list_all is_digit ds && low_fits (signed b (digits_value_after 10 v ds))) (signed b (digits_value_after 10 v ds))) → is_digit k ≡ true → (c : Bool) → nat_le (next_sum m k) 9223372036854775808 ≡ c → (if c then reads b (next_sum m k) ds else None) ≡ if_number (list_all is_digit ds && low_fits (signed b after)) (signed b after)
    inner ih d true e =
        let same : next_sum m k ≡ m * 10 + digit_value k = ap (λ v. m * 10 + v) (sym (digit_is k d)) in
        ih (next_sum m k) (grind (arith, nat_tests, e)) ∙ ap (λ v. if_number (list_all is_digit ds && low_fits (signed b (digits_value_after 10 v ds))) (signed b (digits_value_after 10 v ds))) same
    inner ih d false e =
        let same : next_sum m k ≡ m * 10 + digit_value k = ap (λ v. m * 10 + v) (sym (digit_is k d)) in
        let above : 9223372036854775808 < next_sum m k = grind (arith, nat_tests, e) in
        let more : m * 10 + digit_value k ≤ after = at_least (m * 10 + digit_value k) ds in
        let large : low_fits (signed b after) ≡ false = too_large b after (omega (arith, same, above, more)) in
        none (list_all is_digit ds) large
      where
        none : (c : Bool) → low_fits (signed b after) ≡ false → None ≡ if_number (c && low_fits (signed b after)) (signed b after)
        none true l = sym (ap (λ c. if_number c (signed b after)) l)
        none false l = refl

    by : ((v : ℕ) → v ≤ 9223372036854775808 → reads b v ds ≡ if_number (list_all is_digit ds && low_fits (signed b (digits_value_after 10 v ds))) (signed b (digits_value_after 10 v ds))) → (c : Bool) → is_digit k ≡ c → (if c then (if nat_le (next_sum m k) 9223372036854775808 then reads b (next_sum m k) ds else None) else None) ≡ if_number ((c && list_all is_digit ds) && low_fits (signed b after)) (signed b after)
    by ih true e = inner ih e (nat_le (next_sum m k) 9223372036854775808) refl
    by ih false e = refl

-- ---- the answer

abbrev pub numbered : Option ℤ → Op
numbered None = no_number
numbered (Some z) = give (MeantWord z)

abbrev if_given : Bool → ℤ → Op
if_given c z = if c then give (MeantWord z) else no_number

given_so : (c : Bool) (z : ℤ) (w : World) → if_given c z w ≡ numbered (if_number c z) w
given_so true z w = refl
given_so false z w = refl

some_is : (b : Bool) (ds : List ℕ) (w : World) → if_given (are_digits ds && int_eq (wrap (signed b (digits_value 10 ds))) (signed b (digits_value 10 ds))) (signed b (digits_value 10 ds)) w ≡ numbered (reads_some b ds) w
some_is b [] w = refl
some_is b (d ∷ ds) w =
    let z : ℤ = signed b (digits_value 10 (d ∷ ds)) in
    ap (λ c. if_given (list_all is_digit (d ∷ ds) && c) z w) (wraps_so z (low_fits z) refl) ∙ given_so (list_all is_digit (d ∷ ds) && low_fits z) z w ∙ ap (λ o. numbered o w) (sym (reads_is b 0 (d ∷ ds) (omega arith)))

pub number_is : (text : List ℕ) (w : World) → number text w ≡ numbered (reads_signed text) w
number_is [] w = refl
number_is (k ∷ ds) w = minus (k == 45) refl
  where
    -- what it is by its first byte, where this is left without a plus
    by_rest : Bool → List ℕ → Op
    by_rest m rest = if_given (are_digits (cond m ds rest) && int_eq (wrap (cond m (neg_ℤ (pos (digits_value 10 (cond m ds rest)))) (pos (digits_value 10 (cond m ds rest))))) (cond m (neg_ℤ (pos (digits_value 10 (cond m ds rest)))) (pos (digits_value 10 (cond m ds rest)))))
        (cond m (neg_ℤ (pos (digits_value 10 (cond m ds rest)))) (pos (digits_value 10 (cond m ds rest))))

    said : Bool → Bool → Op
    said m p = by_rest m (cond p ds (k ∷ ds))

    drop_if : (c : Bool) → drop (cond c 1 0) (k ∷ ds) ≡ cond c ds (k ∷ ds)
    drop_if true = refl
    drop_if false = refl

    is_said : (m : Bool) → (k == 45) ≡ m → number (k ∷ ds) w ≡ said m (k == 43) w
    is_said m e = ap (λ l. by_rest (k == 45) l w) (drop_if (k == 43)) ∙ ap (λ c. by_rest c (cond (k == 43) ds (k ∷ ds)) w) e

    plus : (p : Bool) → (k == 43) ≡ p → said false p w ≡ numbered (if p then reads_some false ds else reads_some false (k ∷ ds)) w
    plus true e = some_is false ds w
    plus false e = some_is false (k ∷ ds) w

    minus : (m : Bool) → (k == 45) ≡ m → number (k ∷ ds) w ≡ numbered (if m then reads_some true ds else (if k == 43 then reads_some false ds else reads_some false (k ∷ ds))) w
    minus true e = is_said true e ∙ some_is true ds w
    minus false e = is_said false e ∙ plus (k == 43) refl

-- ---- what is read is a word

closed_fits : (b : Bool) (m : ℕ) → m ≤ 9223372036854775808 → (z : ℤ) → closed b m ≡ Some z → Fits z
closed_fits true m h z e = (let q : neg_ℤ (pos m) ≡ z = cc in subst Fits q (fits_so (neg_ℤ (pos m)) (fits_signed m h)))
closed_fits false m h z e = by (m == 9223372036854775808) refl e
  where
    by : (c : Bool) → (m == 9223372036854775808) ≡ c → (if c then None else Some (pos m)) ≡ Some z → Fits z
    by true q e = absurd (cc)
    by false q e = (let s : pos m ≡ z = cc in subst Fits s (fits_so (pos m) (let l : m < 9223372036854775808 = grind (arith, nat_tests, q, h) in grind (arith, nat_tests, l))))

reads_fits : (b : Bool) (m : ℕ) (ds : List ℕ) → m ≤ 9223372036854775808 → (z : ℤ) → reads b m ds ≡ Some z → Fits z
reads_fits b m [] h z e = closed_fits b m h z e
reads_fits b m (k ∷ ds) h z e = by (λ l. reads_fits b (next_sum m k) ds l z) (is_digit k) (nat_le (next_sum m k) 9223372036854775808) refl e
  where
    by : (next_sum m k ≤ 9223372036854775808 → reads b (next_sum m k) ds ≡ Some z → Fits z) → (c d : Bool) → nat_le (next_sum m k) 9223372036854775808 ≡ d → (if c then (if d then reads b (next_sum m k) ds else None) else None) ≡ Some z → Fits z
    by ih true true q e = ih (grind (arith, nat_tests, q)) e
    by ih true false q e = absurd (cc)
    by ih false d q e = absurd (cc)

some_fits : (b : Bool) (ds : List ℕ) (z : ℤ) → reads_some b ds ≡ Some z → Fits z
some_fits b [] z e = absurd (cc)
some_fits b (k ∷ ds) z e = reads_fits b 0 (k ∷ ds) (omega arith) z e

pub word_read : (text : List ℕ) (z : ℤ) → reads_signed text ≡ Some z → Fits z
word_read [] z e = absurd (cc)
word_read (k ∷ ds) z e = by (k == 45) (k == 43) e
  where
    by : (c d : Bool) → (if c then reads_some true ds else (if d then reads_some false ds else reads_some false (k ∷ ds))) ≡ Some z → Fits z
    by true d e = some_fits true ds z e
    by false true e = some_fits false ds z e
    by false false e = some_fits false (k ∷ ds) z e

-- Rows of attributes, one after the other.
use Rattle.std.proofs.Common.{◌≡◌, ◌<◌, ℕ, zero, suc, ◌+◌, ◌-◌, List, [], ◌∷◌, ◌++◌, length, drop, slice_get, refl, sym, ap, ◌∙◌, append_assoc, arith}
use Rattle.class_desc.specs.Tables.{Tables, declared}
use Rattle.ann_layout.specs.Layout.{numbers, named_row, named_at, named_rows, declared_count}

first_name : (names : List (List ℕ)) (i n : ℕ) → i < length names → named_row n (drop i names) ≡ named_at n (slice_get names i) ++ named_row (suc n) (drop (suc i) names)
first_name [] i n lt = absurd (omega (arith, lt))
first_name (name ∷ names) zero n lt = refl
first_name (name ∷ names) (suc i) n lt = first_name names i n (omega (arith, lt))

pub kept_row : (names : List (List ℕ)) (i n : ℕ) (row new all : List (List ℕ × ℕ)) → i < length names → row ++ named_row n (drop i names) ≡ all
    → new ≡ row ++ named_at n (slice_get names i) → new ++ named_row (n + 1) (drop (i + 1) names) ≡ all
kept_row names i n row new all lt h e =
    let after : n + 1 ≡ suc n = omega arith in
    let next : i + 1 ≡ suc i = omega arith in
    ap (λ x. x ++ named_row (n + 1) (drop (i + 1) names)) e
    ∙ ap (λ m. (row ++ named_at n (slice_get names i)) ++ named_row m (drop (i + 1) names)) after
    ∙ ap (λ j. (row ++ named_at n (slice_get names i)) ++ named_row (suc n) (drop j names)) next
    ∙ append_assoc row (named_at n (slice_get names i)) (named_row (suc n) (drop (suc i) names))
    ∙ sym (ap (λ x. row ++ x) (first_name names i n lt))
    ∙ h

pub kept_rows : (t : Tables) (c n next : ℕ) (all new whole : List (List (List ℕ × ℕ))) → c < n → all ++ named_rows t next c (n - c) ≡ whole
    → new ≡ all ++ named_row next (declared t c) ∷ [] → new ++ named_rows t (next + length (declared t c)) (c + 1) (n - (c + 1)) ≡ whole
kept_rows t c n next all new whole lt h e =
    let one : n - c ≡ suc (n - (c + 1)) = omega (arith, lt) in
    let after : c + 1 ≡ suc c = omega arith in
    ap (λ x. x ++ named_rows t (next + length (declared t c)) (c + 1) (n - (c + 1))) e
    ∙ ap (λ d. (all ++ named_row next (declared t c) ∷ []) ++ named_rows t (next + length (declared t c)) d (n - (c + 1))) after
    ∙ append_assoc all (named_row next (declared t c) ∷ []) (named_rows t (next + length (declared t c)) (suc c) (n - (c + 1)))
    ∙ sym (ap (λ m. all ++ named_rows t next c m) one)
    ∙ h

pub kept_count : (t : Tables) (c n next total : ℕ) → c < n → next + declared_count t c (n - c) ≡ total
    → (next + length (declared t c)) + declared_count t (c + 1) (n - (c + 1)) ≡ total
kept_count t c n next total lt h =
    let one : n - c ≡ suc (n - (c + 1)) = omega (arith, lt) in
    let after : c + 1 ≡ suc c = omega arith in
    let grouped : (next + length (declared t c)) + declared_count t (suc c) (n - (c + 1)) ≡ next + (length (declared t c) + declared_count t (suc c) (n - (c + 1))) = omega arith in
    let moved : next + declared_count t c (n - c) ≡ next + (length (declared t c) + declared_count t (suc c) (n - (c + 1))) = ap (λ m. next + declared_count t c m) one in
    ap (λ d. (next + length (declared t c)) + declared_count t d (n - (c + 1))) after
    ∙ grouped
    ∙ sym moved ∙ h

pub kept_numbers : (i count n m : ℕ) (row new all : List ℕ) → i < count → m ≡ n + 1 → row ++ numbers n (count - i) ≡ all → new ≡ row ++ n ∷ []
    → new ++ numbers m (count - (i + 1)) ≡ all
kept_numbers i count n m row new all lt next h e =
    let one : count - i ≡ suc (count - (i + 1)) = omega (arith, lt) in
    let after : m ≡ suc n = omega (arith, next) in
    ap (λ x. x ++ numbers m (count - (i + 1))) e
    ∙ ap (λ k. (row ++ n ∷ []) ++ numbers k (count - (i + 1))) after
    ∙ append_assoc row (n ∷ []) (numbers (suc n) (count - (i + 1)))
    ∙ sym (ap (λ k. row ++ numbers n k) one)
    ∙ h

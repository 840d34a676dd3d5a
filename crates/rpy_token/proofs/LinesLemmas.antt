-- Newlines, counted.
use Rattle.std.proofs.Common.{◌≡◌, ℕ, ◌+◌, ◌≤◌, ◌++◌, cond, eqb, List, length, take, drop, sym, ap, ◌∙◌, arith}
use Rattle.std.specs.List.{count_by}
use Rattle.std.proofs.lemmas.List.{length-take, length-drop, take-append-drop, take-take, drop-take}
use Rattle.std.proofs.lemmas.List.Sums.{count_by-le-length, sum_by-append}
use Rattle.rpy_token.specs.Bytes.{Bytes}
use Rattle.rpy_token.specs.Lines.{Spot, rest_at, line_of}

pub newlines_bound : (bytes : List ℕ) (n : ℕ) → count_by (λ b. eqb b 10) (take n bytes) ≤ length bytes
newlines_bound bytes n = omega (arith, count_by-le-length (λ b. eqb b 10) (take n bytes), length-take n bytes)

take-add : (bytes : List ℕ) (at n : ℕ) → take (at + n) bytes ≡ take at bytes ++ take n (drop at bytes)
take-add bytes at n =
    let front : take at (take (at + n) bytes) ≡ take at bytes = take-take at (at + n) bytes (omega arith) in
    let back : drop at (take (at + n) bytes) ≡ take n (drop at bytes) = drop-take at n bytes in
    sym (take-append-drop at (take (at + n) bytes)) ∙ ap (λ xs. xs ++ drop at (take (at + n) bytes)) front ∙ ap (λ ys. take at bytes ++ ys) back

pub newlines_more : (bytes : List ℕ) (at n : ℕ) → count_by (λ b. eqb b 10) (take (at + n) bytes) ≡ count_by (λ b. eqb b 10) (take at bytes) + count_by (λ b. eqb b 10) (take n (drop at bytes))
newlines_more bytes at n =
    ap (count_by (λ b. eqb b 10)) (take-add bytes at n) ∙ sum_by-append (λ b. cond (eqb b 10) 1 0) (take at bytes) (take n (drop at bytes))

-- the line after so many bytes more
pub skipped : (source : Bytes) (at line n passed : ℕ) (spot : Spot) (rest : Bytes) → record { source = source; at = at } ≡ spot → n ≤ length (rest_at spot) → rest ≡ rest_at spot
    → passed ≡ count_by (λ b. eqb b 10) (take n rest) → line ≡ line_of source at → at ≤ length source
    → (at + n ≤ length source) × (line + passed ≡ line_of source (at + n))
skipped source at line n passed spot rest is in_range rest_is passed_is line_is at_in_range =
    let r : rest ≡ drop at source = rest_is ∙ ap rest_at (sym is) in
    let size : n ≤ length (drop at source) = omega (arith, ap length rest_is, ap length r) in
    let p : passed ≡ count_by (λ b. eqb b 10) (take n (drop at source)) = passed_is ∙ ap (λ xs. count_by (λ b. eqb b 10) (take n xs)) r in
    (omega (arith, length-drop at source), omega (arith, newlines_more source at n, p, line_is))

-- The value of more digits is no smaller.
use Rattle.std.proofs.Common.{◌≡◌, ℕ, suc, ◌+◌, ◌*◌, ◌^◌, ◌<◌, ◌≤◌, List, [], ◌∷◌, ap, ◌∙◌, arith, sym, drop, get_or, length}
use Rattle.std.proofs.Math.Seq.{drop-cons}
use Rattle.std.proofs.lemmas.List.{at_drop_all}
use Rattle.rpy_token.specs.Number.{digit, value_from}

le-mul : (base value : ℕ) → 0 < base → value ≤ value * base
le-mul base value some = grind arith

grows : (base value : ℕ) (bs : List ℕ) → 0 < base → value ≤ value_from base value bs
unfolding value_from
grows base value [] some = omega arith
grows base value (b ∷ bs) some =
    omega (arith, grows base (value * base + digit b) bs some, le-mul base value some)

-- where one digit leads past a bound, all of them do
pub value_past : (base : ℕ) (all : List ℕ) (value i b : ℕ) → 0 < base → i < length all → b ≡ get_or all i 0 → value_from base 0 all ≡ value_from base value (drop i all)
    → ¬ (value * base + digit b < 2 ^ 64) → ¬ (value_from base 0 all < 2 ^ 64)
unfolding value_from
value_past base all value i b some within is so_far past =
    let turn : drop i all ≡ b ∷ drop (suc i) all = drop-cons all i 0 within ∙ ap (λ x. x ∷ drop (suc i) all) (sym is) in
    let next : value_from base 0 all ≡ value_from base (value * base + digit b) (drop (suc i) all) = so_far ∙ ap (value_from base value) turn in
    let more = grows base (value * base + digit b) (drop (suc i) all) some in
    λ small. past (omega arith)

-- no digit is left
pub value_whole : (base : ℕ) (all : List ℕ) (value i : ℕ) → value_from base 0 all ≡ value_from base value (drop i all) → length all ≤ i → value_from base 0 all ≡ value
unfolding value_from
value_whole base all value i so_far done = so_far ∙ at_drop_all (value_from base value) all i done

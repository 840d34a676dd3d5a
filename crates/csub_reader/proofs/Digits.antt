-- Digits that are read one by one.
use Rattle.std.proofs.Common.{◌≡◌, ℕ, suc, ◌+◌, ◌*◌, ◌-◌, ◌^◌, ◌<◌, ◌≤◌, Bool, true, false, cond, List, [], ◌∷◌, ap, ◌∙◌, arith, sym, drop, get_or, length, refl}
use Rattle.std.proofs.Math.Seq.{drop-cons}
use Rattle.std.proofs.lemmas.List.{at_drop_all}
use Rattle.csub_text.specs.Read.{lead, is_digit}

grows_at : (d : Bool) (n b : ℕ) (more : ℕ) → (n * 10 + (b - 48)) ≤ more → n ≤ cond d more n
grows_at true n b more h = omega (arith, h)
grows_at false n b more h = omega arith

grows : (n : ℕ) (bs : List ℕ) → n ≤ lead n bs
unfolding lead
grows n [] = omega arith
grows n (b ∷ bs) = grows_at (is_digit b) n b (lead (n * 10 + (b - 48)) bs) (grows (n * 10 + (b - 48)) bs)

lead_cons : (n b : ℕ) (bs : List ℕ) → lead n (b ∷ bs) ≡ cond (is_digit b) (lead (n * 10 + (b - 48)) bs) n
unfolding lead
lead_cons n b bs = refl

-- one digit more
pub lead_turn : (all : List ℕ) (n i b : ℕ) → i < length all → b ≡ get_or all i 0 → is_digit b ≡ true → lead 0 all ≡ lead n (drop i all) → lead 0 all ≡ lead (n * 10 + (b - 48)) (drop (suc i) all)
lead_turn all n i b within is digit so_far =
    so_far ∙ ap (lead n) (drop-cons all i 0 within ∙ ap (λ x. x ∷ drop (suc i) all) (sym is)) ∙ lead_cons n b (drop (suc i) all)
    ∙ ap (λ d. cond d (lead (n * 10 + (b - 48)) (drop (suc i) all)) n) digit

-- no digit
pub lead_stop : (all : List ℕ) (n i b : ℕ) → i < length all → b ≡ get_or all i 0 → is_digit b ≡ false → lead 0 all ≡ lead n (drop i all) → lead 0 all ≡ n
lead_stop all n i b within is digit so_far =
    so_far ∙ ap (lead n) (drop-cons all i 0 within ∙ ap (λ x. x ∷ drop (suc i) all) (sym is)) ∙ lead_cons n b (drop (suc i) all)
    ∙ ap (λ d. cond d (lead (n * 10 + (b - 48)) (drop (suc i) all)) n) digit

-- where one digit leads past a bound, all of them do
pub lead_past : (all : List ℕ) (n i b : ℕ) → i < length all → b ≡ get_or all i 0 → is_digit b ≡ true → lead 0 all ≡ lead n (drop i all) → ¬ (n * 10 + (b - 48) < 2 ^ 64) → ¬ (lead 0 all < 2 ^ 64)
lead_past all n i b within is digit so_far past =
    let turn : lead 0 all ≡ lead (n * 10 + (b - 48)) (drop (suc i) all) = lead_turn all n i b within is digit so_far in
    let more = grows (n * 10 + (b - 48)) (drop (suc i) all) in
    λ few. past (omega arith)

pub lead_all : (all : List ℕ) (n i : ℕ) → lead 0 all ≡ lead n (drop i all) → length all ≤ i → lead 0 all ≡ n
unfolding lead
lead_all all n i so_far done = so_far ∙ at_drop_all (lead n) all i done

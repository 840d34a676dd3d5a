-- The larger of two numbers, where a flag says that both count.
use Rattle.std.proofs.Common.{◌≡◌, ℕ, ◌+◌, ◌-◌, ◌≤◌, Bool, true, false, refl, ap, arith}
use Rattle.std.specs.Prelude.{◌||◌, ◌&&◌}

-- a subtraction ends at 0
abbrev pub most : Bool → ℕ → ℕ → ℕ
most true n m = n + (m - n)
most false n m = n

pub most_first : (b : Bool) (n m : ℕ) → n ≤ most b n m
most_first true n m = omega arith
most_first false n m = omega arith

pub most_second : (b : Bool) (n m : ℕ) → b ≡ true → m ≤ most b n m
most_second true n m h = omega arith
most_second false n m h = absurd cc

pub most_least : (b : Bool) (n m l : ℕ) → n ≤ l → (b ≡ true → m ≤ l) → most b n m ≤ l
most_least true n m l h i = let j = i refl in omega (arith, h, j)
most_least false n m l h i = h

-- ---- flags

pub either_first : (b c : Bool) → b ≡ true → (b || c) ≡ true
either_first b c h = ap (λ x. x || c) h

pub either_second : (b c : Bool) → c ≡ true → (b || c) ≡ true
either_second true c h = refl
either_second false c h = h

pub either_only : (b : Bool) → (b || false) ≡ true → b ≡ true
either_only true h = refl
either_only false h = absurd cc

pub both_first : (b c : Bool) → (b && c) ≡ true → b ≡ true
both_first true c h = refl
both_first false c h = absurd cc

pub both_second : (b c : Bool) → (b && c) ≡ true → c ≡ true
both_second true c h = h
both_second false c h = absurd cc

-- Words and their arithmetic. A number without bound is a ℤ: `pos n` is n, and `negsuc n` is -(n + 1).
use Rattle.std.specs.Prelude.{ℕ, ◌/◌, ◌^◌, suc, zero, ℤ, pos, negsuc, ◌-ℤ◌, ◌*ℤ◌, FitsSigned}
use Rattle.std.specs.Int.{w64, int_wrap}

-- z is a word
abbrev pub Fits : ℤ → Type 0
Fits z = FitsSigned w64 z

-- the word that differs from z by a multiple of 2 ^ 64
abbrev pub wrap : ℤ → ℤ
wrap z = int_wrap w64 z

-- the greatest whole number that is not above a over b
abbrev pub floor_quotient : ℤ → ℤ → ℤ
floor_quotient (pos a) (pos b) = pos (a / b)
floor_quotient (negsuc a) (pos b) = negsuc (a / b)
floor_quotient (pos zero) (negsuc b) = pos 0
floor_quotient (pos (suc a)) (negsuc b) = negsuc (a / suc b)
floor_quotient (negsuc a) (negsuc b) = pos (suc a / suc b)

abbrev pub floor_rest : ℤ → ℤ → ℤ
floor_rest a b = a -ℤ (b *ℤ floor_quotient a b)

-- a times 2 to the power k
abbrev pub times_power : ℤ → ℕ → ℤ
times_power a k = a *ℤ pos (2 ^ k)

-- Operators on words by their true results, where these are words.
use Rattle.std.specs.Prelude.{ℕ, ◌^◌, ℤ, pos, negsuc, ◌+ℤ◌, ◌-ℤ◌, ◌*ℤ◌, neg_ℤ, unsigned_abs, Bool, true, false, if◌then◌else◌, nat_lt, Option, Some, None}
use Rattle.std.specs.Int.{w64, int_bit_and, int_bit_or, int_bit_xor, int_bit_not}
use Rattle.rpy_base.specs.Word.{floor_quotient, floor_rest, times_power}
use Rattle.rpy_tree.specs.declared.syntax.BinOp.{BinOp}
use Rattle.rpy_tree.specs.declared.syntax.BinOp.TheVariants as binary
use Rattle.rpy_tree.specs.declared.syntax.UnOp.{UnOp}
use Rattle.rpy_tree.specs.declared.syntax.UnOp.TheVariants as unary

-- whether a number is a word
abbrev pub fits : ℤ → Bool
fits (pos n) = nat_lt n (2 ^ 63)
fits (negsuc n) = nat_lt n (2 ^ 63)

-- a number, where it is a word
abbrev pub fitting : ℤ → Option ℤ
fitting z = if fits z then Some z else None

abbrev pub is_zero : ℤ → Bool
is_zero (pos n) = nat_lt n 1
is_zero (negsuc n) = false

-- a shift count is 0 to 63
abbrev pub is_count : ℤ → Bool
is_count (pos n) = nat_lt n 64
is_count (negsuc n) = false

abbrev pub divided : ℤ → ℤ → Option ℤ
divided a b = if is_zero b then None else fitting (floor_quotient a b)

abbrev pub rest : ℤ → ℤ → Option ℤ
rest a b = if is_zero b then None else Some (floor_rest a b)

abbrev pub shifted_left : ℤ → ℤ → Option ℤ
shifted_left a k = if is_count k then fitting (times_power a (unsigned_abs k)) else None

abbrev pub shifted_right : ℤ → ℤ → Option ℤ
shifted_right a k = if is_count k then Some (floor_quotient a (pos (2 ^ unsigned_abs k))) else None

abbrev pub word_binary : BinOp → ℤ → ℤ → Option ℤ
word_binary binary.Add a b = fitting (a +ℤ b)
word_binary binary.Sub a b = fitting (a -ℤ b)
word_binary binary.Mul a b = fitting (a *ℤ b)
word_binary binary.Div a b = divided a b
word_binary binary.FloorDiv a b = divided a b
word_binary binary.Mod a b = rest a b
word_binary binary.Shl a b = shifted_left a b
word_binary binary.Shr a b = shifted_right a b
word_binary binary.BitAnd a b = Some (int_bit_and w64 a b)
word_binary binary.BitOr a b = Some (int_bit_or w64 a b)
word_binary binary.BitXor a b = Some (int_bit_xor w64 a b)

abbrev pub word_unary : UnOp → ℤ → Option ℤ
word_unary unary.Neg a = fitting (neg_ℤ a)
word_unary unary.Pos a = None
word_unary unary.Invert a = Some (int_bit_not w64 a)

-- Operations on words. Each gives its true result, wrapped; `ovfcheck` raises where wrapping would change it.
use Rattle.std.specs.Prelude.{◌^◌, ℤ, pos, ◌+ℤ◌, ◌-ℤ◌, ◌*ℤ◌, neg_ℤ, nat_abs, int_lt, int_le, ◌&&◌, if◌then◌else◌}
use Rattle.std.specs.Int.{w64, int_bit_and, int_bit_or, int_bit_xor}
use Rattle.std.specs.Ordering.{int_eq}
use Rattle.rpy_base.specs.Word.{wrap, floor_quotient, floor_rest, times_power}
use Rattle.rpy_tree.specs.declared.syntax.UnOp.{UnOp}
use Rattle.rpy_tree.specs.declared.syntax.UnOp.TheVariants.{Neg, Pos, Invert}
use Rattle.rpy_tree.specs.declared.syntax.BinOp.{BinOp}
use Rattle.rpy_tree.specs.declared.syntax.BinOp.TheVariants.{Add, Sub, Mul, Div, FloorDiv, Mod, Shl, Shr, BitAnd, BitOr, BitXor}
use Rattle.rpy_tree.specs.Value.{Value, Word}
use Rattle.rpy_meaning.specs.declared.row.Covers.{Covers}
use Rattle.rpy_meaning.specs.World.{Op, bad, give, division_error, value_error, overflow}

abbrev pub word : ℤ → Op
word z = give (Word (wrap z))

-- a result fits where wrapping leaves it as it is
abbrev pub word_that_fits : ℤ → Op
word_that_fits z = if int_eq (wrap z) z then give (Word z) else overflow

abbrev pub unary_result : UnOp → ℤ → ℤ
unary_result Neg a = neg_ℤ a
unary_result Pos a = a
unary_result Invert a = neg_ℤ a -ℤ pos 1

abbrev pub result : BinOp → ℤ → ℤ → ℤ
result Add a b = a +ℤ b
result Sub a b = a -ℤ b
result Mul a b = a *ℤ b
result Div a b = floor_quotient a b
result FloorDiv a b = floor_quotient a b
result Mod a b = floor_rest a b
result Shl a b = times_power a (nat_abs b)
result Shr a b = floor_quotient a (pos (2 ^ nat_abs b))
result BitAnd a b = int_bit_and w64 a b
result BitOr a b = int_bit_or w64 a b
result BitXor a b = int_bit_xor w64 a b

-- a divisor is not zero
abbrev pub divided : Covers → ℤ → Op → Op
divided c b go = if int_eq b (pos 0) then division_error c else go

-- a count of places is 0 to 63
abbrev pub shifted : Covers → ℤ → Op → Op
shifted c b go = if int_le (pos 0) b && int_lt b (pos 64) then go else value_error c

-- what is done with the result, where there is one
abbrev pub arithmetic : Covers → (ℤ → Op) → BinOp → ℤ → ℤ → Op
arithmetic c f Div a b = divided c b (f (result Div a b))
arithmetic c f FloorDiv a b = divided c b (f (result FloorDiv a b))
arithmetic c f Mod a b = divided c b (f (result Mod a b))
arithmetic c f Shl a b = shifted c b (f (result Shl a b))
arithmetic c f Shr a b = shifted c b (f (result Shr a b))
arithmetic c f op a b = f (result op a b)

abbrev pub on_word : (ℤ → Op) → Value → Op
on_word f (Word a) = f a
on_word f x = bad

abbrev pub on_words : (ℤ → ℤ → Op) → Value → Value → Op
on_words f (Word a) (Word b) = f a b
on_words f x y = bad

abbrev pub unary : UnOp → Value → Op
unary op = on_word (λ a. word (unary_result op a))

abbrev pub checked_neg : Value → Op
checked_neg = on_word (λ a. word_that_fits (neg_ℤ a))

abbrev pub checked : Covers → BinOp → Value → Value → Op
checked c op = on_words (arithmetic c word_that_fits op)

abbrev pub least : Value → Value → Op
least = on_words (λ a b. give (Word (if int_lt b a then b else a)))

abbrev pub greatest : Value → Value → Op
greatest = on_words (λ a b. give (Word (if int_lt a b then b else a)))

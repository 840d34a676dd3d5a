-- What an operation on values gives.
use Rattle.std.specs.Prelude.{ℕ, zero, ◌^◌, ℤ, pos, negsuc, ◌+ℤ◌, ◌-ℤ◌, ◌*ℤ◌, neg_ℤ, int_lt, int_le, Bool, true, false, cond, not, ◌||◌, ◌==◌, nat_lt, Option, Some, None, Result, Ok, Err}
use Rattle.std.specs.Int.{w64, int_bit_and, int_bit_or, int_bit_xor, int_bit_not}
use Rattle.std.specs.Ordering.{int_eq}
use Rattle.rpy_base.specs.Word.{wrap, floor_quotient, floor_rest, times_power}
use Rattle.csub_tree.specs.State.{Value, Unset, Word, Byte, Flag, Fun, Null, Ptr, Static}
use Rattle.csub_tree.specs.declared.stuck.StuckReason.{StuckReason}
use Rattle.csub_tree.specs.declared.stuck.StuckReason.TheVariants.{Unset as IsUnset, Word as BadWord}
use Rattle.csub_tree.specs.declared.tree.CUnary.{CUnary}
use Rattle.csub_tree.specs.declared.tree.CUnary.TheVariants.{Neg, Inv, Not, C2S, S2C, B2S}
use Rattle.csub_tree.specs.declared.tree.CBinary.{CBinary}
use Rattle.csub_tree.specs.declared.tree.CBinary.TheVariants.{Add, Sub, Mul, Div, Mod, Shl, Shr, And, Or, Xor, AddOvf, SubOvf, MulOvf, ShlOvf, Eq, Ne, Lt, Le, Gt, Ge, Beq, Peq, Feq}

-- a value, or why there is none
abbrev pub Answer : Type 0
Answer = Result Value StuckReason

-- z is a word
abbrev pub fits : ℤ → Bool
fits (pos n) = nat_lt n (2 ^ 63)
fits (negsuc n) = nat_lt n (2 ^ 63)

abbrev pub word : ℤ → Answer
word z = Ok (Word z)

abbrev pub flag : Bool → Answer
flag b = Ok (Flag b)

-- what a value is, seen as a word, a truth value or a byte
abbrev pub word_of : Value → Option ℤ
word_of (Word n) = Some n
word_of other = None

abbrev pub flag_of : Value → Option Bool
flag_of (Flag b) = Some b
flag_of other = None

abbrev pub byte_of : Value → Option ℕ
byte_of (Byte b) = Some b
byte_of other = None

abbrev pub is_unset : Value → Bool
is_unset Unset = true
is_unset other = false

-- an operand of another kind counts as unset
abbrev pub given : {X : Type 0} → (X → Answer) → Option X → Answer
given f None = Err IsUnset
given f (Some x) = f x

abbrev pub on_words : (ℤ → ℤ → Answer) → Value → Value → Answer
on_words f x y = given (λ a. given (λ b. f a b) (word_of y)) (word_of x)

abbrev pub on_flags : (Bool → Bool → Answer) → Value → Value → Answer
on_flags f x y = given (λ a. given (λ b. f a b) (flag_of y)) (flag_of x)

abbrev pub nonzero : Answer → ℤ → Answer
nonzero answer (pos zero) = Err BadWord
nonzero answer b = answer

-- a shift by a count from 0 to 63
abbrev pub shift_by : (ℕ → Answer) → ℤ → Answer
shift_by f (pos k) = cond (nat_lt k 64) (f k) (Err BadWord)
shift_by f (negsuc k) = Err BadWord

-- the byte of a word from 0 to 255
abbrev pub to_byte : ℤ → Answer
to_byte (pos n) = cond (nat_lt n 256) (Ok (Byte n)) (Err BadWord)
to_byte (negsuc n) = Err BadWord

abbrev pub word_of_flag : Bool → ℤ
word_of_flag true = pos 1
word_of_flag false = pos 0

abbrev pub same_flag : Bool → Bool → Bool
same_flag true b = b
same_flag false b = not b

-- two pointers, or two function values, are the same; NULL is both
abbrev pub same : Value → Value → Bool
same Null Null = true
same (Ptr m) (Ptr n) = m == n
same (Static g) (Static h) = g == h
same (Fun f) (Fun g) = f == g
same x y = false

abbrev pub compared : Value → Value → Answer
compared x y = cond (is_unset x || is_unset y) (Err IsUnset) (flag (same x y))

abbrev pub unary_of : CUnary → Value → Answer
unary_of Neg x = given (λ a. word (wrap (neg_ℤ a))) (word_of x)
unary_of Inv x = given (λ a. word (int_bit_not w64 a)) (word_of x)
unary_of Not x = given (λ a. flag (not a)) (flag_of x)
unary_of C2S x = given (λ a. word (pos a)) (byte_of x)
unary_of S2C x = given to_byte (word_of x)
unary_of B2S x = given (λ a. word (word_of_flag a)) (flag_of x)

abbrev pub binary_of : CBinary → Value → Value → Answer
binary_of Add = on_words (λ a b. word (wrap (a +ℤ b)))
binary_of Sub = on_words (λ a b. word (wrap (a -ℤ b)))
binary_of Mul = on_words (λ a b. word (wrap (a *ℤ b)))
binary_of Div = on_words (λ a b. nonzero (word (wrap (floor_quotient a b))) b)
binary_of Mod = on_words (λ a b. nonzero (word (floor_rest a b)) b)
binary_of Shl = on_words (λ a b. shift_by (λ k. word (wrap (times_power a k))) b)
binary_of Shr = on_words (λ a b. shift_by (λ k. word (floor_quotient a (pos (2 ^ k)))) b)
binary_of And = on_words (λ a b. word (int_bit_and w64 a b))
binary_of Or = on_words (λ a b. word (int_bit_or w64 a b))
binary_of Xor = on_words (λ a b. word (int_bit_xor w64 a b))
binary_of AddOvf = on_words (λ a b. flag (not (fits (a +ℤ b))))
binary_of SubOvf = on_words (λ a b. flag (not (fits (a -ℤ b))))
binary_of MulOvf = on_words (λ a b. flag (not (fits (a *ℤ b))))
binary_of ShlOvf = on_words (λ a b. shift_by (λ k. flag (not (fits (times_power a k)))) b)
binary_of Eq = on_words (λ a b. flag (int_eq a b))
binary_of Ne = on_words (λ a b. flag (not (int_eq a b)))
binary_of Lt = on_words (λ a b. flag (int_lt a b))
binary_of Le = on_words (λ a b. flag (int_le a b))
binary_of Gt = on_words (λ a b. flag (int_lt b a))
binary_of Ge = on_words (λ a b. flag (int_le b a))
binary_of Beq = on_flags (λ a b. flag (same_flag a b))
binary_of Peq = compared
binary_of Feq = compared

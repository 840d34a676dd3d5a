-- How the parts of a line are read, from the front of bytes: the part and what is left, or nothing.
use Rattle.std.specs.Prelude.{ℕ, ℤ, zero, suc, pos, negsuc, ◌+◌, ◌*◌, ◌-◌, ◌^◌, ◌==◌, ◌&&◌, nat_lt, nat_le, Bool, true, false, cond, List, [], ◌∷◌, Option, Some, None, is_some, codes}
use Rattle.std.specs.Fmt.{decimal}
use Rattle.csub_tree.specs.declared.tree.CType.{CType}
use Rattle.csub_tree.specs.declared.tree.CType.TheVariants as type
use Rattle.csub_tree.specs.declared.tree.CConst.{CConst}
use Rattle.csub_tree.specs.declared.tree.CConst.TheVariants as const
use Rattle.csub_tree.specs.declared.tree.COperand.{COperand}
use Rattle.csub_tree.specs.declared.tree.COperand.TheVariants as oper
use Rattle.csub_tree.specs.Spelling.{word}

-- a part and the bytes after it
abbrev pub Got : Type 0 → Type 0
Got A = Option (A × List ℕ)

abbrev pub and_then : {A B : Type 0} → Got A → (A → List ℕ → Got B) → Got B
and_then None f = None
and_then (Some p) f = f p.0 p.1

abbrev pub after : {B : Type 0} → Option (List ℕ) → (List ℕ → Got B) → Got B
after None f = None
after (Some j) f = f j

-- what stands after this start
abbrev pub stripped : List ℕ → List ℕ → Option (List ℕ)
stripped [] i = Some i
stripped (c ∷ s) [] = None
stripped (c ∷ s) (d ∷ i) = cond (d == c) (stripped s i) None

-- a second start after the first
abbrev pub then_stripped : Option (List ℕ) → List ℕ → Option (List ℕ)
then_stripped None s = None
then_stripped (Some i) s = stripped s i

abbrev pub begins : List ℕ → List ℕ → Bool
begins s i = is_some (stripped s i)

-- a part of one spelling
abbrev pub literal : {A : Type 0} → List ℕ → A → List ℕ → Got A
literal s x i = after (stripped s i) (λ j. Some (x, j))

-- ---- numbers and names

abbrev pub is_digit : ℕ → Bool
is_digit b = nat_le 48 b && nat_le b 57

-- what the digits at the front are, after those that are n
unfoldable pub lead : ℕ → List ℕ → ℕ
lead n [] = n
lead n (b ∷ bs) = cond (is_digit b) (lead (n * 10 + (b - 48)) bs) n

unfoldable pub expect_number : ℕ → List ℕ → Got ℕ
expect_number n i = literal (decimal n) n i

unfoldable pub number_below : ℕ → List ℕ → Got ℕ
number_below limit i = cond (nat_lt (lead 0 i) limit) (expect_number (lead 0 i) i) None

abbrev pub number : List ℕ → Got ℕ
number i = number_below (2 ^ 64) i

-- a start and a number
abbrev pub name : List ℕ → List ℕ → Got ℕ
name letter i = after (stripped letter i) number

-- a number and an end
abbrev pub ended : {A : Type 0} → Got A → List ℕ → Got A
ended p s = and_then p (λ x j. literal s x j)

abbrev pub mapped : {A B : Type 0} → (A → B) → Got A → Got B
mapped f p = and_then p (λ x j. Some (f x, j))

-- ---- types

unfoldable pub pointer : List ℕ → Got CType
pointer i = mapped type.Ptr (ended (name (codes "struct s") i) (codes " *"))

unfoldable pub before_name : List ℕ → Got CType
before_name i =
    cond (begins (codes "Signed ") i) (literal (codes "Signed ") type.Signed i)
    (cond (begins (codes "Char ") i) (literal (codes "Char ") type.Char i)
    (cond (begins (codes "Bool ") i) (literal (codes "Bool ") type.Bool i)
    (cond (begins (codes "Fn ") i) (literal (codes "Fn ") type.Fn i)
    (pointer i))))

unfoldable pub type_alone : List ℕ → Got CType
type_alone i =
    cond (begins (codes "Signed") i) (literal (codes "Signed") type.Signed i)
    (cond (begins (codes "Char") i) (literal (codes "Char") type.Char i)
    (cond (begins (codes "Bool") i) (literal (codes "Bool") type.Bool i)
    (cond (begins (codes "Fn") i) (literal (codes "Fn") type.Fn i)
    (pointer i))))

unfoldable pub result_before_name : List ℕ → Got (Option CType)
result_before_name i = cond (begins (codes "void ") i) (literal (codes "void ") None i) (mapped Some (before_name i))

unfoldable pub result_alone : List ℕ → Got (Option CType)
result_alone i = cond (begins (codes "void") i) (literal (codes "void") None i) (mapped Some (type_alone i))

-- ---- constants and operands

unfoldable pub cast : List ℕ → Got ℕ
cast i = ended (name (codes "(struct s") i) (codes " *)")

abbrev pub minus : ℕ → ℤ
minus zero = pos 0
minus (suc n) = negsuc n

abbrev pub small : ℤ → ℕ → Option ℤ
small z n = cond (nat_lt n (2 ^ 63)) (Some z) None

abbrev pub signed : List ℕ → Option (List ℕ) → Option ℤ
signed i None = small (pos (lead 0 i)) (lead 0 i)
signed i (Some j) = small (minus (lead 0 j)) (lead 0 j)

-- what the sign and the digits at the front are
unfoldable pub word_value : List ℕ → Option ℤ
word_value i = signed i (stripped (codes "-") i)

abbrev pub expect_word : Option ℤ → List ℕ → Got ℤ
expect_word None i = None
expect_word (Some z) i = literal (word z) z i

unfoldable pub decimal_word : List ℕ → Got ℤ
decimal_word i = expect_word (word_value i) i

unfoldable pub cast_constant : List ℕ → Got CConst
cast_constant i =
    cond (begins (codes "(Char)") i) (after (stripped (codes "(Char)") i) (λ j. mapped const.Char (number_below 256 j)))
    (cond (begins (codes "(Fn)") i) (mapped const.Fun (name (codes "(Fn)f") i))
    (and_then (cast i) (λ s j. mapped (const.Static s) (name (codes "&g") j))))

unfoldable pub constant : List ℕ → Got CConst
constant i =
    cond (begins (codes "(") i) (cast_constant i)
    (cond (begins (codes "RPY_TRUE") i) (literal (codes "RPY_TRUE") (const.Bool true) i)
    (cond (begins (codes "RPY_FALSE") i) (literal (codes "RPY_FALSE") (const.Bool false) i)
    (cond (begins (codes "RPY_MIN") i) (literal (codes "RPY_MIN") (const.Word (negsuc 9223372036854775807)) i)
    (cond (begins (codes "NULL") i) (literal (codes "NULL") const.Null i)
    (mapped const.Word (decimal_word i))))))

unfoldable pub operand : List ℕ → Got COperand
operand i = cond (begins (codes "v") i) (mapped oper.Var (name (codes "v") i)) (mapped oper.Const (constant i))

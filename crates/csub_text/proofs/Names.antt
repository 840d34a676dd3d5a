-- Types, constants and operands are read as they are spelled.
use Rattle.std.proofs.Common.{◌≡◌, ℕ, pos, negsuc, suc, ◌^◌, ◌<◌, ◌≤◌, ◌==◌, Bool, true, false, cond, List, ◌∷◌, ◌++◌, Option, Some, None, refl, ap, ◌∙◌, arith, append_assoc, codes}
use Rattle.std.specs.Fmt.{decimal, signed_decimal}
use Rattle.std.proofs.lemmas.Grind.{common_steps}
use Rattle.csub_tree.specs.declared.tree.CType.{CType}
use Rattle.csub_tree.specs.declared.tree.CType.TheVariants as type
use Rattle.csub_tree.specs.declared.tree.CConst.{CConst}
use Rattle.csub_tree.specs.declared.tree.CConst.TheVariants as const
use Rattle.csub_tree.specs.declared.tree.COperand.{COperand}
use Rattle.csub_tree.specs.declared.tree.COperand.TheVariants as oper
use Rattle.csub_tree.specs.Spelling as spell
use Rattle.csub_text.specs.Written.{IsType, IsTypeIfAny, IsConstant, IsOperand}
use Rattle.csub_text.specs.Read.{pointer, before_name, type_alone, result_before_name, result_alone, cast_constant, constant, operand, decimal_word, word_value, small, lead, mapped, cast}
use Rattle.csub_text.proofs.Numbers.{ends, stripped_own, number_own, lead_of, below_is, Digit, digit_first, is_other}

pub pointer_own : (n : ℕ) (r : List ℕ) → n < 2 ^ 64 → pointer (codes "struct s" ++ (decimal n ++ (codes " *" ++ r))) ≡ Some (type.Ptr n, r)
unfolding pointer
pointer_own n r ok = rw (number_own (2 ^ 64) n (codes " *" ++ r) ok ok refl) refl

pub before_name_own : (t : CType) (r : List ℕ) → IsType t → before_name (spell.before_name t ++ r) ≡ Some (t, r)
unfolding before_name
before_name_own type.Signed r ok = refl
before_name_own type.Char r ok = refl
before_name_own type.Bool r ok = refl
before_name_own type.Fn r ok = refl
before_name_own (type.Ptr n) r ok = rw append_assoc (pointer_own n r ok)

pub type_alone_own : (t : CType) (r : List ℕ) → IsType t → type_alone (spell.type_alone t ++ r) ≡ Some (t, r)
unfolding type_alone
type_alone_own type.Signed r ok = refl
type_alone_own type.Char r ok = refl
type_alone_own type.Bool r ok = refl
type_alone_own type.Fn r ok = refl
type_alone_own (type.Ptr n) r ok = rw append_assoc (pointer_own n r ok)

pub result_before_name_own : (t : Option CType) (r : List ℕ) → IsTypeIfAny t → result_before_name (spell.result_before_name t ++ r) ≡ Some (t, r)
unfolding result_before_name
result_before_name_own None r ok = refl
result_before_name_own (Some type.Signed) r ok = rw (before_name_own type.Signed r tt) refl
result_before_name_own (Some type.Char) r ok = rw (before_name_own type.Char r tt) refl
result_before_name_own (Some type.Bool) r ok = rw (before_name_own type.Bool r tt) refl
result_before_name_own (Some type.Fn) r ok = rw (before_name_own type.Fn r tt) refl
result_before_name_own (Some (type.Ptr n)) r ok = rw (before_name_own (type.Ptr n) r ok) refl

pub result_alone_own : (t : Option CType) (r : List ℕ) → IsTypeIfAny t → result_alone (spell.result_alone t ++ r) ≡ Some (t, r)
unfolding result_alone
result_alone_own None r ok = refl
result_alone_own (Some type.Signed) r ok = rw (type_alone_own type.Signed r tt) refl
result_alone_own (Some type.Char) r ok = rw (type_alone_own type.Char r tt) refl
result_alone_own (Some type.Bool) r ok = rw (type_alone_own type.Bool r tt) refl
result_alone_own (Some type.Fn) r ok = rw (type_alone_own type.Fn r tt) refl
result_alone_own (Some (type.Ptr n)) r ok = rw (type_alone_own (type.Ptr n) r ok) refl

cast_constant_char : (n : ℕ) (r : List ℕ) → n < 256 → ends r ≡ true → cast_constant (codes "(Char)" ++ (decimal n ++ r)) ≡ Some (const.Char n, r)
unfolding cast_constant
cast_constant_char n r ok e = rw (number_own 256 n r (omega arith) ok e) refl

cast_constant_fun : (n : ℕ) (r : List ℕ) → n < 2 ^ 64 → ends r ≡ true → cast_constant (codes "(Fn)f" ++ (decimal n ++ r)) ≡ Some (const.Fun n, r)
unfolding cast_constant
cast_constant_fun n r ok e = rw (number_own (2 ^ 64) n r ok ok e) refl

pub cast_own : (n : ℕ) (r : List ℕ) → n < 2 ^ 64 → cast (spell.cast n ++ r) ≡ Some (n, r)
unfolding cast
cast_own n r ok = ap cast (append_assoc (codes "(struct s" ++ decimal n) (codes " *)") r) ∙ rw (number_own (2 ^ 64) n (codes " *)" ++ r) ok ok refl) refl

cast_constant_static : (s g : ℕ) (r : List ℕ) → s < 2 ^ 64 → g < 2 ^ 64 → ends r ≡ true → cast_constant (codes "(struct s" ++ (decimal s ++ (codes " *)&g" ++ (decimal g ++ r)))) ≡ Some (const.Static s g, r)
unfolding cast_constant cast
cast_constant_static s g r ok_s ok_g e = rw (number_own (2 ^ 64) s (codes " *)&g" ++ (decimal g ++ r)) ok_s ok_s refl, number_own (2 ^ 64) g r ok_g ok_g e) refl

-- where a digit is first, a word is read
word_first : (d : ℕ) (i : List ℕ) → 48 ≤ d → d ≤ 57 → constant (d ∷ i) ≡ mapped const.Word (decimal_word (d ∷ i))
unfolding constant
word_first d i low high = rw (is_other d 40 low high refl, is_other d 82 low high refl, is_other d 78 low high refl) refl

value_first : (d : ℕ) (i : List ℕ) → 48 ≤ d → d ≤ 57 → word_value (d ∷ i) ≡ small (pos (lead 0 (d ∷ i))) (lead 0 (d ∷ i))
unfolding word_value
value_first d i low high = rw (is_other d 45 low high refl) refl

value_digit : (n : ℕ) (j : List ℕ) → (h : Digit (decimal n)) → word_value (decimal n ++ j) ≡ small (pos (lead 0 (decimal n ++ j))) (lead 0 (decimal n ++ j))
value_digit n j h =
    let t : decimal n ++ j ≡ h.first ∷ (h.rest ++ j) = ap (λ ds. ds ++ j) h.is in
    rw t (value_first h.first (h.rest ++ j) h.low h.high)

value_own : (n : ℕ) (r : List ℕ) → n < 2 ^ 63 → word_value (decimal n ++ (codes "L" ++ r)) ≡ Some (pos n)
value_own n r ok =
    let l : lead 0 (decimal n ++ (codes "L" ++ r)) ≡ n = lead_of n (codes "L" ++ r) (omega arith) refl in
    value_digit n (codes "L" ++ r) (digit_first n (omega arith)) ∙ rw l (below_is n (2 ^ 63) (Some (pos n)) None ok)

decimal_word_own : (n : ℕ) (r : List ℕ) → n < 2 ^ 63 → decimal_word ((decimal n ++ codes "L") ++ r) ≡ Some (pos n, r)
unfolding decimal_word
decimal_word_own n r ok =
    rw (ap word_value (append_assoc (decimal n) (codes "L") r) ∙ value_own n r ok, stripped_own (decimal n ++ codes "L") r) refl

constant_digit : (n : ℕ) (s r : List ℕ) → (h : Digit (decimal n)) → constant ((decimal n ++ s) ++ r) ≡ mapped const.Word (decimal_word ((decimal n ++ s) ++ r))
constant_digit n s r h =
    let t : (decimal n ++ s) ++ r ≡ h.first ∷ ((h.rest ++ s) ++ r) = ap (λ ds. (ds ++ s) ++ r) h.is in
    rw t (word_first h.first ((h.rest ++ s) ++ r) h.low h.high)

constant_word : (n : ℕ) (r : List ℕ) → n < 2 ^ 63 → constant ((decimal n ++ codes "L") ++ r) ≡ Some (const.Word (pos n), r)
constant_word n r ok =
    constant_digit n (codes "L") r (digit_first n (omega arith)) ∙ ap (mapped const.Word) (decimal_word_own n r ok)

not_smallest : (n : ℕ) → suc n < 2 ^ 63 → (n == 9223372036854775807) ≡ false
not_smallest n ok = grind (arith, common_steps)

minus_value : (n : ℕ) (r : List ℕ) → suc n < 2 ^ 63 → word_value (45 ∷ ((decimal (suc n) ++ codes "L") ++ r)) ≡ Some (negsuc n)
unfolding word_value
minus_value n r ok =
    let t : (decimal (suc n) ++ codes "L") ++ r ≡ decimal (suc n) ++ (codes "L" ++ r) = append_assoc (decimal (suc n)) (codes "L") r in
    let l : lead 0 ((decimal (suc n) ++ codes "L") ++ r) ≡ suc n = ap (lead 0) t ∙ lead_of (suc n) (codes "L" ++ r) (omega arith) refl in
    rw l (below_is (suc n) (2 ^ 63) (Some (negsuc n)) None ok)

minus_own : (n : ℕ) (r : List ℕ) → suc n < 2 ^ 63 → decimal_word (45 ∷ ((decimal (suc n) ++ codes "L") ++ r)) ≡ Some (negsuc n, r)
unfolding decimal_word
minus_own n r ok = rw (minus_value n r ok, not_smallest n ok, stripped_own (decimal (suc n) ++ codes "L") r) refl

constant_minus : (n : ℕ) (smallest : Bool) (r : List ℕ) → smallest ≡ (n == 9223372036854775807) → n < 2 ^ 63 → constant (cond smallest (codes "RPY_MIN") (signed_decimal (negsuc n) ++ codes "L") ++ r) ≡ Some (const.Word (negsuc n), r)
unfolding constant
constant_minus n true r e ok =
    let t : 9223372036854775807 ≡ n = grind (arith, common_steps) in
    ap (λ m. Some (const.Word (negsuc m), r)) t
constant_minus n false r e ok =
    let small : suc n < 2 ^ 63 = grind (arith, common_steps) in
    ap (mapped const.Word) (minus_own n r small)

pub constant_own : (c : CConst) (r : List ℕ) → IsConstant c → ends r ≡ true → constant (spell.constant_text c ++ r) ≡ Some (c, r)
unfolding constant
constant_own (const.Word (pos n)) r ok e = constant_word n r ok
constant_own (const.Word (negsuc n)) r ok e = constant_minus n (n == 9223372036854775807) r refl ok
constant_own (const.Char n) r ok e = cast_constant_char n r ok e
constant_own (const.Bool true) r ok e = refl
constant_own (const.Bool false) r ok e = refl
constant_own const.Null r ok e = refl
constant_own (const.Static s g) r ok e =
    let t : spell.constant_text (const.Static s g) ++ r ≡ codes "(struct s" ++ (decimal s ++ (codes " *)&g" ++ (decimal g ++ r))) = rw (append_assoc, append_assoc, append_assoc) in
    ap constant t ∙ cast_constant_static s g r ok.0 ok.1 e
constant_own (const.Fun f) r ok e = cast_constant_fun f r ok e

operand_at : (d : ℕ) (i : List ℕ) → 48 ≤ d → d ≤ 57 → operand (d ∷ i) ≡ mapped oper.Const (constant (d ∷ i))
unfolding operand
operand_at d i low high = rw (is_other d 118 low high refl) refl

operand_digit : (ds s r : List ℕ) → Digit ds → operand ((ds ++ s) ++ r) ≡ mapped oper.Const (constant ((ds ++ s) ++ r))
operand_digit ds s r h =
    let t : (ds ++ s) ++ r ≡ h.first ∷ ((h.rest ++ s) ++ r) = ap (λ t. (t ++ s) ++ r) h.is in
    rw t (operand_at h.first ((h.rest ++ s) ++ r) h.low h.high)

operand_minus : (smallest : Bool) (n : ℕ) (r : List ℕ)
    → operand (cond smallest (codes "RPY_MIN") (signed_decimal (negsuc n) ++ codes "L") ++ r)
    ≡ mapped oper.Const (constant (cond smallest (codes "RPY_MIN") (signed_decimal (negsuc n) ++ codes "L") ++ r))
unfolding operand
operand_minus true n r = refl
operand_minus false n r = refl

pub operand_own : (x : COperand) (r : List ℕ) → IsOperand x → ends r ≡ true → operand (spell.operand_text x ++ r) ≡ Some (x, r)
unfolding operand
operand_own (oper.Var v) r ok e = rw (number_own (2 ^ 64) v r ok ok e) refl
operand_own (oper.Const (const.Word (pos n))) r ok e =
    operand_digit (decimal n) (codes "L") r (digit_first n (omega arith))
    ∙ ap (mapped oper.Const) (constant_own (const.Word (pos n)) r ok e)
operand_own (oper.Const (const.Word (negsuc n))) r ok e =
    operand_minus (n == 9223372036854775807) n r
    ∙ ap (mapped oper.Const) (constant_own (const.Word (negsuc n)) r ok e)
operand_own (oper.Const (const.Char n)) r ok e = rw (constant_own (const.Char n) r ok e) refl
operand_own (oper.Const (const.Bool true)) r ok e = rw (constant_own (const.Bool true) r ok e) refl
operand_own (oper.Const (const.Bool false)) r ok e = rw (constant_own (const.Bool false) r ok e) refl
operand_own (oper.Const const.Null) r ok e = rw (constant_own const.Null r ok e) refl
operand_own (oper.Const (const.Static s g)) r ok e = rw (constant_own (const.Static s g) r ok e) refl
operand_own (oper.Const (const.Fun f)) r ok e = rw (constant_own (const.Fun f) r ok e) refl

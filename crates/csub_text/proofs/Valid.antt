-- What is read can be written.
use Rattle.std.proofs.Common.{◌≡◌, ℕ, ℤ, pos, negsuc, zero, suc, ◌^◌, ◌<◌, ◌≤◌, ◌&&◌, nat_lt, nat_le, Bool, true, false, cond, List, [], ◌∷◌, Option, Some, None, refl, arith, length, codes}
use Rattle.std.specs.Fmt.{decimal}
use Rattle.std.proofs.lemmas.Grind.{common_steps}
use Rattle.csub_tree.specs.declared.tree.CType.TheVariants as type
use Rattle.csub_tree.specs.declared.tree.CConst.TheVariants as const
use Rattle.csub_tree.specs.declared.tree.COperand.TheVariants as oper
use Rattle.csub_tree.specs.declared.tree.CStmt.TheVariants as stmt
use Rattle.csub_tree.specs.declared.tree.CUnary.{CUnary}
use Rattle.csub_tree.specs.declared.tree.CBinary.{CBinary}
use Rattle.csub_tree.specs.Spelling as spell
use Rattle.csub_text.specs.Written.{All, IsNumberIfAny, IsType, IsTypeIfAny, IsWord, IsConstant, IsOperand, IsStatement}
use Rattle.csub_text.specs.Read.{Got, and_then, after, stripped, begins, literal, lead, number_below, expect_number, name, ended, mapped, pointer, before_name, type_alone, result_before_name, result_alone, cast, signed, minus, word_value, expect_word, decimal_word, cast_constant, constant, operand}
use Rattle.csub_text.specs.ReadStatement as of
use Rattle.csub_text.specs.ReadStatement.{more_item, rest_of, list_of, operands, types, arguments, set, unary, binary, looked_into, index, get, set_field, set_item, put_in, new_block, new_array, set_static, after_cast, cast_of, call, Callee, callee, call_fn, arg_len, arg, argument_or_set, next_unary, next_binary, by_unary, by_binary, operation, after_target, assignment, around, exc_set, fail, primitive, jump_if, jump, bracketed, statement}

-- what is read, if anything, is such
pub data Gives {A : Type 0} (P : A → Type 0) : Got A → Type 0 where
  none : Gives P None
  some : (x : A) (j : List ℕ) → P x → Gives P (Some (x, j))

pub gives_then : {A B : Type 0} {Q : A → Type 0} {P : B → Type 0} {p : Got A} {f : A → List ℕ → Got B} → Gives Q p → ((x : A) (j : List ℕ) → Q x → Gives P (f x j)) → Gives P (and_then p f)
gives_then none more = none
gives_then (some x j q) more = more x j q

pub gives_after : {B : Type 0} {P : B → Type 0} (o : Option (List ℕ)) {f : List ℕ → Got B} → ((j : List ℕ) → Gives P (f j)) → Gives P (after o f)
gives_after None more = none
gives_after (Some j) more = more j

pub gives_cond : {A : Type 0} {P : A → Type 0} (b : Bool) {x y : Got A} → Gives P x → Gives P y → Gives P (cond b x y)
gives_cond true p q = p
gives_cond false p q = q

pub gives_literal : {A : Type 0} {P : A → Type 0} (s : List ℕ) (x : A) (i : List ℕ) → P x → Gives P (literal s x i)
gives_literal s x i p = gives_after (stripped s i) (λ j. some x j p)

pub gives_mapped : {A B : Type 0} {Q : A → Type 0} {P : B → Type 0} {p : Got A} (f : A → B) → Gives Q p → ((x : A) → Q x → P (f x)) → Gives P (mapped f p)
gives_mapped f none more = none
gives_mapped f (some x j q) more = some (f x) j (more x q)

pub gives_ended : {A : Type 0} {P : A → Type 0} {p : Got A} (s : List ℕ) → Gives P p → Gives P (ended p s)
gives_ended s g = gives_then g (λ x j q. gives_literal s x j q)

below : (b : Bool) (n limit : ℕ) (i : List ℕ) → b ≡ nat_lt n limit → Gives (λ m. m < limit) (cond b (expect_number n i) None)
unfolding expect_number
below true n limit i e = gives_literal (decimal n) n i (grind (arith, common_steps))
below false n limit i e = none

pub number_valid : (limit : ℕ) (i : List ℕ) → Gives (λ n. n < limit) (number_below limit i)
unfolding number_below
number_valid limit i = below (nat_lt (lead 0 i) limit) (lead 0 i) limit i refl

pub name_valid : (letter i : List ℕ) → Gives (λ n. n < 2 ^ 64) (name letter i)
name_valid letter i = gives_after (stripped letter i) (λ j. number_valid (2 ^ 64) j)

pointer_valid : (i : List ℕ) → Gives IsType (pointer i)
unfolding pointer
pointer_valid i = gives_mapped type.Ptr (gives_ended (codes " *") (name_valid (codes "struct s") i)) (λ n h. h)

pub before_name_valid : (i : List ℕ) → Gives IsType (before_name i)
unfolding before_name
before_name_valid i =
    gives_cond (begins (codes "Signed ") i) (gives_literal (codes "Signed ") type.Signed i tt) (gives_cond (begins (codes "Char ") i) (gives_literal (codes "Char ") type.Char i tt) (gives_cond (begins (codes "Bool ") i) (gives_literal (codes "Bool ") type.Bool i tt) (gives_cond (begins (codes "Fn ") i) (gives_literal (codes "Fn ") type.Fn i tt) (pointer_valid i))))

type_alone_valid : (i : List ℕ) → Gives IsType (type_alone i)
unfolding type_alone
type_alone_valid i =
    gives_cond (begins (codes "Signed") i) (gives_literal (codes "Signed") type.Signed i tt) (gives_cond (begins (codes "Char") i) (gives_literal (codes "Char") type.Char i tt) (gives_cond (begins (codes "Bool") i) (gives_literal (codes "Bool") type.Bool i tt) (gives_cond (begins (codes "Fn") i) (gives_literal (codes "Fn") type.Fn i tt) (pointer_valid i))))

pub result_before_name_valid : (i : List ℕ) → Gives IsTypeIfAny (result_before_name i)
unfolding result_before_name
result_before_name_valid i = gives_cond (begins (codes "void ") i) (gives_literal (codes "void ") None i tt) (gives_mapped Some (before_name_valid i) (λ t h. h))

result_alone_valid : (i : List ℕ) → Gives IsTypeIfAny (result_alone i)
unfolding result_alone
result_alone_valid i = gives_cond (begins (codes "void") i) (gives_literal (codes "void") None i tt) (gives_mapped Some (type_alone_valid i) (λ t h. h))

cast_valid : (i : List ℕ) → Gives (λ n. n < 2 ^ 64) (cast i)
unfolding cast
cast_valid i = gives_ended (codes " *)") (name_valid (codes "(struct s") i)

-- a word that is read
small_valid : (b : Bool) (z : ℤ) (n : ℕ) (i : List ℕ) → b ≡ nat_lt n (2 ^ 63) → (n < 2 ^ 63 → IsWord z) → Gives IsWord (expect_word (cond b (Some z) None) i)
small_valid true z n i e h = gives_literal (spell.word z) z i (h (grind (arith, common_steps)))
small_valid false z n i e h = none

minus_valid : (n : ℕ) → n < 2 ^ 63 → IsWord (minus n)
minus_valid zero h = omega arith
minus_valid (suc n) h = omega arith

decimal_word_at : (o : Option (List ℕ)) (i : List ℕ) → Gives IsWord (expect_word (signed i o) i)
decimal_word_at None i = small_valid (nat_lt (lead 0 i) (2 ^ 63)) (pos (lead 0 i)) (lead 0 i) i refl (λ h. h)
decimal_word_at (Some j) i = small_valid (nat_lt (lead 0 j) (2 ^ 63)) (minus (lead 0 j)) (lead 0 j) i refl (minus_valid (lead 0 j))

decimal_word_valid : (i : List ℕ) → Gives IsWord (decimal_word i)
unfolding decimal_word word_value
decimal_word_valid i = decimal_word_at (stripped (codes "-") i) i

cast_constant_valid : (i : List ℕ) → Gives IsConstant (cast_constant i)
unfolding cast_constant
cast_constant_valid i =
    gives_cond (begins (codes "(Char)") i) (gives_after (stripped (codes "(Char)") i) (λ j. gives_mapped const.Char (number_valid 256 j) (λ n h. h)))
    (gives_cond (begins (codes "(Fn)") i) (gives_mapped const.Fun (name_valid (codes "(Fn)f") i) (λ f h. h))
    (gives_then (cast_valid i) (λ s j h. gives_mapped (const.Static s) (name_valid (codes "&g") j) (λ g k. (h, k)))))

pub constant_valid : (i : List ℕ) → Gives IsConstant (constant i)
unfolding constant
constant_valid i =
    gives_cond (begins (codes "(") i) (cast_constant_valid i) (gives_cond (begins (codes "RPY_TRUE") i) (gives_literal (codes "RPY_TRUE") (const.Bool true) i tt) (gives_cond (begins (codes "RPY_FALSE") i) (gives_literal (codes "RPY_FALSE") (const.Bool false) i tt) (gives_cond (begins (codes "RPY_MIN") i) (gives_literal (codes "RPY_MIN") (const.Word (negsuc 9223372036854775807)) i (omega arith)) (gives_cond (begins (codes "NULL") i) (gives_literal (codes "NULL") const.Null i tt) (gives_mapped const.Word (decimal_word_valid i) (λ z h. h))))))

operand_valid : (i : List ℕ) → Gives IsOperand (operand i)
unfolding operand
operand_valid i = gives_cond (begins (codes "v") i) (gives_mapped oper.Var (name_valid (codes "v") i) (λ v h. h)) (gives_mapped oper.Const (constant_valid i) (λ c h. h))

-- ---- lists

rest_valid : {A : Type 0} {P : A → Type 0} (read : List ℕ → Got A) → ((i : List ℕ) → Gives P (read i)) → (f : ℕ) (i : List ℕ) → Gives (All P) (rest_of read f i)
unfolding rest_of
rest_valid read h zero i = some [] i tt
rest_valid read h (suc f) i = gives_cond (begins (codes ", ") i) (gives_then (gives_after (stripped (codes ", ") i) (λ j. h j)) (λ x j p. gives_mapped (λ xs. x ∷ xs) (rest_valid read h f j) (λ xs ps. (p, ps)))) (some [] i tt)

pub list_valid : {A : Type 0} {P : A → Type 0} (read : List ℕ → Got A) → ((i : List ℕ) → Gives P (read i)) → (i : List ℕ) → Gives (All P) (list_of read i)
list_valid read h i = gives_then (h i) (λ x j p. gives_mapped (λ xs. x ∷ xs) (rest_valid read h (length j) j) (λ xs ps. (p, ps)))

operands_valid : (i : List ℕ) → Gives (All IsOperand) (operands i)
unfolding operands
operands_valid i = gives_cond (begins (codes ")") i) (some [] i tt) (list_valid operand operand_valid i)

types_valid : (i : List ℕ) → Gives (All IsType) (types i)
unfolding types
types_valid i = gives_cond (begins (codes "void") i) (gives_literal (codes "void") [] i tt) (list_valid type_alone type_alone_valid i)

arguments_valid : (i : List ℕ) → Gives (All IsOperand) (arguments i)
unfolding arguments
arguments_valid i = gives_after (stripped (codes "(") i) (λ j. gives_ended (codes ")") (operands_valid j))

more_operand : (i : List ℕ) → Gives IsOperand (more_item operand i)
more_operand i = gives_after (stripped (codes ", ") i) (λ j. operand_valid j)

-- ---- statements

set_valid : (a : ℕ) (i : List ℕ) → a < 2 ^ 64 → Gives IsStatement (set a i)
unfolding set
set_valid a i ok = gives_mapped (stmt.Set a) (gives_ended (codes ";") (operand_valid i)) (λ x h. (ok, h))

unary_valid : (a : ℕ) (op : CUnary) (i : List ℕ) → a < 2 ^ 64 → Gives IsStatement (unary a op i)
unfolding unary
unary_valid a op i ok = gives_after (stripped (spell.unary_name op) i) (λ j. gives_after (stripped (codes "(") j) (λ k. gives_mapped (stmt.Unary a op) (gives_ended (codes ");") (operand_valid k)) (λ x h. (ok, h))))

binary_valid : (a : ℕ) (op : CBinary) (i : List ℕ) → a < 2 ^ 64 → Gives IsStatement (binary a op i)
unfolding binary
binary_valid a op i ok = gives_after (stripped (spell.binary_name op) i) (λ j. gives_after (stripped (codes "(") j) (λ k. gives_then (operand_valid k) (λ x l h. gives_mapped (stmt.Binary a op x) (gives_ended (codes ");") (more_operand l)) (λ y g. (ok, h, g)))))

looked_into_valid : (i : List ℕ) → Gives (λ p. (p.0 < 2 ^ 64) × (p.1 < 2 ^ 64)) (looked_into i)
unfolding looked_into
looked_into_valid i = gives_after (stripped (codes "(") i) (λ j. gives_then (cast_valid j) (λ s k h. gives_mapped (λ v. (s, v)) (gives_ended (codes ")->") (name_valid (codes "v") k)) (λ v g. (h, g))))

index_valid : (i : List ℕ) → Gives IsOperand (index i)
unfolding index
index_valid i = gives_after (stripped (codes "items[") i) (λ j. gives_ended (codes "]") (operand_valid j))

get_valid : (a : ℕ) (i : List ℕ) → a < 2 ^ 64 → Gives IsStatement (get a i)
unfolding get
get_valid a i ok =
    gives_then (looked_into_valid i) (λ p j h. gives_cond (begins (codes "a") j) (gives_mapped (stmt.GetField a p.0 p.1) (gives_ended (codes ";") (name_valid (codes "a") j)) (λ k g. (ok, h.0, h.1, g))) (gives_mapped (stmt.GetItem a p.0 p.1) (gives_ended (codes ";") (index_valid j)) (λ x g. (ok, h.0, h.1, g))))

set_field_valid : (s b : ℕ) (i : List ℕ) → s < 2 ^ 64 → b < 2 ^ 64 → Gives IsStatement (set_field s b i)
unfolding set_field
set_field_valid s b i ok_s ok_b = gives_then (gives_ended (codes " = ") (name_valid (codes "a") i)) (λ k j h. gives_mapped (stmt.SetField s b k) (gives_ended (codes ";") (operand_valid j)) (λ x g. (ok_s, ok_b, h, g)))

set_item_valid : (s b : ℕ) (i : List ℕ) → s < 2 ^ 64 → b < 2 ^ 64 → Gives IsStatement (set_item s b i)
unfolding set_item
set_item_valid s b i ok_s ok_b = gives_then (gives_ended (codes " = ") (index_valid i)) (λ x j h. gives_mapped (stmt.SetItem s b x) (gives_ended (codes ";") (operand_valid j)) (λ y g. (ok_s, ok_b, h, g)))

put_in_valid : (i : List ℕ) → Gives IsStatement (put_in i)
unfolding put_in
put_in_valid i = gives_then (looked_into_valid i) (λ p j h. gives_cond (begins (codes "a") j) (set_field_valid p.0 p.1 j h.0 h.1) (set_item_valid p.0 p.1 j h.0 h.1))

after_cast_valid : (a m : ℕ) (i : List ℕ) → a < 2 ^ 64 → m < 2 ^ 64 → Gives IsStatement (after_cast a m i)
unfolding after_cast new_block new_array set_static
after_cast_valid a m i ok_a ok_m =
    gives_cond (begins (codes "RPY_NEW(") i) (gives_mapped (stmt.New a m) (gives_ended (codes ");") (name_valid (codes "RPY_NEW(struct s") i)) (λ s h. (ok_a, ok_m, h)))
    (gives_cond (begins (codes "RPY_NEWARRAY(") i) (gives_then (name_valid (codes "RPY_NEWARRAY(struct s") i) (λ s j h. gives_mapped (stmt.NewArray a m s) (gives_ended (codes ");") (more_operand j)) (λ x g. (ok_a, ok_m, h, g))))
    (gives_cond (begins (codes "RPY_EXC_TYPE") i) (gives_literal (codes "RPY_EXC_TYPE();") (stmt.ExcType a m) i (ok_a, ok_m))
    (gives_cond (begins (codes "RPY_EXC_VALUE") i) (gives_literal (codes "RPY_EXC_VALUE();") (stmt.ExcValue a m) i (ok_a, ok_m))
    (gives_mapped (λ g. stmt.Set a (oper.Const (const.Static m g))) (gives_ended (codes ";") (name_valid (codes "&g") i)) (λ g h. (ok_a, (ok_m, h)))))))

cast_of_valid : (a : ℕ) (i : List ℕ) → a < 2 ^ 64 → Gives IsStatement (cast_of a i)
unfolding cast_of
cast_of_valid a i ok = gives_then (cast_valid i) (λ m j h. after_cast_valid a m j ok h)

call_valid : (a : Option ℕ) (i : List ℕ) → IsNumberIfAny a → Gives IsStatement (call a i)
unfolding call
call_valid a i ok = gives_then (name_valid (codes "f") i) (λ f j h. gives_mapped (stmt.Call a f) (gives_ended (codes ";") (arguments_valid j)) (λ xs g. (ok, h, g)))

callee_valid : (i : List ℕ) → Gives (λ c. IsTypeIfAny c.0 × All IsType c.1 × (c.2 < 2 ^ 64)) (callee i)
unfolding callee
callee_valid i = gives_after (stripped (codes "((") i) (λ j. gives_then (result_alone_valid j) (λ result k h. gives_after (stripped (codes " (*)(") k) (λ l. gives_then (types_valid l) (λ kinds m g. gives_after (stripped (codes "))") m) (λ n. gives_mapped (λ v. (result, kinds, v)) (gives_ended (codes ")") (name_valid (codes "v") n)) (λ v p. (h, g, p)))))))

call_fn_valid : (a : Option ℕ) (i : List ℕ) → IsNumberIfAny a → Gives IsStatement (call_fn a i)
unfolding call_fn
call_fn_valid a i ok = gives_then (callee_valid i) (λ c j h. gives_mapped (stmt.CallFn a c.0 c.1 c.2) (gives_ended (codes ";") (arguments_valid j)) (λ xs g. (ok, h.0, h.1, h.2, g)))

argument_or_set_valid : (a : ℕ) (i : List ℕ) → a < 2 ^ 64 → Gives IsStatement (argument_or_set a i)
unfolding argument_or_set arg_len arg
argument_or_set_valid a i ok =
    gives_cond (begins (codes "RPY_ARGC(") i) (gives_literal (codes "RPY_ARGC();") (stmt.Argc a) i ok)
    (gives_cond (begins (codes "RPY_ARGLEN(") i) (gives_after (stripped (codes "RPY_ARGLEN(") i) (λ j. gives_mapped (stmt.ArgLen a) (gives_ended (codes ");") (operand_valid j)) (λ x h. (ok, h))))
    (gives_cond (begins (codes "RPY_ARG(") i) (gives_after (stripped (codes "RPY_ARG(") i) (λ j. gives_then (operand_valid j) (λ x k h. gives_mapped (stmt.Arg a x) (gives_ended (codes ");") (more_operand k)) (λ y g. (ok, h, g)))))
    (set_valid a i ok)))

by_unary_valid : (a : ℕ) (o : Option CUnary) (i : List ℕ) → a < 2 ^ 64 → Gives IsStatement (by_unary a o i)
by_unary_valid a None i ok = argument_or_set_valid a i ok
by_unary_valid a (Some op) i ok = unary_valid a op i ok

by_binary_valid : (a : ℕ) (o : Option CBinary) (i : List ℕ) → a < 2 ^ 64 → Gives IsStatement (by_binary a o i)
by_binary_valid a None i ok = by_unary_valid a (next_unary i) i ok
by_binary_valid a (Some op) i ok = binary_valid a op i ok

after_target_valid : (a : ℕ) (i : List ℕ) → a < 2 ^ 64 → Gives IsStatement (after_target a i)
unfolding after_target operation
after_target_valid a i ok =
    gives_cond (begins (codes "RPY_") i) (by_binary_valid a (next_binary i) i ok) (gives_cond (begins (codes "f") i) (call_valid (Some a) i ok) (gives_cond (of.sees_looked_into i) (get_valid a i ok) (gives_cond (begins (codes "((") i) (call_fn_valid (Some a) i ok) (gives_cond (begins (codes "(struct ") i) (cast_of_valid a i ok) (set_valid a i ok)))))

assignment_valid : (i : List ℕ) → Gives IsStatement (assignment i)
unfolding assignment
assignment_valid i = gives_then (gives_ended (codes " = ") (name_valid (codes "v") i)) (λ a j h. after_target_valid a j h)

around_valid : (start i : List ℕ) → Gives IsOperand (around start i)
around_valid start i = gives_after (stripped start i) (λ j. gives_ended (codes ");") (operand_valid j))

code_valid : (b : Bool) (n : ℕ) (j : List ℕ) → b ≡ (nat_le 1 n && nat_le n 5) → Gives (λ m. (1 ≤ m) × (m ≤ 5)) (cond b (Some (n, j)) None)
code_valid true n j e = some n j (grind (arith, common_steps), grind (arith, common_steps))
code_valid false n j e = none

fail_valid : (i : List ℕ) → Gives IsStatement (fail i)
unfolding fail
fail_valid i = gives_after (stripped (codes "RPY_FAIL(") i) (λ j. gives_mapped stmt.Fail (gives_ended (codes ");") (gives_then (number_valid 18446744073709551616 j) (λ n k h. code_valid (nat_le 1 n && nat_le n 5) n k refl))) (λ n h. h))

primitive_valid : (i : List ℕ) → Gives IsStatement (primitive i)
unfolding primitive exc_set
primitive_valid i =
    gives_cond (begins (codes "RPY_FREE(") i) (gives_mapped stmt.Free (gives_ended (codes ");") (name_valid (codes "RPY_FREE(v") i)) (λ a h. h))
    (gives_cond (begins (codes "RPY_STEP(") i) (gives_mapped stmt.Step (around_valid (codes "RPY_STEP(") i) (λ x h. h))
    (gives_cond (begins (codes "RPY_PUT(") i) (gives_mapped stmt.Put (around_valid (codes "RPY_PUT(") i) (λ x h. h))
    (gives_cond (begins (codes "RPY_EXC_SET(") i) (gives_then (name_valid (codes "RPY_EXC_SET(v") i) (λ a j h. gives_mapped (stmt.ExcSet a) (gives_ended (codes ");") (name_valid (codes ", v") j)) (λ b g. (h, g))))
    (gives_cond (begins (codes "RPY_EXC_CLEAR(") i) (gives_literal (codes "RPY_EXC_CLEAR();") stmt.ExcClear i tt)
    (gives_cond (begins (codes "RPY_FAIL(") i) (fail_valid i)
    (gives_mapped stmt.Raised (gives_ended (codes ");") (name_valid (codes "RPY_RAISED(v") i)) (λ a h. h)))))))

jump_if_valid : (i : List ℕ) → Gives IsStatement (jump_if i)
unfolding jump_if
jump_if_valid i = gives_then (gives_ended (codes ") goto ") (name_valid (codes "if (v") i)) (λ a j h. gives_then (gives_ended (codes "; else goto ") (name_valid (codes "b") j)) (λ b k g. gives_mapped (stmt.If a b) (gives_ended (codes ";") (name_valid (codes "b") k)) (λ c p. (h, g, p))))

jump_valid : (i : List ℕ) → Gives IsStatement (jump i)
unfolding jump
jump_valid i =
    gives_cond (begins (codes "goto ") i) (gives_mapped stmt.Goto (gives_ended (codes ";") (name_valid (codes "goto b") i)) (λ b h. h))
    (gives_cond (begins (codes "if ") i) (jump_if_valid i)
    (gives_cond (begins (codes "return;") i) (gives_literal (codes "return;") (stmt.Return None) i tt)
    (gives_after (stripped (codes "return ") i) (λ j. gives_mapped (λ x. stmt.Return (Some x)) (gives_ended (codes ";") (operand_valid j)) (λ x h. h)))))

pub statement_valid : (i : List ℕ) → Gives IsStatement (statement i)
unfolding statement bracketed
statement_valid i =
    gives_cond (begins (codes "v") i) (assignment_valid i) (gives_cond (begins (codes "RPY_") i) (primitive_valid i) (gives_cond (begins (codes "((") i) (gives_cond (of.sees_looked_into i) (put_in_valid i) (call_fn_valid None i tt)) (gives_cond (begins (codes "f") i) (call_valid None i tt) (jump_valid i))))

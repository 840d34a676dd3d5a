-- Statements are read as they are spelled.
use Rattle.std.proofs.Common.{◌≡◌, ℕ, pos, negsuc, zero, suc, ◌+◌, ◌^◌, ◌<◌, ◌≤◌, ◌==◌, ◌&&◌, nat_le, Bool, true, false, cond, List, [], ◌∷◌, ◌++◌, Option, Some, None, refl, ap, ◌∙◌, arith, append_assoc, length, length-append, codes}
use Rattle.std.specs.List.{flat_map}
use Rattle.std.specs.Fmt.{decimal, signed_decimal}
use Rattle.std.proofs.lemmas.Grind.{common_steps}
use Rattle.csub_tree.specs.declared.tree.CType.{CType}
use Rattle.csub_tree.specs.declared.tree.CType.TheVariants as type
use Rattle.csub_tree.specs.declared.tree.CConst.TheVariants as const
use Rattle.csub_tree.specs.declared.tree.COperand.{COperand}
use Rattle.csub_tree.specs.declared.tree.COperand.TheVariants as oper
use Rattle.csub_tree.specs.declared.tree.CUnary.{CUnary}
use Rattle.csub_tree.specs.declared.tree.CUnary.TheVariants as unary_op
use Rattle.csub_tree.specs.declared.tree.CBinary.{CBinary}
use Rattle.csub_tree.specs.declared.tree.CBinary.TheVariants as binary_op
use Rattle.csub_tree.specs.declared.tree.CStmt.{CStmt}
use Rattle.csub_tree.specs.declared.tree.CStmt.TheVariants as stmt
use Rattle.csub_tree.specs.Spelling as spell
use Rattle.csub_text.specs.Written.{All, IsType, IsTypeIfAny, IsOperand, IsStatement}
use Rattle.csub_text.specs.Read as read
use Rattle.csub_text.specs.Read.{Got, and_then, after, stripped, begins, literal, name, number_below, ended, mapped, operand, type_alone, result_alone}
use Rattle.csub_text.specs.ReadStatement as of
use Rattle.csub_text.specs.ReadStatement.{rest_of, list_of, operands, types, arguments, set, unary, binary, looked_into, index, get, set_field, set_item, put_in, new_block, new_array, set_static, after_cast, cast_of, call, callee, call_fn, arg_len, arg, argument_or_set, next_unary, next_binary, operation, after_target, assignment, exc_set, fail, primitive, jump_if, jump, bracketed, statement}
use Rattle.csub_text.proofs.Numbers.{ends, stripped_own, number_own, name_own, Digit, digit_first, is_other}
use Rattle.csub_text.proofs.Names.{operand_own, cast_own, type_alone_own, result_alone_own}

pub two : (a b r : List ℕ) → (a ++ b) ++ r ≡ a ++ (b ++ r)
two a b r = append_assoc a b r

pub three : (a b c r : List ℕ) → (a ++ b ++ c) ++ r ≡ a ++ (b ++ (c ++ r))
three a b c r = simp append_assoc

pub four : (a b c d r : List ℕ) → (a ++ b ++ c ++ d) ++ r ≡ a ++ (b ++ (c ++ (d ++ r)))
four a b c d r = simp append_assoc

pub five : (a b c d e r : List ℕ) → (a ++ b ++ c ++ d ++ e) ++ r ≡ a ++ (b ++ (c ++ (d ++ (e ++ r))))
five a b c d e r = simp append_assoc

pub six : (a b c d e f r : List ℕ) → (a ++ b ++ c ++ d ++ e ++ f) ++ r ≡ a ++ (b ++ (c ++ (d ++ (e ++ (f ++ r)))))
six a b c d e f r = simp append_assoc

pub seven : (a b c d e f g r : List ℕ) → (a ++ b ++ c ++ d ++ e ++ f ++ g) ++ r ≡ a ++ (b ++ (c ++ (d ++ (e ++ (f ++ (g ++ r))))))
seven a b c d e f g r = simp append_assoc

item_after : (t l i x c e r : List ℕ) → (t ++ (l ++ i ++ x ++ c) ++ e) ++ r ≡ t ++ (l ++ ((i ++ x ++ c) ++ (e ++ r)))
item_after t l i x c e r = simp append_assoc

item_before : (l i x c q y e r : List ℕ) → ((l ++ i ++ x ++ c) ++ q ++ y ++ e) ++ r ≡ l ++ ((i ++ x ++ c) ++ (q ++ (y ++ (e ++ r))))
item_before l i x c q y e r = simp append_assoc

-- ---- parts

-- a name, then what ends no number
pub named : (letter : List ℕ) (n : ℕ) (r : List ℕ) → n < 2 ^ 64 → ends r ≡ true → name letter ((letter ++ decimal n) ++ r) ≡ Some (n, r)
named letter n r ok e = ap (name letter) (two letter (decimal n) r) ∙ name_own letter n r ok e

looked_into_own : (s v : ℕ) (r : List ℕ) → s < 2 ^ 64 → v < 2 ^ 64 → looked_into (spell.looked_into s v ++ r) ≡ Some ((s, v), r)
unfolding looked_into
looked_into_own s v r ok_s ok_v =
    ap looked_into (four (codes "(") (spell.cast s) (spell.variable_name v) (codes ")->") r)
    ∙ rw (cast_own s (spell.variable_name v ++ (codes ")->" ++ r)) ok_s, number_own (2 ^ 64) v (codes ")->" ++ r) ok_v ok_v refl) refl

index_own : (x : COperand) (r : List ℕ) → IsOperand x → index ((codes "items[" ++ spell.operand_text x ++ codes "]") ++ r) ≡ Some (x, r)
unfolding index
index_own x r ok =
    ap index (three (codes "items[") (spell.operand_text x) (codes "]") r) ∙ rw (operand_own x (codes "]" ++ r) ok refl) refl

-- what an operand begins with
no_bracket_digit : (ds s r : List ℕ) → Digit ds → begins (codes ")") ((ds ++ s) ++ r) ≡ false
no_bracket_digit ds s r h =
    let t : (ds ++ s) ++ r ≡ h.first ∷ ((h.rest ++ s) ++ r) = ap (λ t. (t ++ s) ++ r) h.is in
    rw (t, is_other h.first 41 h.low h.high refl) refl

no_bracket_minus : (smallest : Bool) (n : ℕ) (r : List ℕ) → begins (codes ")") (cond smallest (codes "RPY_MIN") (signed_decimal (negsuc n) ++ codes "L") ++ r) ≡ false
no_bracket_minus true n r = refl
no_bracket_minus false n r = refl

no_bracket : (x : COperand) (r : List ℕ) → IsOperand x → begins (codes ")") (spell.operand_text x ++ r) ≡ false
no_bracket (oper.Var v) r ok = refl
no_bracket (oper.Const (const.Word (pos n))) r ok = no_bracket_digit (decimal n) (codes "L") r (digit_first n (omega arith))
no_bracket (oper.Const (const.Word (negsuc n))) r ok = no_bracket_minus (n == 9223372036854775807) n r
no_bracket (oper.Const (const.Char n)) r ok = refl
no_bracket (oper.Const (const.Bool true)) r ok = refl
no_bracket (oper.Const (const.Bool false)) r ok = refl
no_bracket (oper.Const const.Null) r ok = refl
no_bracket (oper.Const (const.Static s g)) r ok = refl
no_bracket (oper.Const (const.Fun f)) r ok = refl

-- ---- lists

more_text : {A : Type 0} → (A → List ℕ) → List A → List ℕ
more_text text xs = flat_map (spell.more text) xs

-- a part is read, where no number follows
pub record Reads {A : Type 0} (text : A → List ℕ) (read : List ℕ → Got A) (ok : A → Type 0) : Type 0 where
  pub one : (x : A) (r : List ℕ) → ok x → ends r ≡ true → read (text x ++ r) ≡ Some (x, r)

ends_more : {A : Type 0} (text : A → List ℕ) (xs : List A) (r : List ℕ) → ends r ≡ true → ends (flat_map (spell.more text) xs ++ r) ≡ true
ends_more text [] r e = e
ends_more text (x ∷ xs) r e = refl

rest_own : {A : Type 0} (text : A → List ℕ) (read : List ℕ → Got A) (ok : A → Type 0) → Reads text read ok → (k : ℕ) (xs : List A) (r : List ℕ) → length xs ≤ k → All ok xs
    → ends r ≡ true → begins (codes ", ") r ≡ false → rest_of read k (flat_map (spell.more text) xs ++ r) ≡ Some (xs, r)
unfolding rest_of
rest_own text read ok h zero [] r few all e apart = refl
rest_own text read ok h (suc k) [] r few all e apart = rw apart refl
rest_own text read ok h zero (x ∷ xs) r few all e apart = absurd (omega arith)
rest_own text read ok h (suc k) (x ∷ xs) r few all e apart =
    let t : (text x ++ flat_map (spell.more text) xs) ++ r ≡ text x ++ (flat_map (spell.more text) xs ++ r) = append_assoc (text x) (flat_map (spell.more text) xs) r in
    rw (t, h.one x (flat_map (spell.more text) xs ++ r) all.0 (ends_more text xs r e), rest_own text read ok h k xs r (omega arith) all.1 e apart) refl

-- a list is as long as its text at most
fits : {A : Type 0} (text : A → List ℕ) (xs : List A) (r : List ℕ) → length xs ≤ length (flat_map (spell.more text) xs ++ r)
fits text [] r = omega arith
fits text (x ∷ xs) r =
    let t : (text x ++ flat_map (spell.more text) xs) ++ r ≡ text x ++ (flat_map (spell.more text) xs ++ r) = append_assoc (text x) (flat_map (spell.more text) xs) r in
    let l : length (text x ++ (flat_map (spell.more text) xs ++ r)) ≡ length (text x) + length (flat_map (spell.more text) xs ++ r) = length-append (text x) (flat_map (spell.more text) xs ++ r) in
    let before : length xs ≤ length (flat_map (spell.more text) xs ++ r) = fits text xs r in
    rw t (omega (arith, l))

pub list_own : {A : Type 0} (text : A → List ℕ) (read : List ℕ → Got A) (ok : A → Type 0) → Reads text read ok → (x : A) (xs : List A) (r : List ℕ) → ok x → All ok xs
    → ends r ≡ true → begins (codes ", ") r ≡ false → list_of read (text x ++ (flat_map (spell.more text) xs ++ r)) ≡ Some (x ∷ xs, r)
list_own text read ok h x xs r one all e apart =
    rw (
      h.one x (flat_map (spell.more text) xs ++ r) one (ends_more text xs r e),
      rest_own text read ok h (length (flat_map (spell.more text) xs ++ r)) xs r (fits text xs r) all e apart,
    ) refl

reads_operand : Reads spell.operand_text operand IsOperand
reads_operand = record { one = operand_own }

reads_type : Reads spell.type_alone type_alone IsType
reads_type = record { one = λ t r ok e. type_alone_own t r ok }

-- operands and what closes them
operands_own : (xs : List COperand) (r : List ℕ) → All IsOperand xs → operands (spell.listed spell.operand_text xs ++ (codes ")" ++ r)) ≡ Some (xs, codes ")" ++ r)
unfolding operands
operands_own [] r all = refl
operands_own (x ∷ xs) r all =
    ap operands (two (spell.operand_text x) (flat_map (spell.more spell.operand_text) xs) (codes ")" ++ r))
    ∙ rw (no_bracket x (flat_map (spell.more spell.operand_text) xs ++ (codes ")" ++ r)) all.0)
    (list_own spell.operand_text operand IsOperand reads_operand x xs (codes ")" ++ r) all.0 all.1 refl refl)

arguments_own : (xs : List COperand) (r : List ℕ) → All IsOperand xs → arguments (spell.arguments xs ++ r) ≡ Some (xs, r)
unfolding arguments
arguments_own xs r all =
    ap arguments (three (codes "(") (spell.listed spell.operand_text xs) (codes ")") r) ∙ rw (operands_own xs r all) refl

no_void : (t : CType) (r : List ℕ) → begins (codes "void") (spell.type_alone t ++ r) ≡ false
no_void type.Signed r = refl
no_void type.Char r = refl
no_void type.Bool r = refl
no_void type.Fn r = refl
no_void (type.Ptr n) r = refl

types_own : (ts : List CType) (r : List ℕ) → All IsType ts → types (spell.listed_or_void spell.type_alone ts ++ (codes "))" ++ r)) ≡ Some (ts, codes "))" ++ r)
unfolding types
types_own [] r all = refl
types_own (x ∷ xs) r all =
    ap types (two (spell.type_alone x) (flat_map (spell.more spell.type_alone) xs) (codes "))" ++ r))
    ∙ rw (no_void x (flat_map (spell.more spell.type_alone) xs ++ (codes "))" ++ r)))
    (list_own spell.type_alone type_alone IsType reads_type x xs (codes "))" ++ r) all.0 all.1 refl refl)

-- ---- what a variable is given

set_own : (a : ℕ) (x : COperand) (r : List ℕ) → IsOperand x → set a (spell.operand_text x ++ (codes ";" ++ r)) ≡ Some (stmt.Set a x, r)
unfolding set
set_own a x r ok = rw (operand_own x (codes ";" ++ r) ok refl) refl

next_binary_own : (op : CBinary) (r : List ℕ) → next_binary (spell.binary_name op ++ (codes "(" ++ r)) ≡ Some op
unfolding next_binary
next_binary_own binary_op.Add r = refl
next_binary_own binary_op.Sub r = refl
next_binary_own binary_op.Mul r = refl
next_binary_own binary_op.Div r = refl
next_binary_own binary_op.Mod r = refl
next_binary_own binary_op.Shl r = refl
next_binary_own binary_op.Shr r = refl
next_binary_own binary_op.And r = refl
next_binary_own binary_op.Or r = refl
next_binary_own binary_op.Xor r = refl
next_binary_own binary_op.AddOvf r = refl
next_binary_own binary_op.SubOvf r = refl
next_binary_own binary_op.MulOvf r = refl
next_binary_own binary_op.ShlOvf r = refl
next_binary_own binary_op.Eq r = refl
next_binary_own binary_op.Ne r = refl
next_binary_own binary_op.Lt r = refl
next_binary_own binary_op.Le r = refl
next_binary_own binary_op.Gt r = refl
next_binary_own binary_op.Ge r = refl
next_binary_own binary_op.Beq r = refl
next_binary_own binary_op.Peq r = refl
next_binary_own binary_op.Feq r = refl

next_unary_own : (op : CUnary) (r : List ℕ) → next_unary (spell.unary_name op ++ (codes "(" ++ r)) ≡ Some op
unfolding next_unary
next_unary_own unary_op.Neg r = refl
next_unary_own unary_op.Inv r = refl
next_unary_own unary_op.Not r = refl
next_unary_own unary_op.C2S r = refl
next_unary_own unary_op.S2C r = refl
next_unary_own unary_op.B2S r = refl

next_binary_unary : (op : CUnary) (r : List ℕ) → next_binary (spell.unary_name op ++ (codes "(" ++ r)) ≡ None
unfolding next_binary
next_binary_unary unary_op.Neg r = refl
next_binary_unary unary_op.Inv r = refl
next_binary_unary unary_op.Not r = refl
next_binary_unary unary_op.C2S r = refl
next_binary_unary unary_op.S2C r = refl
next_binary_unary unary_op.B2S r = refl

binary_is_operation : (op : CBinary) (a : ℕ) (r : List ℕ) → after_target a (spell.binary_name op ++ r) ≡ operation a (spell.binary_name op ++ r)
unfolding after_target
binary_is_operation binary_op.Add a r = refl
binary_is_operation binary_op.Sub a r = refl
binary_is_operation binary_op.Mul a r = refl
binary_is_operation binary_op.Div a r = refl
binary_is_operation binary_op.Mod a r = refl
binary_is_operation binary_op.Shl a r = refl
binary_is_operation binary_op.Shr a r = refl
binary_is_operation binary_op.And a r = refl
binary_is_operation binary_op.Or a r = refl
binary_is_operation binary_op.Xor a r = refl
binary_is_operation binary_op.AddOvf a r = refl
binary_is_operation binary_op.SubOvf a r = refl
binary_is_operation binary_op.MulOvf a r = refl
binary_is_operation binary_op.ShlOvf a r = refl
binary_is_operation binary_op.Eq a r = refl
binary_is_operation binary_op.Ne a r = refl
binary_is_operation binary_op.Lt a r = refl
binary_is_operation binary_op.Le a r = refl
binary_is_operation binary_op.Gt a r = refl
binary_is_operation binary_op.Ge a r = refl
binary_is_operation binary_op.Beq a r = refl
binary_is_operation binary_op.Peq a r = refl
binary_is_operation binary_op.Feq a r = refl

unary_is_operation : (op : CUnary) (a : ℕ) (r : List ℕ) → after_target a (spell.unary_name op ++ r) ≡ operation a (spell.unary_name op ++ r)
unfolding after_target
unary_is_operation unary_op.Neg a r = refl
unary_is_operation unary_op.Inv a r = refl
unary_is_operation unary_op.Not a r = refl
unary_is_operation unary_op.C2S a r = refl
unary_is_operation unary_op.S2C a r = refl
unary_is_operation unary_op.B2S a r = refl

unary_own : (a : ℕ) (op : CUnary) (x : COperand) (r : List ℕ) → IsOperand x → unary a op (spell.unary_name op ++ (codes "(" ++ (spell.operand_text x ++ (codes ");" ++ r)))) ≡ Some (stmt.Unary a op x, r)
unfolding unary
unary_own a op x r ok = rw (stripped_own (spell.unary_name op) (codes "(" ++ (spell.operand_text x ++ (codes ");" ++ r))), operand_own x (codes ");" ++ r) ok refl) refl

binary_own : (a : ℕ) (op : CBinary) (x y : COperand) (r : List ℕ) → IsOperand x → IsOperand y
    → binary a op (spell.binary_name op ++ (codes "(" ++ (spell.operand_text x ++ (codes ", " ++ (spell.operand_text y ++ (codes ");" ++ r)))))) ≡ Some (stmt.Binary a op x y, r)
unfolding binary
binary_own a op x y r ok_x ok_y =
    rw (
      stripped_own (spell.binary_name op) (codes "(" ++ (spell.operand_text x ++ (codes ", " ++ (spell.operand_text y ++ (codes ");" ++ r))))),
      operand_own x (codes ", " ++ (spell.operand_text y ++ (codes ");" ++ r))) ok_x refl,
      operand_own y (codes ");" ++ r) ok_y refl,
    ) refl

after_unary : (a : ℕ) (op : CUnary) (x : COperand) (r : List ℕ) → IsOperand x → after_target a (spell.unary_name op ++ (codes "(" ++ (spell.operand_text x ++ (codes ");" ++ r)))) ≡ Some (stmt.Unary a op x, r)
unfolding operation
after_unary a op x r ok =
    unary_is_operation op a (codes "(" ++ (spell.operand_text x ++ (codes ");" ++ r)))
    ∙ rw (next_binary_unary op (spell.operand_text x ++ (codes ");" ++ r)), next_unary_own op (spell.operand_text x ++ (codes ");" ++ r))) (unary_own a op x r ok)

after_binary : (a : ℕ) (op : CBinary) (x y : COperand) (r : List ℕ) → IsOperand x → IsOperand y
    → after_target a (spell.binary_name op ++ (codes "(" ++ (spell.operand_text x ++ (codes ", " ++ (spell.operand_text y ++ (codes ");" ++ r)))))) ≡ Some (stmt.Binary a op x y, r)
unfolding operation
after_binary a op x y r ok_x ok_y =
    binary_is_operation op a (codes "(" ++ (spell.operand_text x ++ (codes ", " ++ (spell.operand_text y ++ (codes ");" ++ r)))))
    ∙ rw (next_binary_own op (spell.operand_text x ++ (codes ", " ++ (spell.operand_text y ++ (codes ");" ++ r))))) (binary_own a op x y r ok_x ok_y)

sees_own : (s b : ℕ) (r : List ℕ) → s < 2 ^ 64 → of.sees_looked_into (spell.looked_into s b ++ r) ≡ true
sees_own s b r ok =
    ap of.sees_looked_into (four (codes "(") (spell.cast s) (spell.variable_name b) (codes ")->") r)
    ∙ rw (cast_own s (spell.variable_name b ++ (codes ")->" ++ r)) ok) refl

to_get : (a : ℕ) (i : List ℕ) → begins (codes "RPY_") i ≡ false → begins (codes "f") i ≡ false → of.sees_looked_into i ≡ true → after_target a i ≡ get a i
unfolding after_target
to_get a i x y z = rw (x, y, z) refl

to_call_fn : (a : ℕ) (i : List ℕ) → begins (codes "RPY_") i ≡ false → begins (codes "f") i ≡ false → of.sees_looked_into i ≡ false → begins (codes "((") i ≡ true → after_target a i ≡ call_fn (Some a) i
unfolding after_target
to_call_fn a i x y z w = rw (x, y, z, w) refl

after_get_field : (a s b k : ℕ) (r : List ℕ) → s < 2 ^ 64 → b < 2 ^ 64 → k < 2 ^ 64
    → after_target a (spell.looked_into s b ++ (spell.field_name k ++ (codes ";" ++ r))) ≡ Some (stmt.GetField a s b k, r)
unfolding get
after_get_field a s b k r ok_s ok_b ok_k =
    to_get a (spell.looked_into s b ++ (spell.field_name k ++ (codes ";" ++ r))) refl refl (sees_own s b (spell.field_name k ++ (codes ";" ++ r)) ok_s)
    ∙ rw (looked_into_own s b (spell.field_name k ++ (codes ";" ++ r)) ok_s ok_b, number_own (2 ^ 64) k (codes ";" ++ r) ok_k ok_k refl) refl

after_get_item : (a s b : ℕ) (x : COperand) (r : List ℕ) → s < 2 ^ 64 → b < 2 ^ 64 → IsOperand x
    → after_target a (spell.looked_into s b ++ ((codes "items[" ++ spell.operand_text x ++ codes "]") ++ (codes ";" ++ r))) ≡ Some (stmt.GetItem a s b x, r)
unfolding get
after_get_item a s b x r ok_s ok_b ok =
    to_get a (spell.looked_into s b ++ ((codes "items[" ++ spell.operand_text x ++ codes "]") ++ (codes ";" ++ r))) refl refl (sees_own s b ((codes "items[" ++ spell.operand_text x ++ codes "]") ++ (codes ";" ++ r)) ok_s)
    ∙ rw (looked_into_own s b ((codes "items[" ++ spell.operand_text x ++ codes "]") ++ (codes ";" ++ r)) ok_s ok_b, index_own x (codes ";" ++ r) ok) refl

put_field : (s b k : ℕ) (x : COperand) (r : List ℕ) → s < 2 ^ 64 → b < 2 ^ 64 → k < 2 ^ 64 → IsOperand x
    → put_in (spell.looked_into s b ++ (spell.field_name k ++ (codes " = " ++ (spell.operand_text x ++ (codes ";" ++ r))))) ≡ Some (stmt.SetField s b k x, r)
unfolding put_in set_field
put_field s b k x r ok_s ok_b ok_k ok =
    rw (
      looked_into_own s b (spell.field_name k ++ (codes " = " ++ (spell.operand_text x ++ (codes ";" ++ r)))) ok_s ok_b,
      number_own (2 ^ 64) k (codes " = " ++ (spell.operand_text x ++ (codes ";" ++ r))) ok_k ok_k refl,
      operand_own x (codes ";" ++ r) ok refl,
    ) refl

put_item : (s b : ℕ) (i x : COperand) (r : List ℕ) → s < 2 ^ 64 → b < 2 ^ 64 → IsOperand i → IsOperand x
    → put_in (spell.looked_into s b ++ ((codes "items[" ++ spell.operand_text i ++ codes "]") ++ (codes " = " ++ (spell.operand_text x ++ (codes ";" ++ r))))) ≡ Some (stmt.SetItem s b i x, r)
unfolding put_in set_item
put_item s b i x r ok_s ok_b ok_i ok =
    rw (
      looked_into_own s b ((codes "items[" ++ spell.operand_text i ++ codes "]") ++ (codes " = " ++ (spell.operand_text x ++ (codes ";" ++ r)))) ok_s ok_b,
      index_own i (codes " = " ++ (spell.operand_text x ++ (codes ";" ++ r))) ok_i,
      operand_own x (codes ";" ++ r) ok refl,
    ) refl

cast_no_look : (m : ℕ) (i : List ℕ) → of.sees_looked_into (spell.cast m ++ i) ≡ false
unfolding read.cast
cast_no_look m i = refl

to_cast : (a m : ℕ) (i : List ℕ) → m < 2 ^ 64 → after_target a (spell.cast m ++ i) ≡ after_cast a m i
unfolding after_target cast_of
to_cast a m i ok = rw (cast_no_look m i, cast_own m i ok) refl

after_new : (a m s : ℕ) (r : List ℕ) → s < 2 ^ 64 → after_cast a m (codes "RPY_NEW(struct s" ++ (decimal s ++ (codes ");" ++ r))) ≡ Some (stmt.New a m s, r)
unfolding after_cast new_block
after_new a m s r ok = rw (number_own (2 ^ 64) s (codes ");" ++ r) ok ok refl) refl

after_new_array : (a m s : ℕ) (x : COperand) (r : List ℕ) → s < 2 ^ 64 → IsOperand x
    → after_cast a m (codes "RPY_NEWARRAY(struct s" ++ (decimal s ++ (codes ", " ++ (spell.operand_text x ++ (codes ");" ++ r))))) ≡ Some (stmt.NewArray a m s x, r)
unfolding after_cast new_array
after_new_array a m s x r ok_s ok =
    rw (number_own (2 ^ 64) s (codes ", " ++ (spell.operand_text x ++ (codes ");" ++ r))) ok_s ok_s refl, operand_own x (codes ");" ++ r) ok refl) refl

after_exc_type : (a m : ℕ) (r : List ℕ) → after_cast a m (codes "RPY_EXC_TYPE();" ++ r) ≡ Some (stmt.ExcType a m, r)
unfolding after_cast
after_exc_type a m r = refl

after_exc_value : (a m : ℕ) (r : List ℕ) → after_cast a m (codes "RPY_EXC_VALUE();" ++ r) ≡ Some (stmt.ExcValue a m, r)
unfolding after_cast
after_exc_value a m r = refl

after_static : (a m g : ℕ) (r : List ℕ) → g < 2 ^ 64 → after_cast a m (codes "&g" ++ (decimal g ++ (codes ";" ++ r))) ≡ Some (stmt.Set a (oper.Const (const.Static m g)), r)
unfolding after_cast set_static
after_static a m g r ok = rw (number_own (2 ^ 64) g (codes ";" ++ r) ok ok refl) refl

target_digit : (a d : ℕ) (i : List ℕ) → 48 ≤ d → d ≤ 57 → after_target a (d ∷ i) ≡ set a (d ∷ i)
unfolding after_target
target_digit a d i low high = rw (is_other d 82 low high refl, is_other d 102 low high refl, is_other d 40 low high refl) refl

digit_set : (a : ℕ) (ds s r : List ℕ) → Digit ds → after_target a ((ds ++ s) ++ r) ≡ set a ((ds ++ s) ++ r)
digit_set a ds s r h =
    let t : (ds ++ s) ++ r ≡ h.first ∷ ((h.rest ++ s) ++ r) = ap (λ t. (t ++ s) ++ r) h.is in
    rw t (target_digit a h.first ((h.rest ++ s) ++ r) h.low h.high)

minus_set : (smallest : Bool) (a n : ℕ) (r : List ℕ)
    → after_target a (cond smallest (codes "RPY_MIN") (signed_decimal (negsuc n) ++ codes "L") ++ (codes ";" ++ r))
    ≡ set a (cond smallest (codes "RPY_MIN") (signed_decimal (negsuc n) ++ codes "L") ++ (codes ";" ++ r))
unfolding after_target operation next_binary next_unary argument_or_set
minus_set true a n r = refl
minus_set false a n r = refl

after_set : (a : ℕ) (x : COperand) (r : List ℕ) → IsOperand x → after_target a (spell.operand_text x ++ (codes ";" ++ r)) ≡ Some (stmt.Set a x, r)
unfolding after_target operation next_binary next_unary argument_or_set read.cast
after_set a (oper.Var v) r ok = set_own a (oper.Var v) r ok
after_set a (oper.Const (const.Word (pos n))) r ok =
    digit_set a (decimal n) (codes "L") (codes ";" ++ r) (digit_first n (omega arith)) ∙ set_own a (oper.Const (const.Word (pos n))) r ok
after_set a (oper.Const (const.Word (negsuc n))) r ok = minus_set (n == 9223372036854775807) a n r ∙ set_own a (oper.Const (const.Word (negsuc n))) r ok
after_set a (oper.Const (const.Char n)) r ok = set_own a (oper.Const (const.Char n)) r ok
after_set a (oper.Const (const.Bool true)) r ok = set_own a (oper.Const (const.Bool true)) r ok
after_set a (oper.Const (const.Bool false)) r ok = set_own a (oper.Const (const.Bool false)) r ok
after_set a (oper.Const const.Null) r ok = set_own a (oper.Const const.Null) r ok
after_set a (oper.Const (const.Static s g)) r ok =
    ap (after_target a) (three (spell.cast s) (codes "&") (spell.static_name g) (codes ";" ++ r))
    ∙ to_cast a s (codes "&g" ++ (decimal g ++ (codes ";" ++ r))) ok.0 ∙ after_static a s g r ok.1
after_set a (oper.Const (const.Fun f)) r ok = set_own a (oper.Const (const.Fun f)) r ok

call_own : (a : Option ℕ) (f : ℕ) (xs : List COperand) (r : List ℕ) → f < 2 ^ 64 → All IsOperand xs
    → call a (spell.function_name f ++ (spell.arguments xs ++ (codes ";" ++ r))) ≡ Some (stmt.Call a f xs, r)
unfolding call
call_own a f xs r ok all =
    rw (number_own (2 ^ 64) f (spell.arguments xs ++ (codes ";" ++ r)) ok ok refl, arguments_own xs (codes ";" ++ r) all) refl

after_call : (a f : ℕ) (xs : List COperand) (r : List ℕ) → f < 2 ^ 64 → All IsOperand xs
    → after_target a (spell.function_name f ++ (spell.arguments xs ++ (codes ";" ++ r))) ≡ Some (stmt.Call (Some a) f xs, r)
unfolding after_target
after_call a f xs r ok all = call_own (Some a) f xs r ok all

callee_own : (result : Option CType) (ts : List CType) (v : ℕ) (r : List ℕ) → IsTypeIfAny result → All IsType ts → v < 2 ^ 64
    → callee (spell.callee result ts v ++ r) ≡ Some ((result, ts, v), r)
unfolding callee
callee_own result ts v r ok all ok_v =
    ap callee (seven (codes "((") (spell.result_alone result) (codes " (*)(") (spell.listed_or_void spell.type_alone ts) (codes "))") (spell.variable_name v) (codes ")") r)
    ∙ rw (
      result_alone_own result (codes " (*)(" ++ (spell.listed_or_void spell.type_alone ts ++ (codes "))" ++ (spell.variable_name v ++ (codes ")" ++ r))))) ok,
      types_own ts (spell.variable_name v ++ (codes ")" ++ r)) all,
      number_own (2 ^ 64) v (codes ")" ++ r) ok_v ok_v refl,
    ) refl

-- no block that is looked into: what is cast there is no pointer, or the cast goes on
callee_no_look : (result : Option CType) (r : List ℕ) → IsTypeIfAny result → of.sees_looked_into (codes "((" ++ (spell.result_alone result ++ (codes " (*)(" ++ r))) ≡ false
unfolding read.cast
callee_no_look None r ok = refl
callee_no_look (Some type.Signed) r ok = refl
callee_no_look (Some type.Char) r ok = refl
callee_no_look (Some type.Bool) r ok = refl
callee_no_look (Some type.Fn) r ok = refl
callee_no_look (Some (type.Ptr n)) r ok = rw (two (decimal n) (codes " *") (codes " (*)(" ++ r), number_own (2 ^ 64) n (codes " *" ++ (codes " (*)(" ++ r)) ok ok refl) refl

no_look : (result : Option CType) (ts : List CType) (v : ℕ) (r : List ℕ) → IsTypeIfAny result → of.sees_looked_into (spell.callee result ts v ++ r) ≡ false
no_look result ts v r ok =
    ap of.sees_looked_into (seven (codes "((") (spell.result_alone result) (codes " (*)(") (spell.listed_or_void spell.type_alone ts) (codes "))") (spell.variable_name v) (codes ")") r)
    ∙ callee_no_look result (spell.listed_or_void spell.type_alone ts ++ (codes "))" ++ (spell.variable_name v ++ (codes ")" ++ r)))) ok

call_fn_own : (a : Option ℕ) (result : Option CType) (ts : List CType) (v : ℕ) (xs : List COperand) (r : List ℕ) → IsTypeIfAny result → All IsType ts → v < 2 ^ 64 → All IsOperand xs
    → call_fn a (spell.callee result ts v ++ (spell.arguments xs ++ (codes ";" ++ r))) ≡ Some (stmt.CallFn a result ts v xs, r)
unfolding call_fn
call_fn_own a result ts v xs r ok_r ok_t ok_v all =
    rw (callee_own result ts v (spell.arguments xs ++ (codes ";" ++ r)) ok_r ok_t ok_v, arguments_own xs (codes ";" ++ r) all) refl

after_call_fn : (a : ℕ) (result : Option CType) (ts : List CType) (v : ℕ) (xs : List COperand) (r : List ℕ) → IsTypeIfAny result → All IsType ts → v < 2 ^ 64 → All IsOperand xs
    → after_target a (spell.callee result ts v ++ (spell.arguments xs ++ (codes ";" ++ r))) ≡ Some (stmt.CallFn (Some a) result ts v xs, r)
after_call_fn a result ts v xs r ok_r ok_t ok_v all =
    to_call_fn a (spell.callee result ts v ++ (spell.arguments xs ++ (codes ";" ++ r))) refl refl (no_look result ts v (spell.arguments xs ++ (codes ";" ++ r)) ok_r) refl
    ∙ call_fn_own (Some a) result ts v xs r ok_r ok_t ok_v all

after_arg_len : (a : ℕ) (x : COperand) (r : List ℕ) → IsOperand x → after_target a (codes "RPY_ARGLEN(" ++ (spell.operand_text x ++ (codes ");" ++ r))) ≡ Some (stmt.ArgLen a x, r)
unfolding after_target operation next_binary next_unary argument_or_set arg_len
after_arg_len a x r ok = rw (operand_own x (codes ");" ++ r) ok refl) refl

after_arg : (a : ℕ) (x y : COperand) (r : List ℕ) → IsOperand x → IsOperand y → after_target a (codes "RPY_ARG(" ++ (spell.operand_text x ++ (codes ", " ++ (spell.operand_text y ++ (codes ");" ++ r))))) ≡ Some (stmt.Arg a x y, r)
unfolding after_target operation next_binary next_unary argument_or_set arg
after_arg a x y r ok_x ok_y = rw (operand_own x (codes ", " ++ (spell.operand_text y ++ (codes ");" ++ r))) ok_x refl, operand_own y (codes ");" ++ r) ok_y refl) refl

after_argc : (a : ℕ) (r : List ℕ) → after_target a (codes "RPY_ARGC();" ++ r) ≡ Some (stmt.Argc a, r)
unfolding after_target operation next_binary next_unary argument_or_set
after_argc a r = refl

to_target : (a : ℕ) (r : List ℕ) → a < 2 ^ 64 → statement (spell.target a ++ r) ≡ after_target a r
unfolding statement assignment
to_target a r ok =
    ap statement (two (spell.variable_name a) (codes " = ") r) ∙ rw (number_own (2 ^ 64) a (codes " = " ++ r) ok ok refl) refl

-- ---- whole statements

small_code : (n : ℕ) → 1 ≤ n → n ≤ 5 → (nat_le 1 n && nat_le n 5) ≡ true
small_code n low high = grind (arith, common_steps)

fail_own : (n : ℕ) (r : List ℕ) → 1 ≤ n → n ≤ 5 → statement (codes "RPY_FAIL(" ++ (decimal n ++ (codes ");" ++ r))) ≡ Some (stmt.Fail n, r)
unfolding statement primitive fail
fail_own n r low high = rw (number_own 18446744073709551616 n (codes ");" ++ r) (omega arith) (omega arith) refl, small_code n low high) refl

pub statement_own : (s : CStmt) (r : List ℕ) → IsStatement s → statement (spell.statement_text s ++ r) ≡ Some (s, r)
unfolding statement primitive exc_set bracketed jump jump_if
statement_own (stmt.Set a x) r ok =
    ap statement (three (spell.target a) (spell.operand_text x) (codes ";") r) ∙ to_target a (spell.operand_text x ++ (codes ";" ++ r)) ok.0 ∙ after_set a x r ok.1
statement_own (stmt.Unary a op x) r ok =
    ap statement (five (spell.target a) (spell.unary_name op) (codes "(") (spell.operand_text x) (codes ");") r)
    ∙ to_target a (spell.unary_name op ++ (codes "(" ++ (spell.operand_text x ++ (codes ");" ++ r)))) ok.0 ∙ after_unary a op x r ok.1
statement_own (stmt.Binary a op x y) r ok =
    ap statement (seven (spell.target a) (spell.binary_name op) (codes "(") (spell.operand_text x) (codes ", ") (spell.operand_text y) (codes ");") r)
    ∙ to_target a (spell.binary_name op ++ (codes "(" ++ (spell.operand_text x ++ (codes ", " ++ (spell.operand_text y ++ (codes ");" ++ r)))))) ok.0 ∙ after_binary a op x y r ok.1 ok.2
statement_own (stmt.GetField a s b k) r ok =
    ap statement (four (spell.target a) (spell.looked_into s b) (spell.field_name k) (codes ";") r)
    ∙ to_target a (spell.looked_into s b ++ (spell.field_name k ++ (codes ";" ++ r))) ok.0 ∙ after_get_field a s b k r ok.1 ok.2 ok.3
statement_own (stmt.SetField s b k x) r ok =
    ap statement (five (spell.looked_into s b) (spell.field_name k) (codes " = ") (spell.operand_text x) (codes ";") r)
    ∙ rw (sees_own s b (spell.field_name k ++ (codes " = " ++ (spell.operand_text x ++ (codes ";" ++ r)))) ok.0) (put_field s b k x r ok.0 ok.1 ok.2 ok.3)
statement_own (stmt.GetItem a s b i) r ok =
    ap statement (item_after (spell.target a) (spell.looked_into s b) (codes "items[") (spell.operand_text i) (codes "]") (codes ";") r)
    ∙ to_target a (spell.looked_into s b ++ ((codes "items[" ++ spell.operand_text i ++ codes "]") ++ (codes ";" ++ r))) ok.0 ∙ after_get_item a s b i r ok.1 ok.2 ok.3
statement_own (stmt.SetItem s b i x) r ok =
    ap statement (item_before (spell.looked_into s b) (codes "items[") (spell.operand_text i) (codes "]") (codes " = ") (spell.operand_text x) (codes ";") r)
    ∙ rw (sees_own s b ((codes "items[" ++ spell.operand_text i ++ codes "]") ++ (codes " = " ++ (spell.operand_text x ++ (codes ";" ++ r)))) ok.0) (put_item s b i x r ok.0 ok.1 ok.2 ok.3)
statement_own (stmt.New a m s) r ok =
    ap statement (five (spell.target a) (spell.cast m) (codes "RPY_NEW(struct ") (spell.struct_name s) (codes ");") r)
    ∙ to_target a (spell.cast m ++ (codes "RPY_NEW(struct s" ++ (decimal s ++ (codes ");" ++ r)))) ok.0
    ∙ to_cast a m (codes "RPY_NEW(struct s" ++ (decimal s ++ (codes ");" ++ r))) ok.1 ∙ after_new a m s r ok.2
statement_own (stmt.NewArray a m s x) r ok =
    ap statement (seven (spell.target a) (spell.cast m) (codes "RPY_NEWARRAY(struct ") (spell.struct_name s) (codes ", ") (spell.operand_text x) (codes ");") r)
    ∙ to_target a (spell.cast m ++ (codes "RPY_NEWARRAY(struct s" ++ (decimal s ++ (codes ", " ++ (spell.operand_text x ++ (codes ");" ++ r)))))) ok.0
    ∙ to_cast a m (codes "RPY_NEWARRAY(struct s" ++ (decimal s ++ (codes ", " ++ (spell.operand_text x ++ (codes ");" ++ r))))) ok.1 ∙ after_new_array a m s x r ok.2 ok.3
statement_own (stmt.Free a) r ok = ap statement (three (codes "RPY_FREE(") (spell.variable_name a) (codes ");") r) ∙ rw (number_own (2 ^ 64) a (codes ");" ++ r) ok ok refl) refl
statement_own (stmt.Step x) r ok = ap statement (three (codes "RPY_STEP(") (spell.operand_text x) (codes ");") r) ∙ rw (operand_own x (codes ");" ++ r) ok refl) refl
statement_own (stmt.Call None f xs) r ok =
    ap statement (three (spell.function_name f) (spell.arguments xs) (codes ";") r) ∙ call_own None f xs r ok.1 ok.2
statement_own (stmt.Call (Some a) f xs) r ok =
    ap statement (four (spell.target a) (spell.function_name f) (spell.arguments xs) (codes ";") r)
    ∙ to_target a (spell.function_name f ++ (spell.arguments xs ++ (codes ";" ++ r))) ok.0 ∙ after_call a f xs r ok.1 ok.2
statement_own (stmt.CallFn None result types b xs) r ok =
    ap statement (three (spell.callee result types b) (spell.arguments xs) (codes ";") r)
    ∙ rw (no_look result types b (spell.arguments xs ++ (codes ";" ++ r)) ok.1) (call_fn_own None result types b xs r ok.1 ok.2 ok.3 ok.4)
statement_own (stmt.CallFn (Some a) result types b xs) r ok =
    ap statement (four (spell.target a) (spell.callee result types b) (spell.arguments xs) (codes ";") r)
    ∙ to_target a (spell.callee result types b ++ (spell.arguments xs ++ (codes ";" ++ r))) ok.0 ∙ after_call_fn a result types b xs r ok.1 ok.2 ok.3 ok.4
statement_own (stmt.ExcType a s) r ok =
    ap statement (three (spell.target a) (spell.cast s) (codes "RPY_EXC_TYPE();") r) ∙ to_target a (spell.cast s ++ (codes "RPY_EXC_TYPE();" ++ r)) ok.0
    ∙ to_cast a s (codes "RPY_EXC_TYPE();" ++ r) ok.1 ∙ after_exc_type a s r
statement_own (stmt.ExcValue a s) r ok =
    ap statement (three (spell.target a) (spell.cast s) (codes "RPY_EXC_VALUE();") r) ∙ to_target a (spell.cast s ++ (codes "RPY_EXC_VALUE();" ++ r)) ok.0
    ∙ to_cast a s (codes "RPY_EXC_VALUE();" ++ r) ok.1 ∙ after_exc_value a s r
statement_own (stmt.ExcSet a b) r ok =
    ap statement (five (codes "RPY_EXC_SET(") (spell.variable_name a) (codes ", ") (spell.variable_name b) (codes ");") r)
    ∙ rw (number_own (2 ^ 64) a (codes ", " ++ (spell.variable_name b ++ (codes ");" ++ r))) ok.0 ok.0 refl, number_own (2 ^ 64) b (codes ");" ++ r) ok.1 ok.1 refl) refl
statement_own stmt.ExcClear r ok = refl
statement_own (stmt.Argc a) r ok = ap statement (two (spell.target a) (codes "RPY_ARGC();") r) ∙ to_target a (codes "RPY_ARGC();" ++ r) ok ∙ after_argc a r
statement_own (stmt.ArgLen a x) r ok =
    ap statement (four (spell.target a) (codes "RPY_ARGLEN(") (spell.operand_text x) (codes ");") r) ∙ to_target a (codes "RPY_ARGLEN(" ++ (spell.operand_text x ++ (codes ");" ++ r))) ok.0 ∙ after_arg_len a x r ok.1
statement_own (stmt.Arg a x y) r ok =
    ap statement (six (spell.target a) (codes "RPY_ARG(") (spell.operand_text x) (codes ", ") (spell.operand_text y) (codes ");") r)
    ∙ to_target a (codes "RPY_ARG(" ++ (spell.operand_text x ++ (codes ", " ++ (spell.operand_text y ++ (codes ");" ++ r))))) ok.0 ∙ after_arg a x y r ok.1 ok.2
statement_own (stmt.Put x) r ok = ap statement (three (codes "RPY_PUT(") (spell.operand_text x) (codes ");") r) ∙ rw (operand_own x (codes ");" ++ r) ok refl) refl
statement_own (stmt.Goto b) r ok = ap statement (three (codes "goto ") (spell.block_name b) (codes ";") r) ∙ rw (number_own (2 ^ 64) b (codes ";" ++ r) ok ok refl) refl
statement_own (stmt.If a b c) r ok =
    ap statement (seven (codes "if (") (spell.variable_name a) (codes ") goto ") (spell.block_name b) (codes "; else goto ") (spell.block_name c) (codes ";") r)
    ∙ rw (
      number_own (2 ^ 64) a (codes ") goto " ++ (spell.block_name b ++ (codes "; else goto " ++ (spell.block_name c ++ (codes ";" ++ r))))) ok.0 ok.0 refl,
      number_own (2 ^ 64) b (codes "; else goto " ++ (spell.block_name c ++ (codes ";" ++ r))) ok.1 ok.1 refl,
      number_own (2 ^ 64) c (codes ";" ++ r) ok.2 ok.2 refl,
    ) refl
statement_own (stmt.Return None) r ok = refl
statement_own (stmt.Return (Some x)) r ok = ap statement (three (codes "return ") (spell.operand_text x) (codes ";") r) ∙ rw (operand_own x (codes ";" ++ r) ok refl) refl
statement_own (stmt.Fail n) r ok = ap statement (three (codes "RPY_FAIL(") (decimal n) (codes ");") r) ∙ fail_own n r ok.0 ok.1
statement_own (stmt.Raised a) r ok = ap statement (three (codes "RPY_RAISED(") (spell.variable_name a) (codes ");") r) ∙ rw (number_own (2 ^ 64) a (codes ");" ++ r) ok ok refl) refl

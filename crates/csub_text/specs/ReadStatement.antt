-- How a statement is read, from the front of bytes.
use Rattle.std.specs.Prelude.{ℕ, zero, suc, ◌&&◌, nat_le, Bool, cond, List, [], ◌∷◌, Option, Some, None, is_some, codes, length}
use Rattle.csub_tree.specs.declared.tree.CType.{CType}
use Rattle.csub_tree.specs.declared.tree.CConst.TheVariants as const
use Rattle.csub_tree.specs.declared.tree.COperand.{COperand}
use Rattle.csub_tree.specs.declared.tree.COperand.TheVariants as oper
use Rattle.csub_tree.specs.declared.tree.CUnary.{CUnary}
use Rattle.csub_tree.specs.declared.tree.CUnary.TheVariants as unary_op
use Rattle.csub_tree.specs.declared.tree.CBinary.{CBinary}
use Rattle.csub_tree.specs.declared.tree.CBinary.TheVariants as binary_op
use Rattle.csub_tree.specs.declared.tree.CStmt.{CStmt}
use Rattle.csub_tree.specs.declared.tree.CStmt.TheVariants as stmt
use Rattle.csub_tree.specs.Spelling.{unary_name, binary_name}
use Rattle.csub_text.specs.Read.{Got, and_then, after, stripped, begins, literal, name, number_below, ended, mapped, cast, operand, type_alone, result_alone}

-- ---- lists

abbrev pub more_item : {A : Type 0} → (List ℕ → Got A) → List ℕ → Got A
more_item read i = after (stripped (codes ", ") i) read

-- what follows the first part, at most this many parts
unfoldable pub rest_of : {A : Type 0} → (List ℕ → Got A) → ℕ → List ℕ → Got (List A)
rest_of read zero i = Some ([], i)
rest_of read (suc k) i = cond (begins (codes ", ") i) (and_then (more_item read i) (λ x j. mapped (λ xs. x ∷ xs) (rest_of read k j))) (Some ([], i))

abbrev pub list_of : {A : Type 0} → (List ℕ → Got A) → List ℕ → Got (List A)
list_of read i = and_then (read i) (λ x j. mapped (λ xs. x ∷ xs) (rest_of read (length j) j))

unfoldable pub operands : List ℕ → Got (List COperand)
operands i = cond (begins (codes ")") i) (Some ([], i)) (list_of operand i)

unfoldable pub types : List ℕ → Got (List CType)
types i = cond (begins (codes "void") i) (literal (codes "void") [] i) (list_of type_alone i)

unfoldable pub arguments : List ℕ → Got (List COperand)
arguments i = after (stripped (codes "(") i) (λ j. ended (operands j) (codes ")"))

-- ---- what a variable is given

unfoldable pub set : ℕ → List ℕ → Got CStmt
set a i = mapped (stmt.Set a) (ended (operand i) (codes ";"))

unfoldable pub unary : ℕ → CUnary → List ℕ → Got CStmt
unary a op i = after (stripped (unary_name op) i) (λ j. after (stripped (codes "(") j) (λ k. mapped (stmt.Unary a op) (ended (operand k) (codes ");"))))

unfoldable pub binary : ℕ → CBinary → List ℕ → Got CStmt
binary a op i =
    after (stripped (binary_name op) i) (λ j. after (stripped (codes "(") j) (λ k.
    and_then (operand k) (λ x l. mapped (stmt.Binary a op x) (ended (more_item operand l) (codes ");")))))

unfoldable pub looked_into : List ℕ → Got (ℕ × ℕ)
looked_into i = after (stripped (codes "(") i) (λ j. and_then (cast j) (λ s k. mapped (λ v. (s, v)) (ended (name (codes "v") k) (codes ")->"))))

unfoldable pub index : List ℕ → Got COperand
index i = after (stripped (codes "items[") i) (λ j. ended (operand j) (codes "]"))

unfoldable pub get : ℕ → List ℕ → Got CStmt
get a i = and_then (looked_into i) (λ p j.
    cond (begins (codes "a") j) (mapped (stmt.GetField a p.0 p.1) (ended (name (codes "a") j) (codes ";")))
    (mapped (stmt.GetItem a p.0 p.1) (ended (index j) (codes ";"))))

unfoldable pub set_field : ℕ → ℕ → List ℕ → Got CStmt
set_field s b i = and_then (ended (name (codes "a") i) (codes " = ")) (λ k j. mapped (stmt.SetField s b k) (ended (operand j) (codes ";")))

unfoldable pub set_item : ℕ → ℕ → List ℕ → Got CStmt
set_item s b i = and_then (ended (index i) (codes " = ")) (λ x j. mapped (stmt.SetItem s b x) (ended (operand j) (codes ";")))

unfoldable pub put_in : List ℕ → Got CStmt
put_in i = and_then (looked_into i) (λ p j. cond (begins (codes "a") j) (set_field p.0 p.1 j) (set_item p.0 p.1 j))

unfoldable pub new_block : ℕ → ℕ → List ℕ → Got CStmt
new_block a m i = mapped (stmt.New a m) (ended (name (codes "RPY_NEW(struct s") i) (codes ");"))

unfoldable pub new_array : ℕ → ℕ → List ℕ → Got CStmt
new_array a m i = and_then (name (codes "RPY_NEWARRAY(struct s") i) (λ s j. mapped (stmt.NewArray a m s) (ended (more_item operand j) (codes ");")))

unfoldable pub set_static : ℕ → ℕ → List ℕ → Got CStmt
set_static a m i = mapped (λ g. stmt.Set a (oper.Const (const.Static m g))) (ended (name (codes "&g") i) (codes ";"))

unfoldable pub after_cast : ℕ → ℕ → List ℕ → Got CStmt
after_cast a m i =
    cond (begins (codes "RPY_NEW(") i) (new_block a m i)
    (cond (begins (codes "RPY_NEWARRAY(") i) (new_array a m i)
    (cond (begins (codes "RPY_EXC_TYPE") i) (literal (codes "RPY_EXC_TYPE();") (stmt.ExcType a m) i)
    (cond (begins (codes "RPY_EXC_VALUE") i) (literal (codes "RPY_EXC_VALUE();") (stmt.ExcValue a m) i)
    (set_static a m i))))

unfoldable pub cast_of : ℕ → List ℕ → Got CStmt
cast_of a i = and_then (cast i) (λ m j. after_cast a m j)

unfoldable pub call : Option ℕ → List ℕ → Got CStmt
call a i = and_then (name (codes "f") i) (λ f j. mapped (stmt.Call a f) (ended (arguments j) (codes ";")))

-- the result, the types and the variable
abbrev pub Callee : Type 0
Callee = Option CType × List CType × ℕ

unfoldable pub callee : List ℕ → Got Callee
callee i =
    after (stripped (codes "((") i) (λ j. and_then (result_alone j) (λ result k.
    after (stripped (codes " (*)(") k) (λ l. and_then (types l) (λ kinds m.
    after (stripped (codes "))") m) (λ n. mapped (λ v. (result, kinds, v)) (ended (name (codes "v") n) (codes ")")))))))

unfoldable pub call_fn : Option ℕ → List ℕ → Got CStmt
call_fn a i = and_then (callee i) (λ c j. mapped (stmt.CallFn a c.0 c.1 c.2) (ended (arguments j) (codes ";")))

abbrev pub sees_looked_into : List ℕ → Bool
sees_looked_into i = is_some (after (stripped (codes "(") i) cast)

unfoldable pub arg_len : ℕ → List ℕ → Got CStmt
arg_len a i = after (stripped (codes "RPY_ARGLEN(") i) (λ j. mapped (stmt.ArgLen a) (ended (operand j) (codes ");")))

unfoldable pub arg : ℕ → List ℕ → Got CStmt
arg a i = after (stripped (codes "RPY_ARG(") i) (λ j. and_then (operand j) (λ x k. mapped (stmt.Arg a x) (ended (more_item operand k) (codes ");"))))

unfoldable pub argument_or_set : ℕ → List ℕ → Got CStmt
argument_or_set a i =
    cond (begins (codes "RPY_ARGC(") i) (literal (codes "RPY_ARGC();") (stmt.Argc a) i)
    (cond (begins (codes "RPY_ARGLEN(") i) (arg_len a i)
    (cond (begins (codes "RPY_ARG(") i) (arg a i)
    (set a i)))

abbrev pub unaries : List CUnary
unaries = unary_op.Neg ∷ unary_op.Inv ∷ unary_op.Not ∷ unary_op.C2S ∷ unary_op.S2C ∷ unary_op.B2S ∷ []

abbrev pub binaries : List CBinary
binaries =
    binary_op.Add ∷ binary_op.Sub ∷ binary_op.Mul ∷ binary_op.Div ∷ binary_op.Mod ∷ binary_op.Shl ∷ binary_op.Shr ∷ binary_op.And ∷ binary_op.Or ∷ binary_op.Xor
    ∷ binary_op.AddOvf ∷ binary_op.SubOvf ∷ binary_op.MulOvf ∷ binary_op.ShlOvf ∷ binary_op.Eq ∷ binary_op.Ne ∷ binary_op.Lt ∷ binary_op.Le ∷ binary_op.Gt ∷ binary_op.Ge
    ∷ binary_op.Beq ∷ binary_op.Peq ∷ binary_op.Feq ∷ []

-- whether this name and a bracket come next
abbrev pub sees_call : List ℕ → List ℕ → Bool
sees_call called i = is_some (after (stripped called i) (λ j. literal {A = ℕ} (codes "(") 0 j))

-- the first whose name and a bracket come next
abbrev pub first_called : {A : Type 0} → (A → List ℕ) → List A → List ℕ → Option A
first_called name_of [] i = None
first_called name_of (x ∷ xs) i = cond (sees_call (name_of x) i) (Some x) (first_called name_of xs i)

unfoldable pub next_unary : List ℕ → Option CUnary
next_unary i = first_called unary_name unaries i

unfoldable pub next_binary : List ℕ → Option CBinary
next_binary i = first_called binary_name binaries i

abbrev pub by_unary : ℕ → Option CUnary → List ℕ → Got CStmt
by_unary a None i = argument_or_set a i
by_unary a (Some op) i = unary a op i

abbrev pub by_binary : ℕ → Option CBinary → List ℕ → Got CStmt
by_binary a None i = by_unary a (next_unary i) i
by_binary a (Some op) i = binary a op i

unfoldable pub operation : ℕ → List ℕ → Got CStmt
operation a i = by_binary a (next_binary i) i

unfoldable pub after_target : ℕ → List ℕ → Got CStmt
after_target a i =
    cond (begins (codes "RPY_") i) (operation a i)
    (cond (begins (codes "f") i) (call (Some a) i)
    (cond (sees_looked_into i) (get a i)
    (cond (begins (codes "((") i) (call_fn (Some a) i)
    (cond (begins (codes "(struct ") i) (cast_of a i)
    (set a i)))))

unfoldable pub assignment : List ℕ → Got CStmt
assignment i = and_then (ended (name (codes "v") i) (codes " = ")) (λ a j. after_target a j)

-- ---- other statements

abbrev pub around : List ℕ → List ℕ → Got COperand
around start i = after (stripped start i) (λ j. ended (operand j) (codes ");"))

unfoldable pub exc_set : List ℕ → Got CStmt
exc_set i = and_then (name (codes "RPY_EXC_SET(v") i) (λ a j. mapped (stmt.ExcSet a) (ended (name (codes ", v") j) (codes ");")))

-- a number from 1 to 5
abbrev pub fail_code : List ℕ → Got ℕ
fail_code i = and_then (number_below 18446744073709551616 i) (λ n j. cond (nat_le 1 n && nat_le n 5) (Some (n, j)) None)

unfoldable pub fail : List ℕ → Got CStmt
fail i = after (stripped (codes "RPY_FAIL(") i) (λ j. mapped stmt.Fail (ended (fail_code j) (codes ");")))

unfoldable pub primitive : List ℕ → Got CStmt
primitive i =
    cond (begins (codes "RPY_FREE(") i) (mapped stmt.Free (ended (name (codes "RPY_FREE(v") i) (codes ");")))
    (cond (begins (codes "RPY_STEP(") i) (mapped stmt.Step (around (codes "RPY_STEP(") i))
    (cond (begins (codes "RPY_PUT(") i) (mapped stmt.Put (around (codes "RPY_PUT(") i))
    (cond (begins (codes "RPY_EXC_SET(") i) (exc_set i)
    (cond (begins (codes "RPY_EXC_CLEAR(") i) (literal (codes "RPY_EXC_CLEAR();") stmt.ExcClear i)
    (cond (begins (codes "RPY_FAIL(") i) (fail i)
    (mapped stmt.Raised (ended (name (codes "RPY_RAISED(v") i) (codes ");"))))))))

unfoldable pub jump_if : List ℕ → Got CStmt
jump_if i =
    and_then (ended (name (codes "if (v") i) (codes ") goto ")) (λ a j. and_then (ended (name (codes "b") j) (codes "; else goto ")) (λ b k.
    mapped (stmt.If a b) (ended (name (codes "b") k) (codes ";"))))

unfoldable pub jump : List ℕ → Got CStmt
jump i =
    cond (begins (codes "goto ") i) (mapped stmt.Goto (ended (name (codes "goto b") i) (codes ";")))
    (cond (begins (codes "if ") i) (jump_if i)
    (cond (begins (codes "return;") i) (literal (codes "return;") (stmt.Return None) i)
    (after (stripped (codes "return ") i) (λ j. mapped (λ x. stmt.Return (Some x)) (ended (operand j) (codes ";"))))))

unfoldable pub bracketed : List ℕ → Got CStmt
bracketed i = cond (sees_looked_into i) (put_in i) (call_fn None i)

unfoldable pub statement : List ℕ → Got CStmt
statement i =
    cond (begins (codes "v") i) (assignment i)
    (cond (begins (codes "RPY_") i) (primitive i)
    (cond (begins (codes "((") i) (bracketed i)
    (cond (begins (codes "f") i) (call None i)
    (jump i))))

-- The C file of a program of the first path: functions 0 and 1 print a word, and the last is the program.
use Rattle.std.specs.Prelude.{ℕ, ◌+◌, ◌-◌, ℤ, pos, negsuc, List, [], ◌∷◌, ◌++◌, Option, Some, None, codes, replicate}
use Rattle.rpy_tree.specs.Pure.{Expr, Int, Local, Binary}
use Rattle.rpy_tree.specs.declared.syntax.BinOp.{BinOp}
use Rattle.rpy_tree.specs.declared.syntax.BinOp.TheVariants as binop
use Rattle.rpy_first.specs.Program.{expr_of}
use Rattle.rpy_first.specs.declared.body.Sum.{Sum}
use Rattle.rpy_first.specs.declared.body.Line.{Line}
use Rattle.rpy_first.specs.declared.body.Line.TheVariants as line
use Rattle.rpy_first.specs.declared.body.Body.{Body}
use Rattle.first_lower.specs.declared.lower.Place.{Place}
use Rattle.csub_tree.specs.Spelling.{file_text}
use Rattle.csub_tree.specs.declared.tree.CFile.{CFile}
use Rattle.csub_tree.specs.declared.tree.CType.TheVariants.{Signed, Bool}
use Rattle.csub_tree.specs.declared.tree.CPrototype.{CPrototype}
use Rattle.csub_tree.specs.declared.tree.CFunction.{CFunction}
use Rattle.csub_tree.specs.declared.tree.CConst.TheVariants.{Word}
use Rattle.csub_tree.specs.declared.tree.COperand.{COperand}
use Rattle.csub_tree.specs.declared.tree.COperand.TheVariants.{Var, Const}
use Rattle.csub_tree.specs.declared.tree.CBinary.{CBinary}
use Rattle.csub_tree.specs.declared.tree.CBinary.TheVariants as op
use Rattle.csub_tree.specs.declared.tree.CStmt.{CStmt}
use Rattle.csub_tree.specs.declared.tree.CStmt.TheVariants as stmt

abbrev pub operation : BinOp → CBinary
operation binop.Add = op.Add
operation binop.Sub = op.Sub
operation binop.Mul = op.Mul
operation binop.Div = op.Div
operation binop.FloorDiv = op.Div
operation binop.Mod = op.Mod
operation binop.Shl = op.Shl
operation binop.Shr = op.Shr
operation binop.BitAnd = op.And
operation binop.BitOr = op.Or
operation binop.BitXor = op.Xor

abbrev pub number : ℤ → COperand
number z = Const (Word z)

-- statements that compute a value, where it is then, and the first variable that they leave free
pub record Code : Type 0 where
  pub statements : List CStmt
  pub value : COperand
  pub free : ℕ

-- what the code of a sum tells of it
abbrev pub place_in : Code → Place
place_in c = record { value = c.value; free = c.free }

abbrev pub both : BinOp → Code → Code → Code
both f a b = record {
  statements = a.statements ++ b.statements ++ stmt.Binary b.free (operation f) a.value b.value ∷ [];
  value = Var b.free;
  free = b.free + 1;
}

-- an expression, with its variables from this one on; the parameter is never read, so local i + 1 is variable i
abbrev pub expr_code : Expr → ℕ → Code
expr_code (Int z) free = record { statements = []; value = number z; free = free }
expr_code (Local i) free = record { statements = []; value = Var (i - 1); free = free }
expr_code (Binary f a b) free = both f (expr_code a free) (expr_code b (expr_code a free).free)

-- what is done with a line's value
abbrev pub use_of : Line → COperand → List CStmt
use_of (line.Assign i s) x = stmt.Set i x ∷ []
use_of (line.Print s) x = stmt.Call None 1 (x ∷ []) ∷ stmt.Put (number (pos 10)) ∷ []

abbrev pub sum_of : Line → Sum
sum_of (line.Assign i s) = s
sum_of (line.Print s) = s

abbrev pub line_statements : Line → Code → List CStmt
line_statements l c = c.statements ++ use_of l c.value

abbrev pub after_code : List CStmt → Code → Code
after_code before c = record { statements = before ++ c.statements; value = c.value; free = c.free }

-- the lines, and then the sum that is returned
abbrev pub lines_code : List Line → Sum → ℕ → Code
lines_code [] result free = expr_code (expr_of result) free
lines_code (l ∷ ls) result free = after_code (line_statements l (expr_code (expr_of (sum_of l)) free)) (lines_code ls result (expr_code (expr_of (sum_of l)) free).free)

abbrev pub entry_block : Code → List CStmt
entry_block c = stmt.Step (number (pos 1)) ∷ c.statements ++ stmt.Return (Some c.value) ∷ []

abbrev pub entry_of : List ℕ → Code → CFunction
entry_of name c = record { name = name; result = Some Signed; params = []; locals = replicate c.free Signed; blocks = entry_block c ∷ [] }

-- a function that takes a word, with a truth value and a word as locals
abbrev pub printer_of : List ℕ → List (List CStmt) → CFunction
printer_of name blocks = record { name = name; result = None; params = Signed ∷ []; locals = Bool ∷ Signed ∷ []; blocks = blocks }

-- prints the digits of a word that is not below zero: those before the last, and the last
abbrev pub print_digits : CFunction
print_digits = printer_of (codes "print_digits") (
    (stmt.Binary 1 op.Lt (Var 0) (number (pos 10)) ∷ stmt.If 1 2 1 ∷ [])
    ∷ (stmt.Binary 2 op.Div (Var 0) (number (pos 10)) ∷ stmt.Call None 0 (Var 2 ∷ []) ∷ stmt.Goto 2 ∷ [])
    ∷ (stmt.Binary 2 op.Mod (Var 0) (number (pos 10)) ∷ stmt.Binary 2 op.Add (Var 2) (number (pos 48)) ∷ stmt.Put (Var 2) ∷ stmt.Return None ∷ [])
    ∷ [])

-- prints a minus, and the digits of a word below zero. They are those of its quotient and remainder by -10, which are not below and
-- not above zero: so the smallest word needs no size that is no word
abbrev pub below_zero : List (List CStmt)
below_zero =
    (stmt.Put (number (pos 45)) ∷ stmt.Binary 2 op.Div (Var 0) (number (negsuc 9)) ∷ stmt.Binary 1 op.Eq (Var 2) (number (pos 0)) ∷ stmt.If 1 3 2 ∷ [])
    ∷ (stmt.Call None 0 (Var 2 ∷ []) ∷ stmt.Goto 3 ∷ [])
    ∷ (stmt.Binary 2 op.Mod (Var 0) (number (negsuc 9)) ∷ stmt.Binary 2 op.Sub (number (pos 48)) (Var 2) ∷ stmt.Put (Var 2) ∷ stmt.Return None ∷ [])
    ∷ []

abbrev pub print_word : CFunction
print_word = printer_of (codes "print_word") (
    (stmt.Binary 1 op.Lt (Var 0) (number (pos 0)) ∷ stmt.If 1 1 4 ∷ [])
    ∷ (below_zero
    ++ (stmt.Call None 0 (Var 0 ∷ []) ∷ stmt.Return None ∷ [])
    ∷ []))

abbrev pub printer : CPrototype
printer = record { result = None; params = Signed ∷ [] }

abbrev pub entry_prototype : CPrototype
entry_prototype = record { result = Some Signed; params = [] }

abbrev pub file_of : List ℕ → Code → CFile
file_of name c = record {
  structs = [];
  prototypes = printer ∷ printer ∷ entry_prototype ∷ [];
  statics = [];
  functions = print_digits ∷ print_word ∷ entry_of name c ∷ [];
}

-- the locals are the first variables
abbrev pub lowered : List ℕ → Body → CFile
lowered name body = file_of name (lines_code body.lines body.result body.locals)

-- the C text of a program
abbrev pub text_of : List ℕ → Body → List ℕ
text_of name body = file_text (lowered (name ++ codes ".entry_point") body)

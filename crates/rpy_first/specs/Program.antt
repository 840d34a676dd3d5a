-- The program that a body of the first path is, and when its locals are bound where they are read.
use Rattle.std.specs.Prelude.{ℕ, zero, suc, ◌+◌, ◌^◌, ◌==◌, ◌&&◌, nat_lt, nat_le, Bool, true, false, if◌then◌else◌, ℤ, pos, negsuc, List, [], ◌∷◌, length, Option, Some, None}
use Rattle.rpy_tree.specs.Pure.{Expr, Int, Local, Binary, none, more, Name, Stmt, Assign, Print, Return, Block, done, line, Program}
use Rattle.rpy_tree.specs.declared.syntax.BinOp.{BinOp}
use Rattle.rpy_tree.specs.declared.syntax.BinOp.TheVariants as op
use Rattle.rpy_first.specs.declared.body.Arith.{Arith}
use Rattle.rpy_first.specs.declared.body.Arith.TheVariants as arith
use Rattle.rpy_first.specs.declared.body.Sum.{Sum, fold-Sum}
use Rattle.rpy_first.specs.declared.body.Sum.TheOpen.{Sum-F}
use Rattle.rpy_first.specs.declared.body.Line.{Line}
use Rattle.rpy_first.specs.declared.body.Line.TheVariants as first
use Rattle.rpy_first.specs.declared.body.Body.{Body}

abbrev pub operator : Arith → BinOp
operator arith.Add = op.Add
operator arith.Sub = op.Sub
operator arith.Mul = op.Mul

-- the parameter is local 0, so those of a body come after it
abbrev pub sum_step : Sum-F Expr → Expr
sum_step (Sum-F.Word z) = Int z
sum_step (Sum-F.Local i) = Local (suc i)
sum_step (Sum-F.Binary f a b) = Binary (operator f) a b

abbrev pub expr_of : Sum → Expr
expr_of = fold-Sum Expr sum_step

abbrev pub stmt_of : Line → Stmt
stmt_of (first.Assign i s) = Assign (Name (suc i)) (expr_of s)
stmt_of (first.Print s) = Print (more (expr_of s) none)

abbrev pub block_of : List Line → Sum → Block
block_of [] result = line (Return (expr_of result)) done
block_of (l ∷ ls) result = line (stmt_of l) (block_of ls result)

abbrev pub program_of : Body → Program
program_of body = record {
  functions = record { locals = suc body.locals; body = block_of body.lines body.result } ∷ [];
  entry = 0;
  classes = [];
}

-- ---- bound locals

-- the first k locals of a body are bound
abbrev pub is_bound_local : ℕ → ℕ → Bool
is_bound_local k zero = false
is_bound_local k (suc i) = nat_lt i k

abbrev pub is_literal : ℤ → Bool
is_literal (pos n) = nat_lt n (2 ^ 63)
is_literal (negsuc n) = false

abbrev pub is_arithmetic : BinOp → Bool
is_arithmetic op.Add = true
is_arithmetic op.Sub = true
is_arithmetic op.Mul = true
is_arithmetic other = false

-- the locals that are read are bound, the literals are words, and the operators those of sums
abbrev pub reads_bound : ℕ → Expr → Bool
reads_bound k (Int z) = is_literal z
reads_bound k (Local i) = is_bound_local k i
reads_bound k (Binary f a b) = is_arithmetic f && (reads_bound k a && reads_bound k b)

-- a line binds one of the first k locals again, or the next one
abbrev pub line_ok : ℕ → Line → Bool
line_ok k (first.Assign i s) = nat_le i k && reads_bound k (expr_of s)
line_ok k (first.Print s) = reads_bound k (expr_of s)

abbrev pub bound_by : ℕ → Line → ℕ
bound_by k (first.Assign i s) = if i == k then k + 1 else k
bound_by k (first.Print s) = k

abbrev pub lines_ok : ℕ → List Line → Sum → ℕ → Bool
lines_ok k [] result locals = k == locals && reads_bound k (expr_of result)
lines_ok k (l ∷ ls) result locals = line_ok k l && lines_ok (bound_by k l) ls result locals

abbrev pub is_bound : Body → Bool
is_bound body = lines_ok 0 body.lines body.result body.locals

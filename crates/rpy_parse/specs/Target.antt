-- Expressions that are targets.
use Rattle.std.specs.Prelude.{ℕ, ◌+◌, sum}
use Rattle.rpy_tree.specs.declared.syntax.Expr.{Expr, fold-Expr}
use Rattle.rpy_tree.specs.declared.syntax.Expr.TheOpen.{Expr-F, Target-F}

abbrev size_step : Expr-F ℕ ℕ → ℕ
size_step (Expr-F.Expr::Tuple n xs) = sum xs + 1
size_step x = 1

abbrev no_size : Target-F ℕ ℕ → ℕ
no_size x = 0

-- how many tuples and other expressions stand in a tuple
abbrev pub size : Expr → ℕ
size = fold-Expr ℕ ℕ size_step no_size

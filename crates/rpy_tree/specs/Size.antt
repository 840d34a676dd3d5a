-- How many nodes a tree has.
use Rattle.std.specs.Prelude.{ℕ, ◌+◌, List, sum, sum_by, unwrap_or}
use Rattle.std.specs.Option.{option_map_or}
use Rattle.rpy_tree.specs.declared.syntax.Expr.{Expr, fold-Expr}
use Rattle.rpy_tree.specs.declared.syntax.Expr.TheFolds.{fold-Target}
use Rattle.rpy_tree.specs.declared.syntax.Expr.TheOpen.{Expr-F, Target-F}
use Rattle.rpy_tree.specs.declared.syntax.Target.{Target}
use Rattle.rpy_tree.specs.declared.syntax.Stmt.{Stmt, fold-Stmt}
use Rattle.rpy_tree.specs.declared.syntax.Stmt.TheFolds.{fold-Clause}
use Rattle.rpy_tree.specs.declared.syntax.Stmt.TheOpen.{Stmt-F, Clause-F}
use Rattle.rpy_tree.specs.declared.syntax.Clause.{Clause}
use Rattle.rpy_tree.specs.declared.program.Const.{Const, fold-Const}
use Rattle.rpy_tree.specs.declared.program.Const.TheOpen.{Const-F}

-- an expression, with the count of each part in its place
abbrev pub expr_step : Expr-F ℕ ℕ → ℕ
expr_step (Expr-F.Int n v) = 1
expr_step (Expr-F.Str n text) = 1
expr_step (Expr-F.Expr::Name n name) = 1
expr_step (Expr-F.Unary n op a) = a + 1
expr_step (Expr-F.Binary n op a b) = a + b + 1
expr_step (Expr-F.Compare n op a b) = a + b + 1
expr_step (Expr-F.Logic n is_and a b) = a + b + 1
expr_step (Expr-F.Not n a) = a + 1
expr_step (Expr-F.Call n f args) = f + sum args + 1
expr_step (Expr-F.Expr::Attr n a name) = a + 1
expr_step (Expr-F.Index n a i) = a + i + 1
expr_step (Expr-F.Slice n a from to) = a + unwrap_or from 0 + unwrap_or to 0 + 1
expr_step (Expr-F.Expr::Tuple n items) = sum items + 1
expr_step (Expr-F.List n items) = sum items + 1
expr_step (Expr-F.Dict n pairs) = sum_by (λ p. p.0 + p.1) pairs + 1
expr_step (Expr-F.Comp n item target over test) = item + target + over + unwrap_or test 0 + 1

abbrev pub target_step : Target-F ℕ ℕ → ℕ
target_step (Target-F.Target::Name n name) = 1
target_step (Target-F.Target::Attr n a name) = a + 1
target_step (Target-F.Item n a i) = a + i + 1
target_step (Target-F.Target::Tuple n parts) = sum parts + 1

abbrev pub expr_nodes : Expr → ℕ
expr_nodes = fold-Expr ℕ ℕ expr_step target_step

abbrev pub target_nodes : Target → ℕ
target_nodes = fold-Target ℕ ℕ expr_step target_step

-- a statement, in whose layer the expressions are whole
abbrev pub stmt_step : Stmt-F ℕ ℕ → ℕ
stmt_step (Stmt-F.Pass n) = 1
stmt_step (Stmt-F.Break n) = 1
stmt_step (Stmt-F.Continue n) = 1
stmt_step (Stmt-F.Return n e) = option_map_or expr_nodes e 0 + 1
stmt_step (Stmt-F.Raise n e) = expr_nodes e + 1
stmt_step (Stmt-F.Assert n e) = expr_nodes e + 1
stmt_step (Stmt-F.Del n a i) = expr_nodes a + expr_nodes i + 1
stmt_step (Stmt-F.Print n es) = sum_by expr_nodes es + 1
stmt_step (Stmt-F.Assign n ts e) = sum_by target_nodes ts + expr_nodes e + 1
stmt_step (Stmt-F.Aug n t op e) = target_nodes t + expr_nodes e + 1
stmt_step (Stmt-F.Expr n e) = expr_nodes e + 1
stmt_step (Stmt-F.If n arms other) = sum_by (λ arm. expr_nodes arm.0 + sum arm.1) arms + sum other + 1
stmt_step (Stmt-F.While n e body) = expr_nodes e + sum body + 1
stmt_step (Stmt-F.For n t e body) = target_nodes t + expr_nodes e + sum body + 1
stmt_step (Stmt-F.Try n body clauses other final) = sum body + sum clauses + sum other + option_map_or sum final 0 + 1

abbrev pub clause_step : Clause-F ℕ ℕ → ℕ
clause_step clause = sum clause.body + 1

abbrev pub stmt_nodes : Stmt → ℕ
stmt_nodes = fold-Stmt ℕ ℕ stmt_step clause_step

abbrev pub clause_nodes : Clause → ℕ
clause_nodes = fold-Clause ℕ ℕ stmt_step clause_step

abbrev pub body_nodes : List Stmt → ℕ
body_nodes = sum_by stmt_nodes

-- a constant with its parts
abbrev pub const_step : Const-F ℕ → ℕ
const_step (Const-F.Word w) = 1
const_step (Const-F.Bool b) = 1
const_step (Const-F.Str text) = 1
const_step Const-F.None = 1
const_step (Const-F.Function f) = 1
const_step (Const-F.Tuple parts) = sum parts + 1
const_step (Const-F.List site) = 1
const_step (Const-F.Dict site) = 1

abbrev pub const_size : Const → ℕ
const_size = fold-Const ℕ const_step

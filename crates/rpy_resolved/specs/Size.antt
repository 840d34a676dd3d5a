-- How large a tree is: one for each node, and one for each part of a list.
use Rattle.std.specs.Prelude.{ℕ, ◌+◌, List, sum_by, unwrap_or}
use Rattle.rpy_resolved.specs.declared.tree.Expr.{Expr, fold-Expr}
use Rattle.rpy_resolved.specs.declared.tree.Expr.TheFolds.{fold-Subject, fold-Target}
use Rattle.rpy_resolved.specs.declared.tree.Expr.TheOpen.{Expr-F, Subject-F, Target-F}
use Rattle.rpy_resolved.specs.declared.tree.Subject.{Subject}
use Rattle.rpy_resolved.specs.declared.tree.Target.{Target}
use Rattle.rpy_resolved.specs.declared.tree.Stmt.{Stmt, fold-Stmt}
use Rattle.rpy_resolved.specs.declared.tree.Stmt.TheFolds.{fold-Clause}
use Rattle.rpy_resolved.specs.declared.tree.Stmt.TheOpen.{Stmt-F, Clause-F}
use Rattle.rpy_resolved.specs.declared.tree.Clause.{Clause}

-- an expression, with the size of each part in its place
abbrev pub expr_step : Expr-F ℕ ℕ ℕ → ℕ
expr_step (Expr-F.Local n i) = 1
expr_step (Expr-F.Constant n a) = 1
expr_step (Expr-F.Apply n value op es) = sum_by (λ e. e + 1) es + 1
expr_step (Expr-F.And n a b) = a + b + 1
expr_step (Expr-F.Or n a b) = a + b + 1
expr_step (Expr-F.Display n site pairs) = sum_by (λ p. p.0 + p.1 + 1) pairs + 1
expr_step (Expr-F.Comprehension n site item target subject condition) = item + target + subject + unwrap_or condition 0 + 1

abbrev pub subject_step : Subject-F ℕ ℕ ℕ → ℕ
subject_step (Subject-F.Over site e) = e + 1
subject_step (Subject-F.UpTo e) = e + 1
subject_step (Subject-F.FromTo a b step) = a + b + 1

abbrev pub target_step : Target-F ℕ ℕ ℕ → ℕ
target_step (Target-F.Name n i) = 1
target_step (Target-F.Attr n e name) = e + 1
target_step (Target-F.Item n a i) = a + i + 1
target_step (Target-F.Parts n parts) = sum_by (λ t. t + 1) parts + 1

abbrev pub expr_size : Expr → ℕ
expr_size = fold-Expr ℕ ℕ ℕ expr_step subject_step target_step

abbrev pub subject_size : Subject → ℕ
subject_size = fold-Subject ℕ ℕ ℕ expr_step subject_step target_step

abbrev pub target_size : Target → ℕ
target_size = fold-Target ℕ ℕ ℕ expr_step subject_step target_step

abbrev pub exprs_size : List Expr → ℕ
exprs_size = sum_by (λ e. expr_size e + 1)

abbrev pub pairs_size : List (Expr × Expr) → ℕ
pairs_size = sum_by (λ p. expr_size p.0 + expr_size p.1 + 1)

abbrev pub targets_size : List Target → ℕ
targets_size = sum_by (λ t. target_size t + 1)

-- a statement, in whose layer the expressions are whole
abbrev pub stmt_step : Stmt-F ℕ ℕ → ℕ
stmt_step (Stmt-F.Pass n) = 1
stmt_step (Stmt-F.Break n) = 1
stmt_step (Stmt-F.Continue n) = 1
stmt_step (Stmt-F.Return n e) = 1
stmt_step (Stmt-F.Do n e) = 1
stmt_step (Stmt-F.Assign n targets e) = 1
stmt_step (Stmt-F.Augment n target op e) = 1
stmt_step (Stmt-F.If n e body other) = sum_by (λ s. s + 1) body + sum_by (λ s. s + 1) other + 1
stmt_step (Stmt-F.While n e body) = sum_by (λ s. s + 1) body + 1
stmt_step (Stmt-F.For n target subject body) = sum_by (λ s. s + 1) body + 1
stmt_step (Stmt-F.Try n body clauses other) = sum_by (λ s. s + 1) body + sum_by (λ c. c) clauses + sum_by (λ s. s + 1) other + 1
stmt_step (Stmt-F.Finally n body last) = sum_by (λ s. s + 1) body + sum_by (λ s. s + 1) last + 1

abbrev pub clause_step : Clause-F ℕ ℕ → ℕ
clause_step c = sum_by (λ s. s + 1) c.body + 1

abbrev pub stmt_size : Stmt → ℕ
stmt_size = fold-Stmt ℕ ℕ stmt_step clause_step

abbrev pub clause_size : Clause → ℕ
clause_size = fold-Clause ℕ ℕ stmt_step clause_step

abbrev pub block_size : List Stmt → ℕ
block_size = sum_by (λ s. stmt_size s + 1)

abbrev pub clauses_size : List Clause → ℕ
clauses_size = sum_by clause_size

-- How many expressions and targets of a text have a number as their node, and how many parts of what is made of it give the value of that
-- node.
use Rattle.std.specs.Prelude.{ℕ, ◌+◌, ◌%◌, ◌^◌, ◌==◌, ◌||◌, Bool, true, false, List, [], ◌∷◌, map, Option, Some, None, option_map, if◌then◌else◌}
use Rattle.rpy_tree.specs.declared.syntax.Expr as syntax
use Rattle.rpy_tree.specs.declared.syntax.Expr.TheFolds as syntax_folds
use Rattle.rpy_tree.specs.declared.syntax.Expr.TheOpen as layer
use Rattle.rpy_tree.specs.declared.syntax.Target as aim
use Rattle.rpy_tree.specs.declared.syntax.Stmt as code
use Rattle.rpy_tree.specs.declared.syntax.Stmt.TheFolds as code_folds
use Rattle.rpy_tree.specs.declared.syntax.Stmt.TheOpen as code_layer
use Rattle.rpy_tree.specs.declared.syntax.Clause as code_clause
use Rattle.rpy_meaning.specs.declared.row.RowOp.{RowOp}
use Rattle.rpy_meaning.specs.declared.row.RowOp.TheVariants as row
use Rattle.rpy_resolved.specs.declared.tree.Expr.{Expr, fold-Expr}
use Rattle.rpy_resolved.specs.declared.tree.Expr.TheFolds.{fold-Subject, fold-Target}
use Rattle.rpy_resolved.specs.declared.tree.Expr.TheOpen.{Expr-F, Subject-F, Target-F}
use Rattle.rpy_resolved.specs.declared.tree.Subject.{Subject}
use Rattle.rpy_resolved.specs.declared.tree.Target.{Target}
use Rattle.rpy_resolved.specs.declared.tree.Stmt.{Stmt, fold-Stmt}
use Rattle.rpy_resolved.specs.declared.tree.Stmt.TheFolds.{fold-Clause}
use Rattle.rpy_resolved.specs.declared.tree.Stmt.TheOpen.{Stmt-F, Clause-F}
use Rattle.rpy_resolved.specs.declared.tree.Clause.{Clause}

abbrev pub total : List ℕ → ℕ
total [] = 0
total (n ∷ ns) = n + total ns

abbrev pub pair_total : List (ℕ × ℕ) → ℕ
pair_total [] = 0
pair_total (p ∷ ps) = p.0 + p.1 + pair_total ps

abbrev pub if_some : Option ℕ → ℕ
if_some None = 0
if_some (Some n) = n

abbrev pub one_if : Bool → ℕ
one_if true = 1
one_if false = 0

abbrev pub is_not : RowOp → Bool
is_not row.Not = true
is_not other = false

module _ (k : ℕ) where
  abbrev pub one_at : ℕ → ℕ
  one_at n = one_if (n == k)

  -- ---- values

  -- `not` gives its value however it is marked
  abbrev pub given : Bool → RowOp → ℕ → ℕ
  given value op n = if value || is_not op then one_at n else 0

  abbrev pub value_step : Expr-F ℕ ℕ ℕ → ℕ
  value_step (Expr-F.Local n i) = one_at n
  value_step (Expr-F.Constant n a) = one_at n
  value_step (Expr-F.Apply n value op es) = given value op n + total es
  value_step (Expr-F.And n a b) = one_at n + a + b
  value_step (Expr-F.Or n a b) = one_at n + a + b
  value_step (Expr-F.Display n site ps) = one_at n + pair_total ps
  value_step (Expr-F.Comprehension n site item target subject test) = one_at n + item + target + subject + if_some test

  abbrev pub walked_step : Subject-F ℕ ℕ ℕ → ℕ
  walked_step (Subject-F.Over site e) = e
  walked_step (Subject-F.UpTo e) = e
  walked_step (Subject-F.FromTo a b step) = a + b

  abbrev pub bound_step : Target-F ℕ ℕ ℕ → ℕ
  bound_step (Target-F.Name n i) = one_at n
  bound_step (Target-F.Attr n e name) = one_at n + e
  bound_step (Target-F.Item n a i) = one_at n + a + i
  bound_step (Target-F.Parts n parts) = one_at n + total parts

  abbrev pub values : Expr → ℕ
  values = fold-Expr ℕ ℕ ℕ value_step walked_step bound_step

  abbrev pub walked_values : Subject → ℕ
  walked_values = fold-Subject ℕ ℕ ℕ value_step walked_step bound_step

  abbrev pub bound_values : Target → ℕ
  bound_values = fold-Target ℕ ℕ ℕ value_step walked_step bound_step

  -- no statement has a value
  abbrev pub done_step : Stmt-F ℕ ℕ → ℕ
  done_step (Stmt-F.Pass n) = 0
  done_step (Stmt-F.Break n) = 0
  done_step (Stmt-F.Continue n) = 0
  done_step (Stmt-F.Return n e) = values e
  done_step (Stmt-F.Do n e) = values e
  done_step (Stmt-F.Assign n ts e) = total (map bound_values ts) + values e
  done_step (Stmt-F.Augment n t op e) = bound_values t + values e
  done_step (Stmt-F.If n e body other) = values e + total body + total other
  done_step (Stmt-F.While n e body) = values e + total body
  done_step (Stmt-F.For n t subject body) = bound_values t + walked_values subject + total body
  done_step (Stmt-F.Try n body cs other) = total body + total cs + total other
  done_step (Stmt-F.Finally n body last) = total body + total last

  abbrev pub caught_step : Clause-F ℕ ℕ → ℕ
  caught_step c = total c.body

  abbrev pub done_values : Stmt → ℕ
  done_values = fold-Stmt ℕ ℕ done_step caught_step

  abbrev pub caught_values : Clause → ℕ
  caught_values = fold-Clause ℕ ℕ done_step caught_step

  abbrev pub block_values : List Stmt → ℕ
  block_values ss = total (map done_values ss)

  -- ---- nodes of the text of a module, whose first has this number

  module _ (first : ℕ) where
    abbrev pub node_at : ℕ → ℕ
    node_at n = one_at ((first + n) % 2 ^ 32)

    abbrev pub expr_step : layer.Expr-F ℕ ℕ → ℕ
    expr_step (layer.Expr-F.Int n v) = node_at n
    expr_step (layer.Expr-F.Str n text) = node_at n
    expr_step (layer.Expr-F.Expr::Name n name) = node_at n
    expr_step (layer.Expr-F.Unary n op a) = node_at n + a
    expr_step (layer.Expr-F.Binary n op a b) = node_at n + a + b
    expr_step (layer.Expr-F.Compare n op a b) = node_at n + a + b
    expr_step (layer.Expr-F.Logic n is_and a b) = node_at n + a + b
    expr_step (layer.Expr-F.Not n a) = node_at n + a
    expr_step (layer.Expr-F.Call n f args) = node_at n + f + total args
    expr_step (layer.Expr-F.Expr::Attr n a name) = node_at n + a
    expr_step (layer.Expr-F.Index n a i) = node_at n + a + i
    expr_step (layer.Expr-F.Slice n a low high) = node_at n + a + if_some low + if_some high
    expr_step (layer.Expr-F.Expr::Tuple n items) = node_at n + total items
    expr_step (layer.Expr-F.List n items) = node_at n + total items
    expr_step (layer.Expr-F.Dict n pairs) = node_at n + pair_total pairs
    expr_step (layer.Expr-F.Comp n item target over test) = node_at n + item + target + over + if_some test

    abbrev pub target_step : layer.Target-F ℕ ℕ → ℕ
    target_step (layer.Target-F.Target::Name n name) = node_at n
    target_step (layer.Target-F.Target::Attr n a name) = node_at n + a
    target_step (layer.Target-F.Item n a i) = node_at n + a + i
    target_step (layer.Target-F.Target::Tuple n parts) = node_at n + total parts

    abbrev pub nodes : syntax.Expr → ℕ
    nodes = syntax.fold-Expr ℕ ℕ expr_step target_step

    abbrev pub target_nodes : aim.Target → ℕ
    target_nodes = syntax_folds.fold-Target ℕ ℕ expr_step target_step

    abbrev pub nodes_if : Option syntax.Expr → ℕ
    nodes_if e = if_some (option_map nodes e)

    abbrev pub arms_step : List (syntax.Expr × List ℕ) → ℕ
    arms_step [] = 0
    arms_step (arm ∷ arms) = nodes arm.0 + total arm.1 + arms_step arms

    abbrev pub last_step : Option (List ℕ) → ℕ
    last_step last = if_some (option_map total last)

    abbrev pub stmt_step : code_layer.Stmt-F ℕ ℕ → ℕ
    stmt_step (code_layer.Stmt-F.Pass n) = 0
    stmt_step (code_layer.Stmt-F.Break n) = 0
    stmt_step (code_layer.Stmt-F.Continue n) = 0
    stmt_step (code_layer.Stmt-F.Return n e) = nodes_if e
    stmt_step (code_layer.Stmt-F.Raise n e) = nodes e
    stmt_step (code_layer.Stmt-F.Assert n e) = nodes e
    stmt_step (code_layer.Stmt-F.Del n a i) = nodes a + nodes i
    stmt_step (code_layer.Stmt-F.Print n es) = total (map nodes es)
    stmt_step (code_layer.Stmt-F.Assign n ts e) = total (map target_nodes ts) + nodes e
    stmt_step (code_layer.Stmt-F.Aug n t op e) = target_nodes t + nodes e
    stmt_step (code_layer.Stmt-F.Expr n e) = nodes e
    stmt_step (code_layer.Stmt-F.If n arms other) = arms_step arms + total other
    stmt_step (code_layer.Stmt-F.While n e body) = nodes e + total body
    stmt_step (code_layer.Stmt-F.For n t e body) = target_nodes t + nodes e + total body
    stmt_step (code_layer.Stmt-F.Try n body cs other last) = total body + total cs + total other + last_step last

    abbrev pub clause_step : code_layer.Clause-F ℕ ℕ → ℕ
    clause_step c = total c.body

    abbrev pub stmt_nodes : code.Stmt → ℕ
    stmt_nodes = code.fold-Stmt ℕ ℕ stmt_step clause_step

    abbrev pub clause_nodes : code_clause.Clause → ℕ
    clause_nodes = code_folds.fold-Clause ℕ ℕ stmt_step clause_step

    abbrev pub block_nodes : List code.Stmt → ℕ
    block_nodes body = total (map stmt_nodes body)

    abbrev pub arm_nodes : syntax.Expr × List code.Stmt → ℕ
    arm_nodes arm = nodes arm.0 + block_nodes arm.1

    abbrev pub last_nodes : Option (List code.Stmt) → ℕ
    last_nodes last = if_some (option_map block_nodes last)

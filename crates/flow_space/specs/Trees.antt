-- The trees with nodes that the code's trees stand for, their constants as values.
use Rattle.std.specs.Prelude.{ℕ, List, [], ◌∷◌, map, Option, Some, None, option_map}
use Rattle.rpy_tree.specs.declared.program.Site.{Site}
use Rattle.rpy_resolved.specs.declared.tree.Expr.{Expr, fold-Expr}
use Rattle.rpy_resolved.specs.declared.tree.Expr.TheFolds.{fold-Subject, fold-Target}
use Rattle.rpy_resolved.specs.declared.tree.Expr.TheOpen.{Expr-F, Subject-F, Target-F}
use Rattle.rpy_resolved.specs.declared.tree.Subject.{Subject}
use Rattle.rpy_resolved.specs.declared.tree.Target.{Target}
use Rattle.rpy_resolved.specs.declared.tree.Stmt.{Stmt, fold-Stmt}
use Rattle.rpy_resolved.specs.declared.tree.Stmt.TheFolds.{fold-Clause}
use Rattle.rpy_resolved.specs.declared.tree.Stmt.TheOpen.{Stmt-F, Clause-F}
use Rattle.rpy_resolved.specs.declared.tree.Clause.{Clause}
use Rattle.rpy_resolved.specs.declared.tree.Function.{Function}
use Rattle.rpy_resolved.specs.declared.tree.Resolved.{Resolved}
use Rattle.resolved_meaning.specs.Programs.{value_in}
use Rattle.resolved_meaning.specs.Trees.{heads}
use Rattle.flow_trees.specs.Tree as tree

-- ---- lists

abbrev pub exprs : List tree.Expr → tree.Exprs
exprs [] = tree.none
exprs (e ∷ es) = tree.more e (exprs es)

abbrev pub pairs : List (tree.Expr × tree.Expr) → tree.Pairs
pairs [] = tree.no_pairs
pairs (p ∷ ps) = tree.pair p.0 p.1 (pairs ps)

abbrev pub targets : List tree.Target → tree.Targets
targets [] = tree.no_targets
targets (t ∷ ts) = tree.more_targets t (targets ts)

abbrev pub block : List tree.Stmt → tree.Block
block [] = tree.done
block (s ∷ ss) = tree.line s (block ss)

abbrev pub condition : Option tree.Expr → tree.Condition
condition None = tree.Always
condition (Some e) = tree.Where e

-- a clause: its classes, or none where it is bare, the local that is bound, and the body
pub record Head : Type 0 where
  pub classes : Option (List ℕ)
  pub local : Option ℕ
  pub body : tree.Block

abbrev pub clauses : List Head → tree.Clauses
clauses [] = tree.no_clauses
clauses (c ∷ cs) = tree.clause c.classes c.local c.body (clauses cs)

module _ (sites : List Site) where
  -- ---- expressions

  abbrev pub expr_step : Expr-F tree.Expr tree.Subject tree.Target → tree.Expr
  expr_step (Expr-F.Local n i) = tree.Local n i
  expr_step (Expr-F.Constant n a) = tree.Constant n a (value_in sites a)
  expr_step (Expr-F.Apply n value op es) = tree.Apply n value op (exprs es)
  expr_step (Expr-F.And n a b) = tree.And n a b
  expr_step (Expr-F.Or n a b) = tree.Or n a b
  expr_step (Expr-F.Display n site ps) = tree.Display n site (pairs ps)
  expr_step (Expr-F.Comprehension n site item target subject test) = tree.Comprehension n site item target subject (condition test)

  abbrev pub subject_step : Subject-F tree.Expr tree.Subject tree.Target → tree.Subject
  subject_step (Subject-F.Over site e) = tree.Over site e
  subject_step (Subject-F.UpTo e) = tree.UpTo e
  subject_step (Subject-F.FromTo a b step) = tree.FromTo a b step

  abbrev pub target_step : Target-F tree.Expr tree.Subject tree.Target → tree.Target
  target_step (Target-F.Name n i) = tree.Name n i
  target_step (Target-F.Attr n e name) = tree.Attribute n e name
  target_step (Target-F.Item n a i) = tree.Item n a i
  target_step (Target-F.Parts n parts) = tree.Parts n (targets parts)

  abbrev pub expr_of : Expr → tree.Expr
  expr_of = fold-Expr tree.Expr tree.Subject tree.Target expr_step subject_step target_step

  abbrev pub subject_of : Subject → tree.Subject
  subject_of = fold-Subject tree.Expr tree.Subject tree.Target expr_step subject_step target_step

  abbrev pub target_of : Target → tree.Target
  target_of = fold-Target tree.Expr tree.Subject tree.Target expr_step subject_step target_step

  abbrev pub exprs_of : List Expr → tree.Exprs
  exprs_of es = exprs (map expr_of es)

  abbrev pub pair_of : Expr × Expr → tree.Expr × tree.Expr
  pair_of p = (expr_of p.0, expr_of p.1)

  abbrev pub pairs_of : List (Expr × Expr) → tree.Pairs
  pairs_of ps = pairs (map pair_of ps)

  abbrev pub targets_of : List Target → tree.Targets
  targets_of ts = targets (map target_of ts)

  abbrev pub condition_of : Option Expr → tree.Condition
  condition_of test = condition (option_map expr_of test)

  -- ---- statements, in whose layer the expressions are whole

  abbrev pub stmt_step : Stmt-F tree.Stmt Head → tree.Stmt
  stmt_step (Stmt-F.Pass n) = tree.Pass n
  stmt_step (Stmt-F.Break n) = tree.Break n
  stmt_step (Stmt-F.Continue n) = tree.Continue n
  stmt_step (Stmt-F.Return n e) = tree.Return n (expr_of e)
  stmt_step (Stmt-F.Do n e) = tree.Do n (expr_of e)
  stmt_step (Stmt-F.Assign n ts e) = tree.Assign n (targets_of ts) (expr_of e)
  stmt_step (Stmt-F.Augment n t op e) = tree.Augment n (target_of t) op (expr_of e)
  stmt_step (Stmt-F.If n e body other) = tree.If n (expr_of e) (block body) (block other)
  stmt_step (Stmt-F.While n e body) = tree.While n (expr_of e) (block body)
  stmt_step (Stmt-F.For n t subject body) = tree.For n (target_of t) (subject_of subject) (block body)
  stmt_step (Stmt-F.Try n body cs other) = tree.Try n (block body) (clauses cs) (block other)
  stmt_step (Stmt-F.Finally n body last) = tree.Finally n (block body) (block last)

  abbrev pub clause_step : Clause-F tree.Stmt Head → Head
  clause_step c = record { classes = heads c.bare c.classes; local = c.local; body = block c.body }

  abbrev pub stmt_of : Stmt → tree.Stmt
  stmt_of = fold-Stmt tree.Stmt Head stmt_step clause_step

  abbrev pub clause_of : Clause → Head
  clause_of = fold-Clause tree.Stmt Head stmt_step clause_step

  abbrev pub block_of : List Stmt → tree.Block
  block_of ss = block (map stmt_of ss)

  abbrev pub clauses_of : List Clause → tree.Clauses
  clauses_of cs = clauses (map clause_of cs)

  -- ---- functions

  abbrev pub function_of : Function → tree.Function
  function_of f = record {
    node = f.node;
    defaults = map (option_map (value_in sites)) f.defaults;
    takes_more = f.takes_more;
    locals = f.locals;
    body = block_of f.body;
  }

abbrev pub functions_of : Resolved → List tree.Function
functions_of r = map (function_of r.sites) r.functions

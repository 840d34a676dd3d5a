-- Trees of the meaning in which no operation narrows, and what that says of the trees with nodes.
use Rattle.std.proofs.Common.{◌≡◌, Bool, true, false, refl}
use Rattle.std.specs.Prelude.{if◌then◌else◌}
use Rattle.rpy_meaning.specs.declared.row.RowOp.{RowOp}
use Rattle.rpy_meaning.specs.declared.row.RowOp.TheVariants as row
use Rattle.rpy_meaning.specs.Tree as meant
use Rattle.rpy_meaning.specs.Tree.{none, more}
use Rattle.resolved_laws.specs.Uncopied.{bare, is_checked, uncopied_expr, uncopied_exprs, uncopied_pairs, uncopied_subject, uncopied_condition, uncopied_target, uncopied_targets, uncopied_stmt, uncopied_block, uncopied_clauses}
use Rattle.flow_trees.specs.Tree as tree
use Rattle.flow_trees.specs.Tree.{plain, plain_exprs, plain_pairs, plain_subject, plain_condition, plain_target, plain_targets, plain_stmt, plain_block, plain_clauses}
use Rattle.graph_told.specs.Plain.{narrows, PlainExpr, PlainExprs, PlainPairs, PlainSubject, PlainCondition, PlainTarget, PlainTargets, PlainStmt, PlainBlock, PlainClauses}

abbrev mutual
  pub FineExpr : meant.Expr → Type 0
  FineExpr (meant.Local i) = Unit {0}
  FineExpr (meant.Constant v) = Unit {0}
  FineExpr (meant.Apply o es) = (narrows o ≡ false) × FineExprs es
  FineExpr (meant.And a b) = FineExpr a × FineExpr b
  FineExpr (meant.Or a b) = FineExpr a × FineExpr b
  FineExpr (meant.Display site pairs) = FinePairs pairs
  FineExpr (meant.Comprehension site item target subject condition) = FineExpr item × FineTarget target × FineSubject subject × FineCondition condition

  pub FineExprs : meant.Exprs → Type 0
  FineExprs none = Unit {0}
  FineExprs (more e es) = FineExpr e × FineExprs es

  pub FinePairs : meant.Pairs → Type 0
  FinePairs meant.no_pairs = Unit {0}
  FinePairs (meant.pair k v rest) = FineExpr k × FineExpr v × FinePairs rest

  pub FineSubject : meant.Subject → Type 0
  FineSubject (meant.Over site e) = FineExpr e
  FineSubject (meant.UpTo e) = FineExpr e
  FineSubject (meant.FromTo a b step) = FineExpr a × FineExpr b

  pub FineCondition : meant.Condition → Type 0
  FineCondition meant.Always = Unit {0}
  FineCondition (meant.Where e) = FineExpr e

  pub FineTarget : meant.Target → Type 0
  FineTarget (meant.Name i) = Unit {0}
  FineTarget (meant.Attribute e name) = FineExpr e
  FineTarget (meant.Item a i) = FineExpr a × FineExpr i
  FineTarget (meant.Parts ts) = FineTargets ts

  pub FineTargets : meant.Targets → Type 0
  FineTargets meant.no_targets = Unit {0}
  FineTargets (meant.more_targets t ts) = FineTarget t × FineTargets ts

abbrev mutual
  pub FineStmt : meant.Stmt → Type 0
  FineStmt meant.Pass = Unit {0}
  FineStmt meant.Break = Unit {0}
  FineStmt meant.Continue = Unit {0}
  FineStmt (meant.Return e) = FineExpr e
  FineStmt (meant.Do e) = FineExpr e
  FineStmt (meant.Assign ts e) = FineTargets ts × FineExpr e
  FineStmt (meant.Augment t o e) = (narrows o ≡ false) × FineTarget t × FineExpr e
  FineStmt (meant.If e so other) = FineExpr e × FineBlock so × FineBlock other
  FineStmt (meant.While e body) = FineExpr e × FineBlock body
  FineStmt (meant.For t subject body) = FineTarget t × FineSubject subject × FineBlock body
  FineStmt (meant.Try body clauses other) = FineBlock body × FineClauses clauses × FineBlock other
  FineStmt (meant.Finally body last) = FineBlock body × FineBlock last

  pub FineBlock : meant.Block → Type 0
  FineBlock meant.done = Unit {0}
  FineBlock (meant.line s rest) = FineStmt s × FineBlock rest

  pub FineClauses : meant.Clauses → Type 0
  FineClauses meant.no_clauses = Unit {0}
  FineClauses (meant.clause classes local body rest) = FineBlock body × FineClauses rest

-- ---- with copies of checked operations

fine_bare : (o : RowOp) (es : meant.Exprs) → FineExpr (bare o es) → (narrows o ≡ false) × FineExprs es
fine_bare row.Copy none h = h
fine_bare row.Copy (more e none) h = by (is_checked e) h
  where
    by : (b : Bool) → FineExpr (if b then e else meant.Apply row.Copy (more e none)) → (narrows row.Copy ≡ false) × FineExprs (more e none)
    by true h = (refl, (h, tt))
    by false h = h
fine_bare row.Copy (more e (more l es)) h = h
fine_bare o es h = h

mutual
  expr_plain : (e : tree.Expr) → FineExpr (uncopied_expr (plain e)) → PlainExpr e
  expr_plain (tree.Local node i) h = tt
  expr_plain (tree.Constant node c v) h = tt
  expr_plain (tree.Apply node value o es) h = let x = fine_bare o (uncopied_exprs (plain_exprs es)) h in (x.0, exprs_plain es x.1)
  expr_plain (tree.And node a e) h = (expr_plain a h.0, expr_plain e h.1)
  expr_plain (tree.Or node a e) h = (expr_plain a h.0, expr_plain e h.1)
  expr_plain (tree.Display node site ps) h = pairs_plain ps h
  expr_plain (tree.Comprehension node site item target subject condition) h = (expr_plain item h.0, target_plain target h.1, subject_plain subject h.2, condition_plain condition h.3)

  exprs_plain : (es : tree.Exprs) → FineExprs (uncopied_exprs (plain_exprs es)) → PlainExprs es
  exprs_plain tree.none h = tt
  exprs_plain (tree.more e es) h = (expr_plain e h.0, exprs_plain es h.1)

  pairs_plain : (ps : tree.Pairs) → FinePairs (uncopied_pairs (plain_pairs ps)) → PlainPairs ps
  pairs_plain tree.no_pairs h = tt
  pairs_plain (tree.pair key e rest) h = (expr_plain key h.0, expr_plain e h.1, pairs_plain rest h.2)

  subject_plain : (s : tree.Subject) → FineSubject (uncopied_subject (plain_subject s)) → PlainSubject s
  subject_plain (tree.Over site e) h = expr_plain e h
  subject_plain (tree.UpTo e) h = expr_plain e h
  subject_plain (tree.FromTo a e step) h = (expr_plain a h.0, expr_plain e h.1)

  condition_plain : (c : tree.Condition) → FineCondition (uncopied_condition (plain_condition c)) → PlainCondition c
  condition_plain tree.Always h = tt
  condition_plain (tree.Where e) h = expr_plain e h

  target_plain : (t : tree.Target) → FineTarget (uncopied_target (plain_target t)) → PlainTarget t
  target_plain (tree.Name node i) h = tt
  target_plain (tree.Attribute node e name) h = expr_plain e h
  target_plain (tree.Item node a i) h = (expr_plain a h.0, expr_plain i h.1)
  target_plain (tree.Parts node ts) h = targets_plain ts h

  targets_plain : (ts : tree.Targets) → FineTargets (uncopied_targets (plain_targets ts)) → PlainTargets ts
  targets_plain tree.no_targets h = tt
  targets_plain (tree.more_targets t ts) h = (target_plain t h.0, targets_plain ts h.1)

mutual
  stmt_plain : (s : tree.Stmt) → FineStmt (uncopied_stmt (plain_stmt s)) → PlainStmt s
  stmt_plain (tree.Pass node) h = tt
  stmt_plain (tree.Break node) h = tt
  stmt_plain (tree.Continue node) h = tt
  stmt_plain (tree.Return node e) h = expr_plain e h
  stmt_plain (tree.Do node e) h = expr_plain e h
  stmt_plain (tree.Assign node ts e) h = (targets_plain ts h.0, expr_plain e h.1)
  stmt_plain (tree.Augment node t o e) h = (h.0, target_plain t h.1, expr_plain e h.2)
  stmt_plain (tree.If node e so other) h = (expr_plain e h.0, block_plain so h.1, block_plain other h.2)
  stmt_plain (tree.While node e body) h = (expr_plain e h.0, block_plain body h.1)
  stmt_plain (tree.For node t subject body) h = (target_plain t h.0, subject_plain subject h.1, block_plain body h.2)
  stmt_plain (tree.Try node body clauses other) h = (block_plain body h.0, clauses_plain clauses h.1, block_plain other h.2)
  stmt_plain (tree.Finally node body last) h = (block_plain body h.0, block_plain last h.1)

  pub block_plain : (b : tree.Block) → FineBlock (uncopied_block (plain_block b)) → PlainBlock b
  block_plain tree.done h = tt
  block_plain (tree.line s rest) h = (stmt_plain s h.0, block_plain rest h.1)

  clauses_plain : (cs : tree.Clauses) → FineClauses (uncopied_clauses (plain_clauses cs)) → PlainClauses cs
  clauses_plain tree.no_clauses h = tt
  clauses_plain (tree.clause classes local body rest) h = (block_plain body h.0, clauses_plain rest h.1)

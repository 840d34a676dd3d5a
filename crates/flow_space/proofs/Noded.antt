-- The trees with nodes of a resolved program, a layer at a time.
use Rattle.std.proofs.Common.{◌≡◌, ℕ, ℤ, Bool, List, [], ◌∷◌, length, Option, Some, None, sym, ap, ◌∙◌, arith, refl}
use Rattle.rpy_meaning.specs.declared.row.RowOp.{RowOp}
use Rattle.rpy_meaning.specs.Meaning.{target_count}
use Rattle.rpy_resolved.specs.declared.tree.Clause.{Clause}
use Rattle.rpy_resolved.specs.declared.tree.Expr as code
use Rattle.rpy_resolved.specs.declared.tree.Expr.{Expr}
use Rattle.rpy_resolved.specs.declared.tree.Expr.TheFolds as folds
use Rattle.rpy_resolved.specs.declared.tree.Expr.TheOpen.{Expr-F, Subject-F, Target-F}
use Rattle.rpy_resolved.specs.declared.tree.Expr.TheViews as views
use Rattle.rpy_resolved.specs.declared.tree.Expr.TheVariants as e
use Rattle.rpy_resolved.specs.declared.tree.Subject.{Subject}
use Rattle.rpy_resolved.specs.declared.tree.Subject.TheVariants as subject
use Rattle.rpy_resolved.specs.declared.tree.Target.{Target}
use Rattle.rpy_resolved.specs.declared.tree.Target.TheVariants as target
use Rattle.rpy_resolved.specs.declared.tree.Stmt as code_stmt
use Rattle.rpy_resolved.specs.declared.tree.Stmt.{Stmt}
use Rattle.rpy_resolved.specs.declared.tree.Stmt.TheOpen.{Stmt-F}
use Rattle.rpy_resolved.specs.declared.tree.Stmt.TheViews as stmt_views
use Rattle.rpy_resolved.specs.declared.tree.Stmt.TheFolds as stmt_folds
use Rattle.rpy_resolved.specs.declared.tree.Stmt.TheVariants as stmt
use Rattle.rpy_tree.specs.declared.program.Const.{Const}
use Rattle.rpy_tree.specs.declared.program.Site.{Site}
use Rattle.resolved_meaning.specs.Programs.{value_in}
use Rattle.resolved_meaning.specs.Trees.{heads}
use Rattle.flow_stands.specs.Stands.{count}
use Rattle.flow_trees.specs.Tree as tree
use Rattle.flow_trees.specs.Tree.{plain_exprs, plain_targets}
use Rattle.flow_space.specs.Trees.{Head, expr_step, subject_step, target_step, expr_of, exprs_of, pairs_of, subject_of, target_of, targets_of, condition_of, stmt_step, clause_step, stmt_of, block_of, clause_of, clauses_of}

module _ (sites : List Site) where
  pub parts_count : (ts : List Target) → target_count (plain_targets (targets_of sites ts)) ≡ length ts
  parts_count [] = refl
  parts_count (t ∷ ts) = omega (arith, parts_count ts)

  pub count_is : (es : List Expr) → count (plain_exprs (exprs_of sites es)) ≡ length es
  count_is [] = refl
  count_is (e ∷ es) = omega (arith, count_is es)

  pub local_is : (n : ℕ) (i : ℕ) → expr_of sites (e.Local n i) ≡ tree.Local n i
  local_is n i = ap (expr_of sites) (sym (views.rolls-Local n i)) ∙ code.fold-roll-Expr tree.Expr tree.Subject tree.Target (expr_step sites) (subject_step sites) (target_step sites) (Expr-F.Local n i)

  pub constant_is : (n : ℕ) (a : Const) → expr_of sites (e.Constant n a) ≡ tree.Constant n a (value_in sites a)
  constant_is n a = ap (expr_of sites) (sym (views.rolls-Constant n a)) ∙ code.fold-roll-Expr tree.Expr tree.Subject tree.Target (expr_step sites) (subject_step sites) (target_step sites) (Expr-F.Constant n a)

  pub apply_is : (n : ℕ) (v : Bool) (o : RowOp) (es : List Expr) → expr_of sites (e.Apply n v o es) ≡ tree.Apply n v o (exprs_of sites es)
  apply_is n v o es = ap (expr_of sites) (sym (views.rolls-Apply n v o es)) ∙ code.fold-roll-Expr tree.Expr tree.Subject tree.Target (expr_step sites) (subject_step sites) (target_step sites) (Expr-F.Apply n v o es)

  pub and_is : (n : ℕ) (a : Expr) (b : Expr) → expr_of sites (e.And n a b) ≡ tree.And n (expr_of sites a) (expr_of sites b)
  and_is n a b = ap (expr_of sites) (sym (views.rolls-And n a b)) ∙ code.fold-roll-Expr tree.Expr tree.Subject tree.Target (expr_step sites) (subject_step sites) (target_step sites) (Expr-F.And n a b)

  pub or_is : (n : ℕ) (a : Expr) (b : Expr) → expr_of sites (e.Or n a b) ≡ tree.Or n (expr_of sites a) (expr_of sites b)
  or_is n a b = ap (expr_of sites) (sym (views.rolls-Or n a b)) ∙ code.fold-roll-Expr tree.Expr tree.Subject tree.Target (expr_step sites) (subject_step sites) (target_step sites) (Expr-F.Or n a b)

  pub display_is : (n : ℕ) (site : ℕ) (ps : List (Expr × Expr)) → expr_of sites (e.Display n site ps) ≡ tree.Display n site (pairs_of sites ps)
  display_is n site ps = ap (expr_of sites) (sym (views.rolls-Display n site ps)) ∙ code.fold-roll-Expr tree.Expr tree.Subject tree.Target (expr_step sites) (subject_step sites) (target_step sites) (Expr-F.Display n site ps)

  pub comprehension_is : (n : ℕ) (site : ℕ) (item : Expr) (t : Target) (s : Subject) (c : Option Expr) → expr_of sites (e.Comprehension n site item t s c) ≡ tree.Comprehension n site (expr_of sites item) (target_of sites t) (subject_of sites s) (condition_of sites c)
  comprehension_is n site item t s None = ap (expr_of sites) (sym (views.rolls-Comprehension n site item t s None)) ∙ code.fold-roll-Expr tree.Expr tree.Subject tree.Target (expr_step sites) (subject_step sites) (target_step sites) (Expr-F.Comprehension n site item t s None)
  comprehension_is n site item t s (Some c) = ap (expr_of sites) (sym (views.rolls-Comprehension n site item t s (Some c))) ∙ code.fold-roll-Expr tree.Expr tree.Subject tree.Target (expr_step sites) (subject_step sites) (target_step sites) (Expr-F.Comprehension n site item t s (Some c))

  pub over_is : (site : ℕ) (a : Expr) → subject_of sites (subject.Over site a) ≡ tree.Over site (expr_of sites a)
  over_is site a = ap (subject_of sites) (sym (views.rolls-Over site a)) ∙ folds.fold-roll-Subject tree.Expr tree.Subject tree.Target (expr_step sites) (subject_step sites) (target_step sites) (Subject-F.Over site a)

  pub up_is : (a : Expr) → subject_of sites (subject.UpTo a) ≡ tree.UpTo (expr_of sites a)
  up_is a = ap (subject_of sites) (sym (views.rolls-UpTo a)) ∙ folds.fold-roll-Subject tree.Expr tree.Subject tree.Target (expr_step sites) (subject_step sites) (target_step sites) (Subject-F.UpTo a)

  pub from_is : (a : Expr) (b : Expr) (step : ℤ) → subject_of sites (subject.FromTo a b step) ≡ tree.FromTo (expr_of sites a) (expr_of sites b) step
  from_is a b step = ap (subject_of sites) (sym (views.rolls-FromTo a b step)) ∙ folds.fold-roll-Subject tree.Expr tree.Subject tree.Target (expr_step sites) (subject_step sites) (target_step sites) (Subject-F.FromTo a b step)

  pub name_is : (n : ℕ) (i : ℕ) → target_of sites (target.Name n i) ≡ tree.Name n i
  name_is n i = ap (target_of sites) (sym (views.rolls-Name n i)) ∙ folds.fold-roll-Target tree.Expr tree.Subject tree.Target (expr_step sites) (subject_step sites) (target_step sites) (Target-F.Name n i)

  pub attr_is : (n : ℕ) (a : Expr) (name : List ℕ) → target_of sites (target.Attr n a name) ≡ tree.Attribute n (expr_of sites a) name
  attr_is n a name = ap (target_of sites) (sym (views.rolls-Attr n a name)) ∙ folds.fold-roll-Target tree.Expr tree.Subject tree.Target (expr_step sites) (subject_step sites) (target_step sites) (Target-F.Attr n a name)

  pub item_is : (n : ℕ) (a : Expr) (i : Expr) → target_of sites (target.Item n a i) ≡ tree.Item n (expr_of sites a) (expr_of sites i)
  item_is n a i = ap (target_of sites) (sym (views.rolls-Item n a i)) ∙ folds.fold-roll-Target tree.Expr tree.Subject tree.Target (expr_step sites) (subject_step sites) (target_step sites) (Target-F.Item n a i)

  pub parts_is : (n : ℕ) (ts : List Target) → target_of sites (target.Parts n ts) ≡ tree.Parts n (targets_of sites ts)
  parts_is n ts = ap (target_of sites) (sym (views.rolls-Parts n ts)) ∙ folds.fold-roll-Target tree.Expr tree.Subject tree.Target (expr_step sites) (subject_step sites) (target_step sites) (Target-F.Parts n ts)

  pub pass_is : (n : ℕ) → stmt_of sites (stmt.Pass n) ≡ tree.Pass n
  pass_is n = ap (stmt_of sites) (sym (stmt_views.rolls-Pass n)) ∙ code_stmt.fold-roll-Stmt tree.Stmt Head (stmt_step sites) (clause_step sites) (Stmt-F.Pass n)

  pub break_is : (n : ℕ) → stmt_of sites (stmt.Break n) ≡ tree.Break n
  break_is n = ap (stmt_of sites) (sym (stmt_views.rolls-Break n)) ∙ code_stmt.fold-roll-Stmt tree.Stmt Head (stmt_step sites) (clause_step sites) (Stmt-F.Break n)

  pub continue_is : (n : ℕ) → stmt_of sites (stmt.Continue n) ≡ tree.Continue n
  continue_is n = ap (stmt_of sites) (sym (stmt_views.rolls-Continue n)) ∙ code_stmt.fold-roll-Stmt tree.Stmt Head (stmt_step sites) (clause_step sites) (Stmt-F.Continue n)

  pub return_is : (n : ℕ) (a : Expr) → stmt_of sites (stmt.Return n a) ≡ tree.Return n (expr_of sites a)
  return_is n a = ap (stmt_of sites) (sym (stmt_views.rolls-Return n a)) ∙ code_stmt.fold-roll-Stmt tree.Stmt Head (stmt_step sites) (clause_step sites) (Stmt-F.Return n a)

  pub do_is : (n : ℕ) (a : Expr) → stmt_of sites (stmt.Do n a) ≡ tree.Do n (expr_of sites a)
  do_is n a = ap (stmt_of sites) (sym (stmt_views.rolls-Do n a)) ∙ code_stmt.fold-roll-Stmt tree.Stmt Head (stmt_step sites) (clause_step sites) (Stmt-F.Do n a)

  pub assign_is : (n : ℕ) (ts : List Target) (a : Expr) → stmt_of sites (stmt.Assign n ts a) ≡ tree.Assign n (targets_of sites ts) (expr_of sites a)
  assign_is n ts a = ap (stmt_of sites) (sym (stmt_views.rolls-Assign n ts a)) ∙ code_stmt.fold-roll-Stmt tree.Stmt Head (stmt_step sites) (clause_step sites) (Stmt-F.Assign n ts a)

  pub augment_is : (n : ℕ) (t : Target) (o : RowOp) (a : Expr) → stmt_of sites (stmt.Augment n t o a) ≡ tree.Augment n (target_of sites t) o (expr_of sites a)
  augment_is n t o a = ap (stmt_of sites) (sym (stmt_views.rolls-Augment n t o a)) ∙ code_stmt.fold-roll-Stmt tree.Stmt Head (stmt_step sites) (clause_step sites) (Stmt-F.Augment n t o a)

  pub if_is : (n : ℕ) (a : Expr) (so : List Stmt) (other : List Stmt) → stmt_of sites (stmt.If n a so other) ≡ tree.If n (expr_of sites a) (block_of sites so) (block_of sites other)
  if_is n a so other = ap (stmt_of sites) (sym (stmt_views.rolls-If n a so other)) ∙ code_stmt.fold-roll-Stmt tree.Stmt Head (stmt_step sites) (clause_step sites) (Stmt-F.If n a so other)

  pub while_is : (n : ℕ) (a : Expr) (ss : List Stmt) → stmt_of sites (stmt.While n a ss) ≡ tree.While n (expr_of sites a) (block_of sites ss)
  while_is n a ss = ap (stmt_of sites) (sym (stmt_views.rolls-While n a ss)) ∙ code_stmt.fold-roll-Stmt tree.Stmt Head (stmt_step sites) (clause_step sites) (Stmt-F.While n a ss)

  pub for_is : (n : ℕ) (t : Target) (s : Subject) (ss : List Stmt) → stmt_of sites (stmt.For n t s ss) ≡ tree.For n (target_of sites t) (subject_of sites s) (block_of sites ss)
  for_is n t s ss = ap (stmt_of sites) (sym (stmt_views.rolls-For n t s ss)) ∙ code_stmt.fold-roll-Stmt tree.Stmt Head (stmt_step sites) (clause_step sites) (Stmt-F.For n t s ss)

  pub try_is : (n : ℕ) (ss : List Stmt) (cs : List Clause) (other : List Stmt) → stmt_of sites (stmt.Try n ss cs other) ≡ tree.Try n (block_of sites ss) (clauses_of sites cs) (block_of sites other)
  try_is n ss cs other = ap (stmt_of sites) (sym (stmt_views.rolls-Try n ss cs other)) ∙ code_stmt.fold-roll-Stmt tree.Stmt Head (stmt_step sites) (clause_step sites) (Stmt-F.Try n ss cs other)

  pub finally_is : (n : ℕ) (ss : List Stmt) (last : List Stmt) → stmt_of sites (stmt.Finally n ss last) ≡ tree.Finally n (block_of sites ss) (block_of sites last)
  finally_is n ss last = ap (stmt_of sites) (sym (stmt_views.rolls-Finally n ss last)) ∙ code_stmt.fold-roll-Stmt tree.Stmt Head (stmt_step sites) (clause_step sites) (Stmt-F.Finally n ss last)

  pub clause_is : (c : Clause) → clause_of sites c ≡ record { classes = heads c.bare c.classes; local = c.local; body = block_of sites c.body }
  clause_is c = ap (clause_of sites) (sym (stmt_views.rolls-struct-Clause (record { node = c.node; bare = c.bare; classes = c.classes; local = c.local; body = c.body }))) ∙ stmt_folds.fold-roll-Clause tree.Stmt Head (stmt_step sites) (clause_step sites) (record { node = c.node; bare = c.bare; classes = c.classes; local = c.local; body = c.body })

-- What the statements that are made mean, without copies, and what the meaning makes of their sources.
use Rattle.std.proofs.Common.{◌≡◌, ℕ, Bool, true, false, List, [], ◌∷◌, ◌++◌, map, Option, Some, None, refl, sym, ap, ◌∙◌}
use Rattle.std.specs.Prelude.{if◌then◌else◌}
use Rattle.rpy_tree.specs.declared.program.Site.{Site}
use Rattle.rpy_tree.specs.declared.syntax.BinOp.{BinOp}
use Rattle.rpy_tree.specs.declared.syntax.Clause as syntax_clause
use Rattle.rpy_tree.specs.declared.syntax.Expr as syntax
use Rattle.rpy_tree.specs.declared.syntax.Target as aim
use Rattle.rpy_tree.specs.declared.syntax.Stmt as code
use Rattle.rpy_tree.specs.declared.syntax.Stmt.TheFolds.{fold-roll-Clause}
use Rattle.rpy_tree.specs.declared.syntax.Stmt.TheOpen.{Stmt-F, Clause-F}
use Rattle.rpy_tree.specs.declared.syntax.Stmt.TheVariants as s
use Rattle.rpy_tree.specs.declared.syntax.Stmt.TheViews as views
use Rattle.rpy_meaning.specs.declared.row.RowOp.{RowOp}
use Rattle.rpy_meaning.specs.Tree as tree
use Rattle.rpy_meaning.specs.Resolved as meaning
use Rattle.rpy_meaning.specs.Resolved.{Names, Caught, stmt_by, stmt_step, clause_step, alone, onto, joined}
use Rattle.rpy_resolved.specs.declared.tree.Clause.{Clause}
use Rattle.rpy_resolved.specs.declared.tree.Expr.{Expr}
use Rattle.rpy_resolved.specs.declared.tree.Stmt.{Stmt}
use Rattle.rpy_resolved.specs.declared.tree.Stmt.TheVariants as made
use Rattle.rpy_resolved.specs.declared.tree.Subject.{Subject}
use Rattle.rpy_resolved.specs.declared.tree.Target.{Target}
use Rattle.resolved_meaning.specs.Trees as trees
use Rattle.resolved_meaning.specs.Trees.{expr_of, stmt_of, block_of, clause_of, clauses_of, heads}
use Rattle.resolved_meaning.proofs.Layers.{pass_is, break_is, continue_is, return_is, do_is, assign_is, augment_is, if_is, while_is, for_is, try_is, finally_is, clause_is}
use Rattle.resolved_laws.specs.Uncopied.{uncopied_stmt, uncopied_block, uncopied_clauses, uncopied_subject, uncopied_target, uncopied_targets, uncopied_expr}
use Rattle.resolver_names.specs.Told.{caught_by, arm_by}

abbrev whole : List Site → Expr → tree.Expr
whole sites a = uncopied_expr (expr_of sites a)

abbrev walked : List Site → Subject → tree.Subject
walked sites x = uncopied_subject (trees.subject_of sites x)

abbrev aimed : List Site → Target → tree.Target
aimed sites t = uncopied_target (trees.target_of sites t)

-- ---- blocks

module _ (sites : List Site) where
  abbrev done_stmt : Stmt → tree.Stmt
  done_stmt x = uncopied_stmt (stmt_of sites x)

  abbrev done_block : List Stmt → tree.Block
  done_block xs = uncopied_block (block_of sites xs)

  abbrev done_clause : Clause → Option (List ℕ) × Option ℕ × tree.Block
  done_clause c = (heads c.bare c.classes, c.local, done_block c.body)

  module _ (names : Names) where
    -- one more statement
    pub pushed : (xs : List Stmt) (x : Stmt) → done_block (xs ++ x ∷ []) ≡ onto names (done_block xs) (alone names (done_stmt x))
    pushed [] x = refl
    pushed (y ∷ xs) x = ap (tree.line (done_stmt y)) (pushed xs x)

    pub onto_all : (a b c : tree.Block) → onto names (onto names a b) c ≡ onto names a (onto names b c)
    onto_all tree.done b c = refl
    onto_all (tree.line x a) b c = ap (tree.line x) (onto_all a b c)

    pub onto_done : (a : tree.Block) → onto names a tree.done ≡ a
    onto_done tree.done = refl
    onto_done (tree.line x a) = ap (tree.line x) (onto_done a)

    -- a block and one statement more, and then the others
    pub joined_on : (old new : tree.Block) (x : code.Stmt) (xs : List code.Stmt) → new ≡ onto names old (stmt_by names x)
        → onto names new (joined names (map (stmt_by names) xs)) ≡ onto names old (joined names (map (stmt_by names) (x ∷ xs)))
    joined_on old new x xs e = ap (λ (b : tree.Block). onto names b (joined names (map (stmt_by names) xs))) e ∙ onto_all old (stmt_by names x) (joined names (map (stmt_by names) xs))

    clauses_made : (cs : List Clause) → uncopied_clauses (clauses_of sites cs) ≡ meaning.clauses_of names (map done_clause cs)
    clauses_made [] = refl
    clauses_made (c ∷ cs) =
        ap (λ h. uncopied_clauses (tree.clause h.classes h.local h.body (clauses_of sites cs))) (clause_is sites c)
        ∙ ap (tree.clause (heads c.bare c.classes) c.local (done_block c.body)) (clauses_made cs)

    pub try_made : (n : ℕ) (xs : List Stmt) (cs : List Clause) (other : List Stmt) → done_stmt (made.Try n xs cs other) ≡ tree.Try (done_block xs) (meaning.clauses_of names (map done_clause cs)) (done_block other)
    try_made n xs cs other = ap uncopied_stmt (try_is sites n xs cs other) ∙ ap (λ (us : tree.Clauses). tree.Try (done_block xs) us (done_block other)) (clauses_made cs)

  pub pass_made : (n : ℕ) → done_stmt (made.Pass n) ≡ tree.Pass
  pass_made n = ap uncopied_stmt (pass_is sites n)

  pub break_made : (n : ℕ) → done_stmt (made.Break n) ≡ tree.Break
  break_made n = ap uncopied_stmt (break_is sites n)

  pub continue_made : (n : ℕ) → done_stmt (made.Continue n) ≡ tree.Continue
  continue_made n = ap uncopied_stmt (continue_is sites n)

  pub return_made : (n : ℕ) (a : Expr) → done_stmt (made.Return n a) ≡ tree.Return (whole sites a)
  return_made n a = ap uncopied_stmt (return_is sites n a)

  pub do_made : (n : ℕ) (a : Expr) → done_stmt (made.Do n a) ≡ tree.Do (whole sites a)
  do_made n a = ap uncopied_stmt (do_is sites n a)

  targets_made : (ts : List Target) → uncopied_targets (trees.targets_of sites ts) ≡ meaning.targets_of (map (aimed sites) ts)
  targets_made [] = refl
  targets_made (t ∷ ts) = ap (tree.more_targets (aimed sites t)) (targets_made ts)

  pub assign_made : (n : ℕ) (ts : List Target) (a : Expr) → done_stmt (made.Assign n ts a) ≡ tree.Assign (meaning.targets_of (map (aimed sites) ts)) (whole sites a)
  assign_made n ts a = ap uncopied_stmt (assign_is sites n ts a) ∙ ap (λ (us : tree.Targets). tree.Assign us (whole sites a)) (targets_made ts)

  pub augment_made : (n : ℕ) (t : Target) (o : RowOp) (a : Expr) → done_stmt (made.Augment n t o a) ≡ tree.Augment (aimed sites t) o (whole sites a)
  augment_made n t o a = ap uncopied_stmt (augment_is sites n t o a)

  pub if_made : (n : ℕ) (a : Expr) (so other : List Stmt) → done_stmt (made.If n a so other) ≡ tree.If (whole sites a) (done_block so) (done_block other)
  if_made n a so other = ap uncopied_stmt (if_is sites n a so other)

  pub while_made : (n : ℕ) (a : Expr) (body : List Stmt) → done_stmt (made.While n a body) ≡ tree.While (whole sites a) (done_block body)
  while_made n a body = ap uncopied_stmt (while_is sites n a body)

  pub for_made : (n : ℕ) (t : Target) (x : Subject) (body : List Stmt) → done_stmt (made.For n t x body) ≡ tree.For (aimed sites t) (walked sites x) (done_block body)
  for_made n t x body = ap uncopied_stmt (for_is sites n t x body)

  pub finally_made : (n : ℕ) (body last : List Stmt) → done_stmt (made.Finally n body last) ≡ tree.Finally (done_block body) (done_block last)
  finally_made n body last = ap uncopied_stmt (finally_is sites n body last)

-- ---- what the meaning makes

module _ (names : Names) where
  roll : (x : Stmt-F code.Stmt syntax_clause.Clause) → stmt_by names (views.roll-Stmt x) ≡ stmt_step names (code.map-Stmt code.Stmt syntax_clause.Clause tree.Block (Caught names) (stmt_by names) (caught_by names) x)
  roll x = code.fold-roll-Stmt tree.Block (Caught names) (stmt_step names) (clause_step names) x

  pub pass_by : (n : ℕ) → stmt_by names (s.Pass n) ≡ stmt_step names (Stmt-F.Pass n)
  pass_by n = ap (stmt_by names) (sym (views.rolls-Pass n)) ∙ roll (Stmt-F.Pass n)

  pub break_by : (n : ℕ) → stmt_by names (s.Break n) ≡ stmt_step names (Stmt-F.Break n)
  break_by n = ap (stmt_by names) (sym (views.rolls-Break n)) ∙ roll (Stmt-F.Break n)

  pub continue_by : (n : ℕ) → stmt_by names (s.Continue n) ≡ stmt_step names (Stmt-F.Continue n)
  continue_by n = ap (stmt_by names) (sym (views.rolls-Continue n)) ∙ roll (Stmt-F.Continue n)

  pub return_by : (n : ℕ) (a : Option syntax.Expr) → stmt_by names (s.Return n a) ≡ stmt_step names (Stmt-F.Return n a)
  return_by n a = ap (stmt_by names) (sym (views.rolls-Return n a)) ∙ roll (Stmt-F.Return n a)

  pub raise_by : (n : ℕ) (a : syntax.Expr) → stmt_by names (s.Raise n a) ≡ stmt_step names (Stmt-F.Raise n a)
  raise_by n a = ap (stmt_by names) (sym (views.rolls-Raise n a)) ∙ roll (Stmt-F.Raise n a)

  pub assert_by : (n : ℕ) (a : syntax.Expr) → stmt_by names (s.Assert n a) ≡ stmt_step names (Stmt-F.Assert n a)
  assert_by n a = ap (stmt_by names) (sym (views.rolls-Assert n a)) ∙ roll (Stmt-F.Assert n a)

  pub del_by : (n : ℕ) (a i : syntax.Expr) → stmt_by names (s.Del n a i) ≡ stmt_step names (Stmt-F.Del n a i)
  del_by n a i = ap (stmt_by names) (sym (views.rolls-Del n a i)) ∙ roll (Stmt-F.Del n a i)

  pub print_by : (n : ℕ) (es : List syntax.Expr) → stmt_by names (s.Print n es) ≡ stmt_step names (Stmt-F.Print n es)
  print_by n es = ap (stmt_by names) (sym (views.rolls-Print n es)) ∙ roll (Stmt-F.Print n es)

  pub assign_by : (n : ℕ) (ts : List aim.Target) (a : syntax.Expr) → stmt_by names (s.Assign n ts a) ≡ stmt_step names (Stmt-F.Assign n ts a)
  assign_by n ts a = ap (stmt_by names) (sym (views.rolls-Assign n ts a)) ∙ roll (Stmt-F.Assign n ts a)

  pub aug_by : (n : ℕ) (t : aim.Target) (op : BinOp) (a : syntax.Expr) → stmt_by names (s.Aug n t op a) ≡ stmt_step names (Stmt-F.Aug n t op a)
  aug_by n t op a = ap (stmt_by names) (sym (views.rolls-Aug n t op a)) ∙ roll (Stmt-F.Aug n t op a)

  pub do_by : (n : ℕ) (a : syntax.Expr) → stmt_by names (s.Expr n a) ≡ stmt_step names (Stmt-F.Expr n a)
  do_by n a = ap (stmt_by names) (sym (views.rolls-Expr n a)) ∙ roll (Stmt-F.Expr n a)

  pub if_by : (n : ℕ) (arms : List (syntax.Expr × List code.Stmt)) (other : List code.Stmt) → stmt_by names (s.If n arms other) ≡ meaning.if_of names (map (arm_by names) arms) (map (stmt_by names) other)
  if_by n arms other = ap (stmt_by names) (sym (views.rolls-If n arms other)) ∙ roll (Stmt-F.If n arms other)

  pub while_by : (n : ℕ) (a : syntax.Expr) (body : List code.Stmt) → stmt_by names (s.While n a body) ≡ stmt_step names (Stmt-F.While n a (map (stmt_by names) body))
  while_by n a body = ap (stmt_by names) (sym (views.rolls-While n a body)) ∙ roll (Stmt-F.While n a body)

  pub for_by : (n : ℕ) (t : aim.Target) (a : syntax.Expr) (body : List code.Stmt) → stmt_by names (s.For n t a body) ≡ stmt_step names (Stmt-F.For n t a (map (stmt_by names) body))
  for_by n t a body = ap (stmt_by names) (sym (views.rolls-For n t a body)) ∙ roll (Stmt-F.For n t a body)

  abbrev tried : List code.Stmt → List syntax_clause.Clause → List code.Stmt → tree.Block
  tried body cs other = meaning.try_of names (joined names (map (stmt_by names) body)) (map (caught_by names) cs) (joined names (map (stmt_by names) other))

  pub try_by : (n : ℕ) (body : List code.Stmt) (cs : List syntax_clause.Clause) (other : List code.Stmt) → stmt_by names (s.Try n body cs other None) ≡ tried body cs other
  try_by n body cs other = ap (stmt_by names) (sym (views.rolls-Try n body cs other None)) ∙ roll (Stmt-F.Try n body cs other None)

  pub finally_by : (n : ℕ) (body : List code.Stmt) (cs : List syntax_clause.Clause) (other last : List code.Stmt)
      → stmt_by names (s.Try n body cs other (Some last)) ≡ alone names (tree.Finally (tried body cs other) (joined names (map (stmt_by names) last)))
  finally_by n body cs other last = ap (stmt_by names) (sym (views.rolls-Try n body cs other (Some last))) ∙ roll (Stmt-F.Try n body cs other (Some last))

  pub clause_by : (c : syntax_clause.Clause) → caught_by names c ≡ (if c.bare then None else Some (names.caught c.node), names.bound c.node, joined names (map (stmt_by names) c.body))
  clause_by c =
      ap (caught_by names) (sym (views.rolls-struct-Clause (record { node = c.node; classes = c.classes; bare = c.bare; bind = c.bind; body = c.body })))
      ∙ fold-roll-Clause tree.Block (Caught names) (stmt_step names) (clause_step names) (record { node = c.node; classes = c.classes; bare = c.bare; bind = c.bind; body = c.body })

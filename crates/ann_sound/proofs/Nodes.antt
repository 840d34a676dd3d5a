-- What gives the value of a node in the trees that are made of a program is counted there, so no node has its value in two functions, where
-- none stands in two.
use Rattle.std.proofs.Common.{◌≡◌, ℕ, zero, suc, ◌<◌, ◌≤◌, ◌==◌, inl, inr, Bool, true, false, List, [], ◌∷◌, map, slice_get, Some, None, refl, sym, ap, ◌∙◌, subst, arith, true≢false}
use Rattle.std.proofs.lemmas.Bool.{eq-eqb}
use Rattle.std.proofs.lemmas.Option.{none-some, same_Some}
use Rattle.rpy_tree.specs.declared.program.Program.{Program}
use Rattle.rpy_tree.specs.declared.program.Site.{Site}
use Rattle.rpy_meaning.specs.declared.row.RowOp.{RowOp}
use Rattle.rpy_meaning.specs.declared.row.RowOp.TheVariants as row
use Rattle.rpy_resolved.specs.declared.tree.Clause.{Clause}
use Rattle.rpy_resolved.specs.declared.tree.Expr.{Expr, fold-roll-Expr, map-Expr, ind-Expr}
use Rattle.rpy_resolved.specs.declared.tree.Expr.TheFolds.{fold-roll-Subject, fold-roll-Target, map-Subject, map-Target, ind-Subject, ind-Target}
use Rattle.rpy_resolved.specs.declared.tree.Expr.TheOpen.{Expr-F, Subject-F, Target-F}
use Rattle.rpy_resolved.specs.declared.tree.Expr.TheViews as views
use Rattle.rpy_resolved.specs.declared.tree.Function as code
use Rattle.rpy_resolved.specs.declared.tree.Resolved.{Resolved}
use Rattle.rpy_resolved.specs.declared.tree.Stmt.{Stmt, fold-roll-Stmt, map-Stmt, ind-Stmt}
use Rattle.rpy_resolved.specs.declared.tree.Stmt.TheFolds.{fold-roll-Clause, map-Clause}
use Rattle.rpy_resolved.specs.declared.tree.Stmt.TheOpen.{Stmt-F, Clause-F}
use Rattle.rpy_resolved.specs.declared.tree.Subject.{Subject}
use Rattle.rpy_resolved.specs.declared.tree.Target.{Target}
use Rattle.resolver_names.specs.Nodes.{total, pair_total, one_if, one_at, given, value_step, walked_step, bound_step, values, walked_values, bound_values, done_step, caught_step, done_values, caught_values, block_values, block_nodes}
use Rattle.resolver_laws.specs.Made.{Source, IsFrom, AreFrom, IsMadeOf, HaveApartNodes, sources}
use Rattle.flow_trees.specs.Tree as tree
use Rattle.flow_trees.specs.Ops.{IsOp, Helps, Meets, InExpr, InExprs, InPairs, InSubject, InTarget, InTargets, InParts, InBlock, InClauses, InFunction}
use Rattle.flow_space.specs.Trees.{exprs, pairs, targets, block, clauses, Head, expr_step, subject_step, target_step, expr_of, subject_of, target_of, targets_of, stmt_step, clause_step, stmt_of, clause_of, block_of, function_of, functions_of}
use Rattle.ann_read.specs.Reading.{HaveOwnNodes}
use Rattle.ann_sound.proofs.Callees.{map_inside}
use Rattle.ann_sound.proofs.Twice.{expr_twice, subject_twice, target_twice, stmt_twice, clause_twice}

same_number : (n : ℕ) → (n == n) ≡ true
same_number n = eq-eqb n n refl

no_help : (node n : ℕ) (o : RowOp) → Helps node true o n → ⊥
no_help node n o h = true≢false h.1

module _ (node : ℕ) (o : RowOp) where
  at_least : (n : ℕ) → node ≡ n → 1 ≤ one_at node n
  at_least n e =
      let h : one_at node n ≡ 1 = ap (λ m. one_if (m == node)) (sym e) ∙ ap one_if (same_number node) in
      omega (arith, h)

  op_at : (n : ℕ) (p : RowOp) → IsOp node true o n true p → 1 ≤ one_at node n
  op_at n p h = at_least n h.0

  meets_at : (n : ℕ) → Meets node true o n → 1 ≤ one_at node n
  meets_at n (inl h) = at_least n h.0
  meets_at n (inr h) = absurd (no_help node n o h)

  given_at : (n : ℕ) (value : Bool) (p : RowOp) → IsOp node true o n value p → 1 ≤ given node value p n
  given_at n true p h = at_least n h.0
  given_at n false p h = absurd (true≢false h.1)

  not_at : (n : ℕ) (value : Bool) (p : RowOp) → p ≡ row.Not → Meets node true o n → 1 ≤ given node value p n
  not_at n true p e h = meets_at n h
  not_at n false p e h =
      let g : given node false p n ≡ one_at node n = ap (λ (q : RowOp). given node false q n) e in
      let m = meets_at n h in
      omega (arith, g, m)

  module _ (sites : List Site) where
    abbrev HasExpr : Expr → Type 0
    HasExpr e = InExpr node true o (expr_of sites e) → 1 ≤ values node e

    abbrev HasSubject : Subject → Type 0
    HasSubject s = InSubject node true o (subject_of sites s) → 1 ≤ walked_values node s

    abbrev HasTarget : Target → Type 0
    HasTarget t = InTarget node true o (target_of sites t) → 1 ≤ bound_values node t

    abbrev SomeExpr : Type 0
    SomeExpr = (e : Expr) × HasExpr e

    abbrev SomeSubject : Type 0
    SomeSubject = (s : Subject) × HasSubject s

    abbrev SomeTarget : Type 0
    SomeTarget = (t : Target) × HasTarget t

    abbrev in_tree : SomeExpr → tree.Expr
    in_tree p = expr_of sites p.0

    abbrev count : SomeExpr → ℕ
    count p = values node p.0

    abbrev tree_layer : Expr-F SomeExpr SomeSubject SomeTarget → Expr-F tree.Expr tree.Subject tree.Target
    tree_layer y = map-Expr SomeExpr SomeSubject SomeTarget tree.Expr tree.Subject tree.Target in_tree (λ p. subject_of sites p.0) (λ p. target_of sites p.0) y

    abbrev count_layer : Expr-F SomeExpr SomeSubject SomeTarget → Expr-F ℕ ℕ ℕ
    count_layer y = map-Expr SomeExpr SomeSubject SomeTarget ℕ ℕ ℕ count (λ p. walked_values node p.0) (λ p. bound_values node p.0) y

    exprs_have : (ps : List SomeExpr) → InExprs node true o (exprs (map in_tree ps)) → 1 ≤ total (map count ps)
    exprs_have [] h = absurd h
    exprs_have (p ∷ ps) (inl h) = let a = p.1 h in omega (arith, a)
    exprs_have (p ∷ ps) (inr h) = let a = exprs_have ps h in omega (arith, a)

    pairs_have : (ps : List (SomeExpr × SomeExpr)) → InPairs node true o (pairs (map (λ (q : SomeExpr × SomeExpr). (in_tree q.0, in_tree q.1)) ps)) → 1 ≤ pair_total (map (λ (q : SomeExpr × SomeExpr). (count q.0, count q.1)) ps)
    pairs_have [] h = absurd h
    pairs_have (p ∷ ps) (inl h) = let a = p.0.1 h in omega (arith, a)
    pairs_have (p ∷ ps) (inr (inl h)) = let a = p.1.1 h in omega (arith, a)
    pairs_have (p ∷ ps) (inr (inr h)) = let a = pairs_have ps h in omega (arith, a)

    targets_have : (ps : List SomeTarget) → InTargets node true o (targets (map (λ (p : SomeTarget). target_of sites p.0) ps)) → 1 ≤ total (map (λ (p : SomeTarget). bound_values node p.0) ps)
    targets_have [] h = absurd h
    targets_have (p ∷ ps) (inl h) = let a = p.1 h in omega (arith, a)
    targets_have (p ∷ ps) (inr h) = let a = targets_have ps h in omega (arith, a)

    expr_ok : (y : Expr-F SomeExpr SomeSubject SomeTarget) → InExpr node true o (expr_step sites (tree_layer y)) → 1 ≤ value_step node (count_layer y)
    expr_ok (Expr-F.Local n i) h = at_least n h.0
    expr_ok (Expr-F.Constant n a) h = at_least n h.0
    expr_ok (Expr-F.Apply n value op es) (inl h) = let a = given_at n value op h in omega (arith, a)
    expr_ok (Expr-F.Apply n value op es) (inr (inl h)) = let a = not_at n value op h.0 h.1 in omega (arith, a)
    expr_ok (Expr-F.Apply n value op es) (inr (inr h)) = let a = exprs_have es h in omega (arith, a)
    expr_ok (Expr-F.And n a b) (inl h) = let g = meets_at n h in omega (arith, g)
    expr_ok (Expr-F.And n a b) (inr (inl h)) = let g = a.1 h in omega (arith, g)
    expr_ok (Expr-F.And n a b) (inr (inr h)) = let g = b.1 h in omega (arith, g)
    expr_ok (Expr-F.Or n a b) (inl h) = let g = meets_at n h in omega (arith, g)
    expr_ok (Expr-F.Or n a b) (inr (inl h)) = let g = a.1 h in omega (arith, g)
    expr_ok (Expr-F.Or n a b) (inr (inr h)) = let g = b.1 h in omega (arith, g)
    expr_ok (Expr-F.Display n site ps) (inl h) = let g = meets_at n h in omega (arith, g)
    expr_ok (Expr-F.Display n site ps) (inr h) = let g = pairs_have ps h in omega (arith, g)
    expr_ok (Expr-F.Comprehension n site item target subject test) (inl h) = let g = meets_at n h in omega (arith, g)
    expr_ok (Expr-F.Comprehension n site item target subject test) (inr (inl h)) = let g = item.1 h in omega (arith, g)
    expr_ok (Expr-F.Comprehension n site item target subject test) (inr (inr (inl h))) = let g = target.1 h in omega (arith, g)
    expr_ok (Expr-F.Comprehension n site item target subject test) (inr (inr (inr (inl h)))) = let g = subject.1 h in omega (arith, g)
    expr_ok (Expr-F.Comprehension n site item target subject None) (inr (inr (inr (inr h)))) = absurd h
    expr_ok (Expr-F.Comprehension n site item target subject (Some test)) (inr (inr (inr (inr h)))) = let g = test.1 h in omega (arith, g)

    subject_ok : (y : Subject-F SomeExpr SomeSubject SomeTarget) → InSubject node true o (subject_step sites (map-Subject SomeExpr SomeSubject SomeTarget tree.Expr tree.Subject tree.Target in_tree (λ p. subject_of sites p.0) (λ p. target_of sites p.0) y))
        → 1 ≤ walked_step node (map-Subject SomeExpr SomeSubject SomeTarget ℕ ℕ ℕ count (λ p. walked_values node p.0) (λ p. bound_values node p.0) y)
    subject_ok (Subject-F.Over site e) h = e.1 h
    subject_ok (Subject-F.UpTo e) h = e.1 h
    subject_ok (Subject-F.FromTo a b step) (inl h) = let g = a.1 h in omega (arith, g)
    subject_ok (Subject-F.FromTo a b step) (inr h) = let g = b.1 h in omega (arith, g)

    target_ok : (y : Target-F SomeExpr SomeSubject SomeTarget) → InTarget node true o (target_step sites (map-Target SomeExpr SomeSubject SomeTarget tree.Expr tree.Subject tree.Target in_tree (λ p. subject_of sites p.0) (λ p. target_of sites p.0) y))
        → 1 ≤ bound_step node (map-Target SomeExpr SomeSubject SomeTarget ℕ ℕ ℕ count (λ p. walked_values node p.0) (λ p. bound_values node p.0) y)
    target_ok (Target-F.Name n i) h = at_least n h.0
    target_ok (Target-F.Attr n e name) (inl h) = let g = at_least n h.0 in omega (arith, g)
    target_ok (Target-F.Attr n e name) (inr h) = let g = e.1 h in omega (arith, g)
    target_ok (Target-F.Item n a i) (inl h) = let g = at_least n h.0 in omega (arith, g)
    target_ok (Target-F.Item n a i) (inr (inl h)) = let g = a.1 h in omega (arith, g)
    target_ok (Target-F.Item n a i) (inr (inr h)) = let g = i.1 h in omega (arith, g)
    target_ok (Target-F.Parts n ts) (inl h) = let g = meets_at n h in omega (arith, g)
    target_ok (Target-F.Parts n ts) (inr h) = let g = targets_have ts h in omega (arith, g)

    expr_on : (x : Expr-F Expr Subject Target) (y : Expr-F SomeExpr SomeSubject SomeTarget) → map-Expr SomeExpr SomeSubject SomeTarget Expr Subject Target (λ p. p.0) (λ p. p.0) (λ p. p.0) y ≡ x
        → InExpr node true o (expr_of sites (views.roll-Expr x)) → 1 ≤ values node (views.roll-Expr x)
    expr_on x y is h =
        let a = fold-roll-Expr tree.Expr tree.Subject tree.Target (expr_step sites) (subject_step sites) (target_step sites) x
        ∙ ap (λ z. expr_step sites (map-Expr Expr Subject Target tree.Expr tree.Subject tree.Target (expr_of sites) (subject_of sites) (target_of sites) z)) (sym is)
        ∙ ap (expr_step sites) (expr_twice SomeExpr SomeSubject SomeTarget Expr Subject Target tree.Expr tree.Subject tree.Target (λ p. p.0) (λ p. p.0) (λ p. p.0) (expr_of sites) (subject_of sites) (target_of sites) y) in
        let b = fold-roll-Expr ℕ ℕ ℕ (value_step node) (walked_step node) (bound_step node) x
        ∙ ap (λ z. value_step node (map-Expr Expr Subject Target ℕ ℕ ℕ (values node) (walked_values node) (bound_values node) z)) (sym is)
        ∙ ap (value_step node) (expr_twice SomeExpr SomeSubject SomeTarget Expr Subject Target ℕ ℕ ℕ (λ p. p.0) (λ p. p.0) (λ p. p.0) (values node) (walked_values node) (bound_values node) y) in
        let P : tree.Expr → Type 0 = λ t. InExpr node true o t in
        subst (λ n. 1 ≤ n) (sym b) (expr_ok y (subst P a h))

    subject_on : (x : Subject-F Expr Subject Target) (y : Subject-F SomeExpr SomeSubject SomeTarget) → map-Subject SomeExpr SomeSubject SomeTarget Expr Subject Target (λ p. p.0) (λ p. p.0) (λ p. p.0) y ≡ x
        → InSubject node true o (subject_of sites (views.roll-Subject x)) → 1 ≤ walked_values node (views.roll-Subject x)
    subject_on x y is h =
        let a = fold-roll-Subject tree.Expr tree.Subject tree.Target (expr_step sites) (subject_step sites) (target_step sites) x
        ∙ ap (λ z. subject_step sites (map-Subject Expr Subject Target tree.Expr tree.Subject tree.Target (expr_of sites) (subject_of sites) (target_of sites) z)) (sym is)
        ∙ ap (subject_step sites) (subject_twice SomeExpr SomeSubject SomeTarget Expr Subject Target tree.Expr tree.Subject tree.Target (λ p. p.0) (λ p. p.0) (λ p. p.0) (expr_of sites) (subject_of sites) (target_of sites) y) in
        let b = fold-roll-Subject ℕ ℕ ℕ (value_step node) (walked_step node) (bound_step node) x
        ∙ ap (λ z. walked_step node (map-Subject Expr Subject Target ℕ ℕ ℕ (values node) (walked_values node) (bound_values node) z)) (sym is)
        ∙ ap (walked_step node) (subject_twice SomeExpr SomeSubject SomeTarget Expr Subject Target ℕ ℕ ℕ (λ p. p.0) (λ p. p.0) (λ p. p.0) (values node) (walked_values node) (bound_values node) y) in
        let P : tree.Subject → Type 0 = λ t. InSubject node true o t in
        subst (λ n. 1 ≤ n) (sym b) (subject_ok y (subst P a h))

    target_on : (x : Target-F Expr Subject Target) (y : Target-F SomeExpr SomeSubject SomeTarget) → map-Target SomeExpr SomeSubject SomeTarget Expr Subject Target (λ p. p.0) (λ p. p.0) (λ p. p.0) y ≡ x
        → InTarget node true o (target_of sites (views.roll-Target x)) → 1 ≤ bound_values node (views.roll-Target x)
    target_on x y is h =
        let a = fold-roll-Target tree.Expr tree.Subject tree.Target (expr_step sites) (subject_step sites) (target_step sites) x
        ∙ ap (λ z. target_step sites (map-Target Expr Subject Target tree.Expr tree.Subject tree.Target (expr_of sites) (subject_of sites) (target_of sites) z)) (sym is)
        ∙ ap (target_step sites) (target_twice SomeExpr SomeSubject SomeTarget Expr Subject Target tree.Expr tree.Subject tree.Target (λ p. p.0) (λ p. p.0) (λ p. p.0) (expr_of sites) (subject_of sites) (target_of sites) y) in
        let b = fold-roll-Target ℕ ℕ ℕ (value_step node) (walked_step node) (bound_step node) x
        ∙ ap (λ z. bound_step node (map-Target Expr Subject Target ℕ ℕ ℕ (values node) (walked_values node) (bound_values node) z)) (sym is)
        ∙ ap (bound_step node) (target_twice SomeExpr SomeSubject SomeTarget Expr Subject Target ℕ ℕ ℕ (λ p. p.0) (λ p. p.0) (λ p. p.0) (values node) (walked_values node) (bound_values node) y) in
        let P : tree.Target → Type 0 = λ t. InTarget node true o t in
        subst (λ n. 1 ≤ n) (sym b) (target_ok y (subst P a h))

    expr_has : (e : Expr) → HasExpr e
    expr_has = ind-Expr HasExpr HasSubject HasTarget expr_on subject_on target_on

    subject_has : (s : Subject) → HasSubject s
    subject_has = ind-Subject HasExpr HasSubject HasTarget expr_on subject_on target_on

    target_has : (t : Target) → HasTarget t
    target_has = ind-Target HasExpr HasSubject HasTarget expr_on subject_on target_on

    all_targets_have : (ts : List Target) → InTargets node true o (targets_of sites ts) → 1 ≤ total (map (bound_values node) ts)
    all_targets_have [] h = absurd h
    all_targets_have (t ∷ ts) (inl h) = let a = target_has t h in omega (arith, a)
    all_targets_have (t ∷ ts) (inr h) = let a = all_targets_have ts h in omega (arith, a)

    -- ---- statements

    abbrev HasStmt : Stmt → Type 0
    HasStmt s = InParts node true o (stmt_of sites s) → 1 ≤ done_values node s

    abbrev HasClause : Clause → Type 0
    HasClause c = InBlock node true o (clause_of sites c).body → 1 ≤ caught_values node c

    abbrev SomeStmt : Type 0
    SomeStmt = (s : Stmt) × HasStmt s

    abbrev SomeClause : Type 0
    SomeClause = (c : Clause) × HasClause c

    abbrev in_stmt : SomeStmt → tree.Stmt
    in_stmt p = stmt_of sites p.0

    abbrev in_clause : SomeClause → Head
    in_clause p = clause_of sites p.0

    abbrev stmt_count : SomeStmt → ℕ
    stmt_count p = done_values node p.0

    abbrev clause_count : SomeClause → ℕ
    clause_count p = caught_values node p.0

    body_has : (ps : List SomeStmt) → InBlock node true o (block (map in_stmt ps)) → 1 ≤ total (map stmt_count ps)
    body_has [] h = absurd h
    body_has (p ∷ ps) (inl h) = absurd (true≢false h.1)
    body_has (p ∷ ps) (inr (inl h)) = let a = p.1 h in omega (arith, a)
    body_has (p ∷ ps) (inr (inr h)) = let a = body_has ps h in omega (arith, a)

    clauses_have : (ps : List SomeClause) → InClauses node true o (clauses (map in_clause ps)) → 1 ≤ total (map clause_count ps)
    clauses_have [] h = absurd h
    clauses_have (p ∷ ps) (inl h) = let a = p.1 h in omega (arith, a)
    clauses_have (p ∷ ps) (inr h) = let a = clauses_have ps h in omega (arith, a)

    stmt_ok : (y : Stmt-F SomeStmt SomeClause) → InParts node true o (stmt_step sites (map-Stmt SomeStmt SomeClause tree.Stmt Head in_stmt in_clause y)) → 1 ≤ done_step node (map-Stmt SomeStmt SomeClause ℕ ℕ stmt_count clause_count y)
    stmt_ok (Stmt-F.Pass n) h = absurd h
    stmt_ok (Stmt-F.Break n) h = absurd h
    stmt_ok (Stmt-F.Continue n) h = absurd h
    stmt_ok (Stmt-F.Return n e) h = expr_has e h
    stmt_ok (Stmt-F.Do n e) h = expr_has e h
    stmt_ok (Stmt-F.Assign n ts e) (inl h) = let a = all_targets_have ts h in omega (arith, a)
    stmt_ok (Stmt-F.Assign n ts e) (inr h) = let a = expr_has e h in omega (arith, a)
    stmt_ok (Stmt-F.Augment n t op e) (inl h) = absurd (true≢false h.1)
    stmt_ok (Stmt-F.Augment n t op e) (inr (inl h)) = let a = target_has t h in omega (arith, a)
    stmt_ok (Stmt-F.Augment n t op e) (inr (inr h)) = let a = expr_has e h in omega (arith, a)
    stmt_ok (Stmt-F.If n e body other) (inl h) = let a = expr_has e h in omega (arith, a)
    stmt_ok (Stmt-F.If n e body other) (inr (inl h)) = let a = body_has body h in omega (arith, a)
    stmt_ok (Stmt-F.If n e body other) (inr (inr h)) = let a = body_has other h in omega (arith, a)
    stmt_ok (Stmt-F.While n e body) (inl h) = let a = expr_has e h in omega (arith, a)
    stmt_ok (Stmt-F.While n e body) (inr h) = let a = body_has body h in omega (arith, a)
    stmt_ok (Stmt-F.For n t subject body) (inl h) = let a = target_has t h in omega (arith, a)
    stmt_ok (Stmt-F.For n t subject body) (inr (inl h)) = let a = subject_has subject h in omega (arith, a)
    stmt_ok (Stmt-F.For n t subject body) (inr (inr h)) = let a = body_has body h in omega (arith, a)
    stmt_ok (Stmt-F.Try n body cs other) (inl h) = let a = body_has body h in omega (arith, a)
    stmt_ok (Stmt-F.Try n body cs other) (inr (inl h)) = let a = clauses_have cs h in omega (arith, a)
    stmt_ok (Stmt-F.Try n body cs other) (inr (inr h)) = let a = body_has other h in omega (arith, a)
    stmt_ok (Stmt-F.Finally n body last) (inl h) = let a = body_has body h in omega (arith, a)
    stmt_ok (Stmt-F.Finally n body last) (inr h) = let a = body_has last h in omega (arith, a)

    clause_ok : (y : Clause-F SomeStmt SomeClause) → InBlock node true o (clause_step sites (map-Clause SomeStmt SomeClause tree.Stmt Head in_stmt in_clause y)).body → 1 ≤ caught_step node (map-Clause SomeStmt SomeClause ℕ ℕ stmt_count clause_count y)
    clause_ok y h = body_has y.body h

    stmt_has : (s : Stmt) → HasStmt s
    stmt_has = ind-Stmt HasStmt HasClause
        (λ x y is h.
        let a = fold-roll-Stmt tree.Stmt Head (stmt_step sites) (clause_step sites) x
        ∙ ap (λ z. stmt_step sites (map-Stmt Stmt Clause tree.Stmt Head (stmt_of sites) (clause_of sites) z)) (sym is)
        ∙ ap (stmt_step sites) (stmt_twice SomeStmt SomeClause Stmt Clause tree.Stmt Head (λ p. p.0) (λ p. p.0) (stmt_of sites) (clause_of sites) y) in
        let b = fold-roll-Stmt ℕ ℕ (done_step node) (caught_step node) x
        ∙ ap (λ z. done_step node (map-Stmt Stmt Clause ℕ ℕ (done_values node) (caught_values node) z)) (sym is)
        ∙ ap (done_step node) (stmt_twice SomeStmt SomeClause Stmt Clause ℕ ℕ (λ p. p.0) (λ p. p.0) (done_values node) (caught_values node) y) in
        let P : tree.Stmt → Type 0 = λ t. InParts node true o t in
        subst (λ n. 1 ≤ n) (sym b) (stmt_ok y (subst P a h)))
        (λ x y is h.
        let a = fold-roll-Clause tree.Stmt Head (stmt_step sites) (clause_step sites) x
        ∙ ap (λ z. clause_step sites (map-Clause Stmt Clause tree.Stmt Head (stmt_of sites) (clause_of sites) z)) (sym is)
        ∙ ap (clause_step sites) (clause_twice SomeStmt SomeClause Stmt Clause tree.Stmt Head (λ p. p.0) (λ p. p.0) (stmt_of sites) (clause_of sites) y) in
        let b = fold-roll-Clause ℕ ℕ (done_step node) (caught_step node) x
        ∙ ap (λ z. caught_step node (map-Clause Stmt Clause ℕ ℕ (done_values node) (caught_values node) z)) (sym is)
        ∙ ap (caught_step node) (clause_twice SomeStmt SomeClause Stmt Clause ℕ ℕ (λ p. p.0) (λ p. p.0) (done_values node) (caught_values node) y) in
        let P : Head → Type 0 = λ t. InBlock node true o t.body in
        subst (λ n. 1 ≤ n) (sym b) (clause_ok y (subst P a h)))

    block_has : (ss : List Stmt) → InBlock node true o (block_of sites ss) → 1 ≤ block_values node ss
    block_has [] h = absurd h
    block_has (s ∷ ss) (inl h) = absurd (true≢false h.1)
    block_has (s ∷ ss) (inr (inl h)) = let a = stmt_has s h in omega (arith, a)
    block_has (s ∷ ss) (inr (inr h)) = let a = block_has ss h in omega (arith, a)

    function_has : (f : code.Function) → InFunction node true o (function_of sites f) → 1 ≤ block_values node f.body
    function_has f (inl h) = absurd (true≢false h.1)
    function_has f (inr h) = block_has f.body h

-- each function is from a source
from_source : (fs : List code.Function) (ss : List Source) (f : ℕ) (function : code.Function) → AreFrom fs ss → slice_get fs f ≡ Some function → (s : Source) × (slice_get ss f ≡ Some s) × IsFrom function s
from_source [] ss f function h is = absurd (none-some function is)
from_source (g ∷ fs) [] f function h is = absurd h
from_source (g ∷ fs) (s ∷ ss) zero function h is = (s, refl, subst (λ (x : code.Function). IsFrom x s) (same_Some g function is) h.0)
from_source (g ∷ fs) (s ∷ ss) (suc f) function h is = from_source fs ss f function h.1 is

module _ (p : Program) (r : Resolved) (made : IsMadeOf p r) where
  counted : (f : ℕ) (function : tree.Function) (node : ℕ) (o : RowOp) → slice_get (functions_of r) f ≡ Some function → InFunction node true o function
      → (s : Source) × (slice_get (sources 0 p.modules) f ≡ Some s) × (0 < block_nodes node s.0 s.1.body)
  counted f function node o is h =
      let at = map_inside (function_of r.sites) r.functions f function is in
      let from = from_source r.functions (sources 0 p.modules) f at.0 made.nodes at.1 in
      let P : tree.Function → Type 0 = λ g. InFunction node true o g in
      let a = function_has node o r.sites at.0 (subst P (sym at.2) h) in
      let b = from.2 node in
      (from.0, from.1, omega (arith, a, b))

  pub own_nodes : HaveApartNodes p.modules → HaveOwnNodes (functions_of r)
  own_nodes apart f g function other node o q at to h k =
      let a = counted f function node o at h in
      let b = counted g other node q to k in
      apart f g node a.0 b.0 a.1 b.1 a.2 b.2

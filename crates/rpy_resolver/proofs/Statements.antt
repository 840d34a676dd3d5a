-- What the statements that are made mean, form by form.
use Rattle.std.proofs.Common.{◌≡◌, ℕ, ◌+◌, ◌<◌, ◌≤◌, Bool, true, false, List, [], ◌∷◌, ◌++◌, map, length, drop, Option, Some, None, Result, Ok, Err, refl, sym, ap, ◌∙◌, arith}
use Rattle.std.specs.Prelude.{if◌then◌else◌, IfOk}
use Rattle.rpy_base.specs.declared.fault.NoMem.{NoMem}
use Rattle.rpy_tree.specs.declared.program.Site.{Site}
use Rattle.rpy_tree.specs.declared.syntax.BinOp.{BinOp}
use Rattle.rpy_tree.specs.declared.syntax.Clause as syntax_clause
use Rattle.rpy_tree.specs.declared.syntax.Expr as syntax
use Rattle.rpy_tree.specs.declared.syntax.Expr.{out-Expr}
use Rattle.rpy_tree.specs.declared.syntax.Target as aim
use Rattle.rpy_tree.specs.declared.syntax.Stmt as code
use Rattle.rpy_tree.specs.declared.syntax.Stmt.TheVariants as s
use Rattle.rpy_meaning.specs.declared.row.RowOp.{RowOp}
use Rattle.rpy_meaning.specs.declared.row.RowOp.TheVariants as row
use Rattle.rpy_meaning.specs.Tree as tree
use Rattle.rpy_meaning.specs.Tree.{Apply, none, more}
use Rattle.rpy_meaning.specs.Resolved as meaning
use Rattle.rpy_meaning.specs.Resolved.{Names, expr_by, target_by, said_by, stmt_by, alone, onto, joined}
use Rattle.rpy_resolved.specs.declared.tree.Expr.{Expr}
use Rattle.rpy_resolved.specs.declared.tree.Expr.TheVariants as m
use Rattle.rpy_resolved.specs.declared.tree.Stmt.{Stmt}
use Rattle.rpy_resolved.specs.declared.tree.Stmt.TheVariants as made
use Rattle.rpy_resolved.specs.declared.tree.Subject.{Subject}
use Rattle.rpy_resolved.specs.declared.tree.Target.{Target}
use Rattle.rpy_resolved.specs.declared.tree.Clause.{Clause}
use Rattle.resolved_laws.specs.Uncopied.{bare}
use Rattle.resolved_meaning.specs.Trees.{heads}
use Rattle.resolver_names.specs.declared.names.Names as code_names
use Rattle.resolver_names.specs.Told.{the_names, tree_of, walked_of, aim_of, stmt_tree, block_tree, caught_tree, caught_by, arm_by}
use Rattle.resolver_names.proofs.Making.{ok_map, apply_made}
use Rattle.resolver_laws.proofs.Stating.{pass_made, break_made, continue_made, return_made, do_made, assign_made, augment_made, if_made, while_made, for_made, try_made, finally_made, pushed, pass_by, break_by, continue_by, return_by, raise_by, assert_by, del_by, print_by, assign_by, aug_by, do_by, if_by, while_by, for_by, try_by, finally_by, clause_by}
use Rattle.rpy_resolver.specs.Parts.{Put}
use Rattle.rpy_resolver.proofs.Forms.{all_whole}

headed : (bare : Bool) (classes : List ℕ) → heads bare classes ≡ (if bare then None else Some classes)
headed true classes = refl
headed false classes = refl

module _ (names : code_names.Names) where
  abbrev sites : List Site
  sites = names.program.now.sites

  abbrev the : Names
  the = the_names names

  abbrev block_of : tree.Stmt → tree.Block
  block_of x = alone the x

  -- an operation on one operand
  pub applied : (n : ℕ) (v : Bool) (o : RowOp) (a : Expr) (t : tree.Expr) → tree_of names a ≡ t → tree_of names (m.Apply n v o (a ∷ [])) ≡ bare o (more t none)
  applied n v o a t h = apply_made sites n v o (a ∷ []) ∙ ap (λ (x : tree.Expr). bare o (more x none)) h

  pub done_whole : (n k : ℕ) (v : Bool) (o : RowOp) (a : Expr) → stmt_tree names (made.Do n (m.Apply k v o (a ∷ []))) ≡ tree.Do (bare o (more (tree_of names a) none))
  done_whole n k v o a = do_made sites n (m.Apply k v o (a ∷ [])) ∙ ap tree.Do (applied k v o a (tree_of names a) refl)

  pub return_none : (n k : ℕ) (v : Bool) (e : Option syntax.Expr) → e ≡ None → block_of (stmt_tree names (made.Return k (m.Apply k v row.None []))) ≡ stmt_by the (s.Return n e)
  return_none n k v e is =
      ap block_of (return_made sites k (m.Apply k v row.None []) ∙ ap tree.Return (apply_made sites k v row.None []))
      ∙ sym (return_by the n None)
      ∙ ap (λ (x : Option syntax.Expr). stmt_by the (s.Return n x)) (sym is)

  pub return_whole : (n k : ℕ) (e : Option syntax.Expr) (x : syntax.Expr) (a : Expr) → e ≡ Some x → tree_of names a ≡ expr_by the x → block_of (stmt_tree names (made.Return k a)) ≡ stmt_by the (s.Return n e)
  return_whole n k e x a is h =
      ap block_of (return_made sites k a ∙ ap tree.Return h)
      ∙ sym (return_by the n (Some x))
      ∙ ap (λ (y : Option syntax.Expr). stmt_by the (s.Return n y)) (sym is)

  pub class_whole : (k c : ℕ) (v : Bool) (u : Option ℕ) (t : tree.Expr) → u ≡ Some c → tree_of names (m.Apply k v (row.New c) []) ≡ meaning.raised_by the u t
  class_whole k c v u t h = apply_made sites k v (row.New c) [] ∙ ap (λ (x : Option ℕ). meaning.raised_by the x t) (sym h)

  pub raise_whole : (n : ℕ) (e : syntax.Expr) (a : Expr) (r : Result Stmt NoMem)
      → tree_of names a ≡ meaning.raised_by the (meaning.class_named the (meaning.name_in the (out-Expr e))) (expr_by the e)
      → IfOk r (λ x. stmt_tree names x ≡ tree.Do (bare row.Raise (more (tree_of names a) none)))
      → IfOk r (λ x. block_of (stmt_tree names x) ≡ stmt_by the (s.Raise n e))
  raise_whole n e a r h = ok_map r (λ x is. ap block_of (is ∙ ap (λ (t : tree.Expr). tree.Do (Apply row.Raise (more t none))) h) ∙ sym (raise_by the n e))

  pub assert_whole : (n k : ℕ) (e : syntax.Expr) (test error : Expr) (raise : Stmt) (other : List Stmt) (v : Bool)
      → tree_of names test ≡ expr_by the e → error ≡ m.Apply k v (row.New 10) [] → stmt_tree names raise ≡ tree.Do (bare row.Raise (more (tree_of names error) none)) → other ≡ raise ∷ []
      → block_of (stmt_tree names (made.If k test [] other)) ≡ stmt_by the (s.Assert n e)
  assert_whole n k e test error raise other v t x h o =
      ap block_of
      (if_made sites k test [] other
      ∙ ap (λ (a : tree.Expr). tree.If a tree.done (block_tree names other)) t
      ∙ ap (λ (b : List Stmt). tree.If (expr_by the e) tree.done (block_tree names b)) o
      ∙ ap (λ (b : tree.Stmt). tree.If (expr_by the e) tree.done (tree.line b tree.done)) (h ∙ ap (λ (a : Expr). tree.Do (Apply row.Raise (more (tree_of names a) none))) x ∙ ap (λ (a : tree.Expr). tree.Do (Apply row.Raise (more a none))) (apply_made sites k v (row.New 10) [])))
      ∙ sym (assert_by the n e)

  pub del_whole : (n k l : ℕ) (v : Bool) (x y : syntax.Expr) (a b : Expr) (parts : List Expr) → tree_of names a ≡ expr_by the x → tree_of names b ≡ expr_by the y → parts ≡ a ∷ b ∷ []
      → block_of (stmt_tree names (made.Do k (m.Apply l v row.DeleteIndex parts))) ≡ stmt_by the (s.Del n x y)
  del_whole n k l v x y a b parts h i is =
      ap block_of
      (do_made sites k (m.Apply l v row.DeleteIndex parts)
      ∙ ap tree.Do
      (all_whole names l v row.DeleteIndex parts (expr_by the x ∷ expr_by the y ∷ [])
      (ap (map (tree_of names)) is ∙ ap (λ (t : tree.Expr). t ∷ tree_of names b ∷ []) h ∙ ap (λ (t : tree.Expr). expr_by the x ∷ t ∷ []) i)))
      ∙ sym (del_by the n x y)

  pub print_whole : (n k l : ℕ) (v : Bool) (es : List syntax.Expr) (parts : List Expr) → map (tree_of names) parts ≡ map (expr_by the) es
      → block_of (stmt_tree names (made.Do k (m.Apply l v row.Print parts))) ≡ stmt_by the (s.Print n es)
  print_whole n k l v es parts h =
      ap block_of (do_made sites k (m.Apply l v row.Print parts) ∙ ap tree.Do (all_whole names l v row.Print parts (map (expr_by the) es) h)) ∙ sym (print_by the n es)

  pub aug_whole : (n k : ℕ) (t : aim.Target) (op : BinOp) (e : syntax.Expr) (x : Target) (o : RowOp) (a : Expr)
      → aim_of names x ≡ target_by the t → o ≡ meaning.augmented the n op → tree_of names a ≡ expr_by the e
      → block_of (stmt_tree names (made.Augment k x o a)) ≡ stmt_by the (s.Aug n t op e)
  aug_whole n k t op e x o a h i j =
      ap block_of
      (augment_made sites k x o a
      ∙ ap (λ (y : tree.Target). tree.Augment y o (tree_of names a)) h
      ∙ ap (λ (y : RowOp). tree.Augment (target_by the t) y (tree_of names a)) i
      ∙ ap (tree.Augment (target_by the t) (meaning.augmented the n op)) j)
      ∙ sym (aug_by the n t op e)

  pub assign_whole : (n k : ℕ) (ts : List aim.Target) (e : syntax.Expr) (xs : List Target) (a : Expr)
      → map (aim_of names) xs ≡ map (target_by the) ts → tree_of names a ≡ expr_by the e
      → block_of (stmt_tree names (made.Assign k xs a)) ≡ stmt_by the (s.Assign n ts e)
  assign_whole n k ts e xs a h i =
      ap block_of
      (assign_made sites k xs a
      ∙ ap (λ (ys : List tree.Target). tree.Assign (meaning.targets_of ys) (tree_of names a)) h
      ∙ ap (tree.Assign (meaning.targets_of (map (target_by the) ts))) i)
      ∙ sym (assign_by the n ts e)

  pub do_whole : (n k : ℕ) (e : syntax.Expr) (a : Expr) → tree_of names a ≡ expr_by the e → block_of (stmt_tree names (made.Do k a)) ≡ stmt_by the (s.Expr n e)
  do_whole n k e a h = ap block_of (do_made sites k a ∙ ap tree.Do h) ∙ sym (do_by the n e)

  -- ---- one more statement

  pub put_whole : (old new : List Stmt) (r : Result Stmt NoMem) (u : tree.Block) → Put r old new → IfOk r (λ x. block_of (stmt_tree names x) ≡ u) → block_tree names new ≡ onto the (block_tree names old) u
  put_whole old new (Ok x) u is h = ap (block_tree names) is ∙ pushed sites the old x ∙ ap (onto the (block_tree names old)) h
  put_whole old new (Err e) u is h = absurd is

  pub pass_put : (n k : ℕ) (x : code.Stmt) (old new : List Stmt) → x ≡ s.Pass n → new ≡ old ++ made.Pass k ∷ [] → block_tree names new ≡ onto the (block_tree names old) (stmt_by the x)
  pass_put n k x old new is e =
      ap (block_tree names) e ∙ pushed sites the old (made.Pass k) ∙ ap (onto the (block_tree names old)) (ap block_of (pass_made sites k) ∙ sym (pass_by the n) ∙ ap (stmt_by the) (sym is))

  pub break_put : (n k : ℕ) (x : code.Stmt) (old new : List Stmt) → x ≡ s.Break n → new ≡ old ++ made.Break k ∷ [] → block_tree names new ≡ onto the (block_tree names old) (stmt_by the x)
  break_put n k x old new is e =
      ap (block_tree names) e ∙ pushed sites the old (made.Break k) ∙ ap (onto the (block_tree names old)) (ap block_of (break_made sites k) ∙ sym (break_by the n) ∙ ap (stmt_by the) (sym is))

  pub continue_put : (n k : ℕ) (x : code.Stmt) (old new : List Stmt) → x ≡ s.Continue n → new ≡ old ++ made.Continue k ∷ [] → block_tree names new ≡ onto the (block_tree names old) (stmt_by the x)
  continue_put n k x old new is e =
      ap (block_tree names) e ∙ pushed sites the old (made.Continue k) ∙ ap (onto the (block_tree names old)) (ap block_of (continue_made sites k) ∙ sym (continue_by the n) ∙ ap (stmt_by the) (sym is))

  -- ---- statements with blocks

  abbrev body_of : List code.Stmt → tree.Block
  body_of xs = joined the (map (stmt_by the) xs)

  pub while_whole : (n k : ℕ) (e : syntax.Expr) (body : List code.Stmt) (a : Expr) (b : List Stmt) → tree_of names a ≡ expr_by the e → block_tree names b ≡ body_of body
      → block_of (stmt_tree names (made.While k a b)) ≡ stmt_by the (s.While n e body)
  while_whole n k e body a b h i =
      ap block_of (while_made sites k a b ∙ ap (λ (x : tree.Expr). tree.While x (block_tree names b)) h ∙ ap (tree.While (expr_by the e)) i) ∙ sym (while_by the n e body)

  pub for_whole : (n k : ℕ) (t : aim.Target) (e : syntax.Expr) (body : List code.Stmt) (x : Target) (y : Subject) (b : List Stmt)
      → aim_of names x ≡ target_by the t → walked_of names y ≡ meaning.subject_of (the.walk n) (said_by the e) → block_tree names b ≡ body_of body
      → block_of (stmt_tree names (made.For k x y b)) ≡ stmt_by the (s.For n t e body)
  for_whole n k t e body x y b h i j =
      ap block_of
      (for_made sites k x y b
      ∙ ap (λ (u : tree.Target). tree.For u (walked_of names y) (block_tree names b)) h
      ∙ ap (λ (u : tree.Subject). tree.For (target_by the t) u (block_tree names b)) i
      ∙ ap (tree.For (target_by the t) (meaning.subject_of (the.walk n) (said_by the e))) j)
      ∙ sym (for_by the n t e body)

  pub finally_whole : (k : ℕ) (tried last : List Stmt) (u : tree.Block) → block_tree names last ≡ u → stmt_tree names (made.Finally k tried last) ≡ tree.Finally (block_tree names tried) u
  finally_whole k tried last u h = finally_made sites k tried last ∙ ap (tree.Finally (block_tree names tried)) h

  pub try_whole : (k : ℕ) (body : List Stmt) (cs : List Clause) (other : List Stmt) (t : tree.Block) (us : List (meaning.Caught the)) (o : tree.Block)
      → block_tree names body ≡ t → map (caught_tree names) cs ≡ us → block_tree names other ≡ o → stmt_tree names (made.Try k body cs other) ≡ tree.Try t (meaning.clauses_of the us) o
  try_whole k body cs other t us o h i j =
      try_made sites the k body cs other
      ∙ ap (λ (x : tree.Block). tree.Try x (meaning.clauses_of the (map (caught_tree names) cs)) (block_tree names other)) h
      ∙ ap (λ (x : List (meaning.Caught the)). tree.Try t (meaning.clauses_of the x) (block_tree names other)) i
      ∙ ap (tree.Try t (meaning.clauses_of the us)) j

  pub if_whole : (k : ℕ) (a : Expr) (so other : List Stmt) (t : tree.Expr) (u v : tree.Block) → tree_of names a ≡ t → block_tree names so ≡ u → block_tree names other ≡ v → stmt_tree names (made.If k a so other) ≡ tree.If t u v
  if_whole k a so other t u v h i j =
      if_made sites k a so other
      ∙ ap (λ (x : tree.Expr). tree.If x (block_tree names so) (block_tree names other)) h
      ∙ ap (λ (x : tree.Block). tree.If t x (block_tree names other)) i
      ∙ ap (tree.If t u) j

  pub arm_whole : (k : ℕ) (a : Expr) (so other : List Stmt) (t : tree.Expr) (u : tree.Block) (r : Result (List Stmt) NoMem) → tree_of names a ≡ t → block_tree names so ≡ u
      → IfOk r (λ block. block ≡ made.If k a so other ∷ []) → IfOk r (λ block. block_tree names block ≡ tree.line (tree.If t u (block_tree names other)) tree.done)
  arm_whole k a so other t u r h i = ok_map r (λ block e. ap (block_tree names) e ∙ ap (λ (x : tree.Stmt). tree.line x tree.done) (if_whole k a so other t u (block_tree names other) h i refl))

  pub tried_is : (body : tree.Block) (cs : List syntax_clause.Clause) (c : syntax_clause.Clause) (rest : List syntax_clause.Clause) (other : tree.Block) → cs ≡ c ∷ rest
      → block_of (tree.Try body (meaning.clauses_of the (map (caught_by the) cs)) other) ≡ meaning.try_of the body (map (caught_by the) cs) other
  tried_is body cs c rest other is =
      ap (λ (x : List syntax_clause.Clause). block_of (tree.Try body (meaning.clauses_of the (map (caught_by the) x)) other)) is
      ∙ ap (λ (x : List syntax_clause.Clause). meaning.try_of the body (map (caught_by the) x) other) (sym is)

  pub clause_whole : (c : syntax_clause.Clause) (k : ℕ) (classes : List ℕ) (local : Option ℕ) (body : List Stmt)
      → classes ≡ the.caught c.node → local ≡ the.bound c.node → block_tree names body ≡ body_of c.body
      → caught_tree names (record { node = k; bare = c.bare; classes = classes; local = local; body = body }) ≡ caught_by the c
  clause_whole c k classes local body h i j =
      ap (λ (x : List ℕ). (heads c.bare x, local, block_tree names body)) h
      ∙ ap (λ (x : Option ℕ). (heads c.bare (the.caught c.node), x, block_tree names body)) i
      ∙ ap (λ (x : tree.Block). (heads c.bare (the.caught c.node), the.bound c.node, x)) j
      ∙ ap (λ (x : Option (List ℕ)). (x, the.bound c.node, body_of c.body)) (headed c.bare (the.caught c.node))
      ∙ sym (clause_by the c)

  -- ---- as they are put into a block

  pub put_said : (x y : code.Stmt) (old new : List Stmt) (r : Result Stmt NoMem) → x ≡ y → Put r old new → IfOk r (λ made. block_of (stmt_tree names made) ≡ stmt_by the y)
      → block_tree names new ≡ onto the (block_tree names old) (stmt_by the x)
  put_said x y old new r is h e = put_whole old new r (stmt_by the y) h e ∙ ap (λ (z : code.Stmt). onto the (block_tree names old) (stmt_by the z)) (sym is)

  pub if_said : (x : code.Stmt) (n : ℕ) (arms : List (syntax.Expr × List code.Stmt)) (other : List code.Stmt) → x ≡ s.If n arms other → meaning.if_of the (map (arm_by the) arms) (map (stmt_by the) other) ≡ stmt_by the x
  if_said x n arms other is = sym (ap (stmt_by the) is ∙ if_by the n arms other)

  pub try_said : (n : ℕ) (body : List code.Stmt) (cs : List syntax_clause.Clause) (other : List code.Stmt) (last : Option (List code.Stmt)) → last ≡ None
      → meaning.try_of the (body_of body) (map (caught_by the) cs) (body_of other) ≡ stmt_by the (s.Try n body cs other last)
  try_said n body cs other last is = sym (try_by the n body cs other) ∙ ap (λ x. stmt_by the (s.Try n body cs other x)) (sym is)

  pub finally_put : (n : ℕ) (body : List code.Stmt) (cs : List syntax_clause.Clause) (other : List code.Stmt) (last : Option (List code.Stmt)) (l : List code.Stmt) (tried old new : List Stmt) (r : Result Stmt NoMem)
      → last ≡ Some l → block_tree names tried ≡ meaning.try_of the (body_of body) (map (caught_by the) cs) (body_of other)
      → Put r old new → IfOk r (λ made. stmt_tree names made ≡ tree.Finally (block_tree names tried) (body_of l))
      → block_tree names new ≡ onto the (block_tree names old) (stmt_by the (s.Try n body cs other last))
  finally_put n body cs other last l tried old new r is t h e =
      put_whole old new r (stmt_by the (s.Try n body cs other last)) h
      (ok_map r (λ made d.
      ap block_of (d ∙ ap (λ (b : tree.Block). tree.Finally b (body_of l)) t)
      ∙ sym (finally_by the n body cs other l)
      ∙ ap (λ x. stmt_by the (s.Try n body cs other x)) (sym is)) e)

  pub tried_put : (body : tree.Block) (cs : List syntax_clause.Clause) (other : tree.Block) (old new : List Stmt) (r : Result Stmt NoMem) → 1 ≤ length cs → Put r old new
      → IfOk r (λ made. stmt_tree names made ≡ tree.Try body (meaning.clauses_of the (map (caught_by the) cs)) other)
      → block_tree names new ≡ onto the (block_tree names old) (meaning.try_of the body (map (caught_by the) cs) other)
  tried_put body [] other old new r le h e = absurd (omega (arith, le))
  tried_put body (c ∷ cs) other old new r le h e =
      put_whole old new r (meaning.try_of the body (map (caught_by the) (c ∷ cs)) other) h (ok_map r (λ made d. ap block_of d) e)

  pub body_put : (body other : tree.Block) (cs : List syntax_clause.Clause) (b : tree.Block) → length cs < 1 → b ≡ body → b ≡ meaning.try_of the body (map (caught_by the) cs) other
  body_put body other [] b lt e = e
  body_put body other (c ∷ cs) b lt e = absurd (omega (arith, lt))

  abbrev arms_of : List (syntax.Expr × List code.Stmt) → List code.Stmt → tree.Block
  arms_of arms other = meaning.if_of the (map (arm_by the) arms) (map (stmt_by the) other)

  pub first_put : (arms rest : List (syntax.Expr × List code.Stmt)) (arm : syntax.Expr × List code.Stmt) (other : List code.Stmt) (old new : List Stmt) (r : Result Stmt NoMem) → arms ≡ arm ∷ rest → Put r old new
      → IfOk r (λ made. stmt_tree names made ≡ tree.If (expr_by the arm.0) (body_of arm.1) (arms_of rest other))
      → block_tree names new ≡ onto the (block_tree names old) (arms_of arms other)
  first_put arms rest arm other old new r is h e =
      put_whole old new r (arms_of arms other) h (ok_map r (λ made d. ap block_of d ∙ ap (λ us. arms_of us other) (sym is)) e)

  pub no_arms : (arms : List (syntax.Expr × List code.Stmt)) (other : List code.Stmt) → length arms < 1 → body_of other ≡ arms_of arms other
  no_arms [] other lt = refl
  no_arms (a ∷ arms) other lt = absurd (omega (arith, lt))

  pub arm_before : (arms : List (syntax.Expr × List code.Stmt)) (n : ℕ) (arm : syntax.Expr × List code.Stmt) (other : List code.Stmt) (u : tree.Block)
      → drop n arms ≡ arm ∷ drop (n + 1) arms → u ≡ arms_of (drop (n + 1) arms) other
      → tree.line (tree.If (expr_by the arm.0) (body_of arm.1) u) tree.done ≡ arms_of (drop n arms) other
  arm_before arms n arm other u is h =
      ap (λ (x : tree.Block). tree.line (tree.If (expr_by the arm.0) (body_of arm.1) x) tree.done) h ∙ ap (λ us. arms_of us other) (sym is)

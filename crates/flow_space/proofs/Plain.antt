-- Without their nodes, the trees of a resolved program are those of its meaning.
use Rattle.std.proofs.Common.{◌≡◌, List, [], ◌∷◌, map, Some, None, refl, sym, ap, ◌∙◌}
use Rattle.std.specs.Prelude.{option_map}
use Rattle.rpy_tree.specs.declared.program.Site.{Site}
use Rattle.rpy_meaning.specs.Tree as meant
use Rattle.rpy_resolved.specs.declared.tree.Expr.{Expr, fold-roll-Expr, map-Expr, ind-Expr}
use Rattle.rpy_resolved.specs.declared.tree.Expr.TheFolds.{fold-roll-Subject, fold-roll-Target, map-Subject, map-Target, ind-Subject, ind-Target}
use Rattle.rpy_resolved.specs.declared.tree.Expr.TheOpen.{Expr-F, Subject-F, Target-F}
use Rattle.rpy_resolved.specs.declared.tree.Subject.{Subject}
use Rattle.rpy_resolved.specs.declared.tree.Target.{Target}
use Rattle.rpy_resolved.specs.declared.tree.Stmt.{Stmt, fold-roll-Stmt, map-Stmt, ind-Stmt}
use Rattle.rpy_resolved.specs.declared.tree.Stmt.TheFolds.{fold-roll-Clause, map-Clause, ind-Clause}
use Rattle.rpy_resolved.specs.declared.tree.Stmt.TheOpen.{Stmt-F, Clause-F}
use Rattle.rpy_resolved.specs.declared.tree.Clause.{Clause}
use Rattle.rpy_resolved.specs.declared.tree.Function.{Function}
use Rattle.resolved_meaning.specs.Programs.{value_in}
use Rattle.resolved_meaning.specs.Trees as bare
use Rattle.resolved_meaning.specs.Trees.{heads}
use Rattle.flow_trees.specs.Tree as tree
use Rattle.flow_trees.specs.Tree.{plain, plain_exprs, plain_pairs, plain_subject, plain_condition, plain_target, plain_targets, plain_stmt, plain_block, plain_clauses, plain_function}
use Rattle.flow_space.specs.Trees as noded

-- ---- maps of maps

module _ {A B C : Type 0} (g : A → B) (h : B → C) where
  map_twice : (xs : List A) → map h (map g xs) ≡ map (λ x. h (g x)) xs
  map_twice [] = refl
  map_twice (x ∷ xs) = ap (λ ys. h (g x) ∷ ys) (map_twice xs)

  pairs_twice : (xs : List (A × A)) → map {A = B × B} {B = C × C} (λ p. (h p.0, h p.1)) (map {A = A × A} {B = B × B} (λ p. (g p.0, g p.1)) xs) ≡ map {A = A × A} {B = C × C} (λ p. (h (g p.0), h (g p.1))) xs
  pairs_twice [] = refl
  pairs_twice (x ∷ xs) = ap (λ ys. (h (g x.0), h (g x.1)) ∷ ys) (pairs_twice xs)

module _ (A A' A'' B B' B'' C C' C'' : Type 0) (g : A → B) (g' : A' → B') (g'' : A'' → B'') (h : B → C) (h' : B' → C') (h'' : B'' → C'') where
  abbrev ExprTwice : Expr-F A A' A'' → Type 0
  ExprTwice x = map-Expr B B' B'' C C' C'' h h' h'' (map-Expr A A' A'' B B' B'' g g' g'' x) ≡ map-Expr A A' A'' C C' C'' (λ a. h (g a)) (λ a. h' (g' a)) (λ a. h'' (g'' a)) x

  expr_twice : (x : Expr-F A A' A'') → ExprTwice x
  expr_twice (Expr-F.Local n i) = refl
  expr_twice (Expr-F.Constant n a) = refl
  expr_twice (Expr-F.Apply n value op es) = ap (λ xs. Expr-F.Apply n value op xs) (map_twice g h es)
  expr_twice (Expr-F.And n a b) = refl
  expr_twice (Expr-F.Or n a b) = refl
  expr_twice (Expr-F.Display n site ps) = ap (λ xs. Expr-F.Display n site xs) (pairs_twice g h ps)
  expr_twice (Expr-F.Comprehension n site item target subject None) = refl
  expr_twice (Expr-F.Comprehension n site item target subject (Some test)) = refl

  abbrev SubjectTwice : Subject-F A A' A'' → Type 0
  SubjectTwice x = map-Subject B B' B'' C C' C'' h h' h'' (map-Subject A A' A'' B B' B'' g g' g'' x) ≡ map-Subject A A' A'' C C' C'' (λ a. h (g a)) (λ a. h' (g' a)) (λ a. h'' (g'' a)) x

  subject_twice : (x : Subject-F A A' A'') → SubjectTwice x
  subject_twice (Subject-F.Over site e) = refl
  subject_twice (Subject-F.UpTo e) = refl
  subject_twice (Subject-F.FromTo a b step) = refl

  abbrev TargetTwice : Target-F A A' A'' → Type 0
  TargetTwice x = map-Target B B' B'' C C' C'' h h' h'' (map-Target A A' A'' B B' B'' g g' g'' x) ≡ map-Target A A' A'' C C' C'' (λ a. h (g a)) (λ a. h' (g' a)) (λ a. h'' (g'' a)) x

  target_twice : (x : Target-F A A' A'') → TargetTwice x
  target_twice (Target-F.Name n i) = refl
  target_twice (Target-F.Attr n e name) = refl
  target_twice (Target-F.Item n a i) = refl
  target_twice (Target-F.Parts n parts) = ap (λ xs. Target-F.Parts n xs) (map_twice g'' h'' parts)

module _ (A A' B B' C C' : Type 0) (g : A → B) (g' : A' → B') (h : B → C) (h' : B' → C') where
  abbrev StmtTwice : Stmt-F A A' → Type 0
  StmtTwice x = map-Stmt B B' C C' h h' (map-Stmt A A' B B' g g' x) ≡ map-Stmt A A' C C' (λ a. h (g a)) (λ a. h' (g' a)) x

  stmt_twice : (x : Stmt-F A A') → StmtTwice x
  stmt_twice (Stmt-F.Pass n) = refl
  stmt_twice (Stmt-F.Break n) = refl
  stmt_twice (Stmt-F.Continue n) = refl
  stmt_twice (Stmt-F.Return n e) = refl
  stmt_twice (Stmt-F.Do n e) = refl
  stmt_twice (Stmt-F.Assign n ts e) = refl
  stmt_twice (Stmt-F.Augment n t op e) = refl
  stmt_twice (Stmt-F.If n e body other) = λ i. Stmt-F.If n e (map_twice g h body i) (map_twice g h other i)
  stmt_twice (Stmt-F.While n e body) = ap (λ xs. Stmt-F.While n e xs) (map_twice g h body)
  stmt_twice (Stmt-F.For n t subject body) = ap (λ xs. Stmt-F.For n t subject xs) (map_twice g h body)
  stmt_twice (Stmt-F.Try n body cs other) = λ i. Stmt-F.Try n (map_twice g h body i) (map_twice g' h' cs i) (map_twice g h other i)
  stmt_twice (Stmt-F.Finally n body last) = λ i. Stmt-F.Finally n (map_twice g h body i) (map_twice g h last i)

  abbrev ClauseTwice : Clause-F A A' → Type 0
  ClauseTwice x = map-Clause B B' C C' h h' (map-Clause A A' B B' g g' x) ≡ map-Clause A A' C C' (λ a. h (g a)) (λ a. h' (g' a)) x

  clause_twice : (x : Clause-F A A') → ClauseTwice x
  clause_twice x = λ i. record { node = x.node; bare = x.bare; classes = x.classes; local = x.local; body = map_twice g h x.body i }

-- ---- lists without nodes

exprs_plain : (es : List tree.Expr) → plain_exprs (noded.exprs es) ≡ bare.exprs (map plain es)
exprs_plain [] = refl
exprs_plain (e ∷ es) = ap (λ xs. meant.more (plain e) xs) (exprs_plain es)

abbrev plain_pair : tree.Expr × tree.Expr → meant.Expr × meant.Expr
plain_pair p = (plain p.0, plain p.1)

pairs_plain : (ps : List (tree.Expr × tree.Expr)) → plain_pairs (noded.pairs ps) ≡ bare.pairs (map plain_pair ps)
pairs_plain [] = refl
pairs_plain (p ∷ ps) = ap (λ xs. meant.pair (plain p.0) (plain p.1) xs) (pairs_plain ps)

targets_plain : (ts : List tree.Target) → plain_targets (noded.targets ts) ≡ bare.targets (map plain_target ts)
targets_plain [] = refl
targets_plain (t ∷ ts) = ap (λ xs. meant.more_targets (plain_target t) xs) (targets_plain ts)

block_plain : (ss : List tree.Stmt) → plain_block (noded.block ss) ≡ bare.block (map plain_stmt ss)
block_plain [] = refl
block_plain (s ∷ ss) = ap (λ xs. meant.line (plain_stmt s) xs) (block_plain ss)

abbrev plain_head : noded.Head → bare.Head
plain_head c = record { classes = c.classes; local = c.local; body = plain_block c.body }

clauses_plain : (cs : List noded.Head) → plain_clauses (noded.clauses cs) ≡ bare.clauses (map plain_head cs)
clauses_plain [] = refl
clauses_plain (c ∷ cs) = ap (λ xs. meant.clause c.classes c.local (plain_block c.body) xs) (clauses_plain cs)

-- ---- expressions

abbrev E : Type 0
E = tree.Expr

abbrev S : Type 0
S = tree.Subject

abbrev T : Type 0
T = tree.Target

module _ (sites : List Site) where
  abbrev bare_expr : Expr-F E S T → Expr-F meant.Expr meant.Subject meant.Target
  bare_expr = map-Expr E S T meant.Expr meant.Subject meant.Target plain plain_subject plain_target

  expr_layer : (x : Expr-F E S T) → plain (noded.expr_step sites x) ≡ bare.expr_step sites (bare_expr x)
  expr_layer (Expr-F.Local n i) = refl
  expr_layer (Expr-F.Constant n a) = refl
  expr_layer (Expr-F.Apply n value op es) = ap (λ xs. meant.Apply op xs) (exprs_plain es)
  expr_layer (Expr-F.And n a b) = refl
  expr_layer (Expr-F.Or n a b) = refl
  expr_layer (Expr-F.Display n site ps) = ap (λ xs. meant.Display site xs) (pairs_plain ps)
  expr_layer (Expr-F.Comprehension n site item target subject None) = refl
  expr_layer (Expr-F.Comprehension n site item target subject (Some test)) = refl

  subject_layer : (x : Subject-F E S T) → plain_subject (noded.subject_step sites x) ≡ bare.subject_step sites (map-Subject E S T meant.Expr meant.Subject meant.Target plain plain_subject plain_target x)
  subject_layer (Subject-F.Over site e) = refl
  subject_layer (Subject-F.UpTo e) = refl
  subject_layer (Subject-F.FromTo a b step) = refl

  target_layer : (x : Target-F E S T) → plain_target (noded.target_step sites x) ≡ bare.target_step sites (map-Target E S T meant.Expr meant.Subject meant.Target plain plain_subject plain_target x)
  target_layer (Target-F.Name n i) = refl
  target_layer (Target-F.Attr n e name) = refl
  target_layer (Target-F.Item n a i) = refl
  target_layer (Target-F.Parts n parts) = ap (λ xs. meant.Parts xs) (targets_plain parts)

  abbrev first : Expr → meant.Expr
  first e = plain (noded.expr_of sites e)

  abbrev first_subject : Subject → meant.Subject
  first_subject s = plain_subject (noded.subject_of sites s)

  abbrev first_target : Target → meant.Target
  first_target t = plain_target (noded.target_of sites t)

  -- each way to the parts of a layer is the same, where it is so for each part
  module _ (Y Y' Y'' : Type 0) (h : Y → Expr) (h' : Y' → Subject) (h'' : Y'' → Target)
      (alike : (y : Y) → first (h y) ≡ bare.expr_of sites (h y)) (alike' : (y : Y') → first_subject (h' y) ≡ bare.subject_of sites (h' y)) (alike'' : (y : Y'') → first_target (h'' y) ≡ bare.target_of sites (h'' y)) where
    expr_step_plain : (x : Expr-F Expr Subject Target) (y : Expr-F Y Y' Y'') → map-Expr Y Y' Y'' Expr Subject Target h h' h'' y ≡ x
        → plain (noded.expr_step sites (map-Expr Expr Subject Target E S T (noded.expr_of sites) (noded.subject_of sites) (noded.target_of sites) x))
        ≡ bare.expr_step sites (map-Expr Expr Subject Target meant.Expr meant.Subject meant.Target (bare.expr_of sites) (bare.subject_of sites) (bare.target_of sites) x)
    expr_step_plain x y is =
        expr_layer (map-Expr Expr Subject Target E S T (noded.expr_of sites) (noded.subject_of sites) (noded.target_of sites) x)
        ∙ ap (bare.expr_step sites)
        (expr_twice Expr Subject Target E S T meant.Expr meant.Subject meant.Target (noded.expr_of sites) (noded.subject_of sites) (noded.target_of sites) plain plain_subject plain_target x
        ∙ sym (ap (map-Expr Expr Subject Target meant.Expr meant.Subject meant.Target first first_subject first_target) is)
        ∙ expr_twice Y Y' Y'' Expr Subject Target meant.Expr meant.Subject meant.Target h h' h'' first first_subject first_target y
        ∙ (λ i. map-Expr Y Y' Y'' meant.Expr meant.Subject meant.Target (λ p. alike p i) (λ p. alike' p i) (λ p. alike'' p i) y)
        ∙ sym (expr_twice Y Y' Y'' Expr Subject Target meant.Expr meant.Subject meant.Target h h' h'' (bare.expr_of sites) (bare.subject_of sites) (bare.target_of sites) y)
        ∙ ap (map-Expr Expr Subject Target meant.Expr meant.Subject meant.Target (bare.expr_of sites) (bare.subject_of sites) (bare.target_of sites)) is)

    subject_step_plain : (x : Subject-F Expr Subject Target) (y : Subject-F Y Y' Y'') → map-Subject Y Y' Y'' Expr Subject Target h h' h'' y ≡ x
        → plain_subject (noded.subject_step sites (map-Subject Expr Subject Target E S T (noded.expr_of sites) (noded.subject_of sites) (noded.target_of sites) x))
        ≡ bare.subject_step sites (map-Subject Expr Subject Target meant.Expr meant.Subject meant.Target (bare.expr_of sites) (bare.subject_of sites) (bare.target_of sites) x)
    subject_step_plain x y is =
        subject_layer (map-Subject Expr Subject Target E S T (noded.expr_of sites) (noded.subject_of sites) (noded.target_of sites) x)
        ∙ ap (bare.subject_step sites)
        (subject_twice Expr Subject Target E S T meant.Expr meant.Subject meant.Target (noded.expr_of sites) (noded.subject_of sites) (noded.target_of sites) plain plain_subject plain_target x
        ∙ sym (ap (map-Subject Expr Subject Target meant.Expr meant.Subject meant.Target first first_subject first_target) is)
        ∙ subject_twice Y Y' Y'' Expr Subject Target meant.Expr meant.Subject meant.Target h h' h'' first first_subject first_target y
        ∙ (λ i. map-Subject Y Y' Y'' meant.Expr meant.Subject meant.Target (λ p. alike p i) (λ p. alike' p i) (λ p. alike'' p i) y)
        ∙ sym (subject_twice Y Y' Y'' Expr Subject Target meant.Expr meant.Subject meant.Target h h' h'' (bare.expr_of sites) (bare.subject_of sites) (bare.target_of sites) y)
        ∙ ap (map-Subject Expr Subject Target meant.Expr meant.Subject meant.Target (bare.expr_of sites) (bare.subject_of sites) (bare.target_of sites)) is)

    target_step_plain : (x : Target-F Expr Subject Target) (y : Target-F Y Y' Y'') → map-Target Y Y' Y'' Expr Subject Target h h' h'' y ≡ x
        → plain_target (noded.target_step sites (map-Target Expr Subject Target E S T (noded.expr_of sites) (noded.subject_of sites) (noded.target_of sites) x))
        ≡ bare.target_step sites (map-Target Expr Subject Target meant.Expr meant.Subject meant.Target (bare.expr_of sites) (bare.subject_of sites) (bare.target_of sites) x)
    target_step_plain x y is =
        target_layer (map-Target Expr Subject Target E S T (noded.expr_of sites) (noded.subject_of sites) (noded.target_of sites) x)
        ∙ ap (bare.target_step sites)
        (target_twice Expr Subject Target E S T meant.Expr meant.Subject meant.Target (noded.expr_of sites) (noded.subject_of sites) (noded.target_of sites) plain plain_subject plain_target x
        ∙ sym (ap (map-Target Expr Subject Target meant.Expr meant.Subject meant.Target first first_subject first_target) is)
        ∙ target_twice Y Y' Y'' Expr Subject Target meant.Expr meant.Subject meant.Target h h' h'' first first_subject first_target y
        ∙ (λ i. map-Target Y Y' Y'' meant.Expr meant.Subject meant.Target (λ p. alike p i) (λ p. alike' p i) (λ p. alike'' p i) y)
        ∙ sym (target_twice Y Y' Y'' Expr Subject Target meant.Expr meant.Subject meant.Target h h' h'' (bare.expr_of sites) (bare.subject_of sites) (bare.target_of sites) y)
        ∙ ap (map-Target Expr Subject Target meant.Expr meant.Subject meant.Target (bare.expr_of sites) (bare.subject_of sites) (bare.target_of sites)) is)

  abbrev IsPlain : Expr → Type 0
  IsPlain e = first e ≡ bare.expr_of sites e

  abbrev IsPlainSubject : Subject → Type 0
  IsPlainSubject s = first_subject s ≡ bare.subject_of sites s

  abbrev IsPlainTarget : Target → Type 0
  IsPlainTarget t = first_target t ≡ bare.target_of sites t

  pub is_plain : (e : Expr) → IsPlain e
  is_plain = ind-Expr IsPlain IsPlainSubject IsPlainTarget
      (λ x y is. ap plain (fold-roll-Expr E S T (noded.expr_step sites) (noded.subject_step sites) (noded.target_step sites) x) ∙ expr_step_plain _ _ _ (λ p. p.0) (λ p. p.0) (λ p. p.0) (λ p. p.1) (λ p. p.1) (λ p. p.1) x y is
      ∙ sym (fold-roll-Expr meant.Expr meant.Subject meant.Target (bare.expr_step sites) (bare.subject_step sites) (bare.target_step sites) x))
      (λ x y is. ap plain_subject (fold-roll-Subject E S T (noded.expr_step sites) (noded.subject_step sites) (noded.target_step sites) x) ∙ subject_step_plain _ _ _ (λ p. p.0) (λ p. p.0) (λ p. p.0) (λ p. p.1) (λ p. p.1) (λ p. p.1) x y is
      ∙ sym (fold-roll-Subject meant.Expr meant.Subject meant.Target (bare.expr_step sites) (bare.subject_step sites) (bare.target_step sites) x))
      (λ x y is. ap plain_target (fold-roll-Target E S T (noded.expr_step sites) (noded.subject_step sites) (noded.target_step sites) x) ∙ target_step_plain _ _ _ (λ p. p.0) (λ p. p.0) (λ p. p.0) (λ p. p.1) (λ p. p.1) (λ p. p.1) x y is
      ∙ sym (fold-roll-Target meant.Expr meant.Subject meant.Target (bare.expr_step sites) (bare.subject_step sites) (bare.target_step sites) x))

  pub is_plain_subject : (s : Subject) → IsPlainSubject s
  is_plain_subject = ind-Subject IsPlain IsPlainSubject IsPlainTarget
      (λ x y is. ap plain (fold-roll-Expr E S T (noded.expr_step sites) (noded.subject_step sites) (noded.target_step sites) x) ∙ expr_step_plain _ _ _ (λ p. p.0) (λ p. p.0) (λ p. p.0) (λ p. p.1) (λ p. p.1) (λ p. p.1) x y is
      ∙ sym (fold-roll-Expr meant.Expr meant.Subject meant.Target (bare.expr_step sites) (bare.subject_step sites) (bare.target_step sites) x))
      (λ x y is. ap plain_subject (fold-roll-Subject E S T (noded.expr_step sites) (noded.subject_step sites) (noded.target_step sites) x) ∙ subject_step_plain _ _ _ (λ p. p.0) (λ p. p.0) (λ p. p.0) (λ p. p.1) (λ p. p.1) (λ p. p.1) x y is
      ∙ sym (fold-roll-Subject meant.Expr meant.Subject meant.Target (bare.expr_step sites) (bare.subject_step sites) (bare.target_step sites) x))
      (λ x y is. ap plain_target (fold-roll-Target E S T (noded.expr_step sites) (noded.subject_step sites) (noded.target_step sites) x) ∙ target_step_plain _ _ _ (λ p. p.0) (λ p. p.0) (λ p. p.0) (λ p. p.1) (λ p. p.1) (λ p. p.1) x y is
      ∙ sym (fold-roll-Target meant.Expr meant.Subject meant.Target (bare.expr_step sites) (bare.subject_step sites) (bare.target_step sites) x))

  pub is_plain_target : (t : Target) → IsPlainTarget t
  is_plain_target = ind-Target IsPlain IsPlainSubject IsPlainTarget
      (λ x y is. ap plain (fold-roll-Expr E S T (noded.expr_step sites) (noded.subject_step sites) (noded.target_step sites) x) ∙ expr_step_plain _ _ _ (λ p. p.0) (λ p. p.0) (λ p. p.0) (λ p. p.1) (λ p. p.1) (λ p. p.1) x y is
      ∙ sym (fold-roll-Expr meant.Expr meant.Subject meant.Target (bare.expr_step sites) (bare.subject_step sites) (bare.target_step sites) x))
      (λ x y is. ap plain_subject (fold-roll-Subject E S T (noded.expr_step sites) (noded.subject_step sites) (noded.target_step sites) x) ∙ subject_step_plain _ _ _ (λ p. p.0) (λ p. p.0) (λ p. p.0) (λ p. p.1) (λ p. p.1) (λ p. p.1) x y is
      ∙ sym (fold-roll-Subject meant.Expr meant.Subject meant.Target (bare.expr_step sites) (bare.subject_step sites) (bare.target_step sites) x))
      (λ x y is. ap plain_target (fold-roll-Target E S T (noded.expr_step sites) (noded.subject_step sites) (noded.target_step sites) x) ∙ target_step_plain _ _ _ (λ p. p.0) (λ p. p.0) (λ p. p.0) (λ p. p.1) (λ p. p.1) (λ p. p.1) x y is
      ∙ sym (fold-roll-Target meant.Expr meant.Subject meant.Target (bare.expr_step sites) (bare.subject_step sites) (bare.target_step sites) x))

  -- ---- statements

  targets_same : (ts : List Target) → plain_targets (noded.targets_of sites ts) ≡ bare.targets_of sites ts
  targets_same [] = refl
  targets_same (t ∷ ts) = λ i. meant.more_targets (is_plain_target t i) (targets_same ts i)

  abbrev bare_stmt : Stmt-F tree.Stmt noded.Head → Stmt-F meant.Stmt bare.Head
  bare_stmt = map-Stmt tree.Stmt noded.Head meant.Stmt bare.Head plain_stmt plain_head

  stmt_layer : (x : Stmt-F tree.Stmt noded.Head) → plain_stmt (noded.stmt_step sites x) ≡ bare.stmt_step sites (bare_stmt x)
  stmt_layer (Stmt-F.Pass n) = refl
  stmt_layer (Stmt-F.Break n) = refl
  stmt_layer (Stmt-F.Continue n) = refl
  stmt_layer (Stmt-F.Return n e) = λ i. meant.Return (is_plain e i)
  stmt_layer (Stmt-F.Do n e) = λ i. meant.Do (is_plain e i)
  stmt_layer (Stmt-F.Assign n ts e) = λ i. meant.Assign (targets_same ts i) (is_plain e i)
  stmt_layer (Stmt-F.Augment n t op e) = λ i. meant.Augment (is_plain_target t i) op (is_plain e i)
  stmt_layer (Stmt-F.If n e body other) = λ i. meant.If (is_plain e i) (block_plain body i) (block_plain other i)
  stmt_layer (Stmt-F.While n e body) = λ i. meant.While (is_plain e i) (block_plain body i)
  stmt_layer (Stmt-F.For n t subject body) = λ i. meant.For (is_plain_target t i) (is_plain_subject subject i) (block_plain body i)
  stmt_layer (Stmt-F.Try n body cs other) = λ i. meant.Try (block_plain body i) (clauses_plain cs i) (block_plain other i)
  stmt_layer (Stmt-F.Finally n body last) = λ i. meant.Finally (block_plain body i) (block_plain last i)

  clause_layer : (x : Clause-F tree.Stmt noded.Head) → plain_head (noded.clause_step sites x) ≡ bare.clause_step sites (map-Clause tree.Stmt noded.Head meant.Stmt bare.Head plain_stmt plain_head x)
  clause_layer x = λ i. record { classes = heads x.bare x.classes; local = x.local; body = block_plain x.body i }

  abbrev first_stmt : Stmt → meant.Stmt
  first_stmt s = plain_stmt (noded.stmt_of sites s)

  abbrev first_clause : Clause → bare.Head
  first_clause c = plain_head (noded.clause_of sites c)

  module _ (Y Y' : Type 0) (h : Y → Stmt) (h' : Y' → Clause) (alike : (y : Y) → first_stmt (h y) ≡ bare.stmt_of sites (h y)) (alike' : (y : Y') → first_clause (h' y) ≡ bare.clause_of sites (h' y)) where
    stmt_step_plain : (x : Stmt-F Stmt Clause) (y : Stmt-F Y Y') → map-Stmt Y Y' Stmt Clause h h' y ≡ x
        → plain_stmt (noded.stmt_step sites (map-Stmt Stmt Clause tree.Stmt noded.Head (noded.stmt_of sites) (noded.clause_of sites) x))
        ≡ bare.stmt_step sites (map-Stmt Stmt Clause meant.Stmt bare.Head (bare.stmt_of sites) (bare.clause_of sites) x)
    stmt_step_plain x y is =
        stmt_layer (map-Stmt Stmt Clause tree.Stmt noded.Head (noded.stmt_of sites) (noded.clause_of sites) x)
        ∙ ap (bare.stmt_step sites)
        (stmt_twice Stmt Clause tree.Stmt noded.Head meant.Stmt bare.Head (noded.stmt_of sites) (noded.clause_of sites) plain_stmt plain_head x
        ∙ sym (ap (map-Stmt Stmt Clause meant.Stmt bare.Head first_stmt first_clause) is)
        ∙ stmt_twice Y Y' Stmt Clause meant.Stmt bare.Head h h' first_stmt first_clause y
        ∙ (λ i. map-Stmt Y Y' meant.Stmt bare.Head (λ p. alike p i) (λ p. alike' p i) y)
        ∙ sym (stmt_twice Y Y' Stmt Clause meant.Stmt bare.Head h h' (bare.stmt_of sites) (bare.clause_of sites) y)
        ∙ ap (map-Stmt Stmt Clause meant.Stmt bare.Head (bare.stmt_of sites) (bare.clause_of sites)) is)

    clause_step_plain : (x : Clause-F Stmt Clause) (y : Clause-F Y Y') → map-Clause Y Y' Stmt Clause h h' y ≡ x
        → plain_head (noded.clause_step sites (map-Clause Stmt Clause tree.Stmt noded.Head (noded.stmt_of sites) (noded.clause_of sites) x))
        ≡ bare.clause_step sites (map-Clause Stmt Clause meant.Stmt bare.Head (bare.stmt_of sites) (bare.clause_of sites) x)
    clause_step_plain x y is =
        clause_layer (map-Clause Stmt Clause tree.Stmt noded.Head (noded.stmt_of sites) (noded.clause_of sites) x)
        ∙ ap (bare.clause_step sites)
        (clause_twice Stmt Clause tree.Stmt noded.Head meant.Stmt bare.Head (noded.stmt_of sites) (noded.clause_of sites) plain_stmt plain_head x
        ∙ sym (ap (map-Clause Stmt Clause meant.Stmt bare.Head first_stmt first_clause) is)
        ∙ clause_twice Y Y' Stmt Clause meant.Stmt bare.Head h h' first_stmt first_clause y
        ∙ (λ i. map-Clause Y Y' meant.Stmt bare.Head (λ p. alike p i) (λ p. alike' p i) y)
        ∙ sym (clause_twice Y Y' Stmt Clause meant.Stmt bare.Head h h' (bare.stmt_of sites) (bare.clause_of sites) y)
        ∙ ap (map-Clause Stmt Clause meant.Stmt bare.Head (bare.stmt_of sites) (bare.clause_of sites)) is)

  stmt_plain : (s : Stmt) → first_stmt s ≡ bare.stmt_of sites s
  stmt_plain = ind-Stmt (λ s. first_stmt s ≡ bare.stmt_of sites s) (λ c. first_clause c ≡ bare.clause_of sites c)
      (λ x y is. ap plain_stmt (fold-roll-Stmt tree.Stmt noded.Head (noded.stmt_step sites) (noded.clause_step sites) x) ∙ stmt_step_plain _ _ (λ p. p.0) (λ p. p.0) (λ p. p.1) (λ p. p.1) x y is
      ∙ sym (fold-roll-Stmt meant.Stmt bare.Head (bare.stmt_step sites) (bare.clause_step sites) x))
      (λ x y is. ap plain_head (fold-roll-Clause tree.Stmt noded.Head (noded.stmt_step sites) (noded.clause_step sites) x) ∙ clause_step_plain _ _ (λ p. p.0) (λ p. p.0) (λ p. p.1) (λ p. p.1) x y is
      ∙ sym (fold-roll-Clause meant.Stmt bare.Head (bare.stmt_step sites) (bare.clause_step sites) x))

  clause_plain : (c : Clause) → first_clause c ≡ bare.clause_of sites c
  clause_plain = ind-Clause (λ s. first_stmt s ≡ bare.stmt_of sites s) (λ c. first_clause c ≡ bare.clause_of sites c)
      (λ x y is. ap plain_stmt (fold-roll-Stmt tree.Stmt noded.Head (noded.stmt_step sites) (noded.clause_step sites) x) ∙ stmt_step_plain _ _ (λ p. p.0) (λ p. p.0) (λ p. p.1) (λ p. p.1) x y is
      ∙ sym (fold-roll-Stmt meant.Stmt bare.Head (bare.stmt_step sites) (bare.clause_step sites) x))
      (λ x y is. ap plain_head (fold-roll-Clause tree.Stmt noded.Head (noded.stmt_step sites) (noded.clause_step sites) x) ∙ clause_step_plain _ _ (λ p. p.0) (λ p. p.0) (λ p. p.1) (λ p. p.1) x y is
      ∙ sym (fold-roll-Clause meant.Stmt bare.Head (bare.stmt_step sites) (bare.clause_step sites) x))

  stmts_same : (ss : List Stmt) → plain_block (noded.block_of sites ss) ≡ bare.block_of sites ss
  stmts_same [] = refl
  stmts_same (s ∷ ss) = λ i. meant.line (stmt_plain s i) (stmts_same ss i)

  pub clauses_same : (cs : List Clause) → plain_clauses (noded.clauses_of sites cs) ≡ bare.clauses_of sites cs
  clauses_same [] = refl
  clauses_same (c ∷ cs) = λ i. meant.clause (clause_plain c i).classes (clause_plain c i).local (clause_plain c i).body (clauses_same cs i)

  pub function_plain : (f : Function) → plain_function (noded.function_of sites f) ≡ bare.function_of sites f
  function_plain f = ap (λ (b : meant.Block). record { defaults = map (option_map (value_in sites)) f.defaults; takes_more = f.takes_more; locals = f.locals; body = b }) (stmts_same f.body)

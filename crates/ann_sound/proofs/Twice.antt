-- Layers of trees whose parts are mapped twice.
use Rattle.std.proofs.Common.{◌≡◌, List, [], ◌∷◌, map, Some, None, refl, ap}
use Rattle.rpy_tree.specs.declared.syntax.Expr.{Expr}
use Rattle.rpy_tree.specs.declared.syntax.Stmt as source
use Rattle.rpy_tree.specs.declared.syntax.Stmt.TheFolds as source_folds
use Rattle.rpy_tree.specs.declared.syntax.Stmt.TheOpen as text
use Rattle.rpy_resolved.specs.declared.tree.Expr.{map-Expr}
use Rattle.rpy_resolved.specs.declared.tree.Expr.TheFolds.{map-Subject, map-Target}
use Rattle.rpy_resolved.specs.declared.tree.Expr.TheOpen.{Expr-F, Subject-F, Target-F}
use Rattle.rpy_resolved.specs.declared.tree.Stmt.{map-Stmt}
use Rattle.rpy_resolved.specs.declared.tree.Stmt.TheFolds.{map-Clause}
use Rattle.rpy_resolved.specs.declared.tree.Stmt.TheOpen.{Stmt-F, Clause-F}

module _ {A B C : Type 0} (g : A → B) (h : B → C) where
  map_twice : (xs : List A) → map h (map g xs) ≡ map (λ x. h (g x)) xs
  map_twice [] = refl
  map_twice (x ∷ xs) = ap (λ ys. h (g x) ∷ ys) (map_twice xs)

  pairs_twice : (xs : List (A × A)) → map {A = B × B} {B = C × C} (λ p. (h p.0, h p.1)) (map {A = A × A} {B = B × B} (λ p. (g p.0, g p.1)) xs) ≡ map {A = A × A} {B = C × C} (λ p. (h (g p.0), h (g p.1))) xs
  pairs_twice [] = refl
  pairs_twice (x ∷ xs) = ap (λ ys. (h (g x.0), h (g x.1)) ∷ ys) (pairs_twice xs)

  arms_twice : (xs : List (Expr × List A)) → map {A = Expr × List B} {B = Expr × List C} (λ p. (p.0, map h p.1)) (map {A = Expr × List A} {B = Expr × List B} (λ p. (p.0, map g p.1)) xs) ≡ map {A = Expr × List A} {B = Expr × List C} (λ p. (p.0, map (λ x. h (g x)) p.1)) xs
  arms_twice [] = refl
  arms_twice (x ∷ xs) = λ i. (x.0, map_twice x.1 i) ∷ arms_twice xs i

-- ---- of texts

module _ (A A' B B' C C' : Type 0) (g : A → B) (g' : A' → B') (h : B → C) (h' : B' → C') where
  abbrev TextTwice : text.Stmt-F A A' → Type 0
  TextTwice x = source.map-Stmt B B' C C' h h' (source.map-Stmt A A' B B' g g' x) ≡ source.map-Stmt A A' C C' (λ a. h (g a)) (λ a. h' (g' a)) x

  pub text_twice : (x : text.Stmt-F A A') → TextTwice x
  text_twice (text.Stmt-F.Pass n) = refl
  text_twice (text.Stmt-F.Break n) = refl
  text_twice (text.Stmt-F.Continue n) = refl
  text_twice (text.Stmt-F.Return n e) = refl
  text_twice (text.Stmt-F.Raise n e) = refl
  text_twice (text.Stmt-F.Assert n e) = refl
  text_twice (text.Stmt-F.Del n a i) = refl
  text_twice (text.Stmt-F.Print n es) = refl
  text_twice (text.Stmt-F.Assign n ts e) = refl
  text_twice (text.Stmt-F.Aug n t op e) = refl
  text_twice (text.Stmt-F.Expr n e) = refl
  text_twice (text.Stmt-F.If n arms other) = λ i. text.Stmt-F.If n (arms_twice g h arms i) (map_twice g h other i)
  text_twice (text.Stmt-F.While n e body) = λ i. text.Stmt-F.While n e (map_twice g h body i)
  text_twice (text.Stmt-F.For n t e body) = λ i. text.Stmt-F.For n t e (map_twice g h body i)
  text_twice (text.Stmt-F.Try n body clauses other None) = λ i. text.Stmt-F.Try n (map_twice g h body i) (map_twice g' h' clauses i) (map_twice g h other i) None
  text_twice (text.Stmt-F.Try n body clauses other (Some last)) = λ i. text.Stmt-F.Try n (map_twice g h body i) (map_twice g' h' clauses i) (map_twice g h other i) (Some (map_twice g h last i))

  abbrev HeadTwice : text.Clause-F A A' → Type 0
  HeadTwice x = source_folds.map-Clause B B' C C' h h' (source_folds.map-Clause A A' B B' g g' x) ≡ source_folds.map-Clause A A' C C' (λ a. h (g a)) (λ a. h' (g' a)) x

  pub head_twice : (x : text.Clause-F A A') → HeadTwice x
  head_twice x = λ i. record { node = x.node; classes = x.classes; bare = x.bare; bind = x.bind; body = map_twice g h x.body i }

-- ---- of what is made

module _ (A A' A'' B B' B'' C C' C'' : Type 0) (g : A → B) (g' : A' → B') (g'' : A'' → B'') (h : B → C) (h' : B' → C') (h'' : B'' → C'') where
  abbrev ExprTwice : Expr-F A A' A'' → Type 0
  ExprTwice x = map-Expr B B' B'' C C' C'' h h' h'' (map-Expr A A' A'' B B' B'' g g' g'' x) ≡ map-Expr A A' A'' C C' C'' (λ a. h (g a)) (λ a. h' (g' a)) (λ a. h'' (g'' a)) x

  pub expr_twice : (x : Expr-F A A' A'') → ExprTwice x
  expr_twice (Expr-F.Local n i) = refl
  expr_twice (Expr-F.Constant n a) = refl
  expr_twice (Expr-F.Apply n value op es) = ap (λ xs. Expr-F.Apply n value op xs) (map_twice g h es)
  expr_twice (Expr-F.And n a b) = refl
  expr_twice (Expr-F.Or n a b) = refl
  expr_twice (Expr-F.Display n site ps) = ap (λ xs. Expr-F.Display n site xs) (pairs_twice g h ps)
  expr_twice (Expr-F.Comprehension n site item target subject None) = refl
  expr_twice (Expr-F.Comprehension n site item target subject (Some test)) = refl

  abbrev SubjectTwice : Subject-F A A' A'' → Type 0
  SubjectTwice x = map-Subject B B' B'' C C' C'' h h' h'' (map-Subject A A' A'' B B' B'' g g' g'' x) ≡ map-Subject A A' A'' C C' C'' (λ a. h (g a)) (λ a. h' (g' a)) (λ a. h'' (g'' a)) x

  pub subject_twice : (x : Subject-F A A' A'') → SubjectTwice x
  subject_twice (Subject-F.Over site e) = refl
  subject_twice (Subject-F.UpTo e) = refl
  subject_twice (Subject-F.FromTo a b step) = refl

  abbrev TargetTwice : Target-F A A' A'' → Type 0
  TargetTwice x = map-Target B B' B'' C C' C'' h h' h'' (map-Target A A' A'' B B' B'' g g' g'' x) ≡ map-Target A A' A'' C C' C'' (λ a. h (g a)) (λ a. h' (g' a)) (λ a. h'' (g'' a)) x

  pub target_twice : (x : Target-F A A' A'') → TargetTwice x
  target_twice (Target-F.Name n i) = refl
  target_twice (Target-F.Attr n e name) = refl
  target_twice (Target-F.Item n a i) = refl
  target_twice (Target-F.Parts n parts) = ap (λ xs. Target-F.Parts n xs) (map_twice g'' h'' parts)

module _ (A A' B B' C C' : Type 0) (g : A → B) (g' : A' → B') (h : B → C) (h' : B' → C') where
  abbrev StmtTwice : Stmt-F A A' → Type 0
  StmtTwice x = map-Stmt B B' C C' h h' (map-Stmt A A' B B' g g' x) ≡ map-Stmt A A' C C' (λ a. h (g a)) (λ a. h' (g' a)) x

  pub stmt_twice : (x : Stmt-F A A') → StmtTwice x
  stmt_twice (Stmt-F.Pass n) = refl
  stmt_twice (Stmt-F.Break n) = refl
  stmt_twice (Stmt-F.Continue n) = refl
  stmt_twice (Stmt-F.Return n e) = refl
  stmt_twice (Stmt-F.Do n e) = refl
  stmt_twice (Stmt-F.Assign n ts e) = refl
  stmt_twice (Stmt-F.Augment n t op e) = refl
  stmt_twice (Stmt-F.If n e body other) = λ i. Stmt-F.If n e (map_twice g h body i) (map_twice g h other i)
  stmt_twice (Stmt-F.While n e body) = ap (λ xs. Stmt-F.While n e xs) (map_twice g h body)
  stmt_twice (Stmt-F.For n t subject body) = ap (λ xs. Stmt-F.For n t subject xs) (map_twice g h body)
  stmt_twice (Stmt-F.Try n body cs other) = λ i. Stmt-F.Try n (map_twice g h body i) (map_twice g' h' cs i) (map_twice g h other i)
  stmt_twice (Stmt-F.Finally n body last) = λ i. Stmt-F.Finally n (map_twice g h body i) (map_twice g h last i)

  abbrev ClauseTwice : Clause-F A A' → Type 0
  ClauseTwice x = map-Clause B B' C C' h h' (map-Clause A A' B B' g g' x) ≡ map-Clause A A' C C' (λ a. h (g a)) (λ a. h' (g' a)) x

  pub clause_twice : (x : Clause-F A A') → ClauseTwice x
  clause_twice x = λ i. record { node = x.node; bare = x.bare; classes = x.classes; local = x.local; body = map_twice g h x.body i }

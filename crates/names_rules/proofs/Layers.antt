-- Layers of trees, part by part.
use Rattle.std.proofs.Common.{◌≡◌, List, [], ◌∷◌, Some, None, map, sym, ap, ◌∙◌, refl}
use Rattle.rpy_tree.specs.declared.syntax.Expr.{map-Expr}
use Rattle.rpy_tree.specs.declared.syntax.Expr.TheFolds.{map-Target}
use Rattle.rpy_tree.specs.declared.syntax.Expr.{Expr}
use Rattle.rpy_tree.specs.declared.syntax.Expr.TheOpen.{Expr-F, Target-F}
use Rattle.rpy_tree.specs.declared.syntax.Stmt.{map-Stmt}
use Rattle.rpy_tree.specs.declared.syntax.Stmt.TheFolds.{map-Clause}
use Rattle.rpy_tree.specs.declared.syntax.Stmt.TheOpen.{Stmt-F, Clause-F}

module _ {A B C : Type 0} (g : A → B) (h : B → C) where
  pub map_twice : (xs : List A) → map h (map g xs) ≡ map (λ x. h (g x)) xs
  map_twice [] = refl
  map_twice (x ∷ xs) = ap (λ ys. h (g x) ∷ ys) (map_twice xs)

  pub pairs_twice : (xs : List (A × A)) → map {A = B × B} {B = C × C} (λ p. (h p.0, h p.1)) (map {A = A × A} {B = B × B} (λ p. (g p.0, g p.1)) xs) ≡ map {A = A × A} {B = C × C} (λ p. (h (g p.0), h (g p.1))) xs
  pairs_twice [] = refl
  pairs_twice (x ∷ xs) = ap (λ ys. (h (g x.0), h (g x.1)) ∷ ys) (pairs_twice xs)

  pub arms_twice : (xs : List (Expr × List A)) → map {A = Expr × List B} {B = Expr × List C} (λ p. (p.0, map h p.1)) (map {A = Expr × List A} {B = Expr × List B} (λ p. (p.0, map g p.1)) xs) ≡ map {A = Expr × List A} {B = Expr × List C} (λ p. (p.0, map (λ x. h (g x)) p.1)) xs
  arms_twice [] = refl
  arms_twice (x ∷ xs) = λ i. (x.0, map_twice x.1 i) ∷ arms_twice xs i

module _ (A A' B B' C C' : Type 0) (g : A → B) (g' : A' → B') (h : B → C) (h' : B' → C') where
  abbrev ExprTwice : Expr-F A A' → Type 0
  ExprTwice x = map-Expr B B' C C' h h' (map-Expr A A' B B' g g' x) ≡ map-Expr A A' C C' (λ a. h (g a)) (λ a. h' (g' a)) x

  pub expr_twice : (x : Expr-F A A') → ExprTwice x
  expr_twice (Expr-F.Int n v) = refl
  expr_twice (Expr-F.Str n text) = refl
  expr_twice (Expr-F.Expr::Name n name) = refl
  expr_twice (Expr-F.Unary n op a) = refl
  expr_twice (Expr-F.Binary n op a b) = refl
  expr_twice (Expr-F.Compare n op a b) = refl
  expr_twice (Expr-F.Logic n is_and a b) = refl
  expr_twice (Expr-F.Not n a) = refl
  expr_twice (Expr-F.Call n f args) = ap (λ xs. Expr-F.Call n (h (g f)) xs) (map_twice g h args)
  expr_twice (Expr-F.Expr::Attr n a name) = refl
  expr_twice (Expr-F.Index n a i) = refl
  expr_twice (Expr-F.Slice n a None None) = refl
  expr_twice (Expr-F.Slice n a None (Some to)) = refl
  expr_twice (Expr-F.Slice n a (Some from) None) = refl
  expr_twice (Expr-F.Slice n a (Some from) (Some to)) = refl
  expr_twice (Expr-F.Expr::Tuple n items) = ap (λ xs. Expr-F.Expr::Tuple n xs) (map_twice g h items)
  expr_twice (Expr-F.List n items) = ap (λ xs. Expr-F.List n xs) (map_twice g h items)
  expr_twice (Expr-F.Dict n pairs) = ap (λ xs. Expr-F.Dict n xs) (pairs_twice g h pairs)
  expr_twice (Expr-F.Comp n item target over None) = refl
  expr_twice (Expr-F.Comp n item target over (Some test)) = refl

  abbrev TargetTwice : Target-F A A' → Type 0
  TargetTwice x = map-Target B B' C C' h h' (map-Target A A' B B' g g' x) ≡ map-Target A A' C C' (λ a. h (g a)) (λ a. h' (g' a)) x

  pub target_twice : (x : Target-F A A') → TargetTwice x
  target_twice (Target-F.Target::Name n name) = refl
  target_twice (Target-F.Target::Attr n a name) = refl
  target_twice (Target-F.Item n a i) = refl
  target_twice (Target-F.Target::Tuple n parts) = ap (λ xs. Target-F.Target::Tuple n xs) (map_twice g' h' parts)

  abbrev StmtTwice : Stmt-F A A' → Type 0
  StmtTwice x = map-Stmt B B' C C' h h' (map-Stmt A A' B B' g g' x) ≡ map-Stmt A A' C C' (λ a. h (g a)) (λ a. h' (g' a)) x

  pub stmt_twice : (x : Stmt-F A A') → StmtTwice x
  stmt_twice (Stmt-F.Pass n) = refl
  stmt_twice (Stmt-F.Break n) = refl
  stmt_twice (Stmt-F.Continue n) = refl
  stmt_twice (Stmt-F.Return n e) = refl
  stmt_twice (Stmt-F.Raise n e) = refl
  stmt_twice (Stmt-F.Assert n e) = refl
  stmt_twice (Stmt-F.Del n a i) = refl
  stmt_twice (Stmt-F.Print n es) = refl
  stmt_twice (Stmt-F.Assign n ts e) = refl
  stmt_twice (Stmt-F.Aug n t op e) = refl
  stmt_twice (Stmt-F.Expr n e) = refl
  stmt_twice (Stmt-F.If n arms other) = λ i. Stmt-F.If n (arms_twice g h arms i) (map_twice g h other i)
  stmt_twice (Stmt-F.While n e body) = λ i. Stmt-F.While n e (map_twice g h body i)
  stmt_twice (Stmt-F.For n t e body) = λ i. Stmt-F.For n t e (map_twice g h body i)
  stmt_twice (Stmt-F.Try n body clauses other None) = λ i. Stmt-F.Try n (map_twice g h body i) (map_twice g' h' clauses i) (map_twice g h other i) None
  stmt_twice (Stmt-F.Try n body clauses other (Some last)) = λ i. Stmt-F.Try n (map_twice g h body i) (map_twice g' h' clauses i) (map_twice g h other i) (Some (map_twice g h last i))

  abbrev ClauseTwice : Clause-F A A' → Type 0
  ClauseTwice x = map-Clause B B' C C' h h' (map-Clause A A' B B' g g' x) ≡ map-Clause A A' C C' (λ a. h (g a)) (λ a. h' (g' a)) x

  pub clause_twice : (x : Clause-F A A') → ClauseTwice x
  clause_twice x = λ i. record { node = x.node; classes = x.classes; bare = x.bare; bind = x.bind; body = map_twice g h x.body i }

-- two functions that agree on the parts agree on the layer
module _ (E T Y Y' A B : Type 0) (h : Y → E) (h' : Y' → T) (f g : E → A) (f' g' : T → B)
    (alike : (p : Y) → f (h p) ≡ g (h p)) (alike' : (p : Y') → f' (h' p) ≡ g' (h' p)) where
  pub expr_alike : (x : Expr-F E T) (y : Expr-F Y Y') → map-Expr Y Y' E T h h' y ≡ x → map-Expr E T A B f f' x ≡ map-Expr E T A B g g' x
  expr_alike x y is = sym (ap (map-Expr E T A B f f') is) ∙ expr_twice Y Y' E T A B h h' f f' y
      ∙ (λ i. map-Expr Y Y' A B (λ p. alike p i) (λ p. alike' p i) y)
      ∙ sym (expr_twice Y Y' E T A B h h' g g' y) ∙ ap (map-Expr E T A B g g') is

  pub target_alike : (x : Target-F E T) (y : Target-F Y Y') → map-Target Y Y' E T h h' y ≡ x → map-Target E T A B f f' x ≡ map-Target E T A B g g' x
  target_alike x y is = sym (ap (map-Target E T A B f f') is) ∙ target_twice Y Y' E T A B h h' f f' y
      ∙ (λ i. map-Target Y Y' A B (λ p. alike p i) (λ p. alike' p i) y)
      ∙ sym (target_twice Y Y' E T A B h h' g g' y) ∙ ap (map-Target E T A B g g') is

  pub stmt_alike : (x : Stmt-F E T) (y : Stmt-F Y Y') → map-Stmt Y Y' E T h h' y ≡ x → map-Stmt E T A B f f' x ≡ map-Stmt E T A B g g' x
  stmt_alike x y is = sym (ap (map-Stmt E T A B f f') is) ∙ stmt_twice Y Y' E T A B h h' f f' y
      ∙ (λ i. map-Stmt Y Y' A B (λ p. alike p i) (λ p. alike' p i) y)
      ∙ sym (stmt_twice Y Y' E T A B h h' g g' y) ∙ ap (map-Stmt E T A B g g') is

  pub clause_alike : (x : Clause-F E T) (y : Clause-F Y Y') → map-Clause Y Y' E T h h' y ≡ x → map-Clause E T A B f f' x ≡ map-Clause E T A B g g' x
  clause_alike x y is = sym (ap (map-Clause E T A B f f') is) ∙ clause_twice Y Y' E T A B h h' f f' y
      ∙ (λ i. map-Clause Y Y' A B (λ p. alike p i) (λ p. alike' p i) y)
      ∙ sym (clause_twice Y Y' E T A B h h' g g' y) ∙ ap (map-Clause E T A B g g') is

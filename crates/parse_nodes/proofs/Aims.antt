-- How many nodes of the target that an expression is have a number.
use Rattle.std.proofs.Common.{◌≡◌, ℕ, ◌+◌, List, [], ◌∷◌, map, refl, sym, ap, ◌∙◌}
use Rattle.rpy_tree.specs.declared.syntax.Expr.{Expr, map-Expr, para-roll-Expr}
use Rattle.rpy_tree.specs.declared.syntax.Expr.TheOpen.{Expr-F}
use Rattle.rpy_tree.specs.declared.syntax.Expr.TheVariants as e
use Rattle.rpy_tree.specs.declared.syntax.Expr.TheViews as views
use Rattle.rpy_tree.specs.declared.syntax.Target.{Target}
use Rattle.rpy_tree.specs.declared.syntax.Target.TheVariants as target
use Rattle.rpy_parse.specs.Build.{goal_of, target_step, no_step}
use Rattle.resolver_names.specs.Nodes.{node_at, nodes, target_nodes}
use Rattle.parse_nodes.proofs.Counts.{target_name_nodes, target_attr_nodes, target_item_nodes, target_tuple_nodes}
use Rattle.parse_nodes.proofs.Weights.{aim, aims, targets}

-- ---- targets, case by case

of_layer : (x : Expr-F Expr Target) {a : Expr} → views.roll-Expr x ≡ a
    → goal_of a ≡ target_step (map-Expr Expr Target (Expr × Target) (Target × Unit {0}) (λ b. (b, goal_of b)) (λ g. (g, tt)) x)
of_layer x is = ap goal_of (sym is) ∙ para-roll-Expr Target (Unit {0}) target_step no_step x

seconds : (xs : List Expr) → map (λ (p : Expr × Target). p.1) (map (λ y. (y, goal_of y)) xs) ≡ map goal_of xs
seconds [] = refl
seconds (x ∷ xs) = ap (λ (w : List Target). goal_of x ∷ w) (seconds xs)

goal_name : (n : ℕ) (x : List ℕ) → goal_of (e.Name n x) ≡ target.Name n x
goal_name n x = of_layer (Expr-F.Expr::Name n x) (views.rolls-Expr::Name n x)

goal_attr : (n : ℕ) (a : Expr) (x : List ℕ) → goal_of (e.Attr n a x) ≡ target.Attr n a x
goal_attr n a x = of_layer (Expr-F.Expr::Attr n a x) (views.rolls-Expr::Attr n a x)

goal_index : (n : ℕ) (a i : Expr) → goal_of (e.Index n a i) ≡ target.Item n a i
goal_index n a i = of_layer (Expr-F.Index n a i) (views.rolls-Index n a i)

goal_tuple : (n : ℕ) (xs : List Expr) → goal_of (e.Tuple n xs) ≡ target.Tuple n (map goal_of xs)
goal_tuple n xs =
    of_layer (Expr-F.Expr::Tuple n xs) (views.rolls-Expr::Tuple n xs) ∙ ap (λ (w : List Target). target.Tuple n w) (seconds xs)

-- ---- their nodes

module _ (k : ℕ) where
  aims_are : (xs : List Expr) → targets k (map goal_of xs) ≡ aims k xs
  aims_are [] = refl
  aims_are (x ∷ xs) = ap (λ t. aim k x + t) (aims_are xs)

  pub name_aim : (n : ℕ) (x : List ℕ) → aim k (e.Name n x) ≡ node_at k 0 n
  name_aim n x = ap (target_nodes k 0) (goal_name n x) ∙ target_name_nodes k n x

  pub attr_aim : (n : ℕ) (a : Expr) (x : List ℕ) → aim k (e.Attr n a x) ≡ node_at k 0 n + nodes k 0 a
  attr_aim n a x = ap (target_nodes k 0) (goal_attr n a x) ∙ target_attr_nodes k n a x

  pub index_aim : (n : ℕ) (a i : Expr) → aim k (e.Index n a i) ≡ node_at k 0 n + nodes k 0 a + nodes k 0 i
  index_aim n a i = ap (target_nodes k 0) (goal_index n a i) ∙ target_item_nodes k n a i

  pub tuple_aim : (n : ℕ) (xs : List Expr) → aim k (e.Tuple n xs) ≡ node_at k 0 n + aims k xs
  tuple_aim n xs = ap (target_nodes k 0) (goal_tuple n xs) ∙ target_tuple_nodes k n (map goal_of xs) ∙ ap (λ t. node_at k 0 n + t) (aims_are xs)

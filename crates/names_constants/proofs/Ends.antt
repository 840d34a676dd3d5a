-- The items of an expression end with its own, which waits for what takes it.
use Rattle.std.proofs.Common.{[], ◌∷◌, ◌++◌, sym, subst}
use Rattle.rpy_tree.specs.declared.syntax.Expr.{Expr, fold-roll-Expr, map-Expr, ind-Expr}
use Rattle.rpy_tree.specs.declared.syntax.Expr.TheOpen.{Expr-F}
use Rattle.rpy_tree.specs.declared.syntax.Target.{Target}
use Rattle.names_rules.specs.Order as order
use Rattle.names_rules.specs.Order.{Item, Items, Done, For, Multiply, Clause_of, Elif, Caught, CaughtOf, CaughtEnd, Catch}
use Rattle.names_rules.specs.Parts.{expr_parts, expr_item}
use Rattle.names_rules.proofs.Runs.{in_expr_parts}

abbrev pub Pushes : Item → Type 0
Pushes (Done count) = ⊥
Pushes For = ⊥
Pushes Multiply = ⊥
Pushes Clause_of = ⊥
Pushes Elif = ⊥
Pushes (Caught name) = ⊥
Pushes (CaughtOf name) = ⊥
Pushes CaughtEnd = ⊥
Pushes (Catch name) = ⊥
Pushes i = Unit {0}

abbrev pub IsEnd : Items → Type 0
IsEnd [] = ⊥
IsEnd (i ∷ []) = Pushes i
IsEnd (i ∷ j ∷ is) = IsEnd (j ∷ is)

ends_with : (xs : Items) (i : Item) → Pushes i → IsEnd (xs ++ i ∷ [])
ends_with [] i h = h
ends_with (x ∷ []) i h = h
ends_with (x ∷ y ∷ xs) i h = ends_with (y ∷ xs) i h

pushes : {X : Type 0} (x : Expr-F X X) → Pushes (expr_item x)
pushes (Expr-F.Int n v) = tt
pushes (Expr-F.Str n text) = tt
pushes (Expr-F.Expr::Name n name) = tt
pushes (Expr-F.Unary n op a) = tt
pushes (Expr-F.Binary n op a b) = tt
pushes (Expr-F.Compare n op a b) = tt
pushes (Expr-F.Logic n is_and a b) = tt
pushes (Expr-F.Not n a) = tt
pushes (Expr-F.Call n f args) = tt
pushes (Expr-F.Expr::Attr n a name) = tt
pushes (Expr-F.Index n a i) = tt
pushes (Expr-F.Slice n a from to) = tt
pushes (Expr-F.Expr::Tuple n items) = tt
pushes (Expr-F.List n items) = tt
pushes (Expr-F.Dict n pairs) = tt
pushes (Expr-F.Comp n item target over test) = tt

layer_ends : (x : Expr-F Items Items) → IsEnd (order.in_expr x)
layer_ends x = subst IsEnd (sym (in_expr_parts x)) (ends_with (order.all (expr_parts x)) (expr_item x) (pushes x))

pub expr_ends : (e : Expr) → IsEnd (order.expr e)
expr_ends = ind-Expr (λ e. IsEnd (order.expr e)) (λ t. Unit {0})
    (λ x y is. subst IsEnd (sym (fold-roll-Expr Items Items order.in_expr order.in_target x)) (layer_ends (map-Expr Expr Target Items Items order.expr order.target x)))
    (λ x y is. tt)

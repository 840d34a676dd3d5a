-- Two visits of one tree, side by side: what relates them at each node relates them.
use Rattle.std.proofs.Common.{◌≡◌, List, map, sym, refl, subst}
use Rattle.rpy_tree.specs.declared.syntax.Expr.{Expr, fold-Expr, map-Expr}
use Rattle.rpy_tree.specs.declared.syntax.Expr.TheFolds.{map-Target}
use Rattle.rpy_tree.specs.declared.syntax.Expr.TheOpen.{Expr-F, Target-F}
use Rattle.names_rules.specs.Order.{Item}
use Rattle.names_rules.specs.Parts.{expr_parts, target_parts, expr_item, target_item}
use Rattle.names_rules.proofs.Fusion.{expr_fuses}
use Rattle.names_rules.proofs.Runs.{expr_parts_mapped, target_parts_mapped, expr_item_mapped, target_item_mapped}
use Rattle.names_constants.specs.Value.{Piece, Kept}
use Rattle.names_constants.specs.Visit as visit

abbrev pub Visit : Type 0
Visit = Kept → Piece × Kept

module _ (at_V at_W : Item → List Piece → Kept → Piece × Kept) (Related : Visit → Visit → Type 0) where
  pub record Both : Type 0 where
    pub left : Visit
    pub right : Visit
    pub related : Related left right

  -- a node and its parts, on each side
  abbrev pub left_at : Item → List Both → Visit
  left_at i bs k = visit.node_after Piece Kept at_V i (visit.parts Piece Kept at_V (map (λ b. b.left) bs) k)

  abbrev pub right_at : Item → List Both → Visit
  right_at i bs k = visit.node_after Piece Kept at_W i (visit.parts Piece Kept at_W (map (λ b. b.right) bs) k)

  abbrev lefts : Expr-F Both Both → Expr-F Visit Visit
  lefts x = map-Expr Both Both Visit Visit (λ b. b.left) (λ b. b.left) x

  abbrev rights : Expr-F Both Both → Expr-F Visit Visit
  rights x = map-Expr Both Both Visit Visit (λ b. b.right) (λ b. b.right) x

  abbrev target_lefts : Target-F Both Both → Target-F Visit Visit
  target_lefts x = map-Target Both Both Visit Visit (λ b. b.left) (λ b. b.left) x

  abbrev target_rights : Target-F Both Both → Target-F Visit Visit
  target_rights x = map-Target Both Both Visit Visit (λ b. b.right) (λ b. b.right) x

  as_left : (x : Expr-F Both Both) → left_at (expr_item x) (expr_parts x) ≡ visit.in_expr Piece Kept at_V (lefts x)
  as_left x = λ j k. visit.node_after Piece Kept at_V (sym (expr_item_mapped (λ b. b.left) x) j) (visit.parts Piece Kept at_V (sym (expr_parts_mapped (λ b. b.left) x) j) k)

  as_right : (x : Expr-F Both Both) → right_at (expr_item x) (expr_parts x) ≡ visit.in_expr Piece Kept at_W (rights x)
  as_right x = λ j k. visit.node_after Piece Kept at_W (sym (expr_item_mapped (λ b. b.right) x) j) (visit.parts Piece Kept at_W (sym (expr_parts_mapped (λ b. b.right) x) j) k)

  target_as_left : (x : Target-F Both Both) → left_at (target_item x) (target_parts x) ≡ visit.in_target Piece Kept at_V (target_lefts x)
  target_as_left x = λ j k. visit.node_after Piece Kept at_V (sym (target_item_mapped (λ b. b.left) x) j) (visit.parts Piece Kept at_V (sym (target_parts_mapped (λ b. b.left) x) j) k)

  target_as_right : (x : Target-F Both Both) → right_at (target_item x) (target_parts x) ≡ visit.in_target Piece Kept at_W (target_rights x)
  target_as_right x = λ j k. visit.node_after Piece Kept at_W (sym (target_item_mapped (λ b. b.right) x) j) (visit.parts Piece Kept at_W (sym (target_parts_mapped (λ b. b.right) x) j) k)

  moved : (v v' w w' : Visit) → v ≡ v' → w ≡ w' → Related v w → Related v' w'
  moved v v' w w' e f h = subst (λ (x : Visit). Related x w') e (subst (λ (y : Visit). Related v y) f h)

  module _ (node : (x : Expr-F Both Both) → Related (left_at (expr_item x) (expr_parts x)) (right_at (expr_item x) (expr_parts x)))
      (target_node : (x : Target-F Both Both) → Related (left_at (target_item x) (target_parts x)) (right_at (target_item x) (target_parts x))) where
    abbrev in_both : Expr-F Both Both → Both
    in_both x = record { left = visit.in_expr Piece Kept at_V (lefts x); right = visit.in_expr Piece Kept at_W (rights x); related = moved _ _ _ _ (as_left x) (as_right x) (node x) }

    abbrev target_in_both : Target-F Both Both → Both
    target_in_both x = record { left = visit.in_target Piece Kept at_V (target_lefts x); right = visit.in_target Piece Kept at_W (target_rights x); related = moved _ _ _ _ (target_as_left x) (target_as_right x) (target_node x) }

    abbrev both : Expr → Both
    both e = fold-Expr Both Both in_both target_in_both e

    left_is : (e : Expr) → (both e).left ≡ visit.expr Piece Kept at_V e
    left_is e = expr_fuses Both Both Visit Visit (λ b. b.left) (λ b. b.left) in_both target_in_both (visit.in_expr Piece Kept at_V) (visit.in_target Piece Kept at_V) (λ x. refl) (λ x. refl) e

    right_is : (e : Expr) → (both e).right ≡ visit.expr Piece Kept at_W e
    right_is e = expr_fuses Both Both Visit Visit (λ b. b.right) (λ b. b.right) in_both target_in_both (visit.in_expr Piece Kept at_W) (visit.in_target Piece Kept at_W) (λ x. refl) (λ x. refl) e

    pub visits_related : (e : Expr) → Related (visit.expr Piece Kept at_V e) (visit.expr Piece Kept at_W e)
    visits_related e = moved (both e).left _ (both e).right _ (left_is e) (right_is e) (both e).related

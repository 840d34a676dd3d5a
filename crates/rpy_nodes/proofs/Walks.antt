-- The walk over a dict display.
use Rattle.std.proofs.Common.{◌≡◌, ℕ, List, sym, ap, ◌∙◌, length, map, refl}
use Rattle.std.proofs.lemmas.List.{length-map}
use Rattle.rpy_tree.specs.declared.syntax.Expr.{Expr, fold-roll-Expr}
use Rattle.rpy_tree.specs.declared.syntax.Expr.TheVariants as e
use Rattle.rpy_tree.specs.declared.syntax.Expr.TheOpen.{Expr-F}
use Rattle.rpy_tree.specs.declared.syntax.Target.{Target}
use Rattle.rpy_nodes.specs.declared.event.Act.TheVariants as act
use Rattle.rpy_nodes.specs.declared.walk.Walk.{Walk}
use Rattle.rpy_nodes.specs.Walk.{push, pairs, expr, expr_step, target_step}

pub walk_dict : (n : ℕ) (ps : List (Expr × Expr)) (w : Walk) → expr (e.Dict n ps) w ≡ push (act.Dict (length ps)) (pairs ps w)
walk_dict n ps w = ap (λ f. f w) (ap expr (sym (e.rolls-Dict n ps)) ∙ fold-roll-Expr (Walk → Walk) (Walk → Walk) expr_step target_step (Expr-F.Dict n ps)) ∙ simp length-map

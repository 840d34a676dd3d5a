-- The rules for targets.
use Rattle.std.proofs.Common.{ℕ, arith}
use Rattle.rpy_tree.specs.declared.syntax.Expr.{Expr}
use Rattle.rpy_parse.specs.declared.found.Aimed.{Aimed}
use Rattle.rpy_parse.specs.declared.found.Aims.{Aims}
use Rattle.rpy_parse.specs.declared.found.Got.{Got}
use Rattle.rpy_parse.specs.Build.{Lines, text, indexed}
use Rattle.rpy_parse.specs.Shapes.{Goal, GoalRest, GoalList, GoalListRest, OneGoal, GoalPart, PlaceRest, OtherRest, PlaceSubscript, PlaceSubscriptRest}
use Rattle.parse_nodes.proofs.Kept.{Keeps}
use Rattle.parse_nodes.proofs.Held.{held_tree, held_placed, goal_held}
use Rattle.parse_nodes.proofs.Trees.{name_grows, index_grows, aimed_grows, more_aims_grows, tuple_of_targets_grows}

module _ (k : ℕ) where
  pub goal_keeps : (n : Lines) → Keeps k Goal n
  goal_keeps n = λ a p v q. omega (arith, p, q)

  pub goal_rest_keeps : (a : Aimed) → Keeps k GoalRest a
  goal_rest_keeps a = (λ t xs p. omega (arith, p, tuple_of_targets_grows k xs), omega arith)

  pub goal_list_keeps : (x : Aims) → Keeps k GoalList x
  goal_list_keeps x = (λ y p v q. omega (arith, p, q), omega arith)

  pub goal_list_rest_keeps : (x : Aims) → Keeps k GoalListRest x
  goal_list_rest_keeps x = (λ t v p. p, omega arith)

  pub one_goal_keeps : (x : Aims) → Keeps k OneGoal x
  one_goal_keeps x = λ a p. omega (arith, p, more_aims_grows k x.targets x.line a)

  pub goal_part_keeps : (n : Lines) → Keeps k GoalPart n
  goal_part_keeps n = (λ t v p. omega (arith, p, name_grows k n t.line (text t)), λ a p v q. omega (arith, p, q))

  pub place_rest_keeps : (a : Got) → Keeps k PlaceRest a
  place_rest_keeps a =
      let h = held_placed k a in
      (λ t b p v q. omega (arith, p, q, h), (λ t b p v q. omega (arith, p, q, h), (λ t v p. omega (arith, p, h), aimed_grows k a)))

  pub other_rest_keeps : (a : Got) → Keeps k OtherRest a
  other_rest_keeps a =
      (λ t b p v q. omega (arith, p, q), (λ t b p v q. omega (arith, p, q), (λ t v p. p, λ g. omega (arith, aimed_grows k a, goal_held k a g))))

  pub place_subscript_keeps : (a : Got) → Keeps k PlaceSubscript a
  place_subscript_keeps a = (λ t b p v q. omega (arith, p, q, held_tree k a), λ i p v q. omega (arith, p, q, held_tree k a))

  pub place_subscript_rest_keeps : (x : Expr × ℕ × Got) → Keeps k PlaceSubscriptRest x
  place_subscript_rest_keeps x =
      (λ t v p. omega (arith, p, held_tree k x.2, index_grows k (indexed x.0 x.1 x.2)), λ t b p v q. omega (arith, p, q, held_tree k x.2))

-- An expression weighs at least as much as its tree, and where it is a target, at least as much as that.
use Rattle.std.proofs.Common.{◌≡◌, ℕ, ◌≤◌, Bool, true, List, refl}
use Rattle.std.specs.Prelude.{◌||◌}
use Rattle.rpy_tree.specs.declared.syntax.Expr.{Expr}
use Rattle.rpy_parse.specs.declared.found.Got.{Got}
use Rattle.rpy_parse.specs.declared.found.Listed.{Listed}
use Rattle.resolver_names.specs.Nodes.{nodes}
use Rattle.parse_nodes.proofs.Most.{most_first, most_second, most_least, either_first, either_second}
use Rattle.parse_nodes.proofs.Weights.{aim, exprs, aims, held, placed, list_held}

module _ (k : ℕ) where
  -- ---- expressions

  pub held_tree : (a : Got) → nodes k 0 a.tree ≤ held k a
  unfolding held
  held_tree a = most_first (a.goal || a.place) (nodes k 0 a.tree) (aim k a.tree)

  held_flag : (a : Got) → (a.goal || a.place) ≡ true → aim k a.tree ≤ held k a
  unfolding held
  held_flag a h = most_second (a.goal || a.place) (nodes k 0 a.tree) (aim k a.tree) h

  pub held_aim : (a : Got) → a.goal ≡ true → aim k a.tree ≤ held k a
  held_aim a h = held_flag a (either_first a.goal a.place h)

  pub held_least : (a : Got) (n : ℕ) → nodes k 0 a.tree ≤ n → ((a.goal || a.place) ≡ true → aim k a.tree ≤ n) → held k a ≤ n
  unfolding held
  held_least a n h i = most_least (a.goal || a.place) (nodes k 0 a.tree) (aim k a.tree) n h i

  -- ---- targets

  placed_tree : (a : Got) → nodes k 0 a.tree ≤ placed k a
  unfolding placed
  placed_tree a = most_first true (nodes k 0 a.tree) (aim k a.tree)

  pub placed_aim : (a : Got) → aim k a.tree ≤ placed k a
  unfolding placed
  placed_aim a = most_second true (nodes k 0 a.tree) (aim k a.tree) refl

  pub placed_least : (a : Got) (n : ℕ) → nodes k 0 a.tree ≤ n → aim k a.tree ≤ n → placed k a ≤ n
  unfolding placed
  placed_least a n h i = most_least true (nodes k 0 a.tree) (aim k a.tree) n h (λ _. i)

  pub held_placed : (a : Got) → held k a ≤ placed k a
  held_placed a = held_least a (placed k a) (placed_tree a) (λ _. placed_aim a)

  -- an expression that is a target as well
  pub goal_held : (a : Got) → a.goal ≡ true → placed k a ≤ held k a
  goal_held a h = placed_least a (held k a) (held_tree a) (held_aim a h)

  pub place_held : (a : Got) → a.place ≡ true → placed k a ≤ held k a
  place_held a h = placed_least a (held k a) (held_tree a) (held_flag a (either_second a.goal a.place h))

  -- ---- lists

  pub list_trees : (goal : Bool) (xs : List Expr) → exprs k xs ≤ list_held k goal xs
  unfolding list_held
  list_trees goal xs = most_first goal (exprs k xs) (aims k xs)

  pub list_aims : (goal : Bool) (xs : List Expr) → goal ≡ true → aims k xs ≤ list_held k goal xs
  unfolding list_held
  list_aims goal xs h = most_second goal (exprs k xs) (aims k xs) h

  pub list_least : (x : Listed) (n : ℕ) → exprs k x.trees ≤ n → (x.goal ≡ true → aims k x.trees ≤ n) → list_held k x.goal x.trees ≤ n
  unfolding list_held
  list_least x n h i = most_least x.goal (exprs k x.trees) (aims k x.trees) n h i

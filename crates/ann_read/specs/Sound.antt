-- What is asked of the trees of a program where annotations are read at their nodes.
use Rattle.std.specs.Prelude.{◌≡◌, ℕ, List, length, slice_get, Some}
use Rattle.flow_trees.specs.Tree.{Function}
use Rattle.ann_rules.specs.Program.{Whole, Callee}
use Rattle.ann_read.specs.Plain.{AllReturnPlainly}
use Rattle.ann_read.specs.Reading.{HaveOwnNodes}

-- callees have the functions' counts of parameters, no function gives back a narrowing, and no node has its value in two functions
pub record AreSound (p : Whole) (functions : List Function) : Type 0 where
  pub callees : (f : ℕ) (function : Function) → slice_get functions f ≡ Some function
      → (c : Callee) × (slice_get p.callees f ≡ Some c) × (length c.defaults ≡ length function.defaults) × (c.star ≡ function.takes_more)
  pub plain : (f : ℕ) (function : Function) → slice_get functions f ≡ Some function → AllReturnPlainly function.body
  pub own : HaveOwnNodes functions

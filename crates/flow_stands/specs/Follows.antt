-- What it is that a run of graphs is that of their program.
use Rattle.std.specs.Prelude.{◌≡◌, ℕ, ◌<◌, ◌≤◌, true, List, sum_by}
use Rattle.rpy_tree.specs.Value.{Value, Fun}
use Rattle.rpy_meaning.specs.Tree.{Program}
use Rattle.rpy_meaning.specs.Classes.{is_below}
use Rattle.rpy_meaning.specs.Operations.{builtin_classes}
use Rattle.rpy_meaning.specs.Meaning.{Run}
use Rattle.rpy_meaning.specs.Moments.{held_by, references_of}

-- the builtin exception classes stand below `Exception`, the first of them
abbrev pub HasBuiltins : Program → Type 0
HasBuiltins p = (class : ℕ) → class < builtin_classes → is_below p.classes class 0 ≡ true

-- it ends in the same way, with the same objects, the same output and as many steps left
abbrev pub EndsLike : Run → Run → Type 0
EndsLike q r = (q.outcome ≡ r.outcome) × (q.world ≡ r.world)

-- these values hold no more than those: whatever each value weighs, where functions weigh nothing
abbrev pub HoldsNoMore : List Value → List Value → Type 0
HoldsNoMore vs us = (weight : Value → ℕ) → ((f : ℕ) → weight (Fun f) ≡ 0) → sum_by weight vs ≤ sum_by weight us

-- what a run uses where it is stopped holds no more: of any value, of objects, strings and tuples together, and of references
pub record UsesNoMore (p : Program) (q r : Run) : Type 0 where
  pub values : HoldsNoMore q.held r.held
  pub held : held_by p q ≤ held_by p r
  pub references : references_of p q ≤ references_of p r

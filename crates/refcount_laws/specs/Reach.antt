-- How counts speak of an uncounted heap: what the references of a block that is there name, its cells there name, and what is owned
-- stands in the roots.
use Rattle.std.specs.Prelude.{◌<◌, ◌≤◌, ℕ, List, Option}
use Rattle.csub_tree.specs.State.{Value, Ptr, Block}
use Rattle.ll_held.specs.Held.{times, references as references_of, cells_at, Refers}
use Rattle.refcount_laws.specs.Graphs.{Counts}
use Rattle.refcount_laws.specs.Ghost.{Slot, count, bare_at, occurs, references}

-- what a block that is there refers to, it refers to in the uncounted heap, and has no more references than cells there have
pub record Mirrors (c : Counts) (g : List Slot) (blocks : List (Option Block)) : Type 0 where
  pub edges : (a b : ℕ) → 0 < count g a → 0 < occurs (Ptr b) (references c (bare_at g a)) → Refers blocks a b
  pub fewer : (a : ℕ) (r : Value) → 0 < count g a → occurs r (references c (bare_at g a)) ≤ references_of (cells_at blocks a)

-- what is owned stands in the roots, as often at least
pub record Owns (own : Value → ℕ) (roots : List Value) : Type 0 where
  pub named : (b : ℕ) → 0 < own (Ptr b) → 0 < times b roots
  pub fewer : (r : Value) → own r ≤ references_of roots

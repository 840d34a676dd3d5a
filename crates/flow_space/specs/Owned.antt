-- The variables that blocks use so far.
use Rattle.std.specs.Prelude.{◌≡◌, ℕ, ◌<◌, List, slice_get, Some, Contains}
use Rattle.flow_graph.specs.declared.graph.Block.{Block}
use Rattle.flow_graph.specs.Owners.{variables_of}

-- no variable from `next` on stands in a block
abbrev pub LieBelow : ℕ → List Block → Type 0
LieBelow next blocks = (i v : ℕ) (b : Block) → slice_get blocks i ≡ Some b → Contains (variables_of b) v → v < next

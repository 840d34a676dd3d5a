-- The variables of blocks: no two blocks of a graph share one.
use Rattle.std.specs.Prelude.{◌≡◌, ℕ, List, ◌++◌, map, slice_get, Some, Contains}
use Rattle.flow_graph.specs.declared.graph.Block.{Block}
use Rattle.flow_graph.specs.declared.graph.Op.{Op}

-- the results of operations
abbrev pub results : List Op → List ℕ
results ops = map (λ op. op.result) ops

abbrev pub variables_of : Block → List ℕ
variables_of b = b.inputs ++ results b.ops

-- a variable that stands in two blocks stands in one: their numbers are the same
abbrev pub HaveOwnVariables : List Block → Type 0
HaveOwnVariables blocks = (i j v : ℕ) (b c : Block) → slice_get blocks i ≡ Some b → slice_get blocks j ≡ Some c → Contains (variables_of b) v → Contains (variables_of c) v → i ≡ j

-- Where a cell stands.
use Rattle.std.specs.Prelude.{◌≡◌, ℕ, List, [], slice_get, unwrap_or, option_map, Option, Some, None}
use Rattle.flow_graph.specs.declared.graph.Graph.{Graph}
use Rattle.flow_graph.specs.declared.graph.Block.{Block}
use Rattle.flow_graph.specs.declared.graph.Op.{Op}
use Rattle.ann_needs.specs.declared.plan.Plan.{Plan}
use Rattle.ann_rules.specs.Program.{Whole}
use Rattle.ann_needs.specs.View.{row_of, whole}
use Rattle.ann_shown.specs.declared.place.Place.{Place}
use Rattle.ann_shown.specs.declared.place.Place.TheVariants as place

abbrev pub names_of : List (List (List ℕ × ℕ)) → ℕ → List (List ℕ × ℕ)
names_of rows n = unwrap_or (slice_get rows n) []

-- the cell of a name
abbrev pub named_cell : Option (List ℕ × ℕ) → Option ℕ
named_cell o = option_map (λ entry. entry.1) o

abbrev pub ops_of : Option Block → List Op
ops_of None = []
ops_of (Some block) = block.ops

abbrev pub blocks_of : Option Graph → List Block
blocks_of None = []
blocks_of (Some graph) = graph.blocks

-- the operation at a place of a block
abbrev pub op_at : List Block → ℕ × ℕ → Option Op
op_at blocks at = slice_get (ops_of (slice_get blocks at.0)) at.1

-- the cell of the result of an operation
abbrev pub result_cell : Whole → ℕ → Option Op → Option ℕ
result_cell p g o = option_map (λ op. p.places.variable g op.result) o

-- what stands at this place has the cell
abbrev pub IsPlace : Plan → ℕ → Place → Type 0
IsPlace p c (place.Param f i) = slice_get (row_of p.places.params f) i ≡ Some c
IsPlace p c (place.Result f) = slice_get p.places.results f ≡ Some c
IsPlace p c (place.Attribute class i) = named_cell (slice_get (names_of p.places.attributes class) i) ≡ Some c
IsPlace p c (place.Item s) = slice_get p.places.items s ≡ Some c
IsPlace p c (place.Key s) = slice_get p.places.keys s ≡ Some c
IsPlace p c (place.Op g n i) = result_cell (whole p) g (op_at (blocks_of (slice_get p.graphs.graphs g)) (n, i)) ≡ Some c

-- the former, or else the latter
abbrev pub first : Option Place → Option Place → Option Place
first None b = b
first (Some x) b = Some x

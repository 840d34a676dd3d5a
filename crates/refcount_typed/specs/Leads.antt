-- References lead to root structs, and blocks of which references are written stand in variables of their roots: only roots have graphs
-- that count.
use Rattle.std.specs.Prelude.{◌≡◌, ℕ, ◌&&◌, Bool, true, List, [], ◌∷◌, Option, Some, None, slice_get}
use Rattle.ll_code.specs.declared.program.LlType.{LlType}
use Rattle.ll_code.specs.declared.program.LlType.TheVariants as type
use Rattle.ll_code.specs.declared.program.LlOp.{LlOp}
use Rattle.ll_code.specs.declared.program.LlOp.TheVariants as op
use Rattle.ll_code.specs.declared.program.LlBlock.{LlBlock}
use Rattle.ll_code.specs.declared.program.LlGraph.{LlGraph}
use Rattle.ll_code.specs.declared.program.LlProgram.{LlProgram}
use Rattle.ll_code.specs.Typed.{has_type}
use Rattle.refcount_transform.specs.Plan.{Plan, plan_of, root_of, referred, field_referred, items_referred}
use Rattle.refcount_laws.specs.Made.{is_root_given, all_lead, leads_to_roots}

-- where what is written is a reference, the block stands in a variable of its root
abbrev pub stands_in_root : Plan → List LlType → ℕ → ℕ → Option ℕ → Bool
stands_in_root plan types n b None = true
stands_in_root plan types n b (Some m) = has_type (type.Ptr (root_of plan n)) (slice_get types b)

abbrev pub op_leads : Plan → List LlType → LlOp → Bool
op_leads plan types (op.SetField n b k x) = stands_in_root plan types n b (field_referred plan n k)
op_leads plan types (op.SetItem n b i x) = stands_in_root plan types n b (items_referred plan n)
op_leads plan types (op.NewArray a m n x) = stands_in_root plan types n a (items_referred plan n)
op_leads plan types (op.CallFn into result params b xs) = all_lead plan params
op_leads plan types other = true

abbrev pub ops_lead : Plan → List LlType → List LlOp → Bool
ops_lead plan types [] = true
ops_lead plan types (o ∷ ops) = op_leads plan types o && ops_lead plan types ops

abbrev pub blocks_lead : Plan → List LlType → List LlBlock → Bool
blocks_lead plan types [] = true
blocks_lead plan types (block ∷ blocks) = ops_lead plan types block.ops && blocks_lead plan types blocks

abbrev pub graph_leads : Plan → LlGraph → Bool
graph_leads plan graph = all_lead plan graph.types && is_root_given plan (referred plan graph.result) && blocks_lead plan graph.types graph.blocks

abbrev pub graphs_lead : Plan → List LlGraph → Bool
graphs_lead plan [] = true
graphs_lead plan (graph ∷ graphs) = graph_leads plan graph && graphs_lead plan graphs

abbrev pub LeadsToRoots : LlProgram → Type 0
LeadsToRoots p = (leads_to_roots p && graphs_lead (plan_of p) p.graphs) ≡ true

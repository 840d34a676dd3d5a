-- A test of a program, beside its types, that lets its references be counted.
use Rattle.std.specs.Prelude.{ℕ, ◌==◌, ◌&&◌, ◌||◌, ◌^◌, not, nat_lt, Bool, true, false, List, [], ◌∷◌, length, slice_get, Option, Some, None, is_some, is_none}
use Rattle.csub_tree.specs.declared.tree.COperand.{COperand}
use Rattle.csub_tree.specs.declared.tree.COperand.TheVariants.{Var}
use Rattle.ll_code.specs.declared.program.LlType.{LlType}
use Rattle.ll_code.specs.declared.program.LlOp.{LlOp}
use Rattle.ll_code.specs.declared.program.LlOp.TheVariants as op
use Rattle.ll_code.specs.declared.program.LlBlock.{LlBlock}
use Rattle.ll_code.specs.declared.program.LlGraph.{LlGraph}
use Rattle.ll_code.specs.declared.program.LlProgram.{LlProgram}
use Rattle.ll_live.specs.Live.{among, reads, set_by}
use Rattle.refcount_transform.specs.Plan.{Plan, plan_of, reference_given, items_referred, place_of}
use Rattle.refcount_transform.specs.Changes.{around_of, var_referred}
use Rattle.refcount_laws.specs.Leaves.{are_apart}

-- as many references may be given at once
abbrev pub most : ℕ
most = 2 ^ 62

-- no reference that is read is set
abbrev pub sets_unread : Plan → List LlType → LlOp → Option ℕ → Bool
sets_unread plan types o None = true
sets_unread plan types o (Some a) = not (is_some (var_referred (around_of plan types) a) && among a (reads o))

abbrev pub result_of : Option LlGraph → Option LlType
result_of None = None
result_of (Some graph) = Some graph.result

-- no reference that is given back is dropped, and not too many operands are given
abbrev pub call_countable : Plan → Option ℕ → Option LlType → List COperand → Bool
call_countable plan (Some a) result xs = nat_lt (length xs) most
call_countable plan None result xs = is_none (reference_given plan.counted result) && nat_lt (length xs) most

abbrev pub calls_countable : Plan → List LlGraph → LlOp → Bool
calls_countable plan graphs (op.Call into f xs) = call_countable plan into (result_of (slice_get graphs f)) xs
calls_countable plan graphs (op.CallFn into result params b xs) = call_countable plan into (Some result) xs
calls_countable plan graphs other = true

abbrev pub op_countable : Plan → List LlGraph → List LlType → LlOp → Bool
op_countable plan graphs types o = sets_unread plan types o (set_by o) && calls_countable plan graphs o

abbrev pub ops_countable : Plan → List LlGraph → List LlType → List LlOp → Bool
ops_countable plan graphs types [] = true
ops_countable plan graphs types (o ∷ ops) = op_countable plan graphs types o && ops_countable plan graphs types ops

-- the number of an array of references is set right behind the operation that makes it, by the variable that says how many
abbrev pub is_number : Plan → ℕ → ℕ → Bool
is_number plan n k = is_some (items_referred plan n) && (place_of plan n k == 0)

abbrev pub fills : Option LlOp → ℕ → ℕ → COperand → Bool
fills (Some (op.NewArray a m k (Var w))) n v (Var u) = (a == v) && (k == n) && (w == u)
fills before n v x = false

abbrev pub number_follows : Plan → Option LlOp → LlOp → Bool
number_follows plan before (op.SetField n v k x) = not (is_number plan n k) || fills before n v x
number_follows plan before other = true

-- behind this operation, if there is one
abbrev pub numbers_follow : Plan → Option LlOp → List LlOp → Bool
numbers_follow plan before [] = true
numbers_follow plan before (o ∷ ops) = number_follows plan before o && numbers_follow plan (Some o) ops

-- each input stands once, and not too many
abbrev pub block_countable : Plan → List LlGraph → List LlType → LlBlock → Bool
block_countable plan graphs types block = are_apart block.inputs && nat_lt (length block.inputs) most && ops_countable plan graphs types block.ops && numbers_follow plan None block.ops

abbrev pub blocks_countable : Plan → List LlGraph → List LlType → List LlBlock → Bool
blocks_countable plan graphs types [] = true
blocks_countable plan graphs types (block ∷ blocks) = block_countable plan graphs types block && blocks_countable plan graphs types blocks

abbrev pub all_among : List ℕ → List ℕ → Bool
all_among [] ws = true
all_among (v ∷ vs) ws = among v ws && all_among vs ws

-- the first block has the parameters for its inputs, in any order
abbrev pub takes_params : List ℕ → Option LlBlock → Bool
takes_params params None = true
takes_params params (Some block) = all_among params block.inputs && all_among block.inputs params

abbrev pub graph_countable : Plan → List LlGraph → LlGraph → Bool
graph_countable plan graphs graph = takes_params graph.params (slice_get graph.blocks 0) && blocks_countable plan graphs graph.types graph.blocks

abbrev pub graphs_countable : Plan → List LlGraph → List LlGraph → Bool
graphs_countable plan all [] = true
graphs_countable plan all (graph ∷ graphs) = graph_countable plan all graph && graphs_countable plan all graphs

abbrev pub is_countable : LlProgram → Bool
is_countable p = graphs_countable (plan_of p) p.graphs p.graphs

-- ---- but for inputs that stand twice

abbrev pub block_counts : Plan → List LlGraph → List LlType → LlBlock → Bool
block_counts plan graphs types block = nat_lt (length block.inputs) most && ops_countable plan graphs types block.ops && numbers_follow plan None block.ops

abbrev pub blocks_count : Plan → List LlGraph → List LlType → List LlBlock → Bool
blocks_count plan graphs types [] = true
blocks_count plan graphs types (block ∷ blocks) = block_counts plan graphs types block && blocks_count plan graphs types blocks

abbrev pub graph_counts : Plan → List LlGraph → LlGraph → Bool
graph_counts plan graphs graph = takes_params graph.params (slice_get graph.blocks 0) && blocks_count plan graphs graph.types graph.blocks

abbrev pub graphs_count : Plan → List LlGraph → List LlGraph → Bool
graphs_count plan all [] = true
graphs_count plan all (graph ∷ graphs) = graph_counts plan all graph && graphs_count plan all graphs

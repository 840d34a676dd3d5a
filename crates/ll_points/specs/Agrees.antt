-- When a program uses its exception slots alike everywhere, and raises and frees nothing.
use Rattle.std.specs.Prelude.{◌≡◌, ℕ, ◌==◌, ◌&&◌, Bool, true, false, List, [], ◌∷◌, slice_get, Option, Some, None}
use Rattle.ll_code.specs.Typed.{has_type}
use Rattle.ll_code.specs.declared.program.LlType.{LlType}
use Rattle.ll_code.specs.declared.program.LlType.TheVariants as type
use Rattle.ll_code.specs.declared.program.LlOp.{LlOp}
use Rattle.ll_code.specs.declared.program.LlOp.TheVariants as op
use Rattle.ll_code.specs.declared.program.LlExit.{LlExit}
use Rattle.ll_code.specs.declared.program.LlExit.TheVariants as exit
use Rattle.ll_code.specs.declared.program.LlBlock.{LlBlock}
use Rattle.ll_code.specs.declared.program.LlGraph.{LlGraph}
use Rattle.ll_code.specs.declared.program.LlProgram.{LlProgram}

-- the structs to which the two slots point; none where no operation sets them
abbrev pub Slots : Type 0
Slots = Option (ℕ × ℕ)

-- what sets the slots has their types, and so has what takes from them
abbrev pub op_agrees : Slots → List LlType → LlOp → Bool
op_agrees (Some (k, v)) types (op.ExcSet a b) = has_type (type.Ptr k) (slice_get types a) && has_type (type.Ptr v) (slice_get types b)
op_agrees (Some (k, v)) types (op.ExcType a n) = n == k
op_agrees (Some (k, v)) types (op.ExcValue a n) = n == v
op_agrees None types (op.ExcSet a b) = false
op_agrees slots types (op.Raise a) = false
op_agrees slots types (op.Free a) = false
op_agrees slots types other = true

abbrev pub ops_agree : Slots → List LlType → List LlOp → Bool
ops_agree slots types [] = true
ops_agree slots types (o ∷ ops) = op_agrees slots types o && ops_agree slots types ops

abbrev pub exit_agrees : LlExit → Bool
exit_agrees (exit.OnRaise a by without) = false
exit_agrees (exit.Raise a) = false
exit_agrees other = true

abbrev pub block_agrees : Slots → List LlType → LlBlock → Bool
block_agrees slots types block = ops_agree slots types block.ops && exit_agrees block.exit

abbrev pub blocks_agree : Slots → List LlType → List LlBlock → Bool
blocks_agree slots types [] = true
blocks_agree slots types (block ∷ blocks) = block_agrees slots types block && blocks_agree slots types blocks

abbrev pub graphs_agree : Slots → List LlGraph → Bool
graphs_agree slots [] = true
graphs_agree slots (graph ∷ graphs) = blocks_agree slots graph.types graph.blocks && graphs_agree slots graphs

abbrev pub Agrees : Slots → LlProgram → Type 0
Agrees slots p = graphs_agree slots p.graphs ≡ true

-- ---- the slots of a program: as the first operation that sets them does

abbrev pub pointed : Option LlType → Option LlType → Slots
pointed (Some (type.Ptr k)) (Some (type.Ptr v)) = Some (k, v)
pointed s t = None

abbrev pub or_else : Slots → Slots → Slots
or_else None others = others
or_else slots others = slots

abbrev pub slots_set : List LlType → LlOp → Slots
slots_set types (op.ExcSet a b) = pointed (slice_get types a) (slice_get types b)
slots_set types other = None

abbrev pub slots_in : List LlType → List LlOp → Slots
slots_in types [] = None
slots_in types (o ∷ ops) = or_else (slots_set types o) (slots_in types ops)

abbrev pub slots_within : List LlType → List LlBlock → Slots
slots_within types [] = None
slots_within types (block ∷ blocks) = or_else (slots_in types block.ops) (slots_within types blocks)

abbrev pub slots_among : List LlGraph → Slots
slots_among [] = None
slots_among (graph ∷ graphs) = or_else (slots_within graph.types graph.blocks) (slots_among graphs)

abbrev pub slots_of : LlProgram → Slots
slots_of p = slots_among p.graphs

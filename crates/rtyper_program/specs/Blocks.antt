-- The blocks of a graph. They keep their numbers, and variables keep theirs.
use Rattle.std.specs.Prelude.{ℕ, if◌then◌else◌, List, [], ◌∷◌, length, map, None}
use Rattle.ll_code.specs.declared.program.LlType.{LlType}
use Rattle.ll_code.specs.declared.program.LlType.TheVariants as type
use Rattle.ll_code.specs.declared.program.LlExit.{LlExit}
use Rattle.ll_code.specs.declared.program.LlExit.TheVariants as made
use Rattle.ll_code.specs.declared.program.LlBlock.{LlBlock}
use Rattle.flow_graph.specs.declared.graph.Block.{Block}
use Rattle.flow_graph.specs.declared.graph.Exit.{Exit}
use Rattle.flow_graph.specs.declared.graph.Exit.TheVariants as exit
use Rattle.flow_graph.specs.declared.graph.Op.{Op}
use Rattle.rpy_meaning.specs.declared.row.Covers.{Covers}
use Rattle.rpy_meaning.specs.declared.row.RowOp.{RowOp}
use Rattle.rtyper_data.specs.Building.{block_with}
use Rattle.rtyper_data.specs.Finding.{nothing}
use Rattle.rtyper_data.specs.Seen.{Operand, Place, Writing, writing}
use Rattle.rtyper_class.specs.Lowering.{lower_class_op}
use Rattle.rtyper_class.specs.Seen.{World}
use Rattle.rtyper_dict.specs.Lowering.{is_dict_op, lower_dict_op}
use Rattle.rtyper_program.specs.declared.extra.Extra.{Extra}
use Rattle.rtyper_program.specs.Cuts.{on_raise}
use Rattle.rtyper_program.specs.Handlers.{Work, work}
use Rattle.rtyper_program.specs.Links.{branch, give_back, goto, link_of, typed}
use Rattle.rtyper_program.specs.Raises.{catches}
use Rattle.rtyper_program.specs.Seen.{Lowered, operand_of, place_of, type_at}

-- ---- operations

abbrev pub lowered : World → RowOp → Place → List Operand → Writing → Writing
lowered world o place args w = if is_dict_op o args then lower_dict_op world.around o place args w else lower_class_op world o place args w

abbrev pub with_covered : Covers → Writing → Writing
with_covered c w = writing (record w.found { covered = c }) w.body

-- an operation, whose failures are covered so
unfoldable pub op_of : Lowered → Op → Writing → Writing
op_of l o w = with_covered nothing (lowered l.world o.op (place_of l o.result) (map (operand_of l) o.args) (with_covered o.covered w))

abbrev pub ops_from : Lowered → List Op → ℕ × Writing → ℕ × Writing
ops_from l [] made = made
ops_from l (o ∷ ops) made = ops_from l ops (length made.1.body.ops, op_of l o made.1)

-- the operations, and how many stand before those of the last one
abbrev pub ops_of : Lowered → List Op → Writing → ℕ × Writing
ops_of l ops w = ops_from l ops (length w.body.ops, w)

-- ---- exits

-- nothing goes on from here, and no run comes here
abbrev pub never : LlExit
never = made.Fail 4

-- no exception comes to a variable without a type
abbrev pub raise_as : ℕ → LlType → LlExit
raise_as v type.Void = never
raise_as v t = made.Raise v

abbrev pub before : Extra → LlExit × Writing → LlExit × Work
before e made = (made.0, work made.1 e)

unfoldable pub exit_of : Lowered → Exit → ℕ → Work → LlExit × Work
exit_of l (exit.Goto link) least w = before w.extra (goto (link_of l None link w.writing))
exit_of l (exit.If v there elsewhere) least w = before w.extra (branch l v there elsewhere w.writing)
exit_of l (exit.OnRaise v hands by without) least w =
    if catches l.graph hands by then on_raise l v hands by without least w else before w.extra (goto (link_of l None without w.writing))
exit_of l (exit.Return v) least w = before w.extra (give_back l v w.writing)
exit_of l (exit.Raise v) least w = (raise_as v (type_at l v), w)

-- ---- blocks

abbrev pub ended : List ℕ → LlExit × Work → LlBlock × Work
ended inputs e = (block_with inputs e.1.writing.body.ops e.0, work (writing e.1.writing.found (record e.1.writing.body { ops = [] })) e.1.extra)

abbrev pub exited : Lowered → Block → Extra → ℕ × Writing → LlBlock × Work
exited l block e ops = ended (typed l block.inputs) (exit_of l block.exit ops.0 (work ops.1 e))

-- a block that is reached, behind the operations that stand in the body
unfoldable pub block_of : Lowered → Block → Work → LlBlock × Work
block_of l block w = exited l block w.extra (ops_of l block.ops w.writing)

-- one that is not reached
abbrev pub dead_block : LlBlock
dead_block = block_with [] [] never

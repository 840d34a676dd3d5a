-- The graphs of functions.
use Rattle.std.specs.Prelude.{ℕ, zero, suc, ◌+◌, if◌then◌else◌, List, [], ◌∷◌, ◌++◌, length, map, slice_get, Option, Some, None, pos}
use Rattle.csub_tree.specs.declared.tree.COperand.TheVariants.{Const}
use Rattle.csub_tree.specs.declared.tree.CConst.TheVariants.{Word}
use Rattle.ll_code.specs.declared.program.LlType.{LlType}
use Rattle.ll_code.specs.declared.program.LlType.TheVariants as type
use Rattle.ll_code.specs.declared.program.LlOp.TheVariants as op
use Rattle.ll_code.specs.declared.program.LlBlock.{LlBlock}
use Rattle.ll_code.specs.declared.program.LlGraph.{LlGraph}
use Rattle.ann_element.specs.declared.element.Element.{Element}
use Rattle.flow_graph.specs.declared.graph.Block.{Block}
use Rattle.flow_graph.specs.declared.graph.Graph.{Graph}
use Rattle.rpy_resolved.specs.declared.tree.Function.{Function}
use Rattle.rtyper_layout.specs.declared.layout.Layout.{Layout}
use Rattle.rtyper_layout.specs.Types.{type_of, type_seen}
use Rattle.rtyper_data.specs.declared.body.Body.{Body}
use Rattle.rtyper_data.specs.declared.found.Found.{Found}
use Rattle.rtyper_data.specs.Building.{graph_with}
use Rattle.rtyper_data.specs.Finding.{same_type}
use Rattle.rtyper_data.specs.Seen.{Around, Writing, writing, with_op}
use Rattle.rtyper_class.specs.Seen.{World}
use Rattle.rtyper_program.specs.declared.extra.Extra.{Extra}
use Rattle.rtyper_program.specs.Blocks.{block_of, dead_block}
use Rattle.rtyper_program.specs.Handlers.{Work, work}
use Rattle.rtyper_program.specs.Seen.{Known, Lowered, is_block_reached}

-- ---- blocks

-- a function's first block pays for its call
abbrev pub with_cost : ℕ → Body → Body
with_cost zero body = with_op (op.Step (Const (Word (pos 1)))) body
with_cost (suc n) body = body

abbrev pub paid : ℕ → Work → Work
paid n w = work (writing w.writing.found (with_cost n w.writing.body)) w.extra

abbrev pub block_at : Lowered → ℕ → Block → Work → LlBlock × Work
block_at l n block w = if is_block_reached l.known.annotation l.number n then block_of l block (paid n w) else (dead_block, w)

abbrev pub with_block : List LlBlock → LlBlock × Work → List LlBlock × Work
with_block blocks made = (blocks ++ made.0 ∷ [], made.1)

-- from the n-th on, behind others
abbrev pub blocks_from : Lowered → ℕ → List Block → List LlBlock × Work → List LlBlock × Work
blocks_from l n [] made = made
blocks_from l n (block ∷ blocks) made = blocks_from l (n + 1) blocks (with_block made.0 (block_at l n block made.1))

-- those that were made on the way follow
abbrev pub with_extra : List LlBlock × Work → List LlBlock × Writing
with_extra made = (made.0 ++ made.1.extra.blocks, made.1.writing)

abbrev pub nothing_behind : List Block → Extra
nothing_behind blocks = record { first = length blocks; blocks = [] }

unfoldable pub blocks_of : Lowered → Writing → List LlBlock × Writing
blocks_of l w = with_extra (blocks_from l 0 l.graph.blocks ([], work w (nothing_behind l.graph.blocks)))

-- ---- graphs

abbrev pub elements_in : Option (List Element) → List Element
elements_in None = []
elements_in (Some elements) = elements

abbrev pub types_of : Layout → List Element → List LlType
types_of layout elements = map (type_of layout) elements

-- of the parameters, which are the first variables, those that have a type: from the n-th on
abbrev pub typed_from : Layout → ℕ → List Element → List ℕ
typed_from layout n [] = []
typed_from layout n (e ∷ elements) = if same_type (type_of layout e) type.Void then typed_from layout (n + 1) elements else n ∷ typed_from layout (n + 1) elements

abbrev pub params_of : Around → ℕ → List ℕ
params_of around function = typed_from around.layout 0 (elements_in (slice_get around.params function))

abbrev pub result_of : Around → ℕ → LlType
result_of around function = type_seen around.layout (slice_get around.results function)

abbrev pub name_in : Option Function → List ℕ
name_in None = []
name_in (Some f) = f.name

abbrev pub lowered_graph : Known → World → ℕ → Graph → Lowered
lowered_graph known world number graph = record { known = known; world = world; number = number; graph = graph; result = result_of world.around graph.function }

-- the variables keep their numbers
abbrev pub variables : Known → World → ℕ → List LlType
variables known world number = types_of world.around.layout (elements_in (slice_get known.annotation.vars number))

abbrev pub graph_by : Known → World → Graph → List LlBlock × Writing → LlGraph × Found
graph_by known world graph made = (graph_with (name_in (slice_get known.program.functions graph.function)) (params_of world.around graph.function) (result_of world.around graph.function) made.1.body.types made.0, made.1.found)

-- the low-level graph of a flow graph, which has the name of its function
unfoldable pub graph_of : Known → World → ℕ → Graph → Found → LlGraph × Found
graph_of known world number graph found = graph_by known world graph (blocks_of (lowered_graph known world number graph) (writing found (record { types = variables known world number; ops = [] })))

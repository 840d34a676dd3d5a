-- The pieces of blocks, and the whole program. Each call that may raise ends a piece; behind it stand a block for its exceptions and
-- one for the rest.
use Rattle.std.specs.Prelude.{ℕ, ◌+◌, Bool, true, false, cond, List, [], ◌∷◌, ◌++◌, length, map, Option, Some, None, is_some}
use Rattle.csub_tree.specs.declared.tree.COperand.{COperand}
use Rattle.ll_code.specs.declared.program.LlStage.TheVariants.{Explicit}
use Rattle.ll_code.specs.declared.program.LlType.{LlType}
use Rattle.ll_code.specs.declared.program.LlType.TheVariants as type
use Rattle.ll_code.specs.declared.program.LlStruct.{LlStruct}
use Rattle.ll_code.specs.declared.program.LlLink.{LlLink}
use Rattle.ll_code.specs.declared.program.LlOp.{LlOp}
use Rattle.ll_code.specs.declared.program.LlOp.TheVariants as op
use Rattle.ll_code.specs.declared.program.LlExit.{LlExit}
use Rattle.ll_code.specs.declared.program.LlExit.TheVariants as exit
use Rattle.ll_code.specs.declared.program.LlBlock.{LlBlock}
use Rattle.ll_code.specs.declared.program.LlGraph.{LlGraph}
use Rattle.ll_code.specs.declared.program.LlProgram.{LlProgram}
use Rattle.exc_transform.specs.declared.family.Family.{Family}
use Rattle.exc_transform.specs.declared.pieces.Ending.{Ending}
use Rattle.exc_transform.specs.declared.pieces.Ending.TheVariants.{Leaves, Raises, Tested}
use Rattle.exc_transform.specs.Explicit.{is_tested, kind_of, testing, left_ops, left_exit, way_ops, way_exit, raised_ops, graphs_calm}
use Rattle.exc_transform.specs.Raising.{any_marked, raises_within, raising_graphs}
use Rattle.exc_transform.specs.Live.{live, handler_reads, as_operands}
use Rattle.exc_transform.specs.Families.{family_of}

-- ---- what is the same for all blocks of a graph

pub record Around : Type 0 where
  pub marks : List Bool
  pub any : Bool
  pub family : Family
  pub types : List LlType
  pub kind : ℕ
  pub test : ℕ
  pub result : LlType

abbrev pub around_of : List Bool → Bool → Family → List LlType → ℕ → ℕ → LlType → Around
around_of marks any family types kind test result = record { marks = marks; any = any; family = family; types = types; kind = kind; test = test; result = result }

-- ---- the block for the exceptions of a call

abbrev pub way_block : Around → List LlOp → LlExit → LlBlock
way_block around rest e = record { inputs = handler_reads rest e; ops = way_ops around.family around.types rest e; exit = way_exit around.result rest e }

-- ---- where a piece goes on

-- the link by which it does, where nothing stands between it and that
abbrev pub onward : List LlOp → LlExit → Option LlLink
onward [] (exit.Goto link) = Some link
onward [] (exit.OnRaise a by without) = Some without
onward rest e = None

abbrev pub link_to : ℕ → List COperand → LlLink
link_to to args = record { to = to; args = args }

abbrev pub on_by : Around → List LlOp → LlExit → ℕ → Option LlLink → LlLink
on_by around rest e way (Some link) = link
on_by around rest e way None = link_to (way + 1) (as_operands (live around.marks around.any rest e))

-- else the block of the rest is the one behind the block for exceptions
abbrev pub on : Around → List LlOp → LlExit → ℕ → LlLink
on around rest e way = on_by around rest e way (onward rest e)

abbrev pub test_exit : Around → List LlOp → LlExit → ℕ → LlExit
test_exit around rest e way = exit.If around.test (on around rest e way) (link_to way (as_operands (handler_reads rest e)))

-- ---- the first piece of operations and an exit; the block for its exceptions, if it has one, has the number `way`

abbrev pub called : Bool → Ending
called true = Tested
called false = Leaves

-- an operation raises, is tested, or does neither
abbrev pub ending_of : List Bool → Bool → LlOp → Ending
ending_of marks any (op.Raise v) = Raises v
ending_of marks any other = called (is_tested marks any other)

abbrev pub ending_in : Around → LlOp → Ending
ending_in around o = ending_of around.marks around.any o

abbrev pub ops_by : Around → LlOp → List LlOp → LlExit → Ending → List LlOp → List LlOp
ops_by around o rest e (Raises v) more = raised_ops around.family around.types around.kind v rest e
ops_by around o rest e Tested more = o ∷ testing around.family around.kind around.test
ops_by around o rest e Leaves more = o ∷ more

abbrev pub piece_ops : Around → List LlOp → LlExit → List LlOp
piece_ops around [] e = left_ops around.family around.kind e
piece_ops around (o ∷ rest) e = ops_by around o rest e (ending_in around o) (piece_ops around rest e)

abbrev pub exit_by : Around → List LlOp → LlExit → ℕ → Ending → LlExit → LlExit
exit_by around rest e way (Raises v) more = way_exit around.result rest e
exit_by around rest e way Tested more = test_exit around rest e way
exit_by around rest e way Leaves more = more

abbrev pub piece_exit : Around → List LlOp → LlExit → ℕ → LlExit
piece_exit around [] e way = left_exit around.result e
piece_exit around (o ∷ rest) e way = exit_by around rest e way (ending_in around o) (piece_exit around rest e way)

abbrev pub piece : Around → List ℕ → List LlOp → LlExit → ℕ → LlBlock
piece around inputs ops e way = record { inputs = inputs; ops = piece_ops around ops e; exit = piece_exit around ops e way }

-- ---- the blocks behind it, of which the first has the number `way`

abbrev pub rest_block : Around → List LlOp → LlExit → ℕ → LlBlock
rest_block around rest e way = piece around (live around.marks around.any rest e) rest e way

-- the rest is a block of its own, unless the piece goes on by the exit's link
abbrev pub rest_blocks : Around → List LlOp → LlExit → ℕ → Bool → List LlBlock → List LlBlock
rest_blocks around rest e way true more = []
rest_blocks around rest e way false more = rest_block around rest e (way + 2) ∷ more

abbrev pub behind_by : Around → List LlOp → LlExit → ℕ → Ending → List LlBlock → List LlBlock → List LlBlock
behind_by around rest e way (Raises v) tested same = []
behind_by around rest e way Tested tested same = way_block around rest e ∷ rest_blocks around rest e way (is_some (onward rest e)) tested
behind_by around rest e way Leaves tested same = same

abbrev pub behind : Around → ℕ → List LlOp → LlExit → List LlBlock
behind around way [] e = []
behind around way (o ∷ rest) e = behind_by around rest e way (ending_in around o) (behind around (way + 2) rest e) (behind around way rest e)

-- ---- the blocks of a graph: the first pieces keep the numbers of their blocks, and the others stand behind them

abbrev pub behind_block : Around → ℕ → LlBlock → List LlBlock
behind_block around next block = behind around next block.ops block.exit

abbrev pub firsts : Around → ℕ → List LlBlock → List LlBlock
firsts around next [] = []
firsts around next (block ∷ blocks) = piece around block.inputs block.ops block.exit next ∷ firsts around (next + length (behind_block around next block)) blocks

abbrev pub others : Around → ℕ → List LlBlock → List LlBlock
others around next [] = []
others around next (block ∷ blocks) = behind_block around next block ++ others around (next + length (behind_block around next block)) blocks

abbrev pub blocks_of : Around → List LlBlock → List LlBlock
blocks_of around blocks = firsts around (length blocks) blocks ++ others around (length blocks) blocks

-- ---- graphs

-- the types of the two variables for tests, where there are some
abbrev pub test_types : Family → Bool → List LlType
test_types family true = type.Ptr (kind_of family) ∷ type.Bool ∷ []
test_types family false = []

-- the types of the variables, with those behind them
abbrev pub types_of : Family → Bool → List LlType → List LlType
types_of family tested types = types ++ test_types family tested

abbrev pub around_graph : Family → List Bool → Bool → LlGraph → Around
around_graph family marks any graph = around_of marks any family graph.types (length graph.types) (length graph.types + 1) graph.result

abbrev pub graph_with : Family → List Bool → Bool → LlGraph → LlGraph
graph_with family marks any graph = record {
  name = graph.name;
  params = graph.params;
  result = graph.result;
  types = types_of family (raises_within marks any graph.blocks) graph.types;
  blocks = blocks_of (around_graph family marks any graph) graph.blocks;
}

abbrev pub graph_of : Family → List Bool → LlGraph → LlGraph
graph_of family marks graph = graph_with family marks (any_marked marks) graph

abbrev pub graphs_of : List LlStruct → List LlGraph → List LlGraph
graphs_of structs graphs = map (graph_of (family_of structs graphs) (raising_graphs graphs)) graphs

-- graphs in which nothing raises stay as they are
abbrev pub explicit_graphs : List LlStruct → List LlGraph → List LlGraph
explicit_graphs structs graphs = cond (graphs_calm graphs) graphs (graphs_of structs graphs)

-- ---- the program

abbrev pub explicit : LlProgram → LlProgram
explicit program = record program { stage = Explicit; graphs = explicit_graphs program.structs program.graphs }

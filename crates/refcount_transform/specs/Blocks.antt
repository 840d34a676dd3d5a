-- Blocks and graphs with their changes of counts. Where a way of a test does not give a reference on that the other way gives, it drops
-- it in a block of its own.
use Rattle.std.specs.Prelude.{ℕ, ◌+◌, ◌||◌, List, [], ◌∷◌, ◌++◌, length}
use Rattle.csub_tree.specs.declared.tree.COperand.{COperand}
use Rattle.ll_code.specs.declared.program.LlLink.{LlLink}
use Rattle.ll_code.specs.declared.program.LlOp.{LlOp}
use Rattle.ll_code.specs.declared.program.LlExit.{LlExit}
use Rattle.ll_code.specs.declared.program.LlExit.TheVariants as exit
use Rattle.ll_code.specs.declared.program.LlBlock.{LlBlock}
use Rattle.ll_code.specs.declared.program.LlGraph.{LlGraph}
use Rattle.ll_live.specs.Live.{among, variables_in}
use Rattle.refcount_transform.specs.Plan.{Plan}
use Rattle.refcount_transform.specs.Made.{link_to, block_with}
use Rattle.refcount_transform.specs.Changes.{Around, around_of, down_unless, dead, given, ops_of}

-- ---- the ways of a test

-- each of the variables once that is not among the operands which are given
abbrev pub left : Around → List COperand → List ℕ → List LlOp → List LlOp
left around xs [] rest = rest
left around xs (v ∷ variables) rest = down_unless (among v variables || among v (variables_in xs)) around v (left around xs variables rest)

-- the changes on one way, where the other way is this
abbrev pub way_ops : Around → LlLink → LlLink → List LlOp
way_ops around way other = given around way.args (left around way.args (variables_in other.args) [])

-- the link of a way with these changes, which stand in the block with this number
abbrev pub way_link : LlLink → ℕ → List LlOp → LlLink
way_link way next [] = way
way_link way next (o ∷ ops) = link_to next []

-- that block, where something changes
abbrev pub way_block : LlLink → List LlOp → List LlBlock
way_block way [] = []
way_block way (o ∷ ops) = block_with [] (o ∷ ops) (exit.Goto way) ∷ []

-- ---- exits

abbrev pub exit_of : Around → ℕ → LlExit → LlExit
exit_of around next (exit.OnRaise a by without) = exit.Goto without
exit_of around next (exit.If v there elsewhere) =
    exit.If v (way_link there next (way_ops around there elsewhere))
    (way_link elsewhere (next + length (way_block there (way_ops around there elsewhere))) (way_ops around elsewhere there))
exit_of around next other = other

-- the blocks that stand behind the others for it
abbrev pub behind_exit : Around → LlExit → List LlBlock
behind_exit around (exit.If v there elsewhere) = way_block there (way_ops around there elsewhere) ++ way_block elsewhere (way_ops around elsewhere there)
behind_exit around other = []

-- ---- blocks; inputs that a block does not read are dropped first

abbrev pub block_of : Around → ℕ → LlBlock → LlBlock
block_of around next block = block_with block.inputs (dead around block.inputs block.ops block.exit (ops_of around block.ops block.exit)) (exit_of around next block.exit)

-- the blocks keep their numbers
abbrev pub firsts : Around → ℕ → List LlBlock → List LlBlock
firsts around next [] = []
firsts around next (block ∷ blocks) = block_of around next block ∷ firsts around (next + length (behind_exit around block.exit)) blocks

abbrev pub others : Around → List LlBlock → List LlBlock
others around [] = []
others around (block ∷ blocks) = behind_exit around block.exit ++ others around blocks

abbrev pub blocks_of : Around → List LlBlock → List LlBlock
blocks_of around blocks = firsts around (length blocks) blocks ++ others around blocks

-- ---- graphs

abbrev pub graph_of : Plan → LlGraph → LlGraph
graph_of plan graph = record {
  name = graph.name;
  params = graph.params;
  result = graph.result;
  types = graph.types;
  blocks = blocks_of (around_of plan graph.types) graph.blocks;
}

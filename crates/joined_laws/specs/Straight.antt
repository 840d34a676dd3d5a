-- Programs whose straight ways are single blocks, without copies, and whose blocks are numbered anew; the variables are as they were.
use Rattle.std.specs.Prelude.{ℕ, List, length, map, option_map}
use Rattle.ll_code.specs.declared.program.LlLink.{LlLink}
use Rattle.ll_code.specs.declared.program.LlExit.{LlExit}
use Rattle.ll_code.specs.declared.program.LlExit.TheVariants as exit
use Rattle.ll_code.specs.declared.program.LlBlock.{LlBlock}
use Rattle.ll_code.specs.declared.program.LlGraph.{LlGraph}
use Rattle.ll_code.specs.declared.program.LlProgram.{LlProgram}
use Rattle.ll_joined.specs.Named.{number_of}
use Rattle.ll_joined.specs.Counted.{counts_of}
use Rattle.ll_joined.specs.Joined.{ways_of, plain_ways, numbers_in}

abbrev pub link_at : List ℕ → LlLink → LlLink
link_at numbers link = record link { to = number_of numbers link.to }

abbrev pub exit_at : List ℕ → LlExit → LlExit
exit_at numbers (exit.Goto link) = exit.Goto (link_at numbers link)
exit_at numbers (exit.If a there elsewhere) = exit.If a (link_at numbers there) (link_at numbers elsewhere)
exit_at numbers (exit.OnRaise a by without) = exit.OnRaise a (option_map (link_at numbers) by) (link_at numbers without)
exit_at numbers other = other

abbrev pub block_at : List ℕ → LlBlock → LlBlock
block_at numbers block = record block { exit = exit_at numbers block.exit }

abbrev pub straight_graph : LlGraph → LlGraph
straight_graph graph = record graph { blocks = map (block_at (numbers_in graph.blocks (counts_of (length graph.types) graph.blocks))) (plain_ways graph.params graph.types (ways_of graph)) }

abbrev pub straight : LlProgram → LlProgram
straight p = record p { graphs = map straight_graph p.graphs }

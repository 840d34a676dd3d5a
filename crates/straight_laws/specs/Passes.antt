-- The passes of joining before the last one, each as a pass over programs.
use Rattle.std.specs.Prelude.{◌≡◌, ◌<◌, ◌+◌, ◌^◌, ℕ, List, length, map, slice_get, Some}
use Rattle.ll_code.specs.declared.program.LlBlock.{LlBlock}
use Rattle.ll_code.specs.declared.program.LlGraph.{LlGraph}
use Rattle.ll_code.specs.declared.program.LlProgram.{LlProgram}
use Rattle.ll_joined.specs.declared.count.Counts.{Counts}
use Rattle.ll_joined.specs.Counted.{counts_of}
use Rattle.ll_joined.specs.Joined.{ways_of, plain_ways, numbers_in}
use Rattle.joined_laws.specs.Straight.{block_at}

abbrev pub counts_in : LlGraph → Counts
counts_in graph = counts_of (length graph.types) graph.blocks

-- straight ways are single blocks, which are numbered anew
abbrev pub ways_graph : LlGraph → LlGraph
ways_graph graph = record graph { blocks = map (block_at (numbers_in graph.blocks (counts_in graph))) (ways_of graph) }

abbrev pub ways : LlProgram → LlProgram
ways p = record p { graphs = map ways_graph p.graphs }

-- copies are left out
abbrev pub plain_graph : LlGraph → LlGraph
plain_graph graph = record graph { blocks = plain_ways graph.params graph.types graph.blocks }

abbrev pub plain : LlProgram → LlProgram
plain p = record p { graphs = map plain_graph p.graphs }

-- the blocks of each graph are numbered by words, and the largest word numbers none
abbrev pub HasBlockNumbers : LlProgram → Type 0
HasBlockNumbers p = (f : ℕ) (graph : LlGraph) → slice_get p.graphs f ≡ Some graph → length graph.blocks + 1 < 2 ^ 64

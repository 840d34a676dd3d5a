-- Programs without the variables that nothing names; the others are numbered anew.
use Rattle.std.specs.Prelude.{◌≡◌, ◌<◌, ◌^◌, ℕ, List, [], length, map, slice_get, Some}
use Rattle.ll_code.specs.declared.program.LlGraph.{LlGraph}
use Rattle.ll_code.specs.declared.program.LlProgram.{LlProgram}
use Rattle.ll_joined.specs.Marked.{marks_of}
use Rattle.ll_joined.specs.Joined.{numbered}

-- how often each variable of the graph is named
abbrev pub counts_in : LlGraph → List ℕ
counts_in graph = (marks_of (length graph.types) graph.params graph.blocks).named

-- the last pass of joining, over the blocks as they are
abbrev pub fewer_graph : LlGraph → LlGraph
fewer_graph graph = numbered graph (counts_in graph) [] graph.blocks

abbrev pub fewer : LlProgram → LlProgram
fewer p = record p { graphs = map fewer_graph p.graphs }

-- the variables of each graph are numbered by words
abbrev pub HasNumbers : LlProgram → Type 0
HasNumbers p = (f : ℕ) (graph : LlGraph) → slice_get p.graphs f ≡ Some graph → length graph.types < 2 ^ 64

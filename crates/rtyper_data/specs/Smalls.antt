-- The graph of a small graph that asks nothing of classes, lists and dicts. The others are made elsewhere, and one that fails stands for them here.
use Rattle.std.specs.Prelude.{false}
use Rattle.ll_code.specs.declared.program.LlGraph.{LlGraph}
use Rattle.rtyper_layout.specs.declared.layout.Layout.{Layout}
use Rattle.rtyper_data.specs.declared.found.Found.{Found}
use Rattle.rtyper_data.specs.declared.small.Small.{Small}
use Rattle.rtyper_data.specs.declared.small.Small.TheVariants as small
use Rattle.rtyper_data.specs.CheckedGraphs.{checked_graph, checked_neg_graph}
use Rattle.rtyper_data.specs.Graphs.{cast, equality, failure, present}
use Rattle.rtyper_data.specs.IntOfText.{int_graph}

abbrev pub small_graph : Layout → Small → Found → LlGraph × Found
small_graph layout (small.Cast m n) found = cast layout m n found
small_graph layout (small.Equal m n) found = equality layout m n found
small_graph layout (small.Fail raises) found = failure raises found
small_graph layout (small.Present t raises) found = present t raises found
small_graph layout (small.Checked o raises) found = checked_graph o raises found
small_graph layout small.CheckedNeg found = checked_neg_graph found
small_graph layout small.IntOfText found = int_graph found
small_graph layout other found = failure false found

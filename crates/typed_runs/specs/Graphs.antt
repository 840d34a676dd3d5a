-- Graphs of functions are done, in a program that has types.
use Rattle.std.specs.Prelude.{◌≡◌, ℕ, true, List, slice_get, Some}
use Rattle.ann_element.specs.declared.element.Element.{Element}
use Rattle.flow_graph.specs.declared.graph.Block.{Block}
use Rattle.flow_graph.specs.declared.graph.Graph.{Graph}
use Rattle.rtyper_program.specs.Raises.{exit_catches}
use Rattle.rtyper_program.specs.Seen.{is_block_reached}
use Rattle.rtyped_runs.specs.Parts.{TakesParameters}
use Rattle.catch_runs.specs.Parts.{BlockCatches, GraphIsDoneSo}
use Rattle.typed_rows.specs.Programs.{Typed, IsTyped, first, last, numbers, setting, world}
use Rattle.typed_rows.specs.Rows.{lowered_in}
use Rattle.typed_links.specs.Links.{ConversionsStand}
use Rattle.typed_links.specs.Exits.{ExitFits, IsChecked, TestsStand}
use Rattle.typed_blocks.specs.Blocks.{OperationsAreWritten, OperationsHaveTypes}

-- What is left to ask of the graph of a function: it begins at a block that is reached, with the parameters in the first variables; what its blocks ask has a truth, and
-- what they raise is an exception; and blocks that catch are done.
pub record GraphIsReady (t : Typed) (g : ℕ) (graph : Graph) : Type 0 where
  pub begins : is_block_reached t.known.annotation g 0 ≡ true
  pub some_block : (b : Block) × (slice_get graph.blocks 0 ≡ Some b)
  pub params : (params : List Element) (b : Block) → slice_get (world t).around.params g ≡ Some params → slice_get graph.blocks 0 ≡ Some b → TakesParameters (lowered_in t g graph) params b
  pub fits : (m : ℕ) (b : Block) → slice_get graph.blocks m ≡ Some b → is_block_reached t.known.annotation g m ≡ true → ExitFits t g graph b.exit
  pub catching : (m : ℕ) (b : Block) → slice_get graph.blocks m ≡ Some b → is_block_reached t.known.annotation g m ≡ true → exit_catches graph b.exit ≡ true → BlockCatches (setting t) (numbers t) (lowered_in t g graph) (first t) (last t) b

-- what conversions and tests ask for stands in each program that has types
abbrev pub WhatIsAskedForStands : Type 0
WhatIsAskedForStands = (t : Typed) → IsTyped t → ConversionsStand t × TestsStand t

-- operations have types, and are written as what they do
pub record OperationsStand (t : Typed) : Type 0 where
  pub written : OperationsAreWritten t
  pub types : OperationsHaveTypes t

-- Then the graph is done.
abbrev pub GraphsAreDone : Type 0
GraphsAreDone = (t : Typed) → IsTyped t → IsChecked t → OperationsStand t → (g : ℕ) (graph : Graph) → slice_get t.graphs.graphs g ≡ Some graph → graph.function ≡ g → GraphIsReady t g graph
    → GraphIsDoneSo (setting t) (numbers t) (lowered_in t g graph) (first t) (last t)

-- Blocks that catch nothing are done, in a program that has types.
use Rattle.std.specs.Prelude.{◌≡◌, ◌⊎◌, ℕ, true, false, slice_get, Some}
use Rattle.flow_graph.specs.declared.graph.Block.{Block}
use Rattle.flow_graph.specs.declared.graph.Graph.{Graph}
use Rattle.flow_graph.specs.declared.graph.Op.{Op}
use Rattle.rtyper_program.specs.Raises.{exit_catches}
use Rattle.rtyper_program.specs.Seen.{is_block_reached}
use Rattle.rtyped_runs.specs.Parts.{BlockIsDone}
use Rattle.typed_rows.specs.Programs.{Typed, IsTyped, first, last, numbers, setting}
use Rattle.typed_rows.specs.Rows.{IsOp, IsWritten, lowered_in}
use Rattle.typed_programs.specs.Operations.{HasNothing}
use Rattle.typed_links.specs.Links.{ConversionsStand}
use Rattle.typed_links.specs.Exits.{ExitFits, IsChecked, TestsStand}

-- each operation that has types is written as what it does
abbrev pub OperationsAreWritten : Typed → Type 0
OperationsAreWritten t = (n : ℕ) (graph : Graph) (o : Op) → IsOp t n o → IsWritten t n graph o

-- the operation of each block that is reached has types, or there is nothing of one of its operands
abbrev pub OperationsHaveTypes : Typed → Type 0
OperationsHaveTypes t = (g m : ℕ) (graph : Graph) (b : Block) (o : Op) → slice_get t.graphs.graphs g ≡ Some graph → slice_get graph.blocks m ≡ Some b → is_block_reached t.known.annotation g m ≡ true → slice_get b.ops 0 ≡ Some o → HasNothing t g o ⊎ IsOp t g o

-- Then each block that is reached and catches nothing is done.
abbrev pub BlocksAreDone : Type 0
BlocksAreDone = (t : Typed) → IsTyped t → IsChecked t → ConversionsStand t → TestsStand t → OperationsAreWritten t → OperationsHaveTypes t
    → (g m : ℕ) (graph : Graph) (b : Block) → slice_get t.graphs.graphs g ≡ Some graph → slice_get graph.blocks m ≡ Some b → is_block_reached t.known.annotation g m ≡ true → graph.function ≡ g → ExitFits t g graph b.exit → exit_catches graph b.exit ≡ false
    → BlockIsDone (setting t) (numbers t) (lowered_in t g graph) (first t) (last t) b

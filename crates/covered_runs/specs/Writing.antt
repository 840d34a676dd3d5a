-- What laws of operations say is what is asked of the operations of a block, where what these ask for stands while so many steps are left as the
-- heap says.
use Rattle.std.specs.Prelude.{ℕ, List}
use Rattle.csub_tree.specs.State.{Core}
use Rattle.ll_code.specs.declared.program.LlProgram.{LlProgram}
use Rattle.ll_build.specs.declared.needs.Numbers.{Numbers}
use Rattle.flow_graph.specs.declared.graph.Graphs.{Graphs}
use Rattle.flow_graph.specs.declared.graph.Op.{Op}
use Rattle.rpy_tree.specs.Value.{Heap}
use Rattle.rtyper_data.specs.declared.found.Found.{Found}
use Rattle.rtyper_data.specs.Seen.{Writing}
use Rattle.rtyper_program.specs.Blocks.{lowered}
use Rattle.rtyper_program.specs.Seen.{Lowered, place_of}
use Rattle.lower_laws.specs.Asked.{Ask}
use Rattle.object_laws.specs.Done.{AllAsked, HasLayout, IsDone}
use Rattle.object_laws.specs.Ghost.{Ghost}
use Rattle.object_laws.specs.Known.{Known as Seen}
use Rattle.object_laws.specs.Represents.{Represents}
use Rattle.run_laws.specs.Points.{Setting}
use Rattle.block_laws.specs.Links.{setting}
use Rattle.covered_text_laws.specs.Asked as texts
use Rattle.rtyped_runs.specs.Laws.{IsInside, Standing, ThrowsObjects, args_of, before}
use Rattle.rtyped_runs.specs.Parts.{OpIsWritten}

-- what is asked for stands, over all memory that represents a heap while so many steps are left
abbrev pub StandsWhile : Setting → (Core → Ask → Found → Type 0) → List Ask → Found → Type 0
StandsWhile s Has asks found = (core : Core) (g : Ghost) (heap : Heap) → Represents s.around.layout s.known g heap core.steps core.blocks core.statics → AllAsked (Has core) asks found

-- operations on strings whose failures may be raised
abbrev pub of_texts : Standing
of_texts world p numbers raised core ask found = texts.Has p world.around.layout numbers raised core ask found

-- Where a law says of an operation, as it is lowered, that it is done, its operation in a block does what it does.
abbrev pub OperationsAreWrittenWhile : Standing → Type 0
OperationsAreWrittenWhile Has = (l : Lowered) (known : Seen) (graphs : Graphs) (p : LlProgram) (arguments : List (List ℕ)) (numbers : Numbers) (blocks : ℕ) (o : Op) (asks : List Ask) (w : Writing)
    → HasLayout p l.world.around.layout → IsInside l o w → ThrowsObjects (setting l known graphs p arguments) l o
    → StandsWhile (setting l known graphs p arguments) (Has l.world p numbers known.exception) asks (before o w).found
    → IsDone (Has l.world) blocks known l.world.around o.op o.covered asks (lowered l.world o.op (place_of l o.result) (args_of l o) (before o w)) (place_of l o.result) (args_of l o) (before o w)
    → OpIsWritten (setting l known graphs p arguments) l o w

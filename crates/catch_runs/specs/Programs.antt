-- Programs that are made of flow graphs do what the graphs do, where their parts are done and exceptions may be caught.
use Rattle.std.specs.Prelude.{◌≡◌, ◌<◌, ◌^◌, ℕ, true, List, length, slice_get, Some}
use Rattle.class_desc.specs.Tables.{Tables}
use Rattle.flow_graph.specs.declared.graph.Graph.{Graph}
use Rattle.flow_graph.specs.declared.graph.Graphs.{Graphs}
use Rattle.flow_meaning.specs.Machine.{State, world_of}
use Rattle.flow_meaning.specs.Meaning.{Ended, run}
use Rattle.flow_runs.specs.Runs.{AreGood}
use Rattle.ll_code.specs.State as low
use Rattle.rpy_meaning.specs.Meaning.{Run}
use Rattle.object_laws.specs.Ghost.{Ghost}
use Rattle.run_laws.specs.Points.{is_keyed, truth_known}
use Rattle.run_laws.specs.Runs.{EndsIf}
use Rattle.ll_code.specs.declared.program.LlGraph.{LlGraph}
use Rattle.ll_code.specs.declared.program.LlProgram.{LlProgram}
use Rattle.ll_build.specs.declared.needs.Numbers.{Numbers}
use Rattle.rtyper_data.specs.declared.found.Found.{Found}
use Rattle.rtyper_class.specs.Seen.{World}
use Rattle.rtyper_program.specs.Graphs.{lowered_graph}
use Rattle.rtyper_program.specs.Program.{IsLaid}
use Rattle.rtyper_program.specs.Seen.{Known, is_reached}
use Rattle.growth_laws.specs.Growing.{Grows}
use Rattle.object_laws.specs.Known.{Known as Seen}
use Rattle.program_asks.specs.Standing.{first_in, last_in, numbers_in, world_in}
use Rattle.rtyped_laws.specs.Programs.{layout_for}
use Rattle.run_laws.specs.States.{IsLowered, Stands}
use Rattle.catch_laws.specs.Caught.{IsTold}
use Rattle.catch_laws.specs.Exits.{quiet_by}
use Rattle.rtyped_runs.specs.Programs.{KnowsGraphs, setting_of}
use Rattle.catch_runs.specs.Parts.{GraphIsDoneSo}

-- What is asked of the parts of a program that is lowered in this world. At each moment of the lowering the graphs that are told not to raise do not, and graphs
-- with a result give something.
pub record IsDoneSo (known : Known) (world : World) (seen : Seen) (numbers : Numbers) (first last : Found) (graphs : Graphs) (p : LlProgram) (arguments : List (List ℕ)) : Type 0 where
  pub same : graphs.graphs ≡ known.graphs
  pub knows : KnowsGraphs known world seen
  pub parts : (n : ℕ) (graph : Graph) → slice_get known.graphs n ≡ Some graph → is_reached known.annotation graph.function ≡ true
      → GraphIsDoneSo (setting_of known world seen graphs p arguments) numbers (lowered_graph known world n graph) first last
  pub told : (found : Found) → Grows first found → Grows found last → IsTold (setting_of known world seen graphs p arguments) (quiet_by found)
  pub few : (number : ℕ) (graph : LlGraph) → slice_get p.graphs number ≡ Some graph → length graph.blocks < 2 ^ 64

-- every program of the lowering whose parts are done so does what its flow graphs do, block by block
abbrev pub CatchingProgramsAreLowered : Type 0
CatchingProgramsAreLowered = (known : Known) (classes : Tables) (p : LlProgram) (r : IsLaid known classes p) (seen : Seen) (graphs : Graphs) (arguments : List (List ℕ))
    → length p.graphs < 2 ^ 64 → length (layout_for known classes).structs < 2 ^ 64
    → IsDoneSo known (world_in known classes (layout_for known classes) p r) seen (numbers_in known classes (layout_for known classes) p r) (first_in known classes (layout_for known classes) p r) (last_in known classes (layout_for known classes) p r) graphs p arguments
    → IsLowered (setting_of known (world_in known classes (layout_for known classes) p r) seen graphs p arguments)

-- So where the flow graphs end from a state on, such a program ends so from where it stands, if each operation that they come to is as the laws of operations ask.
abbrev pub CatchingProgramsRunOn : Type 0
CatchingProgramsRunOn = (known : Known) (classes : Tables) (p : LlProgram) (r : IsLaid known classes p) (seen : Seen) (graphs : Graphs) (arguments : List (List ℕ))
    → length p.graphs < 2 ^ 64 → length (layout_for known classes).structs < 2 ^ 64
    → IsDoneSo known (world_in known classes (layout_for known classes) p r) seen (numbers_in known classes (layout_for known classes) p r) (first_in known classes (layout_for known classes) p r) (last_in known classes (layout_for known classes) p r) graphs p arguments
    → (g : Ghost) (state : State) (from : low.State) → Stands (setting_of known (world_in known classes (layout_for known classes) p r) seen graphs p arguments) g state from
    → AreGood seen.program graphs (setting_of known (world_in known classes (layout_for known classes) p r) seen graphs p arguments).made (is_keyed (setting_of known (world_in known classes (layout_for known classes) p r) seen graphs p arguments)) (truth_known (setting_of known (world_in known classes (layout_for known classes) p r) seen graphs p arguments)) state
    → (k : ℕ) (end : Run) → run seen.program graphs k state ≡ Ended end
    → EndsIf (setting_of known (world_in known classes (layout_for known classes) p r) seen graphs p arguments) end.outcome (world_of state) end.world from

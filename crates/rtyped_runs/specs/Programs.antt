-- Programs that are made of flow graphs do what the graphs do, where their parts are done.
use Rattle.std.specs.Prelude.{◌≡◌, ◌<◌, ◌^◌, ℕ, true, false, List, length, slice_get, Some, unwrap_or}
use Rattle.class_desc.specs.Tables.{Tables}
use Rattle.flow_graph.specs.declared.graph.Graph.{Graph}
use Rattle.flow_graph.specs.declared.graph.Graphs.{Graphs}
use Rattle.flow_meaning.specs.Machine.{State, world_of}
use Rattle.flow_meaning.specs.Meaning.{Ended, run}
use Rattle.ll_code.specs.State as low
use Rattle.ll_code.specs.declared.program.LlProgram.{LlProgram}
use Rattle.ll_build.specs.declared.needs.Numbers.{Numbers}
use Rattle.rtyper_data.specs.declared.found.Found.{Found}
use Rattle.rtyper_class.specs.Seen.{World}
use Rattle.rtyper_program.specs.Graphs.{lowered_graph}
use Rattle.rtyper_program.specs.Program.{IsLaid}
use Rattle.rtyper_program.specs.Seen.{Known, is_reached, element_at, is_block_reached}
use Rattle.object_laws.specs.Ghost.{Ghost}
use Rattle.object_laws.specs.Known.{Known as Seen}
use Rattle.rpy_meaning.specs.Meaning.{Run}
use Rattle.program_asks.specs.Standing.{first_in, last_in, numbers_in, world_in}
use Rattle.rtyped_laws.specs.Programs.{layout_for}
use Rattle.flow_runs.specs.Runs.{AreGood}
use Rattle.run_laws.specs.Points.{Setting, is_keyed, truth_known}
use Rattle.run_laws.specs.States.{IsLowered, Stands}
use Rattle.run_laws.specs.Runs.{EndsIf}
use Rattle.block_laws.specs.Links.{types_in, graph_in}
use Rattle.rtyped_runs.specs.Parts.{GraphIsDone}

-- in which the graphs of a program are lowered
abbrev pub setting_of : Known → World → Seen → Graphs → LlProgram → List (List ℕ) → Setting
setting_of known world seen graphs p arguments = record {
  graphs = graphs;
  low = p;
  arguments = arguments;
  around = world.around;
  known = seen;
  element = element_at known.annotation;
  reached = is_block_reached known.annotation;
  size = λ f. length (types_in (graph_in p (seen.graph f)));
  made = λ c. unwrap_or (slice_get world.made c) false;
}

-- A function has the number of its graph exactly where it is reached.
pub record KnowsGraphs (known : Known) (world : World) (seen : Seen) : Type 0 where
  pub numbers : (n : ℕ) (graph : Graph) → slice_get known.graphs n ≡ Some graph → is_reached known.annotation graph.function ≡ true → seen.graph n ≡ slice_get world.around.numbers n
  pub only : (f number : ℕ) → seen.graph f ≡ Some number → (graph : Graph) × ((slice_get known.graphs f ≡ Some graph) × (is_reached known.annotation graph.function ≡ true))

-- what is asked of the parts of a program that is lowered in this world
pub record IsDone (known : Known) (world : World) (seen : Seen) (numbers : Numbers) (first last : Found) (graphs : Graphs) (p : LlProgram) (arguments : List (List ℕ)) : Type 0 where
  pub same : graphs.graphs ≡ known.graphs
  pub knows : KnowsGraphs known world seen
  pub parts : (n : ℕ) (graph : Graph) → slice_get known.graphs n ≡ Some graph → is_reached known.annotation graph.function ≡ true
      → GraphIsDone (setting_of known world seen graphs p arguments) numbers (lowered_graph known world n graph) first last

-- every program of the lowering whose parts are done does what its flow graphs do, block by block
abbrev pub ProgramsAreLowered : Type 0
ProgramsAreLowered = (known : Known) (classes : Tables) (p : LlProgram) (r : IsLaid known classes p) (seen : Seen) (graphs : Graphs) (arguments : List (List ℕ))
    → length p.graphs < 2 ^ 64 → length (layout_for known classes).structs < 2 ^ 64
    → IsDone known (world_in known classes (layout_for known classes) p r) seen (numbers_in known classes (layout_for known classes) p r) (first_in known classes (layout_for known classes) p r) (last_in known classes (layout_for known classes) p r) graphs p arguments
    → IsLowered (setting_of known (world_in known classes (layout_for known classes) p r) seen graphs p arguments)

-- Where the flow graphs end from a state on, such a program ends so from where it stands, if each operation that they come to is as the laws of
-- operations ask.
abbrev pub ProgramsRunOn : Type 0
ProgramsRunOn = (known : Known) (classes : Tables) (p : LlProgram) (r : IsLaid known classes p) (seen : Seen) (graphs : Graphs) (arguments : List (List ℕ))
    → length p.graphs < 2 ^ 64 → length (layout_for known classes).structs < 2 ^ 64
    → IsDone known (world_in known classes (layout_for known classes) p r) seen (numbers_in known classes (layout_for known classes) p r) (first_in known classes (layout_for known classes) p r) (last_in known classes (layout_for known classes) p r) graphs p arguments
    → (g : Ghost) (state : State) (from : low.State) → Stands (setting_of known (world_in known classes (layout_for known classes) p r) seen graphs p arguments) g state from
    → AreGood seen.program graphs (setting_of known (world_in known classes (layout_for known classes) p r) seen graphs p arguments).made (is_keyed (setting_of known (world_in known classes (layout_for known classes) p r) seen graphs p arguments)) (truth_known (setting_of known (world_in known classes (layout_for known classes) p r) seen graphs p arguments)) state
    → (k : ℕ) (end : Run) → run seen.program graphs k state ≡ Ended end
    → EndsIf (setting_of known (world_in known classes (layout_for known classes) p r) seen graphs p arguments) end.outcome (world_of state) end.world from

-- Programs that are made of flow graphs have the graph that calls the entry point.
use Rattle.std.specs.Prelude.{◌≡◌, ◌<◌, ◌^◌, ℕ, true, List, length, slice_get, Option, Some}
use Rattle.ann_element.specs.declared.element.Element.{Element}
use Rattle.csub_tree.specs.State.{Block}
use Rattle.class_desc.specs.Tables.{Tables}
use Rattle.flow_graph.specs.declared.graph.Graph.{Graph}
use Rattle.flow_graph.specs.declared.graph.Graphs.{Graphs}
use Rattle.flow_meaning.specs.Meaning.{Ended, run, start}
use Rattle.ll_code.specs.Machine as machine
use Rattle.ll_code.specs.declared.program.LlProgram.{LlProgram}
use Rattle.rpy_meaning.specs.Meaning.{Run, start as begin}
use Rattle.rpy_meaning.specs.Tree.{Program}
use Rattle.rtyper_layout.specs.declared.layout.Layout.{Layout}
use Rattle.rtyper_data.specs.declared.found.Found.{Found}
use Rattle.rtyper_data.specs.declared.small.Listed.TheVariants as listed
use Rattle.rtyper_data.specs.declared.small.Small.TheVariants as small
use Rattle.rtyper_class.specs.Seen.{World}
use Rattle.rtyper_program.specs.Entry.{entry_graph}
use Rattle.rtyper_program.specs.Program.{IsLaid, IsSettled}
use Rattle.rtyper_program.specs.Seen.{Known}
use Rattle.layout_laws.specs.Knowing.{AreClasses, known_of}
use Rattle.layout_laws.specs.Layouts.{IsNumbered}
use Rattle.program_asks.specs.Standing.{Stands, first_in, last_in, numbers_in, world_in}
use Rattle.rtyped_laws.specs.Programs.{layout_for}
use Rattle.rtyped_runs.specs.Programs.{IsDone, setting_of}
use Rattle.flow_runs.specs.Runs.{AreGood}
use Rattle.run_laws.specs.Points.{is_keyed, truth_known, Setting}
use Rattle.run_laws.specs.Runs.{EndsIf}
use Rattle.object_laws.specs.Ghost.{Home}
use Rattle.object_laws.specs.Known.{Known as Seen}
use Rattle.entry_laws.specs.Begins.{ArgumentsAreGiven}
use Rattle.entry_laws.specs.Classes.{AreNamed}
use Rattle.entry_laws.specs.Ends.{HasEntry}

-- A program begins at the graph that calls the entry point, and has the one that this calls for the list of arguments.
pub record EntryStands (known : Known) (world : World) (last : Found) (p : LlProgram) : Type 0 where
  pub arguments : ℕ
  pub entry : slice_get p.graphs p.entry ≡ Some (entry_graph world known.program.entry arguments)
  pub list : Stands p.graphs world last arguments (small.Listed (listed.Arguments world.around.layout.first_list))

abbrev pub EntriesStand : Type 0
EntriesStand = (known : Known) (classes : Tables) (layout : Layout) (p : LlProgram) (r : IsSettled known classes layout p) → length p.graphs < 2 ^ 64 → EntryStands known (world_in known classes layout p r) (last_in known classes layout p r) p

-- What is asked of a program and of its meaning.
pub record IsMeant (known : Known) (classes : Tables) (p : LlProgram) (r : IsLaid known classes p) (meant : Program) : Type 0 where
  -- its numbers are not too great
  pub graphs : length p.graphs < 2 ^ 64
  pub structs : length (layout_for known classes).structs < 2 ^ 64
  pub numbered : IsNumbered (world_in known classes (layout_for known classes) p r)
  -- the meaning has its classes, with their names, and its entry point
  pub bases : AreClasses meant.classes classes.classes
  pub names : AreNamed meant.classes known.program.classes
  pub entry : meant.entry ≡ known.program.entry

-- what the lowering knows of the program, where this is known of its lists and dicts, these statics stay, and those of modules stand there
abbrev pub seen_in : (known : Known) (classes : Tables) (p : LlProgram) → IsLaid known classes p → Program → (ℕ → Option Element) → (ℕ → Option Element) → (ℕ → Option Block) → (ℕ → Option Home) → Seen
seen_in known classes p r meant items keys static site = known_of (world_in known classes (layout_for known classes) p r) known.program known.annotation.reached meant items keys static site

abbrev pub setting_in : (known : Known) (classes : Tables) (p : LlProgram) → IsLaid known classes p → Seen → Graphs → List (List ℕ) → Setting
setting_in known classes p r seen graphs arguments = setting_of known (world_in known classes (layout_for known classes) p r) seen graphs p arguments

-- So what is asked of such a program to call its entry point holds.
abbrev pub ProgramsHaveEntries : Type 0
ProgramsHaveEntries = (known : Known) (classes : Tables) (p : LlProgram) (r : IsLaid known classes p) (meant : Program) (items keys : ℕ → Option Element) (static : ℕ → Option Block) (site : ℕ → Option Home) (graphs : Graphs) (arguments : List (List ℕ)) → IsMeant known classes p r meant
    → (stands : EntryStands known (world_in known classes (layout_for known classes) p r) (last_in known classes (layout_for known classes) p r) p)
    → HasEntry (world_in known classes (layout_for known classes) p r) (setting_in known classes p r (seen_in known classes p r meant items keys static site) graphs arguments) p.entry stands.arguments

-- the entry point has a flow graph, and is reached
pub record CallsEntry (known : Known) : Type 0 where
  pub graph : Graph
  pub stands : slice_get known.graphs known.program.entry ≡ Some graph
  pub reached : slice_get known.annotation.reached known.program.entry ≡ Some true

-- Where the parts of such a program are done, the list of arguments is made, and each operation of the run is as the laws of operations ask, its
-- whole run, from its start, ends as that of its flow graphs does, where that ends.
abbrev pub ProgramsRun : Type 0
ProgramsRun = (known : Known) (classes : Tables) (p : LlProgram) (r : IsLaid known classes p) (meant : Program) (items keys : ℕ → Option Element) (static : ℕ → Option Block) (site : ℕ → Option Home) (graphs : Graphs) (arguments : List (List ℕ)) (steps : ℕ) → IsMeant known classes p r meant
    → (stands : EntryStands known (world_in known classes (layout_for known classes) p r) (last_in known classes (layout_for known classes) p r) p)
    → CallsEntry known
    → IsDone known (world_in known classes (layout_for known classes) p r) (seen_in known classes p r meant items keys static site) (numbers_in known classes (layout_for known classes) p r) (first_in known classes (layout_for known classes) p r) (last_in known classes (layout_for known classes) p r) graphs p arguments
    → ArgumentsAreGiven (setting_in known classes p r (seen_in known classes p r meant items keys static site) graphs arguments) stands.arguments steps
    → AreGood meant graphs (setting_in known classes p r (seen_in known classes p r meant items keys static site) graphs arguments).made (is_keyed (setting_in known classes p r (seen_in known classes p r meant items keys static site) graphs arguments)) (truth_known (setting_in known classes p r (seen_in known classes p r meant items keys static site) graphs arguments)) (start meant arguments steps)
    → (k : ℕ) (end : Run) → run meant graphs k (start meant arguments steps) ≡ Ended end
    → EndsIf (setting_in known classes p r (seen_in known classes p r meant items keys static site) graphs arguments) end.outcome (begin meant arguments steps 0).world end.world (machine.start p steps)

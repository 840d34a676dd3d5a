-- Whole runs of programs that are made of flow graphs, lists and dicts of modules among their constants.
use Rattle.std.specs.Prelude.{◌≡◌, ◌<◌, ◌^◌, ℕ, List, length}
use Rattle.class_desc.specs.Tables.{Tables}
use Rattle.flow_graph.specs.declared.graph.Graphs.{Graphs}
use Rattle.flow_meaning.specs.Meaning.{Ended, run, start}
use Rattle.flow_runs.specs.Runs.{AreGood}
use Rattle.ll_code.specs.Machine as machine
use Rattle.ll_code.specs.declared.program.LlProgram.{LlProgram}
use Rattle.rpy_meaning.specs.Meaning.{Run, start as begin}
use Rattle.rpy_meaning.specs.Tree.{Program}
use Rattle.rtyper_program.specs.Program.{IsLaid}
use Rattle.rtyper_program.specs.Seen.{Known}
use Rattle.layout_laws.specs.Beginning.{AreBuiltin}
use Rattle.program_asks.specs.Standing.{first_in, last_in, numbers_in, world_in}
use Rattle.rtyped_laws.specs.Programs.{layout_for}
use Rattle.rtyped_runs.specs.Programs.{IsDone}
use Rattle.run_laws.specs.Points.{is_keyed, truth_known}
use Rattle.run_laws.specs.Runs.{EndsIf}
use Rattle.entry_laws.specs.Begins.{ArgumentsAreGiven}
use Rattle.entry_laws.specs.Programs.{CallsEntry, EntryStands, IsMeant, setting_in}
use Rattle.argument_laws.specs.Arguments.{CanBeGiven, TakesTexts}
use Rattle.start_laws.specs.Begins.{AreSites, seen_at}
use Rattle.start_laws.specs.Constants.{AreConstants}

-- What is asked of the statics, the classes and the constants of a program, and of its arguments, for a run of so many steps.
pub record CanStart (known : Known) (classes : Tables) (p : LlProgram) (r : IsLaid known classes p) (meant : Program) (graphs : Graphs) (arguments : List (List ℕ)) (steps : ℕ) : Type 0 where
  pub statics : length p.statics < 2 ^ 64
  pub builtin : AreBuiltin (world_in known classes (layout_for known classes) p r)
  pub sites : AreSites known.program.sites meant.sites
  pub constants : AreConstants (world_in known classes (layout_for known classes) p r).around (seen_at known classes p r meant) known.program.sites known.annotation.same steps
  pub takes : TakesTexts (setting_in known classes p r (seen_at known classes p r meant) graphs arguments) (layout_for known classes).first_list
  pub given : CanBeGiven arguments steps
  pub few : steps < 2 ^ 62

-- The entry point is given the list of arguments, over memory that represents the first objects.
abbrev pub ProgramsAreGivenArguments : Type 0
ProgramsAreGivenArguments = (known : Known) (classes : Tables) (p : LlProgram) (r : IsLaid known classes p) (meant : Program) (graphs : Graphs) (arguments : List (List ℕ)) (steps : ℕ)
    → IsMeant known classes p r meant → (stands : EntryStands known (world_in known classes (layout_for known classes) p r) (last_in known classes (layout_for known classes) p r) p)
    → CanStart known classes p r meant graphs arguments steps → ArgumentsAreGiven (setting_in known classes p r (seen_at known classes p r meant) graphs arguments) stands.arguments steps

-- So a whole run, from its start, ends as that of the flow graphs does, where that ends, the parts of the program are done, and each operation of
-- the run is as the laws of operations ask.
abbrev pub ProgramsRunFromTheStart : Type 0
ProgramsRunFromTheStart = (known : Known) (classes : Tables) (p : LlProgram) (r : IsLaid known classes p) (meant : Program) (graphs : Graphs) (arguments : List (List ℕ)) (steps : ℕ)
    → IsMeant known classes p r meant → CallsEntry known → CanStart known classes p r meant graphs arguments steps
    → IsDone known (world_in known classes (layout_for known classes) p r) (seen_at known classes p r meant) (numbers_in known classes (layout_for known classes) p r) (first_in known classes (layout_for known classes) p r) (last_in known classes (layout_for known classes) p r) graphs p arguments
    → AreGood meant graphs (setting_in known classes p r (seen_at known classes p r meant) graphs arguments).made (is_keyed (setting_in known classes p r (seen_at known classes p r meant) graphs arguments)) (truth_known (setting_in known classes p r (seen_at known classes p r meant) graphs arguments)) (start meant arguments steps)
    → (k : ℕ) (end : Run) → run meant graphs k (start meant arguments steps) ≡ Ended end
    → EndsIf (setting_in known classes p r (seen_at known classes p r meant) graphs arguments) end.outcome (begin meant arguments steps 0).world end.world (machine.start p steps)

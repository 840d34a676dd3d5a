-- In programs that are made of flow graphs the list of arguments is given.
use Rattle.flow_runs.specs.Runs.{AreGood}
use Rattle.run_laws.specs.Points.{is_keyed, truth_known}
use Rattle.std.specs.Prelude.{◌≡◌, ◌<◌, ◌^◌, ℕ, List, length, Option, None}
use Rattle.ann_element.specs.declared.element.Element.{Element}
use Rattle.csub_tree.specs.State.{Block}
use Rattle.class_desc.specs.Tables.{Tables}
use Rattle.flow_graph.specs.declared.graph.Graphs.{Graphs}
use Rattle.flow_meaning.specs.Meaning.{Ended, run, start}
use Rattle.ll_code.specs.Machine as machine
use Rattle.rpy_meaning.specs.Meaning.{Run, start as begin}
use Rattle.rtyped_runs.specs.Programs.{IsDone}
use Rattle.run_laws.specs.Runs.{EndsIf}
use Rattle.ll_code.specs.declared.program.LlProgram.{LlProgram}
use Rattle.rpy_meaning.specs.Tree.{Program}
use Rattle.rtyper_program.specs.Program.{IsLaid}
use Rattle.rtyper_program.specs.Seen.{Known}
use Rattle.layout_laws.specs.Beginning.{AreBuiltin, AreStatics}
use Rattle.program_asks.specs.Standing.{first_in, last_in, numbers_in, world_in}
use Rattle.rtyped_laws.specs.Programs.{layout_for}
use Rattle.entry_laws.specs.Begins.{ArgumentsAreGiven}
use Rattle.entry_laws.specs.Programs.{CallsEntry, EntryStands, IsMeant, seen_in, setting_in}
use Rattle.argument_laws.specs.Arguments.{CanBeGiven, HasArguments, TakesTexts}

-- the graph has its number, with the one that it makes the list by
abbrev pub ProgramsHaveArguments : Type 0
ProgramsHaveArguments = (known : Known) (classes : Tables) (p : LlProgram) (r : IsLaid known classes p) → length p.graphs < 2 ^ 64
    → (stands : EntryStands known (world_in known classes (layout_for known classes) p r) (last_in known classes (layout_for known classes) p r) p)
    → HasArguments p (layout_for known classes) (layout_for known classes).first_list stands.arguments

-- The entry point takes a list of strings, and the arguments are strings. Of the first objects builtin exceptions alone are seen.
abbrev pub ProgramsAreGivenArguments : Type 0
ProgramsAreGivenArguments = (known : Known) (classes : Tables) (p : LlProgram) (r : IsLaid known classes p) (meant : Program) (items keys : ℕ → Option Element) (static : ℕ → Option Block) (graphs : Graphs) (arguments : List (List ℕ)) (steps : ℕ)
    → IsMeant known classes p r meant → (stands : EntryStands known (world_in known classes (layout_for known classes) p r) (last_in known classes (layout_for known classes) p r) p)
    → length p.statics < 2 ^ 64 → AreBuiltin (world_in known classes (layout_for known classes) p r) → AreStatics (world_in known classes (layout_for known classes) p r) p static
    → TakesTexts (setting_in known classes p r (seen_in known classes p r meant items keys static (λ s. None)) graphs arguments) (layout_for known classes).first_list
    → CanBeGiven arguments steps → steps < 2 ^ 62
    → ArgumentsAreGiven (setting_in known classes p r (seen_in known classes p r meant items keys static (λ s. None)) graphs arguments) stands.arguments steps

-- So a whole run, from its start, ends as that of the flow graphs does, where that ends, the parts of the program are done, and each operation of
-- the run is as the laws of operations ask.
abbrev pub ProgramsRunWithArguments : Type 0
ProgramsRunWithArguments = (known : Known) (classes : Tables) (p : LlProgram) (r : IsLaid known classes p) (meant : Program) (items keys : ℕ → Option Element) (static : ℕ → Option Block) (graphs : Graphs) (arguments : List (List ℕ)) (steps : ℕ)
    → IsMeant known classes p r meant → CallsEntry known
    → length p.statics < 2 ^ 64 → AreBuiltin (world_in known classes (layout_for known classes) p r) → AreStatics (world_in known classes (layout_for known classes) p r) p static
    → TakesTexts (setting_in known classes p r (seen_in known classes p r meant items keys static (λ s. None)) graphs arguments) (layout_for known classes).first_list
    → CanBeGiven arguments steps → steps < 2 ^ 62
    → IsDone known (world_in known classes (layout_for known classes) p r) (seen_in known classes p r meant items keys static (λ s. None)) (numbers_in known classes (layout_for known classes) p r) (first_in known classes (layout_for known classes) p r) (last_in known classes (layout_for known classes) p r) graphs p arguments
    → AreGood meant graphs (setting_in known classes p r (seen_in known classes p r meant items keys static (λ s. None)) graphs arguments).made (is_keyed (setting_in known classes p r (seen_in known classes p r meant items keys static (λ s. None)) graphs arguments)) (truth_known (setting_in known classes p r (seen_in known classes p r meant items keys static (λ s. None)) graphs arguments)) (start meant arguments steps)
    → (k : ℕ) (end : Run) → run meant graphs k (start meant arguments steps) ≡ Ended end
    → EndsIf (setting_in known classes p r (seen_in known classes p r meant items keys static (λ s. None)) graphs arguments) end.outcome (begin meant arguments steps 0).world end.world (machine.start p steps)

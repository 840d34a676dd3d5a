-- Whole runs, of programs that catch exceptions, and of those that passed their checks.
use Rattle.std.specs.Prelude.{◌≡◌, ℕ, true, List, slice_get, Some}
use Rattle.class_desc.specs.Tables.{Tables}
use Rattle.flow_graph.specs.declared.graph.Graph.{Graph}
use Rattle.flow_graph.specs.declared.graph.Graphs.{Graphs}
use Rattle.flow_meaning.specs.Meaning.{Ended, run, start}
use Rattle.flow_runs.specs.Runs.{AreGood}
use Rattle.ll_code.specs.declared.program.LlProgram.{LlProgram}
use Rattle.ll_code.specs.Machine as machine
use Rattle.rpy_meaning.specs.Meaning.{Run, start as begin}
use Rattle.rpy_meaning.specs.Tree.{Program}
use Rattle.rtyper_program.specs.Program.{IsLaid}
use Rattle.rtyper_program.specs.Seen.{Known, is_reached}
use Rattle.program_asks.specs.Standing.{first_in, last_in, numbers_in, world_in}
use Rattle.rtyped_laws.specs.Programs.{layout_for}
use Rattle.rtyped_runs.specs.Premises.{AreOwn}
use Rattle.rtyped_runs.specs.Programs.{KnowsGraphs}
use Rattle.run_laws.specs.Points.{is_keyed, truth_known}
use Rattle.run_laws.specs.Runs.{EndsIf}
use Rattle.entry_laws.specs.Programs.{CallsEntry, IsMeant, setting_in}
use Rattle.start_laws.specs.Begins.{seen_at}
use Rattle.start_runs.specs.Programs.{CanStart}
use Rattle.catch_runs.specs.Programs.{IsDoneSo}
use Rattle.told_graphs.specs.Told.{FunctionsAreSmall}
use Rattle.typed_rows.specs.Programs.{Typed, IsTyped, first, last, setting, world}
use Rattle.typed_links.specs.Exits.{IsChecked}
use Rattle.typed_runs.specs.Graphs.{GraphIsReady, OperationsStand}

-- Of a program of the lowering whose parts are done, exits that catch among them, the whole run, from its start, ends as that of its flow graphs does, where that ends and
-- each operation and test of the run is as laws of runs ask.
abbrev pub CatchingProgramsRun : Type 0
CatchingProgramsRun = (known : Known) (classes : Tables) (p : LlProgram) (r : IsLaid known classes p) (meant : Program) (graphs : Graphs) (arguments : List (List ℕ)) (steps : ℕ)
    → IsMeant known classes p r meant → CallsEntry known → CanStart known classes p r meant graphs arguments steps
    → IsDoneSo known (world_in known classes (layout_for known classes) p r) (seen_at known classes p r meant) (numbers_in known classes (layout_for known classes) p r) (first_in known classes (layout_for known classes) p r) (last_in known classes (layout_for known classes) p r) graphs p arguments
    → AreGood meant graphs (setting_in known classes p r (seen_at known classes p r meant) graphs arguments).made (is_keyed (setting_in known classes p r (seen_at known classes p r meant) graphs arguments)) (truth_known (setting_in known classes p r (seen_at known classes p r meant) graphs arguments)) (start meant arguments steps)
    → (k : ℕ) (end : Run) → run meant graphs k (start meant arguments steps) ≡ Ended end
    → EndsIf (setting_in known classes p r (seen_at known classes p r meant) graphs arguments) end.outcome (begin meant arguments steps 0).world end.world (machine.start p steps)

-- What is left to ask of a program that passed its checks: each function has the number of its graph, graphs are ready, and have fewer than 2^64 blocks.
pub record IsReady (t : Typed) : Type 0 where
  pub own : AreOwn t.known.graphs
  pub knows : KnowsGraphs t.known (world t) t.seen
  pub graphs : (g : ℕ) (graph : Graph) → slice_get t.known.graphs g ≡ Some graph → is_reached t.known.annotation graph.function ≡ true → GraphIsReady t g graph
  pub functions : FunctionsAreSmall t.known (world t) (first t) (last t)

-- Then its whole run ends as that of its flow graphs does.
abbrev pub TypedProgramsRun : Type 0
TypedProgramsRun = (t : Typed) → IsTyped t → IsChecked t → OperationsStand t → IsReady t → (meant : Program) → t.seen ≡ seen_at t.known t.classes t.p t.made meant → (steps : ℕ)
    → IsMeant t.known t.classes t.p t.made meant → CallsEntry t.known → CanStart t.known t.classes t.p t.made meant t.graphs t.arguments steps
    → AreGood meant t.graphs (setting t).made (is_keyed (setting t)) (truth_known (setting t)) (start meant t.arguments steps)
    → (k : ℕ) (end : Run) → run meant t.graphs k (start meant t.arguments steps) ≡ Ended end
    → EndsIf (setting t) end.outcome (begin meant t.arguments steps 0).world end.world (machine.start t.p steps)

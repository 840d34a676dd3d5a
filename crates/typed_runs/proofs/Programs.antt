-- Whole runs.
use Rattle.std.proofs.Common.{◌≡◌, ℕ, Some, length, refl, ap, ◌∙◌, sym, subst}
use Rattle.std.specs.Prelude.{slice_get}
use Rattle.flow_meaning.specs.Meaning.{start}
use Rattle.rpy_meaning.specs.Meaning.{start as begin}
use Rattle.flow_runs.specs.Runs.{AreGood}
use Rattle.ll_code.specs.Machine as machine
use Rattle.ll_helpers.specs.Helpers.{helpers}
use Rattle.rtyper_program.specs.Entry.{number_of}
use Rattle.layout_laws.specs.Knowing.{graph_if}
use Rattle.program_asks.specs.Standing.{world_in}
use Rattle.object_laws.specs.Known.{Known as Seen}
use Rattle.rtyped_laws.specs.Programs.{layout_for}
use Rattle.rtyped_runs.specs.Programs.{setting_of}
use Rattle.run_laws.specs.Points.{is_keyed, truth_known}
use Rattle.run_laws.specs.Runs.{EndsIf}
use Rattle.entry_laws.specs.Programs.{setting_in}
use Rattle.entry_laws.proofs.Beginning.{whole_runs_are_followed}
use Rattle.entry_laws.proofs.Programs.{entries_stand, numbered, programs_have_entries}
use Rattle.start_laws.specs.Begins.{built_in, seen_at}
use Rattle.start_laws.specs.Knowing.{home_of, items_of, keys_of, static_of}
use Rattle.start_runs.proofs.Programs.{programs_are_given_arguments}
use Rattle.catch_runs.specs.Programs.{IsDoneSo}
use Rattle.catch_runs.proofs.Whole.{catching_programs_are_lowered}
use Rattle.told_graphs.proofs.Sufficing.{parts_suffice}
use Rattle.typed_rows.specs.Programs.{Typed, IsTyped, first, last, numbers, world}
use Rattle.typed_links.specs.Exits.{IsChecked}
use Rattle.typed_runs.specs.Graphs.{OperationsStand}
use Rattle.typed_runs.specs.Programs.{CatchingProgramsRun, IsReady, TypedProgramsRun}
use Rattle.typed_runs.proofs.Graphs.{graphs_are_done}

pub catching_programs_run : CatchingProgramsRun
catching_programs_run known classes p r meant graphs arguments steps is calls can done good k end ran =
    let w = world_in known classes (layout_for known classes) p r in
    let seen = seen_at known classes p r meant in
    let s = setting_in known classes p r seen graphs arguments in
    let stands = entries_stand known classes (layout_for known classes) p r is.graphs in
    let number : seen.graph known.program.entry ≡ Some (number_of w known.program.entry) =
    ap (λ reached. graph_if reached (slice_get w.around.numbers known.program.entry)) calls.reached ∙ numbered known.annotation (length (helpers (layout_for known classes).structs r.needs).graphs) known.program.entry known.graphs calls.graph calls.stands in
    whole_runs_are_followed w s p.entry stands.arguments steps (record {
      has = programs_have_entries known classes p r meant (items_of (layout_for known classes) known.annotation) (keys_of (layout_for known classes) known.annotation) (static_of p (layout_for known classes)) (home_of w.around known.program.sites known.annotation.same (built_in known classes p r).prebuilt) graphs arguments is stands;
      first = refl;
      entry = subst (λ (f : ℕ). seen.graph f ≡ Some (number_of w f)) (sym is.entry) number;
    }) (programs_are_given_arguments known classes p r meant graphs arguments steps is stands can) (catching_programs_are_lowered known classes p r seen graphs arguments is.graphs is.structs done) good k end ran

module _ (t : Typed) (typed : IsTyped t) (checked : IsChecked t) (so : OperationsStand t) (ready : IsReady t) where
  parts_done : IsDoneSo t.known (world t) t.seen (numbers t) (first t) (last t) t.graphs t.p t.arguments
  parts_done = parts_suffice t.known t.classes t.p t.made t.seen t.graphs t.arguments typed.small.graphs (record {
    same = checked.graphs;
    knows = ready.knows;
    parts = λ g graph of reached. graphs_are_done t typed checked so g graph (ap (λ gs. slice_get gs g) checked.graphs ∙ of) (ready.own g graph of) (ready.graphs g graph of reached);
    functions = ready.functions;
  })

pub typed_programs_run : TypedProgramsRun
typed_programs_run t typed checked so ready meant seen steps is calls can good k end ran = by t.seen seen (parts_done t typed checked so ready) good
  where
    by : (u : Seen) → u ≡ seen_at t.known t.classes t.p t.made meant → IsDoneSo t.known (world t) u (numbers t) (first t) (last t) t.graphs t.p t.arguments
        → AreGood meant t.graphs (setting_of t.known (world t) u t.graphs t.p t.arguments).made (is_keyed (setting_of t.known (world t) u t.graphs t.p t.arguments)) (truth_known (setting_of t.known (world t) u t.graphs t.p t.arguments)) (start meant t.arguments steps)
        → EndsIf (setting_of t.known (world t) u t.graphs t.p t.arguments) end.outcome (begin meant t.arguments steps 0).world end.world (machine.start t.p steps)
    by u e done good = subst (λ u. EndsIf (setting_of t.known (world t) u t.graphs t.p t.arguments) end.outcome (begin meant t.arguments steps 0).world end.world (machine.start t.p steps)) (sym e)
        (catching_programs_run t.known t.classes t.p t.made meant t.graphs t.arguments steps is calls can
        (subst (λ u. IsDoneSo t.known (world t) u (numbers t) (first t) (last t) t.graphs t.p t.arguments) e done)
        (subst (λ u. AreGood meant t.graphs (setting_of t.known (world t) u t.graphs t.p t.arguments).made (is_keyed (setting_of t.known (world t) u t.graphs t.p t.arguments)) (truth_known (setting_of t.known (world t) u t.graphs t.p t.arguments)) (start meant t.arguments steps)) e good) k end ran)

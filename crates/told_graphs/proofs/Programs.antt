-- What is told of the graphs of every program of the lowering is so, and the tests of handlers stand.
use Rattle.std.proofs.Common.{◌≡◌, ◌<◌, ◌^◌, ℕ, false, length, slice_get, Some, sym, subst, ◌∙◌}
use Rattle.ll_code.specs.declared.program.LlProgram.{LlProgram}
use Rattle.ll_helpers.specs.Helpers.{helper_graphs}
use Rattle.rtyper_layout.specs.declared.layout.Layout.{Layout}
use Rattle.rtyper_data.specs.declared.found.Found.{Found}
use Rattle.rtyper_class.specs.Seen.{World}
use Rattle.rtyper_program.specs.Handlers.{test_of}
use Rattle.rtyper_program.specs.Program.{IsLaid, pass}
use Rattle.rtyper_program.specs.Seen.{Known}
use Rattle.class_desc.specs.Tables.{Tables}
use Rattle.growth_laws.specs.Growing.{Grows}
use Rattle.program_asks.specs.Standing.{last_in, world_in}
use Rattle.program_asks.proofs.Programs.{programs_have_asked}
use Rattle.program_asks.proofs.WritingBlocks.{programs_only_ask}
use Rattle.object_laws.specs.Known.{Known as Seen}
use Rattle.rtyped_laws.specs.Programs.{layout_for}
use Rattle.rtyped_runs.specs.Programs.{KnowsGraphs}
use Rattle.catch_laws.specs.Exits.{quiet_by}
use Rattle.told_laws.proofs.Giving.{graphs_give_values}
use Rattle.told_laws.proofs.Quiet.{quiet_graphs_never_throw}
use Rattle.told_graphs.specs.Told.{ProgramsAreTold, TestsStand, silent_in}
use Rattle.told_graphs.proofs.Closing.{quiet_stays_quiet, silent_graphs_are_closed, some, stands}
use Rattle.told_graphs.proofs.Functions.{functions_are_loud, functions_lie}
use Rattle.told_graphs.proofs.GivingPrograms.{graphs_always_give}

module _ (known : Known) (classes : Tables) (p : LlProgram) (r : IsLaid known classes p) (few : length p.graphs < 2 ^ 64) where
  abbrev layout : Layout
  layout = layout_for known classes

  abbrev world : World
  world = world_in known classes (layout_for known classes) p r

  abbrev last : Found
  last = last_in known classes (layout_for known classes) p r

  few_made : length (pass known classes (layout_for known classes) r.needs r.caught r.count).0.graphs < 2 ^ 64
  few_made = subst (λ (q : LlProgram). length q.graphs < 2 ^ 64) r.written few

  loud : (seen : Seen) → KnowsGraphs known world seen → (found : Found) → Grows found last → (f number : ℕ) → seen.graph f ≡ Some number → quiet_by found number ≡ false
  loud seen knows found late f number e =
      let it = knows.only f number e in
      let there : slice_get world.around.numbers f ≡ Some number = sym (knows.numbers f it.0 it.1.0 it.1.1) ∙ e in
      functions_are_loud (pass known classes layout r.needs r.caught r.count).0.graphs world (helper_graphs r.needs (length layout.structs)) r.needs last
      (stands known classes layout r.needs r.caught r.count r.no_small_more r.no_helper_more r.paired few_made) (some known classes layout r.needs r.caught r.count r.no_small_more r.no_helper_more r.paired few_made) found late number
      (functions_lie known classes layout r.needs r.caught r.count few_made f it.0 number it.1.0 it.1.1 there)

pub programs_are_told : ProgramsAreTold
programs_are_told known classes p r seen graphs arguments few knows found late = record {
  silent = λ g h values core end text x path. quiet_graphs_never_throw p arguments (silent_in known classes (layout_for known classes) p r) (silent_graphs_are_closed known classes (layout_for known classes) p r few)
      g (quiet_stays_quiet known classes (layout_for known classes) p r few found late g h) values core end text x path;
  loud = loud known classes p r few seen knows found late;
  gives = graphs_give_values p arguments (graphs_always_give known classes (layout_for known classes) p r);
}

pub tests_stand : TestsStand
unfolding test_of
tests_stand known classes layout p r few raised class found late =
    let it = (programs_have_asked known classes layout p r (programs_only_ask known (world_in known classes layout p r))).smalls few (test_of (world_in known classes layout p r) class) found late in
    record { made = it.made; graph = it.graph; raises = tt }

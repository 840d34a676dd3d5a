-- The graph that calls the entry point is the last one of a program.
use Rattle.std.proofs.Common.{◌≡◌, ◌<◌, ℕ, zero, suc, ◌+◌, ◌-◌, List, [], ◌∷◌, ◌++◌, length, Some, None, refl, sym, ap, ◌∙◌, subst, arith}
use Rattle.std.specs.Prelude.{◌^◌, slice_get, unwrap_or}
use Rattle.ann_element.specs.declared.annotation.Annotation.{Annotation}
use Rattle.flow_graph.specs.declared.graph.Graph.{Graph}
use Rattle.class_desc.specs.Tables.{Tables}
use Rattle.ll_code.specs.declared.program.LlGraph.{LlGraph}
use Rattle.ll_code.specs.declared.program.LlProgram.{LlProgram}
use Rattle.ll_build.specs.declared.needs.Need.{Need}
use Rattle.ll_helpers.specs.Helpers.{helpers}
use Rattle.rpy_meaning.specs.declared.row.Covers.{Covers}
use Rattle.rtyper_layout.specs.declared.layout.Layout.{Layout}
use Rattle.rtyper_data.specs.declared.small.Listed.TheVariants as listed
use Rattle.rtyper_data.specs.declared.small.Small.TheVariants as small
use Rattle.rtyper_program.specs.Entry.{entry_graph, number_of}
use Rattle.rtyper_program.specs.Program.{all_graphs, arguments_number, found_first, next_number, numbers_from, pass, plain_graphs, world_behind}
use Rattle.rtyper_program.specs.Seen.{Known}
use Rattle.growth_laws.proofs.Fronts.{last_one, longer}
use Rattle.layout_laws.specs.Knowing.{graph_if}
use Rattle.layout_laws.proofs.Knowing.{classes_are_known}
use Rattle.program_asks.specs.Standing.{last_in, world_in}
use Rattle.program_asks.proofs.Passes.{all, asked_stand, plain, smalls_grow_to}
use Rattle.program_asks.proofs.WritingBlocks.{programs_only_ask}
use Rattle.rtyped_laws.specs.Programs.{layout_for}
use Rattle.rtyped_laws.proofs.Programs.{classes_are_laid, layouts_are_had_by_programs, worlds_are_of_programs}
use Rattle.rtyped_runs.proofs.Whole.{programs_are_lowered}
use Rattle.entry_laws.specs.Programs.{EntriesStand, EntryStands, ProgramsHaveEntries, ProgramsRun, seen_in, setting_in}
use Rattle.entry_laws.proofs.Beginning.{whole_runs_are_followed}
use Rattle.entry_laws.proofs.Naming.{exceptions_are_laid, names_are_written}

last_is : (graphs : List LlGraph) (g : LlGraph) → slice_get (graphs ++ g ∷ []) (length (graphs ++ g ∷ []) - 1) ≡ Some g
last_is graphs g = (let n : length (graphs ++ g ∷ []) - 1 ≡ length graphs = (let e : length (graphs ++ g ∷ []) ≡ length graphs + 1 = longer graphs g in omega (arith, e)) in ap (slice_get (graphs ++ g ∷ [])) n ∙ last_one graphs g)

stands_in_pass : (known : Known) (classes : Tables) (layout : Layout) (needs : List Need) (caught : List Covers) (count : ℕ)
    → slice_get (pass known classes layout needs caught count).1.smalls count ≡ None → length (pass known classes layout needs caught count).0.graphs < 2 ^ 64
    → EntryStands known (world_behind known classes layout (helpers layout.structs needs)) (pass known classes layout needs caught count).1 (pass known classes layout needs caught count).0
unfolding pass all_graphs plain_graphs
stands_in_pass known classes layout needs caught count none few =
    let helped = helpers layout.structs needs in
    let world = world_behind known classes layout helped in
    let only = programs_only_ask known world in
    let first = found_first known world helped needs caught in
    let before = plain known world only helped.graphs first in
    let number = arguments_number world before.1 in
    record {
      arguments = number.0;
      entry = last_is (all known world only helped.graphs first count).0 (entry_graph world known.program.entry number.0);
      list = asked_stand known classes layout needs caught count only none few (small.Listed (listed.Arguments world.around.layout.first_list)) before.1 (smalls_grow_to world only.smalls count (before.0, number.1));
    }

pub entries_stand : EntriesStand
entries_stand known classes layout p r few =
    subst (λ (q : LlProgram). EntryStands known (world_in known classes layout p r) (last_in known classes layout p r) q) (sym r.written)
    (stands_in_pass known classes layout r.needs r.caught r.count r.no_small_more (subst (λ (q : LlProgram). length q.graphs < 2 ^ 64) r.written few))

pub programs_have_entries : ProgramsHaveEntries
programs_have_entries known classes p r meant items keys static site graphs arguments is stands =
    let world = world_in known classes (layout_for known classes) p r in
    let of = classes_are_known world known.program known.annotation.reached meant items keys static site is.numbered.forest is.bases in
    record {
      around = refl;
      graph = stands.entry ∙ ap (λ f. Some (entry_graph world f stands.arguments)) (sym is.entry);
      structs = layouts_are_had_by_programs known classes p r is.structs;
      of = of;
      out = classes_are_laid known classes p r _ is.numbered (λ class name. refl);
      names = names_are_written world known.program known.annotation.reached meant items keys static site is.names;
      top = exceptions_are_laid known.program known.annotation _ world _ (worlds_are_of_programs known classes p r) is.numbered of;
    }

-- ---- whole runs

-- a flow graph that there is has a number
pub numbered : (a : Annotation) (n f : ℕ) (gs : List Graph) (g : Graph) → slice_get gs f ≡ Some g → slice_get (numbers_from a n gs) f ≡ Some (unwrap_or (slice_get (numbers_from a n gs) f) 0)
numbered a n f [] g e = absurd (cc)
numbered a n zero (x ∷ gs) g e = refl
numbered a n (suc f) (x ∷ gs) g e = numbered a (next_number a n x) f gs g e

pub programs_run : ProgramsRun
programs_run known classes p r meant items keys static site graphs arguments steps is stands calls done list good k end ran =
    let world = world_in known classes (layout_for known classes) p r in
    let seen = seen_in known classes p r meant items keys static site in
    let s = setting_in known classes p r seen graphs arguments in
    let number : seen.graph known.program.entry ≡ Some (number_of world known.program.entry) =
    ap (λ reached. graph_if reached (slice_get world.around.numbers known.program.entry)) calls.reached ∙ numbered known.annotation (length (helpers (layout_for known classes).structs r.needs).graphs) known.program.entry known.graphs calls.graph calls.stands in
    whole_runs_are_followed world s p.entry stands.arguments steps (record {
      has = programs_have_entries known classes p r meant items keys static site graphs arguments is stands;
      first = refl;
      entry = subst (λ (f : ℕ). seen.graph f ≡ Some (number_of world f)) (sym is.entry) number;
    }) list (programs_are_lowered known classes p r seen graphs arguments is.graphs is.structs done) good k end ran

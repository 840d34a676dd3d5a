-- The graphs that helpers call stand at their numbers: they fail nowhere, so they raise nothing.
use Rattle.std.proofs.Common.{◌≡◌, ◌≤◌, ℕ, Bool, true, false, ◌&&◌, List, [], ◌∷◌, ◌++◌, length, slice_get, Some, None, refl, sym, ap, subst, ◌∙◌, arith, append_assoc}
use Rattle.std.proofs.lemmas.List.{append-nil}
use Rattle.ll_code.specs.declared.program.LlExit.{LlExit}
use Rattle.ll_code.specs.declared.program.LlExit.TheVariants as exit
use Rattle.ll_code.specs.declared.program.LlBlock.{LlBlock}
use Rattle.ll_code.specs.declared.program.LlGraph.{LlGraph}
use Rattle.csub_tree.specs.declared.tree.CStatic.{CStatic}
use Rattle.ll_build.specs.Needs.{all_shared, numbers_of, uses}
use Rattle.ll_build.specs.declared.needs.Helper.{Helper}
use Rattle.ll_build.specs.declared.needs.Need.{Need}
use Rattle.ll_build.specs.declared.needs.Numbers.{Numbers}
use Rattle.ll_build.specs.declared.needs.Shared.{Shared}
use Rattle.ll_build.specs.declared.needs.Shared.TheVariants as shared
use Rattle.ll_helpers.specs.Helpers.{helper_graphs, helpers, shared_graph}
use Rattle.ll_strings.specs.Laws.{number_in}
use Rattle.ll_strings.proofs.Lookup.{shared_found}
use Rattle.class_desc.specs.Tables.{Tables}
use Rattle.rpy_meaning.specs.declared.row.Covers.{Covers}
use Rattle.rtyper_layout.specs.declared.layout.Layout.{Layout}
use Rattle.rtyper_data.specs.declared.found.Found.{Found}
use Rattle.rtyper_data.specs.Finding.{helper_number}
use Rattle.rtyper_op.specs.Prebuilt.{prebuilt}
use Rattle.rtyper_raising.specs.Raising.{caught_at, failing_with, raising_block, raising_blocks, raising_graph, raising_graphs, with_block}
use Rattle.rtyper_class.specs.Vtables.{exceptions, vtables}
use Rattle.rtyper_program.specs.Entry.{entry_graph}
use Rattle.rtyper_program.specs.Program.{all_graphs, arguments_number, found_first, pass, plain_graphs, world_behind}
use Rattle.rtyper_program.specs.Seen.{Known}
use Rattle.growth_laws.specs.Growing.{Grows}
use Rattle.growth_laws.proofs.Fronts.{in_front, no_shorter, whole}
use Rattle.program_asks.specs.Standing.{OnlyAsks}
use Rattle.program_asks.proofs.Helpers.{functions_front, known_helper, raised_at, smalls_front}
use Rattle.program_asks.proofs.Passes.{all, all_grow, plain}

-- ---- what fails nowhere

abbrev no_failure : LlExit → Bool
no_failure (exit.Fail n) = false
no_failure other = true

abbrev no_failures : List LlBlock → Bool
no_failures [] = true
no_failures (block ∷ blocks) = no_failure block.exit && no_failures blocks

and_first : (a b : Bool) → (a && b) ≡ true → a ≡ true
and_first true b h = refl
and_first false b h = h

and_second : (a b : Bool) → (a && b) ≡ true → b ≡ true
and_second true b h = h
and_second false b h = absurd (cc)

fails_with_none : (e : LlExit) (c : Covers) → no_failure e ≡ true → failing_with e c ≡ None
fails_with_none (exit.Fail n) c h = absurd (cc)
fails_with_none _ c h = refl

blocks_stay : (c : Covers) (blocks : List LlBlock) (found : Found) → no_failures blocks ≡ true → raising_blocks c blocks found ≡ (blocks, found)
blocks_stay c [] found h = refl
blocks_stay c (block ∷ blocks) found h =
    ap (λ o. with_block (raising_block block o found) (λ next. raising_blocks c blocks next)) (fails_with_none block.exit c (and_first (no_failure block.exit) (no_failures blocks) h))
    ∙ ap (λ (r : List LlBlock × Found). (block ∷ r.0, r.1)) (blocks_stay c blocks found (and_second (no_failure block.exit) (no_failures blocks) h))

pub graph_stays : (c : Covers) (graph : LlGraph) (found : Found) → no_failures graph.blocks ≡ true → raising_graph c graph found ≡ graph
graph_stays c graph found h = ap (λ (r : List LlBlock × Found). record graph { blocks = r.0 }) (blocks_stay c graph.blocks found h)

shared_fails_nowhere : (numbers : Numbers) (g : Shared) → no_failures (shared_graph numbers g).blocks ≡ true
shared_fails_nowhere numbers shared.PrintDigits = refl
shared_fails_nowhere numbers shared.PutBytes = refl
shared_fails_nowhere numbers shared.CopyBytes = refl
shared_fails_nowhere numbers shared.StringPart = refl
shared_fails_nowhere numbers shared.RepeatBytes = refl
shared_fails_nowhere numbers shared.AlikeBytes = refl
shared_fails_nowhere numbers shared.FindBytes = refl
shared_fails_nowhere numbers shared.LessBytes = refl
shared_fails_nowhere numbers shared.CountDigits = refl
shared_fails_nowhere numbers shared.WriteDigits = refl
shared_fails_nowhere numbers shared.IsSpace = refl
shared_fails_nowhere numbers shared.SkipForwards = refl
shared_fails_nowhere numbers shared.SkipBackwards = refl

-- ---- in a pass

module _ (known : Known) (classes : Tables) (layout : Layout) (needs : List Need) (caught : List Covers) (count : ℕ) (only : OnlyAsks known (world_behind known classes layout (helpers layout.structs needs))) where
  -- the graph of a helper, or of one that helpers call, with some failures raised
  pub front_stands : (n : ℕ) (x : LlGraph) → slice_get (helpers layout.structs needs).graphs n ≡ Some x → (made : Found) × (c : Covers) × (slice_get (pass known classes layout needs caught count).0.graphs n ≡ Some (raising_graph c x made))
  unfolding pass all_graphs plain_graphs
  front_stands n x e =
      let helped = helpers layout.structs needs in
      let world = world_behind known classes layout helped in
      let first = found_first known world helped needs caught in
      let p = prebuilt world.around known.program.sites known.annotation.same first in
      let m = (plain known world only helped.graphs first).1 in
      let r = raised_at n 0 helped.graphs p n x (omega arith) e in
      let y = raising_graph (caught_at r.made n) x r.made in (
        r.made,
        caught_at r.made n,
        in_front (all known world only helped.graphs first count).0 (entry_graph world known.program.entry (arguments_number world m).0 ∷ []) n y
            (smalls_front known world count ((plain known world only helped.graphs first).0, (arguments_number world m).1) n y
            (functions_front known world 0 known.graphs (raising_graphs 0 helped.graphs p) n y r.graph)),
      )

  pub shared_stands : (i : ℕ) (need : Need) → slice_get needs i ≡ Some need → (g : Shared) → uses g need.helper ≡ true
      → slice_get (pass known classes layout needs caught count).0.graphs (number_in (numbers_of needs all_shared (length layout.structs)) g) ≡ Some (shared_graph (numbers_of needs all_shared (length layout.structs)) g)
  shared_stands i need at g u =
      let numbers = numbers_of needs all_shared (length layout.structs) in
      let there : slice_get (helpers layout.structs needs).graphs (number_in numbers g) ≡ Some (shared_graph numbers g) =
      shared_found needs (length layout.structs) [] (helper_graphs needs (length layout.structs)) (sym (append-nil (helper_graphs needs (length layout.structs)))) i need at g u in
      let it = front_stands (number_in numbers g) (shared_graph numbers g) there in
      it.2 ∙ ap (λ x. Some x) (graph_stays it.1 (shared_graph numbers g) it.0 (shared_fails_nowhere numbers g))

  -- a helper that is asked for is among the needs
  pub need_of : length (pass known classes layout needs caught count).1.needs ≡ length needs → (h : Helper) (found : Found)
      → Grows (found_first known (world_behind known classes layout (helpers layout.structs needs)) (helpers layout.structs needs) needs caught) found
      → Grows (helper_number h found).1 (pass known classes layout needs caught count).1
      → (need : Need) × (slice_get needs (helper_number h found).0 ≡ Some need) × (need.helper ≡ h)
  unfolding pass all_graphs plain_graphs
  need_of few h found early late =
      let helped = helpers layout.structs needs in
      let world = world_behind known classes layout helped in
      let first = found_first known world helped needs caught in
      let last = (all known world only helped.graphs first count).1 in
      let a : length needs ≤ length found.needs = no_shorter needs found.needs early.needs in
      let b : length (helper_number h found).1.needs ≤ length last.needs = no_shorter (helper_number h found).1.needs last.needs late.needs in
      let w : length last.needs ≡ length needs = few in
      let k = known_helper h found (omega (arith, a, b, w)) in
      let same_length : length found.needs ≡ length needs = omega (arith, a, w, subst (λ f. length f.needs ≤ length last.needs) k.0 b) in
      let is : needs ≡ found.needs = whole needs found.needs early.needs same_length in
      (k.1.need, subst (λ l. slice_get l (helper_number h found).0 ≡ Some k.1.need) (sym is) k.1.there, k.1.helper)

  -- the statics of helpers come first
  pub statics_first : (more : List CStatic) × ((pass known classes layout needs caught count).0.statics ≡ (helpers layout.structs needs).statics ++ more)
  unfolding pass all_graphs plain_graphs
  statics_first =
      let helped = helpers layout.structs needs in
      let world = world_behind known classes layout helped in
      let first = found_first known world helped needs caught in
      let grows = all_grow known world only helped.graphs first count in
      let v = vtables world known.program known.annotation.reached in
      (v ++ (exceptions world ++ grows.statics.0), sym grows.statics.1 ∙ (append_assoc (helped.statics ++ v) (exceptions world) grows.statics.0 ∙ append_assoc helped.statics v (exceptions world ++ grows.statics.0)))

  pub structs_are : (pass known classes layout needs caught count).0.structs ≡ (helpers layout.structs needs).structs
  unfolding pass all_graphs plain_graphs
  structs_are = refl

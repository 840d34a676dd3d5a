-- What stands at the numbers of a pass.
use Rattle.std.proofs.Common.{◌≡◌, ◌<◌, ◌≤◌, ◌^◌, ℕ, zero, suc, ◌+◌, List, [], ◌∷◌, ◌++◌, length, slice_get, Option, Some, None, sym, ap, subst, ◌∙◌, arith}
use Rattle.ll_code.specs.declared.program.LlGraph.{LlGraph}
use Rattle.ll_build.specs.declared.needs.Need.{Need}
use Rattle.ll_helpers.specs.Helpers.{helpers}
use Rattle.class_desc.specs.Tables.{Tables}
use Rattle.rpy_meaning.specs.declared.row.Covers.{Covers}
use Rattle.rtyper_layout.specs.declared.layout.Layout.{Layout}
use Rattle.rtyper_data.specs.declared.found.Found.{Found}
use Rattle.rtyper_data.specs.declared.small.Small.{Small}
use Rattle.rtyper_op.specs.Prebuilt.{prebuilt}
use Rattle.rtyper_raising.specs.Raising.{caught_at, covers_of, raising_graph, raising_graphs}
use Rattle.rtyper_class.specs.Seen.{World}
use Rattle.rtyper_program.specs.Entry.{entry_graph}
use Rattle.rtyper_program.specs.Program.{all_graphs, arguments_number, found_first, pass, plain_graphs, small_of, smalls_to, with_small, world_behind}
use Rattle.rtyper_program.specs.Seen.{Known}
use Rattle.growth_laws.specs.Growing.{Grows}
use Rattle.growth_laws.proofs.Fronts.{in_front, longer, stays, whole}
use Rattle.growth_laws.proofs.Growing.{growth_is_one}
use Rattle.program_asks.specs.Standing.{OnlyAsks, Stands}
use Rattle.program_asks.proofs.Helpers.{functions_front, raised_at, smalls_front}
use Rattle.program_asks.proofs.Passes.{all, all_grow, functions_counted, helpers_counted, no_less, plain}
use Rattle.program_asks.proofs.Smalls.{smalls_stand}
use Rattle.program_asks.proofs.WritingBlocks.{programs_only_ask}

one_more_or_same : (world : World) (o : Option Small) (made : List LlGraph × Found) → length made.0 ≤ length (with_small world o made).0
one_more_or_same world None made = omega arith
one_more_or_same world (Some s) made = (let e : length (made.0 ++ (small_of world s made.1).0 ∷ []) ≡ length made.0 + 1 = longer made.0 (small_of world s made.1).0 in omega (arith, e))

pub smalls_no_less : (world : World) (n : ℕ) (made : List LlGraph × Found) → length made.0 ≤ length (smalls_to world n made).0
smalls_no_less world zero made = omega arith
smalls_no_less world (suc n) made =
    let a = smalls_no_less world n made in
    let b = one_more_or_same world (slice_get (smalls_to world n made).1.smalls n) (smalls_to world n made) in
    omega (arith, a, b)

-- what stands where in a program, around which it was written so, behind these helpers
pub record Standing (graphs : List LlGraph) (world : World) (helped : List LlGraph) (needs : List Need) (last : Found) : Type 0 where
  pub few : length graphs < 2 ^ 64
  -- a helper is asked for with what it raises
  pub counted : length last.caught ≡ length needs
  pub all_needs : length last.needs ≡ length needs
  -- helpers come before functions, and small graphs behind these
  pub behind : length helped ≤ last.first_small
  pub small : (k : ℕ) (s : Small) → slice_get last.smalls k ≡ Some s → Stands graphs world last (last.first_small + k) s
  pub helper : (n : ℕ) (x : LlGraph) (c : Covers) → slice_get helped n ≡ Some x → slice_get last.caught n ≡ Some c → (made : Found) × (slice_get graphs n ≡ Some (raising_graph c x made))

module _ (known : Known) (classes : Tables) (layout : Layout) (needs : List Need) (caught : List Covers) (count : ℕ) where
  pub standing : slice_get (pass known classes layout needs caught count).1.smalls count ≡ None → length (pass known classes layout needs caught count).1.needs ≡ length needs → length caught ≡ length needs
      → length (pass known classes layout needs caught count).0.graphs < 2 ^ 64
      → Standing (pass known classes layout needs caught count).0.graphs (world_behind known classes layout (helpers layout.structs needs)) (helpers layout.structs needs).graphs needs (pass known classes layout needs caught count).1
  unfolding pass all_graphs plain_graphs
  standing none no_more together few =
      let helped = helpers layout.structs needs in
      let world : World = world_behind known classes layout helped in
      let only : OnlyAsks known world = programs_only_ask known world in
      let first : Found = found_first known world helped needs caught in
      let p : Found = prebuilt world.around known.program.sites known.annotation.same first in
      let front : List LlGraph × Found = plain known world only helped.graphs first in
      let asked : Found = (arguments_number world front.1).1 in
      let whole_of : List LlGraph × Found = all known world only helped.graphs first count in
      let entry : LlGraph = entry_graph world known.program.entry (arguments_number world front.1).0 in
      let grows : Grows first whole_of.1 = all_grow known world only helped.graphs first count in
      let t : length whole_of.1.needs + length caught ≡ length needs + length whole_of.1.caught = grows.together in
      let same_length : length whole_of.1.caught ≡ length caught = omega (arith, t, no_more, together) in
      let same : caught ≡ whole_of.1.caught = whole caught whole_of.1.caught grows.caught same_length in
      let more : length front.0 ≤ length whole_of.0 = smalls_no_less world count (front.0, asked) in
      let end : length (whole_of.0 ++ entry ∷ []) ≡ length whole_of.0 + 1 = longer whole_of.0 entry in
      let plain_few : length front.0 < 2 ^ 64 = omega (arith, more, end, few) in
      let first_is : whole_of.1.first_small ≡ length front.0 =
      grows.first ∙ functions_counted known world 0 (length helped.graphs) known.graphs (raising_graphs 0 helped.graphs p) (helpers_counted 0 helped.graphs p) plain_few in
      let front_more : length (raising_graphs 0 helped.graphs p).0 ≤ length front.0 = no_less known world 0 known.graphs (raising_graphs 0 helped.graphs p) in
      let front_counted : length (raising_graphs 0 helped.graphs p).0 ≡ length helped.graphs = helpers_counted 0 helped.graphs p in
      record {
        few = few;
        counted = same_length ∙ together;
        all_needs = no_more;
        behind = omega (arith, first_is, front_more, front_counted);
        small = λ k s there.
            let stood = smalls_stand world only.smalls count (front.0, asked) k s none there in
            record {
              made = stood.made;
              graph = subst (λ i. slice_get (whole_of.0 ++ entry ∷ []) (i + k) ≡ Some (small_of world s stood.made).0) (sym first_is) (in_front whole_of.0 (entry ∷ []) (length front.0 + k) (small_of world s stood.made).0 stood.graph);
              grows = stood.grows;
            };
        helper = λ n x c e f.
            let r = raised_at n 0 helped.graphs p n x (omega arith) e in
            let there : slice_get caught n ≡ Some c = subst (λ l. slice_get l n ≡ Some c) (sym same) f in
            let q : caught_at r.made n ≡ c = ap covers_of (stays caught r.made.caught n c (growth_is_one first p r.made (only.constants first) r.before).caught there) in
            let y : LlGraph = raising_graph (caught_at r.made n) x r.made in (
              r.made,
              in_front whole_of.0 (entry ∷ []) n y (smalls_front known world count (front.0, asked) n y (functions_front known world 0 known.graphs (raising_graphs 0 helped.graphs p) n y r.graph))
                  ∙ ap (λ d. Some (raising_graph d x r.made)) q,
            );
      }

-- The graphs of functions stand at their numbers.
use Rattle.std.proofs.Common.{◌≡◌, ◌<◌, ◌≤◌, ◌^◌, ℕ, zero, suc, ◌+◌, Bool, true, false, List, [], ◌∷◌, ◌++◌, length, Option, Some, None, refl, sym, ap, ◌∙◌, subst, arith}
use Rattle.std.specs.Prelude.{slice_get, if◌then◌else◌}
use Rattle.ll_code.specs.declared.program.LlGraph.{LlGraph}
use Rattle.ll_code.specs.declared.program.LlProgram.{LlProgram}
use Rattle.class_desc.specs.Tables.{Tables}
use Rattle.flow_graph.specs.declared.graph.Graph.{Graph}
use Rattle.ll_helpers.specs.Helpers.{helpers}
use Rattle.rtyper_layout.specs.declared.layout.Layout.{Layout}
use Rattle.rtyper_data.specs.declared.found.Found.{Found}
use Rattle.rtyper_op.specs.Prebuilt.{prebuilt}
use Rattle.rtyper_raising.specs.Raising.{raising_graphs}
use Rattle.rtyper_class.specs.Seen.{World}
use Rattle.rtyper_program.specs.Entry.{entry_graph}
use Rattle.rtyper_program.specs.Graphs.{graph_of}
use Rattle.ll_build.specs.declared.needs.Need.{Need}
use Rattle.rpy_meaning.specs.declared.row.Covers.{Covers}
use Rattle.rtyper_data.specs.declared.small.Small.{Small}
use Rattle.rtyper_program.specs.Program.{IsSettled, all_graphs, arguments_number, found_first, functions_from, next_number, numbers_from, pass, plain_graphs, small_of, smalls_to, with_function, with_small, world_behind}
use Rattle.rtyper_program.specs.Seen.{Known, is_reached}
use Rattle.growth_laws.specs.Growing.{Grows}
use Rattle.growth_laws.proofs.Data.{then_grows}
use Rattle.growth_laws.proofs.Fronts.{in_front, last_one, longer}
use Rattle.growth_laws.proofs.Growing.{same_found}
use Rattle.program_asks.specs.Standing.{OnlyAsks, first_in, last_in, world_in}
use Rattle.program_asks.proofs.Helpers.{functions_front, smalls_front}
use Rattle.program_asks.proofs.Passes.{all, counted_one, functions_grow, helpers_counted, helpers_grow, next_is, no_less, plain, plain_to_all}
use Rattle.program_asks.proofs.WritingBlocks.{programs_only_ask}

-- the graph of the n-th flow graph, as it is written behind some moment
pub record StandsAt (known : Known) (world : World) (graphs : List LlGraph) (first last : Found) (numbers : List ℕ) (i n : ℕ) (g : Graph) : Type 0 where
  pub number : ℕ
  pub numbered : slice_get numbers i ≡ Some number
  pub found : Found
  pub there : slice_get graphs number ≡ Some (graph_of known world n g found).0
  pub early : Grows first found
  pub late : Grows (graph_of known world n g found).1 last

module _ (known : Known) (world : World) (only : OnlyAsks known world) where
  functions_stand : (n k : ℕ) (gs : List Graph) (made : List LlGraph × Found) (i : ℕ) (g : Graph) → length made.0 ≡ k → length (functions_from known world n gs made).0 < 2 ^ 64 → slice_get gs i ≡ Some g → is_reached known.annotation g.function ≡ true
      → StandsAt known world (functions_from known world n gs made).0 made.1 (functions_from known world n gs made).1 (numbers_from known.annotation k gs) i (n + i) g
  functions_stand n k [] made i g e few h reached = absurd (cc)
  functions_stand n k (x ∷ gs) made zero g e few h reached =
      let same : x ≡ g = (let q : Some x ≡ Some g = h in cc) in
      subst (λ (y : Graph). StandsAt known world (functions_from known world n (x ∷ gs) made).0 made.1 (functions_from known world n (x ∷ gs) made).1 (numbers_from known.annotation k (x ∷ gs)) zero (n + 0) y) same
      (subst (λ (m : ℕ). StandsAt known world (functions_from known world n (x ∷ gs) made).0 made.1 (functions_from known world n (x ∷ gs) made).1 (numbers_from known.annotation k (x ∷ gs)) zero m x) (let z : n ≡ n + 0 = omega arith in z) here)
    where
      is : with_function known world n x made ≡ (made.0 ++ (graph_of known world n x made.1).0 ∷ [], (graph_of known world n x made.1).1)
      is = ap (λ b. if b then (made.0 ++ (graph_of known world n x made.1).0 ∷ [], (graph_of known world n x made.1).1) else made) (ap (λ (y : Graph). is_reached known.annotation y.function) (let q : Some x ≡ Some g = h in let r : x ≡ g = cc in r) ∙ reached)

      there : slice_get (with_function known world n x made).0 k ≡ Some (graph_of known world n x made.1).0
      there = ap (λ (m : List LlGraph × Found). slice_get m.0 k) is ∙ ap (slice_get (made.0 ++ (graph_of known world n x made.1).0 ∷ [])) (sym e) ∙ last_one made.0 (graph_of known world n x made.1).0

      here : StandsAt known world (functions_from known world n (x ∷ gs) made).0 made.1 (functions_from known world n (x ∷ gs) made).1 (numbers_from known.annotation k (x ∷ gs)) zero n x
      here = record {
        number = k;
        numbered = refl;
        found = made.1;
        there = functions_front known world (n + 1) gs (with_function known world n x made) k (graph_of known world n x made.1).0 there;
        early = same_found made.1;
        late = subst (λ (f : Found). Grows f (functions_from known world n (x ∷ gs) made).1) (ap (λ (m : List LlGraph × Found). m.1) is) (functions_grow known world only.functions (n + 1) gs (with_function known world n x made));
      }
  functions_stand n k (x ∷ gs) made (suc i) g e few h reached =
      let m = with_function known world n x made in
      let f : length m.0 ≤ length (functions_from known world (n + 1) gs m).0 = no_less known world (n + 1) gs m in
      let q : next_number known.annotation k x ≡ length m.0 = next_is known world k (length m.0) (is_reached known.annotation x.function) (counted_one known world n k x made (is_reached known.annotation x.function) e) (omega (arith, f, few)) in
      let it = functions_stand (n + 1) (next_number known.annotation k x) gs m i g (sym q) few h reached in
      let here : n + 1 + i ≡ n + suc i = omega arith in
      record {
        number = it.number;
        numbered = it.numbered;
        found = it.found;
        there = subst (λ (j : ℕ). slice_get (functions_from known world (n + 1) gs m).0 it.number ≡ Some (graph_of known world j g it.found).0) here it.there;
        early = then_grows (function_grows n x made (is_reached known.annotation x.function)) it.early;
        late = subst (λ (j : ℕ). Grows (graph_of known world j g it.found).1 (functions_from known world (n + 1) gs m).1) here it.late;
      }
    where
      function_grows : (n : ℕ) (g : Graph) (made : List LlGraph × Found) (b : Bool) → Grows made.1 (if b then (made.0 ++ (graph_of known world n g made.1).0 ∷ [], (graph_of known world n g made.1).1) else made).1
      function_grows n g made true = only.functions n g made.1
      function_grows n g made false = same_found made.1

  one_more_or_same : (o : Option Small) (made : List LlGraph × Found) → length made.0 ≤ length (with_small world o made).0
  one_more_or_same None made = omega arith
  one_more_or_same (Some s) made = (let e : length (made.0 ++ (small_of world s made.1).0 ∷ []) ≡ length made.0 + 1 = longer made.0 (small_of world s made.1).0 in omega (arith, e))

  smalls_no_less : (n : ℕ) (made : List LlGraph × Found) → length made.0 ≤ length (smalls_to world n made).0
  smalls_no_less zero made = omega arith
  smalls_no_less (suc n) made =
      let a = smalls_no_less n made in
      let b = one_more_or_same (slice_get (smalls_to world n made).1.smalls n) (smalls_to world n made) in
      omega (arith, a, b)

  all_stand : (helped : List LlGraph) (first : Found) (count : ℕ) (entry : LlGraph) (i : ℕ) (g : Graph) → length ((all known world only helped first count).0 ++ entry ∷ []) < 2 ^ 64 → slice_get known.graphs i ≡ Some g → is_reached known.annotation g.function ≡ true
      → StandsAt known world ((all known world only helped first count).0 ++ entry ∷ []) first (all known world only helped first count).1 (numbers_from known.annotation (length helped) known.graphs) i i g
  all_stand helped first count entry i g few h reached =
      let constants = prebuilt world.around known.program.sites known.annotation.same first in
      let start = raising_graphs 0 helped constants in
      let before = (plain known world only helped first).0 in
      let asked = (arguments_number world (plain known world only helped first).1).1 in
      let more : length before ≤ length (smalls_to world count (before, asked)).0 = smalls_no_less count (before, asked) in
      let end : length ((smalls_to world count (before, asked)).0 ++ entry ∷ []) ≡ length (smalls_to world count (before, asked)).0 + 1 = longer (smalls_to world count (before, asked)).0 entry in
      let it = functions_stand 0 (length helped) known.graphs start i g (helpers_counted 0 helped constants) (omega (arith, more, end, few)) h reached in
      let here : 0 + i ≡ i = omega arith in
      record {
        number = it.number;
        numbered = it.numbered;
        found = it.found;
        there = in_front (all known world only helped first count).0 (entry ∷ []) it.number (graph_of known world i g it.found).0
            (smalls_front known world count (before, asked) it.number (graph_of known world i g it.found).0 (subst (λ (j : ℕ). slice_get before it.number ≡ Some (graph_of known world j g it.found).0) here it.there));
        early = then_grows (only.constants first) (then_grows (helpers_grow 0 helped constants) it.early);
        late = then_grows (subst (λ (j : ℕ). Grows (graph_of known world j g it.found).1 (plain known world only helped first).1) here it.late) (plain_to_all known world only helped first count);
      }

-- in a pass, and in every program that is made
pass_stands : (known : Known) (classes : Tables) (layout : Layout) (needs : List Need) (caught : List Covers) (count : ℕ) (i : ℕ) (g : Graph)
    → length (pass known classes layout needs caught count).0.graphs < 2 ^ 64 → slice_get known.graphs i ≡ Some g → is_reached known.annotation g.function ≡ true
    → StandsAt known (world_behind known classes layout (helpers layout.structs needs)) (pass known classes layout needs caught count).0.graphs
    (found_first known (world_behind known classes layout (helpers layout.structs needs)) (helpers layout.structs needs) needs caught) (pass known classes layout needs caught count).1
    (world_behind known classes layout (helpers layout.structs needs)).around.numbers i i g
unfolding pass all_graphs plain_graphs
pass_stands known classes layout needs caught count i g few h reached =
    let helped = helpers layout.structs needs in
    let world = world_behind known classes layout helped in
    let only = programs_only_ask known world in
    let first = found_first known world helped needs caught in
    all_stand known world only helped.graphs first count (entry_graph world known.program.entry (arguments_number world (plain known world only helped.graphs first).1).0) i g few h reached

pub function_stands : (known : Known) (classes : Tables) (layout : Layout) (p : LlProgram) (r : IsSettled known classes layout p) (i : ℕ) (g : Graph) → length p.graphs < 2 ^ 64 → slice_get known.graphs i ≡ Some g → is_reached known.annotation g.function ≡ true
    → StandsAt known (world_in known classes layout p r) p.graphs (first_in known classes layout p r) (last_in known classes layout p r) (world_in known classes layout p r).around.numbers i i g
function_stands known classes layout p r i g few h reached =
    subst (λ (q : LlProgram). StandsAt known (world_in known classes layout p r) q.graphs (first_in known classes layout p r) (last_in known classes layout p r) (world_in known classes layout p r).around.numbers i i g) (sym r.written)
    (pass_stands known classes layout r.needs r.caught r.count i g (subst (λ (q : LlProgram). length q.graphs < 2 ^ 64) r.written few) h reached)

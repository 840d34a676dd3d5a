-- A pass only asks for more, and its small graphs stand behind those of functions.
use Rattle.std.proofs.Common.{◌≡◌, ◌<◌, ◌≤◌, ◌^◌, ℕ, zero, suc, ◌+◌, Bool, true, false, List, [], ◌∷◌, ◌++◌, length, slice_get, Option, Some, None, refl, sym, ap, subst, ◌∙◌, arith}
use Rattle.std.specs.Prelude.{if◌then◌else◌}
use Rattle.std.proofs.lemmas.Option.{slice_get_within}
use Rattle.ll_code.specs.declared.program.LlGraph.{LlGraph}
use Rattle.ll_code.specs.declared.program.LlBlock.{LlBlock}
use Rattle.ll_build.specs.declared.needs.Need.{Need}
use Rattle.ll_helpers.specs.Helpers.{helpers}
use Rattle.class_desc.specs.Tables.{Tables}
use Rattle.flow_graph.specs.declared.graph.Graph.{Graph}
use Rattle.rpy_meaning.specs.declared.row.Covers.{Covers}
use Rattle.rtyper_layout.specs.declared.layout.Layout.{Layout}
use Rattle.rtyper_layout.specs.Types.{word}
use Rattle.rtyper_data.specs.declared.found.Found.{Found}
use Rattle.rtyper_data.specs.declared.small.Small.{Small}
use Rattle.rtyper_data.specs.declared.small.Small.TheVariants as small
use Rattle.rtyper_data.specs.Finding.{asked, same_small, small_from, small_number}
use Rattle.rtyper_op.specs.Prebuilt.{prebuilt}
use Rattle.rtyper_raising.specs.Raising.{caught_at, failing_with, raising_block, raising_blocks, raising_graphs}
use Rattle.rtyper_class.specs.Seen.{World}
use Rattle.rtyper_program.specs.Entry.{entry_graph}
use Rattle.rtyper_program.specs.Graphs.{graph_of}
use Rattle.rtyper_program.specs.Program.{all_graphs, arguments_number, found_first, functions_from, next_number, number_behind, pass, plain_graphs, small_of, smalls_to, with_function, with_small, world_behind}
use Rattle.rtyper_program.specs.Seen.{Known, is_reached}
use Rattle.growth_laws.specs.Growing.{Grows}
use Rattle.program_asks.specs.Standing.{OnlyAsks, SmallsOnlyAsk, Stands, StandsAsked}
use Rattle.program_asks.proofs.Alike.{small_is}
use Rattle.growth_laws.proofs.Fronts.{in_front, last_one, longer, stays}
use Rattle.growth_laws.proofs.Growing.{growth_is_one, same_found, smalls_grow}
use Rattle.program_asks.proofs.Smalls.{smalls_stand}

-- ---- helpers

block_grows : (b : LlBlock) (o : Option ℕ) (found : Found) → Grows found (raising_block b o found).1
block_grows b None found = same_found found
block_grows b (Some class) found = smalls_grow (small.Raise class) found

pub blocks_grow : (c : Covers) (bs : List LlBlock) (found : Found) → Grows found (raising_blocks c bs found).1
blocks_grow c [] found = same_found found
blocks_grow c (b ∷ bs) found =
    growth_is_one found (raising_block b (failing_with b.exit c) found).1 (raising_blocks c bs (raising_block b (failing_with b.exit c) found).1).1
    (block_grows b (failing_with b.exit c) found) (blocks_grow c bs (raising_block b (failing_with b.exit c) found).1)

pub helpers_grow : (n : ℕ) (gs : List LlGraph) (found : Found) → Grows found (raising_graphs n gs found).1
helpers_grow n [] found = same_found found
helpers_grow n (g ∷ gs) found =
    growth_is_one found (raising_blocks (caught_at found n) g.blocks found).1 (raising_graphs (n + 1) gs (raising_blocks (caught_at found n) g.blocks found).1).1
    (blocks_grow (caught_at found n) g.blocks found) (helpers_grow (n + 1) gs (raising_blocks (caught_at found n) g.blocks found).1)

pub helpers_counted : (n : ℕ) (gs : List LlGraph) (found : Found) → length (raising_graphs n gs found).0 ≡ length gs
helpers_counted n [] found = refl
helpers_counted n (g ∷ gs) found = ap suc (helpers_counted (n + 1) gs (raising_blocks (caught_at found n) g.blocks found).1)

-- ---- functions

module _ (known : Known) (world : World) (functions : (n : ℕ) (graph : Graph) (found : Found) → Grows found (graph_of known world n graph found).1) where
  function_grows : (n : ℕ) (g : Graph) (made : List LlGraph × Found) (b : Bool) → Grows made.1 (if b then (made.0 ++ (graph_of known world n g made.1).0 ∷ [], (graph_of known world n g made.1).1) else made).1
  function_grows n g made true = functions n g made.1
  function_grows n g made false = same_found made.1

  pub functions_grow : (n : ℕ) (gs : List Graph) (made : List LlGraph × Found) → Grows made.1 (functions_from known world n gs made).1
  functions_grow n [] made = same_found made.1
  functions_grow n (g ∷ gs) made =
      growth_is_one made.1 (with_function known world n g made).1 (functions_from known world (n + 1) gs (with_function known world n g made)).1
      (function_grows n g made (is_reached known.annotation g.function)) (functions_grow (n + 1) gs (with_function known world n g made))

-- the numbers of functions are counted as their graphs are, where they are words
module _ (known : Known) (world : World) where
  pub counted_one : (n k : ℕ) (g : Graph) (made : List LlGraph × Found) (b : Bool) → length made.0 ≡ k
      → length (if b then (made.0 ++ (graph_of known world n g made.1).0 ∷ [], (graph_of known world n g made.1).1) else made).0 ≡ (if b then k + 1 else k)
  counted_one n k g made true e = longer made.0 (graph_of known world n g made.1).0 ∙ ap (λ i. i + 1) e
  counted_one n k g made false e = e

  pub no_less : (n : ℕ) (gs : List Graph) (made : List LlGraph × Found) → length made.0 ≤ length (functions_from known world n gs made).0
  no_less n [] made = omega arith
  no_less n (g ∷ gs) made =
      let e : length made.0 ≤ length (with_function known world n g made).0 = one (is_reached known.annotation g.function) (counted_one n (length made.0) g made (is_reached known.annotation g.function) refl) in
      let f : length (with_function known world n g made).0 ≤ length (functions_from known world (n + 1) gs (with_function known world n g made)).0 = no_less (n + 1) gs (with_function known world n g made) in
      omega (arith, e, f)
    where
      one : (b : Bool) → length (if b then (made.0 ++ (graph_of known world n g made.1).0 ∷ [], (graph_of known world n g made.1).1) else made).0 ≡ (if b then length made.0 + 1 else length made.0)
          → length made.0 ≤ length (if b then (made.0 ++ (graph_of known world n g made.1).0 ∷ [], (graph_of known world n g made.1).1) else made).0
      one true h = omega (arith, h)
      one false h = omega (arith, h)

  pub next_is : (k m : ℕ) (b : Bool) → m ≡ (if b then k + 1 else k) → m < 2 ^ 64 → (if b then word (k + 1) else k) ≡ m
  next_is k m true e h = omega (arith, e, h)
  next_is k m false e h = sym e

  pub functions_counted : (n k : ℕ) (gs : List Graph) (made : List LlGraph × Found) → length made.0 ≡ k → length (functions_from known world n gs made).0 < 2 ^ 64
      → number_behind known.annotation k gs ≡ length (functions_from known world n gs made).0
  functions_counted n k [] made e h = sym e
  functions_counted n k (g ∷ gs) made e h =
      let m = with_function known world n g made in
      let f : length m.0 ≤ length (functions_from known world (n + 1) gs m).0 = no_less (n + 1) gs m in
      let q : next_number known.annotation k g ≡ length m.0 = next_is k (length m.0) (is_reached known.annotation g.function) (counted_one n k g made (is_reached known.annotation g.function) e) (omega (arith, f, h)) in
      functions_counted (n + 1) (next_number known.annotation k g) gs m (sym q) h

-- ---- small graphs

module _ (world : World) (keeps : SmallsOnlyAsk world) where
  small_grows : (o : Option Small) (made : List LlGraph × Found) → Grows made.1 (with_small world o made).1
  small_grows None made = same_found made.1
  small_grows (Some s) made = keeps s made.1

  pub smalls_grow_to : (count : ℕ) (made : List LlGraph × Found) → Grows made.1 (smalls_to world count made).1
  smalls_grow_to zero made = same_found made.1
  smalls_grow_to (suc n) made =
      growth_is_one made.1 (smalls_to world n made).1 (with_small world (slice_get (smalls_to world n made).1.smalls n) (smalls_to world n made)).1
      (smalls_grow_to n made) (small_grows (slice_get (smalls_to world n made).1.smalls n) (smalls_to world n made))

-- ---- places

pub record At (smalls : List Small) (s : Small) (i : ℕ) : Type 0 where
  pub met : Small
  pub there : slice_get smalls i ≡ Some met
  pub is : met ≡ s

at_one : (k : ℕ) (t : Small) (smalls : List Small) (s : Small) (n : ℕ) (b : Bool) → same_small t s ≡ b
    → (small_from (k + 1) smalls s ≡ Some n → (i : ℕ) × (n ≡ k + 1 + i) × At smalls s i) → (if b then Some k else small_from (k + 1) smalls s) ≡ Some n → (i : ℕ) × (n ≡ k + i) × At (t ∷ smalls) s i
at_one k t smalls s n true f further g = (0, (let q : Some k ≡ Some n = g in let r : k ≡ n = cc in omega (arith, r)), record { met = t; there = refl; is = small_is t s f })
at_one k t smalls s n false f further g =
    let r = further g in
    (suc r.0, (let q : n ≡ k + 1 + r.0 = r.1 in omega (arith, q)), record { met = r.2.met; there = r.2.there; is = r.2.is })

at_from : (k : ℕ) (smalls : List Small) (s : Small) (n : ℕ) → small_from k smalls s ≡ Some n → (i : ℕ) × (n ≡ k + i) × At smalls s i
at_from k [] s n e = absurd (let f : None ≡ Some n = e in cc)
at_from k (t ∷ smalls) s n e = at_one k t smalls s n (same_small t s) refl (λ f. at_from (k + 1) smalls s n f) e

-- the number is that of a place at which it stands
placed_at : (s : Small) (found : Found) (o : Option ℕ) → small_from 0 found.smalls s ≡ o
    → (i : ℕ) × ((asked s found o).0 ≡ word (found.first_small + i)) × At (asked s found o).1.smalls s i
placed_at s found (Some n) e = let r = at_from 0 found.smalls s n e in (r.0, (let q : n ≡ 0 + r.0 = r.1 in let p : n ≡ r.0 = omega (arith, q) in ap (λ i. word (found.first_small + i)) p), r.2)
placed_at s found None e = (length found.smalls, refl, record { met = s; there = last_one found.smalls s; is = refl })

pub number_at : (s : Small) (found : Found) → (i : ℕ) × ((small_number s found).0 ≡ word (found.first_small + i)) × At (small_number s found).1.smalls s i
unfolding small_number
number_at s found = placed_at s found (small_from 0 found.smalls s) refl

-- ---- all together

module _ (known : Known) (world : World) (only : OnlyAsks known world) (helped : List LlGraph) (first : Found) where
  abbrev pub plain : List LlGraph × Found
  plain = functions_from known world 0 known.graphs (raising_graphs 0 helped (prebuilt world.around known.program.sites known.annotation.same first))

  pub plain_grows : Grows first plain.1
  plain_grows =
      let p = prebuilt world.around known.program.sites known.annotation.same first in
      growth_is_one first p plain.1 (only.constants first)
      (growth_is_one p (raising_graphs 0 helped p).1 plain.1 (helpers_grow 0 helped p) (functions_grow known world only.functions 0 known.graphs (raising_graphs 0 helped p)))

  plain_counted : length plain.0 < 2 ^ 64 → number_behind known.annotation (length helped) known.graphs ≡ length plain.0
  plain_counted h =
      let p = prebuilt world.around known.program.sites known.annotation.same first in
      functions_counted known world 0 (length helped) known.graphs (raising_graphs 0 helped p) (helpers_counted 0 helped p) h

  module _ (count : ℕ) where
    abbrev pub all : List LlGraph × Found
    all = smalls_to world count (plain.0, (arguments_number world plain.1).1)

    pub plain_to_all : Grows plain.1 all.1
    plain_to_all = growth_is_one plain.1 (arguments_number world plain.1).1 all.1 (smalls_grow (small.Listed _) plain.1) (smalls_grow_to world only.smalls count (plain.0, (arguments_number world plain.1).1))

    pub all_grow : Grows first all.1
    all_grow = growth_is_one first plain.1 all.1 plain_grows plain_to_all

    -- a small graph that stands at a place stands at its number in the whole program
    at_number : (g : LlGraph) (n i : ℕ) (s : Small) → first.first_small ≡ number_behind known.annotation (length helped) known.graphs → length (all.0 ++ g ∷ []) < 2 ^ 64
        → Stands all.0 world all.1 (length plain.0 + i) s → n ≡ word (all.1.first_small + i) → Stands (all.0 ++ g ∷ []) world all.1 n s
    at_number g n i s f few h e =
        let front : slice_get (all.0 ++ g ∷ []) (length plain.0 + i) ≡ Some (small_of world s h.made).0 = in_front all.0 (g ∷ []) (length plain.0 + i) (small_of world s h.made).0 h.graph in
        let below : length plain.0 + i < length (all.0 ++ g ∷ []) = slice_get_within (all.0 ++ g ∷ []) (length plain.0 + i) (small_of world s h.made).0 front in
        let c : number_behind known.annotation (length helped) known.graphs ≡ length plain.0 = plain_counted (omega (arith, below, few)) in
        let b : all.1.first_small ≡ length plain.0 = all_grow.first ∙ (f ∙ c) in
        let q : n ≡ length plain.0 + i = e ∙ (ap (λ k. word (k + i)) b ∙ fits (length plain.0 + i) (omega (arith, below, few))) in
        record { made = h.made; graph = subst (λ k. slice_get (all.0 ++ g ∷ []) k ≡ Some (small_of world s h.made).0) (sym q) front; grows = h.grows }
      where
        fits : (k : ℕ) → k < 2 ^ 64 → word k ≡ k
        fits k h = omega (arith, h)

    stands_asked : (g : LlGraph) → first.first_small ≡ number_behind known.annotation (length helped) known.graphs → slice_get all.1.smalls count ≡ None → length (all.0 ++ g ∷ []) < 2 ^ 64
        → (s : Small) (found : Found) → Grows (small_number s found).1 all.1 → StandsAsked (all.0 ++ g ∷ []) world all.1 s found
    stands_asked g f none few s found grows =
        let r = number_at s found in
        let there : slice_get all.1.smalls r.0 ≡ Some r.2.met = stays (small_number s found).1.smalls all.1.smalls r.0 r.2.met grows.smalls r.2.there in
        let stood = smalls_stand world only.smalls count (plain.0, (arguments_number world plain.1).1) r.0 r.2.met none there in
        let e : all.1.first_small ≡ found.first_small = grows.first ∙ (smalls_grow s found).first in
        subst (λ t. Stands (all.0 ++ g ∷ []) world all.1 (small_number s found).0 t) r.2.is (at_number g (small_number s found).0 r.0 r.2.met f few stood (r.1 ∙ ap (λ k. word (k + r.0)) (sym e)))

pub asked_stand : (known : Known) (classes : Tables) (layout : Layout) (needs : List Need) (caught : List Covers) (count : ℕ)
    → OnlyAsks known (world_behind known classes layout (helpers layout.structs needs))
    → slice_get (pass known classes layout needs caught count).1.smalls count ≡ None
    → length (pass known classes layout needs caught count).0.graphs < 2 ^ 64
    → (s : Small) (found : Found) → Grows (small_number s found).1 (pass known classes layout needs caught count).1
    → StandsAsked (pass known classes layout needs caught count).0.graphs (world_behind known classes layout (helpers layout.structs needs)) (pass known classes layout needs caught count).1 s found
unfolding pass all_graphs plain_graphs
asked_stand known classes layout needs caught count only none few s found grows =
    let helped = helpers layout.structs needs in
    let world = world_behind known classes layout helped in
    let first = found_first known world helped needs caught in
    stands_asked known world only helped.graphs first count
    (entry_graph world known.program.entry (arguments_number world (plain known world only helped.graphs first).1).0) refl none few s found grows

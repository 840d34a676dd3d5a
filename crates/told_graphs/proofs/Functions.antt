-- The numbers of functions lie between those of helpers and those of small graphs, so that functions are never told not to raise.
use Rattle.std.proofs.Common.{◌≡◌, ◌<◌, ◌≤◌, ◌^◌, ℕ, zero, suc, ◌+◌, Bool, true, false, List, [], ◌∷◌, ◌++◌, length, slice_get, Some, refl, sym, ap, subst, ◌∙◌, arith}
use Rattle.std.specs.Prelude.{if◌then◌else◌}
use Rattle.std.proofs.lemmas.Option.{slice_get_within}
use Rattle.ll_code.specs.declared.program.LlGraph.{LlGraph}
use Rattle.ll_build.specs.declared.needs.Need.{Need}
use Rattle.ll_helpers.specs.Helpers.{helpers}
use Rattle.class_desc.specs.Tables.{Tables}
use Rattle.flow_graph.specs.declared.graph.Graph.{Graph}
use Rattle.rpy_meaning.specs.declared.row.Covers.{Covers}
use Rattle.rtyper_layout.specs.declared.layout.Layout.{Layout}
use Rattle.rtyper_data.specs.declared.found.Found.{Found}
use Rattle.rtyper_data.specs.Finding.{nothing}
use Rattle.rtyper_op.specs.Prebuilt.{prebuilt}
use Rattle.rtyper_raising.specs.Raising.{raising_graphs}
use Rattle.rtyper_class.specs.Seen.{World}
use Rattle.rtyper_program.specs.Entry.{entry_graph}
use Rattle.rtyper_program.specs.Graphs.{graph_of}
use Rattle.rtyper_program.specs.Program.{all_graphs, arguments_number, found_first, functions_from, next_number, numbers_from, pass, plain_graphs, with_function, world_behind}
use Rattle.rtyper_program.specs.Seen.{Known, is_reached}
use Rattle.growth_laws.specs.Growing.{Grows}
use Rattle.growth_laws.proofs.Fronts.{longer}
use Rattle.program_asks.specs.Standing.{OnlyAsks}
use Rattle.program_asks.proofs.Passes.{all, all_grow, counted_one, functions_counted, helpers_counted, next_is, no_less, plain}
use Rattle.program_asks.proofs.WritingBlocks.{programs_only_ask}
use Rattle.catch_laws.specs.Exits.{quiet_by}
use Rattle.told_graphs.proofs.Standing.{Standing, smalls_no_less}
use Rattle.told_graphs.proofs.Telling.{AsHelper, AsSmall, Why, quiet_later, reason}

pub record Lies (from to number : ℕ) : Type 0 where
  pub low : from ≤ number
  pub high : number < to

module _ (known : Known) (world : World) where
  no_less_by : (n k : ℕ) (g : Graph) (made : List LlGraph × Found) (b : Bool) → length made.0 ≡ k → k ≤ length (if b then (made.0 ++ (graph_of known world n g made.1).0 ∷ [], (graph_of known world n g made.1).1) else made).0
  no_less_by n k g made true e = (let f : length (made.0 ++ (graph_of known world n g made.1).0 ∷ []) ≡ length made.0 + 1 = longer made.0 (graph_of known world n g made.1).0 in omega (arith, e, f))
  no_less_by n k g made false e = omega (arith, e)

  more_by : (n k : ℕ) (g : Graph) (made : List LlGraph × Found) (b : Bool) → b ≡ true → length made.0 ≡ k → k < length (if b then (made.0 ++ (graph_of known world n g made.1).0 ∷ [], (graph_of known world n g made.1).1) else made).0
  more_by n k g made true h e = (let f : length (made.0 ++ (graph_of known world n g made.1).0 ∷ []) ≡ length made.0 + 1 = longer made.0 (graph_of known world n g made.1).0 in omega (arith, e, f))
  more_by n k g made false h e = absurd (cc)

  numbers_lie : (n k : ℕ) (gs : List Graph) (made : List LlGraph × Found) → length made.0 ≡ k → length (functions_from known world n gs made).0 < 2 ^ 64
      → (i : ℕ) (g : Graph) (number : ℕ) → slice_get gs i ≡ Some g → is_reached known.annotation g.function ≡ true → slice_get (numbers_from known.annotation k gs) i ≡ Some number → Lies k (length (functions_from known world n gs made).0) number
  numbers_lie n k [] made e few i g number at reached there = absurd (cc)
  numbers_lie n k (x ∷ gs) made e few zero g number at reached there =
      let same : x ≡ g = (let q : Some x ≡ Some g = at in cc) in
      let is : k ≡ number = (let q : Some k ≡ Some number = there in cc) in
      let m : List LlGraph × Found = with_function known world n x made in
      let more : k < length m.0 = more_by n k x made (is_reached known.annotation x.function) (ap (λ (y : Graph). is_reached known.annotation y.function) same ∙ reached) e in
      let rest : length m.0 ≤ length (functions_from known world (n + 1) gs m).0 = no_less known world (n + 1) gs m in
      record { low = omega (arith, is); high = omega (arith, is, more, rest) }
  numbers_lie n k (x ∷ gs) made e few (suc i) g number at reached there =
      let m : List LlGraph × Found = with_function known world n x made in
      let rest : length m.0 ≤ length (functions_from known world (n + 1) gs m).0 = no_less known world (n + 1) gs m in
      let next : next_number known.annotation k x ≡ length m.0 = next_is known world k (length m.0) (is_reached known.annotation x.function) (counted_one known world n k x made (is_reached known.annotation x.function) e) (omega (arith, rest, few)) in
      let more : k ≤ length m.0 = no_less_by n k x made (is_reached known.annotation x.function) e in
      let it = numbers_lie (n + 1) (next_number known.annotation k x) gs m (sym next) few i g number at reached there in
      let low : next_number known.annotation k x ≤ number = it.low in
      record { low = omega (arith, low, next, more); high = it.high }

module _ (known : Known) (classes : Tables) (layout : Layout) (needs : List Need) (caught : List Covers) (count : ℕ) where
  pub functions_lie : length (pass known classes layout needs caught count).0.graphs < 2 ^ 64 → (i : ℕ) (g : Graph) (number : ℕ) → slice_get known.graphs i ≡ Some g → is_reached known.annotation g.function ≡ true
      → slice_get (world_behind known classes layout (helpers layout.structs needs)).around.numbers i ≡ Some number → Lies (length (helpers layout.structs needs).graphs) (pass known classes layout needs caught count).1.first_small number
  unfolding pass all_graphs plain_graphs
  functions_lie few i g number at reached there =
      let helped = helpers layout.structs needs in
      let world : World = world_behind known classes layout helped in
      let only : OnlyAsks known world = programs_only_ask known world in
      let first : Found = found_first known world helped needs caught in
      let p : Found = prebuilt world.around known.program.sites known.annotation.same first in
      let front : List LlGraph × Found = plain known world only helped.graphs first in
      let asked : Found = (arguments_number world front.1).1 in
      let whole_of : List LlGraph × Found = all known world only helped.graphs first count in
      let entry : LlGraph = entry_graph world known.program.entry (arguments_number world front.1).0 in
      let grows : Grows first whole_of.1 = all_grow known world only helped.graphs first count in
      let more : length front.0 ≤ length whole_of.0 = smalls_no_less world count (front.0, asked) in
      let end : length (whole_of.0 ++ entry ∷ []) ≡ length whole_of.0 + 1 = longer whole_of.0 entry in
      let plain_few : length front.0 < 2 ^ 64 = omega (arith, more, end, few) in
      let first_is : whole_of.1.first_small ≡ length front.0 =
      grows.first ∙ functions_counted known world 0 (length helped.graphs) known.graphs (raising_graphs 0 helped.graphs p) (helpers_counted 0 helped.graphs p) plain_few in
      subst (λ to. Lies (length helped.graphs) to number) (sym first_is)
      (numbers_lie known world 0 (length helped.graphs) known.graphs (raising_graphs 0 helped.graphs p) (helpers_counted 0 helped.graphs p) plain_few i g number at reached there)

-- ---- what is told of them

module _ (graphs : List LlGraph) (world : World) (helped : List LlGraph) (needs : List Need) (last : Found) (it : Standing graphs world helped needs last) (some : length needs ≤ length helped) where
  not_last : (number : ℕ) → Lies (length helped) last.first_small number → quiet_by last number ≡ true → ⊥
  not_last number lies h = by (reason last number h).why
    where
      by : Why last number → ⊥
      by (AsHelper c) =
          let below : number < length last.caught = slice_get_within last.caught number nothing c in
          let as_many : length last.caught ≡ length needs = it.counted in
          let low : length helped ≤ number = lies.low in
          absurd (omega (arith, below, as_many, low, some))
      by (AsSmall k s at c there q) =
          let high : number < last.first_small = lies.high in
          let is : number ≡ last.first_small + k = at in
          absurd (omega (arith, high, is))

  pub functions_are_loud : (found : Found) → Grows found last → (number : ℕ) → Lies (length helped) last.first_small number → quiet_by found number ≡ false
  functions_are_loud found late number lies = by (quiet_by found number) refl
    where
      by : (b : Bool) → quiet_by found number ≡ b → b ≡ false
      by true e = absurd (not_last number lies (quiet_later graphs world helped needs last it some found late number e))
      by false e = refl

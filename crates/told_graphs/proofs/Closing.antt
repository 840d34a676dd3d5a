-- The graphs that are told not to raise raise nothing, and call only such graphs.
use Rattle.std.proofs.Common.{◌≡◌, ◌<◌, ◌≤◌, ◌^◌, ℕ, zero, suc, ◌+◌, ◌==◌, ◌||◌, ◌&&◌, ◌⊎◌, inl, inr, not, Bool, true, false, List, [], ◌∷◌, length, map, slice_get, Some, None, refl, sym, ap, subst, ◌∙◌, arith, length-append}
use Rattle.std.proofs.lemmas.List.{append-nil, length-map}
use Rattle.std.proofs.lemmas.Option.{slice_get_within}
use Rattle.std.specs.Prelude.{nat_lt}
use Rattle.ll_code.specs.declared.program.LlGraph.{LlGraph}
use Rattle.ll_code.specs.declared.program.LlProgram.{LlProgram}
use Rattle.ll_build.specs.Needs.{all_shared, numbers_of, uses}
use Rattle.ll_build.specs.declared.needs.Need.{Need}
use Rattle.ll_build.specs.declared.needs.Numbers.{Numbers}
use Rattle.ll_build.specs.declared.needs.Shared.{Shared}
use Rattle.ll_build.specs.declared.needs.Shared.TheVariants as shared
use Rattle.ll_helpers.specs.Helpers.{graph_for, helper_graph, helper_graphs, helpers, shared_graph, shared_graphs}
use Rattle.ll_strings.specs.Laws.{number_in}
use Rattle.ll_strings.proofs.Lookup.{helper_found, shared_found}
use Rattle.class_desc.specs.Tables.{Tables}
use Rattle.rpy_meaning.specs.declared.row.Covers.{Covers}
use Rattle.rtyper_layout.specs.declared.layout.Layout.{Layout}
use Rattle.rtyper_data.specs.declared.found.Found.{Found}
use Rattle.rtyper_data.specs.declared.small.Small.{Small}
use Rattle.rtyper_data.specs.Finding.{nothing}
use Rattle.rtyper_raising.specs.Raising.{raising_graph}
use Rattle.rtyper_class.specs.Seen.{World}
use Rattle.rtyper_program.specs.Cuts.{small_raises}
use Rattle.rtyper_program.specs.Program.{pass, small_of, world_behind}
use Rattle.rtyper_program.specs.Seen.{Known}
use Rattle.growth_laws.specs.Growing.{Grows}
use Rattle.program_asks.specs.Standing.{OnlyAsks}
use Rattle.program_asks.proofs.WritingBlocks.{programs_only_ask}
use Rattle.helper_stands.proofs.Shared.{front_stands}
use Rattle.raise_laws.proofs.Nothing.{graph_plain}
use Rattle.catch_laws.specs.Exits.{quiet_by}
use Rattle.told_laws.specs.Tests.{AreClosed}
use Rattle.told_graphs.specs.Told.{QuietStaysQuiet, SilentGraphsAreClosed, lies, silent_in}
use Rattle.told_graphs.proofs.Keeping.{AllQuiet, Telling, quiet_in}
use Rattle.told_graphs.proofs.QuietClasses.{small_calm}
use Rattle.told_graphs.proofs.QuietHelpers.{IsShared, UsedBy, behind_front, helper_quiet, number_behind_needs, shared_at, shared_quiet, used_by}
use Rattle.told_graphs.proofs.Standing.{Standing, standing}
use Rattle.told_graphs.proofs.Telling.{AsHelper, AsSmall, Why, is_no_less, less_is, less_so, not_less, quiet_later, reason, telling}

-- ---- truth values, and lists

or_first : (a b : Bool) → a ≡ true → (a || b) ≡ true
or_first true b h = refl
or_first false b h = absurd (cc)

or_second : (a b : Bool) → b ≡ true → (a || b) ≡ true
or_second true b h = refl
or_second false b h = h

either : (a b : Bool) → (a || b) ≡ true → (a ≡ true) ⊎ (b ≡ true)
either true b h = inl refl
either false b h = inr h

lies_so : (from to n : ℕ) → from ≤ n → n < to → lies from to n ≡ true
lies_so from to n h k = ap (λ b. not b && nat_lt n to) (is_no_less n from h) ∙ less_is n to k

lies_from : (from to n : ℕ) → lies from to n ≡ true → (from ≤ n) × (n < to)
lies_from from to n h = by (nat_lt n from) refl h
  where
    by : (b : Bool) → nat_lt n from ≡ b → (not b && nat_lt n to) ≡ true → (from ≤ n) × (n < to)
    by true e k = absurd (cc)
    by false e k = (not_less n from e, less_so n to k)

there_is : {A : Type 0} (xs : List A) (n : ℕ) → n < length xs → (x : A) × (slice_get xs n ≡ Some x)
there_is [] n h = absurd (omega (arith, h))
there_is (x ∷ xs) zero h = (x, refl)
there_is (x ∷ xs) (suc n) h = there_is xs n (omega (arith, h))

same_graph : (gs : List LlGraph) (n : ℕ) (x y : LlGraph) → slice_get gs n ≡ Some x → slice_get gs n ≡ Some y → x ≡ y
same_graph gs n x y e f = let g : Some x ≡ Some y = sym e ∙ f in cc

plainly : (gs : List LlGraph) (n : ℕ) (x y : LlGraph) (found : Found) → slice_get gs n ≡ Some (raising_graph nothing x found) → slice_get gs n ≡ Some y → x ≡ y
plainly gs n x y found e f = sym (graph_plain x found) ∙ same_graph gs n (raising_graph nothing x found) y e f

-- the graphs that helpers call fail nowhere
shared_stays : (c : Covers) (numbers : Numbers) (g : Shared) (found : Found) → raising_graph c (shared_graph numbers g) found ≡ shared_graph numbers g
shared_stays c numbers shared.PrintDigits found = refl
shared_stays c numbers shared.PutBytes found = refl
shared_stays c numbers shared.CopyBytes found = refl
shared_stays c numbers shared.StringPart found = refl
shared_stays c numbers shared.RepeatBytes found = refl
shared_stays c numbers shared.AlikeBytes found = refl
shared_stays c numbers shared.FindBytes found = refl
shared_stays c numbers shared.LessBytes found = refl
shared_stays c numbers shared.CountDigits found = refl
shared_stays c numbers shared.WriteDigits found = refl
shared_stays c numbers shared.IsSpace found = refl
shared_stays c numbers shared.SkipForwards found = refl
shared_stays c numbers shared.SkipBackwards found = refl

shared_is : (gs : List LlGraph) (n : ℕ) (c : Covers) (numbers : Numbers) (g : Shared) (found : Found) (x y : LlGraph) → shared_graph numbers g ≡ x → slice_get gs n ≡ Some (raising_graph c x found) → slice_get gs n ≡ Some y → shared_graph numbers g ≡ y
shared_is gs n c numbers g found x y is e f = sym (shared_stays c numbers g found) ∙ (ap (λ z. raising_graph c z found) is ∙ same_graph gs n (raising_graph c x found) y e f)

module _ (known : Known) (classes : Tables) (layout : Layout) (needs : List Need) (caught : List Covers) (count : ℕ) where
  abbrev made : LlProgram × Found
  made = pass known classes layout needs caught count

  abbrev helped : List LlGraph
  helped = helper_graphs needs (length layout.structs)

  abbrev numbers : Numbers
  numbers = numbers_of needs all_shared (length layout.structs)

  abbrev silent : ℕ → Bool
  silent n = quiet_by made.1 n || lies (length needs) (length helped) n

  module _ (none : slice_get made.1.smalls count ≡ None) (no_more : length made.1.needs ≡ length needs) (paired : length caught ≡ length needs) (few : length made.0.graphs < 2 ^ 64) where
    abbrev world : World
    world = world_behind known classes layout (helpers layout.structs needs)

    pub stands : Standing made.0.graphs world helped needs made.1
    stands = standing known classes layout needs caught count none no_more paired few

    pub some : length needs ≤ length helped
    some =
        let a : length helped ≡ length (map (helper_graph numbers) needs) + length (shared_graphs numbers needs all_shared) = length-append (map (helper_graph numbers) needs) (shared_graphs numbers needs all_shared) in
        let b : length (map (helper_graph numbers) needs) ≡ length needs = length-map needs (helper_graph numbers) in
        omega (arith, a, b)

    -- what the helper of a need calls is told not to raise
    shared_told : (i : ℕ) (need : Need) → slice_get needs i ≡ Some need → (g : Shared) → uses g need.helper ≡ true → silent (number_in numbers g) ≡ true
    shared_told i need at g u =
        let there : slice_get helped (number_in numbers g) ≡ Some (shared_graph numbers g) = shared_found needs (length layout.structs) [] helped (sym (append-nil helped)) i need at g u in
        or_second (quiet_by made.1 (number_in numbers g)) (lies (length needs) (length helped) (number_in numbers g))
        (lies_so (length needs) (length helped) (number_in numbers g) (number_behind_needs needs (length layout.structs) g) (slice_get_within helped (number_in numbers g) (shared_graph numbers g) there))

    -- ---- a graph that helpers call

    shared_closed : (n : ℕ) (graph : LlGraph) → length needs ≤ n → n < length helped → slice_get made.0.graphs n ≡ Some graph → AllQuiet silent graph.blocks
    shared_closed n graph low high e =
        let x = there_is helped n high in
        let only : OnlyAsks known world = programs_only_ask known world in
        let front = front_stands known classes layout needs caught count only n x.0 x.1 in
        let counted : length (map (helper_graph numbers) needs) ≡ length needs = length-map needs (helper_graph numbers) in
        let behind = behind_front (map (helper_graph numbers) needs) (shared_graphs numbers needs all_shared) n x.0 x.1 (omega (arith, counted, low)) in
        let it : IsShared needs numbers x.0 = shared_at numbers needs all_shared behind.0 x.0 behind.1 in
        let use_it : UsedBy needs it.graph = used_by needs it.graph it.used in
        let same : shared_graph numbers it.graph ≡ graph = shared_is made.0.graphs n front.1 numbers it.graph front.0 x.0 graph it.is front.2 e in
        subst (λ (y : LlGraph). AllQuiet silent y.blocks) same (shared_quiet silent numbers use_it.need.helper (shared_told use_it.place use_it.need use_it.there) it.graph use_it.use_it)

    -- ---- a helper

    helper_closed : (n : ℕ) (graph : LlGraph) → slice_get made.1.caught n ≡ Some nothing → slice_get made.0.graphs n ≡ Some graph → AllQuiet silent graph.blocks
    helper_closed n graph c e =
        let below : n < length made.1.caught = slice_get_within made.1.caught n nothing c in
        let as_many : length made.1.caught ≡ length needs = stands.counted in
        let at = there_is needs n (omega (arith, below, as_many)) in
        let there : slice_get helped n ≡ Some (graph_for numbers at.0.helper) = helper_found needs (length layout.structs) [] helped (sym (append-nil helped)) n at.0 at.1 in
        let stood = stands.helper n (graph_for numbers at.0.helper) nothing there c in
        let same : graph_for numbers at.0.helper ≡ graph = plainly made.0.graphs n (graph_for numbers at.0.helper) graph stood.0 stood.1 e in
        subst (λ (y : LlGraph). AllQuiet silent y.blocks) same (helper_quiet silent numbers at.0.helper (shared_told n at.0 at.1))

    -- ---- a small graph

    abbrev all_told : (made.1.first_small == 0) ≡ false → Telling
    all_told z = telling made.0.graphs world helped needs made.1 stands some silent z (λ n h. or_first (quiet_by made.1 n) (lies (length needs) (length helped) n) h)

    small_closed : (n k : ℕ) (s : Small) (graph : LlGraph) → (made.1.first_small == 0) ≡ false → n ≡ made.1.first_small + k → slice_get made.1.smalls k ≡ Some s → small_raises s ≡ false → slice_get made.0.graphs n ≡ Some graph → AllQuiet silent graph.blocks
    small_closed n k s graph z at there h e =
        let stood = stands.small k s there in
        let same : (small_of world s stood.made).0 ≡ graph = same_graph made.0.graphs n (small_of world s stood.made).0 graph (subst (λ i. slice_get made.0.graphs i ≡ Some (small_of world s stood.made).0) (sym at) stood.graph) e in
        subst (λ (y : LlGraph). AllQuiet silent y.blocks) same (small_calm (all_told z) world s stood.made h stood.grows)

    -- ---- all of them

    quiet_closed : (n : ℕ) (graph : LlGraph) → quiet_by made.1 n ≡ true → slice_get made.0.graphs n ≡ Some graph → AllQuiet silent graph.blocks
    quiet_closed n graph h e = by (reason made.1 n h).why
      where
        by : Why made.1 n → AllQuiet silent graph.blocks
        by (AsHelper c) = helper_closed n graph c e
        by (AsSmall k s at c there q) = small_closed n k s graph (reason made.1 n h).numbers at there q e

    graph_closed : (n : ℕ) (graph : LlGraph) → silent n ≡ true → slice_get made.0.graphs n ≡ Some graph → AllQuiet silent graph.blocks
    graph_closed n graph h e = by (either (quiet_by made.1 n) (lies (length needs) (length helped) n) h)
      where
        by : (quiet_by made.1 n ≡ true) ⊎ (lies (length needs) (length helped) n ≡ true) → AllQuiet silent graph.blocks
        by (inl q) = quiet_closed n graph q e
        by (inr q) = (let it = lies_from (length needs) (length helped) n q in shared_closed n graph it.0 it.1 e)

    closed : AreClosed made.0 silent
    closed g graph h e n block f = quiet_in silent graph.blocks (graph_closed g graph h e) n block f

    later : (found : Found) → Grows found made.1 → (n : ℕ) → quiet_by found n ≡ true → silent n ≡ true
    later found late n h = or_first (quiet_by made.1 n) (lies (length needs) (length helped) n) (quiet_later made.0.graphs world helped needs made.1 stands some found late n h)

pub silent_graphs_are_closed : SilentGraphsAreClosed
silent_graphs_are_closed known classes layout p r few =
    subst (λ q. AreClosed q (silent_in known classes layout p r)) (sym r.written)
    (closed known classes layout r.needs r.caught r.count r.no_small_more r.no_helper_more r.paired (subst (λ (q : LlProgram). length q.graphs < 2 ^ 64) r.written few))

pub quiet_stays_quiet : QuietStaysQuiet
quiet_stays_quiet known classes layout p r few found late n h =
    later known classes layout r.needs r.caught r.count r.no_small_more r.no_helper_more r.paired (subst (λ (q : LlProgram). length q.graphs < 2 ^ 64) r.written few) found late n h

-- Helpers stand at their numbers, and so do the statics of classes.
use Rattle.std.proofs.Common.{◌≡◌, ◌≤◌, ℕ, zero, suc, ◌+◌, ◌&&◌, Bool, true, false, List, [], ◌∷◌, ◌++◌, length, map, slice_get, Option, Some, None, refl, sym, ap, subst, ◌∙◌, arith, rules, append_assoc}
use Rattle.std.specs.Prelude.{if◌then◌else◌, option_map}
use Rattle.std.proofs.lemmas.Option.{slice_get-map}
use denote.Enum.Bare.{same_true}
use Rattle.ll_code.specs.declared.program.LlType.TheVariants as type
use Rattle.ll_code.specs.declared.program.LlGraph.{LlGraph}
use Rattle.ll_build.specs.contracts.needs.Helper.{the_type as helper_type}
use Rattle.ll_build.specs.contracts.needs.HelperPartialEq.TheImpl.{eq-value as equal_helpers}
use Rattle.ll_build.specs.declared.needs.Helper.{Helper}
use Rattle.ll_build.specs.declared.needs.Need.{Need}
use Rattle.ll_build.specs.Needs.{all_shared, numbers_of}
use Rattle.ll_helpers.specs.Helpers.{graph_for, helper_graph, helpers, shared_graphs}
use Rattle.class_desc.specs.Tables.{Tables}
use Rattle.flow_graph.specs.declared.graph.Graph.{Graph}
use Rattle.rpy_meaning.specs.declared.row.Covers.{Covers}
use Rattle.rpy_meaning.specs.contracts.row.CoversPartialEq.TheImpl.{eq-value as equal_covers}
use Rattle.rtyper_layout.specs.declared.layout.Layout.{Layout}
use Rattle.rtyper_data.specs.declared.found.Found.{Found}
use Rattle.rtyper_data.specs.declared.small.Small.{Small}
use Rattle.rtyper_data.specs.Finding.{failures_of, helper_number, is_need, need_from, needed}
use Rattle.rtyper_op.specs.Prebuilt.{prebuilt}
use Rattle.rtyper_raising.specs.Raising.{caught_at, covers_of, raising_blocks, raising_graph, raising_graphs}
use Rattle.rtyper_class.specs.Seen.{World}
use Rattle.rtyper_class.specs.Vtables.{exceptions, vtables}
use Rattle.rtyper_program.specs.Entry.{entry_graph}
use Rattle.rtyper_program.specs.Graphs.{graph_of}
use Rattle.rtyper_program.specs.Program.{all_graphs, arguments_number, found_first, functions_from, pass, plain_graphs, small_of, smalls_to, with_function, with_small, world_behind}
use Rattle.rtyper_program.specs.Seen.{Known, is_reached}
use Rattle.growth_laws.specs.Growing.{Grows}
use Rattle.program_asks.specs.Standing.{HasStatics, HelperStands, OnlyAsks}
use Rattle.growth_laws.proofs.Fronts.{in_front, longer, no_shorter, stays, whole}
use Rattle.growth_laws.proofs.Growing.{growth_is_one, same_found}
use Rattle.program_asks.proofs.Passes.{all, all_grow, blocks_grow, functions_grow, helpers_grow, plain, plain_to_all}

-- ---- which need is asked for

same_helper : (a b : Helper) → equal_helpers.it a b ≡ true → a ≡ b
same_helper a b h = same_true helper_type (search rules) a b h

same_covers : (a b : Covers) → equal_covers.it a b ≡ true → a ≡ b
same_covers a b h = grind (arith, h)

and_first : (a b : Bool) → (a && b) ≡ true → a ≡ true
and_first true b h = refl
and_first false b h = h

and_second : (a b : Bool) → (a && b) ≡ true → b ≡ true
and_second true b h = h
and_second false b h = absurd (let f : false ≡ true = h in cc)

pub record Needed (needs : List Need) (caught : List Covers) (h : Helper) (c : Covers) (i : ℕ) : Type 0 where
  pub need : Need
  pub there : slice_get needs i ≡ Some need
  pub helper : need.helper ≡ h
  pub covers : slice_get caught i ≡ Some c

need_is : (need : Need) (o : Option Covers) (h : Helper) (c : Covers) → is_need need o h c ≡ true → (need.helper ≡ h) × (o ≡ Some c)
unfolding is_need
need_is need None h c e = absurd (let f : false ≡ true = e in cc)
need_is need (Some d) h c e = (
  same_helper need.helper h (and_first (equal_helpers.it need.helper h) (equal_covers.it d c) e),
  ap (λ x. Some x) (same_covers d c (and_second (equal_helpers.it need.helper h) (equal_covers.it d c) e)),
)

need_here : (k : ℕ) (need : Need) (needs : List Need) (caught : List Covers) (h : Helper) (c : Covers) (n : ℕ) (b : Bool) → is_need need (slice_get caught k) h c ≡ b
    → (need_from (k + 1) needs caught h c ≡ Some n → (i : ℕ) × (n ≡ k + 1 + i) × (need : Need) × (slice_get needs i ≡ Some need) × (need.helper ≡ h) × (slice_get caught n ≡ Some c))
    → (if b then Some k else need_from (k + 1) needs caught h c) ≡ Some n
    → (i : ℕ) × (n ≡ k + i) × (found : Need) × (slice_get (need ∷ needs) i ≡ Some found) × (found.helper ≡ h) × (slice_get caught n ≡ Some c)
need_here k need needs caught h c n true f further g =
    let q : Some k ≡ Some n = g in
    let r : k ≡ n = cc in
    let p = need_is need (slice_get caught k) h c f in
    (0, omega (arith, r), need, refl, p.0, subst (λ i. slice_get caught i ≡ Some c) r p.1)
need_here k need needs caught h c n false f further g =
    let r = further g in
    let q : n ≡ k + 1 + r.0 = r.1 in
    (suc r.0, omega (arith, q), r.2, r.3, r.4, r.5)

pub need_at : (k : ℕ) (needs : List Need) (caught : List Covers) (h : Helper) (c : Covers) (n : ℕ) → need_from k needs caught h c ≡ Some n
    → (i : ℕ) × (n ≡ k + i) × (need : Need) × (slice_get needs i ≡ Some need) × (need.helper ≡ h) × (slice_get caught n ≡ Some c)
need_at k [] caught h c n e = absurd (let f : None ≡ Some n = e in cc)
need_at k (need ∷ needs) caught h c n e = need_here k need needs caught h c n (is_need need (slice_get caught k) h c) refl (λ f. need_at (k + 1) needs caught h c n f) e

-- where a helper is not new its number is that of a need of its own
known_need : (h : Helper) (c : Covers) (found : Found) (o : Option ℕ) → need_from 0 found.needs found.caught h c ≡ o → length (needed h c found o).1.needs ≤ length found.needs
    → ((needed h c found o).1 ≡ found) × Needed found.needs found.caught h c (needed h c found o).0
known_need h c found None e few = absurd (let q : length (needed h c found None).1.needs ≡ length found.needs + 1 = longer found.needs (record { helper = h; item = type.Void; key = type.Void }) in omega (arith, q, few))
known_need h c found (Some n) e few =
    let r = need_at 0 found.needs found.caught h c n e in
    let q : n ≡ 0 + r.0 = r.1 in
    let p : r.0 ≡ n = omega (arith, q) in
    (refl, record { need = r.2; there = subst (λ i. slice_get found.needs i ≡ Some r.2) p r.3; helper = r.4; covers = r.5 })

pub known_helper : (h : Helper) (found : Found) → length (helper_number h found).1.needs ≤ length found.needs
    → ((helper_number h found).1 ≡ found) × Needed found.needs found.caught h (failures_of h found.covered) (helper_number h found).0
unfolding helper_number
known_helper h found few = known_need h (failures_of h found.covered) found (need_from 0 found.needs found.caught h (failures_of h found.covered)) refl few

-- ---- the graphs of helpers come first

-- the n-th of these, which is the m-th of all
pub record RaisedAt (m k : ℕ) (gs : List LlGraph) (found : Found) (n : ℕ) (g : LlGraph) : Type 0 where
  pub made : Found
  pub graph : slice_get (raising_graphs k gs found).0 n ≡ Some (raising_graph (caught_at made m) g made)
  pub before : Grows found made
  pub behind : Grows (raising_blocks (caught_at made m) g.blocks made).1 (raising_graphs k gs found).1

pub raised_at : (m k : ℕ) (gs : List LlGraph) (found : Found) (n : ℕ) (g : LlGraph) → m ≡ k + n → slice_get gs n ≡ Some g → RaisedAt m k gs found n g
raised_at m k [] found n g h e = absurd (let f : None ≡ Some g = e in cc)
raised_at m k (x ∷ gs) found zero g h e =
    let f : Some x ≡ Some g = e in
    let q : x ≡ g = cc in
    let z : k ≡ m = omega (arith, h) in
    subst (λ y. RaisedAt m k (x ∷ gs) found zero y) q (subst (λ i. RaisedAt i k (x ∷ gs) found zero x) z (record { made = found; graph = refl; before = same_found found; behind = helpers_grow (k + 1) gs (raising_blocks (caught_at found k) x.blocks found).1 }))
raised_at m k (x ∷ gs) found (suc n) g h e =
    let next = (raising_blocks (caught_at found k) x.blocks found).1 in
    let r = raised_at m (k + 1) gs next n g (omega (arith, h)) e in
    record { made = r.made; graph = r.graph; before = growth_is_one found next r.made (blocks_grow (caught_at found k) x.blocks found) r.before; behind = r.behind }

-- what stands in front stays there
module _ (known : Known) (world : World) where
  function_front : (n : ℕ) (g : Graph) (made : List LlGraph × Found) (i : ℕ) (x : LlGraph) (b : Bool) → slice_get made.0 i ≡ Some x
      → slice_get (if b then (made.0 ++ (graph_of known world n g made.1).0 ∷ [], (graph_of known world n g made.1).1) else made).0 i ≡ Some x
  function_front n g made i x true e = in_front made.0 ((graph_of known world n g made.1).0 ∷ []) i x e
  function_front n g made i x false e = e

  pub functions_front : (n : ℕ) (gs : List Graph) (made : List LlGraph × Found) (i : ℕ) (x : LlGraph) → slice_get made.0 i ≡ Some x → slice_get (functions_from known world n gs made).0 i ≡ Some x
  functions_front n [] made i x e = e
  functions_front n (g ∷ gs) made i x e = functions_front (n + 1) gs (with_function known world n g made) i x (function_front n g made i x (is_reached known.annotation g.function) e)

  small_front : (o : Option Small) (made : List LlGraph × Found) (i : ℕ) (x : LlGraph) → slice_get made.0 i ≡ Some x → slice_get (with_small world o made).0 i ≡ Some x
  small_front None made i x e = e
  small_front (Some s) made i x e = in_front made.0 ((small_of world s made.1).0 ∷ []) i x e

  pub smalls_front : (count : ℕ) (made : List LlGraph × Found) (i : ℕ) (x : LlGraph) → slice_get made.0 i ≡ Some x → slice_get (smalls_to world count made).0 i ≡ Some x
  smalls_front zero made i x e = e
  smalls_front (suc n) made i x e = small_front (slice_get (smalls_to world n made).1.smalls n) (smalls_to world n made) i x (smalls_front n made i x e)

  module _ (only : OnlyAsks known world) (helped : List LlGraph) (first : Found) (count : ℕ) where
    -- the graph of a helper, with the failures raised that stand beside it in the end
    front_at : (g : LlGraph) (n : ℕ) (x : LlGraph) (c : Covers) → slice_get helped n ≡ Some x → slice_get first.caught n ≡ Some c
        → (made : Found) × (slice_get ((all known world only helped first count).0 ++ g ∷ []) n ≡ Some (raising_graph c x made)) × Grows (raising_blocks c x.blocks made).1 (all known world only helped first count).1
    front_at g n x c e f =
        let p = prebuilt world.around known.program.sites known.annotation.same first in
        let m = (plain known world only helped first).1 in
        let a = (all known world only helped first count).1 in
        let r = raised_at n 0 helped p n x (omega arith) e in
        let q : caught_at r.made n ≡ c = ap covers_of (stays first.caught r.made.caught n c (growth_is_one first p r.made (only.constants first) r.before).caught f) in (
          r.made,
          subst (λ d. slice_get ((all known world only helped first count).0 ++ g ∷ []) n ≡ Some (raising_graph d x r.made)) q
              (in_front (all known world only helped first count).0 (g ∷ []) n (raising_graph (caught_at r.made n) x r.made)
              (smalls_front count ((plain known world only helped first).0, (arguments_number world m).1) n (raising_graph (caught_at r.made n) x r.made)
              (functions_front 0 known.graphs (raising_graphs 0 helped p) n (raising_graph (caught_at r.made n) x r.made) r.graph))),
          subst (λ d. Grows (raising_blocks d x.blocks r.made).1 a) q
              (growth_is_one (raising_blocks (caught_at r.made n) x.blocks r.made).1 (raising_graphs 0 helped p).1 a r.behind
              (growth_is_one (raising_graphs 0 helped p).1 m a (functions_grow known world only.functions 0 known.graphs (raising_graphs 0 helped p)) (plain_to_all known world only helped first count))),
        )

-- ---- in a pass

pub helpers_stand : (known : Known) (classes : Tables) (layout : Layout) (needs : List Need) (caught : List Covers) (count : ℕ)
    → OnlyAsks known (world_behind known classes layout (helpers layout.structs needs))
    → length (pass known classes layout needs caught count).1.needs ≡ length needs
    → (h : Helper) (found : Found)
    → Grows (found_first known (world_behind known classes layout (helpers layout.structs needs)) (helpers layout.structs needs) needs caught) found
    → Grows (helper_number h found).1 (pass known classes layout needs caught count).1
    → HelperStands (pass known classes layout needs caught count).0.graphs (numbers_of needs all_shared (length layout.structs)) (pass known classes layout needs caught count).1 (helper_number h found).0 h (failures_of h found.covered)
unfolding pass all_graphs plain_graphs
helpers_stand known classes layout needs caught count only few h found early late =
    let helped = helpers layout.structs needs in
    let world = world_behind known classes layout helped in
    let first = found_first known world helped needs caught in
    let last = (all known world only helped.graphs first count).1 in
    let numbers = numbers_of needs all_shared (length layout.structs) in
    let a : length needs ≤ length found.needs = no_shorter needs found.needs early.needs in
    let b : length (helper_number h found).1.needs ≤ length last.needs = no_shorter (helper_number h found).1.needs last.needs late.needs in
    let w : length last.needs ≡ length needs = few in
    let k = known_helper h found (omega (arith, a, b, w)) in
    let same_length : length found.needs ≡ length needs = omega (arith, a, w, subst (λ f. length f.needs ≤ length last.needs) k.0 b) in
    let t : length found.needs + length caught ≡ length needs + length found.caught = early.together in
    let is : needs ≡ found.needs = whole needs found.needs early.needs same_length in
    let has : caught ≡ found.caught = whole caught found.caught early.caught (omega (arith, t, same_length)) in
    let there : slice_get needs (helper_number h found).0 ≡ Some k.1.need = subst (λ l. slice_get l (helper_number h found).0 ≡ Some k.1.need) (sym is) k.1.there in
    let covers : slice_get caught (helper_number h found).0 ≡ Some (failures_of h found.covered) = subst (λ l. slice_get l (helper_number h found).0 ≡ Some (failures_of h found.covered)) (sym has) k.1.covers in
    let graph : slice_get helped.graphs (helper_number h found).0 ≡ Some (graph_for numbers h) =
    in_front (map (helper_graph numbers) needs) (shared_graphs numbers needs all_shared) (helper_number h found).0 (graph_for numbers h)
    (slice_get-map (helper_graph numbers) needs (helper_number h found).0 ∙ (ap (option_map (helper_graph numbers)) there ∙ ap (λ x. Some (graph_for numbers x)) k.1.helper)) in
    let r = front_at known world only helped.graphs first count (entry_graph world known.program.entry (arguments_number world (plain known world only helped.graphs first).1).0)
    (helper_number h found).0 (graph_for numbers h) (failures_of h found.covered) graph covers in
    record { made = r.0; graph = r.1; grows = r.2 }

-- the statics are those with which it begins, and further ones
pub statics_stand : (known : Known) (classes : Tables) (layout : Layout) (needs : List Need) (caught : List Covers) (count : ℕ)
    → OnlyAsks known (world_behind known classes layout (helpers layout.structs needs))
    → HasStatics known (world_behind known classes layout (helpers layout.structs needs)) (pass known classes layout needs caught count).0
unfolding pass all_graphs plain_graphs
statics_stand known classes layout needs caught count only =
    let helped = helpers layout.structs needs in
    let world = world_behind known classes layout helped in
    let first = found_first known world helped needs caught in
    let grows = all_grow known world only helped.graphs first count in
    let v = vtables world known.program known.annotation.reached in
    record {
      more = _;
      structs = refl;
      before = helped.statics;
      rest = grows.statics.0;
      statics = sym grows.statics.1 ∙ (append_assoc (helped.statics ++ v) (exceptions world) grows.statics.0 ∙ append_assoc helped.statics v (exceptions world ++ grows.statics.0));
      first = refl;
      next = refl;
    }

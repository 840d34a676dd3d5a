-- Helpers without failures stand whenever they were asked for.
use Rattle.std.proofs.Common.{◌≡◌, ◌≤◌, ◌<◌, ◌^◌, ℕ, zero, suc, ◌+◌, Bool, true, false, List, [], ◌∷◌, ◌++◌, length, slice_get, Option, Some, None, refl, sym, ap, subst, ◌∙◌, arith}
use Rattle.std.specs.Prelude.{if◌then◌else◌}
use Rattle.class_desc.specs.Tables.{Tables}
use Rattle.csub_tree.specs.State.{Core}
use Rattle.ll_build.specs.declared.needs.Helper.{Helper}
use Rattle.ll_build.specs.declared.needs.Need.{Need}
use Rattle.ll_build.specs.contracts.needs.HelperPartialEq.TheImpl.{eq-value as equal_helpers}
use Rattle.ll_build.specs.Needs.{uses_texts}
use Rattle.ll_code.specs.declared.program.LlProgram.{LlProgram}
use Rattle.ll_code.specs.declared.program.LlType.TheVariants as type
use Rattle.ll_helpers.specs.Helpers.{helpers}
use Rattle.ll_strings.specs.Laws.{HasHelper}
use Rattle.rpy_meaning.specs.declared.row.Covers.{Covers}
use Rattle.rpy_meaning.specs.contracts.row.CoversPartialEq.TheImpl.{eq-value as equal_covers}
use Rattle.rpy_tree.specs.Value.{Heap}
use Rattle.rtyper_data.specs.declared.found.Found.{Found}
use Rattle.rtyper_data.specs.Finding.{failures_of, helper_number, is_need, need_from, needed, nothing}
use Rattle.rtyper_layout.specs.declared.layout.Layout.{Layout}
use Rattle.rtyper_program.specs.Program.{IsLaid, IsSettled, all_graphs, pass, plain_graphs}
use Rattle.rtyper_program.specs.Seen.{Known}
use Rattle.object_laws.specs.Ghost.{Ghost}
use Rattle.object_laws.specs.Known.{Known as Seen}
use Rattle.object_laws.specs.Represents.{Represents}
use Rattle.growth_laws.specs.Growing.{Grows}
use Rattle.growth_laws.proofs.Fronts.{in_front, last_one, longer, whole}
use Rattle.growth_laws.proofs.Growing.{same_found}
use Rattle.program_asks.specs.Standing.{first_in, last_in, numbers_in, world_in}
use Rattle.program_asks.proofs.Passes.{all_grow}
use Rattle.program_asks.proofs.WritingBlocks.{programs_only_ask}
use Rattle.rtyped_laws.specs.Programs.{layout_for}
use Rattle.helper_stands.specs.Standing.{KnowsTexts}
use Rattle.helper_stands.proofs.Helpers.{plain_helpers_stand}

-- ---- growth does not ask what is covered

pub grows_to : {a b : Found} (c : Covers) → Grows a b → Grows a (record b { covered = c })
grows_to c g = record { needs = g.needs; caught = g.caught; together = g.together; statics = g.statics; smalls = g.smalls; sites = g.sites; first = g.first }

pub grows_from : {a b : Found} (c : Covers) → Grows (record a { covered = c }) b → Grows a b
grows_from c g = record { needs = g.needs; caught = g.caught; together = g.together; statics = g.statics; smalls = g.smalls; sites = g.sites; first = g.first }

pub grows_with : {a b : Found} (c : Covers) → Grows a b → Grows (record a { covered = c }) b
grows_with c g = record { needs = g.needs; caught = g.caught; together = g.together; statics = g.statics; smalls = g.smalls; sites = g.sites; first = g.first }

-- ---- which need is found

-- there is one at a place below the length
some_at : {A : Type 0} (xs : List A) (n : ℕ) → n < length xs → (x : A) × (slice_get xs n ≡ Some x)
some_at [] n h = absurd (omega (arith, h))
some_at (x ∷ xs) zero h = (x, refl)
some_at (x ∷ xs) (suc n) h = some_at xs n (omega (arith, h))

front_same : {A : Type 0} (xs more : List A) (n : ℕ) → n < length xs → slice_get (xs ++ more) n ≡ slice_get xs n
front_same xs more n h = let s = some_at xs n h in in_front xs more n s.0 s.1 ∙ sym s.1

-- with more behind, the same one
kept : (k : ℕ) (needs more : List Need) (caught others : List Covers) (h : Helper) (c : Covers) (n : ℕ) → k + length needs ≤ length caught → need_from k needs caught h c ≡ Some n → need_from k (needs ++ more) (caught ++ others) h c ≡ Some n
kept k [] more caught others h c n le e = absurd (let f : None ≡ Some n = e in cc)
kept k (need ∷ needs) more caught others h c n le e =
    ap (λ o. if is_need need o h c then Some k else need_from (k + 1) (needs ++ more) (caught ++ others) h c) (front_same caught others k (omega (arith, le))) ∙ by (is_need need (slice_get caught k) h c) (λ f. kept (k + 1) needs more caught others h c n (omega (arith, le)) f) e
  where
    by : (b : Bool) → (need_from (k + 1) needs caught h c ≡ Some n → need_from (k + 1) (needs ++ more) (caught ++ others) h c ≡ Some n) → (if b then Some k else need_from (k + 1) needs caught h c) ≡ Some n
        → (if b then Some k else need_from (k + 1) (needs ++ more) (caught ++ others) h c) ≡ Some n
    by true further e = e
    by false further e = further e

-- one that is added is found where none was
added : (k : ℕ) (need : Need) (needs : List Need) (caught : List Covers) (h : Helper) (c : Covers) → is_need need (Some c) h c ≡ true → k + length needs ≡ length caught → need_from k needs caught h c ≡ None
    → need_from k (needs ++ need ∷ []) (caught ++ c ∷ []) h c ≡ Some (k + length needs)
added k need [] caught h c alike same e =
    let q : k ≡ length caught = omega (arith, same) in
    let z : k ≡ k + 0 = omega arith in
    ap (λ o. if is_need need o h c then Some k else None) (ap (slice_get (caught ++ c ∷ [])) q ∙ last_one caught c) ∙ ap (λ b. if b then Some k else None) alike ∙ ap (λ n. Some n) z
added k need (other ∷ needs) caught h c alike same e =
    ap (λ o. if is_need other o h c then Some k else need_from (k + 1) (needs ++ need ∷ []) (caught ++ c ∷ []) h c) (front_same caught (c ∷ []) k (omega (arith, same))) ∙ by (is_need other (slice_get caught k) h c) (λ f. (let z : (k + 1) + length needs ≡ k + length (other ∷ needs) = omega arith in added (k + 1) need needs caught h c alike (omega (arith, same)) f ∙ ap (λ n. Some n) z)) e
  where
    by : (b : Bool) → (need_from (k + 1) needs caught h c ≡ None → need_from (k + 1) (needs ++ need ∷ []) (caught ++ c ∷ []) h c ≡ Some (k + length (other ∷ needs))) → (if b then Some k else need_from (k + 1) needs caught h c) ≡ None
        → (if b then Some k else need_from (k + 1) (needs ++ need ∷ []) (caught ++ c ∷ []) h c) ≡ Some (k + length (other ∷ needs))
    by true further e = absurd (let f : Some k ≡ None = e in cc)
    by false further e = further e

alike_need : (h : Helper) (c : Covers) → equal_helpers.it h h ≡ true → equal_covers.it c c ≡ true → is_need (record { helper = h; item = type.Void; key = type.Void }) (Some c) h c ≡ true
unfolding is_need
alike_need h c e f = cc

-- ---- in a program

module _ (known : Known) (classes : Tables) (layout : Layout) (p : LlProgram) (r : IsSettled known classes layout p) where
  pub first_grows : Grows (first_in known classes layout p r) (last_in known classes layout p r)
  unfolding pass all_graphs plain_graphs
  first_grows = all_grow known (world_in known classes layout p r) (programs_only_ask known (world_in known classes layout p r)) (helpers layout.structs r.needs).graphs (first_in known classes layout p r) r.count

  needs_are : r.needs ≡ (last_in known classes layout p r).needs
  needs_are = whole r.needs (last_in known classes layout p r).needs first_grows.needs r.no_helper_more

  caught_are : r.caught ≡ (last_in known classes layout p r).caught
  caught_are = (
      let a : length (last_in known classes layout p r).needs + length r.caught ≡ length r.needs + length (last_in known classes layout p r).caught = first_grows.together in
      let b : length (last_in known classes layout p r).needs ≡ length r.needs = r.no_helper_more in
      whole r.caught (last_in known classes layout p r).caught first_grows.caught (omega (arith, a, b)))

  -- what was asked for to the last moment has as many failures as helpers
  paired_so : (found : Found) → Grows found (last_in known classes layout p r) → length found.caught ≡ length found.needs
  paired_so found g =
      let a : length (last_in known classes layout p r).needs + length found.caught ≡ length found.needs + length (last_in known classes layout p r).caught = g.together in
      let b : length r.caught ≡ length (last_in known classes layout p r).caught = ap length caught_are in
      let c : length r.needs ≡ length (last_in known classes layout p r).needs = ap length needs_are in
      let d : length r.caught ≡ length r.needs = r.paired in
      omega (arith, a, b, c, d)

  -- the moment at which nothing but these helpers was asked for, with what is covered
  abbrev again : Covers → Found
  again c = record (first_in known classes layout p r) { covered = c }

  module _ (h : Helper) (c : Covers) (alike : equal_helpers.it h h ≡ true) (same : equal_covers.it (failures_of h c) (failures_of h c) ≡ true) where
    abbrev F : Covers
    F = failures_of h c

    from_first : (needs : List Need) (caught : List Covers) (n : ℕ) → length caught ≡ length needs → (more : List Need) (others : List Covers) → needs ++ more ≡ r.needs → caught ++ others ≡ r.caught → need_from 0 needs caught h F ≡ Some n
        → need_from 0 r.needs r.caught h F ≡ Some n
    from_first needs caught n long more others e f at =
        subst (λ l. need_from 0 l r.caught h F ≡ Some n) e (subst (λ l. need_from 0 (needs ++ more) l h F ≡ Some n) f (kept 0 needs more caught others h F n (omega (arith, long)) at))

    number_first : (found : Found) (o : Option ℕ) → need_from 0 found.needs found.caught h F ≡ o → Grows (needed h F found o).1 (last_in known classes layout p r) → need_from 0 r.needs r.caught h F ≡ Some (needed h F found o).0
    number_first found (Some n) e late =
        from_first found.needs found.caught n (paired_so found late) late.needs.0 late.caught.0 (late.needs.1 ∙ sym needs_are) (late.caught.1 ∙ sym caught_are) e
    number_first found None e late =
        let need : Need = record { helper = h; item = type.Void; key = type.Void } in
        let long = paired_so (needed h F found None).1 late in
        let a : length (found.needs ++ need ∷ []) ≡ length found.needs + 1 = longer found.needs need in
        let b : length (found.caught ++ F ∷ []) ≡ length found.caught + 1 = longer found.caught F in
        let q : length (found.caught ++ F ∷ []) ≡ length (found.needs ++ need ∷ []) = long in
        let z : 0 + length found.needs ≡ length found.needs = omega arith in
        from_first (found.needs ++ need ∷ []) (found.caught ++ F ∷ []) (length found.needs) long late.needs.0 late.caught.0 (late.needs.1 ∙ sym needs_are) (late.caught.1 ∙ sym caught_are)
        (added 0 need found.needs found.caught h F (alike_need h F alike same) (omega (arith, a, b, q)) e ∙ ap (λ n. Some n) z)

  -- a helper has then the number that it has whenever it was asked for
  pub number_again : (h : Helper) (found : Found) → equal_helpers.it h h ≡ true → equal_covers.it (failures_of h found.covered) (failures_of h found.covered) ≡ true → Grows (helper_number h found).1 (last_in known classes layout p r)
      → helper_number h (again found.covered) ≡ ((helper_number h found).0, again found.covered)
  unfolding helper_number
  number_again h found alike same late = ap (needed h (failures_of h found.covered) (again found.covered)) (number_first h found.covered alike same found (need_from 0 found.needs found.caught h (failures_of h found.covered)) refl late)

-- so a helper that has nothing to raise stands
pub helper_stands : (known : Known) (classes : Tables) (p : LlProgram) (r : IsLaid known classes p) (seen : Seen) → length p.graphs < 2 ^ 64 → length (layout_for known classes).structs < 2 ^ 64 → (uses_texts r.needs ≡ true → KnowsTexts p seen)
    → (h : Helper) (found : Found) → equal_helpers.it h h ≡ true → failures_of h found.covered ≡ nothing → Grows (helper_number h found).1 (last_in known classes (layout_for known classes) p r)
    → (g : Ghost) (heap : Heap) (core : Core) → Represents (layout_for known classes) seen g heap core.steps core.blocks core.statics
    → HasHelper p (numbers_in known classes (layout_for known classes) p r) h (helper_number h found).0 core
helper_stands known classes p r seen few small knows h found alike none late g heap core memory =
    let layout : Layout = layout_for known classes in
    let again = record (first_in known classes layout p r) { covered = found.covered } in
    let same : equal_covers.it (failures_of h found.covered) (failures_of h found.covered) ≡ true = ap (λ c. equal_covers.it c c) none in
    let q = number_again known classes layout p r h found alike same late in
    subst (λ n. HasHelper p (numbers_in known classes layout p r) h n core) (ap (λ (m : ℕ × Found). m.0) q)
    (plain_helpers_stand known classes p r seen few small knows h again none (grows_to found.covered (same_found (first_in known classes layout p r))) (subst (λ (m : ℕ × Found). Grows m.1 (last_in known classes layout p r)) (sym q) (grows_with found.covered (first_grows known classes layout p r))) g heap core memory)

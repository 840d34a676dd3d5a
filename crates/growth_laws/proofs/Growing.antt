-- What is asked for only grows.
use Rattle.std.proofs.Common.{◌≡◌, ℕ, ◌+◌, List, [], ◌∷◌, ◌++◌, Option, Some, None, length, refl, ◌∙◌, arith}
use Rattle.csub_tree.specs.declared.tree.CCell.{CCell}
use Rattle.ll_build.specs.declared.needs.Helper.{Helper}
use Rattle.rpy_meaning.specs.declared.row.Covers.{Covers}
use Rattle.rtyper_data.specs.declared.found.Found.{Found}
use Rattle.rtyper_data.specs.declared.small.Small.{Small}
use Rattle.rtyper_data.specs.Finding.{asked, failures_of, helper_number, need_from, needed, placed, small_from, small_number, static_from, static_of}
use Rattle.growth_laws.specs.Growing.{Grows}
use Rattle.growth_laws.proofs.Fronts.{itself, longer, one_more, further}

pub same_found : (found : Found) → Grows found found
same_found found = record { needs = itself found.needs; caught = itself found.caught; together = refl; statics = itself found.statics; smalls = itself found.smalls; sites = itself found.prebuilt; first = refl }

pub growth_is_one : (a b c : Found) → Grows a b → Grows b c → Grows a c
growth_is_one a b c g h = record {
  needs = further a.needs b.needs c.needs g.needs h.needs;
  caught = further a.caught b.caught c.caught g.caught h.caught;
  together = (let i : length b.needs + length a.caught ≡ length a.needs + length b.caught = g.together in let j : length c.needs + length b.caught ≡ length b.needs + length c.caught = h.together in omega (arith, i, j));
  statics = further a.statics b.statics c.statics g.statics h.statics;
  smalls = further a.smalls b.smalls c.smalls g.smalls h.smalls;
  sites = further a.prebuilt b.prebuilt c.prebuilt g.sites h.sites;
  first = h.first ∙ g.first;
}

together_more : {A B : Type 0} (xs : List A) (ys : List B) (x : A) (y : B) → length (xs ++ x ∷ []) + length ys ≡ length xs + length (ys ++ y ∷ [])
together_more xs ys x y = let i : length (xs ++ x ∷ []) ≡ length xs + 1 = longer xs x in let j : length (ys ++ y ∷ []) ≡ length ys + 1 = longer ys y in omega (arith, i, j)

needed_grows : (h : Helper) (c : Covers) (found : Found) (at : Option ℕ) → Grows found (needed h c found at).1
needed_grows h c found (Some n) = same_found found
needed_grows h c found None = record { needs = one_more found.needs _; caught = one_more found.caught c; together = together_more found.needs found.caught _ c; statics = itself found.statics; smalls = itself found.smalls; sites = itself found.prebuilt; first = refl }

pub helpers_grow : (h : Helper) (found : Found) → Grows found (helper_number h found).1
unfolding helper_number
helpers_grow h found = needed_grows h (failures_of h found.covered) found (need_from 0 found.needs found.caught h (failures_of h found.covered))

asked_grows : (s : Small) (found : Found) (at : Option ℕ) → Grows found (asked s found at).1
asked_grows s found (Some n) = same_found found
asked_grows s found None = record { needs = itself found.needs; caught = itself found.caught; together = refl; statics = itself found.statics; smalls = one_more found.smalls s; sites = itself found.prebuilt; first = refl }

pub smalls_grow : (s : Small) (found : Found) → Grows found (small_number s found).1
unfolding small_number
smalls_grow s found = asked_grows s found (small_from 0 found.smalls s)

pub placed_grows : (kind : ℕ) (cells : List CCell) (found : Found) (at : Option ℕ) → Grows found (placed kind cells found at).1
placed_grows kind cells found (Some n) = same_found found
placed_grows kind cells found None = record { needs = itself found.needs; caught = itself found.caught; together = refl; statics = one_more found.statics _; smalls = itself found.smalls; sites = itself found.prebuilt; first = refl }

pub statics_grow : (kind : ℕ) (cells : List CCell) (found : Found) → Grows found (static_of kind cells found).1
unfolding static_of
statics_grow kind cells found = placed_grows kind cells found (static_from 0 found.statics kind cells)

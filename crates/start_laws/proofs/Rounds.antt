-- In rounds all sites are made whose parts are, and what was made stays.
use Rattle.std.proofs.Common.{◌≡◌, ℕ, zero, suc, ◌+◌, ◌==◌, Bool, true, false, List, length, slice_get, Option, Some, None, refl}
use Rattle.std.specs.Prelude.{if◌then◌else◌, min}
use Rattle.ll_code.specs.declared.program.LlType.{LlType}
use Rattle.ll_code.specs.declared.program.LlType.TheVariants as type
use Rattle.ll_code.specs.declared.program.LlProgram.{LlProgram}
use Rattle.rpy_tree.specs.declared.program.Const.{Const}
use Rattle.rpy_tree.specs.declared.program.Site.{Site}
use Rattle.rtyper_layout.specs.declared.dicts.Mapping.{Mapping}
use Rattle.rtyper_layout.specs.Layout.{mapping_at}
use Rattle.rtyper_data.specs.declared.found.Found.{Found}
use Rattle.rtyper_data.specs.Seen.{Around}
use Rattle.rtyper_op.specs.Mapped.{mapped, mapped_by}
use Rattle.rtyper_op.specs.Prebuilt.{all_ready, contents, contents_if, is_made, listed, made, prebuilt, round, rounds, site_by, site_made, sites_from, type_of_site}
use Rattle.object_laws.specs.Done.{HasLayout}
use Rattle.object_laws.specs.Ghost.{Use}
use Rattle.object_laws.specs.Known.{Known}
use Rattle.start_laws.specs.Constants.{IsSite}
use Rattle.start_laws.proofs.Listing.{HasUses}

module _ (p : LlProgram) (around : Around) (known : Known) (sites : List Site) (same : List ℕ) (has : HasLayout p around.layout) (begin : List Use) where
  abbrev Uses : Found → Type 0
  Uses found = HasUses p around known sites same has begin found

  -- the list or dict of a site is made
  pub record Makes : Type 0 where
    pub lists : (site n : ℕ) (pairs : List (Const × Const)) (found : Found) → Uses found → (it : IsSite around known sites same false site n) → it.of.prebuilt ≡ Some pairs → all_ready found pairs ≡ true → Uses (listed around site n pairs found)
    pub dicts : (site n : ℕ) (pairs : List (Const × Const)) (m : Mapping) (found : Found) → Uses found → (it : IsSite around known sites same true site n) → it.of.prebuilt ≡ Some pairs → all_ready found pairs ≡ true → mapping_at around.layout.mappings n ≡ Some m
        → Uses (mapped_by around site n pairs (Some m) found)

  module _ (makes : Makes) where
    mapped_uses : (site n : ℕ) (pairs : List (Const × Const)) (found : Found) → Uses found → (it : IsSite around known sites same true site n) → it.of.prebuilt ≡ Some pairs → all_ready found pairs ≡ true → Uses (mapped around site n pairs found)
    unfolding mapped
    mapped_uses site n pairs found old it is ready = by (mapping_at around.layout.mappings n) refl
      where
        by : (o : Option Mapping) → mapping_at around.layout.mappings n ≡ o → Uses (mapped_by around site n pairs o found)
        by None e = old
        by (Some m) e = makes.dicts site n pairs m found old it is ready e

    made_uses : (dict : Bool) (site n : ℕ) (pairs : List (Const × Const)) (found : Found) → Uses found → (it : IsSite around known sites same dict site n) → it.of.prebuilt ≡ Some pairs → all_ready found pairs ≡ true → Uses (made around dict site n pairs found)
    made_uses true site n pairs found old it is ready = mapped_uses site n pairs found old it is ready
    made_uses false site n pairs found old it is ready = makes.lists site n pairs found old it is ready

    contents_uses : (dict : Bool) (site n : ℕ) (pairs : List (Const × Const)) (found : Found) → Uses found → (it : IsSite around known sites same dict site n) → it.of.prebuilt ≡ Some pairs → Uses (contents around dict site n pairs found)
    unfolding contents
    contents_uses dict site n pairs found old it is = by (all_ready found pairs) refl
      where
        by : (b : Bool) → all_ready found pairs ≡ b → Uses (if b then made around dict site n pairs found else found)
        by true e = made_uses dict site n pairs found old it is e
        by false e = old

    contents_if_uses : (site : ℕ) (s : Site) (pairs : Option (List (Const × Const))) (t : LlType) (found : Found) → Uses found → slice_get sites site ≡ Some s → s.prebuilt ≡ pairs → type_of_site around sites same site s.dict ≡ t → Uses (contents_if around s.dict site pairs t found)
    contents_if_uses site s (Some pairs) (type.Ptr n) found old at is typed = contents_uses s.dict site n pairs found old (record { of = s; is = at; so = refl; typed = typed }) is
    contents_if_uses site s _ _ found old at is typed = old

    site_by_uses : (site : ℕ) (s : Option Site) (found : Found) → Uses found → slice_get sites site ≡ s → Uses (site_by around sites same site s found)
    site_by_uses site None found old at = old
    site_by_uses site (Some s) found old at = contents_if_uses site s s.prebuilt (type_of_site around sites same site s.dict) found old at refl refl

    site_made_uses : (site : ℕ) (found : Found) → Uses found → Uses (site_made around sites same site found)
    unfolding site_made
    site_made_uses site found old = by (is_made found site)
      where
        by : (b : Bool) → Uses (if b then found else site_by around sites same site (slice_get sites site) found)
        by true = old
        by false = site_by_uses site (slice_get sites site) found old refl

    sites_from_uses : (turns site : ℕ) (found : Found) → Uses found → Uses (sites_from around sites same turns site found)
    sites_from_uses zero site found old = old
    sites_from_uses (suc turns) site found old = sites_from_uses turns (min (site + 1) 4294967295) (site_made around sites same site found) (site_made_uses site found old)

    round_uses : (found : Found) → Uses found → Uses (round around sites same found)
    unfolding round
    round_uses found old = sites_from_uses (length sites) 0 found old

    if_uses : (x y : Found) (b : Bool) → Uses x → Uses y → Uses (if b then x else y)
    if_uses x y true g h = g
    if_uses x y false g h = h

    rounds_use : (turns : ℕ) (found : Found) → Uses found → Uses (rounds around sites same turns found)
    rounds_use zero found old = old
    rounds_use (suc turns) found old =
        let next = round_uses found old in
        if_uses (round around sites same found) (rounds around sites same turns (round around sites same found)) (length (round around sites same found).prebuilt == length found.prebuilt) next (rounds_use turns (round around sites same found) next)

    pub prebuilt_uses : (found : Found) → Uses found → Uses (prebuilt around sites same found)
    unfolding prebuilt
    prebuilt_uses found old = rounds_use (length sites) found old

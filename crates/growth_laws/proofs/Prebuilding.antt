-- The lists and dicts that are constants of modules only ask for more.
use Rattle.std.proofs.Common.{ℕ, zero, suc, ◌+◌, ◌==◌, Bool, true, false, List, [], ◌∷◌, length, slice_get, Option, Some, None, refl}
use Rattle.std.specs.Prelude.{if◌then◌else◌, min}
use Rattle.csub_tree.specs.declared.tree.CCell.{CCell}
use Rattle.csub_tree.specs.declared.tree.CCell.TheVariants as cell
use Rattle.csub_tree.specs.declared.tree.CConst.{CConst}
use Rattle.ll_code.specs.declared.program.LlType.{LlType}
use Rattle.ll_code.specs.declared.program.LlType.TheVariants as type
use Rattle.rpy_tree.specs.declared.program.Const.{Const}
use Rattle.rpy_tree.specs.declared.program.Site.{Site}
use Rattle.rtyper_layout.specs.declared.dicts.Mapping.{Mapping}
use Rattle.rtyper_layout.specs.Dicts.{first, second, stored_key, stored_value}
use Rattle.rtyper_layout.specs.Layout.{mapping_at}
use Rattle.rtyper_layout.specs.Types.{word}
use Rattle.rtyper_data.specs.declared.found.Found.{Found}
use Rattle.rtyper_data.specs.Finding.{same_type}
use Rattle.rtyper_data.specs.Seen.{Around}
use Rattle.rtyper_op.specs.Constants.{constant_of}
use Rattle.rtyper_op.specs.Mapped.{array_of, count_cell, dict_cells, entries_from, entry_of, first_array, first_cells, index_of, mapped, mapped_by, own_static, prebuilt_by, second_array, second_cells, stored, with_entry}
use Rattle.rtyper_op.specs.Prebuilt.{all_ready, array_cells, contents, contents_if, is_made, item_type, list_of, listed, made, prebuilt, round, rounds, site_by, site_made, sites_from, type_of_site, values_from, with_array}
use Rattle.growth_laws.specs.Growing.{Grows}
use Rattle.growth_laws.proofs.Fronts.{itself, one_more}
use Rattle.growth_laws.proofs.Growing.{same_found, placed_grows}
use Rattle.growth_laws.proofs.Data.{if_asked, then_grows}
use Rattle.growth_laws.proofs.Operating.{constant_of_grows}

pub if_found : {found : Found} (x y : Found) (c : Bool) → Grows found x → Grows found y → Grows found (if c then x else y)
if_found x y true g h = g
if_found x y false g h = h

-- ---- dicts

abbrev Taken : {A B : Type 0} → (A → B) → Type 0
Taken {A} {B} f = A

-- lists of entries, whose type has no name here
abbrev Entries : Type 0
Entries = Taken index_of

pub stored_grows : (around : Around) (c : Const) (k item : LlType) (found : Found) → Grows found (stored around c k item found).1
unfolding stored
stored_grows around c k item found = if_asked _ _ (same_type item k) (constant_of_grows around c k found) (constant_of_grows around c k found)

pub entry_of_grows : (around : Around) (m : Mapping) (pair : Const × Const) (found : Found) → Grows found (entry_of around m pair found).1
unfolding entry_of
entry_of_grows around m pair found = then_grows (stored_grows around pair.0 m.key (stored_key m) found) (stored_grows around pair.1 m.value (stored_value m) (stored around pair.0 m.key (stored_key m) found).1)

pub entries_from_grows : (around : Around) (m : Mapping) (pairs : List (Const × Const)) (done : Entries × Found) → Grows done.1 (entries_from around m pairs done).1
entries_from_grows around m [] done = same_found done.1
entries_from_grows around m (p ∷ pairs) done = then_grows (entry_of_grows around m p done.1) (entries_from_grows around m pairs (with_entry (entry_of around m p done.1).0 done.0, (entry_of around m p done.1).1))

pub array_of_grows : (k : ℕ) (items : List CCell) (found : Found) → Grows found (array_of k items found).1
unfolding array_of
array_of_grows k items found = placed_grows k (count_cell (length items) ∷ cell.Braces items ∷ []) found None

pub first_array_grows : (m : Mapping) (entries : Entries) (found : Found) → Grows found (first_array m entries found).1
unfolding first_array
first_array_grows m entries found = array_of_grows (first m) (first_cells m entries) found

pub second_array_grows : (m : Mapping) (entries : Entries) (found : Found) → Grows found (second_array m entries found).1
unfolding second_array
second_array_grows m entries found = array_of_grows (second m) (second_cells m entries) found

pub dict_cells_grows : (m : Mapping) (entries : Entries) (found : Found) → Grows found (dict_cells m entries found).1
unfolding dict_cells
dict_cells_grows m [] found = same_found found
dict_cells_grows m (e ∷ entries) found = then_grows (first_array_grows m (e ∷ entries) found) (second_array_grows m (e ∷ entries) (first_array m (e ∷ entries) found).1)

pub prebuilt_by_grows : (site k : ℕ) (those : List CCell × Found) → Grows those.1 (prebuilt_by site k those)
prebuilt_by_grows site k those = record { needs = itself those.1.needs; caught = itself those.1.caught; together = refl; statics = one_more those.1.statics _; smalls = itself those.1.smalls; sites = one_more those.1.prebuilt _; first = refl }

pub mapped_by_grows : (around : Around) (site k : ℕ) (pairs : List (Const × Const)) (m : Option Mapping) (found : Found) → Grows found (mapped_by around site k pairs m found)
mapped_by_grows around site k pairs None found = same_found found
mapped_by_grows around site k pairs (Some m) found = then_grows (entries_from_grows around m pairs ([], found)) (with_entries (entries_from around m pairs ([], found)))
  where
    with_entries : (entries : Entries × Found) → Grows entries.1 (prebuilt_by site k (dict_cells m entries.0 entries.1))
    with_entries entries = then_grows (dict_cells_grows m entries.0 entries.1) (prebuilt_by_grows site k (dict_cells m entries.0 entries.1))

pub mapped_grows : (around : Around) (site k : ℕ) (pairs : List (Const × Const)) (found : Found) → Grows found (mapped around site k pairs found)
unfolding mapped
mapped_grows around site k pairs found = mapped_by_grows around site k pairs (mapping_at around.layout.mappings k) found

-- ---- lists

module _ (around : Around) where
  pub values_from_grows : (item : LlType) (pairs : List (Const × Const)) (found : Found) → Grows found (values_from around item pairs found).1
  values_from_grows item [] found = same_found found
  values_from_grows item (p ∷ pairs) found = then_grows (constant_of_grows around p.1 item found) (values_from_grows item pairs (constant_of around p.1 item found).1)

  pub array_cells_grows : (pairs : List (Const × Const)) (item : LlType) (found : Found) → Grows found (array_cells around pairs item found).1
  unfolding array_cells
  array_cells_grows pairs item found = values_from_grows item pairs found

  pub list_of_grows : (site list : ℕ) (pairs : List (Const × Const)) (items : CConst × Found) → Grows items.1 (list_of around site list pairs items)
  list_of_grows site list pairs items = prebuilt_by_grows site list (count_cell (length pairs) ∷ cell.Const items.0 ∷ [], items.1)

  pub with_array_grows : (site list : ℕ) (pairs : List (Const × Const)) (cells : List CCell × Found) → Grows cells.1 (with_array around site list pairs cells)
  with_array_grows site list pairs cells = then_grows (placed_grows (word (list + 1)) cells.0 cells.1 None) (list_of_grows site list pairs (own_static (word (list + 1)) cells.0 cells.1))

  pub listed_grows : (site list : ℕ) (pairs : List (Const × Const)) (found : Found) → Grows found (listed around site list pairs found)
  unfolding listed
  listed_grows site list pairs found = then_grows (array_cells_grows pairs (item_type around (word (list + 1))) found) (with_array_grows site list pairs (array_cells around pairs (item_type around (word (list + 1))) found))

  -- ---- sites

  pub made_grows : (dict : Bool) (site k : ℕ) (pairs : List (Const × Const)) (found : Found) → Grows found (made around dict site k pairs found)
  made_grows dict site k pairs found = if_found _ _ dict (mapped_grows around site k pairs found) (listed_grows site k pairs found)

  pub contents_grows : (dict : Bool) (site k : ℕ) (pairs : List (Const × Const)) (found : Found) → Grows found (contents around dict site k pairs found)
  unfolding contents
  contents_grows dict site k pairs found = if_found _ _ (all_ready found pairs) (made_grows dict site k pairs found) (same_found found)

  pub contents_if_grows : (dict : Bool) (site : ℕ) (pairs : Option (List (Const × Const))) (t : LlType) (found : Found) → Grows found (contents_if around dict site pairs t found)
  contents_if_grows dict site (Some pairs) (type.Ptr k) found = contents_grows dict site k pairs found
  contents_if_grows dict site _ _ found = same_found found

  module _ (sites : List Site) (same : List ℕ) where
    pub site_by_grows : (site : ℕ) (s : Option Site) (found : Found) → Grows found (site_by around sites same site s found)
    site_by_grows site None found = same_found found
    site_by_grows site (Some s) found = contents_if_grows s.dict site s.prebuilt (type_of_site around sites same site s.dict) found

    pub site_made_grows : (site : ℕ) (found : Found) → Grows found (site_made around sites same site found)
    unfolding site_made
    site_made_grows site found = if_found _ _ (is_made found site) (same_found found) (site_by_grows site (slice_get sites site) found)

    pub sites_from_grows : (turns site : ℕ) (found : Found) → Grows found (sites_from around sites same turns site found)
    sites_from_grows zero site found = same_found found
    sites_from_grows (suc turns) site found = then_grows (site_made_grows site found) (sites_from_grows turns (min (site + 1) 4294967295) (site_made around sites same site found))

    pub round_grows : (found : Found) → Grows found (round around sites same found)
    unfolding round
    round_grows found = sites_from_grows (length sites) 0 found

    pub rounds_grow : (turns : ℕ) (found : Found) → Grows found (rounds around sites same turns found)
    rounds_grow zero found = same_found found
    rounds_grow (suc turns) found = if_found _ _ (length (round around sites same found).prebuilt == length found.prebuilt) (round_grows found) (then_grows (round_grows found) (rounds_grow turns (round around sites same found)))

    pub prebuilt_grows : (found : Found) → Grows found (prebuilt around sites same found)
    unfolding prebuilt
    prebuilt_grows found = rounds_grow (length sites) found

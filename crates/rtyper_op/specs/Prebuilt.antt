-- Lists and dicts that are constants of modules, in rounds: each makes those whose parts are made.
use Rattle.std.specs.Prelude.{ℕ, zero, suc, ◌+◌, ◌==◌, ◌&&◌, min, Bool, true, false, is_some, if◌then◌else◌, List, [], ◌∷◌, length, slice_get, Option, Some, None}
use Rattle.csub_tree.specs.declared.tree.CCell.{CCell}
use Rattle.csub_tree.specs.declared.tree.CCell.TheVariants as cell
use Rattle.csub_tree.specs.declared.tree.CConst.{CConst}
use Rattle.ann_element.specs.declared.element.Element.{Element}
use Rattle.ann_element.specs.declared.element.Element.TheVariants as element
use Rattle.ann_element.specs.Sites.{leader}
use Rattle.ll_code.specs.declared.program.LlType.{LlType}
use Rattle.ll_code.specs.declared.program.LlType.TheVariants as type
use Rattle.ll_code.specs.declared.program.LlStruct.{LlStruct}
use Rattle.rpy_tree.specs.declared.program.Const.{Const, fold-Const}
use Rattle.rpy_tree.specs.declared.program.Const.TheOpen.{Const-F}
use Rattle.rpy_tree.specs.declared.program.Site.{Site}
use Rattle.rtyper_layout.specs.Types.{word, type_of}
use Rattle.rtyper_data.specs.declared.found.Found.{Found}
use Rattle.rtyper_op.specs.Constants.{constant_of, with_first}
use Rattle.rtyper_data.specs.Finding.{prebuilt_at}
use Rattle.rtyper_op.specs.Mapped.{count_cell, mapped, own_static, prebuilt_by}
use Rattle.rtyper_data.specs.Seen.{Around}

-- ---- what is made

abbrev pub is_made : Found → ℕ → Bool
is_made found site = is_some (prebuilt_at found.prebuilt site)

abbrev pub are_true : List Bool → Bool
are_true [] = true
are_true (b ∷ bs) = b && are_true bs

abbrev pub ready_step : Found → Const-F Bool → Bool
ready_step found (Const-F.List site) = is_made found site
ready_step found (Const-F.Dict site) = is_made found site
ready_step found (Const-F.Tuple parts) = are_true parts
ready_step found other = true

-- whether the lists and dicts inside a constant are made
abbrev pub is_ready : Found → Const → Bool
is_ready found = fold-Const Bool (ready_step found)

abbrev pub all_ready : Found → List (Const × Const) → Bool
all_ready found [] = true
all_ready found (p ∷ pairs) = is_ready found p.1 && all_ready found pairs

-- ---- lists

abbrev pub items_of : Option LlType → LlType
items_of None = type.Bool
items_of (Some t) = t

abbrev pub item_in : Option LlStruct → LlType
item_in None = type.Bool
item_in (Some s) = items_of s.items

module _ (around : Around) where
  abbrev pub item_type : ℕ → LlType
  item_type array = item_in (slice_get around.layout.structs array)

  -- the values of the pairs, as items of a type
  abbrev pub values_from : LlType → List (Const × Const) → Found → List CCell × Found
  values_from item [] found = ([], found)
  values_from item (p ∷ pairs) found = with_first (constant_of around p.1 item found) (λ next. values_from item pairs next)

  -- the length, and the items
  abbrev pub array_of : List (Const × Const) → List CCell × Found → List CCell × Found
  array_of pairs items = (count_cell (length pairs) ∷ cell.Braces items.0 ∷ [], items.1)

  unfoldable pub array_cells : List (Const × Const) → LlType → Found → List CCell × Found
  array_cells pairs item found = array_of pairs (values_from item pairs found)

  abbrev pub list_of : ℕ → ℕ → List (Const × Const) → CConst × Found → Found
  list_of site list pairs items = prebuilt_by site list (count_cell (length pairs) ∷ cell.Const items.0 ∷ [], items.1)

  abbrev pub with_array : ℕ → ℕ → List (Const × Const) → List CCell × Found → Found
  with_array site list pairs cells = list_of site list pairs (own_static (word (list + 1)) cells.0 cells.1)

  -- two lists with the same items are two lists
  unfoldable pub listed : ℕ → ℕ → List (Const × Const) → Found → Found
  listed site list pairs found = with_array site list pairs (array_cells pairs (item_type (word (list + 1))) found)

  -- ---- sites

  abbrev pub made : Bool → ℕ → ℕ → List (Const × Const) → Found → Found
  made dict site kind pairs found = if dict then mapped around site kind pairs found else listed site kind pairs found

  -- where its parts are made
  unfoldable pub contents : Bool → ℕ → ℕ → List (Const × Const) → Found → Found
  contents dict site kind pairs found = if all_ready found pairs then made dict site kind pairs found else found

  abbrev pub contents_if : Bool → ℕ → Option (List (Const × Const)) → LlType → Found → Found
  contents_if dict site (Some pairs) (type.Ptr kind) found = contents dict site kind pairs found
  contents_if dict site pairs t found = found

  module _ (sites : List Site) (same : List ℕ) where
    -- what a site makes
    unfoldable pub element_of : ℕ → Bool → Element
    element_of site dict = if dict then element.Dict (leader same site) false else element.List (leader same site) false

    unfoldable pub type_of_site : ℕ → Bool → LlType
    type_of_site site dict = type_of around.layout (element_of site dict)

    abbrev pub site_by : ℕ → Option Site → Found → Found
    site_by site None found = found
    site_by site (Some s) found = contents_if s.dict site s.prebuilt (type_of_site site s.dict) found

    -- the list or dict of a site, where it is a constant whose parts are made and it is not
    unfoldable pub site_made : ℕ → Found → Found
    site_made site found = if is_made found site then found else site_by site (slice_get sites site) found

    -- so many sites, from this one on
    abbrev pub sites_from : ℕ → ℕ → Found → Found
    sites_from zero site found = found
    sites_from (suc turns) site found = sites_from turns (min (site + 1) 4294967295) (site_made site found)

    unfoldable pub round : Found → Found
    round found = sites_from (length sites) 0 found

    -- so many rounds, or until one makes nothing
    abbrev pub rounds : ℕ → Found → Found
    rounds zero found = found
    rounds (suc turns) found = if length (round found).prebuilt == length found.prebuilt then round found else rounds turns (round found)

    unfoldable pub prebuilt : Found → Found
    prebuilt found = rounds (length sites) found

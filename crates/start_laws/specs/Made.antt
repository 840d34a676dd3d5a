-- Each list and dict of a module that has a struct is made in the end.
use Rattle.std.specs.Prelude.{◌≡◌, ◌<◌, ◌^◌, ℕ, true, List, ◌∷◌, ◌++◌, length, slice_get, Some, []}
use Rattle.ll_code.specs.declared.program.LlType.TheVariants as type
use Rattle.rpy_tree.specs.declared.program.Const.{Const, fold-Const}
use Rattle.rpy_tree.specs.declared.program.Const.TheOpen.{Const-F}
use Rattle.rpy_tree.specs.declared.program.Site.{Site}
use Rattle.rtyper_layout.specs.declared.dicts.Mapping.{Mapping}
use Rattle.rtyper_layout.specs.Layout.{mapping_at}
use Rattle.rtyper_data.specs.declared.found.Found.{Found}
use Rattle.rtyper_data.specs.Seen.{Around}
use Rattle.rtyper_op.specs.Prebuilt.{is_made, prebuilt, type_of_site}

-- the sites of the lists and dicts in a constant
abbrev pub joined : List (List ℕ) → List ℕ
joined [] = []
joined (sites ∷ more) = sites ++ joined more

abbrev pub sites_step : Const-F (List ℕ) → List ℕ
sites_step (Const-F.List site) = site ∷ []
sites_step (Const-F.Dict site) = site ∷ []
sites_step (Const-F.Tuple parts) = joined parts
sites_step other = []

abbrev pub sites_in : Const → List ℕ
sites_in = fold-Const (List ℕ) sites_step

module _ (around : Around) (sites : List Site) (same : List ℕ) where
  -- a list or dict of a module, which has its struct, and a dict its mapping
  pub record IsContents (site : ℕ) (pairs : List (Const × Const)) : Type 0 where
    pub of : Site
    pub is : slice_get sites site ≡ Some of
    pub filled : of.prebuilt ≡ Some pairs
    pub struct : ℕ
    pub typed : type_of_site around sites same site of.dict ≡ type.Ptr struct
    pub mapped : of.dict ≡ true → (m : Mapping) × (mapping_at around.layout.mappings struct ≡ Some m)

  -- What stands in such a list or dict is one. Each has a depth, which is greater than those of what stands in it, and the deepest is less deep
  -- than there are sites.
  pub record AreNested (depth : ℕ → ℕ) : Type 0 where
    pub few : length sites < 2 ^ 32
    pub less : (site : ℕ) (pairs : List (Const × Const)) → IsContents site pairs → depth site < length sites
    pub inside : (site : ℕ) (pairs : List (Const × Const)) (i j other : ℕ) (pair : Const × Const) → IsContents site pairs → slice_get pairs i ≡ Some pair → slice_get (sites_in pair.1) j ≡ Some other
        → (depth other < depth site) × ((inner : List (Const × Const)) × IsContents other inner)

-- Then all of them are made, whatever was asked for before.
abbrev pub SitesAreMade : Type 0
SitesAreMade = (around : Around) (sites : List Site) (same : List ℕ) (depth : ℕ → ℕ) (found : Found) → AreNested around sites same depth
    → (site : ℕ) (pairs : List (Const × Const)) → IsContents around sites same site pairs → is_made (prebuilt around sites same found) site ≡ true

-- The constants of modules, lists and dicts among them, and what the annotation has to say of them.
use Rattle.std.specs.Prelude.{◌≡◌, ◌<◌, ◌^◌, ℕ, Bool, true, false, List, ◌∷◌, length, map, slice_get, Option, Some, []}
use Rattle.ann_element.specs.declared.element.Element.{Element}
use Rattle.ll_code.specs.declared.program.LlType.TheVariants as type
use Rattle.rpy_meaning.specs.Compare.{is_equal}
use Rattle.rpy_meaning.specs.Operations.{constant}
use Rattle.rpy_tree.specs.declared.program.Const.{Const}
use Rattle.rpy_tree.specs.declared.program.Const.TheVariants as const
use Rattle.rpy_tree.specs.declared.program.Site.{Site}
use Rattle.rtyper_layout.specs.declared.dicts.Mapping.{Mapping}
use Rattle.rtyper_layout.specs.Kinds.{kind_seen}
use Rattle.rtyper_layout.specs.Layout.{is_list, mapping_at}
use Rattle.rtyper_layout.specs.Types.{type_seen}
use Rattle.rtyper_data.specs.Seen.{Around}
use Rattle.rtyper_list.specs.Operands.{of_list}
use Rattle.rtyper_op.specs.Prebuilt.{type_of_site}
use Rattle.conversion_laws.specs.Constants.{IsValue}
use Rattle.conversion_laws.specs.Going.{IsTuple}
use Rattle.dict_find_laws.specs.Keys.{AreKeys as MayBeKeys}
use Rattle.dict_laws.specs.Keys.{AreApart}
use Rattle.object_laws.specs.Known.{Known}
use Rattle.object_laws.specs.Represents.{HasRoom}
use Rattle.object_laws.specs.Values.{of_dict}

module _ (around : Around) (known : Known) (sites : List Site) (same : List ℕ) where
  -- lists, or dicts, are made at the site, and have this struct
  pub record IsSite (dict : Bool) (site n : ℕ) : Type 0 where
    pub of : Site
    pub is : slice_get sites site ≡ Some of
    pub so : of.dict ≡ dict
    pub typed : type_of_site around sites same site dict ≡ type.Ptr n

  mutual
    -- The constant is a value of which this is known: one without lists and dicts, the list or the dict of a site, or a tuple, whose parts
    -- are its items.
    pub data IsConstant : Option Element → Const → Type 0 where
      Plain : {seen : Option Element} {c : Const} → IsValue around known seen c → IsConstant seen c
      Listed : {seen : Option Element} (site n : ℕ) → of_list (kind_seen seen) ≡ true → type_seen around.layout seen ≡ type.Ptr n → is_list around.layout n ≡ true → IsSite false site n → IsConstant seen (const.List site)
      Mapped : {seen : Option Element} (site n : ℕ) (m : Mapping) → of_dict (kind_seen seen) ≡ true → type_seen around.layout seen ≡ type.Ptr n → mapping_at around.layout.mappings n ≡ Some m → IsSite true site n → IsConstant seen (const.Dict site)
      Items : {seen : Option Element} (n : ℕ) (parts : List Element) (cs : List Const) → IsTuple around.layout seen n parts → AllConstants parts cs → IsConstant seen (const.Tuple cs)

    -- one for each
    pub data AllConstants : List Element → List Const → Type 0 where
      End : AllConstants [] []
      Next : {part : Element} {parts : List Element} {c : Const} {cs : List Const} → IsConstant (Some part) c → AllConstants parts cs → AllConstants (part ∷ parts) (c ∷ cs)

  -- the items of a list, or the values of a dict
  abbrev pub AreItems : Option Element → List (Const × Const) → Type 0
  AreItems seen [] = Unit {0}
  AreItems seen (pair ∷ pairs) = IsConstant seen pair.1 × AreItems seen pairs

  -- keys are words, truth values, bytes or strings, which may be missing, or tuples of such
  abbrev pub AreKeys : Option Element → List (Const × Const) → Type 0
  AreKeys seen [] = Unit {0}
  AreKeys seen (pair ∷ pairs) = (MayBeKeys around.layout seen × IsValue around known seen pair.0) × AreKeys seen pairs

  -- of so many steps: what is known of the items of a list is so, and it is not too long
  pub record IsListOf (n steps : ℕ) (pairs : List (Const × Const)) : Type 0 where
    pub struct : is_list around.layout n ≡ true
    pub items : AreItems (known.items n) pairs
    pub room : HasRoom (length pairs) steps

  -- What is known of the keys and values of a dict is so, no two keys are equal, and there are not too many.
  pub record IsDictOf (m : Mapping) (pairs : List (Const × Const)) : Type 0 where
    pub keys : AreKeys (known.keys m.dict) pairs
    pub values : AreItems (known.items m.dict) pairs
    pub apart : AreApart is_equal (map (λ (pair : Const × Const). constant known.program.sites pair.0) pairs)
    pub few : length pairs < 2 ^ 61

  -- Each list and dict of a module that has a struct is what the annotation says of it.
  pub record AreConstants (steps : ℕ) : Type 0 where
    pub lists : (site n : ℕ) (pairs : List (Const × Const)) → (it : IsSite false site n) → it.of.prebuilt ≡ Some pairs → IsListOf n steps pairs
    pub dicts : (site n : ℕ) (pairs : List (Const × Const)) (m : Mapping) → (it : IsSite true site n) → it.of.prebuilt ≡ Some pairs → mapping_at around.layout.mappings n ≡ Some m → IsDictOf m pairs

-- What is known of the items of lists, of the values and keys of dicts, of statics and of the lists and dicts of modules, in every program: what
-- its annotation says of the sites of a struct, that strings and tuples stay, and where what is made at a site stands.
use Rattle.std.specs.Prelude.{ℕ, ◌-◌, ◌/◌, Bool, true, false, if◌then◌else◌, List, slice_get, Option, Some, None}
use Rattle.ann_element.specs.declared.annotation.Annotation.{Annotation}
use Rattle.ann_element.specs.declared.element.Element.{Element}
use Rattle.csub_tree.specs.State.{Static, Block}
use Rattle.csub_tree.specs.Layout.{static_block}
use Rattle.csub_tree.specs.declared.tree.CStatic.{CStatic}
use Rattle.ll_code.specs.Machine.{shapes_of}
use Rattle.ll_code.specs.declared.program.LlProgram.{LlProgram}
use Rattle.ll_code.specs.declared.program.LlType.{LlType}
use Rattle.ll_code.specs.declared.program.LlType.TheVariants as type
use Rattle.rpy_tree.specs.declared.program.Site.{Site}
use Rattle.rtyper_layout.specs.declared.layout.Layout.{Layout}
use Rattle.rtyper_layout.specs.Layout.{is_list}
use Rattle.rtyper_data.specs.Finding.{prebuilt_at}
use Rattle.rtyper_data.specs.Seen.{Around}
use Rattle.rtyper_op.specs.Prebuilt.{type_of_site}
use Rattle.object_laws.specs.Ghost.{Sort, ListOf, DictOf, Home}
use Rattle.object_laws.specs.Represents.{is_settled}

-- the least site of the class that has a struct of lists, each of which has two, or of dicts, each of which has three
abbrev pub site_of : Layout → ℕ → Option ℕ
site_of layout n = if is_list layout n then slice_get layout.lists ((n - layout.first_list) / 2) else slice_get layout.dicts ((n - layout.first_dict) / 3)

abbrev pub element_of : List Element → Option ℕ → Option Element
element_of elements None = None
element_of elements (Some site) = slice_get elements site

-- the items of the lists of a struct, or the values of its dicts
abbrev pub items_of : Layout → Annotation → ℕ → Option Element
items_of layout a n = element_of a.items (site_of layout n)

abbrev pub keys_of : Layout → Annotation → ℕ → Option Element
keys_of layout a n = element_of a.keys (site_of layout n)

-- strings and tuples stay
abbrev pub static_if : LlProgram → Layout → Option CStatic → Option Block
static_if p layout None = None
static_if p layout (Some static) = if is_settled layout static.kind then Some (static_block (shapes_of p.structs) static) else None

abbrev pub static_of : LlProgram → Layout → ℕ → Option Block
static_of p layout s = static_if p layout (slice_get p.statics s)

abbrev pub sort_of : Bool → ℕ → Sort
sort_of false n = ListOf n
sort_of true n = DictOf n

-- a list, or a dict, of the struct of a type
abbrev pub home_at : Bool → LlType → ℕ → Option Home
home_at dict (type.Ptr n) number = Some (record { sort = sort_of dict n; head = Static number })
home_at dict t number = None

module _ (around : Around) (sites : List Site) (same : List ℕ) where
  abbrev pub home_by : ℕ → Option Site → Option ℕ → Option Home
  home_by site (Some s) (Some number) = home_at s.dict (type_of_site around sites same site s.dict) number
  home_by site s number = None

  -- where the list or dict of a site stands, where these are made
  abbrev pub home_of : List (ℕ × ℕ) → ℕ → Option Home
  home_of made site = home_by site (slice_get sites site) (prebuilt_at made site)

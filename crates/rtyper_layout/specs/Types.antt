-- The types of values: each element has one, by the numbers of the structs of the layout.
use Rattle.std.specs.Prelude.{ℕ, ◌+◌, ◌*◌, ◌==◌, ◌&&◌, min, Bool, true, false, if◌then◌else◌, List, [], ◌∷◌, map, slice_get, Option, Some, None}
use Rattle.ll_code.specs.declared.program.LlType.{LlType}
use Rattle.ll_code.specs.declared.program.LlType.TheVariants as type
use Rattle.ll_code.specs.Typed.{same_type}
use Rattle.ann_element.specs.declared.element.Element.{Element, fold-Element}
use Rattle.ann_element.specs.declared.element.Element.TheOpen.{Element-F}
use Rattle.rtyper_layout.specs.declared.classes.Laid.{Laid}
use Rattle.rtyper_layout.specs.declared.layout.Layout.{Layout}

-- numbers are words: for a greater one stands the greatest
abbrev pub word : ℕ → ℕ
word n = min n 18446744073709551615

-- the first struct of the place, where each has so many from the first on
abbrev pub struct_at : ℕ → ℕ → ℕ → ℕ
struct_at first each place = word (first + word (place * each))

-- the type of a field: what is never there may have any
abbrev pub field_type : LlType → LlType
field_type type.Void = type.Bool
field_type t = t

abbrev pub are_same : List LlType → List LlType → Bool
are_same [] [] = true
are_same (t ∷ ts) (u ∷ us) = same_type t u && are_same ts us
are_same ts us = false

-- the place of the first site that is this one, counted from a number
abbrev pub site_from : ℕ → List ℕ → ℕ → Option ℕ
site_from n [] site = None
site_from n (s ∷ sites) site = if s == site then Some n else site_from (n + 1) sites site

-- of the first shape that has these types
abbrev pub shape_from : ℕ → List (List LlType) → List LlType → Option ℕ
shape_from n [] types = None
shape_from n (shape ∷ shapes) types = if are_same types shape then Some n else shape_from (n + 1) shapes types

-- what has no struct has no type
abbrev pub pointer_to : ℕ → ℕ → Option ℕ → LlType
pointer_to first each None = type.Void
pointer_to first each (Some place) = type.Ptr (struct_at first each place)

abbrev pub root_of : Option Laid → LlType
root_of None = type.Void
root_of (Some laid) = type.Ptr laid.root

abbrev pub laid_in : List (Option Laid) → ℕ → Option Laid
laid_in laid class = one (slice_get laid class)
  where
    one : Option (Option Laid) → Option Laid
    one None = None
    one (Some laid) = laid

module _ (layout : Layout) where
  abbrev pub tuple_type : List LlType → LlType
  tuple_type types = pointer_to layout.first_tuple 1 (shape_from 0 layout.shapes (map field_type types))

  abbrev pub type_step : Element-F LlType → LlType
  type_step Element-F.Unreached = type.Void
  type_step Element-F.NoneOnly = type.Bool
  type_step Element-F.KnownTrue = type.Bool
  type_step Element-F.KnownFalse = type.Bool
  type_step Element-F.Bool = type.Bool
  type_step Element-F.IntPos = type.Signed
  type_step Element-F.Int = type.Signed
  type_step Element-F.Char = type.Char
  type_step Element-F.Str = type.Ptr 0
  type_step Element-F.StrOrNone = type.Ptr 0
  type_step (Element-F.Tuple types) = tuple_type types
  type_step (Element-F.List site none) = pointer_to layout.first_list 2 (site_from 0 layout.lists site)
  type_step (Element-F.Dict site none) = pointer_to layout.first_dict 3 (site_from 0 layout.dicts site)
  type_step (Element-F.Instance class none) = root_of (laid_in layout.classes class)
  type_step (Element-F.Func functions none) = type.Fn
  type_step (Element-F.Conflict lists dicts) = type.Void

  -- the type of the values of an element
  abbrev pub type_of : Element → LlType
  type_of = fold-Element LlType type_step

  -- the types of the fields of a tuple of these
  abbrev pub shape : List Element → List LlType
  shape [] = []
  shape (e ∷ es) = field_type (type_of e) ∷ shape es

  abbrev pub is_field : Element → LlType → Bool
  is_field e t = same_type (field_type (type_of e)) t

  abbrev pub type_seen : Option Element → LlType
  type_seen None = type.Void
  type_seen (Some e) = type_of e

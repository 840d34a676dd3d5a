-- Which classes have structs, and where these stand.
use Rattle.std.specs.Prelude.{ℕ, zero, suc, ◌+◌, ◌==◌, nat_lt, nat_le, Bool, true, false, if◌then◌else◌, List, [], ◌∷◌, ◌++◌, length, replicate, slice_get, slice_set, unwrap_or, Option, Some, None, codes}
use Rattle.std.specs.Str.{bytes_eq}
use Rattle.ll_code.specs.declared.program.LlType.{LlType}
use Rattle.ll_code.specs.declared.program.LlType.TheVariants as type
use Rattle.ll_code.specs.declared.program.LlStruct.{LlStruct}
use Rattle.rpy_tree.specs.declared.program.ClassInfo.{ClassInfo}
use Rattle.rpy_resolved.specs.declared.tree.Class.{Class}
use Rattle.class_desc.specs.Line.{base}
use Rattle.class_desc.specs.Range.{range}
use Rattle.ann_element.specs.declared.element.Element.{Element}
use Rattle.rtyper_layout.specs.declared.classes.Laid.{Laid}
use Rattle.rtyper_layout.specs.declared.layout.Layout.{Layout}
use Rattle.rtyper_layout.specs.Types.{word, laid_in, field_type, type_of}

abbrev pub class_at : ℕ → ℕ
class_at n = if nat_le n 4294967295 then n else 4294967295

-- ---- families

abbrev pub top_step : (ℕ → ℕ) → ℕ → Option ℕ → ℕ
top_step further class None = class
top_step further class (Some b) = further b

-- the topmost of the class and of so many above it
abbrev pub top_within : List ClassInfo → ℕ → ℕ → ℕ
top_within classes zero class = class
top_within classes (suc n) class = top_step (top_within classes n) class (base classes class)

abbrev pub top_of : List ClassInfo → ℕ → ℕ
top_of classes class = top_within classes (length classes) class

abbrev pub mark : ℕ → List Bool → List Bool
mark n marks = if nat_lt n (length marks) then slice_set marks n true else marks

abbrev pub is_marked : List Bool → ℕ → Bool
is_marked marks n = unwrap_or (slice_get marks n) false

abbrev pub mark_if : Bool → ℕ → List Bool → List Bool
mark_if made n marks = if made then mark n marks else marks

-- the topmost classes of those that are made, by number
abbrev pub mark_made : List ClassInfo → ℕ → List Bool → List Bool → List Bool
mark_made classes n marks [] = marks
mark_made classes n marks (m ∷ made) = mark_made classes (n + 1) (mark_if m (top_of classes (class_at n)) marks) made

-- `Exception` is class 0
abbrev pub families : List ClassInfo → List Bool → Bool → List Bool
families classes made raises = mark_made classes 0 (mark_if raises 0 (replicate (length classes) false)) made

-- ---- order

abbrev pub place_class : ℕ → ℕ → List (Option ℕ) → List (Option ℕ)
place_class n class order = if nat_lt n (length order) then slice_set order n (Some class) else order

-- the first so many classes at their numbers, by which each stands behind its base
abbrev pub placed : List ClassInfo → ℕ → List (Option ℕ)
placed classes zero = replicate (length classes + 1) None
placed classes (suc k) = place_class (range classes (class_at k)).0 (class_at k) (placed classes k)

abbrev pub in_family : List ClassInfo → List Bool → Option ℕ → List ℕ
in_family classes tops None = []
in_family classes tops (Some class) = if is_marked tops (top_of classes class) then class ∷ [] else []

abbrev pub in_families : List ClassInfo → List Bool → List (Option ℕ) → List ℕ
in_families classes tops [] = []
in_families classes tops (c ∷ cs) = in_family classes tops c ++ in_families classes tops cs

-- the classes that have structs, each behind its base
abbrev pub order : List ClassInfo → List Bool → Bool → List ℕ
order classes made raises = in_families classes (families classes made raises) (placed classes (length classes))

-- ---- numbers

abbrev pub one_more : Option ℕ → ℕ → ℕ
one_more None n = n + 1
one_more (Some b) n = n

-- how many of these are topmost
abbrev pub tops : List ClassInfo → List ℕ → ℕ
tops classes [] = 0
tops classes (c ∷ cs) = one_more (base classes c) (tops classes cs)

abbrev pub topmost : ℕ → ℕ → ℕ → Laid
topmost own vtable place = record { own = own; root = own; vtable = vtable; place = place }

abbrev pub under : ℕ → ℕ → ℕ → Option Laid → Laid
under own vtable place None = topmost own vtable place
under own vtable place (Some above) = record { own = own; root = above.root; vtable = above.vtable; place = place }

-- the structs of a class, where those of its base are known
abbrev pub laid_of : Option ℕ → ℕ → ℕ → ℕ → List (Option Laid) → Laid
laid_of None own place vtable above = topmost own vtable place
laid_of (Some b) own place vtable above = under own vtable place (laid_in above b)

abbrev pub set_laid : ℕ → Laid → List (Option Laid) → List (Option Laid)
set_laid class laid all = if nat_lt class (length all) then slice_set all class (Some laid) else all

-- the classes from a place on, after so many vtables
abbrev pub lay_from : List ClassInfo → ℕ → ℕ → ℕ → List (Option Laid) → List ℕ → List (Option Laid)
lay_from classes first place vtable all [] = all
lay_from classes first place vtable all (c ∷ cs) =
    lay_from classes first (place + 1) (one_more (base classes c) vtable) (set_laid c (laid_of (base classes c) (word (first + place)) place (one_more (base classes c) vtable) all) all) cs

-- behind the struct of strings the vtables of the topmost ones, and then a struct for each class
abbrev pub laid_classes : List ClassInfo → List ℕ → List (Option Laid)
laid_classes classes order = lay_from classes (word (tops classes order + 1)) 0 0 (replicate (length classes) None) order

-- ---- attributes

-- the attribute of this name at this home, and its place among those of the home, counted from a number
abbrev pub place_from : ℕ → List (ℕ × List ℕ × Element) → ℕ → List ℕ → Option (ℕ × Element)
place_from n [] home name = None
place_from n (a ∷ more) home name = if a.0 == home then if bytes_eq a.1 name then Some (n, a.2) else place_from (n + 1) more home name else place_from n more home name

abbrev pub attribute_place : List (ℕ × List ℕ × Element) → ℕ → List ℕ → Option (ℕ × Element)
attribute_place attributes home name = place_from 0 attributes home name

abbrev pub attribute_fields : Layout → ℕ → ℕ × List ℕ × Element → List LlType
attribute_fields layout home a = if a.0 == home then field_type (type_of layout a.2) ∷ type.Bool ∷ [] else []

-- each attribute of a class, and whether it is set
abbrev pub own_fields : Layout → ℕ → List (ℕ × List ℕ × Element) → List LlType
own_fields layout home [] = []
own_fields layout home (a ∷ more) = attribute_fields layout home a ++ own_fields layout home more

abbrev pub own_struct : Option Laid → Option ℕ
own_struct None = None
own_struct (Some laid) = Some laid.own

abbrev pub struct_above : Layout → Option ℕ → Option ℕ
struct_above layout None = None
struct_above layout (Some b) = own_struct (laid_in layout.classes b)

abbrev pub vtable_of : Option Laid → ℕ
vtable_of None = 0
vtable_of (Some laid) = laid.vtable

-- what has no base begins with a pointer to its vtable
abbrev pub first_fields : Layout → ℕ → Option ℕ → List LlType
first_fields layout class None = type.Ptr (vtable_of (laid_in layout.classes class)) ∷ []
first_fields layout class (Some above) = []

abbrev pub class_struct : Layout → List ClassInfo → List (ℕ × List ℕ × Element) → ℕ → LlStruct
class_struct layout classes attributes class = record {
  base = struct_above layout (base classes class);
  fields = first_fields layout class (struct_above layout (base classes class)) ++ own_fields layout class attributes;
  items = None;
}

abbrev pub class_structs : Layout → List ClassInfo → List (ℕ × List ℕ × Element) → List ℕ → List LlStruct
class_structs layout classes attributes [] = []
class_structs layout classes attributes (c ∷ cs) = class_struct layout classes attributes c ∷ class_structs layout classes attributes cs

-- ---- vtables

abbrev pub has_name : List (List ℕ) → List ℕ → Bool
has_name [] name = false
has_name (n ∷ names) name = if bytes_eq n name then true else has_name names name

-- a name that is not there yet; what makes an instance is no method of a vtable
abbrev pub with_name : List (List ℕ) → List ℕ → List (List ℕ)
with_name names name = if bytes_eq name (codes "__init__") then names else if has_name names name then names else names ++ name ∷ []

abbrev pub with_names : List (List ℕ) → List (List ℕ × ℕ) → List (List ℕ)
with_names names [] = names
with_names names (m ∷ methods) = with_names (with_name names m.0) methods

abbrev pub with_class : List (List ℕ) → Option Class → List (List ℕ)
with_class names None = names
with_class names (Some class) = with_names names class.methods

-- the names of the methods of a family, in the order of its classes
abbrev pub family_names : List ClassInfo → List Class → ℕ → List (List ℕ) → List ℕ → List (List ℕ)
family_names infos classes top names [] = names
family_names infos classes top names (c ∷ cs) = family_names infos classes top (if top_of infos c == top then with_class names (slice_get classes c) else names) cs

-- of each family
abbrev pub names_if_top : List ClassInfo → List Class → List ℕ → ℕ → Option ℕ → List (List (List ℕ))
names_if_top infos classes order c None = family_names infos classes c [] order ∷ []
names_if_top infos classes order c (Some b) = []

abbrev pub all_names : List ClassInfo → List Class → List ℕ → List ℕ → List (List (List ℕ))
all_names infos classes order [] = []
all_names infos classes order (c ∷ cs) = names_if_top infos classes order c (base infos c) ++ all_names infos classes order cs

-- the number of the class, its methods, and the bytes of its name
abbrev pub vtable_struct : ℕ → LlStruct
vtable_struct methods = record { base = None; fields = type.Signed ∷ replicate methods type.Fn; items = Some type.Char }

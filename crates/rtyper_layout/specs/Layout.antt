-- The structs of a program, in their order: that of strings, those of vtables, of classes, of lists, of dicts and of tuples.
use Rattle.std.specs.Prelude.{ℕ, ◌+◌, ◌-◌, ◌*◌, ◌/◌, ◌%◌, not, ◌==◌, ◌&&◌, nat_le, nat_lt, Bool, if◌then◌else◌, List, [], ◌∷◌, ◌++◌, length, slice_get, Option, Some, None}
use Rattle.ll_code.specs.declared.program.LlType.{LlType}
use Rattle.ll_code.specs.declared.program.LlType.TheVariants as type
use Rattle.ll_code.specs.declared.program.LlStruct.{LlStruct}
use Rattle.rpy_tree.specs.declared.program.ClassInfo.{ClassInfo}
use Rattle.rpy_resolved.specs.declared.tree.Resolved.{Resolved}
use Rattle.ann_element.specs.declared.annotation.Annotation.{Annotation}
use Rattle.rtyper_layout.specs.declared.dicts.Mapping.{Mapping}
use Rattle.rtyper_layout.specs.declared.layout.Layout.{Layout}
use Rattle.rtyper_layout.specs.Types.{word}
use Rattle.rtyper_layout.specs.Sites.{lists, dicts, all_shapes}
use Rattle.rtyper_layout.specs.Families.{order, laid_classes, all_names, class_structs, vtable_struct}
use Rattle.rtyper_layout.specs.Dicts.{mapping, dict_structs, type_in, array}

-- ---- numbers

abbrev pub vtables : List ClassInfo → Resolved → List ℕ → List (List (List ℕ))
vtables infos program classes = all_names infos program.classes classes classes

-- the first struct behind those of strings, vtables and classes
abbrev pub behind_classes : List (List (List ℕ)) → List ℕ → ℕ
behind_classes vtables classes = word (word (length vtables + length classes) + 1)

-- the classes alone
abbrev pub with_classes : Resolved → List ClassInfo → List Bool → Bool → Layout
with_classes program infos made raises = start (order infos made raises)
  where
    start : List ℕ → Layout
    start classes = record {
      structs = [];
      classes = laid_classes infos classes;
      order = classes;
      methods = vtables infos program classes;
      first_list = behind_classes (vtables infos program classes) classes;
      lists = [];
      first_dict = behind_classes (vtables infos program classes) classes;
      dicts = [];
      mappings = [];
      first_tuple = behind_classes (vtables infos program classes) classes;
      shapes = [];
    }

-- two structs for each class of sites of lists, three for each of dicts
abbrev pub with_sites : Annotation → Layout → Layout
with_sites a layout = record layout {
  lists = lists a;
  first_dict = word (layout.first_list + word (length (lists a) * 2));
  dicts = dicts a;
  first_tuple = word (word (layout.first_list + word (length (lists a) * 2)) + word (length (dicts a) * 3));
}

abbrev pub mappings_from : Layout → Annotation → ℕ → List ℕ → List Mapping
mappings_from layout a dict [] = []
mappings_from layout a dict (site ∷ sites) = mapping layout a site dict ∷ mappings_from layout a (word (dict + 3)) sites

abbrev pub with_mappings : Annotation → Layout → Layout
with_mappings a layout = record layout { mappings = mappings_from layout a layout.first_dict layout.dicts }

-- ---- structs

abbrev pub texts : LlStruct
texts = array type.Char

abbrev pub vtable_structs : List (List (List ℕ)) → List LlStruct
vtable_structs [] = []
vtable_structs (names ∷ more) = vtable_struct (length names) ∷ vtable_structs more

-- a length and an array, and the array, which is the next struct
abbrev pub list_structs : ℕ → LlType → List LlStruct
list_structs n item = record { base = None; fields = type.Signed ∷ type.Ptr (word (n + 1)) ∷ []; items = None } ∷ array item ∷ []

abbrev pub all_lists : Layout → Annotation → ℕ → List ℕ → List LlStruct
all_lists layout a n [] = []
all_lists layout a n (site ∷ sites) = list_structs n (type_in layout (slice_get a.items site)) ++ all_lists layout a (n + 2) sites

abbrev pub all_dicts : List Mapping → List LlStruct
all_dicts [] = []
all_dicts (m ∷ ms) = dict_structs m ++ all_dicts ms

abbrev pub tuple_struct : List LlType → LlStruct
tuple_struct shape = record { base = None; fields = shape; items = None }

abbrev pub all_tuples : List (List LlType) → List LlStruct
all_tuples [] = []
all_tuples (shape ∷ shapes) = tuple_struct shape ∷ all_tuples shapes

abbrev pub before_lists : Layout → List ClassInfo → Annotation → List LlStruct
before_lists layout infos a = texts ∷ vtable_structs layout.methods ++ class_structs layout infos a.attributes layout.order

abbrev pub structs_of : Layout → List ClassInfo → Annotation → List LlStruct
structs_of layout infos a = before_lists layout infos a ++ (all_lists layout a (length (before_lists layout infos a)) layout.lists ++ (all_dicts layout.mappings ++ all_tuples layout.shapes))

abbrev pub with_structs : List ClassInfo → Annotation → Layout → Layout
with_structs infos a layout = record layout { structs = structs_of layout infos a }

-- the layout of the values of an annotation; where something is raised, with the classes of exceptions
abbrev pub layout_of : Resolved → List ClassInfo → Annotation → Bool → Layout
layout_of program infos a raises = with_structs infos a (with_mappings a (all_shapes (with_sites a (with_classes program infos a.made raises)) a))

-- ---- what stands where

abbrev pub is_tuple : Layout → ℕ → Bool
is_tuple layout n = nat_le layout.first_tuple n && nat_lt (n - layout.first_tuple) (length layout.shapes)

-- each has two structs
abbrev pub is_list : Layout → ℕ → Bool
is_list layout n = not (nat_lt n layout.first_list) && ((n - layout.first_list) % 2 == 0) && nat_lt ((n - layout.first_list) / 2) (length layout.lists)

abbrev pub mapping_at : List Mapping → ℕ → Option Mapping
mapping_at [] n = None
mapping_at (m ∷ ms) n = if m.dict == n then Some m else mapping_at ms n

abbrev pub fields_in : Option LlStruct → List LlType
fields_in None = []
fields_in (Some s) = s.fields

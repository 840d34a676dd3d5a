-- A heap with one list of two words, and blocks that represent it: an array with a spare place, and a head. A heap with one instance of
-- a class that has a base, and the block that represents it: an attribute of the base that is set, and one of its own that is not. And
-- a heap with one dict of words, with one entry, and blocks that represent it: an array of values with a spare place, one with an index of
-- four words and keys, and a head.
use Rattle.std.specs.Prelude.{ℕ, ◌==◌, pos, negsuc, true, false, List, [], ◌∷◌, Option, Some, None, if◌then◌else◌}
use Rattle.std.specs.Str.{bytes_eq}
use Rattle.ann_element.specs.declared.element.Element.TheVariants as element
use Rattle.csub_tree.specs.State.{Unset, Word, Flag, Ptr, Null, Static, Block}
use Rattle.ll_code.specs.declared.program.LlType.TheVariants as type
use Rattle.rpy_tree.specs.Value.{Word as MeantWord, Listed, Mapped, Instance, Heap}
use Rattle.rpy_meaning.specs.Tree.{Program}
use Rattle.rtyper_layout.specs.declared.classes.Laid.{Laid}
use Rattle.rtyper_layout.specs.declared.dicts.Mapping.{Mapping}
use Rattle.rtyper_layout.specs.declared.layout.Layout.{Layout}
use Rattle.rtyper_layout.specs.Dicts.{dict_structs}
use Rattle.rtyper_layout.specs.Families.{vtable_struct}
use Rattle.rtyper_layout.specs.Layout.{list_structs, texts}
use Rattle.object_laws.specs.Ghost.{Ghost, Stays, Head, Array, Whole, Table, First, Second, ListOf, InstanceOf, DictOf}
use Rattle.object_laws.specs.Known.{Known, Standing, Vtable, vtable_block}
use Rattle.object_laws.specs.Represents.{Represents}

abbrev pub program : Program
program = record { functions = []; classes = []; sites = []; entry = 0 }

abbrev pub no_vtable : Vtable
no_vtable = record { at = Null; number = 0; methods = []; name = [] }

-- ---- a list

-- strings are struct 0, lists of words struct 1, and their arrays struct 2
abbrev pub layout : Layout
layout = record {
  structs = texts ∷ list_structs 1 type.Signed;
  classes = [];
  order = [];
  methods = [];
  first_list = 1;
  lists = 0 ∷ [];
  first_dict = 3;
  dicts = [];
  mappings = [];
  first_tuple = 3;
  shapes = [];
}

abbrev pub known : Known
known = record { program = program; items = λ n. Some element.Int; keys = λ n. Some element.Int; attribute = λ class name. None; vtable = λ class. no_vtable; exception = λ class. Null; graph = λ f. None; static = λ s. None; site = λ s. None }

abbrev pub heap : Heap
heap = Listed (MeantWord (pos 7) ∷ MeantWord (negsuc 1) ∷ []) ∷ []

abbrev pub blocks : List (Option Block)
blocks =
    Some (record { kind = 2; fields = Word (pos 3) ∷ []; items = Word (pos 7) ∷ Word (negsuc 1) ∷ Unset ∷ [] })
    ∷ Some (record { kind = 1; fields = Word (pos 2) ∷ Ptr 0 ∷ []; items = [] }) ∷ []

abbrev pub ghost : Ghost
ghost = record { blocks = Array 0 ∷ Head 0 ∷ []; statics = []; homes = record { sort = ListOf 1; head = Ptr 1 } ∷ [] }

abbrev pub TwoWords : Type 0
TwoWords = Represents layout known ghost heap 1000 blocks []

-- ---- an instance

-- class 13 has the struct 2, and class 14, which is below it, the struct 3; their vtables are struct 1
abbrev pub above : Laid
above = record { own = 2; root = 2; vtable = 1; place = 0 }

abbrev pub below : Laid
below = record { own = 3; root = 2; vtable = 1; place = 1 }

abbrev pub classes : List (Option Laid)
classes = None ∷ None ∷ None ∷ None ∷ None ∷ None ∷ None ∷ None ∷ None ∷ None ∷ None ∷ None ∷ None ∷ Some above ∷ Some below ∷ []

-- a word and whether it is set; and an instance of the first, or none, and whether that is set
abbrev pub class_layout : Layout
class_layout = record layout {
  structs = texts ∷ vtable_struct 0 ∷ record { base = None; fields = type.Ptr 1 ∷ type.Signed ∷ type.Bool ∷ []; items = None } ∷ record { base = Some 2; fields = type.Ptr 2 ∷ type.Bool ∷ []; items = None } ∷ [];
  classes = classes;
  order = 13 ∷ 14 ∷ [];
  methods = [] ∷ [];
  first_list = 4;
  lists = [];
  first_dict = 4;
  first_tuple = 4;
}

-- `x` and `y`
abbrev pub x : List ℕ
x = 120 ∷ []

abbrev pub y : List ℕ
y = 121 ∷ []

abbrev pub attribute : ℕ → List ℕ → Option Standing
attribute class name =
    if bytes_eq x name then Some (record { own = 2; place = 0; element = element.Int })
    else if bytes_eq y name then (if class == 14 then Some (record { own = 3; place = 0; element = element.Instance 13 true }) else None) else None

abbrev pub vtable : ℕ → Vtable
vtable class = if class == 14 then record { at = Static 1; number = 14; methods = []; name = [] } else record { at = Static 0; number = 13; methods = []; name = [] }

abbrev pub class_known : Known
class_known = record known { attribute = attribute; vtable = vtable }

abbrev pub instance_heap : Heap
instance_heap = Instance 14 ((x, MeantWord (pos 7)) ∷ []) ∷ []

abbrev pub statics : List Block
statics = vtable_block 1 (vtable 13) ∷ vtable_block 1 (vtable 14) ∷ []

abbrev pub instance_blocks : List (Option Block)
instance_blocks = Some (record { kind = 3; fields = Static 1 ∷ Word (pos 7) ∷ Flag true ∷ Null ∷ Flag false ∷ []; items = [] }) ∷ []

abbrev pub instance_ghost : Ghost
instance_ghost = record { blocks = Whole 0 ∷ []; statics = Stays (vtable_block 1 (vtable 13)) ∷ Stays (vtable_block 1 (vtable 14)) ∷ []; homes = record { sort = InstanceOf 14; head = Ptr 0 } ∷ [] }

abbrev pub AnInstance : Type 0
AnInstance = Represents class_layout class_known instance_ghost instance_heap 1000 instance_blocks statics

-- ---- a dict

-- dicts from words to words are struct 1, and their arrays the structs 2 and 3
abbrev pub words : Mapping
words = record { dict = 1; key = type.Signed; value = type.Signed }

abbrev pub dict_layout : Layout
dict_layout = record layout {
  structs = texts ∷ dict_structs words;
  first_list = 1;
  lists = [];
  first_dict = 1;
  dicts = 0 ∷ [];
  mappings = words ∷ [];
  first_tuple = 4;
}

abbrev pub dict_heap : Heap
dict_heap = Mapped ((MeantWord (pos 7), MeantWord (pos 70)) ∷ []) ∷ []

-- the hash of 7 leads to the second word of the index
abbrev pub dict_blocks : List (Option Block)
dict_blocks =
    Some (record { kind = 2; fields = Word (pos 2) ∷ []; items = Word (pos 70) ∷ Word (pos 0) ∷ [] })
    ∷ Some (record { kind = 3; fields = Word (pos 6) ∷ []; items = Word (pos 0) ∷ Word (pos 1) ∷ Word (pos 0) ∷ Word (pos 0) ∷ Word (pos 7) ∷ Word (pos 0) ∷ [] })
    ∷ Some (record { kind = 1; fields = Word (pos 1) ∷ Word (pos 2) ∷ Ptr 0 ∷ Ptr 1 ∷ []; items = [] }) ∷ []

abbrev pub dict_ghost : Ghost
dict_ghost = record { blocks = First 0 ∷ Second 0 ∷ Table 0 ∷ []; statics = []; homes = record { sort = DictOf 1; head = Ptr 2 } ∷ [] }

abbrev pub OneEntry : Type 0
OneEntry = Represents dict_layout known dict_ghost dict_heap 1000 dict_blocks []

-- Worked layouts, which compute.
use Rattle.std.proofs.Common.{◌≡◌, ℕ, true, false, List, [], ◌∷◌, Option, Some, None, refl}
use Rattle.rpy_tree.specs.declared.program.ClassInfo.{ClassInfo}
use Rattle.ll_code.specs.declared.program.LlType.TheVariants as type
use Rattle.ann_element.specs.declared.element.Element.TheOpen.{Element-F}
use Rattle.rtyper_layout.specs.declared.layout.Layout.{Layout}
use Rattle.rtyper_layout.specs.Types.{type_step}
use Rattle.rtyper_layout.specs.Sites.{with_sites}
use Rattle.rtyper_layout.specs.Families.{order, laid_classes}
use Rattle.rtyper_layout.specs.Dicts.{dict_structs}
use Rattle.rtyper_layout.specs.Layout.{list_structs}

-- lists of the sites 0 and 5 from struct 3 on, dicts of site 2 from struct 7, and tuples behind them
abbrev layout : Layout
layout = record { structs = []; classes = []; order = []; methods = []; first_list = 3; lists = 0 ∷ 5 ∷ []; first_dict = 7; dicts = 2 ∷ []; mappings = []; first_tuple = 10; shapes = [] }

a_list : type_step layout (Element-F.List 5 true) ≡ type.Ptr 5
a_list = refl

a_dict : type_step layout (Element-F.Dict 2 false) ≡ type.Ptr 7
a_dict = refl

no_such_list : type_step layout (Element-F.List 1 false) ≡ type.Void
no_such_list = refl

-- of a word and a string, or of what is never there
abbrev tuples : Layout
tuples = record layout { shapes = (type.Signed ∷ []) ∷ (type.Bool ∷ type.Ptr 0 ∷ []) ∷ [] }

a_tuple : type_step tuples (Element-F.Tuple (type.Void ∷ type.Ptr 0 ∷ [])) ≡ type.Ptr 11
a_tuple = refl

sites : with_sites (0 ∷ []) (5 ∷ 0 ∷ 5 ∷ 2 ∷ []) ≡ 0 ∷ 5 ∷ 2 ∷ []
sites = refl

-- words as keys, strings as values: the keys stand last, as words
a_mapping : dict_structs (record { dict = 7; key = type.Signed; value = type.Ptr 0 })
    ≡ record { base = None; fields = type.Signed ∷ type.Signed ∷ type.Ptr 8 ∷ type.Ptr 9 ∷ []; items = None }
    ∷ record { base = None; fields = type.Signed ∷ []; items = Some (type.Ptr 0) } ∷ record { base = None; fields = type.Signed ∷ []; items = Some type.Signed } ∷ []
a_mapping = refl

-- class 1 is below 0, and 2 has no base: struct 0 is that of strings, 1 and 2 those of the vtables
abbrev class : Option ℕ → ClassInfo
class base = record { node = 0; file = 0; base = base; constants = []; methods = [] }

abbrev classes : List ClassInfo
classes = class None ∷ class (Some 0) ∷ class None ∷ []

laid : laid_classes classes (0 ∷ 1 ∷ 2 ∷ [])
    ≡ Some (record { own = 3; root = 3; vtable = 1; place = 0 }) ∷ Some (record { own = 4; root = 3; vtable = 1; place = 1 }) ∷ Some (record { own = 5; root = 5; vtable = 2; place = 2 }) ∷ []
laid = refl

-- instances of 1 alone are made: the family of 0 has structs, and that of 2 has none
made : order classes (false ∷ true ∷ false ∷ []) false ≡ 0 ∷ 1 ∷ []
made = refl

a_list_and_its_array : list_structs 3 type.Char ≡ record { base = None; fields = type.Signed ∷ type.Ptr 4 ∷ []; items = None } ∷ record { base = None; fields = type.Signed ∷ []; items = Some type.Char } ∷ []
a_list_and_its_array = refl

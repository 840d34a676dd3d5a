-- When blocks and statics are the objects of a heap: each list has a head, with its length and its array, each dict its entries, and each
-- instance its class and its attributes.
use Rattle.std.specs.Prelude.{◌≡◌, ◌<◌, ◌^◌, ℕ, ◌+◌, ◌*◌, ◌==◌, ◌||◌, pos, Bool, true, false, List, [], ◌∷◌, ◌++◌, length, Option, Some, None, slice_get}
use Rattle.ann_element.specs.declared.element.Element.{Element}
use Rattle.csub_tree.specs.State.{Value, Word, Flag, Static, Block}
use Rattle.csub_tree.specs.Layout.{Shape, shape_at, place}
use Rattle.csub_tree.specs.Operation.{is_unset}
use Rattle.csub_tree.specs.Statement.{read}
use Rattle.ll_code.specs.Machine.{shapes_of}
use Rattle.ll_held.specs.Held.{is_reference}
use Rattle.ll_texts.specs.Texts.{found}
use Rattle.rpy_tree.specs.Value.{Value as Meant, Listed, Instance, Heap}
use Rattle.rpy_meaning.specs.Classes.{named}
use Rattle.rpy_meaning.specs.Operations.{builtin_classes, object_of}
use Rattle.rtyper_layout.specs.declared.classes.Laid.{Laid}
use Rattle.rtyper_layout.specs.declared.layout.Layout.{Layout}
use Rattle.rtyper_layout.specs.Layout.{is_list, is_tuple, mapping_at}
use Rattle.rtyper_layout.specs.Types.{word, laid_in}
use Rattle.rtyper_layout.specs.declared.dicts.Mapping.{Mapping}
use Rattle.object_laws.specs.Dicts.{DictAt}
use Rattle.object_laws.specs.Ghost.{Ghost, use_of, Stays, Head, Array, Whole, ListOf, InstanceOf, DictOf, Home}
use Rattle.object_laws.specs.Known.{Known, Standing, vtable_block}
use Rattle.object_laws.specs.Values.{Holds, EachHolds, AreEmpty}

-- ---- lists

-- the head of a list of so many items, and an array
abbrev pub head_block : ℕ → ℕ → Value → Block
head_block n count array = record { kind = n; fields = Word (pos count) ∷ array ∷ []; items = [] }

abbrev pub array_block : ℕ → List Value → Block
array_block n xs = record { kind = word (n + 1); fields = Word (pos (length xs)) ∷ []; items = xs }

-- So many items, and one more for each step that is left; with half as many spare places, and some, they are still counted by a word.
abbrev pub HasRoom : ℕ → ℕ → Type 0
HasRoom count left = 3 * (count + left) + 6 < 2 ^ 64

-- The object of this number is a list, and it stands at this head, of struct n: the first items of its array stand for its items, and the
-- other places are spare.
pub record ListAt (layout : Layout) (known : Known) (g : Ghost) (heap : Heap) (left : ℕ) (blocks : List (Option Block)) (statics : List Block) (n i : ℕ) (head : Value) : Type 0 where
  pub items : List Meant
  pub object : slice_get heap i ≡ Some (Listed items)
  pub array : Value
  pub values : List Value
  pub spare : List Value
  pub head_use : use_of g head ≡ Some (Head i)
  pub array_use : use_of g array ≡ Some (Array i)
  pub head_is : found blocks statics head ≡ Some (head_block n (length items) array)
  pub array_is : found blocks statics array ≡ Some (array_block n (values ++ spare))
  pub each : EachHolds layout known g (known.items n) values items
  pub empty : AreEmpty spare
  pub long : length (values ++ spare) < 2 ^ 63
  pub room : HasRoom (length items) left

-- ---- instances

abbrev pub shapes : Layout → List Shape
shapes layout = shapes_of layout.structs

-- the field of an attribute, and the one that says whether it is set: in its struct the attributes stand behind one field
abbrev pub value_field : ℕ → ℕ
value_field n = word (word (n * 2) + 1)

abbrev pub set_field : ℕ → ℕ
set_field n = word (value_field n + 1)

-- where they are among the fields of a block
abbrev pub value_at : Layout → Standing → ℕ
value_at layout s = place (shape_at (shapes layout) s.own) (value_field s.place)

abbrev pub set_at : Layout → Standing → ℕ
set_at layout s = place (shape_at (shapes layout) s.own) (set_field s.place)

-- the two fields of an attribute: its value and true, where it has one; and else false, beside what refers to no block
abbrev pub Shows : Layout → Known → Ghost → Element → Option Meant → Value → Value → Type 0
Shows layout known g element (Some v) x is_set = (is_set ≡ Flag true) × Holds layout known g (Some element) x v
Shows layout known g element None x is_set = (is_set ≡ Flag false) × (is_unset x ≡ false) × (is_reference x ≡ false)

-- The object of this number is an instance of this class, and it stands in one block, or static, of the struct of the class: it begins with
-- the vtable, and shows each attribute that the class or a base of it declares.
pub record InstanceAt (layout : Layout) (known : Known) (g : Ghost) (heap : Heap) (blocks : List (Option Block)) (statics : List Block) (class i : ℕ) (head : Value) : Type 0 where
  pub attributes : List (List ℕ × Meant)
  pub object : slice_get heap i ≡ Some (Instance class attributes)
  pub laid : Laid
  pub is_laid : laid_in layout.classes class ≡ Some laid
  pub fields : List Value
  pub head_use : use_of g head ≡ Some (Whole i)
  pub block_is : found blocks statics head ≡ Some (record { kind = laid.own; fields = fields; items = [] })
  pub size : length fields ≡ (shape_at (shapes layout) laid.own).size
  pub vtable : read fields 0 ≡ (known.vtable class).at
  pub shows : (name : List ℕ) (s : Standing) → known.attribute class name ≡ Some s → Shows layout known g s.element (named name attributes) (read fields (value_at layout s)) (read fields (set_at layout s))

-- ---- all objects

-- strings and tuples have this struct: they never change
abbrev pub is_settled : Layout → ℕ → Bool
is_settled layout n = (n == 0) || is_tuple layout n

-- they stay
abbrev pub Settled : Layout → Ghost → List (Option Block) → List Block → Type 0
Settled layout g blocks statics = (x : Value) (block : Block) → found blocks statics x ≡ Some block → is_settled layout block.kind ≡ true → use_of g x ≡ Some (Stays block)

-- Each object has a home, and each block and static a use. What stays is what it is, as strings and tuples do; what has the home of a list
-- is one, what has that of an instance is one, and what has that of a dict. Some statics are known to stay. Each class that has structs has
-- its vtable, and the first objects are the instances of the builtin exception classes, and the lists and dicts of modules, which stand where
-- they are known to. The steps that are left are few enough for every cost to be a word. The blocks of two objects are apart, since each is for
-- one of them.
pub record Represents (layout : Layout) (known : Known) (g : Ghost) (heap : Heap) (left : ℕ) (blocks : List (Option Block)) (statics : List Block) : Type 0 where
  pub made : length g.blocks ≡ length blocks
  pub fixed : length g.statics ≡ length statics
  pub homes : length g.homes ≡ length heap
  pub few : left < 2 ^ 62
  pub stays : (x : Value) (block : Block) → use_of g x ≡ Some (Stays block) → found blocks statics x ≡ Some block
  pub settled : Settled layout g blocks statics
  pub constants : (s : ℕ) (block : Block) → known.static s ≡ Some block → use_of g (Static s) ≡ Some (Stays block)
  pub vtables : (class : ℕ) (l : Laid) → laid_in layout.classes class ≡ Some l → use_of g (known.vtable class).at ≡ Some (Stays (vtable_block l.vtable (known.vtable class)))
  pub exceptions : (class : ℕ) (l : Laid) → class < builtin_classes → laid_in layout.classes class ≡ Some l → slice_get g.homes class ≡ Some (record { sort = InstanceOf class; head = known.exception class })
  pub sites : (site : ℕ) (home : Home) → known.site site ≡ Some home → slice_get g.homes (object_of known.program.sites site) ≡ Some home
  pub lists : (n i : ℕ) (head : Value) → slice_get g.homes i ≡ Some (record { sort = ListOf n; head = head }) → is_list layout n ≡ true → ListAt layout known g heap left blocks statics n i head
  pub instances : (class i : ℕ) (head : Value) → slice_get g.homes i ≡ Some (record { sort = InstanceOf class; head = head }) → InstanceAt layout known g heap blocks statics class i head
  pub dicts : (n i : ℕ) (head : Value) (m : Mapping) → slice_get g.homes i ≡ Some (record { sort = DictOf n; head = head }) → mapping_at layout.mappings n ≡ Some m → DictAt layout known g heap blocks statics m i head

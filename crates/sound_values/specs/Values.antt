-- When a value is of an element.
use Rattle.std.specs.Prelude.{◌≡◌, ℕ, ℤ, Bool, true, List, [], ◌∷◌, Option, Some, slice_get}
use Rattle.rpy_tree.specs.declared.program.ClassInfo.{ClassInfo}
use Rattle.rpy_tree.specs.Value.{Value, Word, Flag, Text, Nothing, Tuple, Fun, Ref, Values}
use Rattle.rpy_tree.specs.Value as value
use Rattle.ann_element.specs.Sites.{Same}
use Rattle.ann_lattice.specs.Shape.{Width, One, Any, OrNone, Shape, NoneOnly, Truth, Num, Str, Tup, Lst, Dct, Inst, Clash, Shapes, end}
use Rattle.ann_lattice.specs.Shape as shape
use Rattle.ann_lattice.specs.Order.{LessKnown, Sub, has}

-- What an object is from its making on: a list of a site, a dict of a site, or an instance of a class. An object that is there from the start
-- and that nothing reads is none of these.
pub data Sort : Type 0 where
  ListOf : (site : ℕ) → Sort
  DictOf : (site : ℕ) → Sort
  InstanceOf : (class : ℕ) → Sort
  Unread : Sort

-- a string has the width
abbrev pub Fills : Width → List ℕ → Type 0
Fills One [] = ⊥
Fills One (b ∷ []) = Unit {0}
Fills One (b ∷ c ∷ bytes) = ⊥
Fills width text = Unit {0}

-- The value is of the element, under these classes of sites and where the objects are of these sorts. What is not reached has no value, and what
-- is in conflict has each. Whether a word is below zero says nothing: a sum of two that are not may wrap below zero.
mutual
  pub data Is (classes : List ClassInfo) (same : List ℕ) (sorts : List Sort) : Shape → Value → Type 0 where
    none : Is classes same sorts NoneOnly Nothing
    none_str : Is classes same sorts (Str OrNone) Nothing
    none_list : (s : ℕ) → Is classes same sorts (Lst s true) Nothing
    none_dict : (s : ℕ) → Is classes same sorts (Dct s true) Nothing
    none_inst : (c : ℕ) → Is classes same sorts (Inst c true) Nothing
    none_fun : (fs : List ℕ) → Is classes same sorts (shape.Fun fs true) Nothing
    flag : (known : Option Bool) (b : Bool) → LessKnown (Some b) known → Is classes same sorts (Truth known) (Flag b)
    word : (n : Bool) (z : ℤ) → Is classes same sorts (Num n) (Word z)
    text : (width : Width) (bytes : List ℕ) → Fills width bytes → Is classes same sorts (Str width) (Text bytes)
    tuple : (xs : Shapes) (vs : Values) → Each classes same sorts xs vs → Is classes same sorts (Tup xs) (Tuple vs)
    list : (s : ℕ) (n : Bool) (r u : ℕ) → slice_get sorts r ≡ Some (ListOf u) → Same same u s → Is classes same sorts (Lst s n) (Ref r)
    dict : (s : ℕ) (n : Bool) (r u : ℕ) → slice_get sorts r ≡ Some (DictOf u) → Same same u s → Is classes same sorts (Dct s n) (Ref r)
    inst : (c : ℕ) (n : Bool) (r d : ℕ) → slice_get sorts r ≡ Some (InstanceOf d) → Sub classes d c → Is classes same sorts (Inst c n) (Ref r)
    fun : (fs : List ℕ) (n : Bool) (f : ℕ) → has fs f ≡ true → Is classes same sorts (shape.Fun fs n) (Fun f)
    clash : (lists dicts : Option ℕ) (v : Value) → Is classes same sorts (Clash lists dicts) v

  -- item by item
  pub data Each (classes : List ClassInfo) (same : List ℕ) (sorts : List Sort) : Shapes → Values → Type 0 where
    no_more : Each classes same sorts end value.none
    and_more : (x : Shape) (xs : Shapes) (v : Value) (vs : Values) → Is classes same sorts x v → Each classes same sorts xs vs
        → Each classes same sorts (shape.more x xs) (value.more v vs)

-- operand by operand
abbrev pub Are : List ClassInfo → List ℕ → List Sort → List Shape → List Value → Type 0
Are classes same sorts [] [] = Unit {0}
Are classes same sorts [] (v ∷ vs) = ⊥
Are classes same sorts (x ∷ xs) [] = ⊥
Are classes same sorts (x ∷ xs) (v ∷ vs) = Is classes same sorts x v × Are classes same sorts xs vs

-- each object keeps its sort; there may be more
abbrev pub Keeps : List Sort → List Sort → Type 0
Keeps sorts later = (r : ℕ) (sort : Sort) → slice_get sorts r ≡ Some sort → slice_get later r ≡ Some sort

-- What is known of a program by those who lower it: where what its values are at low level is settled.
use Rattle.std.specs.Prelude.{ℕ, List, ◌∷◌, Option, pos}
use Rattle.ann_element.specs.declared.element.Element.{Element}
use Rattle.csub_tree.specs.State.{Value, Word, Block}
use Rattle.rpy_meaning.specs.Tree.{Program}
use Rattle.object_laws.specs.Ghost.{Home}

-- where an attribute stands: the struct that declares it, its place there, and what is known of its values
pub record Standing : Type 0 where
  pub own : ℕ
  pub place : ℕ
  pub element : Element

-- the static that the instances of a class begin with: where it is, the number of the class, its methods, and its name
pub record Vtable : Type 0 where
  pub at : Value
  pub number : ℕ
  pub methods : List Value
  pub name : List Value

abbrev pub vtable_block : ℕ → Vtable → Block
vtable_block n v = record { kind = n; fields = Word (pos v.number) ∷ v.methods; items = v.name }

-- The program; what is known of the items of the lists of a struct, or of the values of its dicts, and of the keys of these; where the
-- attributes of a class and of its bases stand; the vtable of a class; the one instance of a builtin exception class; the graph of
-- a function, where it has one; the statics that are known to stay; and where the list or dict of a module stands that is made at a site.
pub record Known : Type 0 where
  pub program : Program
  pub items : ℕ → Option Element
  pub keys : ℕ → Option Element
  pub attribute : ℕ → List ℕ → Option Standing
  pub vtable : ℕ → Vtable
  pub exception : ℕ → Value
  pub graph : ℕ → Option ℕ
  pub static : ℕ → Option Block
  pub site : ℕ → Option Home

-- When the objects of a heap are of their sorts, under an assignment.
use Rattle.std.specs.Prelude.{◌≡◌, ◌<◌, ℕ, true, List, [], ◌∷◌, slice_get, Option, Some, ◌⊎◌}
use Rattle.rpy_tree.specs.Value.{Value, Object, Listed, Mapped, Instance, Heap}
use Rattle.rpy_meaning.specs.Classes.{named}
use Rattle.rpy_meaning.specs.Operations.{builtin_classes, object_of}
use Rattle.flow_runs.specs.Good.{KeysAreWhole}
use Rattle.class_desc.specs.Tables.{home}
use Rattle.ann_lattice.specs.Shape.{Shape}
use Rattle.ann_lattice.specs.Assign.{Assignment, at, mark}
use Rattle.ann_rules.specs.Program.{Whole}
use Rattle.ann_rules.specs.Asks.{items_of, keys_of}
use Rattle.sound_values.specs.Values.{Sort, ListOf, DictOf, InstanceOf, Unread, Is, Are}

-- what nothing reads is a list, or a dict whose keys have no part that is `None`
abbrev pub IsUnread : Object → Type 0
IsUnread (Listed vs) = Unit {0}
IsUnread (Mapped pairs) = KeysAreWhole pairs
IsUnread (Instance class attributes) = ⊥

module _ (p : Whole) (a : Assignment) where
  abbrev pub IsOf : List Sort → Shape → Value → Type 0
  IsOf = Is p.tables.classes a.same

  abbrev pub AreOf : List Sort → List Shape → List Value → Type 0
  AreOf = Are p.tables.classes a.same

  abbrev pub AllOf : List Sort → Shape → List Value → Type 0
  AllOf sorts x [] = Unit {0}
  AllOf sorts x (v ∷ vs) = IsOf sorts x v × AllOf sorts x vs

  -- the keys are of one element and the values of another
  abbrev pub PairsOf : List Sort → Shape → Shape → List (Value × Value) → Type 0
  PairsOf sorts x y [] = Unit {0}
  PairsOf sorts x y (pair ∷ pairs) = (IsOf sorts x pair.0 × IsOf sorts y pair.1) × PairsOf sorts x y pairs

  -- an attribute of an instance is of what stands at its home
  abbrev pub HeldAt : List Sort → ℕ → List ℕ → Value → Type 0
  HeldAt sorts class name v = (h : ℕ) → home p.tables class name ≡ Some h → IsOf sorts (at a (p.places.attribute h name)) v

  abbrev pub AllHeld : List Sort → ℕ → List (List ℕ × Value) → Type 0
  AllHeld sorts class attributes = (name : List ℕ) (v : Value) → named name attributes ≡ Some v → HeldAt sorts class name v

  -- the class has instances; a builtin exception class has one from the start
  abbrev pub HasInstances : ℕ → Type 0
  HasInstances class = (mark a (p.places.made class) ≡ true) ⊎ (class < builtin_classes)

  -- the items of a list, and the keys and values of a dict, are of what stands at its site
  abbrev pub ObjectIs : List Sort → Sort → Object → Type 0
  ObjectIs sorts (ListOf s) (Listed vs) = AllOf sorts (items_of p a s) vs
  ObjectIs sorts (DictOf s) (Mapped pairs) = PairsOf sorts (keys_of p a s) (items_of p a s) pairs
  ObjectIs sorts (InstanceOf c) (Instance d attributes) = (d ≡ c) × (HasInstances c × AllHeld sorts c attributes)
  ObjectIs sorts Unread object = IsUnread object
  ObjectIs sorts sort object = ⊥

  -- each object is of its sort
  abbrev pub ObjectsAre : List Sort → List Sort → Heap → Type 0
  ObjectsAre sorts [] [] = Unit {0}
  ObjectsAre sorts [] (object ∷ heap) = ⊥
  ObjectsAre sorts (sort ∷ rest) [] = ⊥
  ObjectsAre sorts (sort ∷ rest) (object ∷ heap) = ObjectIs sorts sort object × ObjectsAre sorts rest heap

  -- A list or dict of a module that is read is one of its site: these stand behind the instances of the builtin exception classes.
  abbrev pub PrebuiltIs : List (Option Object) → List Sort → ℕ → Object → Type 0
  PrebuiltIs sites sorts s (Listed vs) = slice_get sorts (object_of sites s) ≡ Some (ListOf s)
  PrebuiltIs sites sorts s (Mapped pairs) = slice_get sorts (object_of sites s) ≡ Some (DictOf s)
  PrebuiltIs sites sorts s (Instance class attributes) = ⊥

  abbrev pub PrebuiltAre : List (Option Object) → List Sort → Type 0
  PrebuiltAre sites sorts = (s : ℕ) (object : Object) → slice_get sites s ≡ Some (Some object) → mark a (p.places.loaded s) ≡ true → PrebuiltIs sites sorts s object

  -- The heap is typed: each object is of its sort, and the first ones are the instances of the builtin exception classes and the lists and dicts of
  -- modules.
  pub record IsTyped (sites : List (Option Object)) (sorts : List Sort) (heap : Heap) : Type 0 where
    pub objects : ObjectsAre sorts sorts heap
    pub builtin : (class : ℕ) → class < builtin_classes → slice_get sorts class ≡ Some (InstanceOf class)
    pub prebuilt : PrebuiltAre sites sorts

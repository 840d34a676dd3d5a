-- More objects take no value from an element.
use Rattle.std.proofs.Common.{◌≡◌, ℕ, zero, suc, List, [], ◌∷◌, ◌++◌, Some}
use Rattle.std.specs.Prelude.{slice_get}
use Rattle.rpy_tree.specs.declared.program.ClassInfo.{ClassInfo}
use Rattle.rpy_tree.specs.Value.{Value, Values, Object, Listed, Mapped, Instance, Heap}
use Rattle.ann_lattice.specs.Shape.{Shape, Shapes}
use Rattle.ann_lattice.specs.Assign.{Assignment, at}
use Rattle.ann_rules.specs.Program.{Whole}
use Rattle.ann_rules.specs.Asks.{items_of, keys_of}
use Rattle.sound_values.specs.Values.{Sort, ListOf, DictOf, InstanceOf, Unread, Is, none, none_str, none_list, none_dict, none_inst, none_fun, flag, word, text, tuple, list, dict, inst, fun, clash, Each, no_more, and_more, Are, Keeps}
use Rattle.sound_values.specs.Heaps.{IsOf, AllOf, PairsOf, AllHeld, ObjectIs, ObjectsAre}
use Rattle.sound_values.specs.Laws.{SortsMayGrow}

pub there_before : {A : Type 0} (xs ys : List A) (r : ℕ) (x : A) → slice_get xs r ≡ Some x → slice_get (xs ++ ys) r ≡ Some x
there_before [] ys r x h = cc
there_before (y ∷ xs) ys zero x h = h
there_before (y ∷ xs) ys (suc r) x h = there_before xs ys r x h

pub keeps_more : (sorts further : List Sort) → Keeps sorts (sorts ++ further)
keeps_more sorts further r sort h = there_before sorts further r sort h

module _ (k : List ClassInfo) (t : List ℕ) (sorts later : List Sort) (keeps : Keeps sorts later) where
  mutual
    pub grown : (x : Shape) (v : Value) → Is k t sorts x v → Is k t later x v
    grown _ _ none = none
    grown _ _ none_str = none_str
    grown _ _ (none_list s) = none_list s
    grown _ _ (none_dict s) = none_dict s
    grown _ _ (none_inst c) = none_inst c
    grown _ _ (none_fun fs) = none_fun fs
    grown _ _ (flag known b h) = flag known b h
    grown _ _ (word n z) = word n z
    grown _ _ (text width bytes h) = text width bytes h
    grown _ _ (tuple xs vs h) = tuple xs vs (each_grown xs vs h)
    grown _ _ (list s n r u h e) = list s n r u (keeps r (ListOf u) h) e
    grown _ _ (dict s n r u h e) = dict s n r u (keeps r (DictOf u) h) e
    grown _ _ (inst c n r d h e) = inst c n r d (keeps r (InstanceOf d) h) e
    grown _ _ (fun fs n f h) = fun fs n f h
    grown _ _ (clash o p v) = clash o p v

    pub each_grown : (xs : Shapes) (vs : Values) → Each k t sorts xs vs → Each k t later xs vs
    each_grown _ _ no_more = no_more
    each_grown _ _ (and_more x xs v vs h hs) = and_more x xs v vs (grown x v h) (each_grown xs vs hs)

  pub are_grown : (xs : List Shape) (vs : List Value) → Are k t sorts xs vs → Are k t later xs vs
  are_grown [] [] h = tt
  are_grown [] (v ∷ vs) h = h
  are_grown (x ∷ xs) [] h = h
  are_grown (x ∷ xs) (v ∷ vs) h = (grown x v h.0, are_grown xs vs h.1)

pub sorts_may_grow : SortsMayGrow
sorts_may_grow k t sorts later keeps x v h = grown k t sorts later keeps x v h

module _ (p : Whole) (a : Assignment) (sorts later : List Sort) (keeps : Keeps sorts later) where
  pub grows : (x : Shape) (v : Value) → IsOf p a sorts x v → IsOf p a later x v
  grows x v h = grown p.tables.classes a.same sorts later keeps x v h

  pub all_grow : (x : Shape) (vs : List Value) → AllOf p a sorts x vs → AllOf p a later x vs
  all_grow x [] h = tt
  all_grow x (v ∷ vs) h = (grows x v h.0, all_grow x vs h.1)

  pub pairs_grow : (x y : Shape) (pairs : List (Value × Value)) → PairsOf p a sorts x y pairs → PairsOf p a later x y pairs
  pairs_grow x y [] h = tt
  pairs_grow x y (pair ∷ pairs) h = ((grows x pair.0 h.0.0, grows y pair.1 h.0.1), pairs_grow x y pairs h.1)

  pub held_grow : (class : ℕ) (entries : List (List ℕ × Value)) → AllHeld p a sorts class entries → AllHeld p a later class entries
  held_grow class entries h name v e top i = grows (at a (p.places.attribute top name)) v (h name v e top i)

  pub object_grows : (sort : Sort) (object : Object) → ObjectIs p a sorts sort object → ObjectIs p a later sort object
  object_grows (ListOf s) (Listed vs) h = all_grow (items_of p a s) vs h
  object_grows (DictOf s) (Mapped pairs) h = pairs_grow (keys_of p a s) (items_of p a s) pairs h
  object_grows (InstanceOf c) (Instance d attributes) h = (h.0, (h.1.0, held_grow c attributes h.1.1))
  object_grows Unread object h = h
  object_grows (ListOf s) (Mapped pairs) h = h
  object_grows (ListOf s) (Instance d attributes) h = h
  object_grows (DictOf s) (Listed vs) h = h
  object_grows (DictOf s) (Instance d attributes) h = h
  object_grows (InstanceOf c) (Listed vs) h = h
  object_grows (InstanceOf c) (Mapped pairs) h = h

  pub objects_grow : (rest : List Sort) (heap : Heap) → ObjectsAre p a sorts rest heap → ObjectsAre p a later rest heap
  objects_grow [] [] h = tt
  objects_grow [] (object ∷ heap) h = h
  objects_grow (sort ∷ rest) [] h = h
  objects_grow (sort ∷ rest) (object ∷ heap) h = (object_grows sort object h.0, objects_grow rest heap h.1)

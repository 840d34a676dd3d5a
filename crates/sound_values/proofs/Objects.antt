-- Heaps whose objects are of their sorts: what stands at a place, what is put there, and what is new.
use Rattle.std.proofs.Common.{◌≡◌, ℕ, zero, suc, List, [], ◌∷◌, ◌++◌, length, Option, Some, refl, ap, sym, subst, ◌∙◌}
use Rattle.std.specs.Prelude.{slice_get, slice_set}
use Rattle.rpy_tree.specs.Value.{Value, Object, Listed, Mapped, Instance, Heap}
use Rattle.ann_lattice.specs.Assign.{Assignment}
use Rattle.ann_rules.specs.Program.{Whole}
use Rattle.ann_rules.specs.Asks.{items_of, keys_of}
use Rattle.sound_values.specs.Values.{Sort, ListOf, DictOf, InstanceOf}
use Rattle.sound_values.specs.Heaps.{AllOf, PairsOf, AllHeld, HasInstances, ObjectIs, ObjectsAre, PrebuiltIs, IsTyped}
use Rattle.sound_values.proofs.Growing.{there_before, keeps_more, objects_grow}

same_some : (s sort : Sort) → Some s ≡ Some sort → s ≡ sort
same_some s sort e = cc

module _ (p : Whole) (a : Assignment) where
  -- ---- the object at a place that has a sort

  pub record ObjectAt (sorts : List Sort) (sort : Sort) (heap : Heap) (r : ℕ) : Type 0 where
    pub object : Object
    pub there : slice_get heap r ≡ Some object
    pub is : ObjectIs p a sorts sort object

  pub object_at : (sorts rest : List Sort) (heap : Heap) (r : ℕ) (sort : Sort) → ObjectsAre p a sorts rest heap → slice_get rest r ≡ Some sort → ObjectAt sorts sort heap r
  object_at sorts [] [] r sort h e = cc
  object_at sorts [] (object ∷ heap) r sort h e = cc
  object_at sorts (s ∷ rest) [] r sort h e = absurd h
  object_at sorts (s ∷ rest) (object ∷ heap) zero sort h e = record { object = object; there = refl; is = subst (λ x. ObjectIs p a sorts x object) (same_some s sort e) h.0 }
  object_at sorts (s ∷ rest) (object ∷ heap) (suc r) sort h e =
      let found = object_at sorts rest heap r sort h.1 e in
      record { object = found.object; there = found.there; is = found.is }

  pub record ListAt (sorts : List Sort) (s : ℕ) (heap : Heap) (r : ℕ) : Type 0 where
    pub items : List Value
    pub there : slice_get heap r ≡ Some (Listed items)
    pub are : AllOf p a sorts (items_of p a s) items

  list_of : (sorts : List Sort) (s : ℕ) (heap : Heap) (r : ℕ) (object : Object) → slice_get heap r ≡ Some object → ObjectIs p a sorts (ListOf s) object → ListAt sorts s heap r
  list_of sorts s heap r (Listed vs) e h = record { items = vs; there = e; are = h }
  list_of sorts s heap r (Mapped pairs) e h = absurd h
  list_of sorts s heap r (Instance c attributes) e h = absurd h

  pub record DictAt (sorts : List Sort) (s : ℕ) (heap : Heap) (r : ℕ) : Type 0 where
    pub pairs : List (Value × Value)
    pub there : slice_get heap r ≡ Some (Mapped pairs)
    pub are : PairsOf p a sorts (keys_of p a s) (items_of p a s) pairs

  dict_of : (sorts : List Sort) (s : ℕ) (heap : Heap) (r : ℕ) (object : Object) → slice_get heap r ≡ Some object → ObjectIs p a sorts (DictOf s) object → DictAt sorts s heap r
  dict_of sorts s heap r (Listed vs) e h = absurd h
  dict_of sorts s heap r (Mapped pairs) e h = record { pairs = pairs; there = e; are = h }
  dict_of sorts s heap r (Instance c attributes) e h = absurd h

  pub record InstanceAt (sorts : List Sort) (c : ℕ) (heap : Heap) (r : ℕ) : Type 0 where
    pub attributes : List (List ℕ × Value)
    pub there : slice_get heap r ≡ Some (Instance c attributes)
    pub has : HasInstances p a c
    pub held : AllHeld p a sorts c attributes

  instance_of : (sorts : List Sort) (c : ℕ) (heap : Heap) (r : ℕ) (object : Object) → slice_get heap r ≡ Some object → ObjectIs p a sorts (InstanceOf c) object → InstanceAt sorts c heap r
  instance_of sorts c heap r (Listed vs) e h = absurd h
  instance_of sorts c heap r (Mapped pairs) e h = absurd h
  instance_of sorts c heap r (Instance d attributes) e h = record { attributes = attributes; there = e ∙ ap (λ x. Some (Instance x attributes)) h.0; has = h.1.0; held = h.1.1 }

  module _ (sites : List (Option Object)) (sorts : List Sort) (heap : Heap) (typed : IsTyped p a sites sorts heap) where
    pub list_at : (r s : ℕ) → slice_get sorts r ≡ Some (ListOf s) → ListAt sorts s heap r
    list_at r s e = let o = object_at sorts sorts heap r (ListOf s) typed.objects e in list_of sorts s heap r o.object o.there o.is

    pub dict_at : (r s : ℕ) → slice_get sorts r ≡ Some (DictOf s) → DictAt sorts s heap r
    dict_at r s e = let o = object_at sorts sorts heap r (DictOf s) typed.objects e in dict_of sorts s heap r o.object o.there o.is

    pub instance_at : (r c : ℕ) → slice_get sorts r ≡ Some (InstanceOf c) → InstanceAt sorts c heap r
    instance_at r c e = let o = object_at sorts sorts heap r (InstanceOf c) typed.objects e in instance_of sorts c heap r o.object o.there o.is

  -- ---- an object is put in the place of another of its sort

  pub put : (sorts rest : List Sort) (heap : Heap) (r : ℕ) (sort : Sort) (object : Object) → ObjectsAre p a sorts rest heap → slice_get rest r ≡ Some sort
      → ObjectIs p a sorts sort object → ObjectsAre p a sorts rest (slice_set heap r object)
  put sorts [] [] r sort object h e i = cc
  put sorts [] (o ∷ heap) r sort object h e i = absurd h
  put sorts (s ∷ rest) [] r sort object h e i = absurd h
  put sorts (s ∷ rest) (o ∷ heap) zero sort object h e i = (subst (λ x. ObjectIs p a sorts x object) (sym (same_some s sort e)) i, h.1)
  put sorts (s ∷ rest) (o ∷ heap) (suc r) sort object h e i = (h.0, put sorts rest heap r sort object h.1 e i)

  pub typed_put : (sites : List (Option Object)) (sorts : List Sort) (heap : Heap) (r : ℕ) (sort : Sort) (object : Object) → IsTyped p a sites sorts heap
      → slice_get sorts r ≡ Some sort → ObjectIs p a sorts sort object → IsTyped p a sites sorts (slice_set heap r object)
  typed_put sites sorts heap r sort object typed e i = record { objects = put sorts sorts heap r sort object typed.objects e i; builtin = typed.builtin; prebuilt = typed.prebuilt }

  -- ---- a new object stands behind the others

  pub behind : (sorts rest : List Sort) (heap : Heap) (sort : Sort) (object : Object) → ObjectsAre p a sorts rest heap → ObjectIs p a sorts sort object
      → ObjectsAre p a sorts (rest ++ sort ∷ []) (heap ++ object ∷ [])
  behind sorts [] [] sort object h i = (i, tt)
  behind sorts [] (o ∷ heap) sort object h i = absurd h
  behind sorts (s ∷ rest) [] sort object h i = absurd h
  behind sorts (s ∷ rest) (o ∷ heap) sort object h i = (h.0, behind sorts rest heap sort object h.1 i)

  pub last_sort : (sorts rest : List Sort) (heap : Heap) (sort : Sort) → ObjectsAre p a sorts rest heap → slice_get (rest ++ sort ∷ []) (length heap) ≡ Some sort
  last_sort sorts [] [] sort h = refl
  last_sort sorts [] (o ∷ heap) sort h = absurd h
  last_sort sorts (s ∷ rest) [] sort h = absurd h
  last_sort sorts (s ∷ rest) (o ∷ heap) sort h = last_sort sorts rest heap sort h.1

  prebuilt_grows : (sites : List (Option Object)) (sorts further : List Sort) (s : ℕ) (object : Object) → PrebuiltIs p a sites sorts s object → PrebuiltIs p a sites (sorts ++ further) s object
  prebuilt_grows sites sorts further s (Listed vs) h = there_before sorts further _ (ListOf s) h
  prebuilt_grows sites sorts further s (Mapped pairs) h = there_before sorts further _ (DictOf s) h
  prebuilt_grows sites sorts further s (Instance c attributes) h = h

  pub typed_behind : (sites : List (Option Object)) (sorts : List Sort) (heap : Heap) (sort : Sort) (object : Object) → IsTyped p a sites sorts heap
      → ObjectIs p a (sorts ++ sort ∷ []) sort object → IsTyped p a sites (sorts ++ sort ∷ []) (heap ++ object ∷ [])
  typed_behind sites sorts heap sort object typed i = record {
    objects = behind (sorts ++ sort ∷ []) sorts heap sort object (objects_grow p a sorts (sorts ++ sort ∷ []) (keeps_more sorts (sort ∷ [])) sorts heap typed.objects) i;
    builtin = λ class lt. there_before sorts (sort ∷ []) class (InstanceOf class) (typed.builtin class lt);
    prebuilt = λ s o e m. prebuilt_grows sites sorts (sort ∷ []) s o (typed.prebuilt s o e m);
  }

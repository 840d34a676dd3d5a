-- The objects of a typed heap have whole keys, and are of made classes.
use Rattle.std.proofs.Common.{◌≡◌, ◌<◌, ℕ, zero, suc, ◌⊎◌, inl, inr, Bool, true, List, [], ◌∷◌, Some, sym, ap, ◌∙◌, subst}
use Rattle.std.specs.Prelude.{slice_get}
use Rattle.rpy_tree.specs.Value.{Value, Object, Listed, Mapped, Instance, Heap}
use Rattle.rpy_meaning.specs.Operations.{builtin_classes}
use Rattle.flow_runs.specs.Good.{KeysAreWhole, HasWholeKeys, IsMade}
use Rattle.ann_lattice.specs.Assign.{Assignment, mark}
use Rattle.ann_lattice.specs.Order.{is_key}
use Rattle.ann_lattice.specs.Shape.{Shape}
use Rattle.ann_rules.specs.Asks.{keys_of, items_of}
use Rattle.ann_rules.specs.Program.{Whole}
use Rattle.sound_values.specs.Values.{Sort, ListOf, DictOf, InstanceOf, Unread}
use Rattle.sound_values.specs.Heaps.{PairsOf, ObjectIs, ObjectsAre}
use Rattle.key_laws.specs.Keys.{KeysAreKeys}
use Rattle.good_runs.proofs.Keys.{key_whole}

module _ (p : Whole) (a : Assignment) (keys : KeysAreKeys p a) (made : ℕ → Bool) (marks : (c : ℕ) → mark a (p.places.made c) ≡ true → made c ≡ true) (sorts : List Sort) where
  pairs_whole : (x y : Shape) → is_key x ≡ true → (pairs : List (Value × Value)) → PairsOf p a sorts x y pairs → KeysAreWhole pairs
  pairs_whole x y k [] h = tt
  pairs_whole x y k (pair ∷ pairs) h = (key_whole p.tables.classes a.same sorts x pair.0 h.0.0 k, pairs_whole x y k pairs h.1)

  object_whole : (sort : Sort) (object : Object) → ObjectIs p a sorts sort object → HasWholeKeys (Some object)
  object_whole (ListOf s) (Listed vs) h = tt
  object_whole (ListOf s) (Mapped pairs) h = absurd h
  object_whole (ListOf s) (Instance d attributes) h = tt
  object_whole (DictOf s) (Listed vs) h = tt
  object_whole (DictOf s) (Mapped pairs) h = pairs_whole (keys_of p a s) (items_of p a s) (keys s) pairs h
  object_whole (DictOf s) (Instance d attributes) h = tt
  object_whole (InstanceOf c) (Listed vs) h = tt
  object_whole (InstanceOf c) (Mapped pairs) h = absurd h
  object_whole (InstanceOf c) (Instance d attributes) h = tt
  object_whole Unread (Listed vs) h = tt
  object_whole Unread (Mapped pairs) h = h
  object_whole Unread (Instance d attributes) h = tt

  class_made : (c d : ℕ) → d ≡ c → (mark a (p.places.made c) ≡ true) ⊎ (c < builtin_classes) → (d < builtin_classes) ⊎ (made d ≡ true)
  class_made c d e (inl h) = inr (ap made e ∙ marks c h)
  class_made c d e (inr h) = inl (subst (λ x. x < builtin_classes) (sym e) h)

  object_made : (sort : Sort) (object : Object) → ObjectIs p a sorts sort object → IsMade made (Some object)
  object_made sort (Listed vs) h = tt
  object_made sort (Mapped pairs) h = tt
  object_made (ListOf s) (Instance d attributes) h = absurd h
  object_made (DictOf s) (Instance d attributes) h = absurd h
  object_made (InstanceOf c) (Instance d attributes) h = class_made c d h.0 h.1.0
  object_made Unread (Instance d attributes) h = absurd h

  pub all_whole : (rest : List Sort) (heap : Heap) → ObjectsAre p a sorts rest heap → (r : ℕ) → HasWholeKeys (slice_get heap r)
  all_whole [] [] h r = tt
  all_whole [] (object ∷ heap) h r = absurd h
  all_whole (sort ∷ rest) [] h r = absurd h
  all_whole (sort ∷ rest) (object ∷ heap) h zero = object_whole sort object h.0
  all_whole (sort ∷ rest) (object ∷ heap) h (suc r) = all_whole rest heap h.1 r

  pub all_made : (rest : List Sort) (heap : Heap) → ObjectsAre p a sorts rest heap → (r : ℕ) → IsMade made (slice_get heap r)
  all_made [] [] h r = tt
  all_made [] (object ∷ heap) h r = absurd h
  all_made (sort ∷ rest) [] h r = absurd h
  all_made (sort ∷ rest) (object ∷ heap) h zero = object_made sort object h.0
  all_made (sort ∷ rest) (object ∷ heap) h (suc r) = all_made rest heap h.1 r

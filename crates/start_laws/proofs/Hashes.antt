-- The hash of a constant is that of its value.
use Rattle.std.proofs.Common.{◌≡◌, List, ◌∷◌, map, Option, ℤ, pos, refl, sym, ap, ◌∙◌, subst, []}
use Rattle.std.specs.Prelude.{slice_get}
use Rattle.ll_code.specs.declared.program.LlType.{LlType}
use Rattle.ll_code.specs.declared.program.LlType.TheVariants as type
use Rattle.rpy_tree.specs.Value.{Value as Meant, Object}
use Rattle.rpy_tree.specs.declared.program.Const.{Const, fold-roll-Const, map-Const, ind-Const, roll-Const}
use Rattle.rpy_tree.specs.declared.program.Const.TheOpen.{Const-F}
use Rattle.rpy_meaning.specs.Operations.{constant as meant_of, constant_step as meant_step}
use Rattle.rpy_meaning.specs.Sequences.{parts_of, tuple}
use Rattle.rtyper_layout.specs.declared.layout.Layout.{Layout}
use Rattle.rtyper_layout.specs.Layout.{fields_in}
use Rattle.rtyper_op.specs.Mapped.{hash_of, hash_of_tuple, hash_step, with_item, with_parts}
use Rattle.object_laws.specs.Dicts.{hash, hash_from}

module _ (layout : Layout) (objects : List (Option Object)) where
  abbrev Agree : (LlType → ℤ) → Meant → Type 0
  Agree f v = (kind : LlType) → f kind ≡ hash layout kind v

  abbrev Hashed : Const → Type 0
  Hashed c = Agree (hash_of layout c) (meant_of objects c)

  abbrev consts_of : List ((c : Const) × Hashed c) → List Const
  consts_of ys = map (λ q. q.0) ys

  parts_hashed : (h : ℤ) (ys : List ((c : Const) × Hashed c)) (fields : List LlType) → with_parts h (map (hash_of layout) (consts_of ys)) fields ≡ hash_from layout h fields (parts_of (map (meant_of objects) (consts_of ys)))
  parts_hashed h [] [] = refl
  parts_hashed h [] (t ∷ ts) = refl
  parts_hashed h (y ∷ ys) [] = refl
  parts_hashed h (y ∷ ys) (t ∷ ts) = parts_hashed (with_item h (hash_of layout y.0 t)) ys ts ∙ ap (λ x. hash_from layout (with_item h x) ts (parts_of (map (meant_of objects) (consts_of ys)))) (y.1 t)

  tuple_hashed : (ys : List ((c : Const) × Hashed c)) → Agree (hash_of_tuple layout (map (hash_of layout) (consts_of ys))) (tuple (map (meant_of objects) (consts_of ys)))
  tuple_hashed ys (type.Ptr n) = parts_hashed (pos 0) ys (fields_in (slice_get layout.structs n))
  tuple_hashed ys _ = refl

  one_hashed : (y : Const-F ((c : Const) × Hashed c))
      → Agree (hash_step layout (map-Const Const (LlType → ℤ) (hash_of layout) (map-Const ((c : Const) × Hashed c) Const (λ q. q.0) y))) (meant_step objects (map-Const Const Meant (meant_of objects) (map-Const ((c : Const) × Hashed c) Const (λ q. q.0) y)))
  one_hashed (Const-F.Word z) kind = refl
  one_hashed (Const-F.Bool b) kind = refl
  one_hashed (Const-F.Str bytes) kind = refl
  one_hashed Const-F.None kind = refl
  one_hashed (Const-F.Function f) kind = refl
  one_hashed (Const-F.Tuple ys) kind = tuple_hashed ys kind
  one_hashed (Const-F.List site) kind = refl
  one_hashed (Const-F.Dict site) kind = refl

  pub constant_hashed : (c : Const) (kind : LlType) → hash_of layout c kind ≡ hash layout kind (meant_of objects c)
  constant_hashed = ind-Const Hashed
      (λ x y is. subst (λ f. Agree f (meant_of objects (roll-Const x))) (sym (fold-roll-Const (LlType → ℤ) (hash_step layout) x))
      (subst (λ v. Agree (hash_step layout (map-Const Const (LlType → ℤ) (hash_of layout) x)) v) (sym (fold-roll-Const Meant (meant_step objects) x))
      (subst (λ z. Agree (hash_step layout (map-Const Const (LlType → ℤ) (hash_of layout) z)) (meant_step objects (map-Const Const Meant (meant_of objects) z))) is (one_hashed y))))

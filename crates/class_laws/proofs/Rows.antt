-- Two classes, one below the other, are laid out.
use Rattle.std.proofs.Common.{◌≡◌, ◌<◌, ◌⊎◌, inl, inr, ℕ, zero, suc, Bool, true, false, List, length, Some, None, refl, sym, ◌∙◌, subst, arith}
use Rattle.std.specs.Prelude.{if◌then◌else◌}
use Rattle.std.specs.Str.{bytes_eq}
use Rattle.std.proofs.lemmas.Slice.Eq.{bytes_eq-Decides}
use Rattle.ann_element.specs.declared.element.Element.TheVariants as element
use Rattle.csub_tree.specs.Layout.{shape_at, begins_with}
use Rattle.ll_code.specs.Machine.{shapes_from}
use Rattle.class_desc.specs.Line.{is_below}
use Rattle.rtyper_layout.specs.declared.classes.Laid.{Laid}
use Rattle.rtyper_layout.specs.Types.{laid_in}
use Rattle.object_laws.specs.Known.{Standing}
use Rattle.object_laws.specs.Represents.{shapes, value_at, set_at}
use Rattle.object_laws.specs.Rows.{class_layout, classes, attribute, above, below, x, y}
use Rattle.class_laws.specs.Classes.{HasFields, IsTop}
use Rattle.class_laws.specs.Rows.{infos, TwoClasses}

-- ---- the classes

data OneOf : ℕ → Laid → Type 0 where
  First : OneOf 13 above
  Second : OneOf 14 below

same_laid : {a b : Laid} → Some a ≡ Some b → a ≡ b
same_laid h = cc

of_two : (c : ℕ) (l : Laid) → laid_in classes c ≡ Some l → OneOf c l
of_two (suc (suc (suc (suc (suc (suc (suc (suc (suc (suc (suc (suc (suc zero))))))))))))) l h = subst (OneOf 13) (same_laid h) First
of_two (suc (suc (suc (suc (suc (suc (suc (suc (suc (suc (suc (suc (suc (suc zero)))))))))))))) l h = subst (OneOf 14) (same_laid h) Second
of_two (suc (suc (suc (suc (suc (suc (suc (suc (suc (suc (suc (suc (suc (suc (suc n))))))))))))))) l h = absurd (cc)
of_two zero l h = absurd (cc)
of_two (suc zero) l h = absurd (cc)
of_two (suc (suc zero)) l h = absurd (cc)
of_two (suc (suc (suc zero))) l h = absurd (cc)
of_two (suc (suc (suc (suc zero)))) l h = absurd (cc)
of_two (suc (suc (suc (suc (suc zero))))) l h = absurd (cc)
of_two (suc (suc (suc (suc (suc (suc zero)))))) l h = absurd (cc)
of_two (suc (suc (suc (suc (suc (suc (suc zero))))))) l h = absurd (cc)
of_two (suc (suc (suc (suc (suc (suc (suc (suc zero)))))))) l h = absurd (cc)
of_two (suc (suc (suc (suc (suc (suc (suc (suc (suc zero))))))))) l h = absurd (cc)
of_two (suc (suc (suc (suc (suc (suc (suc (suc (suc (suc zero)))))))))) l h = absurd (cc)
of_two (suc (suc (suc (suc (suc (suc (suc (suc (suc (suc (suc zero))))))))))) l h = absurd (cc)
of_two (suc (suc (suc (suc (suc (suc (suc (suc (suc (suc (suc (suc zero)))))))))))) l h = absurd (cc)

bounds : (c : ℕ) (l : Laid) → OneOf c l → (c < length infos) × (l.own < length class_layout.structs) × (0 < (shape_at (shapes class_layout) l.own).size)
unfolding shapes_from
bounds _ _ First = (omega arith, omega arith, omega arith)
bounds _ _ Second = (omega arith, omega arith, omega arith)

roots : (c : ℕ) (l : Laid) → OneOf c l → IsTop class_layout l.root × (begins_with (shapes class_layout) l.own l.root ≡ true)
unfolding shapes_from
roots _ _ First = (record { struct = omega arith; own = refl; first = refl; some = omega arith }, refl)
roots _ _ Second = (record { struct = omega arith; own = refl; first = refl; some = omega arith }, refl)

vtables : (c : ℕ) (l : Laid) → OneOf c l → IsTop class_layout l.vtable × (begins_with (shapes class_layout) l.vtable l.vtable ≡ true)
unfolding shapes_from
vtables _ _ First = (record { struct = omega arith; own = refl; first = refl; some = omega arith }, refl)
vtables _ _ Second = (record { struct = omega arith; own = refl; first = refl; some = omega arith }, refl)

-- ---- the attributes

abbrev x_stands : Standing
x_stands = record { own = 2; place = 0; element = element.Int }

abbrev y_stands : Standing
y_stands = record { own = 3; place = 0; element = element.Instance 13 true }

data Stands (c : ℕ) (name : List ℕ) : Standing → Type 0 where
  AsX : bytes_eq x name ≡ true → Stands c name x_stands
  AsY : c ≡ 14 → bytes_eq y name ≡ true → Stands c name y_stands

same_standing : {s t : Standing} → Some s ≡ Some t → s ≡ t
same_standing h = cc

stands_as : (c : ℕ) (l : Laid) (name : List ℕ) (s : Standing) → OneOf c l → attribute c name ≡ Some s → Stands c name s
stands_as _ _ name s First h = by (bytes_eq x name) (bytes_eq y name) refl h
  where
    by : (a b : Bool) → bytes_eq x name ≡ a → (if a then Some x_stands else if b then None else None) ≡ Some s → Stands 13 name s
    by true b e h = subst (Stands 13 name) (same_standing h) (AsX e)
    by false true e h = absurd (cc)
    by false false e h = absurd (cc)
stands_as _ _ name s Second h = by (bytes_eq x name) (bytes_eq y name) refl refl h
  where
    by : (a b : Bool) → bytes_eq x name ≡ a → bytes_eq y name ≡ b → (if a then Some x_stands else if b then Some y_stands else None) ≡ Some s → Stands 14 name s
    by true b e f h = subst (Stands 14 name) (same_standing h) (AsX e)
    by false true e f h = subst (Stands 14 name) (same_standing h) (AsY refl f)
    by false false e f h = absurd (cc)

fields : (c : ℕ) (l : Laid) (name : List ℕ) (s : Standing) → OneOf c l → Stands c name s → HasFields class_layout l s
unfolding shapes_from
fields _ _ name _ First (AsX e) = record { begins = refl; declared = omega arith; first = omega arith; next = refl; inside = omega arith }
fields _ _ name _ Second (AsX e) = record { begins = refl; declared = omega arith; first = omega arith; next = refl; inside = omega arith }
fields _ _ name _ Second (AsY q e) = record { begins = refl; declared = omega arith; first = omega arith; next = refl; inside = omega arith }
fields _ _ name _ First (AsY q e) = absurd (cc)

apart : (c d : ℕ) (a b : List ℕ) (s t : Standing) → Stands c a s → Stands d b t → (a ≡ b → ⊥) → (set_at class_layout s < value_at class_layout t) ⊎ (set_at class_layout t < value_at class_layout s)
unfolding shapes_from
apart c d a b _ _ (AsX e) (AsX f) differ = absurd (differ (sym ((bytes_eq-Decides x a).0 e) ∙ (bytes_eq-Decides x b).0 f))
apart c d a b _ _ (AsY q e) (AsY r f) differ = absurd (differ (sym ((bytes_eq-Decides y a).0 e) ∙ (bytes_eq-Decides y b).0 f))
apart c d a b _ _ (AsX e) (AsY r f) differ = inl (omega arith)
apart c d a b _ _ (AsY q e) (AsX f) differ = inr (omega arith)

inherits : (c d : ℕ) (l m : Laid) → is_below infos c d ≡ true → OneOf c l → OneOf d m → (l.root ≡ m.root) × (l.vtable ≡ m.vtable) × ((name : List ℕ) (s : Standing) → attribute d name ≡ Some s → attribute c name ≡ Some s)
inherits _ _ _ _ h First First = (refl, refl, λ name s k. k)
inherits _ _ _ _ h Second Second = (refl, refl, λ name s k. k)
inherits _ _ _ _ h First Second = absurd (cc)
inherits _ _ _ _ h Second First = (refl, refl, λ name s k. by name s (bytes_eq x name) (bytes_eq y name) k)
  where
    by : (name : List ℕ) (s : Standing) (a b : Bool) → (if a then Some x_stands else if b then None else None) ≡ Some s → (if a then Some x_stands else if b then Some y_stands else None) ≡ Some s
    by name s true b k = k
    by name s false true k = absurd (cc)
    by name s false false k = absurd (cc)

pub two_classes : TwoClasses
two_classes = record {
  class = λ c l h. bounds c l (of_two c l h);
  root = λ c l h. roots c l (of_two c l h);
  vtable = λ c l h. vtables c l (of_two c l h);
  fields = λ c l name s h k. (let o = of_two c l h in fields c l name s o (stands_as c l name s o k));
  apart = λ c l a b s t h k m differ. (let o = of_two c l h in apart c c a b s t (stands_as c l a s o k) (stands_as c l b t o m) differ);
  inherits = λ c d l m below h k. inherits c d l m below (of_two c l h) (of_two d m k);
}

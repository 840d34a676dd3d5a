-- Elements that are tuples.
use Rattle.std.proofs.Common.{◌≡◌, ℕ, Bool, List, Option, Some, refl, sym, ap, ◌∙◌, subst}
use Rattle.ann_element.specs.declared.element.Element.{Element, fold-roll-Element}
use Rattle.ann_element.specs.declared.element.Element.TheOpen.{Element-F}
use Rattle.ann_element.specs.declared.element.Element.TheVariants as element
use Rattle.ann_lattice.specs.Order.{Below}
use Rattle.ann_lattice.specs.Shape.{Lst, Dct, Inst, Fun, Shape, Shapes, Tup, end, shape, shape_step, shapes}
use Rattle.class_desc.specs.Tables.{Tables}
use Rattle.rpy_tree.specs.declared.program.ClassInfo.{ClassInfo}
use Rattle.rtyper_layout.specs.declared.kind.Kind.TheVariants as kind
use Rattle.rtyper_layout.specs.declared.layout.Layout.{Layout}
use Rattle.lower_laws.specs.Values.{is_simple}
use Rattle.conversion_laws.specs.Going.{IsTuple}
use Rattle.conversion_laws.specs.Ordered.{AllLaid, IsLaid, Nowhere, Simple, Listed, Mapped, Instanced, Called, Items}
use Rattle.typed_rows.specs.Programs.{IsTyped, Typed, layout, same}
use Rattle.list_rows.proofs.Operands.{Above}
use Rattle.list_rows.proofs.Shapes.{kind_at, list_shape, no}

dict_shape : (s : ℕ) (r : Bool) → shape (element.Dict s r) ≡ Dct s r
dict_shape s r = ap shape (sym (element.rolls-Dict s r)) ∙ fold-roll-Element Shape shape_step (Element-F.Dict s r)

instance_shape : (c : ℕ) (r : Bool) → shape (element.Instance c r) ≡ Inst c r
instance_shape c r = ap shape (sym (element.rolls-Instance c r)) ∙ fold-roll-Element Shape shape_step (Element-F.Instance c r)

function_shape : (fs : List ℕ) (r : Bool) → shape (element.Func fs r) ≡ Fun fs r
function_shape fs r = ap shape (sym (element.rolls-Func fs r)) ∙ fold-roll-Element Shape shape_step (Element-F.Func fs r)

tuple_shape : (parts : List Element) → shape (element.Tuple parts) ≡ Tup (shapes parts)
tuple_shape parts = ap shape (sym (element.rolls-Tuple parts)) ∙ fold-roll-Element Shape shape_step (Element-F.Tuple parts)

abbrev items_in : Shape → Shapes
items_in (Tup xs) = xs
items_in _ = end

-- it is a tuple of these parts, which has its struct
pub record OfTuple (layout : Layout) (same : List ℕ) (e : Element) : Type 0 where
  pub n : ℕ
  pub parts : List Element
  pub is : e ≡ element.Tuple parts
  pub of : IsTuple layout (Some e) n parts
  pub all : AllLaid layout same parts
  pub shape_is : shape e ≡ Tup (shapes parts)

module _ (layout : Layout) (same : List ℕ) where
  pub tuples_are : (e : Element) (xs : Shapes) → IsLaid layout same e → shape e ≡ Tup xs → OfTuple layout same e
  tuples_are e xs (Nowhere k) h = absurd (let q : kind.Tuple ≡ kind.Never = sym (kind_at e (Tup xs) h) ∙ k in cc)
  tuples_are e xs (Simple k) h = no (ap is_simple (sym (kind_at e (Tup xs) h)) ∙ k)
  tuples_are _ xs (Items n parts of all) h = record { n = n; parts = parts; is = refl; of = of; all = all; shape_is = tuple_shape parts }
  tuples_are _ xs (Called fs q) h = absurd (let k : Fun fs q ≡ Tup xs = sym (function_shape fs q) ∙ h in cc)
  tuples_are _ xs (Instanced d q l at) h = absurd (let k : Inst d q ≡ Tup xs = sym (instance_shape d q) ∙ h in cc)
  tuples_are _ xs (Mapped n site q led typed) h = absurd (let k : Dct site q ≡ Tup xs = sym (dict_shape site q) ∙ h in cc)
  tuples_are _ xs (Listed n site q led typed) h = absurd (let k : Lst site q ≡ Tup xs = sym (list_shape site q) ∙ h in cc)

  pub shaped_as : (e : Element) (xs : Shapes) (of : OfTuple layout same e) → shape e ≡ Tup xs → shapes of.parts ≡ xs
  shaped_as e xs of h = ap items_in (sym of.shape_is ∙ h)

-- what is known to be this element is the tuple that it is
pub tuple_at : (t : Typed) (seen : Option Element) (e : Element) → seen ≡ Some e → (n : ℕ) (parts : List Element) → IsTuple (layout t) (Some e) n parts → IsTuple (layout t) seen n parts
tuple_at t seen e is n parts of = subst (λ x. IsTuple (layout t) x n parts) (sym is) of

-- the order as the classes and sites of the program have it
pub above_in : (t : Typed) → IsTyped t → (x z : Shape) → Above t x z → Below t.classes.classes (same t) x z
above_in t typed x z above =
    subst (λ (s : List ℕ). Below t.classes.classes s x z) typed.sees.same_is
    (subst (λ (k : List ClassInfo). Below k t.assigned.same x z) (ap (λ (k : Tables). k.classes) typed.sees.classes_are) above)

-- A dict that may be missing, once it is known to be there.
use Rattle.std.proofs.Common.{◌≡◌, ℕ, Bool, true, false, List, Option, Some, None, refl, sym, ap, ◌∙◌, subst}
use Rattle.ann_element.specs.declared.element.Element.{Element, out-Element, roll-Element, roll-out-Element}
use Rattle.ann_element.specs.declared.element.Element.TheOpen.{Element-F}
use Rattle.ann_element.specs.declared.element.Element.TheVariants as element
use Rattle.csub_tree.specs.State.{Value}
use Rattle.rpy_tree.specs.Value.{Value as Meant}
use Rattle.rtyper_layout.specs.declared.kind.Kind.TheVariants as kind
use Rattle.rtyper_layout.specs.declared.layout.Layout.{Layout}
use Rattle.rtyper_layout.specs.Kinds.{kind_of, kind_seen}
use Rattle.rtyper_layout.specs.Types.{type_of, type_seen}
use Rattle.rtyper_dict.specs.Operands.{of_dict}
use Rattle.object_laws.specs.Ghost.{Ghost}
use Rattle.object_laws.specs.Known.{Known}
use Rattle.object_laws.specs.Values.{Holds, Mapped, of_dict as is_dict}
use Rattle.object_laws.proofs.Valued.{Dicting}
use Rattle.conversion_laws.proofs.Ordered.{dict_type}

-- what is known of it then
pub record Certain (layout : Layout) (seen : Option Element) : Type 0 where
  pub element : Option Element
  pub kind_is : kind_seen element ≡ kind.Dict
  pub typed : type_seen layout element ≡ type_seen layout seen

no_dict : {e f : Element} → e ≡ f → of_dict (kind_of f) ≡ false → of_dict (kind_of e) ≡ true → ⊥
no_dict same other h = (let q : true ≡ false = sym h ∙ ap (λ e. of_dict (kind_of e)) same ∙ other in absurd (cc))

no_list : (r : Bool) (s : ℕ) → of_dict (kind_of (element.List s r)) ≡ false
no_list true s = refl
no_list false s = refl

no_instance : (r : Bool) (s : ℕ) → of_dict (kind_of (element.Instance s r)) ≡ false
no_instance true s = refl
no_instance false s = refl

no_function : (r : Bool) (fs : List ℕ) → of_dict (kind_of (element.Func fs r)) ≡ false
no_function true fs = refl
no_function false fs = refl

module _ (layout : Layout) where
  layer : (x : Element-F Element) → of_dict (kind_of (roll-Element x)) ≡ true → Certain layout (Some (roll-Element x))
  layer (Element-F.Dict s r) h = record { element = Some (element.Dict s false); kind_is = refl; typed = dict_type layout s false r ∙ ap (type_of layout) (sym (element.rolls-Dict s r)) }
  layer Element-F.Unreached h = absurd (no_dict element.rolls-Unreached refl h)
  layer Element-F.NoneOnly h = absurd (no_dict element.rolls-NoneOnly refl h)
  layer Element-F.KnownTrue h = absurd (no_dict element.rolls-KnownTrue refl h)
  layer Element-F.KnownFalse h = absurd (no_dict element.rolls-KnownFalse refl h)
  layer Element-F.Bool h = absurd (no_dict element.rolls-Bool refl h)
  layer Element-F.IntPos h = absurd (no_dict element.rolls-IntPos refl h)
  layer Element-F.Int h = absurd (no_dict element.rolls-Int refl h)
  layer Element-F.Char h = absurd (no_dict element.rolls-Char refl h)
  layer Element-F.Str h = absurd (no_dict element.rolls-Str refl h)
  layer Element-F.StrOrNone h = absurd (no_dict element.rolls-StrOrNone refl h)
  layer (Element-F.Tuple parts) h = absurd (no_dict (element.rolls-Tuple parts) refl h)
  layer (Element-F.List s r) h = absurd (no_dict (element.rolls-List s r) (no_list r s) h)
  layer (Element-F.Instance c r) h = absurd (no_dict (element.rolls-Instance c r) (no_instance r c) h)
  layer (Element-F.Func fs r) h = absurd (no_dict (element.rolls-Func fs r) (no_function r fs) h)
  layer (Element-F.Conflict o p) h = absurd (no_dict (element.rolls-Conflict o p) refl h)

  pub certain : (seen : Option Element) → of_dict (kind_seen seen) ≡ true → Certain layout seen
  certain None h = absurd (cc)
  certain (Some e) h = subst (λ e. of_dict (kind_of e) ≡ true → Certain layout (Some e)) (roll-out-Element e) (layer (out-Element e)) h

-- the dict is known so
pub certainly : {layout : Layout} {known : Known} {g : Ghost} {seen : Option Element} {x : Value} {v : Meant} (c : Certain layout seen) → Dicting layout known g seen x v → Holds layout known g c.element x v
certainly c it = Mapped it.n it.i it.m (ap is_dict c.kind_is) it.high (c.typed ∙ it.typed) it.struct it.home

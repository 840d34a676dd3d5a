-- What a value of an element is, by its type.
use Rattle.std.proofs.Common.{◌≡◌, ℕ, true, false, Option, Some, None, pos, refl, sym, ap, ◌∙◌, subst}
use Rattle.ann_element.specs.declared.element.Element.{Element, fold-roll-Element, out-Element, roll-Element, roll-out-Element, map-Element}
use Rattle.ann_element.specs.declared.element.Element.TheOpen.{Element-F}
use Rattle.ann_element.specs.declared.element.Element.TheVariants as element
use Rattle.csub_tree.specs.State.{Value, Flag}
use Rattle.csub_tree.specs.declared.tree.CConst.TheVariants as constant
use Rattle.rtyper_data.specs.Converting.{default_constant}
use Rattle.rpy_tree.specs.Value.{Value as Meant}
use Rattle.ll_code.specs.declared.program.LlType.{LlType}
use Rattle.ll_code.specs.declared.program.LlType.TheVariants as type
use Rattle.rtyper_layout.specs.declared.classes.Laid.{Laid}
use Rattle.rtyper_layout.specs.declared.kind.Kind.TheVariants as kind
use Rattle.rtyper_layout.specs.declared.layout.Layout.{Layout}
use Rattle.rtyper_layout.specs.Dicts.{is_plain}
use Rattle.rtyper_layout.specs.Kinds.{kind_of, kind_seen}
use Rattle.rtyper_layout.specs.Types.{pointer_to, root_of, type_of, type_seen, type_step}
use Rattle.lower_laws.proofs.Typing.{place_of_bytes, place_of_none}
use Rattle.object_laws.specs.Ghost.{Ghost}
use Rattle.object_laws.specs.Known.{Known}
use Rattle.object_laws.specs.Values.{Holds, Plain, Alone, Items, Listed, Mapped, Made, Function, Missing, Stands, may_be_missing}
use Rattle.object_laws.proofs.Valued.{function_type, instance_type, stays_there, stays_typed}
use Rattle.conversion_laws.specs.Going.{Goes, IsTuple}
use Rattle.conversion_laws.specs.Going as goes
use Rattle.conversion_laws.proofs.Valued.{texts_typed}
use Rattle.dict_find_laws.proofs.Restored.{IsOf, byte_in, flag_in}

no_pointer : (first each : ℕ) (o : Option ℕ) → is_plain (pointer_to first each o) ≡ false
no_pointer first each None = refl
no_pointer first each (Some n) = refl

no_root : (o : Option Laid) → is_plain (root_of o) ≡ false
no_root None = refl
no_root (Some l) = refl

-- what may be missing is a pointer or a function
abbrev IsNoWord : Layout → Element → Type 0
IsNoWord layout e = may_be_missing (kind_of e) ≡ true → is_plain (type_of layout e) ≡ false

module _ (layout : Layout) where
  never : {e f : Element} → e ≡ f → may_be_missing (kind_of f) ≡ false → IsNoWord layout e
  never same other h = (let q : true ≡ false = sym h ∙ ap (λ e. may_be_missing (kind_of e)) same ∙ other in absurd (cc))

  typed : (x : Element-F Element) → is_plain (type_step layout (map-Element Element LlType (type_of layout) x)) ≡ false → IsNoWord layout (roll-Element x)
  typed x h may = ap is_plain (fold-roll-Element LlType (type_step layout) x) ∙ h

  layer : (x : Element-F Element) → IsNoWord layout (roll-Element x)
  layer (Element-F.Dict s r) = typed (Element-F.Dict s r) (no_pointer _ _ _)
  layer (Element-F.List s r) = typed (Element-F.List s r) (no_pointer _ _ _)
  layer (Element-F.Instance c r) = typed (Element-F.Instance c r) (no_root _)
  layer (Element-F.Func fs r) = typed (Element-F.Func fs r) refl
  layer Element-F.Unreached = never element.rolls-Unreached refl
  layer Element-F.NoneOnly = never element.rolls-NoneOnly refl
  layer Element-F.KnownTrue = never element.rolls-KnownTrue refl
  layer Element-F.KnownFalse = never element.rolls-KnownFalse refl
  layer Element-F.Bool = never element.rolls-Bool refl
  layer Element-F.IntPos = never element.rolls-IntPos refl
  layer Element-F.Int = never element.rolls-Int refl
  layer Element-F.Char = never element.rolls-Char refl
  layer Element-F.Str = never element.rolls-Str refl
  layer Element-F.StrOrNone = never element.rolls-StrOrNone refl
  layer (Element-F.Tuple parts) = never (element.rolls-Tuple parts) refl
  layer (Element-F.Conflict o p) = never (element.rolls-Conflict o p) refl

  pub may_be_no_word : (seen : Option Element) → may_be_missing (kind_seen seen) ≡ true → is_plain (type_seen layout seen) ≡ false
  may_be_no_word None h = absurd (cc)
  may_be_no_word (Some e) h = subst (IsNoWord layout) (roll-out-Element e) (layer (out-Element e)) h

module _ (layout : Layout) (seen : Option Element) where
  apart : {A : Type 0} (t : LlType) → is_plain t ≡ true → is_plain (type_seen layout seen) ≡ false → type_seen layout seen ≡ t → A
  apart t plain other h = (let q : true ≡ false = sym plain ∙ sym (ap is_plain h) ∙ other in absurd (cc))

module _ {layout : Layout} {known : Known} {g : Ghost} {seen : Option Element} {x : Value} {v : Meant} where
  in_it : {A : Type 0} (t : LlType) → is_plain t ≡ true → type_seen layout seen ≡ t → (Stands g (type_seen layout seen) x v → A) → (type_seen layout seen ≡ type.Bool → x ≡ Flag false → A) → Holds layout known g seen x v → A
  in_it t plain is f alone (Plain p s) = f s
  in_it t plain is f alone (Alone k e h) = alone (place_of_none layout seen k) e
  in_it t plain is f alone (Items parts n xs vs e h typed stays all) = apart layout seen t plain (ap is_plain typed) is
  in_it t plain is f alone (Listed n i k h typed s home) = apart layout seen t plain (ap is_plain typed) is
  in_it t plain is f alone (Mapped n i m k h typed s home) = apart layout seen t plain (ap is_plain typed) is
  in_it t plain is f alone (Made class r c i e h b home) = apart layout seen t plain (ap is_plain (ap (type_seen layout) e ∙ instance_type layout class r) ∙ no_root _) is
  in_it t plain is f alone (Function fs r fn n e k b l y) = apart layout seen t plain (ap is_plain (ap (type_seen layout) e ∙ function_type layout fs r)) is
  in_it t plain is f alone (Missing k e h) = apart layout seen t plain (may_be_no_word layout seen k) is

  pub held_is_of : Holds layout known g seen x v → IsOf (type_seen layout seen) x
  held_is_of held = record {
    flags = λ h. in_it type.Bool refl h (flag_in h) (λ t e. (false, e)) held;
    bytes = λ h. in_it type.Char refl h (byte_in h) (λ t e. absurd (let q : type.Bool ≡ type.Char = sym t ∙ h in cc)) held;
  }

-- what goes somewhere has a type there
pub goes_there : {layout : Layout} {known : Known} {from to : Option Element} → Goes layout known from to → (kind_seen from ≡ kind.Never → ⊥) → type_seen layout to ≡ type.Void → ⊥
goes_there (goes.Never h) real void = real h
goes_there (goes.Staying s) real void = stays_there s void
goes_there (goes.Missing h t d) real void = (let q : constant.Word (pos 0) ≡ constant.Null = sym (ap default_constant void) ∙ d in absurd (cc))
goes_there {layout = layout} {to = to} (goes.Texted h t) real void = (let q : type.Ptr 0 ≡ type.Void = sym (texts_typed layout to t) ∙ void in absurd (cc))
goes_there (goes.Items m n parts others a b all) real void = (let q : type.Ptr n ≡ type.Void = sym b.typed ∙ void in absurd (cc))

-- and had one before
pub goes_from : {layout : Layout} {known : Known} {from to : Option Element} → Goes layout known from to → (kind_seen from ≡ kind.Never → ⊥) → type_seen layout from ≡ type.Void → ⊥
goes_from (goes.Never h) real void = real h
goes_from (goes.Staying s) real void = stays_there s (sym (stays_typed s) ∙ void)
goes_from {layout = layout} {from = from} (goes.Missing h t d) real void = (let q : type.Bool ≡ type.Void = sym (place_of_none layout from h) ∙ void in absurd (cc))
goes_from {layout = layout} {from = from} (goes.Texted h t) real void = (let q : type.Char ≡ type.Void = sym (place_of_bytes layout from h) ∙ void in absurd (cc))
goes_from (goes.Items m n parts others a b all) real void = (let q : type.Ptr m ≡ type.Void = sym a.typed ∙ void in absurd (cc))

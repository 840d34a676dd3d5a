-- Elements by their shapes and kinds.
use Rattle.std.proofs.Common.{◌≡◌, ℕ, Bool, true, false, List, refl, sym, ap, ◌∙◌, subst}
use Rattle.ann_element.specs.Sites.{leader}
use Rattle.ann_element.specs.declared.element.Element.{Element, fold-roll-Element, out-Element, roll-Element, roll-out-Element}
use Rattle.ann_element.specs.declared.element.Element.TheOpen.{Element-F}
use Rattle.ann_element.specs.declared.element.Element.TheVariants as element
use Rattle.ann_lattice.specs.Shape.{One, Any, OrNone, Shape, Nothing, NoneOnly, Truth, Num, Str, Tup, Lst, Dct, Inst, Fun, Clash, shape, shape_step}
use Rattle.ll_code.specs.declared.program.LlType.{LlType}
use Rattle.ll_code.specs.declared.program.LlType.TheVariants as type
use Rattle.lower_laws.specs.Values.{is_simple}
use Rattle.rtyper_layout.specs.declared.kind.Kind.{Kind}
use Rattle.rtyper_layout.specs.declared.kind.Kind.TheVariants as kind
use Rattle.rtyper_layout.specs.declared.layout.Layout.{Layout}
use Rattle.rtyper_layout.specs.Kinds as kinds
use Rattle.rtyper_layout.specs.Kinds.{kind_of}
use Rattle.rtyper_layout.specs.Types.{type_of, type_step}
use Rattle.rtyper_list.specs.Operands.{of_list}
use Rattle.conversion_laws.specs.Ordered.{IsLaid, Nowhere, Simple, Listed, Mapped, Instanced, Called, Items}

pub no : {A : Type 0} → false ≡ true → A
no h = absurd (cc)

pub list_shape : (s : ℕ) (r : Bool) → shape (element.List s r) ≡ Lst s r
list_shape s r = ap shape (sym (element.rolls-List s r)) ∙ fold-roll-Element Shape shape_step (Element-F.List s r)

-- the kind of an element of this shape
abbrev pub kind_in : Shape → Kind
kind_in Nothing = kind.Never
kind_in NoneOnly = kind.Nothing
kind_in (Truth b) = kind.Flag
kind_in (Num b) = kind.Word
kind_in (Str One) = kind.Byte
kind_in (Str Any) = kind.Text
kind_in (Str OrNone) = kind.MaybeText
kind_in (Tup xs) = kind.Tuple
kind_in (Lst s r) = kinds.of_list r
kind_in (Dct s r) = kinds.of_dict r
kind_in (Inst c r) = kinds.of_instance r
kind_in (Fun fs r) = kinds.of_function r
kind_in (Clash o p) = kind.Other

kind_layer : (x : Element-F Element) → kind_of (roll-Element x) ≡ kind_in (shape (roll-Element x))
kind_layer Element-F.Unreached = ap kind_of element.rolls-Unreached ∙ sym (ap kind_in (fold-roll-Element Shape shape_step Element-F.Unreached))
kind_layer Element-F.NoneOnly = ap kind_of element.rolls-NoneOnly ∙ sym (ap kind_in (fold-roll-Element Shape shape_step Element-F.NoneOnly))
kind_layer Element-F.KnownTrue = ap kind_of element.rolls-KnownTrue ∙ sym (ap kind_in (fold-roll-Element Shape shape_step Element-F.KnownTrue))
kind_layer Element-F.KnownFalse = ap kind_of element.rolls-KnownFalse ∙ sym (ap kind_in (fold-roll-Element Shape shape_step Element-F.KnownFalse))
kind_layer Element-F.Bool = ap kind_of element.rolls-Bool ∙ sym (ap kind_in (fold-roll-Element Shape shape_step Element-F.Bool))
kind_layer Element-F.IntPos = ap kind_of element.rolls-IntPos ∙ sym (ap kind_in (fold-roll-Element Shape shape_step Element-F.IntPos))
kind_layer Element-F.Int = ap kind_of element.rolls-Int ∙ sym (ap kind_in (fold-roll-Element Shape shape_step Element-F.Int))
kind_layer Element-F.Char = ap kind_of element.rolls-Char ∙ sym (ap kind_in (fold-roll-Element Shape shape_step Element-F.Char))
kind_layer Element-F.Str = ap kind_of element.rolls-Str ∙ sym (ap kind_in (fold-roll-Element Shape shape_step Element-F.Str))
kind_layer Element-F.StrOrNone = ap kind_of element.rolls-StrOrNone ∙ sym (ap kind_in (fold-roll-Element Shape shape_step Element-F.StrOrNone))
kind_layer (Element-F.Tuple parts) = ap kind_of (element.rolls-Tuple parts) ∙ sym (ap kind_in (fold-roll-Element Shape shape_step (Element-F.Tuple parts)))
kind_layer (Element-F.List s r) = ap kind_of (element.rolls-List s r) ∙ sym (ap kind_in (fold-roll-Element Shape shape_step (Element-F.List s r)))
kind_layer (Element-F.Dict s r) = ap kind_of (element.rolls-Dict s r) ∙ sym (ap kind_in (fold-roll-Element Shape shape_step (Element-F.Dict s r)))
kind_layer (Element-F.Instance c r) = ap kind_of (element.rolls-Instance c r) ∙ sym (ap kind_in (fold-roll-Element Shape shape_step (Element-F.Instance c r)))
kind_layer (Element-F.Func fs r) = ap kind_of (element.rolls-Func fs r) ∙ sym (ap kind_in (fold-roll-Element Shape shape_step (Element-F.Func fs r)))
kind_layer (Element-F.Conflict o p) = ap kind_of (element.rolls-Conflict o p) ∙ sym (ap kind_in (fold-roll-Element Shape shape_step (Element-F.Conflict o p)))

pub kind_is : (e : Element) → kind_of e ≡ kind_in (shape e)
kind_is e = subst (λ e. kind_of e ≡ kind_in (shape e)) (roll-out-Element e) (kind_layer (out-Element e))

-- ---- lists

abbrev pub site_in : Shape → ℕ
site_in (Lst s r) = s
site_in _ = 0

no_simple : (k : Kind) → is_simple k ≡ true → of_list k ≡ true → ⊥
no_simple kind.List simple list = absurd (cc)
no_simple kind.MaybeList simple list = absurd (cc)
no_simple _ simple list = absurd (cc)

-- it is a list of these sites, which has its struct
pub record OfList (layout : Layout) (same : List ℕ) (e : Element) : Type 0 where
  pub site : ℕ
  pub r : Bool
  pub n : ℕ
  pub is : e ≡ element.List site r
  pub led : leader same site ≡ site
  pub typed : type_of layout (element.List site r) ≡ type.Ptr n
  pub shape_is : shape e ≡ Lst site r

module _ (layout : Layout) (same : List ℕ) where
  pub of_lists : (e : Element) → IsLaid layout same e → of_list (kind_of e) ≡ true → OfList layout same e
  of_lists e (Nowhere k) list = no (ap of_list (sym k) ∙ list)
  of_lists e (Simple simple) list = absurd (no_simple (kind_of e) simple list)
  of_lists _ (Listed n site r led typed) list = record { site = site; r = r; n = n; is = refl; led = led; typed = typed; shape_is = list_shape site r }
  of_lists _ (Mapped n site true led typed) list = no list
  of_lists _ (Mapped n site false led typed) list = no list
  of_lists _ (Instanced class true l at) list = no list
  of_lists _ (Instanced class false l at) list = no list
  of_lists _ (Called fs true) list = no list
  of_lists _ (Called fs false) list = no list
  of_lists _ (Items n parts of all) list = no list

pub list_type : (layout : Layout) (s : ℕ) (r q : Bool) → type_of layout (element.List s r) ≡ type_of layout (element.List s q)
list_type layout s r q =
    ap (type_of layout) (sym (element.rolls-List s r)) ∙ fold-roll-Element LlType (type_step layout) (Element-F.List s r)
    ∙ sym (ap (type_of layout) (sym (element.rolls-List s q)) ∙ fold-roll-Element LlType (type_step layout) (Element-F.List s q))

pub kind_at : (e : Element) (s : Shape) → shape e ≡ s → kind_of e ≡ kind_in s
kind_at e s h = kind_is e ∙ ap kind_in h

-- what is a list by its shape is one by its kind
pub lists_are : (e : Element) (s : ℕ) (r : Bool) → shape e ≡ Lst s r → of_list (kind_of e) ≡ true
lists_are e s true h = ap of_list (kind_at e (Lst s true) h)
lists_are e s false h = ap of_list (kind_at e (Lst s false) h)

-- Kinds of elements, by their shapes.
use Rattle.std.proofs.Common.{◌≡◌, ◌⊎◌, inl, inr, ℕ, Bool, true, false, List, Option, refl, sym, ap, ◌∙◌, subst}
use Rattle.ann_element.specs.declared.element.Element.{Element, fold-roll-Element, out-Element, roll-Element, roll-out-Element}
use Rattle.ann_element.specs.declared.element.Element.TheOpen.{Element-F}
use Rattle.ann_element.specs.declared.element.Element.TheVariants as element
use Rattle.ann_lattice.specs.Join.{is_clash}
use Rattle.ann_lattice.specs.Kind.{is_bool, is_char, is_int}
use Rattle.ann_lattice.specs.Order.{Below}
use Rattle.ann_lattice.specs.Order as order
use Rattle.ann_lattice.specs.Shape.{One, Any, OrNone, Shape, Nothing, NoneOnly, Truth, Num, Str, Tup, Lst, Dct, Inst, Fun, Clash, shape, shape_step}
use Rattle.rpy_tree.specs.declared.program.ClassInfo.{ClassInfo}
use Rattle.rtyper_layout.specs.declared.kind.Kind.{Kind}
use Rattle.rtyper_layout.specs.declared.kind.Kind.TheVariants as kind
use Rattle.rtyper_layout.specs.Kinds.{kind_of, of_list, of_dict, of_instance, of_function}

pub no : false ≡ true → ⊥
no e = cc

pub yes : true ≡ false → ⊥
yes e = cc

abbrev pub kind_in : Shape → Kind
kind_in Nothing = kind.Never
kind_in NoneOnly = kind.Nothing
kind_in (Truth b) = kind.Flag
kind_in (Num b) = kind.Word
kind_in (Str One) = kind.Byte
kind_in (Str Any) = kind.Text
kind_in (Str OrNone) = kind.MaybeText
kind_in (Tup xs) = kind.Tuple
kind_in (Lst s r) = of_list r
kind_in (Dct s r) = of_dict r
kind_in (Inst c r) = of_instance r
kind_in (Fun fs r) = of_function r
kind_in (Clash o p) = kind.Other

kind_layer : (x : Element-F Element) → kind_of (roll-Element x) ≡ kind_in (shape (roll-Element x))
kind_layer Element-F.Unreached = ap kind_of element.rolls-Unreached ∙ sym (ap kind_in (fold-roll-Element Shape shape_step Element-F.Unreached))
kind_layer Element-F.NoneOnly = ap kind_of element.rolls-NoneOnly ∙ sym (ap kind_in (fold-roll-Element Shape shape_step Element-F.NoneOnly))
kind_layer Element-F.KnownTrue = ap kind_of element.rolls-KnownTrue ∙ sym (ap kind_in (fold-roll-Element Shape shape_step Element-F.KnownTrue))
kind_layer Element-F.KnownFalse = ap kind_of element.rolls-KnownFalse ∙ sym (ap kind_in (fold-roll-Element Shape shape_step Element-F.KnownFalse))
kind_layer Element-F.Bool = ap kind_of element.rolls-Bool ∙ sym (ap kind_in (fold-roll-Element Shape shape_step Element-F.Bool))
kind_layer Element-F.IntPos = ap kind_of element.rolls-IntPos ∙ sym (ap kind_in (fold-roll-Element Shape shape_step Element-F.IntPos))
kind_layer Element-F.Int = ap kind_of element.rolls-Int ∙ sym (ap kind_in (fold-roll-Element Shape shape_step Element-F.Int))
kind_layer Element-F.Char = ap kind_of element.rolls-Char ∙ sym (ap kind_in (fold-roll-Element Shape shape_step Element-F.Char))
kind_layer Element-F.Str = ap kind_of element.rolls-Str ∙ sym (ap kind_in (fold-roll-Element Shape shape_step Element-F.Str))
kind_layer Element-F.StrOrNone = ap kind_of element.rolls-StrOrNone ∙ sym (ap kind_in (fold-roll-Element Shape shape_step Element-F.StrOrNone))
kind_layer (Element-F.Tuple parts) = ap kind_of (element.rolls-Tuple parts) ∙ sym (ap kind_in (fold-roll-Element Shape shape_step (Element-F.Tuple parts)))
kind_layer (Element-F.List s r) = ap kind_of (element.rolls-List s r) ∙ sym (ap kind_in (fold-roll-Element Shape shape_step (Element-F.List s r)))
kind_layer (Element-F.Dict s r) = ap kind_of (element.rolls-Dict s r) ∙ sym (ap kind_in (fold-roll-Element Shape shape_step (Element-F.Dict s r)))
kind_layer (Element-F.Instance c r) = ap kind_of (element.rolls-Instance c r) ∙ sym (ap kind_in (fold-roll-Element Shape shape_step (Element-F.Instance c r)))
kind_layer (Element-F.Func fs r) = ap kind_of (element.rolls-Func fs r) ∙ sym (ap kind_in (fold-roll-Element Shape shape_step (Element-F.Func fs r)))
kind_layer (Element-F.Conflict o p) = ap kind_of (element.rolls-Conflict o p) ∙ sym (ap kind_in (fold-roll-Element Shape shape_step (Element-F.Conflict o p)))

pub kind_is : (e : Element) → kind_of e ≡ kind_in (shape e)
kind_is e = subst (λ e. kind_of e ≡ kind_in (shape e)) (roll-out-Element e) (kind_layer (out-Element e))

pub kind_at : (e : Element) (s : Shape) → shape e ≡ s → kind_of e ≡ kind_in s
kind_at e s h = kind_is e ∙ ap kind_in h

-- ---- kinds of shapes

word_in : (s : Shape) → is_int s ≡ true → kind_in s ≡ kind.Word
word_in (Num b) h = refl
word_in s h = absurd (no h)

flag_in : (s : Shape) → is_bool s ≡ true → kind_in s ≡ kind.Flag
flag_in (Truth b) h = refl
flag_in s h = absurd (no h)

byte_in : (s : Shape) → is_char s ≡ true → kind_in s ≡ kind.Byte
byte_in (Str One) h = refl
byte_in s h = absurd (no h)

pub word_kind : (e : Element) → is_int (shape e) ≡ true → kind_of e ≡ kind.Word
word_kind e h = kind_is e ∙ word_in (shape e) h

pub flag_kind : (e : Element) → is_bool (shape e) ≡ true → kind_of e ≡ kind.Flag
flag_kind e h = kind_is e ∙ flag_in (shape e) h

pub byte_kind : (e : Element) → is_char (shape e) ≡ true → kind_of e ≡ kind.Byte
byte_kind e h = kind_is e ∙ byte_in (shape e) h

-- ---- what is above a shape, and in no conflict

module _ (k : List ClassInfo) (t : List ℕ) where
  pub num_above : (b : Bool) (z : Shape) → Below k t (Num b) z → is_clash z ≡ false → is_int z ≡ true
  num_above b _ (order.num a c h) f = refl
  num_above b _ (order.clash x o p h i) f = absurd (yes f)

  pub truth_above : (b : Option Bool) (z : Shape) → Below k t (Truth b) z → is_clash z ≡ false → is_bool z ≡ true
  truth_above b _ (order.truth a c h) f = refl
  truth_above b _ (order.clash x o p h i) f = absurd (yes f)

  pub clash_above : (x z : Shape) → Below k t x z → is_clash x ≡ true → is_clash z ≡ false → ⊥
  clash_above x _ (order.clash y o p h i) j f = yes f
  clash_above x z h i f = no i

  pub texts_above : (z : Shape) → Below k t (Str Any) z → is_clash z ≡ false → (kind_in z ≡ kind.Text) ⊎ (kind_in z ≡ kind.MaybeText)
  texts_above _ (order.str a Any h) f = inl refl
  texts_above _ (order.str a OrNone h) f = inr refl
  texts_above _ (order.str a One h) f = absurd h
  texts_above _ (order.clash x o p h i) f = absurd (yes f)

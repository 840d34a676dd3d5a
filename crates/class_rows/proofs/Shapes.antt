-- Elements by their shapes.
use Rattle.std.proofs.Common.{◌≡◌, ℕ, Bool, true, false, List, [], Option, Some, None, refl, sym, ap, ◌∙◌, subst}
use Rattle.ann_element.specs.declared.element.Element.{Element, fold-roll-Element, out-Element, roll-Element, roll-out-Element}
use Rattle.ann_element.specs.declared.element.Element.TheOpen.{Element-F}
use Rattle.ann_element.specs.declared.element.Element.TheVariants as element
use Rattle.ann_lattice.specs.Kind.{is_nothing}
use Rattle.rtyper_op.specs.Lowering.{never_comes}
use Rattle.ann_lattice.specs.Shape.{Shape, Nothing, NoneOnly, Truth, Num, Str, One, Any, OrNone, Tup, Lst, Dct, Inst, Fun, Clash, shape, shapes, shape_step}
use Rattle.conversion_laws.specs.Ordered.{IsLaid, Instanced, Nowhere, Simple}
use Rattle.rtyper_layout.specs.declared.classes.Laid.{Laid}
use Rattle.rtyper_layout.specs.declared.kind.Kind.{Kind}
use Rattle.rtyper_layout.specs.declared.kind.Kind.TheVariants as kind
use Rattle.rtyper_layout.specs.declared.layout.Layout.{Layout}
use Rattle.rtyper_layout.specs.Kinds.{kind_of}
use Rattle.rtyper_layout.specs.Types.{laid_in}

-- the shape of what stands at the head
abbrev layer : Element-F Element → Shape
layer Element-F.Unreached = Nothing
layer Element-F.NoneOnly = NoneOnly
layer Element-F.KnownTrue = Truth (Some true)
layer Element-F.KnownFalse = Truth (Some false)
layer Element-F.Bool = Truth None
layer Element-F.IntPos = Num false
layer Element-F.Int = Num true
layer Element-F.Char = Str One
layer Element-F.Str = Str Any
layer Element-F.StrOrNone = Str OrNone
layer (Element-F.Tuple parts) = Tup (shapes parts)
layer (Element-F.List s r) = Lst s r
layer (Element-F.Dict s r) = Dct s r
layer (Element-F.Instance c r) = Inst c r
layer (Element-F.Func fs r) = Fun fs r
layer (Element-F.Conflict o p) = Clash o p

layer_is : (x : Element-F Element) → shape (roll-Element x) ≡ layer x
layer_is Element-F.Unreached = fold-roll-Element Shape shape_step Element-F.Unreached
layer_is Element-F.NoneOnly = fold-roll-Element Shape shape_step Element-F.NoneOnly
layer_is Element-F.KnownTrue = fold-roll-Element Shape shape_step Element-F.KnownTrue
layer_is Element-F.KnownFalse = fold-roll-Element Shape shape_step Element-F.KnownFalse
layer_is Element-F.Bool = fold-roll-Element Shape shape_step Element-F.Bool
layer_is Element-F.IntPos = fold-roll-Element Shape shape_step Element-F.IntPos
layer_is Element-F.Int = fold-roll-Element Shape shape_step Element-F.Int
layer_is Element-F.Char = fold-roll-Element Shape shape_step Element-F.Char
layer_is Element-F.Str = fold-roll-Element Shape shape_step Element-F.Str
layer_is Element-F.StrOrNone = fold-roll-Element Shape shape_step Element-F.StrOrNone
layer_is (Element-F.Tuple parts) = fold-roll-Element Shape shape_step (Element-F.Tuple parts)
layer_is (Element-F.List s r) = fold-roll-Element Shape shape_step (Element-F.List s r)
layer_is (Element-F.Dict s r) = fold-roll-Element Shape shape_step (Element-F.Dict s r)
layer_is (Element-F.Instance c r) = fold-roll-Element Shape shape_step (Element-F.Instance c r)
layer_is (Element-F.Func fs r) = fold-roll-Element Shape shape_step (Element-F.Func fs r)
layer_is (Element-F.Conflict o p) = fold-roll-Element Shape shape_step (Element-F.Conflict o p)

-- what holds of each head holds of each element
by_layer : (P : Element → Type 0) → ((x : Element-F Element) → P (roll-Element x)) → (e : Element) → P e
by_layer P each e = subst P (roll-out-Element e) (each (out-Element e))

abbrev class_in : Shape → ℕ
class_in (Inst c r) = c
class_in _ = 0

abbrev flag_in : Shape → Bool
flag_in (Inst c r) = r
flag_in (Fun fs r) = r
flag_in _ = false

abbrev functions_in : Shape → List ℕ
functions_in (Fun fs r) = fs
functions_in _ = []

pub instance_shape : (c : ℕ) (r : Bool) → shape (element.Instance c r) ≡ Inst c r
instance_shape c r = ap shape (sym (element.rolls-Instance c r)) ∙ layer_is (Element-F.Instance c r)

pub function_shape : (fs : List ℕ) (r : Bool) → shape (element.Func fs r) ≡ Fun fs r
function_shape fs r = ap shape (sym (element.rolls-Func fs r)) ∙ layer_is (Element-F.Func fs r)

instance_layer : (c : ℕ) (r : Bool) (x : Element-F Element) → layer x ≡ Inst c r → roll-Element x ≡ element.Instance c r
instance_layer c r (Element-F.Instance d q) h = element.rolls-Instance d q ∙ ap (λ c. element.Instance c q) (ap class_in h) ∙ ap (element.Instance c) (ap flag_in h)
instance_layer c r _ h = absurd (cc)

pub instance_at : (e : Element) (c : ℕ) (r : Bool) → shape e ≡ Inst c r → e ≡ element.Instance c r
instance_at e c r = by_layer (λ e. shape e ≡ Inst c r → e ≡ element.Instance c r) (λ x h. instance_layer c r x (sym (layer_is x) ∙ h)) e

function_layer : (fs : List ℕ) (r : Bool) (x : Element-F Element) → layer x ≡ Fun fs r → roll-Element x ≡ element.Func fs r
function_layer fs r (Element-F.Func gs q) h = element.rolls-Func gs q ∙ ap (λ fs. element.Func fs q) (ap functions_in h) ∙ ap (element.Func fs) (ap flag_in h)
function_layer fs r _ h = absurd (cc)

pub function_at : (e : Element) (fs : List ℕ) (r : Bool) → shape e ≡ Fun fs r → e ≡ element.Func fs r
function_at e fs r = by_layer (λ e. shape e ≡ Fun fs r → e ≡ element.Func fs r) (λ x h. function_layer fs r x (sym (layer_is x) ∙ h)) e

flag_layer : (b : Option Bool) (x : Element-F Element) → layer x ≡ Truth b → kind_of (roll-Element x) ≡ kind.Flag
flag_layer b Element-F.KnownTrue h = ap kind_of element.rolls-KnownTrue
flag_layer b Element-F.KnownFalse h = ap kind_of element.rolls-KnownFalse
flag_layer b Element-F.Bool h = ap kind_of element.rolls-Bool
flag_layer b _ h = absurd (cc)

pub flag_at : (e : Element) (b : Option Bool) → shape e ≡ Truth b → kind_of e ≡ kind.Flag
flag_at e b = by_layer (λ e. shape e ≡ Truth b → kind_of e ≡ kind.Flag) (λ x h. flag_layer b x (sym (layer_is x) ∙ h)) e

none_layer : (x : Element-F Element) → layer x ≡ NoneOnly → kind_of (roll-Element x) ≡ kind.Nothing
none_layer Element-F.NoneOnly h = ap kind_of element.rolls-NoneOnly
none_layer _ h = absurd (cc)

pub none_at : (e : Element) → shape e ≡ NoneOnly → kind_of e ≡ kind.Nothing
none_at e = by_layer (λ e. shape e ≡ NoneOnly → kind_of e ≡ kind.Nothing) (λ x h. none_layer x (sym (layer_is x) ∙ h)) e

-- ---- structs

pub class_laid : {layout : Layout} {same : List ℕ} (c : ℕ) (r : Bool) → IsLaid layout same (element.Instance c r) → (l : Laid) × (laid_in layout.classes c ≡ Some l)
class_laid c true (Nowhere h) = absurd (cc)
class_laid c false (Nowhere h) = absurd (cc)
class_laid c true (Simple h) = absurd (cc)
class_laid c false (Simple h) = absurd (cc)
class_laid c r (Instanced d q l at) = (l, at)

-- ---- what may be there

unreached : (e : Element) → kind_of e ≡ kind.Never → e ≡ element.Unreached
unreached element.Unreached h = refl
unreached (element.List s true) h = absurd (cc)
unreached (element.List s false) h = absurd (cc)
unreached (element.Dict s true) h = absurd (cc)
unreached (element.Dict s false) h = absurd (cc)
unreached (element.Instance c true) h = absurd (cc)
unreached (element.Instance c false) h = absurd (cc)
unreached (element.Func fs true) h = absurd (cc)
unreached (element.Func fs false) h = absurd (cc)
unreached _ h = absurd (cc)

pub comes_at : (e : Element) → is_nothing (shape e) ≡ false → never_comes (kind_of e) ≡ false
comes_at e some = by (kind_of e) refl
  where
    by : (k : Kind) → kind_of e ≡ k → never_comes k ≡ false
    by kind.Never h = (let q : true ≡ false = sym (ap is_nothing (ap shape (unreached e h ∙ sym element.rolls-Unreached) ∙ layer_is Element-F.Unreached)) ∙ some in absurd (cc))
    by _ h = refl

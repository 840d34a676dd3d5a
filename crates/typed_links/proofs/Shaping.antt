-- What an element and its shape say of kinds and of truth.
use Rattle.std.proofs.Common.{◌≡◌, Bool, true, false, Option, Some, None, refl, sym, ap, ◌∙◌, subst}
use Rattle.ann_element.specs.declared.element.Element.{Element, fold-roll-Element, out-Element, roll-Element, roll-out-Element}
use Rattle.ann_element.specs.declared.element.Element.TheOpen.{Element-F}
use Rattle.ann_element.specs.declared.element.Element.TheVariants as element
use Rattle.ann_lattice.specs.Join.{is_clash}
use Rattle.ann_lattice.specs.Kind.{is_nothing}
use Rattle.ann_lattice.specs.Row.{truth_of}
use Rattle.ann_rules.specs.Rules.{goes}
use Rattle.ann_lattice.specs.Shape.{Shape, Nothing, NoneOnly, Truth, Num, Str, Tup, Lst, Dct, Inst, Fun, Clash, shape, shape_step}
use Rattle.rtyper_layout.specs.declared.kind.Kind.TheVariants as kind
use Rattle.ll_code.specs.declared.program.LlType.{LlType}
use Rattle.ll_code.specs.declared.program.LlType.TheVariants as type
use Rattle.rtyper_layout.specs.declared.layout.Layout.{Layout}
use Rattle.rtyper_layout.specs.Kinds.{kind_of, kind_seen}
use Rattle.rtyper_layout.specs.Types.{type_of, type_seen, type_step}
use Rattle.rtyper_program.specs.Links.{known_truth}

-- ---- what never comes

never_layer : (x : Element-F Element) → is_nothing (shape (roll-Element x)) ≡ true → kind_of (roll-Element x) ≡ kind.Never
never_layer Element-F.Unreached h = ap kind_of element.rolls-Unreached
never_layer Element-F.NoneOnly h = absurd (let q : false ≡ true = sym (ap is_nothing (fold-roll-Element Shape shape_step Element-F.NoneOnly)) ∙ h in cc)
never_layer Element-F.KnownTrue h = absurd (let q : false ≡ true = sym (ap is_nothing (fold-roll-Element Shape shape_step Element-F.KnownTrue)) ∙ h in cc)
never_layer Element-F.KnownFalse h = absurd (let q : false ≡ true = sym (ap is_nothing (fold-roll-Element Shape shape_step Element-F.KnownFalse)) ∙ h in cc)
never_layer Element-F.Bool h = absurd (let q : false ≡ true = sym (ap is_nothing (fold-roll-Element Shape shape_step Element-F.Bool)) ∙ h in cc)
never_layer Element-F.IntPos h = absurd (let q : false ≡ true = sym (ap is_nothing (fold-roll-Element Shape shape_step Element-F.IntPos)) ∙ h in cc)
never_layer Element-F.Int h = absurd (let q : false ≡ true = sym (ap is_nothing (fold-roll-Element Shape shape_step Element-F.Int)) ∙ h in cc)
never_layer Element-F.Char h = absurd (let q : false ≡ true = sym (ap is_nothing (fold-roll-Element Shape shape_step Element-F.Char)) ∙ h in cc)
never_layer Element-F.Str h = absurd (let q : false ≡ true = sym (ap is_nothing (fold-roll-Element Shape shape_step Element-F.Str)) ∙ h in cc)
never_layer Element-F.StrOrNone h = absurd (let q : false ≡ true = sym (ap is_nothing (fold-roll-Element Shape shape_step Element-F.StrOrNone)) ∙ h in cc)
never_layer (Element-F.Tuple parts) h = absurd (let q : false ≡ true = sym (ap is_nothing (fold-roll-Element Shape shape_step (Element-F.Tuple parts))) ∙ h in cc)
never_layer (Element-F.List s r) h = absurd (let q : false ≡ true = sym (ap is_nothing (fold-roll-Element Shape shape_step (Element-F.List s r))) ∙ h in cc)
never_layer (Element-F.Dict s r) h = absurd (let q : false ≡ true = sym (ap is_nothing (fold-roll-Element Shape shape_step (Element-F.Dict s r))) ∙ h in cc)
never_layer (Element-F.Instance c r) h = absurd (let q : false ≡ true = sym (ap is_nothing (fold-roll-Element Shape shape_step (Element-F.Instance c r))) ∙ h in cc)
never_layer (Element-F.Func fs r) h = absurd (let q : false ≡ true = sym (ap is_nothing (fold-roll-Element Shape shape_step (Element-F.Func fs r))) ∙ h in cc)
never_layer (Element-F.Conflict o p) h = absurd (let q : false ≡ true = sym (ap is_nothing (fold-roll-Element Shape shape_step (Element-F.Conflict o p))) ∙ h in cc)

pub never_there : (e : Element) → is_nothing (shape e) ≡ true → kind_of e ≡ kind.Never
never_there e = subst (λ e. is_nothing (shape e) ≡ true → kind_of e ≡ kind.Never) (roll-out-Element e) (never_layer (out-Element e))

type_layer : (layout : Layout) (x : Element-F Element) → kind_of (roll-Element x) ≡ kind.Never → type_of layout (roll-Element x) ≡ type.Void
type_layer layout Element-F.Unreached h = fold-roll-Element LlType (type_step layout) Element-F.Unreached
type_layer layout Element-F.NoneOnly h = absurd (let q : kind.Nothing ≡ kind.Never = sym (ap kind_of element.rolls-NoneOnly) ∙ h in cc)
type_layer layout Element-F.KnownTrue h = absurd (let q : kind.Flag ≡ kind.Never = sym (ap kind_of element.rolls-KnownTrue) ∙ h in cc)
type_layer layout Element-F.KnownFalse h = absurd (let q : kind.Flag ≡ kind.Never = sym (ap kind_of element.rolls-KnownFalse) ∙ h in cc)
type_layer layout Element-F.Bool h = absurd (let q : kind.Flag ≡ kind.Never = sym (ap kind_of element.rolls-Bool) ∙ h in cc)
type_layer layout Element-F.IntPos h = absurd (let q : kind.Word ≡ kind.Never = sym (ap kind_of element.rolls-IntPos) ∙ h in cc)
type_layer layout Element-F.Int h = absurd (let q : kind.Word ≡ kind.Never = sym (ap kind_of element.rolls-Int) ∙ h in cc)
type_layer layout Element-F.Char h = absurd (let q : kind.Byte ≡ kind.Never = sym (ap kind_of element.rolls-Char) ∙ h in cc)
type_layer layout Element-F.Str h = absurd (let q : kind.Text ≡ kind.Never = sym (ap kind_of element.rolls-Str) ∙ h in cc)
type_layer layout Element-F.StrOrNone h = absurd (let q : kind.MaybeText ≡ kind.Never = sym (ap kind_of element.rolls-StrOrNone) ∙ h in cc)
type_layer layout (Element-F.Tuple parts) h = absurd (let q : kind.Tuple ≡ kind.Never = sym (ap kind_of (element.rolls-Tuple parts)) ∙ h in cc)
type_layer layout (Element-F.List s true) h = absurd (let q : kind.MaybeList ≡ kind.Never = sym (ap kind_of (element.rolls-List s true)) ∙ h in cc)
type_layer layout (Element-F.List s false) h = absurd (let q : kind.List ≡ kind.Never = sym (ap kind_of (element.rolls-List s false)) ∙ h in cc)
type_layer layout (Element-F.Dict s true) h = absurd (let q : kind.MaybeDict ≡ kind.Never = sym (ap kind_of (element.rolls-Dict s true)) ∙ h in cc)
type_layer layout (Element-F.Dict s false) h = absurd (let q : kind.Dict ≡ kind.Never = sym (ap kind_of (element.rolls-Dict s false)) ∙ h in cc)
type_layer layout (Element-F.Instance c true) h = absurd (let q : kind.MaybeInstance ≡ kind.Never = sym (ap kind_of (element.rolls-Instance c true)) ∙ h in cc)
type_layer layout (Element-F.Instance c false) h = absurd (let q : kind.Instance ≡ kind.Never = sym (ap kind_of (element.rolls-Instance c false)) ∙ h in cc)
type_layer layout (Element-F.Func fs true) h = absurd (let q : kind.MaybeFunction ≡ kind.Never = sym (ap kind_of (element.rolls-Func fs true)) ∙ h in cc)
type_layer layout (Element-F.Func fs false) h = absurd (let q : kind.Function ≡ kind.Never = sym (ap kind_of (element.rolls-Func fs false)) ∙ h in cc)
type_layer layout (Element-F.Conflict o p) h = absurd (let q : kind.Other ≡ kind.Never = sym (ap kind_of (element.rolls-Conflict o p)) ∙ h in cc)

-- what never comes has no type
pub never_typed : (layout : Layout) (o : Option Element) → kind_seen o ≡ kind.Never → type_seen layout o ≡ type.Void
never_typed layout None h = refl
never_typed layout (Some e) h = subst (λ e. kind_of e ≡ kind.Never → type_of layout e ≡ type.Void) (roll-out-Element e) (type_layer layout (out-Element e)) h

-- ---- what is known of truth

abbrev pub truth_told : Shape → Option Bool
truth_told (Truth known) = known
truth_told other = None

known_layer : (x : Element-F Element) → known_truth (Some (roll-Element x)) ≡ truth_told (shape (roll-Element x))
known_layer Element-F.Unreached = ap (λ e. known_truth (Some e)) element.rolls-Unreached ∙ sym (ap truth_told (fold-roll-Element Shape shape_step Element-F.Unreached))
known_layer Element-F.NoneOnly = ap (λ e. known_truth (Some e)) element.rolls-NoneOnly ∙ sym (ap truth_told (fold-roll-Element Shape shape_step Element-F.NoneOnly))
known_layer Element-F.KnownTrue = ap (λ e. known_truth (Some e)) element.rolls-KnownTrue ∙ sym (ap truth_told (fold-roll-Element Shape shape_step Element-F.KnownTrue))
known_layer Element-F.KnownFalse = ap (λ e. known_truth (Some e)) element.rolls-KnownFalse ∙ sym (ap truth_told (fold-roll-Element Shape shape_step Element-F.KnownFalse))
known_layer Element-F.Bool = ap (λ e. known_truth (Some e)) element.rolls-Bool ∙ sym (ap truth_told (fold-roll-Element Shape shape_step Element-F.Bool))
known_layer Element-F.IntPos = ap (λ e. known_truth (Some e)) element.rolls-IntPos ∙ sym (ap truth_told (fold-roll-Element Shape shape_step Element-F.IntPos))
known_layer Element-F.Int = ap (λ e. known_truth (Some e)) element.rolls-Int ∙ sym (ap truth_told (fold-roll-Element Shape shape_step Element-F.Int))
known_layer Element-F.Char = ap (λ e. known_truth (Some e)) element.rolls-Char ∙ sym (ap truth_told (fold-roll-Element Shape shape_step Element-F.Char))
known_layer Element-F.Str = ap (λ e. known_truth (Some e)) element.rolls-Str ∙ sym (ap truth_told (fold-roll-Element Shape shape_step Element-F.Str))
known_layer Element-F.StrOrNone = ap (λ e. known_truth (Some e)) element.rolls-StrOrNone ∙ sym (ap truth_told (fold-roll-Element Shape shape_step Element-F.StrOrNone))
known_layer (Element-F.Tuple parts) = ap (λ e. known_truth (Some e)) (element.rolls-Tuple parts) ∙ sym (ap truth_told (fold-roll-Element Shape shape_step (Element-F.Tuple parts)))
known_layer (Element-F.List s r) = ap (λ e. known_truth (Some e)) (element.rolls-List s r) ∙ sym (ap truth_told (fold-roll-Element Shape shape_step (Element-F.List s r)))
known_layer (Element-F.Dict s r) = ap (λ e. known_truth (Some e)) (element.rolls-Dict s r) ∙ sym (ap truth_told (fold-roll-Element Shape shape_step (Element-F.Dict s r)))
known_layer (Element-F.Instance c r) = ap (λ e. known_truth (Some e)) (element.rolls-Instance c r) ∙ sym (ap truth_told (fold-roll-Element Shape shape_step (Element-F.Instance c r)))
known_layer (Element-F.Func fs r) = ap (λ e. known_truth (Some e)) (element.rolls-Func fs r) ∙ sym (ap truth_told (fold-roll-Element Shape shape_step (Element-F.Func fs r)))
known_layer (Element-F.Conflict o p) = ap (λ e. known_truth (Some e)) (element.rolls-Conflict o p) ∙ sym (ap truth_told (fold-roll-Element Shape shape_step (Element-F.Conflict o p)))

pub known_as : (e : Element) → known_truth (Some e) ≡ truth_told (shape e)
known_as e = subst (λ e. known_truth (Some e) ≡ truth_told (shape e)) (roll-out-Element e) (known_layer (out-Element e))

pub nothing_told : (x : Shape) → is_nothing x ≡ true → truth_told x ≡ None
nothing_told Nothing h = refl
nothing_told NoneOnly h = refl
nothing_told (Num n) h = refl
nothing_told (Str w) h = refl
nothing_told (Tup xs) h = refl
nothing_told (Lst s n) h = refl
nothing_told (Dct s n) h = refl
nothing_told (Inst c n) h = refl
nothing_told (Fun fs n) h = refl
nothing_told (Clash o p) h = refl
nothing_told (Truth known) h = absurd (cc)

pub told_shape : (x : Shape) (b : Bool) → truth_told x ≡ Some b → x ≡ Truth (Some b)
told_shape (Truth known) b h = ap Truth h
told_shape Nothing b h = absurd (cc)
told_shape NoneOnly b h = absurd (cc)
told_shape (Num n) b h = absurd (cc)
told_shape (Str w) b h = absurd (cc)
told_shape (Tup xs) b h = absurd (cc)
told_shape (Lst s n) b h = absurd (cc)
told_shape (Dct s n) b h = absurd (cc)
told_shape (Inst c n) b h = absurd (cc)
told_shape (Fun fs n) b h = absurd (cc)
told_shape (Clash o p) b h = absurd (cc)

-- a test of which nothing is known may go both ways
pub go_both : (x : Shape) → truth_told x ≡ None → is_nothing x ≡ false → (goes true x ≡ true) × (goes false x ≡ true)
go_both Nothing h k = absurd (cc)
go_both (Truth None) h k = (refl, refl)
go_both (Truth (Some b)) h k = absurd (cc)
go_both NoneOnly h k = (refl, refl)
go_both (Num n) h k = (refl, refl)
go_both (Str w) h k = (refl, refl)
go_both (Tup xs) h k = (refl, refl)
go_both (Lst s n) h k = (refl, refl)
go_both (Dct s n) h k = (refl, refl)
go_both (Inst c n) h k = (refl, refl)
go_both (Fun fs n) h k = (refl, refl)
go_both (Clash o p) h k = (refl, refl)

-- what has a truth is in no conflict
pub clash_told : (x : Shape) → is_clash (truth_of x) ≡ false → is_clash x ≡ false
clash_told Nothing h = refl
clash_told NoneOnly h = refl
clash_told (Truth known) h = refl
clash_told (Num n) h = refl
clash_told (Str w) h = refl
clash_told (Tup xs) h = refl
clash_told (Lst s n) h = refl
clash_told (Dct s n) h = refl
clash_told (Inst c n) h = refl
clash_told (Fun fs n) h = refl
clash_told (Clash o p) h = absurd (cc)

-- what never comes is in no conflict
pub nothing_free : (x : Shape) → is_nothing x ≡ true → is_clash x ≡ false
nothing_free Nothing h = refl
nothing_free NoneOnly h = absurd (cc)
nothing_free (Truth known) h = absurd (cc)
nothing_free (Num n) h = absurd (cc)
nothing_free (Str w) h = absurd (cc)
nothing_free (Tup xs) h = absurd (cc)
nothing_free (Lst s n) h = absurd (cc)
nothing_free (Dct s n) h = absurd (cc)
nothing_free (Inst c n) h = absurd (cc)
nothing_free (Fun fs n) h = absurd (cc)
nothing_free (Clash o p) h = absurd (cc)

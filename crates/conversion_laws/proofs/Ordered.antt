-- Values of an element are, once they are converted, values of each that is above it.
use Rattle.std.proofs.Common.{◌≡◌, ℕ, arith, Bool, true, false, List, [], ◌∷◌, Option, Some, refl, sym, ap, ◌∙◌, subst}
use Rattle.std.specs.Prelude.{◌==◌, ◌||◌}
use Rattle.std.proofs.lemmas.Bool.Decides.{nat_tests}
use Rattle.ann_element.specs.Sites.{leader, Same as OfOne}
use Rattle.ann_element.specs.declared.element.Element.{Element, fold-roll-Element, out-Element, roll-Element, roll-out-Element}
use Rattle.ann_element.specs.declared.element.Element.TheOpen.{Element-F}
use Rattle.ann_element.specs.declared.element.Element.TheVariants as element
use Rattle.ann_lattice.specs.Order as order
use Rattle.ann_lattice.specs.Order.{Below, Each, Among, Implies, Wider as IsWider, has}
use Rattle.ann_lattice.specs.Shape.{Width, One, Any, OrNone, Shape, Nothing, NoneOnly, Truth, Num, Str, Tup, Lst, Dct, Inst, Fun, Clash, Shapes, end, more, shape, shapes, shape_step}
use Rattle.ll_code.specs.declared.program.LlType.{LlType}
use Rattle.ll_code.specs.declared.program.LlType.TheVariants as type
use Rattle.rpy_tree.specs.declared.program.ClassInfo.{ClassInfo}
use Rattle.rtyper_layout.specs.declared.kind.Kind.{Kind}
use Rattle.rtyper_layout.specs.declared.kind.Kind.TheVariants as kind
use Rattle.rtyper_layout.specs.declared.classes.Laid.{Laid}
use Rattle.rtyper_layout.specs.declared.layout.Layout.{Layout}
use Rattle.rtyper_layout.specs.Kinds.{kind_of, of_list, of_dict, of_instance, of_function}
use Rattle.rtyper_layout.specs.Types.{type_of, type_step, laid_in, root_of}
use Rattle.rtyper_data.specs.Converting.{default_constant}
use Rattle.lower_laws.specs.Tuples.{Same, Wider}
use Rattle.lower_laws.specs.Values.{is_simple}
use Rattle.lower_laws.proofs.Typing.{place_of_texts}
use Rattle.object_laws.specs.Known.{Known}
use Rattle.object_laws.specs.Staying.{Plainly, AsList, AsMaybe, AsDict, AsMaybeDict, AsInstance, AsFunction, AreAmong}
use Rattle.object_laws.specs.Values.{is_one_of}
use Rattle.object_laws.proofs.Valued.{function_type, instance_type}
use Rattle.conversion_laws.specs.Going.{Goes, AllGo, IsTuple, takes_none, takes_text}
use Rattle.conversion_laws.specs.Going as goes
use Rattle.conversion_laws.specs.Ordered.{IsLaid, AllLaid, AreFamilies, ElementsGoUp, Nowhere, Simple, Listed, Mapped, Instanced, Called, Items, Next}

-- ---- elements by their kinds

list_shape : (s : ℕ) (r : Bool) → shape (element.List s r) ≡ Lst s r
list_shape s r = ap shape (sym (element.rolls-List s r)) ∙ fold-roll-Element Shape shape_step (Element-F.List s r)

dict_shape : (s : ℕ) (r : Bool) → shape (element.Dict s r) ≡ Dct s r
dict_shape s r = ap shape (sym (element.rolls-Dict s r)) ∙ fold-roll-Element Shape shape_step (Element-F.Dict s r)

instance_shape : (c : ℕ) (r : Bool) → shape (element.Instance c r) ≡ Inst c r
instance_shape c r = ap shape (sym (element.rolls-Instance c r)) ∙ fold-roll-Element Shape shape_step (Element-F.Instance c r)

function_shape : (fs : List ℕ) (r : Bool) → shape (element.Func fs r) ≡ Fun fs r
function_shape fs r = ap shape (sym (element.rolls-Func fs r)) ∙ fold-roll-Element Shape shape_step (Element-F.Func fs r)

tuple_shape : (parts : List Element) → shape (element.Tuple parts) ≡ Tup (shapes parts)
tuple_shape parts = ap shape (sym (element.rolls-Tuple parts)) ∙ fold-roll-Element Shape shape_step (Element-F.Tuple parts)

abbrev kind_in : Shape → Kind
kind_in Nothing = kind.Never
kind_in NoneOnly = kind.Nothing
kind_in (Truth b) = kind.Flag
kind_in (Num b) = kind.Word
kind_in (Str One) = kind.Byte
kind_in (Str Any) = kind.Text
kind_in (Str OrNone) = kind.MaybeText
kind_in (Tup xs) = kind.Tuple
kind_in (Lst s r) = of_list r
kind_in (Dct s r) = of_dict r
kind_in (Inst c r) = of_instance r
kind_in (Fun fs r) = of_function r
kind_in (Clash o p) = kind.Other

kind_layer : (x : Element-F Element) → kind_of (roll-Element x) ≡ kind_in (shape (roll-Element x))
kind_layer Element-F.Unreached = ap kind_of element.rolls-Unreached ∙ sym (ap kind_in (fold-roll-Element Shape shape_step Element-F.Unreached))
kind_layer Element-F.NoneOnly = ap kind_of element.rolls-NoneOnly ∙ sym (ap kind_in (fold-roll-Element Shape shape_step Element-F.NoneOnly))
kind_layer Element-F.KnownTrue = ap kind_of element.rolls-KnownTrue ∙ sym (ap kind_in (fold-roll-Element Shape shape_step Element-F.KnownTrue))
kind_layer Element-F.KnownFalse = ap kind_of element.rolls-KnownFalse ∙ sym (ap kind_in (fold-roll-Element Shape shape_step Element-F.KnownFalse))
kind_layer Element-F.Bool = ap kind_of element.rolls-Bool ∙ sym (ap kind_in (fold-roll-Element Shape shape_step Element-F.Bool))
kind_layer Element-F.IntPos = ap kind_of element.rolls-IntPos ∙ sym (ap kind_in (fold-roll-Element Shape shape_step Element-F.IntPos))
kind_layer Element-F.Int = ap kind_of element.rolls-Int ∙ sym (ap kind_in (fold-roll-Element Shape shape_step Element-F.Int))
kind_layer Element-F.Char = ap kind_of element.rolls-Char ∙ sym (ap kind_in (fold-roll-Element Shape shape_step Element-F.Char))
kind_layer Element-F.Str = ap kind_of element.rolls-Str ∙ sym (ap kind_in (fold-roll-Element Shape shape_step Element-F.Str))
kind_layer Element-F.StrOrNone = ap kind_of element.rolls-StrOrNone ∙ sym (ap kind_in (fold-roll-Element Shape shape_step Element-F.StrOrNone))
kind_layer (Element-F.Tuple parts) = ap kind_of (element.rolls-Tuple parts) ∙ sym (ap kind_in (fold-roll-Element Shape shape_step (Element-F.Tuple parts)))
kind_layer (Element-F.List s r) = ap kind_of (element.rolls-List s r) ∙ sym (ap kind_in (fold-roll-Element Shape shape_step (Element-F.List s r)))
kind_layer (Element-F.Dict s r) = ap kind_of (element.rolls-Dict s r) ∙ sym (ap kind_in (fold-roll-Element Shape shape_step (Element-F.Dict s r)))
kind_layer (Element-F.Instance c r) = ap kind_of (element.rolls-Instance c r) ∙ sym (ap kind_in (fold-roll-Element Shape shape_step (Element-F.Instance c r)))
kind_layer (Element-F.Func fs r) = ap kind_of (element.rolls-Func fs r) ∙ sym (ap kind_in (fold-roll-Element Shape shape_step (Element-F.Func fs r)))
kind_layer (Element-F.Conflict o p) = ap kind_of (element.rolls-Conflict o p) ∙ sym (ap kind_in (fold-roll-Element Shape shape_step (Element-F.Conflict o p)))

kind_is : (e : Element) → kind_of e ≡ kind_in (shape e)
kind_is e = subst (λ e. kind_of e ≡ kind_in (shape e)) (roll-out-Element e) (kind_layer (out-Element e))

kind_at : (e : Element) (s : Shape) → shape e ≡ s → kind_of e ≡ kind_in s
kind_at e s h = kind_is e ∙ ap kind_in h

-- neither simple nor never there
abbrev is_of_struct : Kind → Bool
is_of_struct kind.Never = false
is_of_struct kind.Word = false
is_of_struct kind.Flag = false
is_of_struct kind.Byte = false
is_of_struct kind.Text = false
is_of_struct kind.MaybeText = false
is_of_struct kind.Nothing = false
is_of_struct _ = true

simple_apart : (k : Kind) → is_of_struct k ≡ true → is_simple k ≡ true → ⊥
simple_apart kind.Word h s = absurd (cc)
simple_apart kind.Flag h s = absurd (cc)
simple_apart kind.Byte h s = absurd (cc)
simple_apart kind.Text h s = absurd (cc)
simple_apart kind.MaybeText h s = absurd (cc)
simple_apart kind.Nothing h s = absurd (cc)
simple_apart _ h s = absurd (cc)

module _ (e : Element) (s : Shape) (h : shape e ≡ s) (of : is_of_struct (kind_in s) ≡ true) where
  no_simple : is_simple (kind_of e) ≡ true → ⊥
  no_simple simple = simple_apart (kind_in s) of (ap is_simple (sym (kind_at e s h)) ∙ simple)

  no_never : kind_of e ≡ kind.Never → ⊥
  no_never k = (let q : false ≡ true = ap is_of_struct (sym k ∙ kind_at e s h) ∙ of in absurd (cc))

of_lists : (s : ℕ) (r : Bool) → is_of_struct (kind_in (Lst s r)) ≡ true
of_lists s true = refl
of_lists s false = refl

of_dicts : (s : ℕ) (r : Bool) → is_of_struct (kind_in (Dct s r)) ≡ true
of_dicts s true = refl
of_dicts s false = refl

of_instances : (s : ℕ) (r : Bool) → is_of_struct (kind_in (Inst s r)) ≡ true
of_instances s true = refl
of_instances s false = refl

of_functions : (fs : List ℕ) (r : Bool) → is_of_struct (kind_in (Fun fs r)) ≡ true
of_functions fs true = refl
of_functions fs false = refl

-- ---- what is laid out

abbrev site_in : Shape → ℕ
site_in (Lst s r) = s
site_in (Dct s r) = s
site_in (Inst c r) = c
site_in _ = 0

abbrev flag_in : Shape → Bool
flag_in (Lst s r) = r
flag_in (Dct s r) = r
flag_in (Inst c r) = r
flag_in (Fun fs r) = r
flag_in _ = false

abbrev functions_in : Shape → List ℕ
functions_in (Fun fs r) = fs
functions_in _ = []

abbrev items_in : Shape → Shapes
items_in (Tup xs) = xs
items_in _ = end

abbrev first_in : Shapes → Shape
first_in end = Nothing
first_in (more x xs) = x

abbrev others_in : Shapes → Shapes
others_in end = end
others_in (more x xs) = xs

module _ (layout : Layout) (same : List ℕ) where
  record OfSite (make : ℕ → Bool → Element) (e : Element) (s : ℕ) (r : Bool) : Type 0 where
    n : ℕ
    is : e ≡ make s r
    led : leader same s ≡ s
    typed : type_of layout (make s r) ≡ type.Ptr n

  site_of : (make : ℕ → Bool → Element) (n site s : ℕ) (q r : Bool) → site ≡ s → q ≡ r → leader same site ≡ site → type_of layout (make site q) ≡ type.Ptr n → OfSite make (make site q) s r
  site_of make n site s q r a b led typed = record {
    n = n;
    is = ap (λ s. make s q) a ∙ ap (make s) b;
    led = subst (λ s. leader same s ≡ s) a led;
    typed = subst (λ s. type_of layout (make s r) ≡ type.Ptr n) a (subst (λ r. type_of layout (make site r) ≡ type.Ptr n) b typed);
  }

  list_laid : {e : Element} (s : ℕ) (r : Bool) → IsLaid layout same e → shape e ≡ Lst s r → OfSite element.List e s r
  list_laid {e = e} s r (Nowhere k) h = absurd (no_never e (Lst s r) h (of_lists s r) k)
  list_laid {e = e} s r (Simple k) h = absurd (no_simple e (Lst s r) h (of_lists s r) k)
  list_laid s r (Listed n site q led typed) h = (let k : Lst site q ≡ Lst s r = sym (list_shape site q) ∙ h in site_of element.List n site s q r (ap site_in k) (ap flag_in k) led typed)
  list_laid s r (Mapped n site q led typed) h = (let k : Dct site q ≡ Lst s r = sym (dict_shape site q) ∙ h in absurd (cc))
  list_laid s r (Instanced c q l at) h = (let k : Inst c q ≡ Lst s r = sym (instance_shape c q) ∙ h in absurd (cc))
  list_laid s r (Called fs q) h = (let k : Fun fs q ≡ Lst s r = sym (function_shape fs q) ∙ h in absurd (cc))
  list_laid s r (Items n parts of all) h = (let k : Tup (shapes parts) ≡ Lst s r = sym (tuple_shape parts) ∙ h in absurd (cc))

  dict_laid : {e : Element} (s : ℕ) (r : Bool) → IsLaid layout same e → shape e ≡ Dct s r → OfSite element.Dict e s r
  dict_laid {e = e} s r (Nowhere k) h = absurd (no_never e (Dct s r) h (of_dicts s r) k)
  dict_laid {e = e} s r (Simple k) h = absurd (no_simple e (Dct s r) h (of_dicts s r) k)
  dict_laid s r (Mapped n site q led typed) h = (let k : Dct site q ≡ Dct s r = sym (dict_shape site q) ∙ h in site_of element.Dict n site s q r (ap site_in k) (ap flag_in k) led typed)
  dict_laid s r (Listed n site q led typed) h = (let k : Lst site q ≡ Dct s r = sym (list_shape site q) ∙ h in absurd (cc))
  dict_laid s r (Instanced c q l at) h = (let k : Inst c q ≡ Dct s r = sym (instance_shape c q) ∙ h in absurd (cc))
  dict_laid s r (Called fs q) h = (let k : Fun fs q ≡ Dct s r = sym (function_shape fs q) ∙ h in absurd (cc))
  dict_laid s r (Items n parts of all) h = (let k : Tup (shapes parts) ≡ Dct s r = sym (tuple_shape parts) ∙ h in absurd (cc))

  record OfClass (e : Element) (c : ℕ) (r : Bool) : Type 0 where
    laid : Laid
    is : e ≡ element.Instance c r
    at : laid_in layout.classes c ≡ Some laid

  class_laid : {e : Element} (c : ℕ) (r : Bool) → IsLaid layout same e → shape e ≡ Inst c r → OfClass e c r
  class_laid {e = e} c r (Nowhere k) h = absurd (no_never e (Inst c r) h (of_instances c r) k)
  class_laid {e = e} c r (Simple k) h = absurd (no_simple e (Inst c r) h (of_instances c r) k)
  class_laid c r (Instanced d q l at) h =
      let k : Inst d q ≡ Inst c r = sym (instance_shape d q) ∙ h in
      record { laid = l; is = ap (λ c. element.Instance c q) (ap site_in k) ∙ ap (element.Instance c) (ap flag_in k); at = subst (λ c. laid_in layout.classes c ≡ Some l) (ap site_in k) at }
  class_laid c r (Mapped n site q led typed) h = (let k : Dct site q ≡ Inst c r = sym (dict_shape site q) ∙ h in absurd (cc))
  class_laid c r (Listed n site q led typed) h = (let k : Lst site q ≡ Inst c r = sym (list_shape site q) ∙ h in absurd (cc))
  class_laid c r (Called fs q) h = (let k : Fun fs q ≡ Inst c r = sym (function_shape fs q) ∙ h in absurd (cc))
  class_laid c r (Items n parts of all) h = (let k : Tup (shapes parts) ≡ Inst c r = sym (tuple_shape parts) ∙ h in absurd (cc))

  function_laid : {e : Element} (fs : List ℕ) (r : Bool) → IsLaid layout same e → shape e ≡ Fun fs r → e ≡ element.Func fs r
  function_laid {e = e} fs r (Nowhere k) h = absurd (no_never e (Fun fs r) h (of_functions fs r) k)
  function_laid {e = e} fs r (Simple k) h = absurd (no_simple e (Fun fs r) h (of_functions fs r) k)
  function_laid fs r (Called gs q) h = (let k : Fun gs q ≡ Fun fs r = sym (function_shape gs q) ∙ h in ap (λ fs. element.Func fs q) (ap functions_in k) ∙ ap (element.Func fs) (ap flag_in k))
  function_laid fs r (Instanced d q l at) h = (let k : Inst d q ≡ Fun fs r = sym (instance_shape d q) ∙ h in absurd (cc))
  function_laid fs r (Mapped n site q led typed) h = (let k : Dct site q ≡ Fun fs r = sym (dict_shape site q) ∙ h in absurd (cc))
  function_laid fs r (Listed n site q led typed) h = (let k : Lst site q ≡ Fun fs r = sym (list_shape site q) ∙ h in absurd (cc))
  function_laid fs r (Items n parts of all) h = (let k : Tup (shapes parts) ≡ Fun fs r = sym (tuple_shape parts) ∙ h in absurd (cc))

  record OfTuple (e : Element) (xs : Shapes) : Type 0 where
    n : ℕ
    parts : List Element
    is : e ≡ element.Tuple parts
    of : IsTuple layout (Some e) n parts
    all : AllLaid layout same parts
    shaped : shapes parts ≡ xs

  tuple_laid : {e : Element} (xs : Shapes) → IsLaid layout same e → shape e ≡ Tup xs → OfTuple e xs
  tuple_laid {e = e} xs (Nowhere k) h = absurd (no_never e (Tup xs) h refl k)
  tuple_laid {e = e} xs (Simple k) h = absurd (no_simple e (Tup xs) h refl k)
  tuple_laid xs (Items n parts of all) h = (let k : Tup (shapes parts) ≡ Tup xs = sym (tuple_shape parts) ∙ h in record { n = n; parts = parts; is = refl; of = of; all = all; shaped = ap items_in k })
  tuple_laid xs (Called fs q) h = (let k : Fun fs q ≡ Tup xs = sym (function_shape fs q) ∙ h in absurd (cc))
  tuple_laid xs (Instanced d q l at) h = (let k : Inst d q ≡ Tup xs = sym (instance_shape d q) ∙ h in absurd (cc))
  tuple_laid xs (Mapped n site q led typed) h = (let k : Dct site q ≡ Tup xs = sym (dict_shape site q) ∙ h in absurd (cc))
  tuple_laid xs (Listed n site q led typed) h = (let k : Lst site q ≡ Tup xs = sym (list_shape site q) ∙ h in absurd (cc))

  no_clash : {e : Element} (o p : Option ℕ) → IsLaid layout same e → shape e ≡ Clash o p → ⊥
  no_clash {e = e} o p (Nowhere k) h = no_never e (Clash o p) h refl k
  no_clash {e = e} o p (Simple k) h = no_simple e (Clash o p) h refl k
  no_clash o p (Items n parts of all) h = (let k : Tup (shapes parts) ≡ Clash o p = sym (tuple_shape parts) ∙ h in absurd (cc))
  no_clash o p (Called fs q) h = (let k : Fun fs q ≡ Clash o p = sym (function_shape fs q) ∙ h in absurd (cc))
  no_clash o p (Instanced d q l at) h = (let k : Inst d q ≡ Clash o p = sym (instance_shape d q) ∙ h in absurd (cc))
  no_clash o p (Mapped n site q led typed) h = (let k : Dct site q ≡ Clash o p = sym (dict_shape site q) ∙ h in absurd (cc))
  no_clash o p (Listed n site q led typed) h = (let k : Lst site q ≡ Clash o p = sym (list_shape site q) ∙ h in absurd (cc))

-- ---- each kind

implied : (r q : Bool) → Implies r q → r ≡ true → q ≡ true
implied true true h e = refl
implied true false h e = absurd h
implied false q h e = absurd (cc)

among : (fs gs : List ℕ) → Among fs gs → AreAmong fs gs
among [] gs h f is = absurd (cc)
among (g ∷ fs) gs h f is = by (λ is. among fs gs h.1 f is) (g == f) refl
  where
    by : (is_one_of fs f ≡ true → is_one_of gs f ≡ true) → (c : Bool) → (g == f) ≡ c → is_one_of gs f ≡ true
    by rest true e = (let q : g ≡ f = grind (arith, nat_tests, e) in subst (λ f. is_one_of gs f ≡ true) q h.0)
    by rest false e = rest (ap (λ c. c || is_one_of fs f) (sym e) ∙ is)

one_site : (same : List ℕ) (s u : ℕ) → leader same s ≡ s → leader same u ≡ u → OfOne same s u → s ≡ u
one_site same s u a b h = sym a ∙ h ∙ b

module _ (layout : Layout) where
  list_type : (s : ℕ) (r q : Bool) → type_of layout (element.List s r) ≡ type_of layout (element.List s q)
  list_type s r q =
      ap (type_of layout) (sym (element.rolls-List s r)) ∙ fold-roll-Element LlType (type_step layout) (Element-F.List s r)
      ∙ sym (ap (type_of layout) (sym (element.rolls-List s q)) ∙ fold-roll-Element LlType (type_step layout) (Element-F.List s q))

  pub dict_type : (s : ℕ) (r q : Bool) → type_of layout (element.Dict s r) ≡ type_of layout (element.Dict s q)
  dict_type s r q =
      ap (type_of layout) (sym (element.rolls-Dict s r)) ∙ fold-roll-Element LlType (type_step layout) (Element-F.Dict s r)
      ∙ sym (ap (type_of layout) (sym (element.rolls-Dict s q)) ∙ fold-roll-Element LlType (type_step layout) (Element-F.Dict s q))

  class_type : {e : Element} (c : ℕ) (r : Bool) (l : Laid) → e ≡ element.Instance c r → laid_in layout.classes c ≡ Some l → type_of layout e ≡ type.Ptr l.root
  class_type c r l is at = ap (type_of layout) is ∙ instance_type layout c r ∙ ap root_of at

module _ {layout : Layout} {known : Known} where
  -- one kind
  same_kind : {a b : Element} (k : Kind) → is_simple k ≡ true → kind_of a ≡ k → kind_of b ≡ k → Goes layout known (Some a) (Some b)
  same_kind k simple h g = goes.Staying (Plainly (Same k simple h g))

  strings_go : {a b : Element} (v w : Width) → IsWider v w → kind_of a ≡ kind_in (Str v) → kind_of b ≡ kind_in (Str w) → Goes layout known (Some a) (Some b)
  strings_go One One wider h g = same_kind kind.Byte refl h g
  strings_go One Any wider h g = goes.Texted h (ap takes_text g)
  strings_go One OrNone wider h g = goes.Texted h (ap takes_text g)
  strings_go Any One wider h g = absurd wider
  strings_go Any Any wider h g = same_kind kind.Text refl h g
  strings_go Any OrNone wider h g = goes.Staying (Plainly (Wider h g))
  strings_go OrNone One wider h g = absurd wider
  strings_go OrNone Any wider h g = absurd wider
  strings_go OrNone OrNone wider h g = same_kind kind.MaybeText refl h g

  -- `None` is what is missing
  none_goes : {a b : Element} (n : ℕ) → kind_of a ≡ kind.Nothing → takes_none (kind_of b) ≡ true → type_of layout b ≡ type.Ptr n → Goes layout known (Some a) (Some b)
  none_goes n h t typed = goes.Missing h t (ap default_constant typed)

  lists_go : (n s : ℕ) (r q : Bool) → Implies r q → type_of layout (element.List s q) ≡ type.Ptr n → Goes layout known (Some (element.List s r)) (Some (element.List s q))
  lists_go n s true true h t = goes.Staying (AsMaybe n t t refl refl)
  lists_go n s true false h t = absurd h
  lists_go n s false true h t = goes.Staying (AsList n (list_type layout s false true ∙ t) t refl refl)
  lists_go n s false false h t = goes.Staying (AsList n t t refl refl)

  dicts_go : (n s : ℕ) (r q : Bool) → Implies r q → type_of layout (element.Dict s q) ≡ type.Ptr n → Goes layout known (Some (element.Dict s r)) (Some (element.Dict s q))
  dicts_go n s true true h t = goes.Staying (AsMaybeDict n t t refl refl)
  dicts_go n s true false h t = absurd h
  dicts_go n s false true h t = goes.Staying (AsDict n (dict_type layout s false true ∙ t) t refl refl)
  dicts_go n s false false h t = goes.Staying (AsDict n t t refl refl)

-- ---- the order

module _ (classes : List ClassInfo) (same : List ℕ) (layout : Layout) (known : Known) (families : AreFamilies classes layout known) where
  mutual
    goes_up : (a b : Element) (x y : Shape) → IsLaid layout same a → IsLaid layout same b → shape a ≡ x → shape b ≡ y → Below classes same x y → Goes layout known (Some a) (Some b)
    goes_up a b x y la lb h g (order.least z) = goes.Never (kind_at a Nothing h)
    goes_up a b x y la lb h g order.none = same_kind kind.Nothing refl (kind_at a NoneOnly h) (kind_at b NoneOnly g)
    goes_up a b x y la lb h g order.none_str = none_goes 0 (kind_at a NoneOnly h) (ap takes_none (kind_at b (Str OrNone) g)) (place_of_texts layout (Some b) (kind_at b (Str OrNone) g))
    goes_up a b x y la lb h g (order.none_list s) = (let l = list_laid layout same s true lb g in none_goes l.n (kind_at a NoneOnly h) (ap takes_none (kind_at b (Lst s true) g)) (ap (type_of layout) l.is ∙ l.typed))
    goes_up a b x y la lb h g (order.none_dict s) = (let l = dict_laid layout same s true lb g in none_goes l.n (kind_at a NoneOnly h) (ap takes_none (kind_at b (Dct s true) g)) (ap (type_of layout) l.is ∙ l.typed))
    goes_up a b x y la lb h g (order.none_inst c) = (let l = class_laid layout same c true lb g in none_goes l.laid.root (kind_at a NoneOnly h) (ap takes_none (kind_at b (Inst c true) g)) (class_type layout c true l.laid l.is l.at))
    goes_up a b x y la lb h g (order.none_fun fs) =
        (let is = function_laid layout same fs true lb g in goes.Missing (kind_at a NoneOnly h) (ap takes_none (kind_at b (Fun fs true) g)) (ap default_constant (ap (type_of layout) is ∙ function_type layout fs true)))
    goes_up a b x y la lb h g (order.truth p q less) = same_kind kind.Flag refl (kind_at a (Truth p) h) (kind_at b (Truth q) g)
    goes_up a b x y la lb h g (order.num p q less) = same_kind kind.Word refl (kind_at a (Num p) h) (kind_at b (Num q) g)
    goes_up a b x y la lb h g (order.str v w wider) = strings_go v w wider (kind_at a (Str v) h) (kind_at b (Str w) g)
    goes_up a b x y la lb h g (order.tuple xs ys each) =
        let l = tuple_laid layout same xs la h in
        let m = tuple_laid layout same ys lb g in
        goes.Items l.n m.n l.parts m.parts l.of m.of (all_go_up l.parts m.parts xs ys l.all m.all l.shaped m.shaped each)
    goes_up a b x y la lb h g (order.list s u r q one less) =
        let l = list_laid layout same s r la h in
        let m = list_laid layout same u q lb g in
        let e : s ≡ u = one_site same s u l.led m.led one in
        let it : Goes layout known (Some (element.List u r)) (Some (element.List u q)) = lists_go m.n u r q less m.typed in
        subst (λ b. Goes layout known (Some a) (Some b)) (sym m.is) (subst (λ a. Goes layout known (Some a) (Some (element.List u q))) (sym (l.is ∙ ap (λ s. element.List s r) e)) it)
    goes_up a b x y la lb h g (order.dict s u r q one less) =
        let l = dict_laid layout same s r la h in
        let m = dict_laid layout same u q lb g in
        let e : s ≡ u = one_site same s u l.led m.led one in
        let it : Goes layout known (Some (element.Dict u r)) (Some (element.Dict u q)) = dicts_go m.n u r q less m.typed in
        subst (λ b. Goes layout known (Some a) (Some b)) (sym m.is) (subst (λ a. Goes layout known (Some a) (Some (element.Dict u q))) (sym (l.is ∙ ap (λ s. element.Dict s r) e)) it)
    goes_up a b x y la lb h g (order.inst c d r q sub less) =
        let l = class_laid layout same c r la h in
        let m = class_laid layout same d q lb g in
        let e : l.laid.root ≡ m.laid.root = families.root c d l.laid m.laid sub l.at m.at in
        goes.Staying (AsInstance m.laid.root c d r q (class_type layout c r l.laid l.is l.at ∙ ap type.Ptr e) (class_type layout d q m.laid m.is m.at) (ap Some l.is) (ap Some m.is) (implied r q less) (families.within c d sub))
    goes_up a b x y la lb h g (order.fun fs gs r q some less) = goes.Staying (AsFunction fs gs r q (ap Some (function_laid layout same fs r la h)) (ap Some (function_laid layout same gs q lb g)) (implied r q less) (among fs gs some))
    goes_up a b x y la lb h g (order.clash z o p lists dicts) = absurd (no_clash layout same o p lb g)

    all_go_up : (parts others : List Element) (xs ys : Shapes) → AllLaid layout same parts → AllLaid layout same others → shapes parts ≡ xs → shapes others ≡ ys → Each classes same xs ys → AllGo layout known parts others
    all_go_up [] [] xs ys la lb h g order.no_more = goes.End
    all_go_up [] (b ∷ others) xs ys la lb h g order.no_more = absurd (cc)
    all_go_up (a ∷ parts) others xs ys la lb h g order.no_more = absurd (cc)
    all_go_up [] others xs ys la lb h g (order.and_more x y xs2 ys2 below each) = absurd (cc)
    all_go_up (a ∷ parts) [] xs ys la lb h g (order.and_more x y xs2 ys2 below each) = absurd (cc)
    all_go_up (a ∷ parts) (b ∷ others) xs ys (Next la las) (Next lb lbs) h g (order.and_more x y xs2 ys2 below each) =
        goes.Next (goes_up a b x y la lb (ap first_in h) (ap first_in g) below) (all_go_up parts others xs2 ys2 las lbs (ap others_in h) (ap others_in g) each)

pub elements_go_up : ElementsGoUp
elements_go_up classes same layout known a b families la lb below = goes_up classes same layout known families a b (shape a) (shape b) la lb refl refl below

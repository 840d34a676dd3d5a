-- Elements that have their structs, by their shapes.
use Rattle.std.proofs.Common.{◌≡◌, ℕ, Bool, true, false, List, [], Some, refl, sym, ap, ◌∙◌, subst}
use Rattle.ann_element.specs.Sites.{leader}
use Rattle.ann_element.specs.declared.element.Element.{Element, fold-roll-Element}
use Rattle.ann_element.specs.declared.element.Element.TheOpen.{Element-F}
use Rattle.ann_element.specs.declared.element.Element.TheVariants as element
use Rattle.ann_lattice.specs.Shape.{Any, Shape, Str, Tup, Lst, Dct, Inst, Fun, shape, shapes, shape_step}
use Rattle.ll_code.specs.declared.program.LlType.{LlType}
use Rattle.ll_code.specs.declared.program.LlType.TheVariants as type
use Rattle.rtyper_layout.specs.declared.kind.Kind.{Kind}
use Rattle.rtyper_layout.specs.declared.kind.Kind.TheVariants as kind
use Rattle.rtyper_layout.specs.declared.classes.Laid.{Laid}
use Rattle.rtyper_layout.specs.declared.layout.Layout.{Layout}
use Rattle.rtyper_layout.specs.Kinds.{kind_of}
use Rattle.rtyper_layout.specs.Types.{laid_in, pointer_to, site_from, type_of, type_step}
use Rattle.lower_laws.specs.Values.{is_simple}
use Rattle.conversion_laws.specs.Ordered.{IsLaid, Nowhere, Simple, Listed, Mapped, Instanced, Called, Items}
use Rattle.value_rows.proofs.Shaped.{kind_at, kind_in}

pub list_shape : (s : ℕ) (r : Bool) → shape (element.List s r) ≡ Lst s r
list_shape s r = ap shape (sym (element.rolls-List s r)) ∙ fold-roll-Element Shape shape_step (Element-F.List s r)

pub dict_shape : (s : ℕ) (r : Bool) → shape (element.Dict s r) ≡ Dct s r
dict_shape s r = ap shape (sym (element.rolls-Dict s r)) ∙ fold-roll-Element Shape shape_step (Element-F.Dict s r)

pub instance_shape : (c : ℕ) (r : Bool) → shape (element.Instance c r) ≡ Inst c r
instance_shape c r = ap shape (sym (element.rolls-Instance c r)) ∙ fold-roll-Element Shape shape_step (Element-F.Instance c r)

pub function_shape : (fs : List ℕ) (r : Bool) → shape (element.Func fs r) ≡ Fun fs r
function_shape fs r = ap shape (sym (element.rolls-Func fs r)) ∙ fold-roll-Element Shape shape_step (Element-F.Func fs r)

-- whether one may be `None` does not change its type
list_type : (l : Layout) (site : ℕ) (r : Bool) → type_of l (element.List site r) ≡ pointer_to l.first_list 2 (site_from 0 l.lists site)
list_type l site r = ap (type_of l) (sym (element.rolls-List site r)) ∙ fold-roll-Element LlType (type_step l) (Element-F.List site r)

dict_type : (l : Layout) (site : ℕ) (r : Bool) → type_of l (element.Dict site r) ≡ pointer_to l.first_dict 3 (site_from 0 l.dicts site)
dict_type l site r = ap (type_of l) (sym (element.rolls-Dict site r)) ∙ fold-roll-Element LlType (type_step l) (Element-F.Dict site r)

pub lists_alike : (l : Layout) (site : ℕ) (r q : Bool) → type_of l (element.List site r) ≡ type_of l (element.List site q)
lists_alike l site r q = list_type l site r ∙ sym (list_type l site q)

pub dicts_alike : (l : Layout) (site : ℕ) (r q : Bool) → type_of l (element.Dict site r) ≡ type_of l (element.Dict site q)
dicts_alike l site r q = dict_type l site r ∙ sym (dict_type l site q)

pub string_shape : shape element.Str ≡ Str Any
string_shape = ap shape (sym element.rolls-Str) ∙ fold-roll-Element Shape shape_step Element-F.Str

tuple_shape : (parts : List Element) → shape (element.Tuple parts) ≡ Tup (shapes parts)
tuple_shape parts = ap shape (sym (element.rolls-Tuple parts)) ∙ fold-roll-Element Shape shape_step (Element-F.Tuple parts)

-- neither simple nor never there
abbrev is_of_struct : Kind → Bool
is_of_struct kind.Never = false
is_of_struct kind.Word = false
is_of_struct kind.Flag = false
is_of_struct kind.Byte = false
is_of_struct kind.Text = false
is_of_struct kind.MaybeText = false
is_of_struct kind.Nothing = false
is_of_struct _ = true

simple_apart : (k : Kind) → is_of_struct k ≡ true → is_simple k ≡ true → ⊥
simple_apart kind.Word h s = absurd (cc)
simple_apart kind.Flag h s = absurd (cc)
simple_apart kind.Byte h s = absurd (cc)
simple_apart kind.Text h s = absurd (cc)
simple_apart kind.MaybeText h s = absurd (cc)
simple_apart kind.Nothing h s = absurd (cc)
simple_apart _ h s = absurd (cc)

module _ (e : Element) (s : Shape) (h : shape e ≡ s) (of : is_of_struct (kind_in s) ≡ true) where
  no_simple : is_simple (kind_of e) ≡ true → ⊥
  no_simple simple = simple_apart (kind_in s) of (ap is_simple (sym (kind_at e s h)) ∙ simple)

  no_never : kind_of e ≡ kind.Never → ⊥
  no_never k = (let q : false ≡ true = ap is_of_struct (sym k ∙ kind_at e s h) ∙ of in absurd (cc))

of_lists : (s : ℕ) (r : Bool) → is_of_struct (kind_in (Lst s r)) ≡ true
of_lists s true = refl
of_lists s false = refl

of_dicts : (s : ℕ) (r : Bool) → is_of_struct (kind_in (Dct s r)) ≡ true
of_dicts s true = refl
of_dicts s false = refl

of_instances : (s : ℕ) (r : Bool) → is_of_struct (kind_in (Inst s r)) ≡ true
of_instances s true = refl
of_instances s false = refl

of_functions : (fs : List ℕ) (r : Bool) → is_of_struct (kind_in (Fun fs r)) ≡ true
of_functions fs true = refl
of_functions fs false = refl

-- ---- what is laid out

abbrev site_in : Shape → ℕ
site_in (Lst s r) = s
site_in (Dct s r) = s
site_in (Inst c r) = c
site_in _ = 0

abbrev flag_in : Shape → Bool
flag_in (Lst s r) = r
flag_in (Dct s r) = r
flag_in (Inst c r) = r
flag_in (Fun fs r) = r
flag_in _ = false

abbrev functions_in : Shape → List ℕ
functions_in (Fun fs r) = fs
functions_in _ = []

module _ (layout : Layout) (same : List ℕ) where
  pub record OfSite (make : ℕ → Bool → Element) (e : Element) (s : ℕ) (r : Bool) : Type 0 where
    pub n : ℕ
    pub is : e ≡ make s r
    pub led : leader same s ≡ s
    pub typed : type_of layout (make s r) ≡ type.Ptr n

  site_of : (make : ℕ → Bool → Element) (n site s : ℕ) (q r : Bool) → site ≡ s → q ≡ r → leader same site ≡ site → type_of layout (make site q) ≡ type.Ptr n → OfSite make (make site q) s r
  site_of make n site s q r a b led typed = record {
    n = n;
    is = ap (λ s. make s q) a ∙ ap (make s) b;
    led = subst (λ s. leader same s ≡ s) a led;
    typed = subst (λ s. type_of layout (make s r) ≡ type.Ptr n) a (subst (λ r. type_of layout (make site r) ≡ type.Ptr n) b typed);
  }

  pub list_laid : {e : Element} (s : ℕ) (r : Bool) → IsLaid layout same e → shape e ≡ Lst s r → OfSite element.List e s r
  list_laid {e = e} s r (Nowhere k) h = absurd (no_never e (Lst s r) h (of_lists s r) k)
  list_laid {e = e} s r (Simple k) h = absurd (no_simple e (Lst s r) h (of_lists s r) k)
  list_laid s r (Listed n site q led typed) h = (let k : Lst site q ≡ Lst s r = sym (list_shape site q) ∙ h in site_of element.List n site s q r (ap site_in k) (ap flag_in k) led typed)
  list_laid s r (Mapped n site q led typed) h = (let k : Dct site q ≡ Lst s r = sym (dict_shape site q) ∙ h in absurd (cc))
  list_laid s r (Instanced c q l at) h = (let k : Inst c q ≡ Lst s r = sym (instance_shape c q) ∙ h in absurd (cc))
  list_laid s r (Called fs q) h = (let k : Fun fs q ≡ Lst s r = sym (function_shape fs q) ∙ h in absurd (cc))
  list_laid s r (Items n parts of all) h = (let k : Tup (shapes parts) ≡ Lst s r = sym (tuple_shape parts) ∙ h in absurd (cc))

  pub dict_laid : {e : Element} (s : ℕ) (r : Bool) → IsLaid layout same e → shape e ≡ Dct s r → OfSite element.Dict e s r
  dict_laid {e = e} s r (Nowhere k) h = absurd (no_never e (Dct s r) h (of_dicts s r) k)
  dict_laid {e = e} s r (Simple k) h = absurd (no_simple e (Dct s r) h (of_dicts s r) k)
  dict_laid s r (Mapped n site q led typed) h = (let k : Dct site q ≡ Dct s r = sym (dict_shape site q) ∙ h in site_of element.Dict n site s q r (ap site_in k) (ap flag_in k) led typed)
  dict_laid s r (Listed n site q led typed) h = (let k : Lst site q ≡ Dct s r = sym (list_shape site q) ∙ h in absurd (cc))
  dict_laid s r (Instanced c q l at) h = (let k : Inst c q ≡ Dct s r = sym (instance_shape c q) ∙ h in absurd (cc))
  dict_laid s r (Called fs q) h = (let k : Fun fs q ≡ Dct s r = sym (function_shape fs q) ∙ h in absurd (cc))
  dict_laid s r (Items n parts of all) h = (let k : Tup (shapes parts) ≡ Dct s r = sym (tuple_shape parts) ∙ h in absurd (cc))

  pub record OfClass (e : Element) (c : ℕ) (r : Bool) : Type 0 where
    pub laid : Laid
    pub is : e ≡ element.Instance c r
    pub at : laid_in layout.classes c ≡ Some laid

  pub class_laid : {e : Element} (c : ℕ) (r : Bool) → IsLaid layout same e → shape e ≡ Inst c r → OfClass e c r
  class_laid {e = e} c r (Nowhere k) h = absurd (no_never e (Inst c r) h (of_instances c r) k)
  class_laid {e = e} c r (Simple k) h = absurd (no_simple e (Inst c r) h (of_instances c r) k)
  class_laid c r (Instanced d q l at) h =
      let k : Inst d q ≡ Inst c r = sym (instance_shape d q) ∙ h in
      record { laid = l; is = ap (λ c. element.Instance c q) (ap site_in k) ∙ ap (element.Instance c) (ap flag_in k); at = subst (λ c. laid_in layout.classes c ≡ Some l) (ap site_in k) at }
  class_laid c r (Mapped n site q led typed) h = (let k : Dct site q ≡ Inst c r = sym (dict_shape site q) ∙ h in absurd (cc))
  class_laid c r (Listed n site q led typed) h = (let k : Lst site q ≡ Inst c r = sym (list_shape site q) ∙ h in absurd (cc))
  class_laid c r (Called fs q) h = (let k : Fun fs q ≡ Inst c r = sym (function_shape fs q) ∙ h in absurd (cc))
  class_laid c r (Items n parts of all) h = (let k : Tup (shapes parts) ≡ Inst c r = sym (tuple_shape parts) ∙ h in absurd (cc))

  pub function_laid : {e : Element} (fs : List ℕ) (r : Bool) → IsLaid layout same e → shape e ≡ Fun fs r → e ≡ element.Func fs r
  function_laid {e = e} fs r (Nowhere k) h = absurd (no_never e (Fun fs r) h (of_functions fs r) k)
  function_laid {e = e} fs r (Simple k) h = absurd (no_simple e (Fun fs r) h (of_functions fs r) k)
  function_laid fs r (Called gs q) h = (let k : Fun gs q ≡ Fun fs r = sym (function_shape gs q) ∙ h in ap (λ fs. element.Func fs q) (ap functions_in k) ∙ ap (element.Func fs) (ap flag_in k))
  function_laid fs r (Instanced d q l at) h = (let k : Inst d q ≡ Fun fs r = sym (instance_shape d q) ∙ h in absurd (cc))
  function_laid fs r (Mapped n site q led typed) h = (let k : Dct site q ≡ Fun fs r = sym (dict_shape site q) ∙ h in absurd (cc))
  function_laid fs r (Listed n site q led typed) h = (let k : Lst site q ≡ Fun fs r = sym (list_shape site q) ∙ h in absurd (cc))
  function_laid fs r (Items n parts of all) h = (let k : Tup (shapes parts) ≡ Fun fs r = sym (tuple_shape parts) ∙ h in absurd (cc))

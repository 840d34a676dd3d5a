-- What is known of values and of the items of lists.
use Rattle.std.proofs.Common.{◌≡◌, ◌<◌, ◌⊎◌, inl, inr, ℕ, zero, suc, Bool, true, false, List, [], ◌++◌, length, Option, Some, refl, sym, ap, ◌∙◌, subst, arith}
use Rattle.std.specs.Prelude.{slice_get}
use Rattle.ann_element.specs.declared.element.Element.{Element, fold-roll-Element}
use Rattle.ann_element.specs.declared.element.Element.TheOpen.{Element-F}
use Rattle.ann_element.specs.declared.element.Element.TheVariants as element
use Rattle.csub_tree.specs.State.{Value, Fun, Null, Ptr, Static, Block}
use Rattle.csub_tree.specs.Operation.{is_unset}
use Rattle.csub_tree.specs.Statement.{read}
use Rattle.ll_code.specs.declared.program.LlType.{LlType}
use Rattle.ll_code.specs.declared.program.LlType.TheVariants as type
use Rattle.rpy_tree.specs.Value.{Value as Meant, Fun as MeantFun, Nothing, Ref, Heap}
use Rattle.rpy_meaning.specs.Classes.{is_below}
use Rattle.rtyper_layout.specs.declared.kind.Kind.{Kind}
use Rattle.rtyper_layout.specs.declared.kind.Kind.TheVariants as kind
use Rattle.rtyper_layout.specs.declared.layout.Layout.{Layout}
use Rattle.rtyper_layout.specs.Kinds.{kind_seen}
use Rattle.rtyper_layout.specs.declared.dicts.Mapping.{Mapping}
use Rattle.rtyper_layout.specs.Layout.{is_list, mapping_at}
use Rattle.rtyper_layout.specs.Types.{type_of, type_seen, type_step, root_of, laid_in}
use Rattle.rtyper_op.specs.Lowering.{never_comes}
use Rattle.rtyper_list.specs.Operands.{of_list}
use Rattle.lower_laws.specs.Tuples.{Same, Wider, Whole}
use Rattle.lower_laws.specs.Values.{is_plain, is_simple}
use Rattle.lower_laws.proofs.Doing.{WordIs}
use Rattle.lower_laws.proofs.Stayed.{stays_comes as plainly_comes, stays_typed as plainly_typed, stays_there as plainly_there, simple_typed, simple_apart}
use Rattle.lower_laws.proofs.Typing.{place_of_words, place_of_strings, place_of_texts}
use Rattle.object_laws.specs.Known.{Known}
use Rattle.object_laws.specs.Ghost.{Ghost, Use, ListOf, InstanceOf, DictOf, use_of}
use Rattle.object_laws.specs.Staying.{Stays, Plainly, AsList, AsMaybe, AsDict, AsMaybeDict, AsInstance, AsFunction, IsWithin, AreAmong}
use Rattle.object_laws.specs.Represents.{Represents}
use Rattle.object_laws.specs.Values.{Stands, word, flag, byte, text, missing, Holds, Plain, Alone, Items, Listed, Mapped, Made, Function, Missing, EachHolds, Empty, More, may_be_missing, of_dict, is_one_of}

-- ---- kinds

plain_is_no_list : (k : Kind) → of_list k ≡ true → is_plain k ≡ true → ⊥
plain_is_no_list kind.List h plain = absurd (cc)
plain_is_no_list kind.MaybeList h plain = absurd (cc)
plain_is_no_list _ h plain = absurd (cc)

pub simple_is_no_list : (k : Kind) → of_list k ≡ true → is_simple k ≡ true → ⊥
simple_is_no_list kind.List h simple = absurd (cc)
simple_is_no_list kind.MaybeList h simple = absurd (cc)
simple_is_no_list _ h simple = absurd (cc)

pub simple_is_no_dict : (k : Kind) → of_dict k ≡ true → is_simple k ≡ true → ⊥
simple_is_no_dict kind.Dict h simple = absurd (cc)
simple_is_no_dict kind.MaybeDict h simple = absurd (cc)
simple_is_no_dict _ h simple = absurd (cc)

dict_is_no_list : (k : Kind) → of_dict k ≡ true → of_list k ≡ true → ⊥
dict_is_no_list kind.Dict h l = absurd (cc)
dict_is_no_list kind.MaybeDict h l = absurd (cc)
dict_is_no_list _ h l = absurd (cc)

pub simple_is_there : (k : Kind) → may_be_missing k ≡ true → is_simple k ≡ true → ⊥
simple_is_there kind.MaybeList h simple = absurd (cc)
simple_is_there kind.MaybeDict h simple = absurd (cc)
simple_is_there kind.MaybeInstance h simple = absurd (cc)
simple_is_there kind.MaybeFunction h simple = absurd (cc)
simple_is_there _ h simple = absurd (cc)

pub plain_is_simple : (k : Kind) → is_plain k ≡ true → is_simple k ≡ true
plain_is_simple kind.Nothing h = refl
plain_is_simple _ h = h

missing_list : (k : Kind) → of_list k ≡ true → may_be_missing k ≡ true → k ≡ kind.MaybeList
missing_list kind.MaybeList h may = refl
missing_list kind.List h may = absurd (cc)
missing_list _ h may = absurd (cc)

missing_dict : (k : Kind) → of_dict k ≡ true → may_be_missing k ≡ true → k ≡ kind.MaybeDict
missing_dict kind.MaybeDict h may = refl
missing_dict kind.Dict h may = absurd (cc)
missing_dict _ h may = absurd (cc)

not_of_list : (seen : Option Element) (k : Kind) → kind_seen seen ≡ k → of_list k ≡ false → of_list (kind_seen seen) ≡ true → ⊥
not_of_list seen k e other h = (let q : false ≡ true = sym other ∙ ap of_list (sym e) ∙ h in absurd (cc))

plain_only : (seen : Option Element) (k : Kind) → kind_seen seen ≡ k → is_plain k ≡ false → is_plain (kind_seen seen) ≡ true → ⊥
plain_only seen k e other plain = (let q : false ≡ true = sym other ∙ ap is_plain (sym e) ∙ plain in absurd (cc))

of_word : {g : Ghost} (t : LlType) (x : Value) (v : Meant) → t ≡ type.Signed → Stands g t x v → WordIs x v
of_word type.Signed x v h (word z f) = record { number = z; low = refl; high = refl; fits = f }
of_word _ x v h s = absurd (cc)

-- what is known of instances and functions
module _ (seen : Option Element) where
  no_list_made : (class : ℕ) (r : Bool) → seen ≡ Some (element.Instance class r) → of_list (kind_seen seen) ≡ true → ⊥
  no_list_made class true e h = not_of_list seen kind.MaybeInstance (ap kind_seen e) refl h
  no_list_made class false e h = not_of_list seen kind.Instance (ap kind_seen e) refl h

  no_list_called : (fs : List ℕ) (r : Bool) → seen ≡ Some (element.Func fs r) → of_list (kind_seen seen) ≡ true → ⊥
  no_list_called fs true e h = not_of_list seen kind.MaybeFunction (ap kind_seen e) refl h
  no_list_called fs false e h = not_of_list seen kind.Function (ap kind_seen e) refl h

  never_simple : (k : Kind) → kind_seen seen ≡ k → is_simple k ≡ false → is_simple (kind_seen seen) ≡ true → ⊥
  never_simple k e other simple = (let q : false ≡ true = sym other ∙ ap is_simple (sym e) ∙ simple in absurd (cc))

  pub not_simple_made : (class : ℕ) (r : Bool) → seen ≡ Some (element.Instance class r) → is_simple (kind_seen seen) ≡ true → ⊥
  not_simple_made class true e h = never_simple kind.MaybeInstance (ap kind_seen e) refl h
  not_simple_made class false e h = never_simple kind.Instance (ap kind_seen e) refl h

  pub not_simple_called : (fs : List ℕ) (r : Bool) → seen ≡ Some (element.Func fs r) → is_simple (kind_seen seen) ≡ true → ⊥
  not_simple_called fs true e h = never_simple kind.MaybeFunction (ap kind_seen e) refl h
  not_simple_called fs false e h = never_simple kind.Function (ap kind_seen e) refl h

-- ---- lists

-- the value is a list that is there
pub record Listing (layout : Layout) (known : Known) (g : Ghost) (seen : Option Element) (x : Value) (v : Meant) : Type 0 where
  pub n : ℕ
  pub i : ℕ
  pub high : v ≡ Ref i
  pub typed : type_seen layout seen ≡ type.Ptr n
  pub struct : is_list layout n ≡ true
  pub home : slice_get g.homes i ≡ Some (record { sort = ListOf n; head = x })

-- it is missing, as one of this kind
pub record Gone (k : Kind) (seen : Option Element) (x : Value) (v : Meant) : Type 0 where
  pub may : kind_seen seen ≡ k
  pub low : x ≡ Null
  pub high : v ≡ Nothing

abbrev pub Absent : Option Element → Value → Meant → Type 0
Absent seen x v = Gone kind.MaybeList seen x v

module _ {layout : Layout} {known : Known} {g : Ghost} {seen : Option Element} {x : Value} {v : Meant} where
  pub list_or_none : of_list (kind_seen seen) ≡ true → Holds layout known g seen x v → Listing layout known g seen x v ⊎ Absent seen x v
  list_or_none h (Plain p s) = absurd (plain_is_no_list (kind_seen seen) h p)
  list_or_none h (Alone k e f) = absurd (not_of_list seen kind.Nothing k refl h)
  list_or_none h (Items parts n xs vs e f t is all) = absurd (not_of_list seen kind.Tuple (ap kind_seen e) refl h)
  list_or_none h (Listed n i k f t s home) = inl (record { n = n; i = i; high = f; typed = t; struct = s; home = home })
  list_or_none h (Mapped n i m k f t s home) = absurd (dict_is_no_list (kind_seen seen) k h)
  list_or_none h (Made class r c i e f b home) = absurd (no_list_made seen class r e h)
  list_or_none h (Function fs r f n e k b l y) = absurd (no_list_called seen fs r e h)
  list_or_none h (Missing k e f) = inr (record { may = missing_list (kind_seen seen) h k; low = e; high = f })

  -- ---- words

  pub plain_stands : is_plain (kind_seen seen) ≡ true → Holds layout known g seen x v → Stands g (type_seen layout seen) x v
  plain_stands plain (Plain p s) = s
  plain_stands plain (Alone k e f) = absurd (plain_only seen kind.Nothing k refl plain)
  plain_stands plain (Items parts n xs vs e f t is all) = absurd (plain_only seen kind.Tuple (ap kind_seen e) refl plain)
  plain_stands plain (Listed n i k f t s home) = absurd (plain_is_no_list (kind_seen seen) k plain)
  plain_stands plain (Mapped n i m k f t s home) = absurd (simple_is_no_dict (kind_seen seen) k (plain_is_simple (kind_seen seen) plain))
  plain_stands plain (Made class r c i e f b home) = absurd (not_simple_made seen class r e (plain_is_simple (kind_seen seen) plain))
  plain_stands plain (Function fs r f n e k b l y) = absurd (not_simple_called seen fs r e (plain_is_simple (kind_seen seen) plain))
  plain_stands plain (Missing k e f) = absurd (simple_is_there (kind_seen seen) k (plain_is_simple (kind_seen seen) plain))

  pub word_held : kind_seen seen ≡ kind.Word → Holds layout known g seen x v → WordIs x v
  word_held h held = of_word (type_seen layout seen) x v (place_of_words layout seen h) (plain_stands (ap is_plain h) held)

-- ---- instances

-- the value is an instance that is there, of the class or of one below it
pub record Instancing (known : Known) (g : Ghost) (class : ℕ) (x : Value) (v : Meant) : Type 0 where
  pub c : ℕ
  pub i : ℕ
  pub high : v ≡ Ref i
  pub below : is_below known.program.classes c class ≡ true
  pub home : slice_get g.homes i ≡ Some (record { sort = InstanceOf c; head = x })

abbrev class_in : Option Element → ℕ
class_in (Some (element.Instance class r)) = class
class_in other = 0

abbrev none_in : Option Element → Bool
none_in (Some (element.Instance class r)) = r
none_in other = false

abbrev pub missing_instance : Bool → Kind
missing_instance true = kind.MaybeInstance
missing_instance false = kind.Instance

instance_kind : (class : ℕ) (r : Bool) → kind_seen (Some (element.Instance class r)) ≡ missing_instance r
instance_kind class true = refl
instance_kind class false = refl

missing_only : (r : Bool) → may_be_missing (missing_instance r) ≡ true → r ≡ true
missing_only true h = refl
missing_only false h = absurd (cc)

no_instance_listed : (r : Bool) → of_list (missing_instance r) ≡ true → ⊥
no_instance_listed true h = absurd (cc)
no_instance_listed false h = absurd (cc)

no_instance_dict : (r : Bool) → of_dict (missing_instance r) ≡ true → ⊥
no_instance_dict true h = absurd (cc)
no_instance_dict false h = absurd (cc)

no_instance_plain : (r : Bool) → is_plain (missing_instance r) ≡ true → ⊥
no_instance_plain true h = absurd (cc)
no_instance_plain false h = absurd (cc)

no_instance_nothing : (r : Bool) → missing_instance r ≡ kind.Nothing → ⊥
no_instance_nothing true h = absurd (cc)
no_instance_nothing false h = absurd (cc)

no_instance_tuple : (class : ℕ) (r : Bool) (parts : List Element) → Some (element.Instance class r) ≡ Some (element.Tuple parts) → ⊥
no_instance_tuple class r parts h = absurd (cc)

no_instance_function : (class : ℕ) (r s : Bool) (fs : List ℕ) → Some (element.Instance class r) ≡ Some (element.Func fs s) → ⊥
no_instance_function class r s fs h = absurd (cc)

module _ {layout : Layout} {known : Known} {g : Ghost} {seen : Option Element} {x : Value} {v : Meant} where
  pub instance_or_none : (class : ℕ) (r : Bool) → seen ≡ Some (element.Instance class r) → Holds layout known g seen x v → Instancing known g class x v ⊎ ((r ≡ true) × Gone kind.MaybeInstance seen x v)
  instance_or_none class r h (Plain p s) = absurd (no_instance_plain r (ap is_plain (sym (ap kind_seen h ∙ instance_kind class r)) ∙ p))
  instance_or_none class r h (Alone k e f) = absurd (no_instance_nothing r (sym (ap kind_seen h ∙ instance_kind class r) ∙ k))
  instance_or_none class r h (Items parts n xs vs e f t is all) = absurd (no_instance_tuple class r parts (sym h ∙ e))
  instance_or_none class r h (Listed n i k f t s home) = absurd (no_instance_listed r (ap of_list (sym (ap kind_seen h ∙ instance_kind class r)) ∙ k))
  instance_or_none class r h (Mapped n i m k f t s home) = absurd (no_instance_dict r (ap of_dict (sym (ap kind_seen h ∙ instance_kind class r)) ∙ k))
  instance_or_none class r h (Made other s c i e f b home) = (let q : class ≡ other = ap class_in (sym h ∙ e) in inl (record { c = c; i = i; high = f; below = subst (λ d. is_below known.program.classes c d ≡ true) (sym q) b; home = home }))
  instance_or_none class r h (Function fs s f n e k b l y) = absurd (no_instance_function class r s fs (sym h ∙ e))
  instance_or_none class r h (Missing k e f) =
      let may : r ≡ true = missing_only r (ap may_be_missing (sym (ap kind_seen h ∙ instance_kind class r)) ∙ k) in
      inr (may, record { may = ap kind_seen h ∙ instance_kind class r ∙ ap missing_instance may; low = e; high = f })

-- ---- functions

pub record OfFunction (known : Known) (fs : List ℕ) (x : Value) (v : Meant) : Type 0 where
  pub f : ℕ
  pub n : ℕ
  pub high : v ≡ MeantFun f
  pub one : is_one_of fs f ≡ true
  pub graph : known.graph f ≡ Some n
  pub low : x ≡ Fun n

abbrev functions_in : Option Element → List ℕ
functions_in (Some (element.Func fs r)) = fs
functions_in other = []

abbrev pub missing_function : Bool → Kind
missing_function true = kind.MaybeFunction
missing_function false = kind.Function

function_kind : (fs : List ℕ) (r : Bool) → kind_seen (Some (element.Func fs r)) ≡ missing_function r
function_kind fs true = refl
function_kind fs false = refl

function_missing : (r : Bool) → may_be_missing (missing_function r) ≡ true → r ≡ true
function_missing true h = refl
function_missing false h = absurd (cc)

no_function_listed : (r : Bool) → of_list (missing_function r) ≡ true → ⊥
no_function_listed true h = absurd (cc)
no_function_listed false h = absurd (cc)

no_function_dict : (r : Bool) → of_dict (missing_function r) ≡ true → ⊥
no_function_dict true h = absurd (cc)
no_function_dict false h = absurd (cc)

no_function_plain : (r : Bool) → is_plain (missing_function r) ≡ true → ⊥
no_function_plain true h = absurd (cc)
no_function_plain false h = absurd (cc)

no_function_nothing : (r : Bool) → missing_function r ≡ kind.Nothing → ⊥
no_function_nothing true h = absurd (cc)
no_function_nothing false h = absurd (cc)

no_function_tuple : (fs : List ℕ) (r : Bool) (parts : List Element) → Some (element.Func fs r) ≡ Some (element.Tuple parts) → ⊥
no_function_tuple fs r parts h = absurd (cc)

module _ {layout : Layout} {known : Known} {g : Ghost} {seen : Option Element} {x : Value} {v : Meant} where
  pub function_or_none : (fs : List ℕ) (r : Bool) → seen ≡ Some (element.Func fs r) → Holds layout known g seen x v → OfFunction known fs x v ⊎ ((r ≡ true) × Gone kind.MaybeFunction seen x v)
  function_or_none fs r h (Plain p s) = absurd (no_function_plain r (ap is_plain (sym (ap kind_seen h ∙ function_kind fs r)) ∙ p))
  function_or_none fs r h (Alone k e f) = absurd (no_function_nothing r (sym (ap kind_seen h ∙ function_kind fs r) ∙ k))
  function_or_none fs r h (Items parts n xs vs e f t is all) = absurd (no_function_tuple fs r parts (sym h ∙ e))
  function_or_none fs r h (Listed n i k f t s home) = absurd (no_function_listed r (ap of_list (sym (ap kind_seen h ∙ function_kind fs r)) ∙ k))
  function_or_none fs r h (Mapped n i m k f t s home) = absurd (no_function_dict r (ap of_dict (sym (ap kind_seen h ∙ function_kind fs r)) ∙ k))
  function_or_none fs r h (Made class s c i e f b home) = absurd (no_instance_function class s r fs (sym e ∙ h))
  function_or_none fs r h (Function gs s f n e k b l y) = (let q : fs ≡ gs = ap functions_in (sym h ∙ e) in inl (record { f = f; n = n; high = k; one = subst (λ hs. is_one_of hs f ≡ true) (sym q) b; graph = l; low = y }))
  function_or_none fs r h (Missing k e f) =
      let may : r ≡ true = function_missing r (ap may_be_missing (sym (ap kind_seen h ∙ function_kind fs r)) ∙ k) in
      inr (may, record { may = ap kind_seen h ∙ function_kind fs r ∙ ap missing_function may; low = e; high = f })

-- ---- dicts

-- the value is a dict that is there
pub record Dicting (layout : Layout) (known : Known) (g : Ghost) (seen : Option Element) (x : Value) (v : Meant) : Type 0 where
  pub n : ℕ
  pub i : ℕ
  pub m : Mapping
  pub high : v ≡ Ref i
  pub typed : type_seen layout seen ≡ type.Ptr n
  pub struct : mapping_at layout.mappings n ≡ Some m
  pub home : slice_get g.homes i ≡ Some (record { sort = DictOf n; head = x })

not_of_dict : (seen : Option Element) (k : Kind) → kind_seen seen ≡ k → of_dict k ≡ false → of_dict (kind_seen seen) ≡ true → ⊥
not_of_dict seen k e other h = (let q : false ≡ true = sym other ∙ ap of_dict (sym e) ∙ h in absurd (cc))

module _ {layout : Layout} {known : Known} {g : Ghost} {seen : Option Element} {x : Value} {v : Meant} where
  pub dict_or_none : of_dict (kind_seen seen) ≡ true → Holds layout known g seen x v → Dicting layout known g seen x v ⊎ Gone kind.MaybeDict seen x v
  dict_or_none h (Plain p s) = absurd (simple_is_no_dict (kind_seen seen) h (plain_is_simple (kind_seen seen) p))
  dict_or_none h (Alone k e f) = absurd (not_of_dict seen kind.Nothing k refl h)
  dict_or_none h (Items parts n xs vs e f t is all) = absurd (not_of_dict seen kind.Tuple (ap kind_seen e) refl h)
  dict_or_none h (Listed n i k f t s home) = absurd (dict_is_no_list (kind_seen seen) h k)
  dict_or_none h (Mapped n i m k f t s home) = inl (record { n = n; i = i; m = m; high = f; typed = t; struct = s; home = home })
  dict_or_none h (Made class r c i e f b home) = absurd (no_instance_dict r (ap of_dict (sym (ap kind_seen e ∙ instance_kind class r)) ∙ h))
  dict_or_none h (Function fs r f n e k b l y) = absurd (no_function_dict r (ap of_dict (sym (ap kind_seen e ∙ function_kind fs r)) ∙ h))
  dict_or_none h (Missing k e f) = inr (record { may = missing_dict (kind_seen seen) h k; low = e; high = f })

-- ---- types

pub function_type : (layout : Layout) (fs : List ℕ) (r : Bool) → type_seen layout (Some (element.Func fs r)) ≡ type.Fn
function_type layout fs r = ap (type_of layout) (sym (element.rolls-Func fs r)) ∙ fold-roll-Element LlType (type_step layout) (Element-F.Func fs r)

pub instance_type : (layout : Layout) (class : ℕ) (r : Bool) → type_seen layout (Some (element.Instance class r)) ≡ root_of (laid_in layout.classes class)
instance_type layout class r = ap (type_of layout) (sym (element.rolls-Instance class r)) ∙ fold-roll-Element LlType (type_step layout) (Element-F.Instance class r)

-- ---- values that stay

module _ {layout : Layout} {known : Known} {from to : Option Element} where
  pub stays_typed : Stays layout known from to → type_seen layout from ≡ type_seen layout to
  stays_typed (Plainly s) = plainly_typed s
  stays_typed (AsList n f t k l) = f ∙ sym t
  stays_typed (AsMaybe n f t k l) = f ∙ sym t
  stays_typed (AsDict n f t k l) = f ∙ sym t
  stays_typed (AsMaybeDict n f t k l) = f ∙ sym t
  stays_typed (AsInstance n a b r s f t k l m i) = f ∙ sym t
  stays_typed (AsFunction fs gs r s f t m i) = ap (type_seen layout) f ∙ function_type layout fs r ∙ sym (ap (type_seen layout) t ∙ function_type layout gs s)

  pub stays_there : Stays layout known from to → type_seen layout to ≡ type.Void → ⊥
  stays_there (Plainly s) h = plainly_there s h
  stays_there (AsList n f t k l) h = (let q : type.Ptr n ≡ type.Void = sym t ∙ h in absurd (cc))
  stays_there (AsMaybe n f t k l) h = (let q : type.Ptr n ≡ type.Void = sym t ∙ h in absurd (cc))
  stays_there (AsDict n f t k l) h = (let q : type.Ptr n ≡ type.Void = sym t ∙ h in absurd (cc))
  stays_there (AsMaybeDict n f t k l) h = (let q : type.Ptr n ≡ type.Void = sym t ∙ h in absurd (cc))
  stays_there (AsInstance n a b r s f t k l m i) h = (let q : type.Ptr n ≡ type.Void = sym t ∙ h in absurd (cc))
  stays_there (AsFunction fs gs r s f t m i) h = (let q : type.Fn ≡ type.Void = sym (ap (type_seen layout) t ∙ function_type layout gs s) ∙ h in absurd (cc))

pub made_comes : (class : ℕ) (r : Bool) → never_comes (kind_seen (Some (element.Instance class r))) ≡ false
made_comes class true = refl
made_comes class false = refl

called_comes : (fs : List ℕ) (r : Bool) → never_comes (kind_seen (Some (element.Func fs r))) ≡ false
called_comes fs true = refl
called_comes fs false = refl

pub stays_comes : {layout : Layout} {known : Known} {from to : Option Element} → Stays layout known from to → never_comes (kind_seen from) ≡ false
stays_comes (Plainly s) = plainly_comes s
stays_comes (AsList n f t k l) = ap never_comes k
stays_comes (AsMaybe n f t k l) = ap never_comes k
stays_comes (AsDict n f t k l) = ap never_comes k
stays_comes (AsMaybeDict n f t k l) = ap never_comes k
stays_comes (AsInstance n a b r s f t k l m i) = ap (λ e. never_comes (kind_seen e)) k ∙ made_comes a r
stays_comes (AsFunction fs gs r s f t m i) = ap (λ e. never_comes (kind_seen e)) f ∙ called_comes fs r

module _ {layout : Layout} {known : Known} {g : Ghost} {x : Value} {v : Meant} where
  same_held : {from to : Option Element} (k : Kind) → is_simple k ≡ true → kind_seen from ≡ k → kind_seen to ≡ k → Holds layout known g from x v → Holds layout known g to x v
  same_held {from = from} {to = to} k simple f t (Plain p s) = Plain (ap is_plain (t ∙ sym f) ∙ p) (subst (λ r. Stands g r x v) (simple_typed layout from k simple f ∙ sym (simple_typed layout to k simple t)) s)
  same_held k simple f t (Alone h e n) = Alone (t ∙ sym f ∙ h) e n
  same_held k simple f t (Items parts n xs vs e h r is all) = absurd (simple_apart k simple (sym f ∙ ap kind_seen e))
  same_held k simple f t (Listed n i h e r s home) = absurd (simple_is_no_list k (ap of_list (sym f) ∙ h) simple)
  same_held k simple f t (Mapped n i m h e r s home) = absurd (simple_is_no_dict k (ap of_dict (sym f) ∙ h) simple)
  same_held {from = from} k simple f t (Made class r c i e h b home) = absurd (not_simple_made from class r e (ap is_simple f ∙ simple))
  same_held {from = from} k simple f t (Function fs r h n e l b m y) = absurd (not_simple_called from fs r e (ap is_simple f ∙ simple))
  same_held k simple f t (Missing h e n) = absurd (simple_is_there k (ap may_be_missing (sym f) ∙ h) simple)

  list_stays : {from to : Option Element} → of_list (kind_seen from) ≡ true → of_list (kind_seen to) ≡ true → type_seen layout from ≡ type_seen layout to → (kind_seen from ≡ kind.MaybeList → kind_seen to ≡ kind.MaybeList) → Holds layout known g from x v → Holds layout known g to x v
  list_stays {from = from} {to = to} h l same may held = by (list_or_none h held)
    where
      by : Listing layout known g from x v ⊎ Absent from x v → Holds layout known g to x v
      by (inl it) = Listed it.n it.i l it.high (sym same ∙ it.typed) it.struct it.home
      by (inr gone) = Missing (ap may_be_missing (may gone.may)) gone.low gone.high

  dict_stays : {from to : Option Element} → of_dict (kind_seen from) ≡ true → of_dict (kind_seen to) ≡ true → type_seen layout from ≡ type_seen layout to → (kind_seen from ≡ kind.MaybeDict → kind_seen to ≡ kind.MaybeDict) → Holds layout known g from x v → Holds layout known g to x v
  dict_stays {from = from} {to = to} h l same may held = by (dict_or_none h held)
    where
      by : Dicting layout known g from x v ⊎ Gone kind.MaybeDict from x v → Holds layout known g to x v
      by (inl it) = Mapped it.n it.i it.m l it.high (sym same ∙ it.typed) it.struct it.home
      by (inr gone) = Missing (ap may_be_missing (may gone.may)) gone.low gone.high

  instance_stays : {from to : Option Element} (a b : ℕ) (r s : Bool) → from ≡ Some (element.Instance a r) → to ≡ Some (element.Instance b s) → (r ≡ true → s ≡ true) → IsWithin known a b → Holds layout known g from x v → Holds layout known g to x v
  instance_stays {from = from} {to = to} a b r s k l m within held = by (instance_or_none a r k held)
    where
      by : Instancing known g a x v ⊎ ((r ≡ true) × Gone kind.MaybeInstance from x v) → Holds layout known g to x v
      by (inl it) = Made b s it.c it.i l it.high (within it.c it.below) it.home
      by (inr (may, gone)) = Missing (ap may_be_missing (ap kind_seen l ∙ instance_kind b s ∙ ap missing_instance (m may))) gone.low gone.high

  function_stays : {from to : Option Element} (fs gs : List ℕ) (r s : Bool) → from ≡ Some (element.Func fs r) → to ≡ Some (element.Func gs s) → (r ≡ true → s ≡ true) → AreAmong fs gs → Holds layout known g from x v → Holds layout known g to x v
  function_stays {from = from} {to = to} fs gs r s k l m among held = by (function_or_none fs r k held)
    where
      by : OfFunction known fs x v ⊎ ((r ≡ true) × Gone kind.MaybeFunction from x v) → Holds layout known g to x v
      by (inl it) = Function gs s it.f it.n l it.high (among it.f it.one) it.graph it.low
      by (inr (may, gone)) = Missing (ap may_be_missing (ap kind_seen l ∙ function_kind gs s ∙ ap missing_function (m may))) gone.low gone.high

  pub stays_held : {from to : Option Element} → Stays layout known from to → Holds layout known g from x v → Holds layout known g to x v
  stays_held (Plainly (Same k simple f t)) held = same_held k simple f t held
  stays_held {from = from} {to = to} (Plainly (Wider f t)) held = Plain (ap is_plain t) (subst (λ r. Stands g r x v) (place_of_strings layout from f ∙ sym (place_of_texts layout to t)) (plain_stands (ap is_plain f) held))
  stays_held (Plainly (Whole n e k t)) held = subst (λ seen. Holds layout known g seen x v) e held
  stays_held (AsList n f t k l) held = list_stays (ap of_list k) l (f ∙ sym t) (λ may. (let q : kind.List ≡ kind.MaybeList = sym k ∙ may in absurd (cc))) held
  stays_held (AsMaybe n f t k l) held = list_stays (ap of_list k) (ap of_list l) (f ∙ sym t) (λ may. l) held
  stays_held (AsDict n f t k l) held = dict_stays (ap of_dict k) l (f ∙ sym t) (λ may. (let q : kind.Dict ≡ kind.MaybeDict = sym k ∙ may in absurd (cc))) held
  stays_held (AsMaybeDict n f t k l) held = dict_stays (ap of_dict k) (ap of_dict l) (f ∙ sym t) (λ may. l) held
  stays_held (AsInstance n a b r s f t k l m within) held = instance_stays a b r s k l m within held
  stays_held (AsFunction fs gs r s f t m among) held = function_stays fs gs r s f t m among held

-- ---- what is held is set

pub use_set : (g : Ghost) (x : Value) (u : Use) → use_of g x ≡ Some u → is_unset x ≡ false
use_set g (Ptr b) u h = refl
use_set g (Static s) u h = refl
use_set g _ u h = absurd (cc)

pub stands_set : {g : Ghost} {t : LlType} {x : Value} {v : Meant} → Stands g t x v → is_unset x ≡ false
stands_set (word z f) = refl
stands_set (flag b) = refl
stands_set (byte b h) = refl
stands_set {g = g} (text x bytes s) = use_set g x _ s.is
stands_set missing = refl

pub held_set : {layout : Layout} {known : Known} {g : Ghost} {heap : Heap} {left : ℕ} {blocks : List (Option Block)} {statics : List Block} {seen : Option Element} {x : Value} {v : Meant} → Represents layout known g heap left blocks statics → Holds layout known g seen x v → is_unset x ≡ false
held_set r (Plain p s) = stands_set s
held_set r (Alone k e f) = ap is_unset e
held_set {g = g} {x = x} r (Items parts n xs vs e f t is all) = use_set g x _ is
held_set {g = g} {x = x} r (Listed n i k f t s home) = use_set g x _ (r.lists n i x home s).head_use
held_set {g = g} {x = x} r (Mapped n i m k f t s home) = use_set g x _ (r.dicts n i x m home s).head_use
held_set {g = g} {x = x} r (Made class or_none c i e f b home) = use_set g x _ (r.instances c i x home).head_use
held_set r (Function fs or_none f n e k b l y) = ap is_unset y
held_set r (Missing k e f) = ap is_unset e

-- ---- items

pub each_long : {layout : Layout} {known : Known} {g : Ghost} {seen : Option Element} {xs : List Value} {vs : List Meant} → EachHolds layout known g seen xs vs → length xs ≡ length vs
each_long Empty = refl
each_long (More held each) = ap suc (each_long each)

-- the item at a place, as it stands before the spare ones
pub record Item (layout : Layout) (known : Known) (g : Ghost) (seen : Option Element) (xs : List Value) (v : Meant) (i : ℕ) : Type 0 where
  pub value : Value
  pub low : read xs i ≡ value
  pub inside : i < length xs
  pub held : Holds layout known g seen value v

pub each_at : {layout : Layout} {known : Known} {g : Ghost} {seen : Option Element} {xs : List Value} {vs : List Meant} (spare : List Value) (i : ℕ) (v : Meant) → EachHolds layout known g seen xs vs → slice_get vs i ≡ Some v → Item layout known g seen (xs ++ spare) v i
each_at spare i v Empty h = absurd (cc)
each_at {layout = layout} {known = known} {g = g} {seen = seen} spare zero v (More {x = x} {v = u} held each) h = (let q : u ≡ v = cc in record { value = x; low = refl; inside = omega arith; held = subst (λ v. Holds layout known g seen x v) q held })
each_at spare (suc i) v (More held each) h = (let r = each_at spare i v each h in record { value = r.value; low = r.low; inside = (let l = r.inside in omega (arith, l)); held = r.held })

-- What values of the one element are as values of the other.
use Rattle.std.proofs.Common.{◌≡◌, ◌<◌, ◌≤◌, ℕ, suc, ◌+◌, Bool, true, false, List, [], ◌∷◌, Option, Some, None, refl, sym, ap, ◌∙◌, subst, arith}
use Rattle.ann_element.specs.declared.element.Element.{Element, out-Element, out-roll-Element}
use Rattle.ann_element.specs.declared.element.Element.TheOpen.{Element-F}
use Rattle.ann_element.specs.declared.element.Element.TheVariants as element
use Rattle.csub_tree.specs.State.{Value, Byte, Null}
use Rattle.csub_tree.specs.declared.tree.CConst.TheVariants as constant
use Rattle.ll_code.specs.declared.program.LlType.{LlType}
use Rattle.ll_code.specs.declared.program.LlType.TheVariants as type
use Rattle.rpy_tree.specs.Value.{Value as Meant, Text, Nothing}
use Rattle.rpy_meaning.specs.Sequences.{tuple}
use Rattle.rtyper_layout.specs.declared.kind.Kind.{Kind}
use Rattle.rtyper_layout.specs.declared.kind.Kind.TheVariants as kind
use Rattle.rtyper_layout.specs.declared.layout.Layout.{Layout}
use Rattle.rtyper_layout.specs.Kinds.{kind_seen}
use Rattle.rtyper_layout.specs.Types.{type_of, type_seen, shape, field_type}
use Rattle.rtyper_data.specs.Converting.{default_constant}
use Rattle.rtyper_data.specs.Graphs.{fields_at}
use Rattle.rtyper_op.specs.Lowering.{never_comes}
use Rattle.rtyper_list.specs.Operands.{of_list}
use Rattle.lower_laws.specs.Values.{is_plain}
use Rattle.lower_laws.proofs.Stayed.{field_is}
use Rattle.lower_laws.proofs.Typing.{place_of_bytes, place_of_strings, place_of_texts, place_of_none}
use Rattle.object_laws.specs.Ghost.{Ghost, Grown, Stays as StaysBlock, use_of}
use Rattle.object_laws.specs.Known.{Known}
use Rattle.object_laws.specs.Values.{Stands, byte, missing, Holds, Plain, Alone, Items, Listed, Mapped, Made, Function, Missing, AllHold, End, Next, may_be_missing, of_dict}
use Rattle.object_laws.proofs.Growing.{holds_grows}
use Rattle.object_laws.proofs.Valued.{made_comes, plain_stands, stays_held, stays_there, stays_typed}
use Rattle.conversion_laws.specs.Going.{Goes, AllGo, IsTuple, takes_none, takes_text}
use Rattle.conversion_laws.specs.Going as goes

-- ---- kinds

called_comes : (fs : List ℕ) (r : Bool) → never_comes (kind_seen (Some (element.Func fs r))) ≡ false
called_comes fs true = refl
called_comes fs false = refl

-- of what is never there nothing is a value
pub never_held : {layout : Layout} {known : Known} {g : Ghost} {seen : Option Element} {x : Value} {v : Meant} → kind_seen seen ≡ kind.Never → Holds layout known g seen x v → ⊥
never_held h (Plain p s) = (let q : false ≡ true = ap is_plain (sym h) ∙ p in absurd (cc))
never_held h (Alone k e f) = (let q : kind.Never ≡ kind.Nothing = sym h ∙ k in absurd (cc))
never_held h (Items parts n xs vs e f t is all) = (let q : kind.Tuple ≡ kind.Never = sym (ap kind_seen e) ∙ h in absurd (cc))
never_held h (Listed n i k f t s home) = (let q : false ≡ true = ap of_list (sym h) ∙ k in absurd (cc))
never_held h (Mapped n i m k f t s home) = (let q : false ≡ true = ap of_dict (sym h) ∙ k in absurd (cc))
never_held h (Made c r d i e f b home) = (let q : true ≡ false = ap never_comes (sym h ∙ ap kind_seen e) ∙ made_comes c r in absurd (cc))
never_held h (Function fs r f n e k b l y) = (let q : true ≡ false = ap never_comes (sym h ∙ ap kind_seen e) ∙ called_comes fs r in absurd (cc))
never_held h (Missing k e f) = (let q : false ≡ true = ap may_be_missing (sym h) ∙ k in absurd (cc))

text_typed : (layout : Layout) (seen : Option Element) (k : Kind) → kind_seen seen ≡ k → takes_text k ≡ true → type_seen layout seen ≡ type.Ptr 0
text_typed layout seen kind.Text h t = place_of_strings layout seen h
text_typed layout seen kind.MaybeText h t = place_of_texts layout seen h
text_typed layout seen _ h t = absurd (cc)

pub texts_typed : (layout : Layout) (seen : Option Element) → takes_text (kind_seen seen) ≡ true → type_seen layout seen ≡ type.Ptr 0
texts_typed layout seen t = text_typed layout seen (kind_seen seen) refl t

pub text_plain : (k : Kind) → takes_text k ≡ true → is_plain k ≡ true
text_plain kind.Text t = refl
text_plain kind.MaybeText t = refl
text_plain _ t = absurd (cc)

-- ---- bytes

pub record IsByte (x : Value) (v : Meant) : Type 0 where
  pub number : ℕ
  pub low : x ≡ Byte number
  pub high : v ≡ Text (number ∷ [])
  pub small : number < 256

of_byte : {g : Ghost} (t : LlType) (x : Value) (v : Meant) → t ≡ type.Char → Stands g t x v → IsByte x v
of_byte type.Char x v h (byte b s) = record { number = b; low = refl; high = refl; small = s }
of_byte _ x v h s = absurd (cc)

module _ {layout : Layout} {known : Known} {g : Ghost} {seen : Option Element} {x : Value} {v : Meant} where
  pub byte_held : kind_seen seen ≡ kind.Byte → Holds layout known g seen x v → IsByte x v
  byte_held h held = of_byte (type_seen layout seen) x v (place_of_bytes layout seen h) (plain_stands (ap is_plain h) held)

  -- what is missing, where it may be
  missing_by : (k : Kind) → kind_seen seen ≡ k → takes_none k ≡ true → x ≡ Null → v ≡ Nothing → Holds layout known g seen x v
  missing_by kind.MaybeText h t e f = Plain (ap is_plain h) (subst (λ s. Stands g s x v) (sym (place_of_texts layout seen h)) (subst (λ y. Stands g (type.Ptr 0) y v) (sym e) (subst (λ u. Stands g (type.Ptr 0) Null u) (sym f) missing)))
  missing_by _ h t e f = Missing (ap may_be_missing h ∙ t) e f

  pub missing_is : takes_none (kind_seen seen) ≡ true → x ≡ Null → v ≡ Nothing → Holds layout known g seen x v
  missing_is t e f = missing_by (kind_seen seen) refl t e f

-- ---- tuples

abbrev parts_in : Element-F Element → List Element
parts_in (Element-F.Tuple parts) = parts
parts_in _ = []

abbrev parts_seen : Option Element → List Element
parts_seen None = []
parts_seen (Some e) = parts_in (out-Element e)

parts_are : (parts : List Element) → parts_seen (Some (element.Tuple parts)) ≡ parts
parts_are parts = ap (λ e. parts_in (out-Element e)) (sym (element.rolls-Tuple parts)) ∙ ap parts_in (out-roll-Element (Element-F.Tuple parts))

pub same_parts : (parts others : List Element) → Some (element.Tuple parts) ≡ Some (element.Tuple others) → parts ≡ others
same_parts parts others h = sym (parts_are parts) ∙ ap parts_seen h ∙ parts_are others

abbrev number_in : LlType → ℕ
number_in (type.Ptr n) = n
number_in _ = 0

pub same_struct : (m n : ℕ) → type.Ptr m ≡ type.Ptr n → m ≡ n
same_struct m n h = ap number_in h

-- the block of a tuple, and its items
pub record TupleAt (layout : Layout) (known : Known) (g : Ghost) (m : ℕ) (parts : List Element) (x : Value) (v : Meant) : Type 0 where
  pub xs : List Value
  pub vs : List Meant
  pub high : v ≡ tuple vs
  pub is : use_of g x ≡ Some (StaysBlock (record { kind = m; fields = xs; items = [] }))
  pub all : AllHold layout known g parts xs vs

tuple_kind : (seen : Option Element) (parts : List Element) (k : Kind) → seen ≡ Some (element.Tuple parts) → kind_seen seen ≡ k → kind.Tuple ≡ k
tuple_kind seen parts k e h = sym (ap kind_seen e) ∙ h

no_instance : (parts : List Element) (c : ℕ) (r : Bool) → Some (element.Tuple parts) ≡ Some (element.Instance c r) → ⊥
no_instance parts c r h = absurd (cc)

no_function : (parts : List Element) (fs : List ℕ) (r : Bool) → Some (element.Tuple parts) ≡ Some (element.Func fs r) → ⊥
no_function parts fs r h = absurd (cc)

module _ {layout : Layout} {known : Known} {g : Ghost} {seen : Option Element} {x : Value} {v : Meant} (m : ℕ) (parts : List Element) (of : IsTuple layout seen m parts) where
  pub tuple_held : Holds layout known g seen x v → TupleAt layout known g m parts x v
  tuple_held (Plain p s) = (let q : false ≡ true = ap is_plain (sym (ap kind_seen of.is)) ∙ p in absurd (cc))
  tuple_held (Alone k e f) = (let q : kind.Tuple ≡ kind.Nothing = sym (ap kind_seen of.is) ∙ k in absurd (cc))
  tuple_held (Items others n xs vs e f t is all) =
      let q : others ≡ parts = same_parts others parts (sym e ∙ of.is) in
      let r : n ≡ m = same_struct n m (sym t ∙ of.typed) in
      record { xs = xs; vs = vs; high = f; is = subst (λ n. use_of g x ≡ Some (StaysBlock (record { kind = n; fields = xs; items = [] }))) r is; all = subst (λ parts. AllHold layout known g parts xs vs) q all }
  tuple_held (Listed n i k f t s home) = (let q : false ≡ true = ap of_list (sym (ap kind_seen of.is)) ∙ k in absurd (cc))
  tuple_held (Mapped n i d k f t s home) = (let q : false ≡ true = ap of_dict (sym (ap kind_seen of.is)) ∙ k in absurd (cc))
  tuple_held (Made c r d i e f b home) = absurd (no_instance parts c r (sym of.is ∙ e))
  tuple_held (Function fs r f n e k b l y) = absurd (no_function parts fs r (sym of.is ∙ e))
  tuple_held (Missing k e f) = (let q : false ≡ true = ap may_be_missing (sym (ap kind_seen of.is)) ∙ k in absurd (cc))

pub all_grow : {layout : Layout} {known : Known} {old new : Ghost} {parts : List Element} {xs : List Value} {vs : List Meant} → Grown old new → AllHold layout known old parts xs vs → AllHold layout known new parts xs vs
all_grow grown End = End
all_grow grown (Next held all) = Next (holds_grows grown held) (all_grow grown all)

-- ---- where values of the one are of the other

-- how deep the tuples are
abbrev mutual
  pub levels : {layout : Layout} {known : Known} {from to : Option Element} → Goes layout known from to → ℕ
  levels (goes.Never k) = 1
  levels (goes.Staying s) = 1
  levels (goes.Missing k t d) = 1
  levels (goes.Texted k t) = 1
  levels (goes.Items m n parts others a b all) = suc (all_levels all)

  pub all_levels : {layout : Layout} {known : Known} {parts others : List Element} → AllGo layout known parts others → ℕ
  all_levels goes.End = 0
  all_levels (goes.Next go all) = levels go + all_levels all

module _ {layout : Layout} {known : Known} where
  -- both have types, where there are values
  pub from_typed : {from to : Option Element} → Goes layout known from to → (kind_seen from ≡ kind.Never → ⊥) → type_seen layout from ≡ type.Void → ⊥
  from_typed (goes.Never k) there h = absurd (there k)
  from_typed (goes.Staying s) there h = stays_there s (sym (stays_typed s) ∙ h)
  from_typed {from = from} (goes.Missing k t d) there h = (let q : type.Bool ≡ type.Void = sym (place_of_none layout from k) ∙ h in absurd (cc))
  from_typed {from = from} (goes.Texted k t) there h = (let q : type.Char ≡ type.Void = sym (place_of_bytes layout from k) ∙ h in absurd (cc))
  from_typed (goes.Items m n parts others a b all) there h = (let q : type.Ptr m ≡ type.Void = sym a.typed ∙ h in absurd (cc))

  pub to_typed : {from to : Option Element} → Goes layout known from to → (kind_seen from ≡ kind.Never → ⊥) → type_seen layout to ≡ type.Void → ⊥
  to_typed (goes.Never k) there h = absurd (there k)
  to_typed (goes.Staying s) there h = stays_there s h
  to_typed (goes.Missing k t d) there h = (let q : constant.Null ≡ default_constant type.Void = sym d ∙ ap default_constant h in absurd (cc))
  to_typed {to = to} (goes.Texted k t) there h = (let q : type.Ptr 0 ≡ type.Void = sym (texts_typed layout to t) ∙ h in absurd (cc))
  to_typed (goes.Items m n parts others a b all) there h = (let q : type.Ptr n ≡ type.Void = sym b.typed ∙ h in absurd (cc))

  -- the fields of items have the types of those
  pub fields_typed : {part other : Element} → Goes layout known (Some part) (Some other) → (kind_seen (Some part) ≡ kind.Never → ⊥) → (type_of layout part ≡ field_type (type_of layout part)) × (type_of layout other ≡ field_type (type_of layout other))
  fields_typed {part = part} {other = other} go there = (sym (field_is (type_of layout part) (from_typed go there)), sym (field_is (type_of layout other) (to_typed go there)))

  pub some_levels : {from to : Option Element} (go : Goes layout known from to) → 1 ≤ levels go
  some_levels (goes.Never k) = omega arith
  some_levels (goes.Staying s) = omega arith
  some_levels (goes.Missing k t d) = omega arith
  some_levels (goes.Texted k t) = omega arith
  some_levels (goes.Items m n parts others a b all) = omega arith

module _ {layout : Layout} {known : Known} {g : Ghost} where
  mutual
    -- where both have one type, a value of the one is one of the other as it is
    pub goes_same : {from to : Option Element} {x : Value} {v : Meant} → Goes layout known from to → type_seen layout from ≡ type_seen layout to → Holds layout known g from x v → Holds layout known g to x v
    goes_same (goes.Never k) e held = absurd (never_held k held)
    goes_same (goes.Staying s) e held = stays_held s held
    goes_same {from = from} (goes.Missing k t d) e held = (let q : constant.Null ≡ constant.Bool false = sym d ∙ ap default_constant (sym e ∙ place_of_none layout from k) in absurd (cc))
    goes_same {from = from} {to = to} (goes.Texted k t) e held = (let q : type.Char ≡ type.Ptr 0 = sym (place_of_bytes layout from k) ∙ e ∙ texts_typed layout to t in absurd (cc))
    goes_same {x = x} (goes.Items m n parts others a b all) e held =
        let h = tuple_held m parts a held in
        let q : m ≡ n = same_struct m n (sym a.typed ∙ e ∙ b.typed) in
        Items others n h.xs h.vs b.is h.high b.typed (subst (λ n. use_of g x ≡ Some (StaysBlock (record { kind = n; fields = h.xs; items = [] }))) q h.is)
        (all_same all (sym a.fields ∙ ap (λ n. fields_at layout n) q ∙ b.fields) h.all)

    all_same : {parts others : List Element} {xs : List Value} {vs : List Meant} → AllGo layout known parts others → shape layout parts ≡ shape layout others → AllHold layout known g parts xs vs → AllHold layout known g others xs vs
    all_same goes.End e End = End
    all_same (goes.Next {part = part} {other = other} go all) e (Next held rest) =
        let t = fields_typed go (λ k. never_held k held) in
        let q : field_type (type_of layout part) ≡ field_type (type_of layout other) = cc in
        let r : shape layout _ ≡ shape layout _ = cc in
        Next (goes_same go (t.0 ∙ q ∙ sym t.1) held) (all_same all r rest)

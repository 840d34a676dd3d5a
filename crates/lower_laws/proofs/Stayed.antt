-- Values that are the same for another kind, and over more blocks.
use Rattle.std.proofs.Common.{◌≡◌, ℕ, zero, suc, true, false, List, [], ◌∷◌, ◌++◌, Option, Some, None, refl, sym, ap, ◌∙◌, subst}
use Rattle.std.specs.Prelude.{slice_index_or}
use Rattle.ann_element.specs.declared.element.Element.{Element}
use Rattle.csub_tree.specs.State.{Value, Ptr, Static, Block}
use Rattle.csub_tree.specs.Operation.{is_unset}
use Rattle.ll_code.specs.declared.program.LlType.{LlType}
use Rattle.ll_code.specs.declared.program.LlType.TheVariants as type
use Rattle.ll_texts.specs.Stands.{Stands, word, flag, byte, text, missing, nothing}
use Rattle.ll_texts.specs.Texts.{found}
use Rattle.ll_texts.proofs.Writing.{text_stays}
use Rattle.rpy_tree.specs.Value.{Value as Meant}
use Rattle.rtyper_layout.specs.declared.kind.Kind.{Kind}
use Rattle.rtyper_layout.specs.declared.kind.Kind.TheVariants as kind
use Rattle.rtyper_layout.specs.declared.layout.Layout.{Layout}
use Rattle.rtyper_layout.specs.Kinds.{kind_seen}
use Rattle.rtyper_layout.specs.Types.{type_seen, field_type}
use Rattle.rtyper_op.specs.Lowering.{never_comes}
use Rattle.lower_laws.specs.Tuples.{Stays, Same, Wider, Whole}
use Rattle.lower_laws.specs.Values.{is_plain, is_simple, Holds, Plain, Alone, Items, AllHold, End, Next}
use Rattle.lower_laws.proofs.Helps.{stands_set}
use Rattle.lower_laws.proofs.Typing.{place_of_words, place_of_flags, place_of_bytes, place_of_strings, place_of_texts, place_of_none}
use Rattle.lower_laws.proofs.Valued.{plain_stands}

-- ---- types

-- the type of a simple kind
abbrev pub simple_type : Kind → LlType
simple_type kind.Word = type.Signed
simple_type kind.Flag = type.Bool
simple_type kind.Byte = type.Char
simple_type kind.Text = type.Ptr 0
simple_type kind.MaybeText = type.Ptr 0
simple_type _ = type.Bool

pub simple_typed : (layout : Layout) (seen : Option Element) (k : Kind) → is_simple k ≡ true → kind_seen seen ≡ k → type_seen layout seen ≡ simple_type k
simple_typed layout seen kind.Word simple h = place_of_words layout seen h
simple_typed layout seen kind.Flag simple h = place_of_flags layout seen h
simple_typed layout seen kind.Byte simple h = place_of_bytes layout seen h
simple_typed layout seen kind.Text simple h = place_of_strings layout seen h
simple_typed layout seen kind.MaybeText simple h = place_of_texts layout seen h
simple_typed layout seen kind.Nothing simple h = place_of_none layout seen h
simple_typed layout seen _ simple h = absurd (cc)

pub simple_there : (k : Kind) → is_simple k ≡ true → simple_type k ≡ type.Void → ⊥
simple_there kind.Word simple h = absurd (cc)
simple_there kind.Flag simple h = absurd (cc)
simple_there kind.Byte simple h = absurd (cc)
simple_there kind.Text simple h = absurd (cc)
simple_there kind.MaybeText simple h = absurd (cc)
simple_there kind.Nothing simple h = absurd (cc)
simple_there _ simple h = absurd (cc)

simple_comes : (k : Kind) → is_simple k ≡ true → never_comes k ≡ false
simple_comes kind.Word simple = refl
simple_comes kind.Flag simple = refl
simple_comes kind.Byte simple = refl
simple_comes kind.Text simple = refl
simple_comes kind.MaybeText simple = refl
simple_comes kind.Nothing simple = refl
simple_comes _ simple = absurd (cc)

pub simple_apart : (k : Kind) → is_simple k ≡ true → k ≡ kind.Tuple → ⊥
simple_apart k simple e = (let q : false ≡ true = sym (ap is_simple e) ∙ simple in absurd (cc))

pub field_is : (t : LlType) → (t ≡ type.Void → ⊥) → field_type t ≡ t
field_is type.Void h = absurd (h refl)
field_is type.Signed h = refl
field_is type.Char h = refl
field_is type.Bool h = refl
field_is type.Fn h = refl
field_is (type.Ptr n) h = refl

module _ {layout : Layout} {from to : Option Element} where
  pub stays_typed : Stays layout from to → type_seen layout from ≡ type_seen layout to
  stays_typed (Same k simple f t) = simple_typed layout from k simple f ∙ sym (simple_typed layout to k simple t)
  stays_typed (Wider f t) = place_of_strings layout from f ∙ sym (place_of_texts layout to t)
  stays_typed (Whole n e k t) = ap (type_seen layout) e

  pub stays_there : Stays layout from to → type_seen layout to ≡ type.Void → ⊥
  stays_there (Same k simple f t) h = simple_there k simple (sym (simple_typed layout to k simple t) ∙ h)
  stays_there (Wider f t) h = (let q : type.Ptr 0 ≡ type.Void = sym (place_of_texts layout to t) ∙ h in absurd (cc))
  stays_there (Whole n e k t) h = (let q : type.Ptr n ≡ type.Void = sym t ∙ h in absurd (cc))

  pub stays_comes : Stays layout from to → never_comes (kind_seen from) ≡ false
  stays_comes (Same k simple f t) = ap never_comes f ∙ simple_comes k simple
  stays_comes (Wider f t) = ap never_comes f
  stays_comes (Whole n e k t) = ap never_comes (ap kind_seen e ∙ k)

-- ---- values

module _ {layout : Layout} {blocks : List (Option Block)} {statics : List Block} {x : Value} {v : Meant} where
  -- of one simple kind as of another element of it
  same_held : {from to : Option Element} (k : Kind) → is_simple k ≡ true → kind_seen from ≡ k → kind_seen to ≡ k → Holds layout blocks statics from x v → Holds layout blocks statics to x v
  same_held {from = from} {to = to} k simple f t (Plain p s) = Plain (ap is_plain (t ∙ sym f) ∙ p) (subst (λ r. Stands blocks statics r x v) (simple_typed layout from k simple f ∙ sym (simple_typed layout to k simple t)) s)
  same_held k simple f t (Alone h e g) = Alone (t ∙ sym f ∙ h) e g
  same_held k simple f t (Items parts n xs vs e g r is all) = absurd (simple_apart k simple (sym f ∙ ap kind_seen e))

  pub stays_held : {from to : Option Element} → Stays layout from to → Holds layout blocks statics from x v → Holds layout blocks statics to x v
  stays_held (Same k simple f t) held = same_held k simple f t held
  stays_held {from = from} {to = to} (Wider f t) held = Plain (ap is_plain t) (subst (λ r. Stands blocks statics r x v) (place_of_strings layout from f ∙ sym (place_of_texts layout to t)) (plain_stands (ap is_plain f) held))
  stays_held (Whole n e k t) held = subst (λ seen. Holds layout blocks statics seen x v) e held

found_set : (blocks : List (Option Block)) (statics : List Block) (x : Value) (b : Block) → found blocks statics x ≡ Some b → is_unset x ≡ false
found_set blocks statics (Ptr n) b e = refl
found_set blocks statics (Static g) b e = refl
found_set blocks statics _ b e = absurd (cc)

plain_there : (layout : Layout) (seen : Option Element) (k : Kind) → kind_seen seen ≡ k → is_plain k ≡ true → type_seen layout seen ≡ type.Void → ⊥
plain_there layout seen kind.Word h p e = (let q : type.Signed ≡ type.Void = sym (place_of_words layout seen h) ∙ e in absurd (cc))
plain_there layout seen kind.Flag h p e = (let q : type.Bool ≡ type.Void = sym (place_of_flags layout seen h) ∙ e in absurd (cc))
plain_there layout seen kind.Byte h p e = (let q : type.Char ≡ type.Void = sym (place_of_bytes layout seen h) ∙ e in absurd (cc))
plain_there layout seen kind.Text h p e = (let q : type.Ptr 0 ≡ type.Void = sym (place_of_strings layout seen h) ∙ e in absurd (cc))
plain_there layout seen kind.MaybeText h p e = (let q : type.Ptr 0 ≡ type.Void = sym (place_of_texts layout seen h) ∙ e in absurd (cc))
plain_there layout seen _ h p e = absurd (cc)

-- what is held is set
pub held_set : {layout : Layout} {blocks : List (Option Block)} {statics : List Block} {seen : Option Element} {x : Value} {v : Meant} → Holds layout blocks statics seen x v → is_unset x ≡ false
held_set {layout = layout} {seen = seen} (Plain p s) = stands_set (plain_there layout seen (kind_seen seen) refl p) s
held_set (Alone k e f) = ap is_unset e
held_set {blocks = blocks} {statics = statics} {x = x} (Items parts n xs vs e f t is all) = found_set blocks statics x (record { kind = n; fields = xs; items = [] }) is

-- ---- over more blocks

index_more : (bs later : List (Option Block)) (n : ℕ) (b : Block) → slice_index_or bs n None ≡ Some b → slice_index_or (bs ++ later) n None ≡ Some b
index_more [] later n b e = absurd (cc)
index_more (c ∷ bs) later zero b e = e
index_more (c ∷ bs) later (suc n) b e = index_more bs later n b e

found_more : (blocks later : List (Option Block)) (statics : List Block) (x : Value) (b : Block) → found blocks statics x ≡ Some b → found (blocks ++ later) statics x ≡ Some b
found_more blocks later statics (Ptr n) b e = index_more blocks later n b e
found_more blocks later statics (Static g) b e = e
found_more blocks later statics _ b e = absurd (cc)

pub stands_more : {blocks : List (Option Block)} {statics : List Block} {t : LlType} {x : Value} {v : Meant} (later : List (Option Block)) → Stands blocks statics t x v → Stands (blocks ++ later) statics t x v
stands_more later (word z f) = word z f
stands_more later (flag b) = flag b
stands_more later (byte b h) = byte b h
stands_more later (text y bytes h) = text y bytes (text_stays later h)
stands_more later missing = missing
stands_more later nothing = nothing

mutual
  pub holds_more : {layout : Layout} {blocks : List (Option Block)} {statics : List Block} {seen : Option Element} {x : Value} {v : Meant} (later : List (Option Block)) → Holds layout blocks statics seen x v → Holds layout (blocks ++ later) statics seen x v
  holds_more later (Plain p s) = Plain p (stands_more later s)
  holds_more later (Alone k e f) = Alone k e f
  holds_more {blocks = blocks} {statics = statics} {x = x} later (Items parts n xs vs e f t is all) = Items parts n xs vs e f t (found_more blocks later statics x (record { kind = n; fields = xs; items = [] }) is) (all_more later all)

  pub all_more : {layout : Layout} {blocks : List (Option Block)} {statics : List Block} {parts : List Element} {xs : List Value} {vs : List Meant} (later : List (Option Block)) → AllHold layout blocks statics parts xs vs → AllHold layout (blocks ++ later) statics parts xs vs
  all_more later End = End
  all_more later (Next held all) = Next (holds_more later held) (all_more later all)

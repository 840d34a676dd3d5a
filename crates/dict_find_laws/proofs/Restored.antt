-- A value that stands as a word in dicts, as what it is.
use Rattle.std.proofs.Common.{◌≡◌, ◌<◌, ◌≤◌, ℕ, ◌+◌, Bool, true, false, List, [], ◌∷◌, ◌++◌, length, Option, Some, None, Ok, Err, pos, refl, sym, ap, ◌∙◌, subst, arith}
use Rattle.std.specs.Prelude.{if◌then◌else◌, nat_lt, cond}
use Rattle.std.proofs.lemmas.Bool.Decides.{nat_tests}
use Rattle.std.proofs.lemmas.List.{append-nil}
use Rattle.ann_element.specs.declared.element.Element.{Element}
use Rattle.csub_tree.specs.State.{Value, Word, Byte, Flag, Core}
use Rattle.csub_tree.specs.Operation.{binary_of, unary_of}
use Rattle.csub_tree.specs.Statement.{operand}
use Rattle.csub_tree.specs.declared.stuck.StuckReason.TheVariants.{Word as BadWord}
use Rattle.csub_tree.specs.declared.tree.CBinary.TheVariants as binary
use Rattle.csub_tree.specs.declared.tree.CUnary.TheVariants as unary
use Rattle.csub_tree.specs.declared.tree.COperand.{COperand}
use Rattle.csub_tree.specs.declared.tree.COperand.TheVariants.{Var}
use Rattle.ll_code.specs.State.{Frame, At}
use Rattle.ll_code.specs.declared.program.LlType.{LlType}
use Rattle.ll_code.specs.declared.program.LlType.TheVariants as type
use Rattle.ll_code.specs.declared.program.LlOp.{LlOp}
use Rattle.ll_code.specs.declared.program.LlOp.TheVariants as op
use Rattle.ll_code.specs.declared.program.LlExit.{LlExit}
use Rattle.ll_code.specs.declared.program.LlProgram.{LlProgram}
use Rattle.ll_build.specs.Build.{word as word_operand}
use Rattle.ll_leads.proofs.Ways.{gives, rests, turns}
use Rattle.rpy_tree.specs.Value.{Value as Meant}
use Rattle.rtyper_layout.specs.declared.layout.Layout.{Layout}
use Rattle.rtyper_layout.specs.declared.classes.Laid.{Laid}
use Rattle.rtyper_layout.specs.Dicts.{is_plain}
use Rattle.rtyper_layout.specs.Kinds.{kind_seen}
use Rattle.rtyper_layout.specs.Types.{root_of, laid_in, type_seen}
use Rattle.rtyper_data.specs.declared.body.Body.{Body}
use Rattle.rtyper_dict.specs.Parts.{from_word, unstored}
use Rattle.lower_laws.specs.Tuples.{Same, Wider, Whole}
use Rattle.lower_laws.specs.Values.{IsBelow, is_simple}
use Rattle.lower_laws.proofs.Doing.{after, same_type_is}
use Rattle.lower_laws.proofs.Typing.{place_of_none, place_of_strings}
use Rattle.object_laws.specs.Dicts.{as_item, as_word}
use Rattle.object_laws.specs.Ghost.{Ghost}
use Rattle.object_laws.specs.Known.{Known}
use Rattle.object_laws.specs.Staying.{Stays, Plainly, AsList, AsMaybe, AsDict, AsMaybeDict, AsInstance, AsFunction}
use Rattle.object_laws.specs.Values.{Stands, word, flag, byte, text, missing, Holds, Plain, Alone, Items, Listed, Mapped, Made, Function, Missing}
use Rattle.object_laws.proofs.Passing.{none_passed, sets_more, is_set_at}
use Rattle.object_laws.proofs.Valued.{function_type, instance_type, simple_is_there}
use Rattle.dict_find_laws.proofs.Ready.{Went}

-- ---- what such a value is

-- of the type of truth values it is one, and of that of bytes a byte
pub record IsOf (t : LlType) (x : Value) : Type 0 where
  pub flags : t ≡ type.Bool → (b : Bool) × (x ≡ Flag b)
  pub bytes : t ≡ type.Char → (b : ℕ) × (b < 256) × (x ≡ Byte b)

pub flag_in : {g : Ghost} {t : LlType} {x : Value} {v : Meant} → t ≡ type.Bool → Stands g t x v → (b : Bool) × (x ≡ Flag b)
flag_in h (flag b) = (b, refl)
flag_in h (word z f) = absurd (cc)
flag_in h (byte b s) = absurd (cc)
flag_in h (text x bytes s) = absurd (cc)
flag_in h missing = absurd (cc)

pub byte_in : {g : Ghost} {t : LlType} {x : Value} {v : Meant} → t ≡ type.Char → Stands g t x v → (b : ℕ) × (b < 256) × (x ≡ Byte b)
byte_in h (byte b s) = (b, s, refl)
byte_in h (word z f) = absurd (cc)
byte_in h (flag b) = absurd (cc)
byte_in h (text x bytes s) = absurd (cc)
byte_in h missing = absurd (cc)

-- a pointer
no_pointer : (t : LlType) (n : ℕ) → t ≡ type.Ptr n → is_plain t ≡ true → ⊥
no_pointer t n h plain = (let q : false ≡ true = sym (ap is_plain h) ∙ plain in absurd (cc))

no_function : (t : LlType) → t ≡ type.Fn → is_plain t ≡ true → ⊥
no_function t h plain = (let q : false ≡ true = sym (ap is_plain h) ∙ plain in absurd (cc))

no_root : (o : Option Laid) → is_plain (root_of o) ≡ true → ⊥
no_root None h = absurd (cc)
no_root (Some l) h = absurd (cc)

module _ {layout : Layout} {known : Known} {from to : Option Element} where
  -- what stays and has such a type is simple
  simple_so : Stays layout known from to → is_plain (type_seen layout from) ≡ true → is_simple (kind_seen from) ≡ true
  simple_so (Plainly (Same k simple f t)) plain = ap is_simple f ∙ simple
  simple_so (Plainly (Wider f t)) plain = absurd (no_pointer (type_seen layout from) 0 (place_of_strings layout from f) plain)
  simple_so (Plainly (Whole n e k t)) plain = absurd (no_pointer (type_seen layout from) n (ap (type_seen layout) e ∙ t) plain)
  simple_so (AsList n f t k l) plain = absurd (no_pointer (type_seen layout from) n f plain)
  simple_so (AsMaybe n f t k l) plain = absurd (no_pointer (type_seen layout from) n f plain)
  simple_so (AsDict n f t k l) plain = absurd (no_pointer (type_seen layout from) n f plain)
  simple_so (AsMaybeDict n f t k l) plain = absurd (no_pointer (type_seen layout from) n f plain)
  simple_so (AsInstance n a b r s f t k l m i) plain = absurd (no_pointer (type_seen layout from) n f plain)
  simple_so (AsFunction fs gs r s f t m i) plain = absurd (no_function (type_seen layout from) (ap (type_seen layout) f ∙ function_type layout fs r) plain)

module _ {layout : Layout} {known : Known} {g : Ghost} {seen : Option Element} {x : Value} {v : Meant} where
  plain_in : {A : Type 0} → is_simple (kind_seen seen) ≡ true → is_plain (type_seen layout seen) ≡ true → (Stands g (type_seen layout seen) x v → A) → ((type_seen layout seen ≡ type.Bool) → x ≡ Flag false → A) → Holds layout known g seen x v → A
  plain_in simple plain f alone (Plain p s) = f s
  plain_in simple plain f alone (Alone k e h) = alone (place_of_none layout seen k) e
  plain_in simple plain f alone (Items parts n xs vs e h t is all) = absurd (no_pointer (type_seen layout seen) n t plain)
  plain_in simple plain f alone (Listed n i k h t s home) = absurd (no_pointer (type_seen layout seen) n t plain)
  plain_in simple plain f alone (Mapped n i m k h t s home) = absurd (no_pointer (type_seen layout seen) n t plain)
  plain_in simple plain f alone (Made class r c i e h b home) = absurd (no_root (laid_in layout.classes class) (ap is_plain (sym (ap (type_seen layout) e ∙ instance_type layout class r)) ∙ plain))
  plain_in simple plain f alone (Function fs r fn n e k b l y) = absurd (no_function (type_seen layout seen) (ap (type_seen layout) e ∙ function_type layout fs r) plain)
  plain_in simple plain f alone (Missing k e h) = absurd (simple_is_there (kind_seen seen) k simple)

pub is_of : {layout : Layout} {known : Known} {from to : Option Element} {g : Ghost} {x : Value} {v : Meant} → Stays layout known from to → Holds layout known g from x v → IsOf (type_seen layout from) x
is_of {layout = layout} {from = from} stays held = record {
  flags = λ h. (let plain = ap is_plain h in plain_in (simple_so stays plain) plain (flag_in h) (λ t e. (false, e)) held);
  bytes = λ h. (let plain = ap is_plain h in plain_in (simple_so stays plain) plain (byte_in h) (λ t e. absurd (let q : type.Bool ≡ type.Char = sym t ∙ h in cc)) held);
}

pub flag_back : (b : Bool) → binary_of binary.Ne (Word (if b then pos 1 else pos 0)) (Word (pos 0)) ≡ Ok (Flag b)
flag_back true = refl
flag_back false = refl

pub byte_back : (b : ℕ) → b < 256 → unary_of unary.S2C (Word (pos b)) ≡ Ok (Byte b)
byte_back b h = (let e : nat_lt b 256 ≡ true = grind (arith, nat_tests, h) in ap (λ t. cond t (Ok (Byte b)) (Err BadWord)) e)

-- ---- what is written for it

pub record Restored (item t : LlType) (x : COperand) (body : Body) : Type 0 where
  pub y : COperand
  pub ops : List LlOp
  pub new : List LlType
  pub written : unstored item t x body ≡ (y, record { types = body.types ++ new; ops = body.ops ++ ops })
  pub inside : IsBelow (length body.types) x → IsBelow (length body.types + length new) y
  pub enters : (p : LlProgram) (arguments : List (List ℕ)) (rest : List LlOp) (e : LlExit) (frames : List Frame) (core : Core) (value : Value) → length body.types + length new ≤ length core.vars → operand core.vars x ≡ as_item t item value → IsOf t value
      → Went p arguments (At (ops ++ rest) e frames core) rest e frames core (length body.types) y value

module _ (x : COperand) (body : Body) where
  abbrev k : ℕ
  k = length body.types

  as_it_is : (item t : LlType) → unstored item t x body ≡ (x, body) → ((value : Value) → as_item t item value ≡ value) → Restored item t x body
  as_it_is item t same kept = record {
    y = x;
    ops = [];
    new = [];
    written = same ∙ ap (λ ts. (x, record body { types = ts })) (sym (append-nil body.types)) ∙ ap (λ os. (x, record body { types = body.types ++ []; ops = os })) (sym (append-nil body.ops));
    inside = λ below. subst (λ k. IsBelow k x) (let q : k ≡ k + 0 = omega arith in q) below;
    enters = λ p arguments rest e frames core value room is of. record { mid = core; way = rests; passed = none_passed; is = is ∙ kept value };
  }

  same_kept : (t : LlType) → Restored t t x body
  unfolding unstored
  same_kept t = as_it_is t t (ap (λ b. if b then (x, body) else from_word t x body) (same_type_is t)) (λ value. ap (λ b. if b then value else as_word value) (same_type_is t))

  from_words : (t : LlType) → is_plain t ≡ true → Restored type.Signed t x body
  unfolding unstored
  from_words type.Signed h = same_kept type.Signed
  from_words type.Bool h = record {
    y = Var k;
    ops = op.Binary k binary.Ne x (word_operand (pos 0)) ∷ [];
    new = type.Bool ∷ [];
    written = refl;
    inside = λ below. (let q : k < k + 1 = omega arith in q);
    enters = λ p arguments rest e frames core value room is of. (let it = of.flags refl in record {
      mid = after core k (Flag it.0);
      way = gives (Flag it.0) (ap (λ z. binary_of binary.Ne z (Word (pos 0))) (is ∙ ap (as_item type.Bool type.Signed) it.1) ∙ flag_back it.0);
      passed = sets_more k (Flag it.0) (omega arith) none_passed;
      is = is_set_at core k (Flag it.0) (omega (arith, room)) ∙ sym it.1;
    });
  }
  from_words type.Char h = record {
    y = Var k;
    ops = op.Unary k unary.S2C x ∷ [];
    new = type.Char ∷ [];
    written = refl;
    inside = λ below. (let q : k < k + 1 = omega arith in q);
    enters = λ p arguments rest e frames core value room is of. (let it = of.bytes refl in record {
      mid = after core k (Byte it.0);
      way = turns (Byte it.0) (ap (unary_of unary.S2C) (is ∙ ap (as_item type.Char type.Signed) it.2) ∙ byte_back it.0 it.1);
      passed = sets_more k (Byte it.0) (omega arith) none_passed;
      is = is_set_at core k (Byte it.0) (omega (arith, room)) ∙ sym it.2;
    });
  }
  from_words type.Void h = absurd (cc)
  from_words type.Fn h = absurd (cc)
  from_words (type.Ptr n) h = absurd (cc)

  pub restored : (q : Bool) (t : LlType) → (q ≡ true → is_plain t ≡ true) → Restored (if q then type.Signed else t) t x body
  restored true t h = from_words t (h refl)
  restored false t h = same_kept t

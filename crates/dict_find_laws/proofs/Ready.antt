-- A dict that has to be there, and a key as it stands in dicts.
use Rattle.std.proofs.Common.{◌≡◌, ◌<◌, ◌≤◌, ℕ, ◌+◌, ◌||◌, ◌⊎◌, inl, inr, Bool, true, false, List, [], ◌∷◌, ◌++◌, length, Some, Ok, refl, sym, ap, ◌∙◌, subst, arith}
use Rattle.std.specs.Prelude.{if◌then◌else◌}
use Rattle.std.proofs.lemmas.List.{append-nil}
use Rattle.rpy_base.specs.declared.outcome.FailName.TheVariants as fail
use Rattle.csub_tree.specs.State.{Value, Flag, Null, Core}
use Rattle.csub_tree.specs.Operation.{is_unset, compared, unary_of}
use Rattle.csub_tree.specs.Statement.{operand}
use Rattle.csub_tree.specs.declared.tree.CUnary.TheVariants as unary
use Rattle.csub_tree.specs.declared.tree.COperand.{COperand}
use Rattle.csub_tree.specs.declared.tree.COperand.TheVariants.{Var}
use Rattle.ll_code.specs.State.{Frame, State, At}
use Rattle.ll_code.specs.declared.program.LlType.{LlType}
use Rattle.ll_code.specs.declared.program.LlType.TheVariants as type
use Rattle.ll_code.specs.declared.program.LlOp.{LlOp}
use Rattle.ll_code.specs.declared.program.LlOp.TheVariants as op
use Rattle.ll_code.specs.declared.program.LlExit.{LlExit}
use Rattle.ll_code.specs.declared.program.LlProgram.{LlProgram}
use Rattle.ll_build.specs.declared.needs.Numbers.{Numbers}
use Rattle.ll_leads.specs.Path.{Leads}
use Rattle.ll_leads.proofs.Ways.{call, on, rests, turns}
use Rattle.rpy_meaning.specs.World.{World, failure}
use Rattle.rpy_tree.specs.Value.{Value as Meant}
use Rattle.rtyper_layout.specs.declared.kind.Kind.{Kind}
use Rattle.rtyper_layout.specs.declared.kind.Kind.TheVariants as kind
use Rattle.rtyper_layout.specs.Dicts.{is_plain}
use Rattle.rtyper_data.specs.declared.body.Body.{Body}
use Rattle.rtyper_data.specs.declared.small.Small.TheVariants as small
use Rattle.rtyper_data.specs.Converting.{by_small, present}
use Rattle.rtyper_data.specs.Finding.{small_number}
use Rattle.rtyper_data.specs.Seen.{Around, Operand, Place, kind_of, type_of, Writing, writing}
use Rattle.rtyper_dict.specs.Operands.{of_dict, of_dict_or_none, there}
use Rattle.rtyper_dict.specs.Parts.{as_word, stored}
use Rattle.lower_laws.specs.Asked.{all_asked, HasSmall}
use Rattle.lower_laws.specs.Values.{IsBelow}
use Rattle.lower_laws.proofs.Doing.{after, same_type_is}
use Rattle.dict_find_laws.specs.Asked.{HasAll}
use Rattle.dict_op_laws.specs.Dicts.{if_missing, there_asks}
use Rattle.object_laws.specs.Dicts.{as_item, as_word as word_of}
use Rattle.object_laws.specs.Known.{Known}
use Rattle.object_laws.specs.Done.{Follows}
use Rattle.object_laws.specs.Ghost.{Ghost}
use Rattle.object_laws.specs.Values.{Stands, word, flag, byte, text, missing}
use Rattle.object_laws.proofs.Passing.{Passed, none_passed, sets_more, is_set_at, throws_at, fails_at}
use Rattle.list_copy_laws.proofs.Ready.{Went as Reached}
use Rattle.object_laws.proofs.Held.{gives_holds, gives_placed}
use Rattle.object_laws.proofs.Present.{present_comes, present_flies, present_fails}

-- a way to where an operand is a value
pub record Went (p : LlProgram) (args : List (List ℕ)) (s : State) (ops : List LlOp) (e : LlExit) (frames : List Frame) (core : Core) (below : ℕ) (x : COperand) (value : Value) : Type 0 where
  pub mid : Core
  pub way : Leads p args 0 s [] (At ops e frames mid)
  pub passed : Passed below core mid
  pub is : operand mid.vars x ≡ value

-- ---- the dict

-- what is written for it, and what that does
pub record Ready (around : Around) (a : Operand) (w : Writing) : Type 0 where
  pub x : COperand
  pub ops : List LlOp
  pub new : List LlType
  pub written : there around a w ≡ (x, writing (all_asked (there_asks around a w.found.covered) w.found) (record { types = w.body.types ++ new; ops = w.body.ops ++ ops }))
  pub inside : IsBelow (length w.body.types) a.x → IsBelow (length w.body.types + length new) x
  pub enters : (p : LlProgram) (numbers : Numbers) (raised : ℕ → Value) (arguments : List (List ℕ)) (rest : List LlOp) (e : LlExit) (frames : List Frame) (before core : Core)
      → HasAll p around.layout numbers raised before (there_asks around a w.found.covered) w.found → length w.body.types + length new ≤ length core.vars
      → is_unset (operand core.vars a.x) ≡ false → compared (operand core.vars a.x) Null ≡ Ok (Flag false)
      → Reached p arguments (At (ops ++ rest) e frames core) rest e frames core (length w.body.types) x (operand core.vars a.x)
  pub misses : (count : ℕ) (known : Known) (place : Place) (p : LlProgram) (numbers : Numbers) (raised : ℕ → Value) (arguments : List (List ℕ)) (later rest : List LlOp) (e : LlExit) (frames : List Frame) (before core : Core) (g : Ghost) (most below : ℕ) (world : World)
      → HasAll p around.layout numbers raised before (there_asks around a w.found.covered) w.found → kind_of a ≡ kind.MaybeDict → operand core.vars a.x ≡ Null
      → Follows count known around place p arguments (At (ops ++ (later ++ rest)) e frames core) rest e frames core g raised most below world (failure w.found.covered.attribute 9 fail.Attribute world)

module _ (around : Around) (a : Operand) (w : Writing) where
  abbrev m : ℕ
  m = length w.body.types

  -- ---- one that is there

  module _ (h : kind_of a ≡ kind.Dict) where
    none_asked : all_asked (there_asks around a w.found.covered) w.found ≡ w.found
    none_asked = ap (λ k. all_asked (if_missing (of_dict_or_none k) (type_of around a) w.found.covered) w.found) h

    itself : there around a w ≡ (a.x, w)
    unfolding there
    itself = ap (λ k. present around a (of_dict_or_none k) w) h

    by_itself : Ready around a w
    by_itself = record {
      x = a.x;
      ops = [];
      new = [];
      written = itself ∙ ap (λ f. (a.x, writing f w.body)) (sym none_asked)
          ∙ ap (λ ts. (a.x, writing (all_asked (there_asks around a w.found.covered) w.found) (record { types = ts; ops = w.body.ops }))) (sym (append-nil w.body.types))
          ∙ ap (λ os. (a.x, writing (all_asked (there_asks around a w.found.covered) w.found) (record { types = w.body.types ++ []; ops = os }))) (sym (append-nil w.body.ops));
      inside = λ below. subst (λ k. IsBelow k a.x) (let q : m ≡ m + 0 = omega arith in q) below;
      enters = λ p numbers raised arguments rest e frames before core has room set there. record { mid = core; way = rests; passed = none_passed; is = refl; lacks = λ d. d };
      misses = λ count known place p numbers raised arguments later rest e frames before core g most below world has k low. absurd (let q : kind.Dict ≡ kind.MaybeDict = sym h ∙ k in cc);
    }

  -- ---- one that may be missing

  module _ (h : kind_of a ≡ kind.MaybeDict) where
    abbrev number : ℕ
    number = (small_number (small.Present (type_of around a) w.found.covered.attribute) w.found).0

    asked_is : all_asked (there_asks around a w.found.covered) w.found ≡ (small_number (small.Present (type_of around a) w.found.covered.attribute) w.found).1
    asked_is = ap (λ k. all_asked (if_missing (of_dict_or_none k) (type_of around a) w.found.covered) w.found) h

    called : there around a w ≡ (Var m, writing (small_number (small.Present (type_of around a) w.found.covered.attribute) w.found).1 (record { types = w.body.types ++ type_of around a ∷ []; ops = w.body.ops ++ op.Call (Some m) number (a.x ∷ []) ∷ [] }))
    unfolding there by_small
    called = ap (λ k. present around a (of_dict_or_none k) w) h

    module _ (p : LlProgram) (numbers : Numbers) (raised : ℕ → Value) (arguments : List (List ℕ)) (before core : Core) (has : HasAll p around.layout numbers raised before (there_asks around a w.found.covered) w.found) where
      present_has : HasSmall p around.layout raised (small.Present (type_of around a) w.found.covered.attribute) number
      present_has = (subst (λ k. HasAll p around.layout numbers raised before (if_missing (of_dict_or_none k) (type_of around a) w.found.covered) w.found) h has).0

      missing_follows : (count : ℕ) (known : Known) (place : Place) (later rest : List LlOp) (e : LlExit) (frames : List Frame) (g : Ghost) (most below : ℕ) (world : World) → operand core.vars a.x ≡ Null
          → (c : Bool) → HasSmall p around.layout raised (small.Present (type_of around a) c) number
          → Follows count known around place p arguments (At (op.Call (Some m) number (a.x ∷ []) ∷ (later ++ rest)) e frames core) rest e frames core g raised most below world (failure c 9 fail.Attribute world)
      missing_follows count known place later rest e frames g most below world low true s = throws_at (ap (λ x. x ∷ []) low) refl later rest (present_flies p around.layout arguments raised (type_of around a) number core s)
      missing_follows count known place later rest e frames g most below world low false s = fails_at (ap (λ x. x ∷ []) low) refl (later ++ rest) (present_fails p around.layout arguments raised (type_of around a) number core s)

      went : (rest : List LlOp) (e : LlExit) (frames : List Frame) → m + 1 ≤ length core.vars → is_unset (operand core.vars a.x) ≡ false → compared (operand core.vars a.x) Null ≡ Ok (Flag false)
          → Reached p arguments (At (op.Call (Some m) number (a.x ∷ []) ∷ rest) e frames core) rest e frames core m (Var m) (operand core.vars a.x)
      went rest e frames room set there =
          let way : Leads p arguments 0 (At (op.Call (Some m) number (a.x ∷ []) ∷ rest) e frames core) [] (At rest e frames (after core m (operand core.vars a.x))) =
          call (ap (λ b. b || false) set) (present_comes p around.layout arguments raised (type_of around a) number core w.found.covered.attribute present_has (operand core.vars a.x) set there) in
          record {
            mid = after core m (operand core.vars a.x);
            way = way;
            passed = sets_more m (operand core.vars a.x) (omega arith) none_passed;
            is = is_set_at core m (operand core.vars a.x) (omega (arith, room));
            lacks = λ d. record {
              last = d.last;
              leads = on way d.leads;
              ends = d.ends;
              blocks = d.blocks;
              holds = λ placed b k. gives_holds p m number a.x rest e frames core b (d.holds (gives_placed p m number a.x rest e frames core placed) b k);
            };
          }

    by_present : Ready around a w
    by_present = record {
      x = Var m;
      ops = op.Call (Some m) number (a.x ∷ []) ∷ [];
      new = type_of around a ∷ [];
      written = called ∙ ap (λ f. (Var m, writing f (record { types = w.body.types ++ type_of around a ∷ []; ops = w.body.ops ++ op.Call (Some m) number (a.x ∷ []) ∷ [] }))) (sym asked_is);
      inside = λ below. (let q : m < m + 1 = omega arith in q);
      enters = λ p numbers raised arguments rest e frames before core has room set there. went p numbers raised arguments before core has rest e frames room set there;
      misses = λ count known place p numbers raised arguments later rest e frames before core g most below world has k low.
          missing_follows p numbers raised arguments before core has count known place later rest e frames g most below world low w.found.covered.attribute (present_has p numbers raised arguments before core has);
    }

  -- ---- either

  ready_by : (k : Kind) → kind_of a ≡ k → of_dict k ≡ true → Ready around a w
  ready_by kind.Dict h l = by_itself h
  ready_by kind.MaybeDict h l = by_present h
  ready_by _ h l = absurd (cc)

  pub ready : of_dict (kind_of a) ≡ true → Ready around a w
  ready h = ready_by (kind_of a) refl h

-- ---- the key

-- how a key of this type stands in an array
abbrev pub kept_as : LlType → LlType
kept_as t = if is_plain t then type.Signed else t

-- what is written for it, and what that does
pub record Stored (t : LlType) (x : COperand) (body : Body) : Type 0 where
  pub y : COperand
  pub ops : List LlOp
  pub new : List LlType
  pub written : stored t (kept_as t) x body ≡ (y, record { types = body.types ++ new; ops = body.ops ++ ops })
  pub inside : IsBelow (length body.types) x → IsBelow (length body.types + length new) y
  pub enters : (p : LlProgram) (arguments : List (List ℕ)) (rest : List LlOp) (e : LlExit) (frames : List Frame) (core : Core) (g : Ghost) (v : Meant) → length body.types + length new ≤ length core.vars → (is_plain t ≡ true → Stands g t (operand core.vars x) v)
      → Went p arguments (At (ops ++ rest) e frames core) rest e frames core (length body.types) y (as_item t (kept_as t) (operand core.vars x))

module _ (x : COperand) (body : Body) where
  abbrev k : ℕ
  k = length body.types

  -- it stands as it is
  as_it_is : (t : LlType) → stored t (kept_as t) x body ≡ (x, body) → ((value : Value) → as_item t (kept_as t) value ≡ value) → Stored t x body
  as_it_is t same kept = record {
    y = x;
    ops = [];
    new = [];
    written = same ∙ ap (λ ts. (x, record body { types = ts })) (sym (append-nil body.types)) ∙ ap (λ os. (x, record body { types = body.types ++ []; ops = os })) (sym (append-nil body.ops));
    inside = λ below. subst (λ k. IsBelow k x) (let q : k ≡ k + 0 = omega arith in q) below;
    enters = λ p arguments rest e frames core g v room s. record { mid = core; way = rests; passed = none_passed; is = sym (kept (operand core.vars x)) };
  }

  flag_word : {g : Ghost} {t : LlType} {value : Value} {v : Meant} → t ≡ type.Bool → Stands g t value v → unary_of unary.B2S value ≡ Ok (as_item type.Bool type.Signed value)
  flag_word h (flag true) = refl
  flag_word h (flag false) = refl
  flag_word h (word z f) = absurd (cc)
  flag_word h (byte b s) = absurd (cc)
  flag_word h (text y bytes s) = absurd (cc)
  flag_word h missing = absurd (cc)

  byte_word : {g : Ghost} {t : LlType} {value : Value} {v : Meant} → t ≡ type.Char → Stands g t value v → unary_of unary.C2S value ≡ Ok (as_item type.Char type.Signed value)
  byte_word h (byte b s) = refl
  byte_word h (word z f) = absurd (cc)
  byte_word h (flag b) = absurd (cc)
  byte_word h (text y bytes s) = absurd (cc)
  byte_word h missing = absurd (cc)

  pub stored_key_ready : (t : LlType) → (is_plain t ≡ true) ⊎ ((q : ℕ) × (t ≡ type.Ptr q)) → Stored t x body
  unfolding stored
  stored_key_ready type.Signed h = as_it_is type.Signed refl (λ value. refl)
  stored_key_ready type.Bool h = record {
    y = Var k;
    ops = op.Unary k unary.B2S x ∷ [];
    new = type.Signed ∷ [];
    written = refl;
    inside = λ below. (let q : k < k + 1 = omega arith in q);
    enters = λ p arguments rest e frames core g v room s. record {
      mid = after core k (as_item type.Bool type.Signed (operand core.vars x));
      way = turns (as_item type.Bool type.Signed (operand core.vars x)) (flag_word refl (s refl));
      passed = sets_more k (as_item type.Bool type.Signed (operand core.vars x)) (omega arith) none_passed;
      is = is_set_at core k (as_item type.Bool type.Signed (operand core.vars x)) (omega (arith, room));
    };
  }
  stored_key_ready type.Char h = record {
    y = Var k;
    ops = op.Unary k unary.C2S x ∷ [];
    new = type.Signed ∷ [];
    written = refl;
    inside = λ below. (let q : k < k + 1 = omega arith in q);
    enters = λ p arguments rest e frames core g v room s. record {
      mid = after core k (as_item type.Char type.Signed (operand core.vars x));
      way = turns (as_item type.Char type.Signed (operand core.vars x)) (byte_word refl (s refl));
      passed = sets_more k (as_item type.Char type.Signed (operand core.vars x)) (omega arith) none_passed;
      is = is_set_at core k (as_item type.Char type.Signed (operand core.vars x)) (omega (arith, room));
    };
  }
  stored_key_ready (type.Ptr n) (inr h) = as_it_is (type.Ptr n) (ap (λ c. if c then (x, body) else as_word (type.Ptr n) x body) (same_type_is (type.Ptr n))) (λ value. ap (λ c. if c then value else word_of value) (same_type_is (type.Ptr n)))
  stored_key_ready (type.Ptr n) (inl h) = absurd (cc)
  stored_key_ready type.Void (inl h) = absurd (cc)
  stored_key_ready type.Void (inr h) = absurd (let q = h.1 in cc)
  stored_key_ready type.Fn (inl h) = absurd (cc)
  stored_key_ready type.Fn (inr h) = absurd (let q = h.1 in cc)

-- An operand that is a string, is made one, or may be `None`: what is written for it, and what that does.
use Rattle.std.proofs.Common.{◌≡◌, ◌≤◌, ◌⊎◌, inl, inr, ◌||◌, ℕ, ◌+◌, Bool, true, false, List, [], ◌∷◌, ◌++◌, length, Some, refl, sym, ap, ◌∙◌, subst, arith}
use Rattle.rpy_base.specs.declared.outcome.FailName.TheVariants as fail
use Rattle.csub_tree.specs.State.{Value, Null, Core}
use Rattle.csub_tree.specs.Statement.{operand}
use Rattle.csub_tree.specs.declared.tree.COperand.{COperand}
use Rattle.csub_tree.specs.declared.tree.COperand.TheVariants.{Var}
use Rattle.ll_code.specs.State.{Frame, State, At}
use Rattle.ll_code.specs.declared.program.LlType.{LlType}
use Rattle.ll_code.specs.declared.program.LlType.TheVariants as type
use Rattle.ll_code.specs.declared.program.LlOp.{LlOp}
use Rattle.ll_code.specs.declared.program.LlOp.TheVariants as op
use Rattle.ll_code.specs.declared.program.LlExit.{LlExit}
use Rattle.ll_code.specs.declared.program.LlProgram.{LlProgram}
use Rattle.ll_build.specs.declared.needs.Numbers.{Numbers}
use Rattle.ll_leads.specs.Path.{Leads}
use Rattle.ll_leads.proofs.Ways.{on, call}
use Rattle.ll_texts.specs.Stands.{Stands, text}
use Rattle.ll_texts.specs.Texts.{IsText}
use Rattle.ll_texts.proofs.Reading.{is_set, is_there}
use Rattle.rpy_tree.specs.Value.{Text}
use Rattle.rpy_meaning.specs.World.{World, failure}
use Rattle.rtyper_layout.specs.declared.kind.Kind.TheVariants as kind
use Rattle.rtyper_data.specs.declared.small.Small.TheVariants as small
use Rattle.rtyper_data.specs.declared.found.Found.{Found}
use Rattle.rtyper_data.specs.Converting.{by_small, given, present}
use Rattle.list_shape.specs.Shapes.{taking}
use Rattle.rtyper_layout.specs.declared.kind.Kind.{Kind}
use Rattle.rtyper_data.specs.Finding.{small_number}
use Rattle.rtyper_data.specs.Seen.{Around, Operand, Place, kind_of, type_of, Writing, writing}
use Rattle.rtyper_list.specs.Methods.{of_text_or_none, text_there, with_value}
use Rattle.lower_laws.specs.Asked.{Ask, HasAll, HasSmall, all_asked, number_of}
use Rattle.lower_laws.specs.Texted.{asks_of, text_asks}
use Rattle.lower_laws.specs.Values.{Holds as LowHolds}
use Rattle.lower_laws.proofs.Chained.{Reached}
use Rattle.lower_laws.proofs.Doing.{after}
use Rattle.lower_laws.proofs.Texted.{Texted, texted}
use Rattle.lower_laws.proofs.Tupled.{given_same}
use Rattle.lower_laws.proofs.Typing.{place_of_texts}
use Rattle.csub_tree.specs.Operation.{compared, is_unset}
use Rattle.lower_laws.proofs.Valued.{text_held}
use Rattle.object_laws.specs.Done.{AllAsked, Follows}
use Rattle.object_laws.specs.Ghost.{Ghost}
use Rattle.object_laws.specs.Known.{Known}
use Rattle.object_laws.proofs.Held.{gives_holds, gives_placed}
use Rattle.object_laws.proofs.Passing.{fails_at, is_set_at, none_passed, sets_more, throws_at}
use Rattle.object_laws.proofs.Present.{present_comes, present_fails, present_flies}
use Rattle.list_copy_laws.proofs.Ready.{Went}
use Rattle.split_laws.specs.Asked.{Has}
use Rattle.split_laws.specs.Splitting.{asks_by, can_be_split}

-- ---- what is asked for, some first

module _ (H : Ask → Found → Type 0) where
  pub asked_first : (asks more : List Ask) (found : Found) → AllAsked H (asks ++ more) found → AllAsked H asks found
  asked_first [] more found h = tt
  asked_first (a ∷ asks) more found h = (h.0, asked_first asks more (number_of a found).1 h.1)

  pub asked_more : (asks more : List Ask) (found : Found) → AllAsked H (asks ++ more) found → AllAsked H more (all_asked asks found)
  asked_more [] more found h = h
  asked_more (a ∷ asks) more found h = asked_more asks more (number_of a found).1 h.1

-- ---- a string

-- a way to where the string stands in an operand
pub record Worded (p : LlProgram) (args : List (List ℕ)) (s : State) (ops : List LlOp) (e : LlExit) (frames : List Frame) (core : Core) (below : ℕ) (x : COperand) (bytes : List ℕ) : Type 0 where
  pub value : Value
  pub went : Went p args s ops e frames core below x value
  pub stands : IsText went.mid.blocks went.mid.statics value bytes

pub went_of : {p : LlProgram} {args : List (List ℕ)} {s : State} {ops : List LlOp} {e : LlExit} {frames : List Frame} {core : Core} {below : ℕ} (x : COperand) (value : Value) (mid : Core) → operand mid.vars x ≡ value → Reached p args s ops e frames core mid below → Went p args s ops e frames core below x value
went_of x value mid is r = record {
  mid = mid;
  way = r.leads;
  passed = record { memory = r.memory; others = r.others; room = r.room; function = r.function; block = r.block };
  is = is;
  lacks = λ d. record { last = d.last; leads = on r.leads d.leads; ends = d.ends; blocks = d.blocks ∙ ap (λ (c : Core). c.blocks) r.memory; holds = λ placed b k. r.holds b (d.holds (r.placed placed) b k) };
}

-- a value that stands there and is a string
text_in : {p : LlProgram} {args : List (List ℕ)} {s : State} {ops : List LlOp} {e : LlExit} {frames : List Frame} {core : Core} {below : ℕ} (x : COperand) (bytes : List ℕ) (mid : Core) → Reached p args s ops e frames core mid below → (y : Value) → operand mid.vars x ≡ y → Stands mid.blocks mid.statics (type.Ptr 0) y (Text bytes) → Worded p args s ops e frames core below x bytes
unfolding went_of
text_in x bytes mid r y is (text z all t) = record { value = z; went = went_of x z mid is r; stands = t }

pub record Word (around : Around) (a : Operand) (w : Writing) : Type 0 where
  pub x : COperand
  pub ops : List LlOp
  pub new : List LlType
  pub written : text_there around a w ≡ (x, writing (all_asked (asks_by (kind_of a) (type_of around a) w.found.covered) w.found) (record { types = w.body.types ++ new; ops = w.body.ops ++ ops }))
  pub enters : (p : LlProgram) (numbers : Numbers) (raised : ℕ → Value) (arguments : List (List ℕ)) (rest : List LlOp) (e : LlExit) (frames : List Frame) (core : Core) (bytes : List ℕ)
      → AllAsked (Has p around.layout numbers raised core) (asks_by (kind_of a) (type_of around a) w.found.covered) w.found → length w.body.types + length new ≤ length core.vars → LowHolds around.layout core.blocks core.statics a.element (operand core.vars a.x) (Text bytes)
      → Worded p arguments (At (ops ++ rest) e frames core) rest e frames core (length w.body.types) x bytes
  pub misses : (count : ℕ) (known : Known) (place : Place) (p : LlProgram) (numbers : Numbers) (raised : ℕ → Value) (arguments : List (List ℕ)) (later rest : List LlOp) (e : LlExit) (frames : List Frame) (core : Core) (g : Ghost) (most below : ℕ) (world : World)
      → AllAsked (Has p around.layout numbers raised core) (asks_by (kind_of a) (type_of around a) w.found.covered) w.found → kind_of a ≡ kind.MaybeText → operand core.vars a.x ≡ Null
      → Follows count known around place p arguments (At (ops ++ (later ++ rest)) e frames core) rest e frames core g raised most below world (failure w.found.covered.attribute 9 fail.Attribute world)

module _ (around : Around) (a : Operand) (w : Writing) where
  -- one that is a string, or becomes one
  module _ (A : Texted around a w) (plain : of_text_or_none (kind_of a) ≡ false) (asks : asks_by (kind_of a) (type_of around a) w.found.covered ≡ asks_of a) (never : kind_of a ≡ kind.MaybeText → ⊥)
      (low : (p : LlProgram) (numbers : Numbers) (raised : ℕ → Value) (core : Core) → AllAsked (Has p around.layout numbers raised core) (asks_by (kind_of a) (type_of around a) w.found.covered) w.found → HasAll p around.layout numbers raised core (asks_of a) w.found) where
    as_text : Word around a w
    unfolding text_there
    as_text = record {
      x = A.x;
      ops = A.ops;
      new = A.new;
      written = ap (λ c. given_then (present around a c w)) plain ∙ A.is ∙ ap (λ f. (A.x, writing f A.next.body)) (A.asked ∙ ap (λ q. all_asked q w.found) (sym asks))
          ∙ ap (λ ts. (A.x, writing (all_asked (asks_by (kind_of a) (type_of around a) w.found.covered) w.found) (record { types = ts; ops = A.next.body.ops }))) A.types
          ∙ ap (λ os. (A.x, writing (all_asked (asks_by (kind_of a) (type_of around a) w.found.covered) w.found) (record { types = w.body.types ++ A.new; ops = os }))) A.written;
      enters = λ p numbers raised arguments rest e frames core bytes has room held.
          let it = A.turns p numbers raised arguments rest e frames core (Text bytes) (low p numbers raised core has) room held in
          text_in A.x bytes it.mid it.reached (operand it.mid.vars A.x) refl it.stands;
      misses = λ count known place p numbers raised arguments later rest e frames core g most below world has k low. absurd (never k);
    }
      where
        given_then : COperand × Writing → COperand × Writing
        given_then made = taking made (λ x next. given around (with_value a x) (type.Ptr 0) next)

  -- one that may be missing
  module _ (h : kind_of a ≡ kind.MaybeText) where
    abbrev m : ℕ
    m = length w.body.types

    abbrev number : ℕ
    number = (small_number (small.Present (type_of around a) w.found.covered.attribute) w.found).0

    abbrev asks : LlOp
    asks = op.Call (Some m) number (a.x ∷ [])

    typed : type_of around a ≡ type.Ptr 0
    typed = place_of_texts around.layout a.element h

    asked_is : (small_number (small.Present (type_of around a) w.found.covered.attribute) w.found).1 ≡ all_asked (asks_by (kind_of a) (type_of around a) w.found.covered) w.found
    asked_is = sym (ap (λ k. all_asked (asks_by k (type_of around a) w.found.covered) w.found) h)

    called : text_there around a w ≡ (Var m, writing (small_number (small.Present (type_of around a) w.found.covered.attribute) w.found).1 (record { types = w.body.types ++ type_of around a ∷ []; ops = w.body.ops ++ asks ∷ [] }))
    unfolding text_there by_small
    called = ap (λ k. taking (present around a (of_text_or_none k) w) (λ x next. given around (with_value a x) (type.Ptr 0) next)) h
        ∙ given_same around (with_value a (Var m)) (type.Ptr 0) (writing (small_number (small.Present (type_of around a) w.found.covered.attribute) w.found).1 (record { types = w.body.types ++ type_of around a ∷ []; ops = w.body.ops ++ asks ∷ [] })) typed

    module _ (p : LlProgram) (numbers : Numbers) (raised : ℕ → Value) (arguments : List (List ℕ)) (core : Core) (has : AllAsked (Has p around.layout numbers raised core) (asks_by (kind_of a) (type_of around a) w.found.covered) w.found) where
      present_has : HasSmall p around.layout raised (small.Present (type_of around a) w.found.covered.attribute) number
      present_has = (subst (λ k. AllAsked (Has p around.layout numbers raised core) (asks_by k (type_of around a) w.found.covered) w.found) h has).0

      missing_follows : (count : ℕ) (known : Known) (place : Place) (later rest : List LlOp) (e : LlExit) (frames : List Frame) (g : Ghost) (most below : ℕ) (world : World) → operand core.vars a.x ≡ Null
          → (c : Bool) → HasSmall p around.layout raised (small.Present (type_of around a) c) number
          → Follows count known around place p arguments (At (asks ∷ (later ++ rest)) e frames core) rest e frames core g raised most below world (failure c 9 fail.Attribute world)
      missing_follows count known place later rest e frames g most below world low true s = throws_at (ap (λ x. x ∷ []) low) refl later rest (present_flies p around.layout arguments raised (type_of around a) number core s)
      missing_follows count known place later rest e frames g most below world low false s = fails_at (ap (λ x. x ∷ []) low) refl (later ++ rest) (present_fails p around.layout arguments raised (type_of around a) number core s)

      there : (rest : List LlOp) (e : LlExit) (frames : List Frame) (bytes : List ℕ) → m + 1 ≤ length core.vars → Stands core.blocks core.statics (type.Ptr 0) (operand core.vars a.x) (Text bytes) → Worded p arguments (At (asks ∷ rest) e frames core) rest e frames core m (Var m) bytes
      there rest e frames bytes room stands = by (operand core.vars a.x) refl stands
        where
          by : (y : Value) → operand core.vars a.x ≡ y → Stands core.blocks core.statics (type.Ptr 0) y (Text bytes) → Worded p arguments (At (asks ∷ rest) e frames core) rest e frames core m (Var m) bytes
          by y is (text z all t) =
              let set = ap is_unset is ∙ is_set t in
              let way : Leads p arguments 0 (At (asks ∷ rest) e frames core) [] (At rest e frames (after core m (operand core.vars a.x))) =
              call (ap (λ b. b || false) set) (present_comes p around.layout arguments raised (type_of around a) number core w.found.covered.attribute present_has (operand core.vars a.x) set (ap (λ v. compared v Null) is ∙ is_there t)) in
              record {
                value = z;
                went = record {
                  mid = after core m (operand core.vars a.x);
                  way = way;
                  passed = sets_more m (operand core.vars a.x) (omega arith) none_passed;
                  is = is_set_at core m (operand core.vars a.x) (omega (arith, room)) ∙ is;
                  lacks = λ d. record {
                    last = d.last;
                    leads = on way d.leads;
                    ends = d.ends;
                    blocks = d.blocks;
                    holds = λ placed b k. gives_holds p m number a.x rest e frames core b (d.holds (gives_placed p m number a.x rest e frames core placed) b k);
                  };
                };
                stands = t;
              }

    as_maybe : Word around a w
    as_maybe = record {
      x = Var m;
      ops = asks ∷ [];
      new = type_of around a ∷ [];
      written = called ∙ ap (λ f. (Var m, writing f (record { types = w.body.types ++ type_of around a ∷ []; ops = w.body.ops ++ asks ∷ [] }))) asked_is;
      enters = λ p numbers raised arguments rest e frames core bytes has room held. there p numbers raised arguments core has rest e frames bytes room (text_held (inr h) held);
      misses = λ count known place p numbers raised arguments later rest e frames core g most below world has k low. missing_follows p numbers raised arguments core has count known place later rest e frames g most below world low w.found.covered.attribute (present_has p numbers raised arguments core has);
    }

  -- ---- either

  abbrev AsksSame : Kind → Type 0
  AsksSame k = (p : LlProgram) (numbers : Numbers) (raised : ℕ → Value) (core : Core) → AllAsked (Has p around.layout numbers raised core) (asks_by k (type_of around a) w.found.covered) w.found → HasAll p around.layout numbers raised core (text_asks k) w.found

  of_kind : (k : Kind) → kind_of a ≡ k → (k ≡ kind.Text) ⊎ ((k ≡ kind.Byte) ⊎ (k ≡ kind.MaybeText)) → Word around a w
  of_kind kind.Text h c = as_text (texted around a w kind.Text h refl) (ap of_text_or_none h) (ap (λ k. asks_by k (type_of around a) w.found.covered) h ∙ sym (ap text_asks h)) (λ k. absurd (let q : kind.Text ≡ kind.MaybeText = sym h ∙ k in cc))
      (subst AsksSame (sym h) (λ p numbers raised core has. has))
  of_kind kind.Byte h c = as_text (texted around a w kind.Byte h refl) (ap of_text_or_none h) (ap (λ k. asks_by k (type_of around a) w.found.covered) h ∙ sym (ap text_asks h)) (λ k. absurd (let q : kind.Byte ≡ kind.MaybeText = sym h ∙ k in cc))
      (subst AsksSame (sym h) (λ p numbers raised core has. has))
  of_kind kind.MaybeText h c = as_maybe h
  of_kind _ h (inl e) = absurd (cc)
  of_kind _ h (inr (inl e)) = absurd (cc)
  of_kind _ h (inr (inr e)) = absurd (cc)

  pub word_for : can_be_split (kind_of a) → Word around a w
  word_for h = of_kind (kind_of a) refl h

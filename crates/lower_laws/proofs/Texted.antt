-- A string or a byte is given as a string, and then a helper is called.
use Rattle.std.proofs.Common.{◌≡◌, ◌<◌, ◌≤◌, ℕ, ◌+◌, inr, Bool, true, false, List, [], ◌∷◌, ◌++◌, length, Option, Some, refl, sym, ap, ◌∙◌, subst, arith, append_assoc, length-append}
use Rattle.std.specs.Prelude.{slice_set, ◌||◌}
use Rattle.std.proofs.lemmas.List.{append-nil, get_or-set_same}
use Rattle.csub_tree.specs.State.{Value, Unset, Byte, Null, Static, Block, Core}
use Rattle.csub_tree.specs.Operation.{is_unset}
use Rattle.csub_tree.specs.Statement.{operand, operands, any_unset}
use Rattle.csub_tree.specs.declared.tree.CConst.TheVariants as constant
use Rattle.csub_tree.specs.declared.tree.CUnary.TheVariants as unary
use Rattle.csub_tree.specs.declared.tree.COperand.{COperand}
use Rattle.csub_tree.specs.declared.tree.COperand.TheVariants.{Var, Const}
use Rattle.rpy_tree.specs.Value.{Value as Meant, Text}
use Rattle.rpy_meaning.specs.declared.row.RowOp.{RowOp}
use Rattle.rpy_meaning.specs.Classes.{no_covers}
use Rattle.rpy_meaning.specs.Operations.{op as meant_op}
use Rattle.rpy_meaning.specs.Tree.{Program}
use Rattle.rpy_meaning.specs.World.{World}
use Rattle.ll_code.specs.State.{Frame, State, Calling, At}
use Rattle.ll_code.specs.declared.program.LlType.{LlType}
use Rattle.ll_code.specs.declared.program.LlType.TheVariants as type
use Rattle.ll_code.specs.declared.program.LlOp.{LlOp}
use Rattle.ll_code.specs.declared.program.LlOp.TheVariants as op
use Rattle.ll_code.specs.declared.program.LlExit.{LlExit}
use Rattle.ll_code.specs.declared.program.LlProgram.{LlProgram}
use Rattle.ll_leads.specs.Path.{Leads}
use Rattle.ll_leads.proofs.Ways.{Comes, on, many, enter, call}
use Rattle.ll_build.specs.declared.needs.Helper.{Helper}
use Rattle.ll_build.specs.declared.needs.Helper.TheVariants as helper
use Rattle.ll_build.specs.declared.needs.Numbers.{Numbers}
use Rattle.ll_texts.specs.Stands.{Stands, text, missing}
use Rattle.ll_texts.specs.Follows.{Follows as HelperFollows}
use Rattle.ll_strings.specs.Laws.{HasHelper, Is, IsTwo}
use Rattle.ll_strings.proofs.Parts.{gets_single}
use Rattle.rtyper_layout.specs.declared.kind.Kind.{Kind}
use Rattle.rtyper_layout.specs.declared.kind.Kind.TheVariants as kind
use Rattle.rtyper_layout.specs.Kinds.{kind_seen, is_text_or_none}
use Rattle.rtyper_data.specs.declared.found.Found.{Found}
use Rattle.rtyper_data.specs.Converting.{given, value_as, give_helped, helped as asks_helper}
use Rattle.rtyper_data.specs.Finding.{helper_number}
use Rattle.rtyper_op.specs.Lowering.{lower_op, never_comes}
use Rattle.rtyper_data.specs.Seen.{Around, Operand, Place, type_of, kind_of, with_op, Writing, writing}
use Rattle.rtyper_op.specs.Texts.{of_text, of_texts, of_text_and_word, text_type}
use Rattle.lower_laws.specs.Asked.{Ask, Help, all_asked, HasAll}
use Rattle.lower_laws.specs.Done.{Follows, IsDone}
use Rattle.lower_laws.specs.Helped.{Follows as HelpFollows}
use Rattle.lower_laws.specs.Texted.{text_asks, asks_of, Takes}
use Rattle.lower_laws.specs.Values.{is_plain, Holds, Plain, Given, IsBelow, AllBelow}
use Rattle.lower_laws.proofs.Calls.{called}
use Rattle.lower_laws.proofs.Chained.{Reached, here, further, chained, static_reached}
use Rattle.lower_laws.proofs.Flags.{reversed, set_behind, not_behind}
use Rattle.lower_laws.proofs.Helps.{gives_helped, stands_set}
use Rattle.lower_laws.proofs.Kept.{helper_kept, has_kept, operand_kept, given_kept, asked_append, has_first, has_second}
use Rattle.lower_laws.proofs.Stayed.{held_set}
use Rattle.lower_laws.proofs.Tupled.{given_same}
use Rattle.lower_laws.proofs.Typing.{place_of_words, place_of_flags, place_of_bytes, place_of_strings, place_of_texts, place_of_none}
use Rattle.lower_laws.proofs.Valued.{plain_stands, flag_holds, byte_held, string_held, text_held, none_held}

-- ---- the string of a byte, which is there

module _ {p : LlProgram} {numbers : Numbers} {f : ℕ} {core : Core} (h : HasHelper p numbers helper.StrOfChar f core) (b : ℕ) (small : b < 256) where
  byte_comes : {args : List (List ℕ)} (waits : List Frame) → Comes p args (Calling f (Byte b ∷ []) waits core) [] (Static (b + 1)) waits core
  byte_comes waits = (let statics = h.statics refl in record {
    end = _;
    same = refl;
    leads = on (enter h.graph refl) (on (many 2 h.graph refl refl) (on (gets_single numbers.table b statics refl refl small) (many 1 h.graph refl refl)));
  })

  byte_stands : Stands core.blocks core.statics (type.Ptr 0) (Static (b + 1)) (Text (b ∷ []))
  byte_stands = (let statics = h.statics refl in text (Static (b + 1)) (b ∷ []) (record { is = statics.singles b small; short = omega arith; small = (small, tt) }))

-- ---- an operand given as a string

-- its value stands in an operand
pub record Turned (p : LlProgram) (args : List (List ℕ)) (s : State) (rest : List LlOp) (e : LlExit) (frames : List Frame) (core : Core) (below : ℕ) (x : COperand) (v : Meant) : Type 0 where
  pub mid : Core
  pub reached : Reached p args s rest e frames core mid below
  pub stands : Stands mid.blocks mid.statics (type.Ptr 0) (operand mid.vars x) v

pub record Texted (around : Around) (a : Operand) (w : Writing) : Type 0 where
  pub x : COperand
  pub next : Writing
  pub is : given around a (type.Ptr 0) w ≡ (x, next)
  pub ops : List LlOp
  pub new : List LlType
  pub asked : next.found ≡ all_asked (asks_of a) w.found
  pub written : next.body.ops ≡ w.body.ops ++ ops
  pub types : next.body.types ≡ w.body.types ++ new
  pub under : IsBelow (length w.body.types) a.x → IsBelow (length next.body.types) x
  pub turns : (p : LlProgram) (numbers : Numbers) (raised : ℕ → Value) (arguments : List (List ℕ)) (rest : List LlOp) (e : LlExit) (frames : List Frame) (core : Core) (v : Meant)
      → HasAll p around.layout numbers raised core (asks_of a) w.found → length w.body.types + length new ≤ length core.vars → Holds around.layout core.blocks core.statics a.element (operand core.vars a.x) v
      → Turned p arguments (At (ops ++ rest) e frames core) rest e frames core (length w.body.types) x v

-- one that is a string already
as_it_is : (around : Around) (a : Operand) (w : Writing) → asks_of a ≡ [] → type_of around a ≡ type.Ptr 0 → ((core : Core) (v : Meant) → Holds around.layout core.blocks core.statics a.element (operand core.vars a.x) v → Stands core.blocks core.statics (type.Ptr 0) (operand core.vars a.x) v) → Texted around a w
as_it_is around a w none t stands = record {
  x = a.x;
  next = w;
  is = given_same around a (type.Ptr 0) w t;
  ops = [];
  new = [];
  asked = ap (λ asks. all_asked asks w.found) (sym none);
  written = sym (append-nil w.body.ops);
  types = sym (append-nil w.body.types);
  under = λ h. h;
  turns = λ p numbers raised arguments rest e frames core v has room held. record { mid = core; reached = here; stands = stands core v held };
}

-- `None` alone
as_missing : (around : Around) (a : Operand) (w : Writing) → kind_of a ≡ kind.Nothing → Texted around a w
unfolding value_as
as_missing around a w h = record {
  x = Const constant.Null;
  next = w;
  is = ap (λ t. value_as around.layout a.x t (type.Ptr 0) w) (place_of_none around.layout a.element h);
  ops = [];
  new = [];
  asked = ap (λ asks. all_asked asks w.found) (sym (ap text_asks h));
  written = sym (append-nil w.body.ops);
  types = sym (append-nil w.body.types);
  under = λ h. tt;
  turns = λ p numbers raised arguments rest e frames core v has room held. record { mid = core; reached = here; stands = subst (λ v. Stands core.blocks core.statics (type.Ptr 0) Null v) (sym (none_held h held).1) missing };
}

as_byte : (around : Around) (a : Operand) (w : Writing) → kind_of a ≡ kind.Byte → Texted around a w
unfolding value_as asks_helper
as_byte around a w h = record {
  x = Var (length w.body.types);
  next = after;
  is = ap (λ t. value_as around.layout a.x t (type.Ptr 0) w) (place_of_bytes around.layout a.element h);
  ops = made ∷ [];
  new = type.Ptr 0 ∷ [];
  asked = ap (λ asks. all_asked asks w.found) (sym (ap text_asks h));
  written = refl;
  types = refl;
  under = λ below. (let l : length (w.body.types ++ type.Ptr 0 ∷ []) ≡ length w.body.types + 1 = length-append w.body.types (type.Ptr 0 ∷ []) in omega (arith, l));
  turns = turn;
}
  where
    number : ℕ × Found
    number = helper_number helper.StrOfChar w.found

    made : LlOp
    made = op.Call (Some (length w.body.types)) (helper_number helper.StrOfChar w.found).0 (a.x ∷ [])

    after : Writing
    after = writing (helper_number helper.StrOfChar w.found).1 (record { types = w.body.types ++ type.Ptr 0 ∷ []; ops = w.body.ops ++ op.Call (Some (length w.body.types)) (helper_number helper.StrOfChar w.found).0 (a.x ∷ []) ∷ [] })

    turn : (p : LlProgram) (numbers : Numbers) (raised : ℕ → Value) (arguments : List (List ℕ)) (rest : List LlOp) (e : LlExit) (frames : List Frame) (core : Core) (v : Meant)
        → HasAll p around.layout numbers raised core (asks_of a) w.found → length w.body.types + 1 ≤ length core.vars → Holds around.layout core.blocks core.statics a.element (operand core.vars a.x) v
        → Turned p arguments (At (op.Call (Some (length w.body.types)) (helper_number helper.StrOfChar w.found).0 (a.x ∷ []) ∷ rest) e frames core) rest e frames core (length w.body.types) (Var (length w.body.types)) v
    turn p numbers raised arguments rest e frames core v has room held =
        let x = byte_held h held in
        let f : ℕ = (helper_number helper.StrOfChar w.found).0 in
        let own : HasHelper p numbers helper.StrOfChar f core = (subst (λ asks. HasAll p around.layout numbers raised core asks w.found) (ap text_asks h) has).0 in
        let m : ℕ = length w.body.types in
        let g : ℕ = x.number + 1 in
        let set : any_unset (operands core.vars (a.x ∷ [])) ≡ false = ap (λ c. c || false) (held_set held) in
        let way : Leads p arguments 0 (At (op.Call (Some m) f (a.x ∷ []) ∷ rest) e frames core) [] (At rest e frames (record core { at = core.at + 1; vars = slice_set core.vars m (Static g) })) =
        call set (λ waits. subst (λ y. Comes p arguments (Calling f (y ∷ []) waits core) [] (Static g) waits core) (sym x.low) (byte_comes own x.number x.small waits)) in
        record {
          mid = record core { at = core.at + 1; vars = slice_set core.vars m (Static g) };
          reached = static_reached p arguments m f (a.x ∷ []) rest e frames core g (omega arith) way;
          stands = subst (λ y. Stands core.blocks core.statics (type.Ptr 0) y v) (sym (get_or-set_same core.vars m (Static g) Unset (omega (arith, room)))) (subst (λ v. Stands core.blocks core.statics (type.Ptr 0) (Static g) v) (sym x.high) (byte_stands own x.number x.small));
        }

pub texted : (around : Around) (a : Operand) (w : Writing) (k : Kind) → kind_of a ≡ k → is_text_or_none k ≡ true → Texted around a w
texted around a w kind.Byte h t = as_byte around a w h
texted around a w kind.Text h t = as_it_is around a w (ap text_asks h) (place_of_strings around.layout a.element h) (λ core v held. string_held h held)
texted around a w kind.MaybeText h t = as_it_is around a w (ap text_asks h) (place_of_texts around.layout a.element h) (λ core v held. text_held (inr h) held)
texted around a w kind.Nothing h t = as_missing around a w h
texted around a w _ h t = absurd (cc)

pub text_comes : (k : Kind) → is_text_or_none k ≡ true → never_comes k ≡ false
text_comes kind.Byte t = refl
text_comes kind.Text t = refl
text_comes kind.MaybeText t = refl
text_comes kind.Nothing t = refl
text_comes _ t = absurd (cc)

-- ---- one string

-- what the place takes is what it is known of
pub takes_held : (around : Around) (place : Place) (t : LlType) → Takes around place t → (blocks : List (Option Block)) (statics : List Block) (x : Value) (v : Meant) → Stands blocks statics t x v → Holds around.layout blocks statics place.element x v
takes_held around place t takes blocks statics x v st = Plain takes.0 (subst (λ s. Stands blocks statics s x v) (sym takes.1) st)

module _ (around : Around) (o : RowOp) (h : Helper) (t : LlType) (place : Place) (a : Operand) (w : Writing) (takes : Takes around place t) (law : Is h (type.Ptr 0) t o) (l : lower_op around o place (a ∷ []) w ≡ of_text around place h t a w) (ka : is_text_or_none (kind_of a) ≡ true) where
  abbrev A : Texted around a w
  A = texted around a w (kind_of a) refl ka

  abbrev last : LlOp
  last = op.Call (Some place.variable) (helper_number h A.next.found).0 (A.x ∷ [])

  one_written : lower_op around o place (a ∷ []) w ≡ writing (helper_number h A.next.found).1 (with_op last A.next.body)
  unfolding of_text
  one_written = l ∙ ap (λ (x : COperand × Writing). give_helped around place h t (x.0 ∷ []) x.1) A.is ∙ gives_helped around place h t (A.x ∷ []) A.next takes.1

  pub one_done : IsDone around o no_covers (asks_of a ++ Help h ∷ []) place (a ∷ []) w
  one_done = record {
    ops = A.ops ++ last ∷ [];
    new = A.new;
    asked = ap (λ (r : Writing). r.found) one_written ∙ ap (λ f. (helper_number h f).1) A.asked ∙ sym (asked_append (asks_of a) (Help h ∷ []) w.found);
    written = ap (λ (r : Writing). r.body.ops) one_written ∙ ap (λ os. os ++ last ∷ []) A.written ∙ append_assoc w.body.ops A.ops (last ∷ []);
    types = ap (λ (r : Writing). r.body.types) one_written ∙ A.types;
    follows = λ program p numbers raised arguments rest e frames core world vs structs has left room inside below given good.
        subst (λ os. Follows around place p arguments (At os e frames core) rest e frames core raised 1 (length w.body.types) world (meant_op program no_covers o vs world)) (sym (append_assoc A.ops (last ∷ []) rest))
        (follow program p numbers raised arguments rest e frames core world vs has left room inside below given);
  }
    where
      follow : (program : Program) (p : LlProgram) (numbers : Numbers) (raised : ℕ → Value) (arguments : List (List ℕ)) (rest : List LlOp) (e : LlExit) (frames : List Frame) (core : Core) (world : World) (vs : List Meant)
          → HasAll p around.layout numbers raised core (asks_of a ++ Help h ∷ []) w.found → world.left ≡ core.steps → length w.body.types + length A.new ≤ length core.vars → place.variable < length w.body.types → AllBelow (length w.body.types) (a ∷ []) → Given around core (a ∷ []) vs
          → Follows around place p arguments (At (A.ops ++ (last ∷ rest)) e frames core) rest e frames core raised 1 (length w.body.types) world (meant_op program no_covers o vs world)
      follow program p numbers raised arguments rest e frames core world [] has left room inside below given = absurd given
      follow program p numbers raised arguments rest e frames core world (v ∷ u ∷ vs) has left room inside below given = absurd given.1
      follow program p numbers raised arguments rest e frames core world (v ∷ []) has left room inside below given =
          let r = A.turns p numbers raised arguments (last ∷ rest) e frames core v (has_first p around.layout numbers raised core (asks_of a) (Help h ∷ []) w.found has) room given.0 in
          let long : length r.mid.vars ≡ length core.vars = r.reached.room in
          let f : ℕ = (helper_number h A.next.found).0 in
          let own : HasHelper p numbers h f r.mid = helper_kept core r.mid r.reached.memory (subst (λ k. HasHelper p numbers h (helper_number h k).0 core) (sym A.asked) (has_second p around.layout numbers raised core (asks_of a) (Help h ∷ []) w.found has).0) in
          let steps : world.left ≡ r.mid.steps = left ∙ ap (λ (m : Core). m.steps) (sym r.reached.memory) in
          chained around place p arguments (At (A.ops ++ (last ∷ rest)) e frames core) (last ∷ rest) rest e frames core r.mid raised 1 (length w.body.types) world t r.reached (takes_held around place t takes) (meant_op program no_covers o (v ∷ []) world)
          (called p arguments rest e frames r.mid place.variable f (A.x ∷ []) t (length w.body.types) world (meant_op program no_covers o (v ∷ []) world) (omega (arith, long, room, inside)) (ap (λ c. c || false) (stands_set (λ e. absurd (cc)) r.stands))
          (λ waits. law program p arguments numbers f waits r.mid world own steps (operand r.mid.vars A.x) v r.stands))

-- ---- two strings

module _ (around : Around) (o : RowOp) (h : Helper) (t : LlType) (place : Place) (a b : Operand) (w : Writing) (takes : Takes around place t) (law : IsTwo h (type.Ptr 0) (type.Ptr 0) t o) (l : lower_op around o place (a ∷ b ∷ []) w ≡ of_texts around place h t a b w)
    (ka : is_text_or_none (kind_of a) ≡ true) (kb : is_text_or_none (kind_of b) ≡ true) where
  abbrev First : Texted around a w
  First = texted around a w (kind_of a) refl ka

  abbrev Second : Texted around b First.next
  Second = texted around b First.next (kind_of b) refl kb

  abbrev both : LlOp
  both = op.Call (Some place.variable) (helper_number h Second.next.found).0 (First.x ∷ Second.x ∷ [])

  abbrev asks : List Ask
  asks = asks_of a ++ (asks_of b ++ Help h ∷ [])

  two_written : lower_op around o place (a ∷ b ∷ []) w ≡ writing (helper_number h Second.next.found).1 (with_op both Second.next.body)
  unfolding of_texts
  two_written = l ∙ ap (λ (x : COperand × Writing). give_helped around place h t (x.0 ∷ (given around b text_type x.1).0 ∷ []) (given around b text_type x.1).1) First.is
      ∙ ap (λ (y : COperand × Writing). give_helped around place h t (First.x ∷ y.0 ∷ []) y.1) Second.is ∙ gives_helped around place h t (First.x ∷ Second.x ∷ []) Second.next takes.1

  both_asked : Second.next.found ≡ all_asked (asks_of b) (all_asked (asks_of a) w.found)
  both_asked = Second.asked ∙ ap (all_asked (asks_of b)) First.asked

  pub two_done : IsDone around o no_covers (asks_of a ++ (asks_of b ++ Help h ∷ [])) place (a ∷ b ∷ []) w
  two_done = record {
    ops = First.ops ++ (Second.ops ++ both ∷ []);
    new = First.new ++ Second.new;
    asked = ap (λ (r : Writing). r.found) two_written ∙ ap (λ f. (helper_number h f).1) both_asked ∙ sym (asked_append (asks_of a) (asks_of b ++ Help h ∷ []) w.found ∙ asked_append (asks_of b) (Help h ∷ []) (all_asked (asks_of a) w.found));
    written = ap (λ (r : Writing). r.body.ops) two_written ∙ ap (λ os. os ++ both ∷ []) (Second.written ∙ ap (λ os. os ++ Second.ops) First.written) ∙ append_assoc (w.body.ops ++ First.ops) Second.ops (both ∷ []) ∙ append_assoc w.body.ops First.ops (Second.ops ++ both ∷ []);
    types = ap (λ (r : Writing). r.body.types) two_written ∙ Second.types ∙ ap (λ ts. ts ++ Second.new) First.types ∙ append_assoc w.body.types First.new Second.new;
    follows = λ program p numbers raised arguments rest e frames core world vs structs has left room inside below given good.
        subst (λ os. Follows around place p arguments (At os e frames core) rest e frames core raised 2 (length w.body.types) world (meant_op program no_covers o vs world)) (sym (append_assoc First.ops (Second.ops ++ both ∷ []) rest ∙ ap (λ os. First.ops ++ os) (append_assoc Second.ops (both ∷ []) rest)))
        (follow program p numbers raised arguments rest e frames core world vs has left room inside below given);
  }
    where
      follow : (program : Program) (p : LlProgram) (numbers : Numbers) (raised : ℕ → Value) (arguments : List (List ℕ)) (rest : List LlOp) (e : LlExit) (frames : List Frame) (core : Core) (world : World) (vs : List Meant)
          → HasAll p around.layout numbers raised core (asks_of a ++ (asks_of b ++ Help h ∷ [])) w.found → world.left ≡ core.steps → length w.body.types + length (First.new ++ Second.new) ≤ length core.vars → place.variable < length w.body.types → AllBelow (length w.body.types) (a ∷ b ∷ []) → Given around core (a ∷ b ∷ []) vs
          → Follows around place p arguments (At (First.ops ++ (Second.ops ++ (both ∷ rest))) e frames core) rest e frames core raised 2 (length w.body.types) world (meant_op program no_covers o vs world)
      follow program p numbers raised arguments rest e frames core world [] has left room inside below given = absurd given
      follow program p numbers raised arguments rest e frames core world (v ∷ []) has left room inside below given = absurd given.1
      follow program p numbers raised arguments rest e frames core world (v ∷ u ∷ z ∷ vs) has left room inside below given = absurd given.1.1
      follow program p numbers raised arguments rest e frames core world (v ∷ u ∷ []) has left room inside below given =
          let more : length (First.new ++ Second.new) ≡ length First.new + length Second.new = length-append First.new Second.new in
          let wide : length First.next.body.types ≡ length w.body.types + length First.new = ap length First.types ∙ length-append w.body.types First.new in
          let r = First.turns p numbers raised arguments (Second.ops ++ (both ∷ rest)) e frames core v (has_first p around.layout numbers raised core (asks_of a) (asks_of b ++ Help h ∷ []) w.found has) (omega (arith, room, more)) given.0 in
          let long : length r.mid.vars ≡ length core.vars = r.reached.room in
          let later : HasAll p around.layout numbers raised core (asks_of b ++ Help h ∷ []) First.next.found = subst (λ k. HasAll p around.layout numbers raised core (asks_of b ++ Help h ∷ []) k) (sym First.asked) (has_second p around.layout numbers raised core (asks_of a) (asks_of b ++ Help h ∷ []) w.found has) in
          let held : Holds around.layout r.mid.blocks r.mid.statics b.element (operand r.mid.vars b.x) u = (given_kept core r.mid r.reached.memory (length w.body.types) r.reached.others around (b ∷ []) (u ∷ []) below.1 given.1).0 in
          let s = Second.turns p numbers raised arguments (both ∷ rest) e frames r.mid u (has_kept core r.mid r.reached.memory p around.layout numbers raised (asks_of b) First.next.found (has_first p around.layout numbers raised core (asks_of b) (Help h ∷ []) First.next.found later)) (omega (arith, room, more, wide, long)) held in
          let all : Reached p arguments (At (First.ops ++ (Second.ops ++ (both ∷ rest))) e frames core) (both ∷ rest) e frames core s.mid (length w.body.types) = further (omega (arith, wide)) r.reached s.reached in
          let still : operand s.mid.vars First.x ≡ operand r.mid.vars First.x = operand_kept r.mid s.mid s.reached.memory (length First.next.body.types) s.reached.others First.x (First.under below.0) in
          let first : Stands s.mid.blocks s.mid.statics (type.Ptr 0) (operand s.mid.vars First.x) v = subst (λ x. Stands s.mid.blocks s.mid.statics (type.Ptr 0) x v) (sym still) (subst (λ (c : Core). Stands c.blocks c.statics (type.Ptr 0) (operand r.mid.vars First.x) v) (sym s.reached.memory) r.stands) in
          let f : ℕ = (helper_number h Second.next.found).0 in
          let own : HasHelper p numbers h f s.mid = helper_kept core s.mid all.memory (subst (λ k. HasHelper p numbers h (helper_number h k).0 core) (sym Second.asked) (has_second p around.layout numbers raised core (asks_of b) (Help h ∷ []) First.next.found later).0) in
          let steps : world.left ≡ s.mid.steps = left ∙ ap (λ (m : Core). m.steps) (sym all.memory) in
          let wider : length s.mid.vars ≡ length core.vars = all.room in
          let set : any_unset (operands s.mid.vars (First.x ∷ Second.x ∷ [])) ≡ false = ap (λ c. c || (is_unset (operand s.mid.vars Second.x) || false)) (stands_set (λ e. absurd (cc)) first) ∙ ap (λ c. c || false) (stands_set (λ e. absurd (cc)) s.stands) in
          chained around place p arguments (At (First.ops ++ (Second.ops ++ (both ∷ rest))) e frames core) (both ∷ rest) rest e frames core s.mid raised 2 (length w.body.types) world t all (takes_held around place t takes) (meant_op program no_covers o (v ∷ u ∷ []) world)
          (called p arguments rest e frames s.mid place.variable f (First.x ∷ Second.x ∷ []) t (length w.body.types) world (meant_op program no_covers o (v ∷ u ∷ []) world) (omega (arith, wider, room, inside)) set
          (λ waits. law program p arguments numbers f waits s.mid world own steps (operand s.mid.vars First.x) (operand s.mid.vars Second.x) v u first s.stands))

-- ---- a string and a word

module _ (around : Around) (o : RowOp) (h : Helper) (t : LlType) (place : Place) (a b : Operand) (w : Writing) (takes : Takes around place t) (law : IsTwo h (type.Ptr 0) type.Signed t o) (l : lower_op around o place (a ∷ b ∷ []) w ≡ of_text_and_word around place h t a b w)
    (ka : is_text_or_none (kind_of a) ≡ true) (kb : kind_of b ≡ kind.Word) where
  abbrev Given_text : Texted around a w
  Given_text = texted around a w (kind_of a) refl ka

  abbrev with_word : LlOp
  with_word = op.Call (Some place.variable) (helper_number h Given_text.next.found).0 (Given_text.x ∷ b.x ∷ [])

  word_written : lower_op around o place (a ∷ b ∷ []) w ≡ writing (helper_number h Given_text.next.found).1 (with_op with_word Given_text.next.body)
  unfolding of_text_and_word
  word_written = l ∙ ap (λ (x : COperand × Writing). give_helped around place h t (x.0 ∷ b.x ∷ []) x.1) Given_text.is ∙ gives_helped around place h t (Given_text.x ∷ b.x ∷ []) Given_text.next takes.1

  pub word_done : IsDone around o no_covers (asks_of a ++ Help h ∷ []) place (a ∷ b ∷ []) w
  word_done = record {
    ops = Given_text.ops ++ with_word ∷ [];
    new = Given_text.new;
    asked = ap (λ (r : Writing). r.found) word_written ∙ ap (λ f. (helper_number h f).1) Given_text.asked ∙ sym (asked_append (asks_of a) (Help h ∷ []) w.found);
    written = ap (λ (r : Writing). r.body.ops) word_written ∙ ap (λ os. os ++ with_word ∷ []) Given_text.written ∙ append_assoc w.body.ops Given_text.ops (with_word ∷ []);
    types = ap (λ (r : Writing). r.body.types) word_written ∙ Given_text.types;
    follows = λ program p numbers raised arguments rest e frames core world vs structs has left room inside below given good.
        subst (λ os. Follows around place p arguments (At os e frames core) rest e frames core raised 2 (length w.body.types) world (meant_op program no_covers o vs world)) (sym (append_assoc Given_text.ops (with_word ∷ []) rest))
        (follow program p numbers raised arguments rest e frames core world vs has left room inside below given);
  }
    where
      follow : (program : Program) (p : LlProgram) (numbers : Numbers) (raised : ℕ → Value) (arguments : List (List ℕ)) (rest : List LlOp) (e : LlExit) (frames : List Frame) (core : Core) (world : World) (vs : List Meant)
          → HasAll p around.layout numbers raised core (asks_of a ++ Help h ∷ []) w.found → world.left ≡ core.steps → length w.body.types + length Given_text.new ≤ length core.vars → place.variable < length w.body.types → AllBelow (length w.body.types) (a ∷ b ∷ []) → Given around core (a ∷ b ∷ []) vs
          → Follows around place p arguments (At (Given_text.ops ++ (with_word ∷ rest)) e frames core) rest e frames core raised 2 (length w.body.types) world (meant_op program no_covers o vs world)
      follow program p numbers raised arguments rest e frames core world [] has left room inside below given = absurd given
      follow program p numbers raised arguments rest e frames core world (v ∷ []) has left room inside below given = absurd given.1
      follow program p numbers raised arguments rest e frames core world (v ∷ u ∷ z ∷ vs) has left room inside below given = absurd given.1.1
      follow program p numbers raised arguments rest e frames core world (v ∷ u ∷ []) has left room inside below given =
          let r = Given_text.turns p numbers raised arguments (with_word ∷ rest) e frames core v (has_first p around.layout numbers raised core (asks_of a) (Help h ∷ []) w.found has) room given.0 in
          let long : length r.mid.vars ≡ length core.vars = r.reached.room in
          let held : Holds around.layout r.mid.blocks r.mid.statics b.element (operand r.mid.vars b.x) u = (given_kept core r.mid r.reached.memory (length w.body.types) r.reached.others around (b ∷ []) (u ∷ []) below.1 given.1).0 in
          let y : Stands r.mid.blocks r.mid.statics type.Signed (operand r.mid.vars b.x) u = subst (λ s. Stands r.mid.blocks r.mid.statics s (operand r.mid.vars b.x) u) (place_of_words around.layout b.element kb) (plain_stands (ap is_plain kb) held) in
          let f : ℕ = (helper_number h Given_text.next.found).0 in
          let own : HasHelper p numbers h f r.mid = helper_kept core r.mid r.reached.memory (subst (λ k. HasHelper p numbers h (helper_number h k).0 core) (sym Given_text.asked) (has_second p around.layout numbers raised core (asks_of a) (Help h ∷ []) w.found has).0) in
          let steps : world.left ≡ r.mid.steps = left ∙ ap (λ (m : Core). m.steps) (sym r.reached.memory) in
          let set : any_unset (operands r.mid.vars (Given_text.x ∷ b.x ∷ [])) ≡ false = ap (λ c. c || (is_unset (operand r.mid.vars b.x) || false)) (stands_set (λ e. absurd (cc)) r.stands) ∙ ap (λ c. c || false) (stands_set (λ e. absurd (cc)) y) in
          chained around place p arguments (At (Given_text.ops ++ (with_word ∷ rest)) e frames core) (with_word ∷ rest) rest e frames core r.mid raised 2 (length w.body.types) world t r.reached (takes_held around place t takes) (meant_op program no_covers o (v ∷ u ∷ []) world)
          (called p arguments rest e frames r.mid place.variable f (Given_text.x ∷ b.x ∷ []) t (length w.body.types) world (meant_op program no_covers o (v ∷ u ∷ []) world) (omega (arith, long, room, inside)) set
          (λ waits. law program p arguments numbers f waits r.mid world own steps (operand r.mid.vars Given_text.x) (operand r.mid.vars b.x) v u r.stands y))

-- ---- a truth value of two strings, which has a variable of its own

-- the helper takes the operands as they are, or the other way round
abbrev pub turned_if : Bool → COperand → COperand → List COperand
turned_if true x y = y ∷ x ∷ []
turned_if false x y = x ∷ y ∷ []

-- the law of the helper for operands in this order
abbrev pub Tells : Helper → Bool → RowOp → Type 0
Tells h true via = (program : Program) (p : LlProgram) (args : List (List ℕ)) (numbers : Numbers) (f : ℕ) (frames : List Frame) (core : Core) (w : World) → HasHelper p numbers h f core → w.left ≡ core.steps → (x y : Value) (v u : Meant) → Stands core.blocks core.statics (type.Ptr 0) x v → Stands core.blocks core.statics (type.Ptr 0) y u
    → HelperFollows p args (Calling f (y ∷ x ∷ []) frames core) frames core type.Bool w (meant_op program no_covers via (v ∷ u ∷ []) w)
Tells h false via = IsTwo h (type.Ptr 0) (type.Ptr 0) type.Bool via

module _ (around : Around) (o via : RowOp) (h : Helper) (other : Bool) (place : Place) (a b : Operand) (w : Writing) (flags : kind_seen place.element ≡ kind.Flag) (law : Tells h other via) (ka : is_text_or_none (kind_of a) ≡ true) (kb : is_text_or_none (kind_of b) ≡ true) where
  abbrev One : Texted around a w
  One = texted around a w (kind_of a) refl ka

  abbrev Two : Texted around b One.next
  Two = texted around b One.next (kind_of b) refl kb

  abbrev answer_at : ℕ
  answer_at = length Two.next.body.types

  abbrev telling : LlOp
  telling = op.Call (Some answer_at) (helper_number h Two.next.found).0 (turned_if other One.x Two.x)

  -- the helper's answer, and what is done with it
  abbrev Told : List LlType → List LlOp → Writing
  Told more last = writing (helper_number h Two.next.found).1 (record { types = (Two.next.body.types ++ type.Bool ∷ []) ++ more; ops = (Two.next.body.ops ++ telling ∷ []) ++ last })

  told_set : (values : List Value) (mid : Core) (v u : Meant) → Stands mid.blocks mid.statics (type.Ptr 0) (operand mid.vars One.x) v → Stands mid.blocks mid.statics (type.Ptr 0) (operand mid.vars Two.x) u → any_unset (operands mid.vars (turned_if other One.x Two.x)) ≡ false
  told_set values mid v u x y = by other
    where
      by : (c : Bool) → any_unset (operands mid.vars (turned_if c One.x Two.x)) ≡ false
      by true = ap (λ c. c || (is_unset (operand mid.vars One.x) || false)) (stands_set (λ e. absurd (cc)) y) ∙ ap (λ c. c || false) (stands_set (λ e. absurd (cc)) x)
      by false = ap (λ c. c || (is_unset (operand mid.vars Two.x) || false)) (stands_set (λ e. absurd (cc)) x) ∙ ap (λ c. c || false) (stands_set (λ e. absurd (cc)) y)

  told_by : (c : Bool) → Tells h c via → (program : Program) (p : LlProgram) (arguments : List (List ℕ)) (numbers : Numbers) (f : ℕ) (waits : List Frame) (mid : Core) (world : World) → HasHelper p numbers h f mid → world.left ≡ mid.steps → (v u : Meant) → Stands mid.blocks mid.statics (type.Ptr 0) (operand mid.vars One.x) v → Stands mid.blocks mid.statics (type.Ptr 0) (operand mid.vars Two.x) u
      → HelperFollows p arguments (Calling f (operands mid.vars (turned_if c One.x Two.x)) waits mid) waits mid type.Bool world (meant_op program no_covers via (v ∷ u ∷ []) world)
  told_by true tells program p arguments numbers f waits mid world own steps v u x y = tells program p arguments numbers f waits mid world own steps (operand mid.vars One.x) (operand mid.vars Two.x) v u x y
  told_by false tells program p arguments numbers f waits mid world own steps v u x y = tells program p arguments numbers f waits mid world own steps (operand mid.vars One.x) (operand mid.vars Two.x) v u x y

  -- what the operations behind the answer do with it
  abbrev Ends : List LlOp → List LlType → Type 0
  Ends last more = (program : Program) (p : LlProgram) (arguments : List (List ℕ)) (rest : List LlOp) (e : LlExit) (frames : List Frame) (mid : Core) (world : World) (v u : Meant) → answer_at + 1 + length more ≤ length mid.vars → place.variable < length w.body.types
      → HelpFollows p arguments (At (telling ∷ (last ++ rest)) e frames mid) (last ++ rest) e frames mid type.Bool answer_at (length w.body.types) world (meant_op program no_covers via (v ∷ u ∷ []) world)
      → HelpFollows p arguments (At (telling ∷ (last ++ rest)) e frames mid) rest e frames mid type.Bool place.variable (length w.body.types) world (meant_op program no_covers o (v ∷ u ∷ []) world)

  pub told_done : (last : List LlOp) (more : List LlType) → lower_op around o place (a ∷ b ∷ []) w ≡ Told more last → Ends last more → IsDone around o no_covers (asks_of a ++ (asks_of b ++ Help h ∷ [])) place (a ∷ b ∷ []) w
  told_done last more l ends = record {
    ops = One.ops ++ (Two.ops ++ telling ∷ last);
    new = One.new ++ (Two.new ++ type.Bool ∷ more);
    asked = ap (λ (r : Writing). r.found) l ∙ ap (λ f. (helper_number h f).1) (Two.asked ∙ ap (all_asked (asks_of b)) One.asked) ∙ sym (asked_append (asks_of a) (asks_of b ++ Help h ∷ []) w.found ∙ asked_append (asks_of b) (Help h ∷ []) (all_asked (asks_of a) w.found));
    written = ap (λ (r : Writing). r.body.ops) l ∙ append_assoc Two.next.body.ops (telling ∷ []) last ∙ ap (λ os. os ++ telling ∷ last) (Two.written ∙ ap (λ os. os ++ Two.ops) One.written) ∙ append_assoc (w.body.ops ++ One.ops) Two.ops (telling ∷ last) ∙ append_assoc w.body.ops One.ops (Two.ops ++ telling ∷ last);
    types = ap (λ (r : Writing). r.body.types) l ∙ append_assoc Two.next.body.types (type.Bool ∷ []) more ∙ ap (λ ts. ts ++ type.Bool ∷ more) (Two.types ∙ ap (λ ts. ts ++ Two.new) One.types) ∙ append_assoc (w.body.types ++ One.new) Two.new (type.Bool ∷ more) ∙ append_assoc w.body.types One.new (Two.new ++ type.Bool ∷ more);
    follows = λ program p numbers raised arguments rest e frames core world vs structs has left room inside below given good.
        subst (λ os. Follows around place p arguments (At os e frames core) rest e frames core raised 2 (length w.body.types) world (meant_op program no_covers o vs world)) (sym (append_assoc One.ops (Two.ops ++ telling ∷ last) rest ∙ ap (λ os. One.ops ++ os) (append_assoc Two.ops (telling ∷ last) rest)))
        (follow program p numbers raised arguments rest e frames core world vs has left room inside below given);
  }
    where
      follow : (program : Program) (p : LlProgram) (numbers : Numbers) (raised : ℕ → Value) (arguments : List (List ℕ)) (rest : List LlOp) (e : LlExit) (frames : List Frame) (core : Core) (world : World) (vs : List Meant)
          → HasAll p around.layout numbers raised core (asks_of a ++ (asks_of b ++ Help h ∷ [])) w.found → world.left ≡ core.steps → length w.body.types + length (One.new ++ (Two.new ++ type.Bool ∷ more)) ≤ length core.vars → place.variable < length w.body.types → AllBelow (length w.body.types) (a ∷ b ∷ []) → Given around core (a ∷ b ∷ []) vs
          → Follows around place p arguments (At (One.ops ++ (Two.ops ++ (telling ∷ (last ++ rest)))) e frames core) rest e frames core raised 2 (length w.body.types) world (meant_op program no_covers o vs world)
      follow program p numbers raised arguments rest e frames core world [] has left room inside below given = absurd given
      follow program p numbers raised arguments rest e frames core world (v ∷ []) has left room inside below given = absurd given.1
      follow program p numbers raised arguments rest e frames core world (v ∷ u ∷ z ∷ vs) has left room inside below given = absurd given.1.1
      follow program p numbers raised arguments rest e frames core world (v ∷ u ∷ []) has left room inside below given =
          let behind : List LlOp = telling ∷ (last ++ rest) in
          let many : length (One.new ++ (Two.new ++ type.Bool ∷ more)) ≡ length One.new + length (Two.new ++ type.Bool ∷ more) = length-append One.new (Two.new ++ type.Bool ∷ more) in
          let many_more : length (Two.new ++ type.Bool ∷ more) ≡ length Two.new + length (type.Bool ∷ more) = length-append Two.new (type.Bool ∷ more) in
          let wide : length One.next.body.types ≡ length w.body.types + length One.new = ap length One.types ∙ length-append w.body.types One.new in
          let wider : answer_at ≡ length One.next.body.types + length Two.new = ap length Two.types ∙ length-append One.next.body.types Two.new in
          let r = One.turns p numbers raised arguments (Two.ops ++ behind) e frames core v (has_first p around.layout numbers raised core (asks_of a) (asks_of b ++ Help h ∷ []) w.found has) (omega (arith, room, many, many_more)) given.0 in
          let long : length r.mid.vars ≡ length core.vars = r.reached.room in
          let later : HasAll p around.layout numbers raised core (asks_of b ++ Help h ∷ []) One.next.found = subst (λ k. HasAll p around.layout numbers raised core (asks_of b ++ Help h ∷ []) k) (sym One.asked) (has_second p around.layout numbers raised core (asks_of a) (asks_of b ++ Help h ∷ []) w.found has) in
          let held : Holds around.layout r.mid.blocks r.mid.statics b.element (operand r.mid.vars b.x) u = (given_kept core r.mid r.reached.memory (length w.body.types) r.reached.others around (b ∷ []) (u ∷ []) below.1 given.1).0 in
          let s = Two.turns p numbers raised arguments behind e frames r.mid u (has_kept core r.mid r.reached.memory p around.layout numbers raised (asks_of b) One.next.found (has_first p around.layout numbers raised core (asks_of b) (Help h ∷ []) One.next.found later)) (omega (arith, room, many, many_more, wide, long)) held in
          let all : Reached p arguments (At (One.ops ++ (Two.ops ++ behind)) e frames core) behind e frames core s.mid (length w.body.types) = further (omega (arith, wide)) r.reached s.reached in
          let still : operand s.mid.vars One.x ≡ operand r.mid.vars One.x = operand_kept r.mid s.mid s.reached.memory (length One.next.body.types) s.reached.others One.x (One.under below.0) in
          let first : Stands s.mid.blocks s.mid.statics (type.Ptr 0) (operand s.mid.vars One.x) v = subst (λ x. Stands s.mid.blocks s.mid.statics (type.Ptr 0) x v) (sym still) (subst (λ (c : Core). Stands c.blocks c.statics (type.Ptr 0) (operand r.mid.vars One.x) v) (sym s.reached.memory) r.stands) in
          let f : ℕ = (helper_number h Two.next.found).0 in
          let own : HasHelper p numbers h f s.mid = helper_kept core s.mid all.memory (subst (λ k. HasHelper p numbers h (helper_number h k).0 core) (sym Two.asked) (has_second p around.layout numbers raised core (asks_of b) (Help h ∷ []) One.next.found later).0) in
          let steps : world.left ≡ s.mid.steps = left ∙ ap (λ (m : Core). m.steps) (sym all.memory) in
          let whole : length s.mid.vars ≡ length core.vars = all.room in
          chained around place p arguments (At (One.ops ++ (Two.ops ++ behind)) e frames core) behind rest e frames core s.mid raised 2 (length w.body.types) world type.Bool all (λ blocks statics x v st. flag_holds flags (subst (λ t. Stands blocks statics t x v) (sym (place_of_flags around.layout place.element flags)) st)) (meant_op program no_covers o (v ∷ u ∷ []) world)
          (ends program p arguments rest e frames s.mid world v u (omega (arith, room, many, many_more, wide, wider, whole)) inside
          (called p arguments (last ++ rest) e frames s.mid answer_at f (turned_if other One.x Two.x) type.Bool (length w.body.types) world (meant_op program no_covers via (v ∷ u ∷ []) world) (omega (arith, room, many, many_more, wide, wider, whole)) (told_set [] s.mid v u first s.stands)
          (λ waits. told_by other law program p arguments numbers f waits s.mid world own steps v u first s.stands)))

  -- the place takes the answer
  pub straight_done : lower_op around o place (a ∷ b ∷ []) w ≡ Told [] (op.Set place.variable (Var answer_at) ∷ []) → via ≡ o → IsDone around o no_covers (asks_of a ++ (asks_of b ++ Help h ∷ [])) place (a ∷ b ∷ []) w
  straight_done l same = told_done (op.Set place.variable (Var answer_at) ∷ []) [] l (λ program p arguments rest e frames mid world v u room inside c.
      let wide : length w.body.types ≤ answer_at = told_wide in
      set_behind p arguments (At (telling ∷ op.Set place.variable (Var answer_at) ∷ rest) e frames mid) rest e frames mid (length w.body.types) world answer_at place.variable wide (omega (arith, room, inside, wide)) (meant_op program no_covers o (v ∷ u ∷ []) world)
      (subst (λ o. HelpFollows p arguments (At (telling ∷ op.Set place.variable (Var answer_at) ∷ rest) e frames mid) (op.Set place.variable (Var answer_at) ∷ rest) e frames mid type.Bool answer_at (length w.body.types) world (meant_op program no_covers o (v ∷ u ∷ []) world)) same c))
    where
      told_wide : length w.body.types ≤ answer_at
      told_wide = (let wide : length One.next.body.types ≡ length w.body.types + length One.new = ap length One.types ∙ length-append w.body.types One.new in let wider : answer_at ≡ length One.next.body.types + length Two.new = ap length Two.types ∙ length-append One.next.body.types Two.new in omega (arith, wide, wider))

  abbrev opposite_at : ℕ
  opposite_at = length (Two.next.body.types ++ type.Bool ∷ [])

  -- it takes its opposite
  pub turned_done : lower_op around o place (a ∷ b ∷ []) w ≡ Told (type.Bool ∷ []) (op.Unary opposite_at unary.Not (Var answer_at) ∷ op.Set place.variable (Var opposite_at) ∷ []) → ((program : Program) (v u : Meant) (world : World) → meant_op program no_covers o (v ∷ u ∷ []) world ≡ reversed (meant_op program no_covers via (v ∷ u ∷ []) world))
      → IsDone around o no_covers (asks_of a ++ (asks_of b ++ Help h ∷ [])) place (a ∷ b ∷ []) w
  turned_done l means = told_done (op.Unary opposite_at unary.Not (Var answer_at) ∷ op.Set place.variable (Var opposite_at) ∷ []) (type.Bool ∷ []) l (λ program p arguments rest e frames mid world v u room inside c.
      let wide : length w.body.types ≤ answer_at = told_wide in
      let k : opposite_at ≡ answer_at + 1 = length-append Two.next.body.types (type.Bool ∷ []) in
      let s : State = At (telling ∷ op.Unary opposite_at unary.Not (Var answer_at) ∷ op.Set place.variable (Var opposite_at) ∷ rest) e frames mid in
      subst (λ answer. HelpFollows p arguments s rest e frames mid type.Bool place.variable (length w.body.types) world answer) (sym (means program v u world))
      (set_behind p arguments s rest e frames mid (length w.body.types) world opposite_at place.variable (omega (arith, wide, k)) (omega (arith, room, inside, wide)) (reversed (meant_op program no_covers via (v ∷ u ∷ []) world))
      (not_behind p arguments s (op.Set place.variable (Var opposite_at) ∷ rest) e frames mid (length w.body.types) world answer_at opposite_at wide (omega (arith, room, k)) (meant_op program no_covers via (v ∷ u ∷ []) world) c)))
    where
      told_wide : length w.body.types ≤ answer_at
      told_wide = (let wide : length One.next.body.types ≡ length w.body.types + length One.new = ap length One.types ∙ length-append w.body.types One.new in let wider : answer_at ≡ length One.next.body.types + length Two.new = ap length Two.types ∙ length-append One.next.body.types Two.new in omega (arith, wide, wider))

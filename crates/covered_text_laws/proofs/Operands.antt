-- Operands of helpers that raise: strings and bytes, given as strings, and words.
use Rattle.std.proofs.Common.{◌≡◌, ◌≤◌, ℕ, ◌+◌, Bool, true, false, List, [], ◌∷◌, ◌++◌, length, refl, sym, ap, ◌∙◌, subst, arith, append_assoc, length-append}
use Rattle.std.specs.Prelude.{◌||◌, ◌&&◌}
use Rattle.std.proofs.lemmas.List.{append-nil}
use Rattle.csub_tree.specs.State.{Value, Core}
use Rattle.csub_tree.specs.Operation.{is_unset}
use Rattle.csub_tree.specs.Statement.{operand}
use Rattle.csub_tree.specs.declared.tree.COperand.{COperand}
use Rattle.rpy_tree.specs.Value.{Value as Meant}
use Rattle.rpy_meaning.specs.declared.row.RowOp.{RowOp}
use Rattle.rpy_meaning.specs.Tree.{Program}
use Rattle.rpy_meaning.specs.World.{World}
use Rattle.ll_code.specs.State.{Frame, At}
use Rattle.ll_code.specs.declared.program.LlType.{LlType}
use Rattle.ll_code.specs.declared.program.LlType.TheVariants as type
use Rattle.ll_code.specs.declared.program.LlOp.{LlOp}
use Rattle.ll_code.specs.declared.program.LlExit.{LlExit}
use Rattle.ll_code.specs.declared.program.LlProgram.{LlProgram}
use Rattle.ll_build.specs.declared.needs.Helper.{Helper}
use Rattle.ll_build.specs.declared.needs.Numbers.{Numbers}
use Rattle.ll_texts.specs.Stands.{Stands}
use Rattle.ll_strings.specs.Laws.{Is, IsTwo}
use Rattle.rtyper_layout.specs.declared.kind.Kind.{Kind}
use Rattle.rtyper_layout.specs.declared.kind.Kind.TheVariants as kind
use Rattle.rtyper_layout.specs.Kinds.{kind_seen, is_text_or_none}
use Rattle.rtyper_data.specs.declared.found.Found.{Found}
use Rattle.rtyper_data.specs.Seen.{Around, Operand, kind_of, Writing}
use Rattle.lower_laws.specs.Asked.{Ask, HasAll, all_asked}
use Rattle.lower_laws.specs.Bridged.{are_plain}
use Rattle.lower_laws.specs.Follows.{AllStand}
use Rattle.lower_laws.specs.Texted.{asks_of, text_asks}
use Rattle.lower_laws.specs.Values.{AllBelow, Given, Holds, is_plain}
use Rattle.lower_laws.proofs.Chained.{Reached, further, here}
use Rattle.lower_laws.proofs.Helps.{Does, stands_set}
use Rattle.lower_laws.proofs.Kept.{asked_append, given_kept, has_kept, operand_kept}
use Rattle.lower_laws.proofs.Texted.{Texted, texted}
use Rattle.lower_laws.proofs.Typing.{place_of_words}
use Rattle.lower_laws.proofs.Valued.{plain_stands}
use Rattle.object_laws.specs.Done.{AllAsked}
use Rattle.covered_text_laws.specs.Asked.{Has}
use Rattle.covered_text_laws.proofs.Answers.{Answers, IsNumber, IsTextOrNone, is_number, text_or_none}
use Rattle.covered_text_laws.proofs.Preparing.{Prepared, Ready, first_asked, second_asked}

-- what a string asks for stands as the laws of strings take it
low_asks : (p : LlProgram) (around : Around) (numbers : Numbers) (raised : ℕ → Value) (core : Core) (k : Kind) (found : Found) → AllAsked (Has p around.layout numbers raised core) (text_asks k) found → HasAll p around.layout numbers raised core (text_asks k) found
low_asks p around numbers raised core kind.Byte found h = (h.0, tt)
low_asks p around numbers raised core _ found h = tt

-- ---- one

module _ (around : Around) (o : RowOp) (h : Helper) (t : LlType) (a : Operand) (w : Writing) (law : Is h (type.Ptr 0) t o) (answers : (v : Meant) → IsTextOrNone v → Answers h o (v ∷ [])) (ka : is_text_or_none (kind_of a) ≡ true) where
  abbrev pub A : Texted around a w
  A = texted around a w (kind_of a) refl ka

  pub one_prepared : Prepared around o h t (asks_of a) (a ∷ []) w (A.x ∷ []) A.next
  one_prepared = record {
    ops = A.ops;
    new = A.new;
    asked = A.asked;
    written = A.written;
    types = A.types;
    ready = ready;
  }
    where
      ready : (program : Program) (p : LlProgram) (numbers : Numbers) (raised : ℕ → Value) (arguments : List (List ℕ)) (rest : List LlOp) (e : LlExit) (frames : List Frame) (core : Core) (world : World) (vs : List Meant)
          → AllAsked (Has p around.layout numbers raised core) (asks_of a) w.found → world.left ≡ core.steps → length w.body.types + length A.new ≤ length core.vars → AllBelow (length w.body.types) (a ∷ []) → Given around core (a ∷ []) vs
          → Ready o h t program numbers p arguments (At (A.ops ++ rest) e frames core) rest e frames core (length w.body.types) (A.x ∷ []) world vs
      ready program p numbers raised arguments rest e frames core world [] has left room below given = absurd given
      ready program p numbers raised arguments rest e frames core world (v ∷ u ∷ vs) has left room below given = absurd given.1
      ready program p numbers raised arguments rest e frames core world (v ∷ []) has left room below given =
          let r = A.turns p numbers raised arguments rest e frames core v (low_asks p around numbers raised core (kind_of a) w.found has) room given.0 in
          record {
            mid = r.mid;
            reached = r.reached;
            set = ap (λ c. c || false) (stands_set (λ e. absurd (cc)) r.stands);
            does = λ q f waits own. law program q arguments numbers f waits r.mid world own (left ∙ ap (λ (m : Core). m.steps) (sym r.reached.memory)) (operand r.mid.vars A.x) v r.stands;
            answers = answers v (text_or_none r.stands);
          }

-- ---- a string and a word

module _ (around : Around) (o : RowOp) (h : Helper) (t : LlType) (a b : Operand) (w : Writing) (law : IsTwo h (type.Ptr 0) type.Signed t o) (answers : (v u : Meant) → IsTextOrNone v → IsNumber u → Answers h o (v ∷ u ∷ [])) (ka : is_text_or_none (kind_of a) ≡ true) (kb : kind_of b ≡ kind.Word) where
  abbrev pub T : Texted around a w
  T = texted around a w (kind_of a) refl ka

  pub word_prepared : Prepared around o h t (asks_of a) (a ∷ b ∷ []) w (T.x ∷ b.x ∷ []) T.next
  word_prepared = record {
    ops = T.ops;
    new = T.new;
    asked = T.asked;
    written = T.written;
    types = T.types;
    ready = ready;
  }
    where
      ready : (program : Program) (p : LlProgram) (numbers : Numbers) (raised : ℕ → Value) (arguments : List (List ℕ)) (rest : List LlOp) (e : LlExit) (frames : List Frame) (core : Core) (world : World) (vs : List Meant)
          → AllAsked (Has p around.layout numbers raised core) (asks_of a) w.found → world.left ≡ core.steps → length w.body.types + length T.new ≤ length core.vars → AllBelow (length w.body.types) (a ∷ b ∷ []) → Given around core (a ∷ b ∷ []) vs
          → Ready o h t program numbers p arguments (At (T.ops ++ rest) e frames core) rest e frames core (length w.body.types) (T.x ∷ b.x ∷ []) world vs
      ready program p numbers raised arguments rest e frames core world [] has left room below given = absurd given
      ready program p numbers raised arguments rest e frames core world (v ∷ []) has left room below given = absurd given.1
      ready program p numbers raised arguments rest e frames core world (v ∷ u ∷ z ∷ vs) has left room below given = absurd given.1.1
      ready program p numbers raised arguments rest e frames core world (v ∷ u ∷ []) has left room below given =
          let r = T.turns p numbers raised arguments rest e frames core v (low_asks p around numbers raised core (kind_of a) w.found has) room given.0 in
          let held : Holds around.layout r.mid.blocks r.mid.statics b.element (operand r.mid.vars b.x) u = (given_kept core r.mid r.reached.memory (length w.body.types) r.reached.others around (b ∷ []) (u ∷ []) below.1 given.1).0 in
          let y : Stands r.mid.blocks r.mid.statics type.Signed (operand r.mid.vars b.x) u = subst (λ s. Stands r.mid.blocks r.mid.statics s (operand r.mid.vars b.x) u) (place_of_words around.layout b.element kb) (plain_stands (ap is_plain kb) held) in
          record {
            mid = r.mid;
            reached = r.reached;
            set = ap (λ c. c || (is_unset (operand r.mid.vars b.x) || false)) (stands_set (λ e. absurd (cc)) r.stands) ∙ ap (λ c. c || false) (stands_set (λ e. absurd (cc)) y);
            does = λ q f waits own. law program q arguments numbers f waits r.mid world own (left ∙ ap (λ (m : Core). m.steps) (sym r.reached.memory)) (operand r.mid.vars T.x) (operand r.mid.vars b.x) v u r.stands y;
            answers = answers v u (text_or_none r.stands) (is_number y);
          }

-- ---- two strings

module _ (around : Around) (o : RowOp) (h : Helper) (t : LlType) (a b : Operand) (w : Writing) (law : IsTwo h (type.Ptr 0) (type.Ptr 0) t o) (answers : (v u : Meant) → IsTextOrNone v → IsTextOrNone u → Answers h o (v ∷ u ∷ [])) (ka : is_text_or_none (kind_of a) ≡ true) (kb : is_text_or_none (kind_of b) ≡ true) where
  abbrev pub First : Texted around a w
  First = texted around a w (kind_of a) refl ka

  abbrev pub Second : Texted around b First.next
  Second = texted around b First.next (kind_of b) refl kb

  pub two_prepared : Prepared around o h t (asks_of a ++ asks_of b) (a ∷ b ∷ []) w (First.x ∷ Second.x ∷ []) Second.next
  two_prepared = record {
    ops = First.ops ++ Second.ops;
    new = First.new ++ Second.new;
    asked = Second.asked ∙ ap (all_asked (asks_of b)) First.asked ∙ sym (asked_append (asks_of a) (asks_of b) w.found);
    written = Second.written ∙ ap (λ os. os ++ Second.ops) First.written ∙ append_assoc w.body.ops First.ops Second.ops;
    types = Second.types ∙ ap (λ ts. ts ++ Second.new) First.types ∙ append_assoc w.body.types First.new Second.new;
    ready = λ program p numbers raised arguments rest e frames core world vs has left room below given.
        subst (λ os. Ready o h t program numbers p arguments (At os e frames core) rest e frames core (length w.body.types) (First.x ∷ Second.x ∷ []) world vs) (sym (append_assoc First.ops Second.ops rest))
        (ready program p numbers raised arguments rest e frames core world vs has left room below given);
  }
    where
      ready : (program : Program) (p : LlProgram) (numbers : Numbers) (raised : ℕ → Value) (arguments : List (List ℕ)) (rest : List LlOp) (e : LlExit) (frames : List Frame) (core : Core) (world : World) (vs : List Meant)
          → AllAsked (Has p around.layout numbers raised core) (asks_of a ++ asks_of b) w.found → world.left ≡ core.steps → length w.body.types + length (First.new ++ Second.new) ≤ length core.vars → AllBelow (length w.body.types) (a ∷ b ∷ []) → Given around core (a ∷ b ∷ []) vs
          → Ready o h t program numbers p arguments (At (First.ops ++ (Second.ops ++ rest)) e frames core) rest e frames core (length w.body.types) (First.x ∷ Second.x ∷ []) world vs
      ready program p numbers raised arguments rest e frames core world [] has left room below given = absurd given
      ready program p numbers raised arguments rest e frames core world (v ∷ []) has left room below given = absurd given.1
      ready program p numbers raised arguments rest e frames core world (v ∷ u ∷ z ∷ vs) has left room below given = absurd given.1.1
      ready program p numbers raised arguments rest e frames core world (v ∷ u ∷ []) has left room below given =
          let Good : Ask → Found → Type 0 = Has p around.layout numbers raised core in
          let more : length (First.new ++ Second.new) ≡ length First.new + length Second.new = length-append First.new Second.new in
          let wide : length First.next.body.types ≡ length w.body.types + length First.new = ap length First.types ∙ length-append w.body.types First.new in
          let r = First.turns p numbers raised arguments (Second.ops ++ rest) e frames core v (low_asks p around numbers raised core (kind_of a) w.found (first_asked Good (asks_of a) (asks_of b) w.found has)) (omega (arith, room, more)) given.0 in
          let long : length r.mid.vars ≡ length core.vars = r.reached.room in
          let later : HasAll p around.layout numbers raised core (asks_of b) First.next.found =
          subst (λ k. HasAll p around.layout numbers raised core (asks_of b) k) (sym First.asked) (low_asks p around numbers raised core (kind_of b) (all_asked (asks_of a) w.found) (second_asked Good (asks_of a) (asks_of b) w.found has)) in
          let held : Holds around.layout r.mid.blocks r.mid.statics b.element (operand r.mid.vars b.x) u = (given_kept core r.mid r.reached.memory (length w.body.types) r.reached.others around (b ∷ []) (u ∷ []) below.1 given.1).0 in
          let s = Second.turns p numbers raised arguments rest e frames r.mid u (has_kept core r.mid r.reached.memory p around.layout numbers raised (asks_of b) First.next.found later) (omega (arith, room, more, wide, long)) held in
          let all : Reached p arguments (At (First.ops ++ (Second.ops ++ rest)) e frames core) rest e frames core s.mid (length w.body.types) = further (omega (arith, wide)) r.reached s.reached in
          let still : operand s.mid.vars First.x ≡ operand r.mid.vars First.x = operand_kept r.mid s.mid s.reached.memory (length First.next.body.types) s.reached.others First.x (First.under below.0) in
          let first : Stands s.mid.blocks s.mid.statics (type.Ptr 0) (operand s.mid.vars First.x) v = subst (λ x. Stands s.mid.blocks s.mid.statics (type.Ptr 0) x v) (sym still) (subst (λ (c : Core). Stands c.blocks c.statics (type.Ptr 0) (operand r.mid.vars First.x) v) (sym s.reached.memory) r.stands) in
          record {
            mid = s.mid;
            reached = all;
            set = ap (λ c. c || (is_unset (operand s.mid.vars Second.x) || false)) (stands_set (λ e. absurd (cc)) first) ∙ ap (λ c. c || false) (stands_set (λ e. absurd (cc)) s.stands);
            does = λ q f waits own. law program q arguments numbers f waits s.mid world own (left ∙ ap (λ (m : Core). m.steps) (sym all.memory)) (operand s.mid.vars First.x) (operand s.mid.vars Second.x) v u first s.stands;
            answers = answers v u (text_or_none first) (text_or_none s.stands);
          }

-- ---- operands as they are

and_first : (b c : Bool) → (b && c) ≡ true → b ≡ true
and_first true c h = refl
and_first false c h = absurd (cc)

and_second : (b c : Bool) → (b && c) ≡ true → c ≡ true
and_second true c h = h
and_second false c h = absurd (cc)

all_stand : (around : Around) (core : Core) (args : List Operand) (vs : List Meant) → are_plain args ≡ true → Given around core args vs → AllStand around core args vs
all_stand around core [] [] h given = tt
all_stand around core [] (v ∷ vs) h given = absurd given
all_stand around core (a ∷ args) [] h given = absurd given
all_stand around core (a ∷ args) (v ∷ vs) h given = (plain_stands (and_first (is_plain (kind_seen a.element)) (are_plain args) h) given.0, all_stand around core args vs (and_second (is_plain (kind_seen a.element)) (are_plain args) h) given.1)

pub plainly_prepared : {around : Around} {o : RowOp} {h : Helper} {t : LlType} {args : List Operand} {xs : List COperand} (w : Writing) → are_plain args ≡ true → Does around o h t args xs → ((core : Core) (vs : List Meant) → AllStand around core args vs → Answers h o vs) → Prepared around o h t [] args w xs w
plainly_prepared {around = around} {args = args} w plain d answers = record {
  ops = [];
  new = [];
  asked = refl;
  written = sym (append-nil w.body.ops);
  types = sym (append-nil w.body.types);
  ready = λ program p numbers raised arguments rest e frames core world vs has left room below given.
      let st : AllStand around core args vs = all_stand around core args vs plain given in
      record {
        mid = core;
        reached = here;
        set = d.set core vs st;
        does = λ q f waits own. d.does program q numbers arguments f waits core world vs own left st;
        answers = answers core vs st;
      };
}

-- What is prepared for a helper that raises, and then its call.
use Rattle.std.proofs.Common.{◌≡◌, ◌<◌, ◌≤◌, ℕ, ◌+◌, false, List, [], ◌∷◌, ◌++◌, length, Option, Some, None, refl, sym, ap, ◌∙◌, subst, arith, append_assoc}
use Rattle.std.specs.Prelude.{cond}
use Rattle.csub_tree.specs.State.{Value, Core}
use Rattle.csub_tree.specs.Statement.{operands, any_unset}
use Rattle.csub_tree.specs.declared.stuck.StuckReason.TheVariants.{Unset as IsUnset}
use Rattle.csub_tree.specs.declared.tree.COperand.{COperand}
use Rattle.rpy_tree.specs.Value.{Value as Meant}
use Rattle.rpy_meaning.specs.declared.row.Covers.{Covers}
use Rattle.rpy_meaning.specs.declared.row.RowOp.{RowOp}
use Rattle.rpy_meaning.specs.Classes.{no_covers}
use Rattle.rpy_meaning.specs.Operations.{op as meant_op}
use Rattle.rpy_meaning.specs.Tree.{Program}
use Rattle.rpy_meaning.specs.World.{World, Answer, Gives, Throws, Fails, Lacks, Enters, Bad}
use Rattle.ll_code.specs.State.{Frame, State, Calling, At, Goes, Sticks}
use Rattle.ll_code.specs.Machine.{waiting}
use Rattle.ll_code.specs.declared.program.LlType.{LlType}
use Rattle.ll_code.specs.declared.program.LlOp.{LlOp}
use Rattle.ll_code.specs.declared.program.LlOp.TheVariants as op
use Rattle.ll_code.specs.declared.program.LlExit.{LlExit}
use Rattle.ll_code.specs.declared.program.LlProgram.{LlProgram}
use Rattle.ll_leads.specs.Memory.{forgotten}
use Rattle.ll_leads.proofs.Ways.{on, one}
use Rattle.ll_build.specs.declared.needs.Helper.{Helper}
use Rattle.ll_build.specs.declared.needs.Numbers.{Numbers}
use Rattle.ll_texts.specs.Follows.{Follows as HelperFollows}
use Rattle.ll_texts.specs.Texts.{HasStatics}
use Rattle.ll_strings.specs.Laws.{HasHelper}
use Rattle.rtyper_data.specs.declared.found.Found.{Found}
use Rattle.rtyper_data.specs.declared.small.Small.{Small}
use Rattle.rtyper_data.specs.Converting.{give_helped}
use Rattle.rtyper_data.specs.Finding.{asked, failures_of, helper_number, need_from, needed, small_from, small_number}
use Rattle.rtyper_data.specs.Seen.{Around, Operand, Place, with_op, Writing, writing}
use Rattle.rtyper_op.specs.Lowering.{lower_op}
use Rattle.lower_laws.specs.Asked.{Ask, Help, Raise, Make, all_asked, number_of}
use Rattle.lower_laws.specs.Done.{Follows}
use Rattle.lower_laws.specs.Texted.{Takes}
use Rattle.lower_laws.specs.Values.{AllBelow, Given}
use Rattle.lower_laws.proofs.Calls.{called}
use Rattle.lower_laws.proofs.Chained.{Reached, chained, done_behind, here}
use Rattle.lower_laws.proofs.Helps.{gives_helped}
use Rattle.lower_laws.proofs.Kept.{asked_append}
use Rattle.lower_laws.proofs.Texted.{takes_held}
use Rattle.object_laws.specs.Done.{AllAsked}
use Rattle.raise_laws.specs.Helpers as raising
use Rattle.raise_laws.specs.Helpers.{HasRaisingHelper}
use Rattle.raise_laws.proofs.Helpers.{raising_helpers_follow}
use Rattle.covered_text_laws.specs.Asked.{Has}
use Rattle.covered_text_laws.specs.Done.{IsDone}
use Rattle.covered_text_laws.proofs.Answers.{Answers}

-- ---- what is asked for

helper_covered : (h : Helper) (c : Covers) (found : Found) (at : Option ℕ) → (needed h c found at).1.covered ≡ found.covered
helper_covered h c found None = refl
helper_covered h c found (Some n) = refl

small_covered : (s : Small) (found : Found) (at : Option ℕ) → (asked s found at).1.covered ≡ found.covered
small_covered s found None = refl
small_covered s found (Some n) = refl

ask_covered : (a : Ask) (found : Found) → (number_of a found).1.covered ≡ found.covered
unfolding helper_number small_number
ask_covered (Help h) found = helper_covered h (failures_of h found.covered) found (need_from 0 found.needs found.caught h (failures_of h found.covered))
ask_covered (Raise h) found = helper_covered h (failures_of h found.covered) found (need_from 0 found.needs found.caught h (failures_of h found.covered))
ask_covered (Make s) found = small_covered s found (small_from 0 found.smalls s)

-- what is covered stays so
pub all_covered : (asks : List Ask) (found : Found) → (all_asked asks found).covered ≡ found.covered
all_covered [] found = refl
all_covered (a ∷ asks) found = all_covered asks (number_of a found).1 ∙ ask_covered a found

module _ (Good : Ask → Found → Type 0) where
  pub first_asked : (xs ys : List Ask) (found : Found) → AllAsked Good (xs ++ ys) found → AllAsked Good xs found
  first_asked [] ys found h = tt
  first_asked (a ∷ xs) ys found h = (h.0, first_asked xs ys (number_of a found).1 h.1)

  pub second_asked : (xs ys : List Ask) (found : Found) → AllAsked Good (xs ++ ys) found → AllAsked Good ys (all_asked xs found)
  second_asked [] ys found h = h
  second_asked (a ∷ xs) ys found h = second_asked xs ys (number_of a found).1 h.1

pub raising_kept : (core end : Core) → forgotten end ≡ forgotten core → {p : LlProgram} {numbers : Numbers} {raised : ℕ → Value} {h : Helper} {covers : Covers} {f : ℕ} → HasRaisingHelper p numbers raised h covers f core → HasRaisingHelper p numbers raised h covers f end
raising_kept core end memory {p = p} {numbers = numbers} has = record {
  raising = has.raising;
  shared = has.shared;
  text = has.text;
  statics = λ n. subst (λ (c : Core). HasStatics p numbers.table c.statics) (sym memory) (has.statics n);
  small = (let s = has.small in let e : end.steps ≡ core.steps = ap (λ (c : Core). c.steps) memory in omega (arith, s, e));
}

-- ---- the call

module _ (around : Around) (place : Place) (p : LlProgram) (args : List (List ℕ)) (rest : List LlOp) (e : LlExit) (frames : List Frame) (core : Core) (f : ℕ) (xs : List COperand) (raised : ℕ → Value) (most below : ℕ) (w : World) (t : LlType) (takes : Takes around place t) (inside : place.variable < length core.vars) (set : any_unset (operands core.vars xs) ≡ false) where
  abbrev calling : State
  calling = At (op.Call (Some place.variable) f xs ∷ rest) e frames core

  abbrev frame : Frame
  frame = waiting core (Some place.variable) rest e

  plainly : (answer : Answer) → ((waits : List Frame) → HelperFollows p args (Calling f (operands core.vars xs) waits core) waits core t w answer) → Follows around place p args calling rest e frames core raised most below w answer
  plainly answer go = chained around place p args calling (op.Call (Some place.variable) f xs ∷ rest) rest e frames core core raised most below w t here (takes_held around place t takes) answer (called p args rest e frames core place.variable f xs t below w answer inside set go)

  -- a call of a helper that raises does what the helper does
  pub calls_raising : (answer : Answer) → ((waits : List Frame) → raising.Follows p args (Calling f (operands core.vars xs) waits core) waits core raised t w answer) → Follows around place p args calling rest e frames core raised most below w answer
  calls_raising (Gives v w') go = plainly (Gives v w') go
  calls_raising (Throws exception w') go =
      let g = go (frame ∷ frames) in
      record {
        frame = frame;
        end = g.end;
        leads = on (one (ap (λ b. cond b (Sticks IsUnset) (Goes (Calling f (operands core.vars xs) (frame ∷ frames) core))) set) refl) g.leads;
        memory = g.memory;
        left = [];
        ops = refl;
        exit = refl;
        others = λ k under. refl;
        room = refl;
        function = refl;
        block = refl;
        same = g.same;
      }
  calls_raising (Fails name) go = plainly (Fails name) go
  calls_raising Lacks go = plainly Lacks go
  calls_raising (Enters function values instead w') go = absurd (go [])
  calls_raising Bad go = tt

-- ---- what comes before it

-- The operands are set, over the same memory, and the helper that fails does what the operation answers with these values.
pub record Ready (o : RowOp) (h : Helper) (t : LlType) (program : Program) (numbers : Numbers) (p : LlProgram) (arguments : List (List ℕ)) (s : State) (rest : List LlOp) (e : LlExit) (frames : List Frame) (core : Core) (below : ℕ) (xs : List COperand) (world : World) (vs : List Meant) : Type 0 where
  pub mid : Core
  pub reached : Reached p arguments s rest e frames core mid below
  pub set : any_unset (operands mid.vars xs) ≡ false
  pub does : (q : LlProgram) (f : ℕ) (waits : List Frame) → HasHelper q numbers h f mid → HelperFollows q arguments (Calling f (operands mid.vars xs) waits mid) waits mid t world (meant_op program no_covers o vs world)
  pub answers : Answers h o vs

pub record Prepared (around : Around) (o : RowOp) (h : Helper) (t : LlType) (asks : List Ask) (args : List Operand) (w : Writing) (xs : List COperand) (next : Writing) : Type 0 where
  pub ops : List LlOp
  pub new : List LlType
  pub asked : next.found ≡ all_asked asks w.found
  pub written : next.body.ops ≡ w.body.ops ++ ops
  pub types : next.body.types ≡ w.body.types ++ new
  pub ready : (program : Program) (p : LlProgram) (numbers : Numbers) (raised : ℕ → Value) (arguments : List (List ℕ)) (rest : List LlOp) (e : LlExit) (frames : List Frame) (core : Core) (world : World) (vs : List Meant)
      → AllAsked (Has p around.layout numbers raised core) asks w.found → world.left ≡ core.steps → length w.body.types + length new ≤ length core.vars → AllBelow (length w.body.types) args → Given around core args vs
      → Ready o h t program numbers p arguments (At (ops ++ rest) e frames core) rest e frames core (length w.body.types) xs world vs

module _ {around : Around} {o : RowOp} {h : Helper} {t : LlType} {asks : List Ask} {args : List Operand} {w : Writing} {xs : List COperand} {next : Writing} (place : Place) (prep : Prepared around o h t asks args w xs next) (takes : Takes around place t) (l : lower_op around o place args w ≡ give_helped around place h t xs next) where
  abbrev number : ℕ
  number = (helper_number h next.found).0

  abbrev last : LlOp
  last = op.Call (Some place.variable) (helper_number h next.found).0 xs

  as_call : lower_op around o place args w ≡ writing (helper_number h next.found).1 (with_op last next.body)
  as_call = l ∙ gives_helped around place h t xs next takes.1

  pub raising_done : IsDone around o w.found.covered (asks ++ Raise h ∷ []) place args w
  raising_done = record {
    ops = prep.ops ++ last ∷ [];
    new = prep.new;
    asked = ap (λ (r : Writing). r.found) as_call ∙ ap (λ f. (helper_number h f).1) prep.asked ∙ sym (asked_append asks (Raise h ∷ []) w.found);
    written = ap (λ (r : Writing). r.body.ops) as_call ∙ ap (λ os. os ++ last ∷ []) prep.written ∙ append_assoc w.body.ops prep.ops (last ∷ []);
    types = ap (λ (r : Writing). r.body.types) as_call ∙ prep.types;
    follows = λ program p numbers raised arguments rest e frames core world vs structs has left room inside below given.
        subst (λ os. Follows around place p arguments (At os e frames core) rest e frames core raised (length args) (length w.body.types) world (meant_op program w.found.covered o vs world)) (sym (append_assoc prep.ops (last ∷ []) rest))
        (follow program p numbers raised arguments rest e frames core world vs has left room inside below given);
  }
    where
      follow : (program : Program) (p : LlProgram) (numbers : Numbers) (raised : ℕ → Value) (arguments : List (List ℕ)) (rest : List LlOp) (e : LlExit) (frames : List Frame) (core : Core) (world : World) (vs : List Meant)
          → AllAsked (Has p around.layout numbers raised core) (asks ++ Raise h ∷ []) w.found → world.left ≡ core.steps → length w.body.types + length prep.new ≤ length core.vars → place.variable < length w.body.types → AllBelow (length w.body.types) args → Given around core args vs
          → Follows around place p arguments (At (prep.ops ++ (last ∷ rest)) e frames core) rest e frames core raised (length args) (length w.body.types) world (meant_op program w.found.covered o vs world)
      follow program p numbers raised arguments rest e frames core world vs has left room inside below given =
          let Good : Ask → Found → Type 0 = Has p around.layout numbers raised core in
          let r = prep.ready program p numbers raised arguments (last ∷ rest) e frames core world vs (first_asked Good asks (Raise h ∷ []) w.found has) left room below given in
          let there : HasRaisingHelper p numbers raised h (failures_of h (all_asked asks w.found).covered) (helper_number h (all_asked asks w.found)).0 core = (second_asked Good asks (Raise h ∷ []) w.found has).0 in
          let own : HasRaisingHelper p numbers raised h (failures_of h w.found.covered) (helper_number h next.found).0 r.mid =
          raising_kept core r.mid r.reached.memory
          (subst (λ k. HasRaisingHelper p numbers raised h (failures_of h w.found.covered) (helper_number h k).0 core) (sym prep.asked)
          (subst (λ c. HasRaisingHelper p numbers raised h (failures_of h c) (helper_number h (all_asked asks w.found)).0 core) (all_covered asks w.found) there)) in
          let long : length r.mid.vars ≡ length core.vars = r.reached.room in
          done_behind around place p arguments (At (prep.ops ++ (last ∷ rest)) e frames core) (last ∷ rest) rest e frames core r.mid raised (length args) (length w.body.types) world r.reached (meant_op program w.found.covered o vs world)
          (calls_raising around place p arguments rest e frames r.mid number xs raised (length args) (length w.body.types) world t takes (omega (arith, long, room, inside)) r.set (meant_op program w.found.covered o vs world)
          (λ waits. subst (λ answer. raising.Follows p arguments (Calling number (operands r.mid.vars xs) waits r.mid) waits r.mid raised t world answer) (sym (r.answers program w.found.covered world))
          (raising_helpers_follow p numbers raised h w.found.covered number r.mid own arguments (operands r.mid.vars xs) waits t world (meant_op program no_covers o vs world) (λ q below has. r.does q number below has))))

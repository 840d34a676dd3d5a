-- What helpers come to that pay, make strings, or hand on what another graph gives.
use Rattle.std.proofs.Common.{◌≡◌, ◌<◌, ◌≤◌, ℕ, ◌+◌, ◌-◌, ◌^◌, Bool, true, false, List, [], ◌∷◌, ◌++◌, length, Option, Some, None, pos, refl, sym, ap, ◌∙◌, subst, arith}
use Rattle.std.proofs.lemmas.Bool.Decides.{nat_tests}
use Rattle.std.proofs.lemmas.List.{append-nil}
use Rattle.std.specs.Prelude.{slice_set, cond, nat_lt}
use Rattle.rpy_tree.specs.Value.{Value as Meant, Text}
use Rattle.rpy_meaning.specs.World.{World, Op, Answer, Gives, Throws, Fails, Lacks, Enters, Bad, paying}
use Rattle.csub_tree.specs.State.{Value, Word, Ptr, Block, Core}
use Rattle.csub_tree.specs.Operation.{is_unset}
use Rattle.csub_tree.specs.Statement.{read, operand, operands, any_unset}
use Rattle.csub_tree.specs.declared.stuck.StuckReason.TheVariants.{Unset as IsUnset}
use Rattle.csub_tree.specs.declared.tree.COperand.{COperand}
use Rattle.csub_tree.specs.declared.tree.COperand.TheVariants.{Var}
use Rattle.ll_code.specs.State.{Frame, State, Calling, At, Returning, Goes, Sticks}
use Rattle.ll_code.specs.Machine.{waiting, resumed}
use Rattle.ll_code.specs.declared.program.LlType.{LlType}
use Rattle.ll_code.specs.declared.program.LlType.TheVariants as type
use Rattle.ll_code.specs.declared.program.LlOp.{LlOp}
use Rattle.ll_code.specs.declared.program.LlOp.TheVariants as op
use Rattle.ll_code.specs.declared.program.LlExit.{LlExit}
use Rattle.ll_code.specs.declared.program.LlExit.TheVariants as exit
use Rattle.ll_code.specs.declared.program.LlProgram.{LlProgram}
use Rattle.ll_held.specs.Roots.{slots}
use Rattle.ll_leads.specs.Path.{Leads}
use Rattle.ll_leads.specs.Memory.{forgotten}
use Rattle.ll_leads.proofs.Ways.{on, then, one, lacks}
use Rattle.ll_texts.specs.Texts.{AreBytes, text_block}
use Rattle.ll_texts.specs.Stands.{Stands, text, missing}
use Rattle.ll_texts.specs.Follows.{Follows, Gave, Lacked, text_blocks}
use Rattle.ll_texts.proofs.Reading.{is_set}
use Rattle.ll_texts.proofs.Writing.{newest}
use Rattle.ll_texts.proofs.Holding.{Within, holds_at, holds_call}

pub set_text : {bs : List (Option Block)} {ss : List Block} {x : Value} {v : Meant} → Stands bs ss (type.Ptr 0) x v → is_unset x ≡ false
set_text (text x bytes t) = is_set t
set_text missing = refl

module _ {p : LlProgram} {args : List (List ℕ)} {s : State} {core : Core} where
  -- the cost is paid first
  pub by_paying : (frames : List Frame) (t : LlType) (w : World) (cost : ℕ) (go : Op) → (w.left < cost → Lacked p args s core) → ((left : ℕ) → w.left ≡ cost + left → Follows p args s frames core t w (go (record w { left = left }))) → Follows p args s frames core t w (paying cost go w)
  by_paying frames t w cost go lacks paid = one_of (nat_lt w.left cost) refl
    where
      one_of : (b : Bool) → nat_lt w.left cost ≡ b → Follows p args s frames core t w (cond b Lacks (go (record w { left = w.left - cost })))
      one_of true e = lacks (let l : w.left < cost = grind (arith, nat_tests, e) in l)
      one_of false e = paid (w.left - cost) (let l : cost ≤ w.left = grind (arith, nat_tests, e) in omega (arith, l))

module _ {p : LlProgram} {args : List (List ℕ)} {s : State} {frames : List Frame} {core : Core} where
  -- nothing was made, and so many steps are left
  pub gave_left : {t : LlType} {w : World} {v : Meant} {value : Value} {end : Core} (left : ℕ) → Leads p args 0 s [] (Returning value frames end) → forgotten end ≡ forgotten (record core { steps = left }) → Stands core.blocks core.statics t value v → Gave p args s frames core t w v (record w { left = left })
  gave_left {t = t} {w = w} {v = v} {value = value} {end = end} left l m st = record {
    value = value;
    end = end;
    text = [];
    leads = l;
    texts = [];
    few = omega arith;
    memory = m ∙ ap (λ bs. forgotten (record core { blocks = bs; steps = left })) (sym (append-nil core.blocks));
    stands = subst (λ (c : Core). Stands c.blocks c.statics t value v) (sym m) st;
    out = sym (append-nil w.out);
    heap = refl;
  }

  -- a string was made
  pub gave_new : {w : World} {end : Core} (left : ℕ) (bytes : List ℕ) → Leads p args 0 s [] (Returning (Ptr (length core.blocks)) frames end) → forgotten end ≡ forgotten (record core { blocks = core.blocks ++ Some (text_block bytes) ∷ []; steps = left }) → length bytes < 2 ^ 63 → AreBytes bytes → Gave p args s frames core (type.Ptr 0) w (Text bytes) (record w { left = left })
  gave_new {w = w} {end = end} left bytes l m short small = record {
    value = Ptr (length core.blocks);
    end = end;
    text = [];
    leads = l;
    texts = bytes ∷ [];
    few = omega arith;
    memory = m;
    stands = subst (λ (c : Core). Stands c.blocks c.statics (type.Ptr 0) (Ptr (length core.blocks)) (Text bytes)) (sym m) (text (Ptr (length core.blocks)) bytes (record { is = newest core.blocks (Some (text_block bytes)) None; short = short; small = small }));
    out = sym (append-nil w.out);
    heap = refl;
  }

-- the steps do not suffice, in the graph that was called itself
module _ {p : LlProgram} {args : List (List ℕ)} {f : ℕ} {values : List Value} {frames : List Frame} {core : Core} where
  pub stops : {ops : List LlOp} {e : LlExit} {next : Core} {x : COperand} (cost : ℕ) → Leads p args 0 (Calling f values frames core) [] (At (op.Step x ∷ ops) e frames next) → operand next.vars x ≡ Word (pos cost) → next.steps < cost → forgotten (record next { steps = 0 }) ≡ forgotten (record core { steps = 0 }) → Within next.vars values → Lacked p args (Calling f values frames core) core
  stops {ops = ops} {e = e} {next = next} {x = x} cost l is few same vars = record {
    last = At (op.Step x ∷ ops) e frames next;
    leads = l;
    ends = lacks p args ops e frames next x cost is few;
    blocks = ap (λ (c : Core). c.blocks) same;
    holds = holds_at p f values frames core (op.Step x ∷ ops) e next (ap (λ (c : Core). slots c) same) vars;
  }

-- the call whose result is given back
abbrev pub handing : Core → ℕ → Frame
handing next a = waiting next (Some a) [] (exit.Return (Some (Var a)))

abbrev pub handed : Core → ℕ → ℕ → List COperand → List Frame → State
handed next a g xs frames = Calling g (operands next.vars xs) (handing next a ∷ frames) next

-- the result of a graph that is called is given back
module _ {p : LlProgram} {args : List (List ℕ)} {f : ℕ} {values : List Value} {frames : List Frame} {core : Core} where
  pub hands : {a g : ℕ} {xs : List COperand} {next : Core} (w : World) (answer : Answer)
      → Leads p args 0 (Calling f values frames core) [] (At (op.Call (Some a) g xs ∷ []) (exit.Return (Some (Var a))) frames next)
      → forgotten next ≡ forgotten core → any_unset (operands next.vars xs) ≡ false → Within (operands next.vars xs) values → Within next.vars values
      → ((value : Value) → read (slice_set next.vars a value) a ≡ value)
      → ((waits : List Frame) → Follows p args (Calling g (operands next.vars xs) waits next) waits next (type.Ptr 0) w answer)
      → Follows p args (Calling f values frames core) frames core (type.Ptr 0) w answer
  hands {a = a} {g = g} {xs = xs} {next = next} w answer first same set given vars back go = by answer (go (handing next a ∷ frames))
    where
      to_call : Leads p args 0 (Calling f values frames core) [] (handed next a g xs frames)
      to_call = on first (one (ap (λ b. cond b (Sticks IsUnset) (Goes (handed next a g xs frames))) set) refl)

      by : (answer : Answer) → Follows p args (handed next a g xs frames) (handing next a ∷ frames) next (type.Ptr 0) w answer → Follows p args (Calling f values frames core) frames core (type.Ptr 0) w answer
      by (Gives v w') h = record {
        value = h.value;
        end = record (resumed (handing next a) h.end) { vars = slice_set next.vars a h.value };
        text = h.text;
        leads = on to_call (then h.leads (on (one refl refl) (one (ap (λ x. cond (is_unset x) (Sticks IsUnset) (Goes (Returning x frames (record (resumed (handing next a) h.end) { vars = slice_set next.vars a h.value })))) (back h.value) ∙ ap (λ b. cond b (Sticks IsUnset) (Goes (Returning h.value frames (record (resumed (handing next a) h.end) { vars = slice_set next.vars a h.value })))) (set_text h.stands)) refl)));
        texts = h.texts;
        few = h.few;
        memory = h.memory ∙ ap (λ (c : Core). record c { blocks = c.blocks ++ text_blocks h.texts; steps = w'.left }) same;
        stands = h.stands;
        out = h.out;
        heap = h.heap;
      }
      by Lacks h = record {
        last = h.last;
        leads = on to_call h.leads;
        ends = h.ends;
        blocks = h.blocks ∙ ap (λ (c : Core). c.blocks) same;
        holds = λ b k. holds_call p f values frames core g (operands next.vars xs) (handing next a) next (ap (λ (c : Core). slots c) same) given vars b (h.holds b k);
      }
      by (Fails name) h = record { last = h.last; leads = on to_call h.leads; ends = h.ends }
      by (Throws exception w') h = h
      by (Enters function values instead w') h = h
      by Bad h = tt

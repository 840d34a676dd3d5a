-- Ways that change variables alone, behind the first so many, and what comes behind them.
use Rattle.std.proofs.Common.{◌≡◌, ◌<◌, ◌≤◌, ℕ, ◌+◌, false, List, [], ◌∷◌, ◌++◌, length, Some, refl, sym, ap, ◌∙◌, subst, arith}
use Rattle.std.specs.Prelude.{cond}
use Rattle.std.proofs.lemmas.List.{append-nil, get_or-set_same, get_or-set_other, length-set}
use Rattle.csub_tree.specs.State.{Value, Unset, Core}
use Rattle.csub_tree.specs.Statement.{read, operand, operands, any_unset}
use Rattle.csub_tree.specs.declared.stuck.StuckReason.TheVariants.{Unset as IsUnset}
use Rattle.csub_tree.specs.declared.tree.COperand.{COperand}
use Rattle.csub_tree.specs.declared.tree.COperand.TheVariants.{Var, Const}
use Rattle.rpy_base.specs.declared.outcome.FailName.{FailName}
use Rattle.rpy_tree.specs.Value.{Value as Meant}
use Rattle.rpy_meaning.specs.World.{World, Answer, Gives, Throws, Fails, Lacks, Enters, Bad}
use Rattle.ll_code.specs.State.{Frame, State, Calling, At, Goes, Sticks}
use Rattle.ll_code.specs.Machine.{waiting}
use Rattle.ll_code.specs.declared.program.LlOp.{LlOp}
use Rattle.ll_code.specs.declared.program.LlOp.TheVariants as op
use Rattle.ll_code.specs.declared.program.LlExit.{LlExit}
use Rattle.ll_code.specs.declared.program.LlProgram.{LlProgram}
use Rattle.ll_leads.specs.Memory.{forgotten}
use Rattle.ll_leads.specs.Path.{Leads}
use Rattle.ll_leads.proofs.Joined.{leads_then, leads_more}
use Rattle.ll_leads.proofs.Ways.{Comes, on, one, call}
use Rattle.ll_texts.specs.Follows.{FailedAs}
use Rattle.rtyper_data.specs.Seen.{Around, Place}
use Rattle.lower_laws.specs.Done.{Threw}
use Rattle.lower_laws.specs.Values.{IsBelow}
use Rattle.lower_laws.proofs.Doing.{after}
use Rattle.lower_laws.proofs.Small.{Flies}
use Rattle.object_laws.specs.Known.{Known}
use Rattle.object_laws.specs.Done.{Came, Follows}
use Rattle.object_laws.specs.Ghost.{Ghost}
use Rattle.object_laws.specs.Represents.{Represents}
use Rattle.object_laws.specs.Values.{Holds}
use Rattle.object_laws.proofs.Growing.{grown_none}

-- ---- what was passed

pub record Passed (below : ℕ) (core mid : Core) : Type 0 where
  pub memory : forgotten mid ≡ forgotten core
  pub others : (k : ℕ) → k < below → read mid.vars k ≡ read core.vars k
  pub room : length mid.vars ≡ length core.vars
  pub function : mid.function ≡ core.function
  pub block : mid.block ≡ core.block

pub none_passed : {below : ℕ} {core : Core} → Passed below core core
none_passed = record { memory = refl; others = λ k under. refl; room = refl; function = refl; block = refl }

-- another variable is set
pub sets_more : {below : ℕ} {core mid : Core} (m : ℕ) (value : Value) → below ≤ m → Passed below core mid → Passed below core (after mid m value)
sets_more {mid = mid} m value h passed = record {
  memory = passed.memory;
  others = λ k under. get_or-set_other mid.vars m k value _ (λ same. absurd (omega (arith, under, h, same))) ∙ passed.others k under;
  room = length-set mid.vars m value ∙ passed.room;
  function = passed.function;
  block = passed.block;
}

pub both_passed : {below above : ℕ} {core mid end : Core} → below ≤ above → Passed below core mid → Passed above mid end → Passed below core end
both_passed h a b = record {
  memory = b.memory ∙ a.memory;
  others = λ k under. b.others k (omega (arith, under, h)) ∙ a.others k under;
  room = b.room ∙ a.room;
  function = b.function ∙ a.function;
  block = b.block ∙ a.block;
}

-- an operand from before is what it was
pub operand_kept : {below : ℕ} {core mid : Core} → Passed below core mid → (x : COperand) → IsBelow below x → operand mid.vars x ≡ operand core.vars x
operand_kept passed (Var v) h = passed.others v h
operand_kept passed (Const c) h = refl

pub is_set_at : (core : Core) (m : ℕ) (value : Value) → m < length core.vars → read (after core m value).vars m ≡ value
is_set_at core m value h = get_or-set_same core.vars m value Unset h

pub is_kept_at : (core : Core) (m k : ℕ) (value : Value) → (k ≡ m → ⊥) → read (after core m value).vars k ≡ read core.vars k
is_kept_at core m k value other = get_or-set_other core.vars m k value Unset other

-- ---- over memory that is the same

-- the answer does not lack steps
abbrev pub Pays : Answer → Type 0
Pays Lacks = ⊥
Pays answer = Unit {0}

module _ {count : ℕ} {known : Known} {around : Around} {place : Place} {p : LlProgram} {args : List (List ℕ)} {rest : List LlOp} {e : LlExit} {frames : List Frame} {core : Core} {g : Ghost} where
  -- variables are set, the place last
  pub sets_last : {s : State} {world : World} (most below : ℕ) (mid : Core) (value : Value) (v : Meant) → Represents around.layout known g world.heap world.left core.blocks core.statics → world.left ≡ core.steps → Passed below core mid → place.variable < length core.vars
      → Leads p args 0 s [] (At rest e frames (after mid place.variable value)) → Holds around.layout known g place.element value v → Came count known around place p args s rest e frames core g most below world v world
  sets_last {world = world} most below mid value v stands left passed inside way held = record {
    end = after mid place.variable value;
    text = [];
    leads = leads_more 0 most (omega arith) way;
    ghost = g;
    grown = grown_none;
    stands = subst (λ (c : Core). Represents around.layout known g world.heap world.left c.blocks c.statics) (sym passed.memory) stands;
    holds = subst (λ x. Holds around.layout known g place.element x v) (sym (is_set_at mid place.variable value (let r = passed.room in omega (arith, inside, r)))) held;
    few = (let same : length mid.blocks ≡ length core.blocks = ap (λ (c : Core). length c.blocks) passed.memory in omega (arith, same));
    memory = passed.memory
        ∙ ap (λ bs. forgotten (record core { blocks = bs })) (sym (ap (λ (c : Core). c.blocks) passed.memory))
        ∙ ap (λ ss. forgotten (record core { blocks = mid.blocks; statics = ss })) (sym (ap (λ (c : Core). c.statics) passed.memory))
        ∙ ap (λ n. forgotten (record core { blocks = mid.blocks; statics = mid.statics; steps = n })) (sym left);
    others = λ k under other. is_kept_at mid place.variable k value other ∙ passed.others k under;
    room = length-set mid.vars place.variable value ∙ passed.room;
    function = passed.function;
    block = passed.block;
    out = sym (append-nil world.out);
  }

-- what comes behind
module _ (count : ℕ) (known : Known) (around : Around) (place : Place) (p : LlProgram) (args : List (List ℕ)) (rest : List LlOp) (e : LlExit) (frames : List Frame) (core : Core) (g : Ghost) (raised : ℕ → Value) (most below : ℕ) (world : World) where
  pub behind : {s t : State} {mid : Core} → Passed below core mid → Leads p args 0 s [] t → (answer : Answer) → Pays answer → Follows count known around place p args t rest e frames mid g raised most below world answer → Follows count known around place p args s rest e frames core g raised most below world answer
  behind {mid = mid} passed way (Gives v w') pays c = record {
    end = c.end;
    text = c.text;
    leads = leads_more (0 + most) most (omega arith) (leads_then way c.leads);
    ghost = c.ghost;
    grown = c.grown;
    stands = c.stands;
    holds = c.holds;
    few = (let few = c.few in let same : length mid.blocks ≡ length core.blocks = ap (λ (c : Core). length c.blocks) passed.memory in omega (arith, few, same));
    memory = c.memory ∙ ap (λ (m : Core). record m { blocks = c.end.blocks; statics = c.end.statics; steps = w'.left }) passed.memory;
    others = λ k under other. c.others k under other ∙ passed.others k under;
    room = c.room ∙ passed.room;
    function = c.function ∙ passed.function;
    block = c.block ∙ passed.block;
    out = c.out;
  }
  behind passed way (Throws exception w') pays t = record {
    frame = t.frame;
    end = t.end;
    leads = on way t.leads;
    memory = t.memory ∙ passed.memory;
    left = t.left;
    ops = t.ops;
    exit = t.exit;
    others = λ k under. t.others k under ∙ passed.others k under;
    room = t.room ∙ passed.room;
    function = t.function ∙ passed.function;
    block = t.block ∙ passed.block;
    same = t.same;
  }
  behind passed way (Fails name) pays d = record { last = d.last; leads = on way d.leads; ends = d.ends }
  behind passed way Lacks pays d = absurd pays
  behind passed way (Enters function values instead w') pays d = absurd d
  behind passed way Bad pays d = tt

-- ---- calls with known operands

module _ {p : LlProgram} {args : List (List ℕ)} {e : LlExit} {frames : List Frame} {core : Core} {m f : ℕ} {xs : List COperand} {values : List Value} (same : operands core.vars xs ≡ values) (set : any_unset values ≡ false) where
  -- it comes back, and memory is as it was
  pub calls_at : {later : List LlOp} {value : Value} → ((waits : List Frame) → Comes p args (Calling f values waits core) [] value waits core) → Leads p args 0 (At (op.Call (Some m) f xs ∷ later) e frames core) [] (At later e frames (after core m value))
  calls_at {value = value} comes = call (ap any_unset same ∙ set) (λ waits. subst (λ vs. Comes p args (Calling f vs waits core) [] value waits core) (sym same) (comes waits))

  enters : (ops : List LlOp) → Leads p args 0 (At (op.Call (Some m) f xs ∷ ops) e frames core) [] (Calling f values (waiting core (Some m) ops e ∷ frames) core)
  enters ops = one (ap (λ vs. cond (any_unset vs) (Sticks IsUnset) (Goes (Calling f vs (waiting core (Some m) ops e ∷ frames) core))) same ∙ ap (λ b. cond b (Sticks IsUnset) (Goes (Calling f values (waiting core (Some m) ops e ∷ frames) core))) set) refl

  -- it raises
  pub throws_at : {x : Value} {below : ℕ} {w : World} (later rest : List LlOp) → ((waits : List Frame) → Flies p args (Calling f values waits core) x waits core) → Threw p args (At (op.Call (Some m) f xs ∷ (later ++ rest)) e frames core) rest e frames core x below w w
  throws_at later rest flies =
      let it = flies (waiting core (Some m) (later ++ rest) e ∷ frames) in
      record { frame = waiting core (Some m) (later ++ rest) e; end = it.end; leads = on (enters (later ++ rest)) it.leads; memory = it.same; left = later; ops = refl; exit = refl; others = λ k under. refl; room = refl; function = refl; block = refl; same = refl }

  -- it fails
  pub fails_at : {name : FailName} (ops : List LlOp) → ((waits : List Frame) → FailedAs p args (Calling f values waits core) name) → FailedAs p args (At (op.Call (Some m) f xs ∷ ops) e frames core) name
  fails_at ops ends = let it = ends (waiting core (Some m) ops e ∷ frames) in record { last = it.last; leads = on (enters ops) it.leads; ends = it.ends }

-- a way to where the list, or another value, is in a variable
pub record Went (p : LlProgram) (args : List (List ℕ)) (s : State) (rest : List LlOp) (e : LlExit) (frames : List Frame) (core : Core) (below x : ℕ) (value : Value) : Type 0 where
  pub mid : Core
  pub way : Leads p args 0 s [] (At rest e frames mid)
  pub passed : Passed below core mid
  pub is : read mid.vars x ≡ value

-- What comes behind a conversion, and behind what changes variables alone.
use Rattle.std.proofs.Common.{◌≡◌, ◌≤◌, ℕ, ◌+◌, List, [], length, sym, ap, ◌∙◌, subst, arith}
use Rattle.csub_tree.specs.State.{Value, Core}
use Rattle.rpy_meaning.specs.World.{World, Answer, Gives, Throws, Fails, Lacks, Enters, Bad}
use Rattle.ll_code.specs.State.{Frame, State, At}
use Rattle.ll_code.specs.declared.program.LlOp.{LlOp}
use Rattle.ll_code.specs.declared.program.LlExit.{LlExit}
use Rattle.ll_code.specs.declared.program.LlProgram.{LlProgram}
use Rattle.ll_held.specs.Roots.{core_of}
use Rattle.ll_leads.specs.Memory.{forgotten}
use Rattle.ll_leads.proofs.Joined.{leads_then, leads_more}
use Rattle.rtyper_data.specs.Seen.{Around, Place}
use Rattle.object_laws.specs.Done as objects
use Rattle.object_laws.specs.Ghost.{Ghost}
use Rattle.object_laws.specs.Known.{Known}
use Rattle.object_laws.specs.Represents.{Represents}
use Rattle.object_laws.proofs.Growing.{grown_none}
use Rattle.object_laws.proofs.Passing.{Passed}
use Rattle.conversion_laws.proofs.Moving.{Moved, grown_both}
use Rattle.dict_conversion_laws.specs.Done.{Follows}
use Rattle.ll_leads.specs.Path.{Leads}

module _ (known : Known) (around : Around) (place : Place) (p : LlProgram) (args : List (List ℕ)) (rest : List LlOp) (e : LlExit) (frames : List Frame) (raised : ℕ → Value) (world : World) where
  -- what changes no memory where it does not give
  pub follows_so : (blocks most below : ℕ) (s : State) (core : Core) {g : Ghost} → Represents around.layout known g world.heap world.left core.blocks core.statics → (answer : Answer)
      → objects.Follows blocks known around place p args s rest e frames core g raised most below world answer → Follows blocks known around place p args s rest e frames core g raised most below world answer
  follows_so blocks most below s core r (Gives v w') c = c
  follows_so blocks most below s core {g = g} r (Throws exception w') t = record {
    frame = t.frame;
    end = t.end;
    leads = leads_more 0 most (omega arith) t.leads;
    ghost = g;
    grown = grown_none;
    stands = subst (λ w. Represents around.layout known g w.heap w.left t.end.blocks t.end.statics) (sym t.same) (subst (λ (c : Core). Represents around.layout known g world.heap world.left c.blocks c.statics) (sym t.memory) r);
    few = (let same : length t.end.blocks ≡ length core.blocks = ap (λ (c : Core). length c.blocks) t.memory in omega (arith, same));
    memory = t.memory ∙ ap (λ bs. forgotten (record core { blocks = bs })) (sym (ap (λ (c : Core). c.blocks) t.memory));
    left = t.left;
    ops = t.ops;
    exit = t.exit;
    others = t.others;
    room = t.room;
    function = t.function;
    block = t.block;
    same = t.same;
  }
  follows_so blocks most below s core r (Fails name) d = record { last = d.last; leads = leads_more 0 most (omega arith) d.leads; ends = d.ends }
  follows_so blocks most below s core {g = g} r Lacks d = record {
    last = d.last;
    leads = leads_more 0 most (omega arith) d.leads;
    ends = d.ends;
    ghost = g;
    grown = grown_none;
    stands = subst (λ bs. Represents around.layout known g world.heap world.left bs core.statics) (sym d.blocks) r;
    few = (let same = ap length d.blocks in omega (arith, same));
  }
  follows_so blocks most below s core r (Enters function values instead w') d = absurd d
  follows_so blocks most below s core r Bad d = tt

  module _ (count most also both blocks total below above : ℕ) {s : State} {more : List LlOp} {core mid : Core} {g h : Ghost} where
    -- behind a way on which blocks are made
    pub then_follows : Moved around.layout known p args s more e frames core g world.heap world.left below most count mid h → below ≤ above → most + also ≤ both → count + blocks ≤ total → (answer : Answer)
        → Follows blocks known around place p args (At more e frames mid) rest e frames mid h raised also above world answer → Follows total known around place p args s rest e frames core g raised both below world answer
    then_follows m under fits fewer (Gives v w') c = record {
      end = c.end;
      text = c.text;
      leads = leads_more (most + also) both fits (leads_then m.leads c.leads);
      ghost = c.ghost;
      grown = grown_both m.grown c.grown;
      stands = c.stands;
      holds = c.holds;
      few = (let a = m.few in let b = c.few in omega (arith, a, b, fewer));
      memory = c.memory ∙ ap (λ (k : Core). record k { blocks = c.end.blocks; statics = c.end.statics; steps = w'.left }) m.memory;
      others = λ k low other. c.others k (omega (arith, low, under)) other ∙ m.others k low;
      room = c.room ∙ m.room;
      function = c.function ∙ m.function;
      block = c.block ∙ m.block;
      out = c.out;
    }
    then_follows m under fits fewer (Throws exception w') t = record {
      frame = t.frame;
      end = t.end;
      leads = leads_more (most + also) both fits (leads_then m.leads t.leads);
      ghost = t.ghost;
      grown = grown_both m.grown t.grown;
      stands = t.stands;
      few = (let a = m.few in let b = t.few in omega (arith, a, b, fewer));
      memory = t.memory ∙ ap (λ (k : Core). record k { blocks = t.end.blocks }) m.memory;
      left = t.left;
      ops = t.ops;
      exit = t.exit;
      others = λ k low. t.others k (omega (arith, low, under)) ∙ m.others k low;
      room = t.room ∙ m.room;
      function = t.function ∙ m.function;
      block = t.block ∙ m.block;
      same = t.same;
    }
    then_follows m under fits fewer (Fails name) d = record { last = d.last; leads = leads_more (most + also) both fits (leads_then m.leads d.leads); ends = d.ends }
    then_follows m under fits fewer Lacks d = record {
      last = d.last;
      leads = leads_more (most + also) both fits (leads_then m.leads d.leads);
      ends = d.ends;
      ghost = d.ghost;
      grown = grown_both m.grown d.grown;
      stands = subst (λ ss. Represents around.layout known d.ghost world.heap world.left (core_of d.last).blocks ss) (ap (λ (c : Core). c.statics) m.memory) d.stands;
      few = (let a = m.few in let b = d.few in omega (arith, a, b, fewer));
    }
    then_follows m under fits fewer (Enters function values instead w') d = absurd d
    then_follows m under fits fewer Bad d = tt

  -- a way that changes variables alone
  pub moved_so : {s : State} {more : List LlOp} {core mid : Core} {g : Ghost} {below : ℕ} → Represents around.layout known g world.heap world.left core.blocks core.statics → Passed below core mid → Leads p args 0 s [] (At more e frames mid)
      → Moved around.layout known p args s more e frames core g world.heap world.left below 0 0 mid g
  moved_so {core = core} {mid = mid} {g = g} r passed way = record {
    leads = way;
    grown = grown_none;
    stands = subst (λ (c : Core). Represents around.layout known g world.heap world.left c.blocks c.statics) (sym passed.memory) r;
    few = (let same : length mid.blocks ≡ length core.blocks = ap (λ (c : Core). length c.blocks) passed.memory in omega (arith, same));
    memory = passed.memory ∙ ap (λ bs. forgotten (record core { blocks = bs })) (sym (ap (λ (c : Core). c.blocks) passed.memory));
    others = passed.others;
    room = passed.room;
    function = passed.function;
    block = passed.block;
  }

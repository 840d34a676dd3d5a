-- What is done behind conversions.
use Rattle.std.proofs.Common.{◌≡◌, ◌≤◌, ℕ, ◌+◌, List, [], length, sym, ap, ◌∙◌, subst, arith, refl}
use Rattle.csub_tree.specs.State.{Core}
use Rattle.ll_code.specs.State.{Frame, State, At}
use Rattle.ll_code.specs.declared.program.LlOp.{LlOp}
use Rattle.ll_code.specs.declared.program.LlExit.{LlExit}
use Rattle.ll_code.specs.declared.program.LlProgram.{LlProgram}
use Rattle.ll_leads.specs.Path.{Leads}
use Rattle.ll_leads.proofs.Joined.{leads_then, leads_more}
use Rattle.ll_leads.proofs.Ways.{rests}
use Rattle.rpy_tree.specs.Value.{Value as Meant, Heap}
use Rattle.rpy_meaning.specs.World.{World}
use Rattle.rtyper_layout.specs.declared.layout.Layout.{Layout}
use Rattle.rtyper_data.specs.Seen.{Around, Place}
use Rattle.object_laws.specs.Done.{Came}
use Rattle.object_laws.specs.Ghost.{Ghost}
use Rattle.object_laws.specs.Known.{Known}
use Rattle.object_laws.specs.Represents.{Represents}
use Rattle.object_laws.proofs.Growing.{grown_none}
use Rattle.object_laws.proofs.Passing.{Passed}
use Rattle.conversion_laws.proofs.Moving.{grown_both}
use Rattle.passing_laws.specs.Done.{Behind}
use Rattle.passing_laws.specs.Passed.{Moved}

-- a way that changes variables alone
pub passed_moved : {layout : Layout} {known : Known} {p : LlProgram} {arguments : List (List ℕ)} {s : State} {rest : List LlOp} {e : LlExit} {frames : List Frame} {core mid : Core} {g : Ghost} {heap : Heap} {left below : ℕ} {Fine : Ghost → Core → Type 0}
    → Represents layout known g heap left core.blocks core.statics → Passed below core mid → Leads p arguments 0 s [] (At rest e frames mid) → Fine g mid → Moved layout known p arguments s rest e frames core g heap left below 0 0 Fine
passed_moved {layout = layout} {known = known} {core = core} {mid = mid} {g = g} {heap = heap} {left = left} r passed way fine = record {
  end = mid;
  leads = way;
  ghost = g;
  grown = grown_none;
  stands = subst (λ (k : Core). Represents layout known g heap left k.blocks k.statics) (sym passed.memory) r;
  fine = fine;
  few = (let same : length mid.blocks ≡ length core.blocks = ap (λ (k : Core). length k.blocks) passed.memory in omega (arith, same));
  memory = passed.memory ∙ sym (ap (λ bs. record core { function = 0; block = 0; at = 0; vars = []; blocks = bs }) (ap (λ (k : Core). k.blocks) passed.memory));
  others = passed.others;
  room = passed.room;
  function = passed.function;
  block = passed.block;
}

-- what an operation gives, behind what keeps the heap
pub came_behind : {known : Known} {around : Around} {place : Place} {p : LlProgram} {args : List (List ℕ)} {s : State} {next rest : List LlOp} {e : LlExit} {frames : List Frame} {core : Core} {g : Ghost} {heap : Heap} {left below above most also count too : ℕ} {Fine : Ghost → Core → Type 0} {w w' : World} {v : Meant}
    → below ≤ above → (a : Moved around.layout known p args s next e frames core g heap left below most count Fine) → Came too known around place p args (At next e frames a.end) rest e frames a.end a.ghost also above w v w'
    → Came (count + too) known around place p args s rest e frames core g (most + also) below w v w'
came_behind {w' = w'} h a c = record {
  end = c.end;
  text = c.text;
  leads = leads_then a.leads c.leads;
  ghost = c.ghost;
  grown = grown_both a.grown c.grown;
  stands = c.stands;
  holds = c.holds;
  few = (let x = a.few in let y = c.few in omega (arith, x, y));
  memory = c.memory ∙ ap (λ (m : Core). record m { blocks = c.end.blocks; statics = c.end.statics; steps = w'.left }) a.memory;
  others = λ k under other. c.others k (omega (arith, under, h)) other ∙ a.others k under;
  room = c.room ∙ a.room;
  function = c.function ∙ a.function;
  block = c.block ∙ a.block;
  out = c.out;
}

pub came_more : {known : Known} {around : Around} {place : Place} {p : LlProgram} {args : List (List ℕ)} {s : State} {rest : List LlOp} {e : LlExit} {frames : List Frame} {core : Core} {g : Ghost} {below most also count too : ℕ} {w w' : World} {v : Meant} → most ≤ also → count ≤ too
    → Came count known around place p args s rest e frames core g most below w v w' → Came too known around place p args s rest e frames core g also below w v w'
came_more {most = most} {also = also} h k c = record {
  end = c.end;
  text = c.text;
  leads = leads_more most also h c.leads;
  ghost = c.ghost;
  grown = c.grown;
  stands = c.stands;
  holds = c.holds;
  few = (let x = c.few in omega (arith, x, k));
  memory = c.memory;
  others = c.others;
  room = c.room;
  function = c.function;
  block = c.block;
  out = c.out;
}

-- with no conversion before
pub at_once : {layout : Layout} {known : Known} {p : LlProgram} {arguments : List (List ℕ)} {s : State} {core : Core} {g : Ghost} {heap : Heap} {left below : ℕ} (most count : ℕ) {Then : State → Core → Ghost → Type 0} → Represents layout known g heap left core.blocks core.statics → Then s core g
    → Behind layout known p arguments s core g heap left below most count Then
at_once {s = s} {core = core} {g = g} most count r then = record {
  at = s;
  mid = core;
  leads = leads_more 0 most (omega arith) rests;
  ghost = g;
  grown = grown_none;
  stands = r;
  few = omega arith;
  memory = refl;
  others = λ k h. refl;
  room = refl;
  function = refl;
  block = refl;
  then = then;
}

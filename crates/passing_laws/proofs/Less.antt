-- What follows, where fewer variables are told of.
use Rattle.std.proofs.Common.{◌≤◌, ℕ, List, arith}
use Rattle.csub_tree.specs.State.{Value, Core}
use Rattle.ll_code.specs.State.{Frame, State}
use Rattle.ll_code.specs.declared.program.LlOp.{LlOp}
use Rattle.ll_code.specs.declared.program.LlExit.{LlExit}
use Rattle.ll_code.specs.declared.program.LlProgram.{LlProgram}
use Rattle.rpy_meaning.specs.World.{World, Answer, Gives, Throws, Fails, Lacks, Enters, Bad}
use Rattle.rtyper_data.specs.Seen.{Around, Place}
use Rattle.object_laws.specs.Done.{Follows}
use Rattle.object_laws.specs.Ghost.{Ghost}
use Rattle.object_laws.specs.Known.{Known}

pub follows_less : (blocks : ℕ) (known : Known) (around : Around) (place : Place) (p : LlProgram) (args : List (List ℕ)) (s : State) (rest : List LlOp) (e : LlExit) (frames : List Frame) (core : Core) (g : Ghost) (raised : ℕ → Value) (most below above : ℕ) (world : World) → below ≤ above → (answer : Answer)
    → Follows blocks known around place p args s rest e frames core g raised most above world answer → Follows blocks known around place p args s rest e frames core g raised most below world answer
follows_less blocks known around place p args s rest e frames core g raised most below above world h (Gives v w') c = record {
  end = c.end;
  text = c.text;
  leads = c.leads;
  ghost = c.ghost;
  grown = c.grown;
  stands = c.stands;
  holds = c.holds;
  few = c.few;
  memory = c.memory;
  others = λ n under other. c.others n (omega (arith, under, h)) other;
  room = c.room;
  function = c.function;
  block = c.block;
  out = c.out;
}
follows_less blocks known around place p args s rest e frames core g raised most below above world h (Throws exception w') t = record {
  frame = t.frame;
  end = t.end;
  leads = t.leads;
  memory = t.memory;
  left = t.left;
  ops = t.ops;
  exit = t.exit;
  others = λ n under. t.others n (omega (arith, under, h));
  room = t.room;
  function = t.function;
  block = t.block;
  same = t.same;
}
follows_less blocks known around place p args s rest e frames core g raised most below above world h (Fails name) d = d
follows_less blocks known around place p args s rest e frames core g raised most below above world h Lacks d = d
follows_less blocks known around place p args s rest e frames core g raised most below above world h (Enters function values instead w') d = d
follows_less blocks known around place p args s rest e frames core g raised most below above world h Bad d = tt

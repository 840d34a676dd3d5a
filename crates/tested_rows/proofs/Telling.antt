-- Operations that set variables of their own tell the truth of a value.
use Rattle.std.proofs.Common.{◌≡◌, ℕ, Bool, List, [], ◌++◌, length, sym, ap, ◌∙◌, subst}
use Rattle.csub_tree.specs.State.{Flag, Core}
use Rattle.csub_tree.specs.Statement.{read}
use Rattle.ll_code.specs.State.{Frame, At}
use Rattle.ll_code.specs.declared.program.LlOp.{LlOp}
use Rattle.ll_code.specs.declared.program.LlExit.{LlExit}
use Rattle.ll_leads.specs.Path.{Leads}
use Rattle.rpy_meaning.specs.World.{World}
use Rattle.rtyper_data.specs.Seen.{Writing}
use Rattle.rtyper_program.specs.Seen.{Lowered}
use Rattle.object_laws.specs.Ghost.{Ghost}
use Rattle.object_laws.specs.Represents.{Represents}
use Rattle.object_laws.proofs.Growing.{grown_none}
use Rattle.object_laws.proofs.Passing.{Passed}
use Rattle.run_laws.specs.Points.{Setting}
use Rattle.block_laws.specs.Exits.{Tests}

-- memory is what it was, and the variable has the answer
pub tells : (s : Setting) (l : Lowered) (w : Writing) (t : ℕ) (b : Bool) (next : List LlOp) (e : LlExit) (frames : List Frame) (core : Core) (g : Ghost) (world : World) (ops : List LlOp) (end : Core)
    → Represents s.around.layout s.known g world.heap world.left core.blocks core.statics → world.left ≡ core.steps → Passed (length w.body.types) core end → read end.vars t ≡ Flag b
    → Leads s.low s.arguments 0 (At (ops ++ next) e frames core) [] (At next e frames end) → Tests s l w t b next e frames core g world ops
tells s l w t b next e frames core g world ops end stands left passed answer leads = record {
  end = end;
  way = record { most = 0; leads = leads };
  ghost = g;
  grown = grown_none;
  stands = subst (λ (c : Core). Represents s.around.layout s.known g world.heap world.left c.blocks c.statics) (sym passed.memory) stands;
  left = left ∙ sym (ap (λ (c : Core). c.steps) passed.memory);
  answer = answer;
  others = passed.others;
  room = passed.room;
  function = passed.function;
}

use Rattle.std.proofs.Common.{length, arith}
use Rattle.rpy_front.proofs.Further.{most, not_below}
use Rattle.rpy_front.proofs.modules.read_modules.Goals as goal
use Rattle.rpy_front.proofs.modules.read_modules.Goals.{in_default, in_default-2}

pub returns : goal.returns
returns c = (
  c.loop-source.invariant,
  elim c.match-get.branch [
    | in_default w ↦ omega (arith, most _ _ _ c.loop-source.invariant, not_below _ _ (w.in_default.ensures').lookup.0, c.len-in-loop-source.ensures, c.requires.same)
    | in_default-2 w ↦ omega (arith, most _ _ _ c.loop-source.invariant, not_below _ _ (w.in_default.ensures).lookup.0, c.len.ensures)
  ],
)

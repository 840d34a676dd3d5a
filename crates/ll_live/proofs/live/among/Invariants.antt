use Rattle.std.proofs.Common.{◌≡◌, drop}
use Rattle.ll_live.specs.Live.{among}
use Rattle.ll_live.proofs.live.among.Given as goal

abbrev pub invariant-loop-w : goal.invariant-loop-w
invariant-loop-w l = among l.v (drop l.w-index l.variables) ≡ among l.v l.variables

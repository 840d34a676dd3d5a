use Rattle.std.proofs.Common.{◌≡◌, drop}
use Rattle.ll_build.specs.Needs.{is_used}
use Rattle.ll_build.proofs.needs.is_used.Given as goal

abbrev pub invariant-loop-need : goal.invariant-loop-need
invariant-loop-need l = is_used (drop l.need-index l.needs) l.graph ≡ is_used l.needs l.graph

use Rattle.std.proofs.Common.{◌≡◌, drop, length}
use Rattle.ll_build.specs.Needs.{number_from}
use Rattle.ll_build.proofs.needs.number.Given as goal

abbrev pub invariant-loop-other : goal.invariant-loop-other
invariant-loop-other l = number_from l.needs l.graph l.n (drop l.other-index l.order) ≡ number_from l.needs l.graph (length l.needs) l.order

use Rattle.std.proofs.Common.{◌≡◌, drop}
use Rattle.names_bound.specs.Clash.{is_among}
use Rattle.names_bound.proofs.clash.is_among.Given as goal

abbrev pub invariant-loop-other : goal.invariant-loop-other
invariant-loop-other l = is_among (drop l.other-index l.classes) l.class ≡ is_among l.classes l.class

use Rattle.std.proofs.Common.{◌≡◌}
use Rattle.ll_helpers.specs.Statics.{entries}
use Rattle.ll_helpers.proofs.statics.entries.Given as goal

abbrev pub invariant-loop-byte : goal.invariant-loop-byte
invariant-loop-byte l = l.made ≡ entries l.byte

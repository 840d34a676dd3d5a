use Rattle.std.proofs.Common.{◌≡◌, ◌++◌}
use Rattle.ll_helpers.specs.Statics.{singles}
use Rattle.ll_helpers.proofs.statics.push_singles.Given as goal

abbrev pub invariant-loop-byte : goal.invariant-loop-byte
invariant-loop-byte l = l.into ≡ l.initial.into ++ singles l.byte

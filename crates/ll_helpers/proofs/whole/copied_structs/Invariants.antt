use Rattle.std.proofs.Common.{◌≡◌, ◌++◌, drop}
use Rattle.ll_helpers.proofs.whole.copied_structs.Given as goal

abbrev pub invariant-loop-item : goal.invariant-loop-item
invariant-loop-item l = l.made ++ drop l.item-index l.structs ≡ l.structs

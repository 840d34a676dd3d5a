use Rattle.std.proofs.Common.{◌≡◌, ◌++◌, take}
use Rattle.ann_lattice.proofs.upper.push_all.Given as goal

abbrev pub invariant-loop-function : goal.invariant-loop-function
invariant-loop-function l = l.joined ≡ l.fn.joined ++ take l.function-index l.functions

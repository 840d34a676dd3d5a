use Rattle.std.proofs.Common.{◌≡◌, drop}
use Rattle.ann_lattice.specs.Order.{are_among}
use Rattle.ann_lattice.proofs.order.functions_below.Given as goal

abbrev pub invariant-loop-function : goal.invariant-loop-function
invariant-loop-function l = are_among (drop l.function-index l.functions) l.others ≡ are_among l.fn.functions l.fn.others

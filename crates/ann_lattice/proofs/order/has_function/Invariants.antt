use Rattle.std.proofs.Common.{◌≡◌, drop}
use Rattle.ann_lattice.specs.Order.{has}
use Rattle.ann_lattice.proofs.order.has_function.Given as goal

abbrev pub invariant-loop-other : goal.invariant-loop-other
invariant-loop-other l = has (drop l.other-index l.functions) l.function ≡ has l.fn.functions l.function

use Rattle.std.proofs.Common.{◌≡◌, drop}
use Rattle.exc_transform.specs.Raising.{some_raises}
use Rattle.exc_transform.proofs.raising.some_raises.Given as goal

abbrev pub invariant-loop-op : goal.invariant-loop-op
invariant-loop-op l = some_raises l.raising.graphs.now l.raising.any (drop l.op-index l.ops) ≡ some_raises l.raising.graphs.now l.raising.any l.ops

use Rattle.std.proofs.Common.{◌≡◌, drop}
use Rattle.exc_transform.specs.Live.{live, live_from}
use Rattle.exc_transform.proofs.live.live_variables.Given as goal

abbrev pub invariant-loop-op : goal.invariant-loop-op
invariant-loop-op l = live_from l.raising.graphs.now l.raising.any l.raises l.set l.live (drop l.op-index l.ops) l.exit ≡ live l.raising.graphs.now l.raising.any l.ops l.exit

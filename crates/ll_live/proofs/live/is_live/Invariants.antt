use Rattle.std.proofs.Common.{◌≡◌, drop}
use Rattle.ll_live.specs.Live.{live}
use Rattle.ll_live.proofs.live.is_live.Given as goal

abbrev pub invariant-loop-op : goal.invariant-loop-op
invariant-loop-op l = live (drop l.op-index l.ops) l.exit l.v ≡ live l.ops l.exit l.v

use Rattle.std.proofs.Common.{rules}
use Rattle.refcount_checks.proofs.Known.{none_on}
use Rattle.refcount_checks.proofs.watch.begin.Goals as goal

-- src/watch.rt:140:5
pub loop-preserved : goal.loop-preserved
loop-preserved c = none_on c.args.types.now c.loop.index c.loop.marks c.push.new.self (search rules) c.in_ok-push.ensures.ok c.loop.invariant

use Rattle.std.proofs.Common.{rules}
use Rattle.rpy_base.proofs.Marking.{none_marked}
use Rattle.rpy_base.proofs.watch.find_and_mark.Goals as goal

pub returns : goal.returns
returns c = none_marked c.args.number c.loop-i.entries.items c.args.entries.now.items c.loop-i.i c.loop-i.invariant.same (search rules) c.loop-i.invariant.none

use Rattle.std.proofs.Common.{arith}
use Rattle.rpy_checked.proofs.Counted.{few}
use Rattle.rpy_checked.proofs.program.has_few_nodes.Goals as goal

pub returns : goal.returns
returns c = few c.args.modules.now c.loop-module.count c.loop-module.module-index (omega (arith, c.loop-module-test.false)) c.loop-module.invariant.0 c.loop-module.invariant.1

use Rattle.rpy_base.proofs.Arithmetic.{power_is}
use Rattle.rpy_base.proofs.word.power.Goals as goal

pub returns : goal.returns
returns c = power_is c.args.k c.ranges.k c.requires.low c.requires.high

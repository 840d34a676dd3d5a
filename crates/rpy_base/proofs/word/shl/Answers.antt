use Rattle.rpy_base.proofs.Arithmetic.{power_of_bits}
use Rattle.rpy_base.proofs.word.shl.Goals as goal

pub returns : goal.returns
returns c = power_of_bits c.args.a c.args.k c.ranges.a c.ranges.k c.requires.low c.requires.high

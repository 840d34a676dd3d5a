use Rattle.std.proofs.Common.{rules}
use Rattle.rpy_base.proofs.Arithmetic.{floor_of_sizes}
use Rattle.rpy_base.proofs.word.floor_div.Goals as goal

pub returns-then-a-b : goal.returns-then-a-b
returns-then-a-b c = floor_of_sizes c.args.a c.args.b c.cast_signed.result c.unsigned_abs-size.result c.unsigned_abs-by.result
    c.ranges.a c.ranges.b (search rules) c.if-a-b.true c.unsigned_abs-size.ensures.value c.unsigned_abs-by.ensures.value
    c.unsigned_abs-size.type_inv c.cast_signed.ensures

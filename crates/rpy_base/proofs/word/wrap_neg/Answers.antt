use Rattle.std.proofs.Common.{rules}
use Rattle.std.proofs.lemmas.Int.{to_z-of_z, wrapping_neg_is}
use Rattle.rpy_base.proofs.word.wrap_neg.Goals as goal

pub returns : goal.returns
returns c = let e = wrapping_neg_is _ c.args.a c.ranges.a in grind (rules, to_z-of_z, e, c.wrapping_neg.ensures)

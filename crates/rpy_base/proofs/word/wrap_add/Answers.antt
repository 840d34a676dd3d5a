use Rattle.std.proofs.Common.{rules}
use Rattle.std.proofs.lemmas.Int.{wraps}
use Rattle.rpy_base.proofs.word.wrap_add.Goals as goal

pub returns : goal.returns
returns c = search (rules, wraps)

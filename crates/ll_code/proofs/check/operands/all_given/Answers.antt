use Rattle.std.proofs.Common.{sym}
use Rattle.ll_code.proofs.Walks.{given_differ}
use Rattle.ll_code.proofs.check.operands.all_given.Goals as goal

pub returns-then-variables-xs : goal.returns-then-variables-xs
returns-then-variables-xs c = sym (given_differ c.args.program.now c.args.graph.now.types c.args.other.now.types c.args.variables.now c.args.xs.now c.if-variables-xs.true)

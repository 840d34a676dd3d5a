use Rattle.std.proofs.Common.{sym}
use Rattle.csub_tree.proofs.Walks.{types_differ}
use Rattle.csub_tree.proofs.check.types.same_types.Goals as goal

pub returns-then-ss-ts : goal.returns-then-ss-ts
returns-then-ss-ts c = sym (types_differ c.args.ss.now c.args.ts.now c.if-ss-ts.true)

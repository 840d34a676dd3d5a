use Rattle.std.proofs.Common.{[]}
use Rattle.refcount_transform.specs.Changes.{header, cleared}
use Rattle.refcount_transform.specs.Seen.{the_plan}
use Rattle.refcount_transform.proofs.Emitted.{joined, header_first}
use Rattle.refcount_transform.proofs.changes.push_array_header.Goals as goal

pub returns : goal.returns
returns c =
    let plan = the_plan c.args.plan in
    joined (header plan c.args.a c.args.n) c.args.into.now c.push_header.new.into c.push_cleared.new.into (cleared plan c.args.a c.args.n c.args.x []) (header_first plan c.args.a c.args.n)
    c.in_ok-push_header.ensures c.in_ok-push_cleared.ensures

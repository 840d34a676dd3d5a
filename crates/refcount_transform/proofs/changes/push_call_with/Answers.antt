use Rattle.std.proofs.Common.{[], ◌∷◌}
use Rattle.refcount_transform.specs.Changes.{ups}
use Rattle.refcount_transform.specs.Seen.{the_graph}
use Rattle.refcount_transform.proofs.Emitted.{joined, ups_first}
use Rattle.refcount_transform.proofs.changes.push_call_with.Goals as goal

pub returns : goal.returns
returns c =
    joined (ups (the_graph c.args.around) c.args.xs.now) c.args.into.now c.push_ups.new.into c.push.new.self (c.args.call ∷ []) (ups_first (the_graph c.args.around) c.args.xs.now)
    c.in_ok-push_ups.ensures c.in_ok-push.ensures.ok

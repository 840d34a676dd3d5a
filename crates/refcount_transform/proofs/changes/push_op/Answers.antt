use Rattle.std.proofs.Common.{◌∙◌}
use Rattle.refcount_transform.specs.Seen.{the_graph}
use Rattle.refcount_transform.proofs.Emitted.{op_joined}
use Rattle.refcount_transform.proofs.changes.push_op.Goals as goal

pub returns : goal.returns
returns c =
    op_joined (the_graph c.args.around) c.args.op.now c.args.rest.now c.args.exit.now c.as_slice.result.now c.args.into.now c.push_changed.new.into c.push_dead.new.into
    c.in_ok-push_changed.ensures (c.as_slice.ensures ∙ c.in_ok-variables.ensures) c.in_ok-push_dead.ensures

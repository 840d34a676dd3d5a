use Rattle.ann_shown.proofs.Standing.{param_has_node}
use Rattle.ann_shown.proofs.showing.tell_param.Goals as goal

pub unreachable-requires : goal.unreachable-requires
unreachable-requires c =
    param_has_node c.args.program.now c.args.p.now c.requires.plan c.args.cell c.args.f c.args.at c.requires.place c.in_ok-param_node.field-0 c.in_ok-param_node.ensures c.in-None.is

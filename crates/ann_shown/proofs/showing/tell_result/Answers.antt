use Rattle.ann_shown.proofs.Standing.{result_has_node}
use Rattle.ann_shown.proofs.showing.tell_result.Goals as goal

pub unreachable-requires : goal.unreachable-requires
unreachable-requires c =
    result_has_node c.args.program.now c.args.p.now c.requires.plan c.args.cell c.args.f c.requires.place c.in_ok-function_node.field-0 c.in_ok-function_node.ensures c.in-None.is

use Rattle.std.proofs.Common.{◌<◌, ◌^◌, arith}
use Rattle.ann_needs.specs.View.{assignment}
use Rattle.ann_settled.proofs.Ending.{settled, tellable}
use Rattle.ann_settled.proofs.settle.settle.Goals as goal

pub returns-in-Ok : goal.returns-in-Ok
returns-in-Ok c =
    settled c.args.program.now c.args.planned.now c.in_ok-spots.spots c.in_ok-spots.ensures (assignment c.in_ok-s.s) c.in_ok-s.ensures c.grow.new.s c.in-Ok.ensures.settled

pub why_stopped-requires-clause-tellable : goal.why_stopped-requires-clause-tellable
why_stopped-requires-clause-tellable c =
    let fits : c.args.planned.now.cells < 2 ^ 64 = omega arith in
    tellable c.args.program.now c.args.planned.now c.in_ok-spots.spots c.in_ok-spots.ensures (assignment c.in_ok-s.s) c.in_ok-s.ensures (assignment c.grow.new.s) c.in-Err.stop fits c.in-Err.ensures.first

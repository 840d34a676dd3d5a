use Rattle.ann_needs.specs.View.{assignment}
use Rattle.ann_meets.proofs.Asking.{asked_part}
use Rattle.ann_meets.proofs.grow.grow_next.Goals as goal

pub returns-in-Ok-clause-kept : goal.returns-in-Ok-clause-kept
returns-in-Ok-clause-kept c =
    c.in-Ok.ensures.kept (asked_part c.args.p.now (assignment c.args.s.now) c.args.part c.in_ok-asks.asks.items c.in_ok-asks.ensures c.in-Some.at c.in-Some-get.ask.now c.in-Some-get.ensures.value)

pub returns-clause-first : goal.returns-clause-first
returns-clause-first c =
    c.in-Err.ensures.first (asked_part c.args.p.now (assignment c.args.s.now) c.args.part c.in_ok-asks.asks.items c.in_ok-asks.ensures c.in-Some.at c.in-Some-get.ask.now c.in-Some-get.ensures.value)

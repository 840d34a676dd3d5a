use Rattle.std.proofs.Common.{sym, ◌∙◌}
use Rattle.ann_needs.specs.View.{assignment, need_of, whole}
use Rattle.ann_meets.specs.Steps.{spots_in}
use Rattle.ann_meets.proofs.Stepping.{kept_by, met_by}
use Rattle.ann_meets.proofs.meet.meet_asked.Goals as goal

pub returns-in-None-clause-kept : goal.returns-in-None-clause-kept
returns-in-None-clause-kept c =
    kept_by (whole c.args.p.now) (spots_in c.args.spots.now) (assignment c.args.s.now) (assignment c.meet_one.new.s) (need_of c.args.ask.now)
    c.in_ok-meet_one.ensures (sym c.clash_at.ensures ∙ c.in-None.is)

pub returns-in-Some-clause-first : goal.returns-in-Some-clause-first
returns-in-Some-clause-first c =
    met_by (whole c.args.p.now) (spots_in c.args.spots.now) (assignment c.args.s.now) (assignment c.meet_one.new.s) (need_of c.args.ask.now)
    c.in_ok-meet_one.ensures c.in-Some.cell (sym c.clash_at.ensures ∙ c.in-Some.is)

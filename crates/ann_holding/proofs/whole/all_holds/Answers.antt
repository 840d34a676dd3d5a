use Rattle.std.proofs.Common.{refl}
use Rattle.ann_needs.specs.View.{assignment, whole}
use Rattle.ann_holding.proofs.Holding.{closed_if}
use Rattle.ann_holding.proofs.whole.all_holds.Goals as goal

pub returns : goal.returns
returns c = closed_if (whole c.args.p.now) (assignment c.args.s.now) c.args.p.now.callees c.parts_hold.result refl c.parts_hold.ensures

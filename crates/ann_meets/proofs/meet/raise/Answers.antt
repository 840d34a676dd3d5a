use Rattle.std.proofs.Common.{ap, ◌∙◌, map}
use Rattle.ann_lattice.specs.Shape.{shape}
use Rattle.ann_meets.proofs.Raising.{raised_is}
use Rattle.ann_meets.proofs.meet.raise.Goals as goal

pub returns : goal.returns
returns c =
    ap (λ es. record { cells = map shape es; marks = c.args.s.now.marks; same = c.join.new.same }) c.set.ensures
    ∙ raised_is c.args.classes.now.classes c.args.s.now.cells c.args.s.now.marks c.args.s.now.same c.join.new.same c.args.cell c.in-Some.old.now
    c.in_ok-joined-in-Some.joined (shape c.args.e.now) c.in-Some.ensures.within c.in-Some.ensures.value c.in_ok-joined-in-Some.ensures.joined c.in_ok-joined-in-Some.ensures.classes

use Rattle.ann_shown.proofs.Standing.{attribute_has_class, attribute_has_cell}
use Rattle.ann_shown.proofs.showing.tell_attribute.Goals as goal

pub tell_named-requires-clause-class : goal.tell_named-requires-clause-class
tell_named-requires-clause-class c =
    attribute_has_class c.args.program.now c.args.p.now c.requires.plan c.args.cell c.args.class c.args.at c.in-Some.row.now c.in-Some-get.entry.now c.requires.place c.in-Some.ensures.value c.in-Some-get.ensures.value

pub tell_named-requires-clause-place : goal.tell_named-requires-clause-place
tell_named-requires-clause-place c =
    attribute_has_cell c.args.program.now c.args.p.now c.requires.plan c.args.cell c.args.class c.args.at c.in-Some.row.now c.in-Some-get.entry.now c.requires.place c.in-Some.ensures.value c.in-Some-get.ensures.value

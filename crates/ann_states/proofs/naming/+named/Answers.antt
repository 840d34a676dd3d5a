use Rattle.std.proofs.Common.{ap, ◌∙◌, map}
use Rattle.ann_lattice.specs.Shape.{Tup, shape}
use Rattle.ann_states.proofs.Items.{tuple_named}
use Rattle.ann_states.proofs.naming.+named.Goals as goal

pub named_tuple-returns : goal.named_tuple-returns
named_tuple-returns t c = c.tuple.ensures ∙ ap Tup (tuple_named c.args.same.now c.in_ok-all.all (map shape c.args.parts.now) c.in_ok-all.ensures)

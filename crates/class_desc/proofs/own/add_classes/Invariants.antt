use Rattle.std.proofs.Common.{◌≡◌, drop}
use Rattle.class_desc.specs.Tables.{add_classes}
use Rattle.class_desc.proofs.own.add_classes.Given as goal

abbrev pub invariant-loop-member : goal.invariant-loop-member
invariant-loop-member l = add_classes (drop l.member-index l.members) l.lists ≡ add_classes l.members l.fn.lists

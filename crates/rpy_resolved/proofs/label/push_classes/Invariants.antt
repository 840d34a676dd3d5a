use Rattle.std.proofs.Common.{◌≡◌, ◌++◌, take}
use Rattle.std.specs.List.{flat_map}
use Rattle.rpy_resolved.specs.Label.{member_class}
use Rattle.rpy_resolved.proofs.label.push_classes.Given as goal

abbrev pub invariant-loop-member : goal.invariant-loop-member
invariant-loop-member l = l.labels ≡ l.initial.labels ++ flat_map (member_class l.file) (take l.member-index l.members)

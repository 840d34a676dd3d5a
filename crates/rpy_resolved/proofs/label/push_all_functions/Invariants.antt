use Rattle.std.proofs.Common.{◌≡◌, ◌++◌, take}
use Rattle.std.specs.List.{flat_map}
use Rattle.rpy_resolved.specs.Label.{member_functions}
use Rattle.rpy_resolved.proofs.label.push_all_functions.Given as goal

abbrev pub invariant-loop-member : goal.invariant-loop-member
invariant-loop-member l = l.labels ≡ l.initial.labels ++ flat_map (member_functions l.file) (take l.member-index l.members)

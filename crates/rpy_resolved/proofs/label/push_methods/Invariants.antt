use Rattle.std.proofs.Common.{◌≡◌, ◌++◌, take}
use Rattle.std.specs.List.{flat_map}
use Rattle.rpy_resolved.specs.Label.{method_label}
use Rattle.rpy_resolved.proofs.label.push_methods.Given as goal

abbrev pub invariant-loop-member : goal.invariant-loop-member
invariant-loop-member l = l.labels ≡ l.initial.labels ++ flat_map (method_label l.class) (take l.member-index l.members)

use Rattle.std.proofs.Common.{◌≡◌, [], replicate}
use Rattle.class_desc.proofs.own.builtin_attributes.Given as goal

abbrev pub invariant-loop-class : goal.invariant-loop-class
invariant-loop-class l = l.lists ≡ replicate l._class []

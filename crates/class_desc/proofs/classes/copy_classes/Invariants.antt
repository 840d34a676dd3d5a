use Rattle.std.proofs.Common.{◌≡◌, take}
use Rattle.class_desc.proofs.classes.copy_classes.Given as goal

abbrev pub invariant-loop-info : goal.invariant-loop-info
invariant-loop-info l = l.copies ≡ take l.info-index l.infos

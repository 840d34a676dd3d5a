use Rattle.std.proofs.Common.{◌≡◌, take}
use Rattle.class_desc.proofs.classes.copy_constants.Given as goal

abbrev pub invariant-loop-constant : goal.invariant-loop-constant
invariant-loop-constant l = l.copies ≡ take l.constant-index l.constants

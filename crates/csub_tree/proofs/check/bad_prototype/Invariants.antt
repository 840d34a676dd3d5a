use Rattle.std.proofs.Common.{◌≡◌, drop}
use Rattle.csub_tree.specs.Checked.{first_bad, prototype_ok}
use Rattle.csub_tree.proofs.check.bad_prototype.Given as goal

abbrev pub invariant-loop-i : goal.invariant-loop-i
invariant-loop-i l = first_bad (prototype_ok l.file) l.i (drop l.i l.prototypes) ≡ first_bad (prototype_ok l.file) 0 l.prototypes

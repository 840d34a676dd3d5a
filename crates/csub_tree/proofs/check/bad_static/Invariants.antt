use Rattle.std.proofs.Common.{◌≡◌, drop}
use Rattle.csub_tree.specs.Checked.{first_bad, static_ok}
use Rattle.csub_tree.proofs.check.bad_static.Given as goal

abbrev pub invariant-loop-i : goal.invariant-loop-i
invariant-loop-i l = first_bad (static_ok l.file) l.i (drop l.i l.statics) ≡ first_bad (static_ok l.file) 0 l.statics

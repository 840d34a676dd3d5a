use Rattle.std.proofs.Common.{◌≡◌, drop}
use Rattle.csub_tree.specs.Checked.{first_bad, struct_ok}
use Rattle.csub_tree.proofs.check.bad_struct.Given as goal

abbrev pub invariant-loop-i : goal.invariant-loop-i
invariant-loop-i l = first_bad (struct_ok l.structs) l.i (drop l.i l.structs) ≡ first_bad (struct_ok l.structs) 0 l.structs

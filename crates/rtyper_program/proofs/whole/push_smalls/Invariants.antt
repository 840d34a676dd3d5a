use Rattle.std.proofs.Common.{◌≡◌}
use Rattle.rtyper_class.specs.Seen.{the_world}
use Rattle.rtyper_program.specs.Program.{smalls_to}
use Rattle.rtyper_program.proofs.whole.push_smalls.Given as goal

abbrev pub invariant-loop-i : goal.invariant-loop-i
invariant-loop-i l = (l.into, l.found) ≡ smalls_to (the_world l.around) l.i (l.initial.into, l.initial.found)

use Rattle.std.proofs.Common.{◌≡◌, ◌++◌, drop}
use Rattle.rtyper_program.specs.Links.{typed}
use Rattle.rtyper_program.specs.Seen.{the_lowered}
use Rattle.rtyper_program.proofs.links.typed.Given as goal

abbrev pub invariant-loop-v : goal.invariant-loop-v
invariant-loop-v l = l.kept ++ typed (the_lowered l.lowered) (drop l.v-index l.variables) ≡ typed (the_lowered l.lowered) l.variables

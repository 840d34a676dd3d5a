use Rattle.std.proofs.Common.{◌≡◌, ◌++◌, drop}
use Rattle.rtyper_program.specs.Live.{operands}
use Rattle.rtyper_program.proofs.live.as_operands.Given as goal

abbrev pub invariant-loop-v : goal.invariant-loop-v
invariant-loop-v l = l.xs ++ operands (drop l.v-index l.variables) ≡ operands l.variables

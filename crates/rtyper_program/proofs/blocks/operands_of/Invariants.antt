use Rattle.std.proofs.Common.{◌≡◌, ◌++◌, drop, map}
use Rattle.rtyper_data.specs.Seen.{the_operands}
use Rattle.rtyper_program.specs.Seen.{operand_of, the_lowered}
use Rattle.rtyper_program.proofs.blocks.operands_of.Given as goal

abbrev pub invariant-loop-v : goal.invariant-loop-v
invariant-loop-v l = the_operands l.args.items ++ map (operand_of (the_lowered l.lowered)) (drop l.v-index l.variables) ≡ map (operand_of (the_lowered l.lowered)) l.variables

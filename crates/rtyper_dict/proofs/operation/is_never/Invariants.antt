use Rattle.std.proofs.Common.{◌≡◌, drop}
use Rattle.rtyper_op.specs.Lowering.{is_never}
use Rattle.rtyper_data.specs.Seen.{the_operands}
use Rattle.rtyper_dict.proofs.operation.is_never.Given as goal

abbrev pub invariant-loop-operand : goal.invariant-loop-operand
invariant-loop-operand l = is_never (the_operands (drop l.operand-index l.args)) ≡ is_never (the_operands l.args)

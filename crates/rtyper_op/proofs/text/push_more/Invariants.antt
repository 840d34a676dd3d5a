use Rattle.std.proofs.Common.{◌≡◌, drop}
use Rattle.rtyper_data.specs.Seen.{the_operands, writing}
use Rattle.rtyper_op.specs.Texts.{put_more}
use Rattle.rtyper_op.proofs.text.push_more.Given as goal

abbrev pub invariant-loop-operand : goal.invariant-loop-operand
invariant-loop-operand l = put_more (the_operands (drop l.operand-index l.args)) (writing l.found l.body) ≡ put_more (the_operands l.args) (writing l.initial.found l.initial.body)

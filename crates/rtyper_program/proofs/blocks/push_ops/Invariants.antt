use Rattle.std.proofs.Common.{◌≡◌, drop}
use Rattle.rtyper_data.specs.Seen.{writing}
use Rattle.rtyper_program.specs.Blocks.{ops_from}
use Rattle.rtyper_program.specs.Seen.{the_lowered}
use Rattle.rtyper_program.proofs.blocks.push_ops.Given as goal

abbrev pub invariant-loop-op : goal.invariant-loop-op
invariant-loop-op l = ops_from (the_lowered l.lowered) (drop l.op-index l.ops) (l.least, writing l.found l.body) ≡ ops_from (the_lowered l.lowered) l.ops (l.initial.least, writing l.initial.found l.initial.body)

use Rattle.std.proofs.Common.{◌≡◌, drop}
use Rattle.rtyper_program.specs.Cuts.{any_raises}
use Rattle.rtyper_program.proofs.cuts.any_raises.Given as goal

abbrev pub invariant-loop-op : goal.invariant-loop-op
invariant-loop-op l = any_raises l.found l.least (drop l.op-index l.ops) ≡ any_raises l.found l.initial.least l.ops

use Rattle.std.proofs.Common.{◌≡◌, drop}
use Rattle.rtyper_program.specs.Raises.{any_raises}
use Rattle.rtyper_program.proofs.raising.any_raises.Given as goal

abbrev pub invariant-loop-op : goal.invariant-loop-op
invariant-loop-op l = any_raises l.annotation l.number (drop l.op-index l.ops) ≡ any_raises l.annotation l.number l.ops

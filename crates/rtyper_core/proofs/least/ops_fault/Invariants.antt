use Rattle.std.proofs.Common.{◌≡◌, drop}
use Rattle.rtyper_core.specs.Typing.{ops_fault}
use Rattle.rtyper_core.proofs.least.ops_fault.Given as goal

abbrev pub invariant-loop-op : goal.invariant-loop-op
invariant-loop-op l = ops_fault l.facts l.classes l.annotation l.elements (drop l.op-index l.ops) l.least ≡ ops_fault l.facts l.classes l.annotation l.elements l.ops l.fn.least

use Rattle.std.proofs.Common.{◌≡◌, drop}
use Rattle.rtyper_core.specs.Typing.{unbound_from, unbound_fault}
use Rattle.rtyper_core.proofs.least.unbound_fault.Given as goal

abbrev pub invariant-loop-node : goal.invariant-loop-node
invariant-loop-node l = unbound_from l.node (drop l.node l.unbound) l.least ≡ unbound_fault l.unbound

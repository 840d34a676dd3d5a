use Rattle.std.proofs.Common.{◌≡◌, ◌≤◌, take}
use Rattle.rtyper_core.specs.Arity.{required}
use Rattle.rtyper_core.proofs.arity.required.Given as goal

abbrev pub invariant-loop-param : goal.invariant-loop-param
invariant-loop-param l = (l.count ≡ required (take l.param-index l.params)) × (l.count ≤ l.param-index)

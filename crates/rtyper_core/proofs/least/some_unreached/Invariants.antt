use Rattle.std.proofs.Common.{◌≡◌, drop}
use Rattle.rtyper_core.specs.Typing.{some_unreached}
use Rattle.rtyper_core.proofs.least.some_unreached.Given as goal

abbrev pub invariant-loop-variable : goal.invariant-loop-variable
invariant-loop-variable l = some_unreached l.elements (drop l.variable-index l.variables) ≡ some_unreached l.elements l.variables

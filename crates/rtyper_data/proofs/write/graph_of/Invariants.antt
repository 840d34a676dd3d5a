use Rattle.std.proofs.Common.{◌≡◌}
use Rattle.rtyper_data.specs.Building.{numbers}
use Rattle.rtyper_data.proofs.write.graph_of.Given as goal

abbrev pub invariant-loop-v : goal.invariant-loop-v
invariant-loop-v l = l.variables ≡ numbers l.v

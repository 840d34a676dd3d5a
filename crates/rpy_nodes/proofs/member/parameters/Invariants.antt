use Rattle.std.proofs.Common.{◌≡◌, drop}
use Rattle.rpy_nodes.specs.Listing.{parameters_onto, parameters}
use Rattle.rpy_nodes.proofs.member.parameters.Given as goal

abbrev pub invariant-loop-param : goal.invariant-loop-param
invariant-loop-param l = parameters_onto l.parameters (drop l.param-index l.params) l.walk ≡ parameters l.params l.fn.walk

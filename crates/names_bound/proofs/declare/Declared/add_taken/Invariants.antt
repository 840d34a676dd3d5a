use Rattle.std.proofs.Common.{◌≡◌, drop}
use Rattle.names_bound.specs.Declare.{add_taken}
use Rattle.names_bound.proofs.declare.Declared.add_taken.Given as goal

abbrev pub invariant-loop-name : goal.invariant-loop-name
invariant-loop-name l = add_taken l.at l.source (drop l.name-index l.names) l.self ≡ add_taken l.at l.source l.names l.fn.self

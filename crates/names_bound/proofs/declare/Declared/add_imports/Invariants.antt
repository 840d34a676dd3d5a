use Rattle.std.proofs.Common.{◌≡◌, drop}
use Rattle.names_bound.specs.Declare.{add_imports}
use Rattle.names_bound.proofs.declare.Declared.add_imports.Given as goal

abbrev pub invariant-loop-name : goal.invariant-loop-name
invariant-loop-name l = add_imports l.at l.modules (drop l.name-index l.names) l.self ≡ add_imports l.at l.modules l.names l.fn.self

use Rattle.std.proofs.Common.{◌≡◌, drop}
use Rattle.names_bound.specs.Imports.{names_fault, from_fault}
use Rattle.names_bound.proofs.imports.from_fault.Given as goal

abbrev pub invariant-loop-name : goal.invariant-loop-name
invariant-loop-name l = names_fault l.scopes l.source (drop l.name-index l.names) l.node ≡ names_fault l.scopes l.source l.names l.node

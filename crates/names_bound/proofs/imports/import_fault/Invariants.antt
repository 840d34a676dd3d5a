use Rattle.std.proofs.Common.{◌≡◌, drop}
use Rattle.names_bound.specs.Imports.{import_fault}
use Rattle.names_bound.proofs.imports.import_fault.Given as goal

abbrev pub invariant-loop-name : goal.invariant-loop-name
invariant-loop-name l = import_fault l.modules (drop l.name-index l.names) l.node ≡ import_fault l.modules l.names l.node

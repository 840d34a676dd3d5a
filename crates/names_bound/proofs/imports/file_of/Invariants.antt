use Rattle.std.proofs.Common.{◌≡◌, drop}
use Rattle.names_bound.specs.Imports.{file_from, file_of}
use Rattle.names_bound.proofs.imports.file_of.Given as goal

abbrev pub invariant-loop-file : goal.invariant-loop-file
invariant-loop-file l = file_from l.file (drop l.file l.modules) l.name ≡ file_of l.modules l.name

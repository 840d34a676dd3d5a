use Rattle.std.proofs.Common.{◌≡◌, drop}
use Rattle.rpy_base.specs.Memory.{stored_under}
use Rattle.rpy_base.proofs.files.find.Given as goal

abbrev pub invariant-loop-file : goal.invariant-loop-file
invariant-loop-file l = stored_under l.files l.name ≡ stored_under (drop l.file-index l.files) l.name

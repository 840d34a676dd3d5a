use Rattle.std.proofs.Common.{◌≡◌, drop}
use Rattle.rpy_words.specs.Command.{names_module}
use Rattle.rpy_words.proofs.words.names_module.Given as goal

abbrev pub invariant-loop-file : goal.invariant-loop-file
invariant-loop-file l = names_module l.name (drop l.file-index l.files) ≡ names_module l.name l.files

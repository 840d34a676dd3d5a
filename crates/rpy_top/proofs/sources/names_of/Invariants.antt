use Rattle.std.proofs.Common.{◌≡◌, take}
use Rattle.std.specs.Prelude.{map}
use Rattle.rpy_words.specs.Command.{module_name}
use Rattle.rpy_top.proofs.sources.names_of.Given as goal

abbrev pub invariant-loop-file : goal.invariant-loop-file
invariant-loop-file l = l.names.items ≡ map module_name (take l.file-index l.files)

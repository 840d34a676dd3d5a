use Rattle.std.proofs.Common.{◌≡◌, drop}
use Rattle.rpy_words.specs.Command.{are_module_names}
use Rattle.rpy_words.proofs.words.are_module_names.Given as goal

abbrev pub invariant-loop-name : goal.invariant-loop-name
invariant-loop-name l = are_module_names (drop l.name-index l.names) ≡ are_module_names l.names

use Rattle.std.proofs.Common.{◌≡◌, ◌++◌, take}
use Rattle.csub_tree.specs.Spelling.{numbered, more_parameter}
use Rattle.genc_writer.proofs.parts.put_more_parameters.Given as goal

abbrev pub invariant-loop-i : goal.invariant-loop-i
invariant-loop-i l = l.text ≡ l.initial.text ++ numbered more_parameter 1 (take l.i l.kinds)

use Rattle.std.proofs.Common.{◌≡◌, ◌++◌, take}
use Rattle.csub_tree.specs.Spelling.{numbered, local_line}
use Rattle.genc_writer.proofs.write.put_local_lines.Given as goal

abbrev pub invariant-loop-i : goal.invariant-loop-i
invariant-loop-i l = l.text ≡ l.initial.text ++ numbered local_line l.first (take l.i l.kinds)

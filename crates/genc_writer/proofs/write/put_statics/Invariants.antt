use Rattle.std.proofs.Common.{◌≡◌, ◌++◌, take}
use Rattle.csub_tree.specs.Spelling.{numbered, static_text}
use Rattle.genc_writer.proofs.write.put_statics.Given as goal

abbrev pub invariant-loop-i : goal.invariant-loop-i
invariant-loop-i l = l.text ≡ l.initial.text ++ numbered static_text 0 (take l.i l.items)

use Rattle.std.proofs.Common.{◌≡◌, ◌++◌, take}
use Rattle.csub_tree.specs.Spelling.{numbered, struct_text}
use Rattle.genc_writer.proofs.write.put_structs.Given as goal

abbrev pub invariant-loop-i : goal.invariant-loop-i
invariant-loop-i l = l.text ≡ l.initial.text ++ numbered struct_text 0 (take l.i l.items)

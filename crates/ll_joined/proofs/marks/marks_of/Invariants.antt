use Rattle.std.proofs.Common.{◌≡◌, drop}
use Rattle.ll_joined.specs.Marked.{in_blocks, marks_of}
use Rattle.ll_joined.proofs.marks.marks_of.Given as goal

abbrev pub invariant-loop-i : goal.invariant-loop-i
invariant-loop-i l = in_blocks l.i (drop l.i l.blocks) l.marks ≡ marks_of l.count l.params l.blocks

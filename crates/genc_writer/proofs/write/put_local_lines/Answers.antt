use Rattle.std.proofs.Common.{◌+◌, rules, arith}
use Rattle.csub_tree.specs.declared.tree.CType.TheVariants.{Signed}
use Rattle.csub_tree.specs.Spelling.{local_line}
use Rattle.genc_writer.proofs.Numbered.{numbered_next}
use Rattle.genc_writer.proofs.write.put_local_lines.Goals as goal

pub loop-i-preserved : goal.loop-i-preserved
loop-i-preserved c =
    numbered_next local_line c.args.first (c.args.first + c.loop-i.i) c.args.kinds.now c.loop-i.i Signed c.args.text.now c.loop-i.text c.put_local_line.new.text
    (search rules) (omega arith) c.loop-i.invariant (c.in_ok-put_local_line.ensures)

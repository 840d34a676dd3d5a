use Rattle.std.proofs.Common.{rules, arith}
use Rattle.csub_tree.specs.Spelling.{prototype_text}
use Rattle.genc_writer.proofs.Numbered.{numbered_next}
use Rattle.genc_writer.proofs.write.put_prototypes.Goals as goal

pub loop-i-preserved : goal.loop-i-preserved
loop-i-preserved c =
    numbered_next prototype_text 0 (c.loop-i.i) c.args.items.now c.loop-i.i c.index-items-i.result c.args.text.now c.loop-i.text c.put_prototype.new.text
    (search rules) (omega arith) c.loop-i.invariant (search rules)

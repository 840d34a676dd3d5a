use Rattle.std.proofs.Common.{rules, arith}
use Rattle.flow_graph.specs.GraphText.{block_text}
use Rattle.flow_graph.proofs.Numbered.{numbered_next}
use Rattle.flow_graph.proofs.text.put_blocks.Goals as goal

pub loop-i-preserved : goal.loop-i-preserved
loop-i-preserved c =
    numbered_next (block_text c.args.classes.now) 0 (c.loop-i.i) c.args.blocks.now c.loop-i.i c.index-blocks-i.result c.args.text.now c.loop-i.text c.put_block.new.text
    (search rules) (omega arith) c.loop-i.invariant (search rules)

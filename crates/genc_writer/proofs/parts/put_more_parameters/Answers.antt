use Rattle.std.proofs.Common.{◌+◌, rules, arith}
use Rattle.csub_tree.specs.declared.tree.CType.TheVariants.{Signed}
use Rattle.csub_tree.specs.Spelling.{more_parameter}
use Rattle.genc_writer.proofs.Numbered.{numbered_next}
use Rattle.genc_writer.proofs.parts.put_more_parameters.Goals as goal

pub loop-i-preserved : goal.loop-i-preserved
loop-i-preserved c =
    numbered_next more_parameter 1 (1 + c.loop-i.i) c.args.kinds.now c.loop-i.i Signed c.args.text.now c.loop-i.text c.put_more_parameter.new.text
    (search rules) (omega arith) c.loop-i.invariant (c.in_ok-put_more_parameter.ensures)

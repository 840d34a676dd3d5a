use Rattle.std.proofs.Common.{sym, ◌∙◌}
use Rattle.genc_lower.proofs.Short.{crosses_short, crosses_over, no_new, no_read}
use Rattle.genc_lower.proofs.links.crosses.Goals as goal
use Rattle.genc_lower.proofs.links.crosses.Goals.{else-is_new-via-then-is_new+else-reads_changed, else-is_new-via-else-is_new}

pub returns-then-i-xs : goal.returns-then-i-xs
returns-then-i-xs c = sym (crosses_short c.args.inputs.now c.args.xs.now c.args.inputs.now c.args.xs.now c.loop-i.i c.if-i-xs.true) ∙ c.loop-i.invariant

pub loop-i-preserved : goal.loop-i-preserved
loop-i-preserved c = crosses_over c.args.inputs.now c.args.xs.now c.args.inputs.now c.args.xs.now c.loop-i.i 0 _ c.loop-i-test.true c.if-i-xs.false (elim c.else-is_new.branch [ else-is_new-via-then-is_new+else-reads_changed w ↦ no_read _ _ (sym w.reads_changed.ensures ∙ w.if-reads_changed.false) | else-is_new-via-else-is_new w ↦ no_new _ _ (sym c.is_new.ensures ∙ w.if-is_new.false) ]) ∙ c.loop-i.invariant

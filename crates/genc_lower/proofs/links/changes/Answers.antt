use Rattle.std.proofs.Common.{sym, ◌∙◌}
use Rattle.genc_lower.proofs.Short.{changes_short}
use Rattle.genc_lower.proofs.links.changes.Goals as goal

pub returns-then-i-xs : goal.returns-then-i-xs
returns-then-i-xs c = sym (changes_short c.args.w c.args.inputs.now c.args.xs.now c.loop-i.i c.if-i-xs.true) ∙ c.loop-i.invariant

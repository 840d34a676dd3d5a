use Rattle.std.proofs.Common.{◌+◌, [], ◌∷◌, ◌++◌, get_or, drop, ap, sym, ◌∙◌}
use Rattle.genc_lower.specs.Lower.{takes}
use Rattle.csub_tree.specs.declared.tree.COperand.TheVariants.{Var}
use Rattle.csub_tree.specs.declared.tree.CStmt.TheVariants as stmt
use Rattle.genc_lower.proofs.Short.{takes_short, takes_on, takes_over}
use Rattle.genc_lower.proofs.links.push_takes.Goals as goal
use Rattle.genc_lower.proofs.links.push_takes.Goals.{then-is_new+in_ok-above_it+in_ok-push, else-is_new}

pub returns-then-i-xs : goal.returns-then-i-xs
returns-then-i-xs c = sym (takes_short c.args.above c.args.inputs.now c.args.xs.now c.args.inputs.now c.args.xs.now c.loop-i.i c.loop-i.into c.if-i-xs.true) ∙ c.loop-i.invariant

pub loop-i-preserved : goal.loop-i-preserved
loop-i-preserved c = elim c.if-is_new.branch [ then-is_new+in_ok-above_it+in_ok-push w ↦ ap (λ l. l ++ takes c.args.above c.args.inputs.now c.args.xs.now (drop (c.loop-i.i + 1) c.args.inputs.now) (drop (c.loop-i.i + 1) c.args.xs.now)) (w.into-is ∙ w.in_ok-push.ensures.ok) ∙ ap (λ n. (c.loop-i.into ++ stmt.Set (get_or c.args.inputs.now c.loop-i.i 0) (Var n) ∷ []) ++ takes c.args.above c.args.inputs.now c.args.xs.now (drop (c.loop-i.i + 1) c.args.inputs.now) (drop (c.loop-i.i + 1) c.args.xs.now)) w.in_ok-above_it.ensures ∙ takes_on c.args.above c.args.inputs.now c.args.xs.now c.args.inputs.now c.args.xs.now c.loop-i.i 0 (Var 0) c.loop-i.into c.loop-i-test.true c.if-i-xs.false (sym c.is_new.ensures ∙ w.if-is_new.true) ∙ c.loop-i.invariant | else-is_new w ↦ ap (λ l. l ++ takes c.args.above c.args.inputs.now c.args.xs.now (drop (c.loop-i.i + 1) c.args.inputs.now) (drop (c.loop-i.i + 1) c.args.xs.now)) w.into-is ∙ takes_over c.args.above c.args.inputs.now c.args.xs.now c.args.inputs.now c.args.xs.now c.loop-i.i 0 (Var 0) c.loop-i.into c.loop-i-test.true c.if-i-xs.false (sym c.is_new.ensures ∙ w.if-is_new.false) ∙ c.loop-i.invariant ]

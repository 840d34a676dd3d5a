use Rattle.std.proofs.Common.{◌+◌, ◌&&◌, drop, sym, ap, ◌∙◌}
use Rattle.ll_code.specs.Typed.{all_taken}
use Rattle.ll_code.proofs.Walks.{taken_differ, taken_step}
use Rattle.ll_code.proofs.check.operands.all_taken.Goals as goal

pub returns-then-kinds-xs : goal.returns-then-kinds-xs
returns-then-kinds-xs c = sym (taken_differ c.args.program.now c.args.graph.now.types c.args.kinds.now c.args.xs.now c.if-kinds-xs.true)

pub returns-then-not-takes : goal.returns-then-not-takes
returns-then-not-takes c =
    sym (ap (λ b. b && all_taken c.args.program.now c.args.graph.now.types (drop (c.loop-i.i + 1) c.args.kinds.now) (drop (c.loop-i.i + 1) c.args.xs.now)) (sym c.takes.ensures ∙ c.if-not-takes.true))
    ∙ sym (taken_step c.args.program.now c.args.graph.now.types c.args.kinds.now c.args.xs.now c.loop-i.i _ _ c.loop-i-test.true c.if-kinds-xs.false) ∙ c.loop-i.invariant

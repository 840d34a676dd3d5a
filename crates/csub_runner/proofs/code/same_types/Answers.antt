use Rattle.std.proofs.Common.{◌&&◌, ◌+◌, drop, ap, sym, ◌∙◌}
use Rattle.csub_tree.specs.Statement.{same_types}
use Rattle.csub_runner.proofs.Types.{types_step, types_short, types_end}
use Rattle.csub_runner.proofs.code.same_types.Goals as goal
use Rattle.csub_runner.proofs.code.same_types.Goals.{then-i-ts-via-then-i-ts, then-i-ts-via-else-i-ts+then-not-same_type}

pub returns-then-i-ts : goal.returns-then-i-ts
returns-then-i-ts c = elim c.then-i-ts.branch [
  | then-i-ts-via-then-i-ts w ↦ sym (c.loop-i.invariant.same ∙ types_short c.args.ss.now c.args.ts.now c.loop-i.i c.loop-i-test.true w.if-i-ts.true)
  | then-i-ts-via-else-i-ts+then-not-same_type w ↦ sym (c.loop-i.invariant.same ∙ types_step c.args.ss.now c.args.ts.now c.loop-i.i _ _ c.loop-i-test.true w.if-i-ts.false
      ∙ ap (λ b. b && same_types (drop (c.loop-i.i + 1) c.args.ss.now) (drop (c.loop-i.i + 1) c.args.ts.now)) (sym w.same_type.ensures ∙ w.if-not-same_type.true))
]

pub returns : goal.returns
returns c = types_end c.args.ss.now c.args.ts.now c.loop-i.i c.loop-i-test.false c.loop-i.auto.i-end c.loop-i.invariant.within ∙ sym c.loop-i.invariant.same

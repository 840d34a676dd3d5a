use Rattle.std.proofs.Common.{◌++◌, drop, ap, ◌∙◌}
use Rattle.ll_joined.specs.Named.{naming}
use Rattle.ll_joined.specs.Joined.{pairs_of, constants_of}
use Rattle.ll_joined.proofs.Steps.{pairs_end, constants_end, nothing_left}
use Rattle.ll_joined.proofs.join.pairs_of.Goals as goal

pub returns-then-i-args-clause-pairs : goal.returns-then-i-args-clause-pairs
returns-then-i-args-clause-pairs c =
    let xs = c.as_slice-args.result.now in
    let i = c.loop-i.i in
    nothing_left c.loop-i.pairs (pairs_of (naming c.args.names) (drop i c.args.inputs.now) (drop i xs)) (pairs_of (naming c.args.names) c.args.inputs.now xs) (pairs_end (naming c.args.names) c.args.inputs.now xs i c.if-i-args.true) c.loop-i.invariant.0
    ∙ ap (pairs_of (naming c.args.names) c.args.inputs.now) c.as_slice-args.ensures

pub returns-then-i-args-clause-ops : goal.returns-then-i-args-clause-ops
returns-then-i-args-clause-ops c =
    let xs = c.as_slice-args.result.now in
    let i = c.loop-i.i in
    nothing_left c.loop-i.ops (constants_of (drop i c.args.inputs.now) (drop i xs)) (c.args.ops.now ++ constants_of c.args.inputs.now xs) (constants_end c.args.inputs.now xs i c.if-i-args.true) c.loop-i.invariant.1
    ∙ ap (λ xs. c.args.ops.now ++ constants_of c.args.inputs.now xs) c.as_slice-args.ensures

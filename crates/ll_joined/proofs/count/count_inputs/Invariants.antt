use Rattle.std.proofs.Common.{◌≡◌, drop}
use Rattle.ll_joined.specs.Counted.{inputs_in}
use Rattle.ll_joined.proofs.count.count_inputs.Given as goal

abbrev pub invariant-loop-v : goal.invariant-loop-v
invariant-loop-v l = inputs_in (drop l.v-index l.inputs) l.counts ≡ inputs_in l.inputs l.initial.counts

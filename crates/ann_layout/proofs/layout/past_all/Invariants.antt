use Rattle.std.proofs.Common.{◌≡◌, drop}
use Rattle.ann_layout.specs.Layout as spec
use Rattle.ann_layout.proofs.layout.past_all.Given as goal

abbrev pub invariant-loop-v : goal.invariant-loop-v
invariant-loop-v l = spec.past_all (drop l.v-index l.vs) l.most ≡ spec.past_all l.vs l.fn.most

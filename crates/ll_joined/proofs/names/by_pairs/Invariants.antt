use Rattle.std.proofs.Common.{◌≡◌, drop}
use Rattle.ll_joined.specs.Named.{by_pairs}
use Rattle.ll_joined.proofs.names.by_pairs.Given as goal

abbrev pub invariant-loop-pair : goal.invariant-loop-pair
invariant-loop-pair l = by_pairs (drop l.pair-index l.pairs) l.v ≡ by_pairs l.pairs l.v

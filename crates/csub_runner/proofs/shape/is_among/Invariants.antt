use Rattle.std.proofs.Common.{◌≡◌, drop}
use Rattle.csub_tree.specs.Layout.{is_among}
use Rattle.csub_runner.proofs.shape.is_among.Given as goal

abbrev pub invariant-loop-other : goal.invariant-loop-other
invariant-loop-other l = is_among l.number l.list ≡ is_among l.number (drop l.other-index l.list)

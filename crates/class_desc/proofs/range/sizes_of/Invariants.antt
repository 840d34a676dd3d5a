use Rattle.std.proofs.Common.{◌≡◌}
use Rattle.class_desc.specs.Range.{sizes_to}
use Rattle.class_desc.proofs.range.sizes_of.Given as goal

abbrev pub invariant-loop-place : goal.invariant-loop-place
invariant-loop-place l = l.counts ≡ sizes_to l.infos l.place

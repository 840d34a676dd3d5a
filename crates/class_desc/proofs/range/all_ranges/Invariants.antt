use Rattle.std.proofs.Common.{◌≡◌}
use Rattle.class_desc.specs.Range.{ranges_to}
use Rattle.class_desc.proofs.range.all_ranges.Given as goal

abbrev pub invariant-loop-place : goal.invariant-loop-place
invariant-loop-place l = l.ranges ≡ ranges_to l.infos l.sizes l.offsets l.place

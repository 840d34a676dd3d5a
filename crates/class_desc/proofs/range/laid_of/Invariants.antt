use Rattle.std.proofs.Common.{◌≡◌}
use Rattle.class_desc.specs.Range.{laid_to}
use Rattle.class_desc.proofs.range.laid_of.Given as goal

abbrev pub invariant-loop-place : goal.invariant-loop-place
invariant-loop-place l = l.laid ≡ laid_to l.infos l.sizes l.place

use Rattle.std.proofs.Common.{◌≡◌, drop}
use Rattle.rtyper_class.specs.Instances.{initial_of}
use Rattle.rtyper_class.proofs.instance.initial_of.Given as goal

abbrev pub invariant-loop-initial : goal.invariant-loop-initial
invariant-loop-initial l = initial_of (drop l.initial-index l.initials) l.home l.name ≡ initial_of l.initials l.home l.name

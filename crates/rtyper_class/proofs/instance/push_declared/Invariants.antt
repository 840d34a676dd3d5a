use Rattle.std.proofs.Common.{◌≡◌, drop}
use Rattle.rtyper_data.specs.Seen.{writing}
use Rattle.rtyper_class.specs.Instances.{starts_from}
use Rattle.rtyper_class.specs.Seen.{the_world}
use Rattle.rtyper_class.proofs.instance.push_declared.Given as goal

abbrev pub invariant-loop-attribute : goal.invariant-loop-attribute
invariant-loop-attribute l =
    starts_from (the_world l.around) l.home l.own l.initials l.place (drop l.attribute-index (the_world l.around).attributes) (writing l.found l.body)
    ≡ starts_from (the_world l.around) l.home l.own l.initials 0 (the_world l.around).attributes (writing l.initial.found l.initial.body)

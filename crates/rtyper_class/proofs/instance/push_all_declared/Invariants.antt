use Rattle.std.proofs.Common.{◌≡◌, ◌-◌, length}
use Rattle.rtyper_data.specs.Seen.{writing}
use Rattle.rtyper_class.specs.Instances.{starts_within, all_starts}
use Rattle.rtyper_class.specs.Seen.{the_world}
use Rattle.rtyper_class.proofs.instance.push_all_declared.Given as goal

abbrev pub invariant-loop-turn : goal.invariant-loop-turn
invariant-loop-turn l =
    starts_within (the_world l.around) l.initials (length (the_world l.around).classes.classes - l._turn) l.at (writing l.found l.body)
    ≡ all_starts (the_world l.around) l.initials l.class (writing l.initial.found l.initial.body)

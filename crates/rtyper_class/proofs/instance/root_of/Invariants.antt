use Rattle.std.proofs.Common.{◌≡◌, ◌-◌, length}
use Rattle.rtyper_class.specs.Instances.{root_within, root_of}
use Rattle.rtyper_class.specs.Seen.{the_world}
use Rattle.rtyper_class.proofs.instance.root_of.Given as goal

abbrev pub invariant-loop-turn : goal.invariant-loop-turn
invariant-loop-turn l =
    root_within (the_world l.around).around.layout.structs (length (the_world l.around).around.layout.structs - l._turn) l.at
    ≡ root_of (the_world l.around) l.own

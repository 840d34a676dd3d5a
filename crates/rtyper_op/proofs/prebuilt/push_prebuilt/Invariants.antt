use Rattle.std.proofs.Common.{◌≡◌, ◌-◌, length}
use Rattle.rtyper_op.specs.Prebuilt.{rounds}
use Rattle.rtyper_data.specs.Seen.{the_around}
use Rattle.rtyper_op.proofs.prebuilt.push_prebuilt.Given as goal

abbrev pub invariant-loop-turn : goal.invariant-loop-turn
invariant-loop-turn l = rounds (the_around l.around) l.around.sites.now l.around.same.now (length l.around.sites.now - l.turn) l.found ≡ rounds (the_around l.around) l.around.sites.now l.around.same.now (length l.around.sites.now) l.initial.found

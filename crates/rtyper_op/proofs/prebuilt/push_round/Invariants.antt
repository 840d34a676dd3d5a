use Rattle.std.proofs.Common.{◌≡◌, ◌-◌, length}
use Rattle.rtyper_op.specs.Prebuilt.{sites_from}
use Rattle.rtyper_data.specs.Seen.{the_around}
use Rattle.rtyper_op.proofs.prebuilt.push_round.Given as goal

abbrev pub invariant-loop-turn : goal.invariant-loop-turn
invariant-loop-turn l = sites_from (the_around l.around) l.around.sites.now l.around.same.now (length l.around.sites.now - l.turn) l.site l.found ≡ sites_from (the_around l.around) l.around.sites.now l.around.same.now (length l.around.sites.now) 0 l.initial.found

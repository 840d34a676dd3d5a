use Rattle.std.proofs.Common.{◌≡◌, length}
use Rattle.rtyper_data.specs.Seen.{writing}
use Rattle.rtyper_program.specs.Handlers.{handlers, work}
use Rattle.rtyper_program.specs.Seen.{the_lowered}
use Rattle.rtyper_program.proofs.handlers.push_handlers.Given as goal

abbrev pub invariant-loop-hand : goal.invariant-loop-hand
invariant-loop-hand l =
    handlers (the_lowered l.lowered) l.caught l.left (l.next, work (writing l.found l.body) l.extra)
    ≡ handlers (the_lowered l.lowered) l.caught l.hands (l.initial.next, work (writing l.initial.found l.initial.body) l.initial.extra)

abbrev pub decreases-loop-hand : goal.decreases-loop-hand
decreases-loop-hand l = length l.left

use Rattle.std.proofs.Common.{◌≡◌, drop}
use Rattle.names_found.specs.Locals.{add_events}
use Rattle.names_found.proofs.locals.Locals.add_events.Given as goal

abbrev pub invariant-loop-event : goal.invariant-loop-event
invariant-loop-event l = add_events l.self (drop l.event-index l.events) ≡ add_events l.fn.self l.events

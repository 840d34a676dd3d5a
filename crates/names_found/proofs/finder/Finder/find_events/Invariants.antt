use Rattle.std.proofs.Common.{◌≡◌, drop}
use Rattle.names_found.specs.Finder.{find_events}
use Rattle.names_found.proofs.finder.Finder.find_events.Given as goal

abbrev pub invariant-loop-event : goal.invariant-loop-event
invariant-loop-event l = find_events l.scopes l.locals l.at (drop l.event-index l.events) l.self ≡ find_events l.scopes l.locals l.at l.events l.fn.self

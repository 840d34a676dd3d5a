use Rattle.std.proofs.Common.{◌≡◌, drop}
use Rattle.names_bound.specs.Declare.{stores_from, declare_stores}
use Rattle.names_bound.proofs.declare.Declared.declare_stores.Given as goal

abbrev pub invariant-loop-event : goal.invariant-loop-event
invariant-loop-event l = stores_from l.at l.first l.last (drop l.event-index l.events) l.self ≡ declare_stores l.at l.first l.events l.fn.self

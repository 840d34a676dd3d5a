use Rattle.std.proofs.Common.{◌≡◌, ◌-◌}
use Rattle.names_value.specs.Slots.{taken_onto, take_slots}
use Rattle.names_value.proofs.slots.take_slots.Given as goal

abbrev pub invariant-loop-turn : goal.invariant-loop-turn
invariant-loop-turn l = taken_onto (l.count - l._turn) l.taken l.slots ≡ take_slots l.count l.fn.slots

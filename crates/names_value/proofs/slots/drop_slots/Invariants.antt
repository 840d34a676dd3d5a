use Rattle.std.proofs.Common.{◌≡◌, ◌-◌}
use Rattle.names_value.specs.Slots.{without}
use Rattle.names_value.proofs.slots.drop_slots.Given as goal

abbrev pub invariant-loop-turn : goal.invariant-loop-turn
invariant-loop-turn l = without (l.count - l._turn) l.slots ≡ without l.count l.fn.slots

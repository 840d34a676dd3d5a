use Rattle.std.proofs.Common.{◌≡◌, ◌-◌}
use Rattle.names_value.specs.Slots.{values_onto, values_of}
use Rattle.names_value.proofs.slots.values_of.Given as goal

abbrev pub invariant-loop-turn : goal.invariant-loop-turn
invariant-loop-turn l = values_onto (l.count - l._turn) l.taken l.values ≡ values_of l.fn.taken

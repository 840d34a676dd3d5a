use Rattle.std.proofs.Common.{◌≡◌, ◌-◌}
use Rattle.names_value.specs.Machine.{items_onto, list_contents}
use Rattle.names_value.proofs.machine.list_contents.Given as goal

abbrev pub invariant-loop-turn : goal.invariant-loop-turn
invariant-loop-turn l = items_onto (l.count - l._turn) l.taken l.pairs ≡ list_contents l.fn.taken

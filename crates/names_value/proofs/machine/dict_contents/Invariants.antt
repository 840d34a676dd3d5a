use Rattle.std.proofs.Common.{◌≡◌, ◌-◌}
use Rattle.names_value.specs.Machine.{pairs_onto, dict_contents}
use Rattle.names_value.proofs.machine.dict_contents.Given as goal

abbrev pub invariant-loop-turn : goal.invariant-loop-turn
invariant-loop-turn l = pairs_onto (l.count - l._turn) l.taken l.pairs ≡ dict_contents l.fn.taken l.count

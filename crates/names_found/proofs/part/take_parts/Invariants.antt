use Rattle.std.proofs.Common.{◌≡◌, ◌-◌}
use Rattle.names_found.specs.Part.{without}
use Rattle.names_found.proofs.part.take_parts.Given as goal

abbrev pub invariant-loop-turn : goal.invariant-loop-turn
invariant-loop-turn l = without (l.count - l._turn) l.parts ≡ without l.count l.fn.parts

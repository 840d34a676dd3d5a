use Rattle.std.proofs.Common.{◌≡◌, take}
use Rattle.flow_stands.specs.Places.{shift}
use Rattle.flow_space.proofs.code.variables.Given as goal

abbrev pub invariant-loop-place : goal.invariant-loop-place
invariant-loop-place l = l.variables ≡ shift l.base (take l.place-index l.places)

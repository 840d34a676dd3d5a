use Rattle.std.proofs.Common.{◌≡◌, ◌<◌, ◌^◌, drop}
use Rattle.rpy_token.specs.Number.{value_from}
use Rattle.rpy_token.proofs.number.value.Given as goal

abbrev pub invariant-loop-b : goal.invariant-loop-b
invariant-loop-b l = (l.value < 2 ^ 64) × (value_from l.base 0 l.digits ≡ value_from l.base l.value (drop l.b-index l.digits))

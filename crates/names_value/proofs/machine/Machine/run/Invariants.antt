use Rattle.std.proofs.Common.{◌≡◌, drop}
use Rattle.names_value.specs.Machine.{run}
use Rattle.names_value.proofs.machine.Machine.run.Given as goal

abbrev pub invariant-loop-step : goal.invariant-loop-step
invariant-loop-step l = run l.names l.constants (drop l.step-index l.steps) l.self ≡ run l.names l.constants l.steps l.fn.self

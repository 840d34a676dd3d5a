use Rattle.std.proofs.Common.{◌≡◌, drop}
use Rattle.names_value.specs.Machine.{run_words}
use Rattle.names_value.proofs.machine.Machine.run_words.Given as goal

abbrev pub invariant-loop-step : goal.invariant-loop-step
invariant-loop-step l = run_words l.constants (drop l.step-index l.steps) l.self ≡ run_words l.constants l.steps l.fn.self

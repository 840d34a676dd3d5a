use Rattle.std.proofs.Common.{◌≡◌, drop}
use Rattle.rpy_names.specs.Clauses.{see_steps}
use Rattle.rpy_names.proofs.clauses.Heads.see_steps.Given as goal

abbrev pub invariant-loop-step : goal.invariant-loop-step
invariant-loop-step l = see_steps (drop l.step-index l.steps) l.self ≡ see_steps l.steps l.fn.self

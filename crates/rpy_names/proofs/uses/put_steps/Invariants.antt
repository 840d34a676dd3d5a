use Rattle.std.proofs.Common.{◌≡◌, drop}
use Rattle.rpy_names.specs.Uses.{put_steps}
use Rattle.rpy_names.proofs.uses.put_steps.Given as goal

abbrev pub invariant-loop-step : goal.invariant-loop-step
invariant-loop-step l = put_steps l.values l.modules (drop l.step-index l.steps) l.uses ≡ put_steps l.values l.modules l.steps l.fn.uses

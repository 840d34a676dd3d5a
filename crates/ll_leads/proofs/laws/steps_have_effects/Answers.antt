use Rattle.std.proofs.Common.{subst}
use Rattle.ll_leads.proofs.Effects.{NextEffect, step_effect}
use Rattle.ll_leads.proofs.laws.steps_have_effects.Goals as goal

pub returns : goal.returns
returns c p raw args s t sound e = subst (NextEffect p s) e (step_effect p raw.closed args raw.handlers raw.stage s sound.fits sound.placed sound.statics)

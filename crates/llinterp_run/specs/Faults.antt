-- When a run's fault comes.
use Rattle.std.specs.Prelude.{ℕ}
use Rattle.rpy_base.specs.Causes.{Rose}
use Rattle.llinterp_run.specs.declared.run.LlFault.{LlFault}
use Rattle.llinterp_run.specs.declared.run.LlFault.TheVariants.{WriteFault}

-- the sink failed in this call, or has failed as often as it can count
abbrev pub CauseOf : LlFault → ℕ → ℕ → Type 0
CauseOf WriteFault before after = Rose before after
CauseOf other before after = Unit {0}

-- A bound on steps only stops a run: with more steps it ends the same, unless it was still running.
use Rattle.std.specs.Prelude.{◌≡◌, ℕ, Option, Some, None}
use Rattle.rpy_base.specs.declared.outcome.Outcome.{Outcome}
use Rattle.rpy_base.specs.declared.outcome.Outcome.TheVariants as outcome
use Rattle.rpy_meaning.specs.Laws.{with_more}
use Rattle.rpy_meaning.specs.Meaning.{Run}

abbrev pub EndsAlikeIf : ℕ → Option Outcome → Run → Run → Type 0
EndsAlikeIf k None r q = q.outcome ≡ None
EndsAlikeIf k (Some outcome.Running) r q = Unit {0}
EndsAlikeIf k (Some outcome) r q = (q.outcome ≡ Some outcome) × (q.world ≡ with_more k r.world)

-- the second run has so many more steps
abbrev pub EndsAlike : ℕ → Run → Run → Type 0
EndsAlike k r q = EndsAlikeIf k r.outcome r q

-- The sample program: where there is no memory, and where it was run.
use Rattle.std.proofs.Common.{◌≡◌, List, [], ℕ, length, Some, refl, sym, ap, subst, ◌∙◌, inl, inr}
use Rattle.rpy_base.specs.Watching.{Seen}
use Rattle.rpy_edge.specs.Edge.{Sunk, IsQuiet}
use Rattle.rpy_top.specs.Running.{AnswersSource, WorksSample, SaidSample, taken_length}
use Rattle.rpy_top.specs.declared.building.BuildWork.TheVariants.{Ended}
use Rattle.rpy_top.specs.declared.run.RunWork.{RunWork}
use Rattle.rpy_top.specs.declared.run.RunWork.TheVariants.{Unmade}
use Rattle.rpy_edge.specs.declared.status.Status.{Status}
use Rattle.rpy_edge.specs.declared.status.Status.TheVariants.{NoMem}

nothing : Sunk
nothing = record { faults_before = 0; faults = 0; taken_before = Some []; taken = Some [] }

pub starved : (sources : List (List ℕ)) (out err : Sunk) (seen : List Seen) → IsQuiet out → IsQuiet err → AnswersSource NoMem sources out err seen seen
unfolding nothing
starved sources out err seen quiet silent = (Unmade (Ended NoMem), nothing, refl, (inl refl, refl), (inr (inr (refl, silent)), quiet))

pub answered : (sources : List (List ℕ)) (work : RunWork) (status : Status) (printed out err : Sunk) (before taken : List ℕ) (n : ℕ) (seen seen_now : List Seen)
    → printed.taken_before ≡ Some before → before ≡ [] → printed.taken ≡ Some taken → n ≡ length taken
    → WorksSample work sources printed seen seen_now → SaidSample work status sources n seen_now out err → AnswersSource status sources out err seen seen_now
answered sources work status printed out err before taken n seen seen_now told empty took is works said =
    (work, printed, told ∙ ap Some empty, works, subst (λ m. SaidSample work status sources m seen_now out err) (is ∙ sym (ap taken_length took)) said)

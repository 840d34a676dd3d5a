-- When a run ends with each status, and what then stands in the sinks and the watchers.
use Rattle.std.specs.Prelude.{◌≡◌, ◌⊎◌, ℕ, nat_le, false, List, [], ◌∷◌, ◌++◌, length, codes, Option, Some, None, Result, Ok, Err}
use Rattle.std.specs.Fmt.{decimal}
use Rattle.rpy_base.specs.Watching.{Seen}
use Rattle.rpy_base.specs.declared.outcome.Outcome.{Outcome}
use Rattle.csub_runner.specs.declared.run.CRan.{CRan}
use Rattle.rpy_front.specs.Modules.{are_short}
use Rattle.rpy_sample.specs.Sample.{sample}
use Rattle.llinterp_run.specs.Faults as low
use Rattle.llinterp_run.specs.declared.run.LlFault.{LlFault}
use Rattle.llinterp_run.specs.declared.run.LlFault.TheVariants as low_fault
use Rattle.rpy_edge.specs.Edge.{Filed, Sunk, IsQuiet, AllRead, Says, line}
use Rattle.rpy_top.specs.Answer.{OfSources, HasProgram, MakesText, MakesCode, Said, Answers, Writes, WritesTo, file_at, untranslated}
use Rattle.rpy_words.specs.Command.{Brought, Writing, Running as RunningFile, RunningProgram, RunningLow, Sampling, NotThere}
use Rattle.rpy_top.specs.declared.fault.TranslateFault.{TranslateFault}
use Rattle.rpy_words.specs.declared.words.RunWords.{RunWords}
use Rattle.rpy_crun.specs.Running.{outcome_line, outcome_status, spent_line, RunsBytes, SaysNothing, SaidRan, AnswersRun}
use Rattle.rpy_crun.specs.declared.command.CWork.{CWork}
use Rattle.rpy_crun.specs.declared.command.CWork.TheVariants.{Unread, Refused, Starved, Ran}
use Rattle.rpy_top.specs.declared.building.BuildWork.{BuildWork}
use Rattle.rpy_top.specs.declared.building.BuildWork.TheVariants.{Ended, AtFile}
use Rattle.rpy_words.specs.declared.job.Task.TheVariants.{Build}
use Rattle.rpy_top.specs.declared.llrun.LlWork.{LlWork}
use Rattle.rpy_top.specs.declared.llrun.LlWork.TheVariants as low_work
use Rattle.rpy_top.specs.declared.run.RunWork.{RunWork}
use Rattle.rpy_top.specs.declared.run.RunWork.TheVariants.{Unmade, OfText}
use Rattle.rpy_edge.specs.declared.status.Status.{Status}
use Rattle.rpy_edge.specs.declared.status.Status.TheVariants as status

-- ---- a program that is run by its C text

-- what came of the work: no text was made of the files; or it was, and this came of it
abbrev pub WorksRun : RunWork → RunWords → Filed → Sunk → List Seen → List Seen → Type 0
WorksRun (Unmade work) words files out seen seen_now = MakesText Build (nat_le (length words.files) 64) (Err work) words.files files × IsQuiet out × (seen_now ≡ seen)
WorksRun (OfText work) words files out seen seen_now = (text : List ℕ) × MakesText Build (nat_le (length words.files) 64) (Ok text) words.files files × RunsBytes work text words out seen seen_now

abbrev pub SaidOfText : CWork → Status → RunWords → List Seen → Sunk → Type 0
SaidOfText (Unread why) answered words seen err = Says why answered (line why (file_at words.files 0)) err
SaidOfText (Refused why) answered words seen err = SaysNothing status.NoMem answered err
SaidOfText Starved answered words seen err = SaysNothing status.NoMem answered err
SaidOfText (Ran result) answered words seen err = SaidRan result answered words seen err

abbrev pub SaidRun : RunWork → Status → RunWords → List Seen → Sunk → Type 0
SaidRun (Unmade work) answered words seen err = Said work answered words.files err
SaidRun (OfText work) answered words seen err = SaidOfText work answered words seen err

abbrev pub AnswersProgram : Status → RunWords → Filed → Sunk → Sunk → List Seen → List Seen → Type 0
AnswersProgram answered words files out err seen seen_now =
    (work : RunWork) × WorksRun work words files out seen seen_now × SaidRun work answered words seen_now err

-- ---- a program that is run by its low-level program

-- a fault of out is counted there where one is told
abbrev pub RunsLow : LlWork → Sunk → Type 0
RunsLow (low_work.Ran (Ok outcome)) out = out.faults ≡ out.faults_before
RunsLow (low_work.Ran (Err fault)) out = low.CauseOf fault out.faults_before out.faults
RunsLow low_work.Starved out = IsQuiet out
RunsLow (low_work.Unmade work) out = ⊥

abbrev pub WorksLow : LlWork → RunWords → Filed → Sunk → Type 0
WorksLow (low_work.Unmade work) words files out = MakesCode (nat_le (length words.files) 64) (Err work) words.files files × IsQuiet out
WorksLow work words files out = (OfSources HasProgram words.files files × AllRead files) × RunsLow work out

abbrev pub SaidOutcome : Outcome → Status → Sunk → Type 0
SaidOutcome outcome answered err = Says (outcome_status outcome) answered (outcome_line outcome) err

abbrev pub SaidLow : Result Outcome LlFault → Status → Sunk → Type 0
SaidLow (Ok outcome) answered err = SaidOutcome outcome answered err
SaidLow (Err low_fault.WriteFault) answered err = SaysNothing status.WriteFault answered err
SaidLow (Err low_fault.WorkSpent) answered err = Says status.WorkSpent answered spent_line err
SaidLow (Err low_fault.NoMem) answered err = SaysNothing status.NoMem answered err

abbrev pub SaidOfLow : LlWork → Status → RunWords → Sunk → Type 0
SaidOfLow (low_work.Unmade work) answered words err = Said work answered words.files err
SaidOfLow low_work.Starved answered words err = SaysNothing status.NoMem answered err
SaidOfLow (low_work.Ran result) answered words err = SaidLow result answered err

abbrev pub AnswersLow : Status → RunWords → Filed → Sunk → Sunk → Type 0
AnswersLow answered words files out err = (work : LlWork) × WorksLow work words files out × SaidOfLow work answered words err

-- ---- the sample program

-- the run of the sample program: the module's name is `sample`, the bound on steps is the default one
abbrev pub sample_words : RunWords
sample_words = record { steps = 1000000000; tally = false; leaks = false; files = codes "sample" ∷ []; args = [] }

-- the C text of the sample's source
abbrev pub MakesSample : List (List ℕ) → Result (List ℕ) BuildWork → Type 0
MakesSample sources (Ok text) = Writes Build sources (codes "sample" ∷ []) text
MakesSample sources (Err work) = (work ≡ Ended status.NoMem) ⊎ ((work ≡ AtFile 0 status.TooLong) × (are_short sources ≡ false)) ⊎ ((fault : TranslateFault) × (work ≡ untranslated fault) × WritesTo Build sources (codes "sample" ∷ []) (Err fault))

-- what came of the work, with a sink of its own for what the run prints
abbrev pub WorksSample : RunWork → List (List ℕ) → Sunk → List Seen → List Seen → Type 0
WorksSample (Unmade work) sources printed seen seen_now = MakesSample sources (Err work) × (seen_now ≡ seen)
WorksSample (OfText work) sources printed seen seen_now = (text : List ℕ) × MakesSample sources (Ok text) × RunsBytes work text sample_words printed seen seen_now

abbrev pub first_length : List (List ℕ) → ℕ
first_length [] = 0
first_length (source ∷ sources) = length source

abbrev pub taken_length : Option (List ℕ) → ℕ
taken_length None = 0
taken_length (Some bytes) = length bytes

-- the bytes of the source, how the run ended, the bytes that it printed, and its steps
abbrev pub summary : ℕ → CRan → ℕ → List ℕ
summary source ran printed =
    codes "source " ++ decimal source ++ codes "\nending " ++ outcome_line ran.outcome ++ codes "output " ++ decimal printed
    ++ codes "\nsteps " ++ decimal ran.steps_used ++ codes "\n"

-- the lines are written to out; where the run came to no ending, what is said of any run is said
abbrev pub SaidSample : RunWork → Status → List (List ℕ) → ℕ → List Seen → Sunk → Sunk → Type 0
SaidSample (OfText (Ran (Ok ran))) answered sources printed seen out err =
    Says (outcome_status ran.outcome) answered (summary (first_length sources) ran printed) out × IsQuiet err
SaidSample work answered sources printed seen out err = SaidRun work answered sample_words seen err × IsQuiet out

abbrev pub AnswersSource : Status → List (List ℕ) → Sunk → Sunk → List Seen → List Seen → Type 0
AnswersSource answered sources out err seen seen_now =
    (work : RunWork) × (printed : Sunk) × (printed.taken_before ≡ Some []) × WorksSample work sources printed seen seen_now
    × SaidSample work answered sources (taken_length printed.taken) seen_now out err

abbrev pub AnswersSample : Status → ℕ → Sunk → Sunk → List Seen → List Seen → Type 0
AnswersSample answered k out err seen seen_now = AnswersSource answered (sample k ∷ []) out err seen seen_now

-- the whole call, with the watchers before and after it
abbrev pub AnswersCall : Status → Brought → Filed → Sunk → Sunk → List Seen → List Seen → Type 0
AnswersCall answered (RunningFile file words) files out err seen seen_now = AnswersRun answered file words files out err seen seen_now
AnswersCall answered (RunningProgram words) files out err seen seen_now = AnswersProgram answered words files out err seen seen_now
AnswersCall answered (RunningLow words) files out err seen seen_now = AnswersLow answered words files out err
AnswersCall answered (Sampling k) files out err seen seen_now = AnswersSample answered k out err seen seen_now × AllRead files
AnswersCall answered (Writing task names) files out err seen seen_now = Answers answered (Writing task names) files out err
AnswersCall answered NotThere files out err seen seen_now = Answers answered NotThere files out err

-- watchers that only a run may change
abbrev pub AreLeft : {W : Type 0} → Brought → List W → List W → Type 0
AreLeft (RunningFile file words) old new = Unit {0}
AreLeft (RunningProgram words) old new = Unit {0}
AreLeft (Sampling k) old new = Unit {0}
AreLeft other old new = new ≡ old

-- What the words of a call ask for.
use Rattle.std.specs.Prelude.{◌≡◌, ◌<◌, ◌≤◌, ℕ, zero, suc, ◌+◌, ◌-◌, ◌*◌, nat_le, unwrap_or, is_none, option_map, ◌==◌, ◌||◌, ◌&&◌, not, Bool, true, false, cond, if◌then◌else◌, List, [], ◌∷◌, ◌++◌, length, take, drop, Option, Some, None, Result, Ok, Err, codes}
use Rattle.std.specs.Str.{bytes_eq}
use Rattle.rpy_words.specs.Names.{is_letter, is_digit, name_len, among, is_keyword}
use Rattle.rpy_words.specs.declared.words.Command.{Command}
use Rattle.rpy_words.specs.declared.words.Command.TheVariants.{Build, Check, Annotate, Flow, Run, LlRun, CRun, Sample}
use Rattle.rpy_words.specs.declared.words.RunWords.{RunWords}
use Rattle.rpy_words.specs.declared.words.RunAsked.{RunAsked}
use Rattle.rpy_words.specs.declared.words.Opted.{Opted as CodeOpted}
use Rattle.rpy_words.specs.declared.job.Job.{Job}
use Rattle.rpy_words.specs.declared.job.Job.TheVariants.{Write as JobWrite, Run as JobRun, LlRun as JobLlRun, CRun as JobCRun, Sample as JobSample, Nothing as NoJob}
use Rattle.rpy_words.specs.declared.job.Task.{Task}
use Rattle.rpy_words.specs.declared.job.Task.TheVariants as task
use Rattle.rpy_words.specs.declared.words.Options.{Options as CodeOptions}
use Rattle.rpy_words.specs.declared.words.Options.TheVariants.{Read as OptionsRead, Bad as OptionsBad}
use Rattle.rpy_words.specs.declared.words.RunOf.{RunOf}
use Rattle.rpy_words.specs.declared.words.RunOf.TheVariants.{Run as RunGood, Bad as RunBad}
use Rattle.rpy_words.specs.declared.words.Step.{Step as CodeRead}
use Rattle.rpy_words.specs.declared.words.Step.TheVariants.{More as CodeMore, Ended as CodeEnded, Bad as CodeBad}
use Rattle.rpy_words.specs.declared.words.WordsFault.{WordsFault}
use Rattle.rpy_words.specs.declared.words.WordsFault.TheVariants.{Usage, NoMem}
use Rattle.rpy_words.specs.declared.words.Asked.{Asked}
use Rattle.rpy_words.specs.declared.words.Asked.TheVariants.{Build as AskedBuild, Check as AskedCheck, Annotate as AskedAnnotate, Flow as AskedFlow, Run as AskedRun, LlRun as AskedLlRun, CRun as AskedCRun, Sample as AskedSample, Nothing}

-- the place after the last slash
abbrev pub place_after_slash : ℕ → ℕ → List ℕ → ℕ
place_after_slash place i [] = place
place_after_slash place i (b ∷ bs) = place_after_slash (if b == 47 then i + 1 else place) (i + 1) bs

abbrev pub after_last_slash : List ℕ → List ℕ
after_last_slash file = drop (place_after_slash 0 0 file) file

-- without a final `.py`
abbrev pub without_ending : List ℕ → List ℕ
without_ending name = if bytes_eq (drop (length name - 3) name) (codes ".py") then take (length name - 3) name else name

-- the module's name of a file
abbrev pub module_name : List ℕ → List ℕ
module_name file = without_ending (after_last_slash file)

abbrev pub begins_with_letter : List ℕ → Bool
begins_with_letter [] = false
begins_with_letter (b ∷ bs) = is_letter b

-- a letter or `_`, then letters, digits and `_`
abbrev pub is_name : List ℕ → Bool
is_name name = begins_with_letter name && name_len name == length name

-- a name that a module may have
abbrev pub is_module_name : List ℕ → Bool
is_module_name name = is_name name && not (is_keyword name) && not (among (codes "os" ∷ codes "sys" ∷ codes "rpython" ∷ []) name)

abbrev pub are_module_names : List (List ℕ) → Bool
are_module_names [] = true
are_module_names (name ∷ names) = is_module_name name && are_module_names names

abbrev pub begins_as_file : List ℕ → Bool
begins_as_file [] = false
begins_as_file (b ∷ bs) = not (b == 45)

-- a word that names a source file
abbrev pub is_file : List ℕ → Bool
is_file word = begins_as_file word && is_module_name (module_name word)

-- ---- lists of files

-- one of these files has the module's name
abbrev pub names_module : List ℕ → List (List ℕ) → Bool
names_module name [] = false
names_module name (file ∷ files) = bytes_eq (module_name file) name || names_module name files

-- source files of distinct modules
abbrev pub are_files : List (List ℕ) → Bool
are_files [] = true
are_files (file ∷ files) = is_file file && not (names_module (module_name file) files) && are_files files

-- at least one
abbrev pub are_sources : List (List ℕ) → Bool
are_sources [] = false
are_sources (file ∷ files) = are_files (file ∷ files)

-- ---- numbers without leading zeros

unfoldable pub digits_up_to : ℕ → ℕ → List ℕ → Option ℕ
digits_up_to most n [] = Some n
digits_up_to most n (b ∷ bs) = if is_digit b then (if nat_le (n * 10 + (b - 48)) most then digits_up_to most (n * 10 + (b - 48)) bs else None) else None

abbrev pub number_up_to : ℕ → List ℕ → Option ℕ
number_up_to most [] = None
number_up_to most (b ∷ bs) = if b == 48 then (if bytes_eq bs [] then Some 0 else None) else digits_up_to most 0 (b ∷ bs)

abbrev pub most_steps : ℕ
most_steps = 4611686018427387903

abbrev pub most_functions : ℕ
most_functions = 10000

abbrev pub default_steps : ℕ
default_steps = 1000000000

-- ---- a run: options, files, and the words after `--`

-- the options so far, and the words that are left
pub record Opted : Type 0 where
  pub steps : Option ℕ
  pub tally : Bool
  pub leaks : Bool
  pub rest : List (List ℕ)

abbrev pub no_options : List (List ℕ) → Opted
no_options words = record { steps = None; tally = false; leaks = false; rest = words }

abbrev pub with_steps : Opted → Option ℕ → Option Opted
with_steps o None = None
with_steps o (Some n) = if is_none o.steps then Some (record o { steps = Some n }) else None

abbrev pub with_tally : Bool → Opted → Option Opted
with_tally reports o = if reports && not o.tally then Some (record o { tally = true }) else None

abbrev pub with_leaks : Bool → Opted → Option Opted
with_leaks reports o = if reports && not o.leaks then Some (record o { leaks = true }) else None

abbrev pub opted_before : Opted → List (List ℕ) → Opted
opted_before o rest = record o { rest = rest }

-- an option is read, there is none, or the words fit no command
pub data Read : Type 0 where
  More : Opted → Read
  Ended : Read
  Bad : Read

abbrev pub more_or_bad : Option Opted → Read
more_or_bad (Some o) = More o
more_or_bad None = Bad

abbrev pub steps_of : Opted → List (List ℕ) → Read
steps_of o [] = Bad
steps_of o (n ∷ rest) = more_or_bad (with_steps (record o { rest = rest }) (number_up_to most_steps n))

abbrev pub option_of : Bool → Opted → List ℕ → List (List ℕ) → Read
option_of reports o word rest =
    if bytes_eq word (codes "--steps") then steps_of o rest
    else (if bytes_eq word (codes "--tally") then more_or_bad (with_tally reports (record o { rest = rest }))
    else (if bytes_eq word (codes "--leaks") then more_or_bad (with_leaks reports (record o { rest = rest }))
    else Ended))

abbrev pub read_option : Bool → Opted → List (List ℕ) → Read
read_option reports o [] = Ended
read_option reports o (word ∷ rest) = option_of reports o word rest

-- each option stands at most once, so there are at most three; a further one is no file
abbrev pub go_on : (Opted → Option Opted) → Opted → Read → Option Opted
go_on more o (More next) = more next
go_on more o Ended = Some o
go_on more o Bad = None

unfoldable pub read_options : ℕ → Bool → Opted → Option Opted
read_options zero reports o = Some o
read_options (suc k) reports o = go_on (read_options k reports) o (read_option reports o o.rest)

-- how many words stand before `--`
abbrev pub dashes : List (List ℕ) → ℕ
dashes [] = 0
dashes (word ∷ words) = if bytes_eq word (codes "--") then 0 else suc (dashes words)

abbrev pub run_words : Opted → RunWords
run_words o = record {
  steps = unwrap_or o.steps default_steps;
  tally = o.tally;
  leaks = o.leaks;
  files = take (dashes o.rest) o.rest;
  args = drop (dashes o.rest + 1) o.rest;
}

abbrev pub if_files : (List (List ℕ) → Bool) → RunWords → Option RunWords
if_files test words = if test words.files then Some words else None

abbrev pub run_if_opted : (List (List ℕ) → Bool) → Option Opted → Option RunWords
run_if_opted test None = None
run_if_opted test (Some o) = if_files test (run_words o)

abbrev pub run_of : Bool → (List (List ℕ) → Bool) → List (List ℕ) → Option RunWords
run_of reports test words = run_if_opted test (read_options 3 reports (no_options words))

-- one C file
abbrev pub is_c_file : List (List ℕ) → Bool
is_c_file (file ∷ []) = begins_as_file file
is_c_file other = false

-- ---- commands

abbrev pub sources_of : (List (List ℕ) → Command) → List (List ℕ) → Option Command
sources_of make words = if are_sources words then Some (make words) else None

abbrev pub sample_of : List (List ℕ) → Option Command
sample_of (k ∷ []) = option_map Sample (number_up_to most_functions k)
sample_of other = None

abbrev pub asked_build : List (List ℕ) → Option Command
asked_build words = sources_of Build words

abbrev pub asked_check : List (List ℕ) → Option Command
asked_check words = sources_of Check words

abbrev pub asked_annotate : List (List ℕ) → Option Command
asked_annotate words = sources_of Annotate words

abbrev pub asked_flow : List (List ℕ) → Option Command
asked_flow words = sources_of Flow words

abbrev pub asked_run : List (List ℕ) → Option Command
asked_run words = option_map Run (run_of true are_sources words)

abbrev pub asked_ll_run : List (List ℕ) → Option Command
asked_ll_run words = option_map LlRun (run_of false are_sources words)

abbrev pub asked_c_run : List (List ℕ) → Option Command
asked_c_run words = option_map CRun (run_of true is_c_file words)

abbrev pub command_that_runs : List ℕ → List (List ℕ) → Option Command
command_that_runs name words =
    if bytes_eq name (codes "run") then asked_run words
    else (if bytes_eq name (codes "llrun") then asked_ll_run words
    else (if bytes_eq name (codes "crun") then asked_c_run words
    else (if bytes_eq name (codes "sample") then sample_of words
    else None)))

abbrev pub command_named : List ℕ → List (List ℕ) → Option Command
command_named name words =
    if bytes_eq name (codes "build") then asked_build words
    else (if bytes_eq name (codes "check") then asked_check words
    else (if bytes_eq name (codes "annotate") then asked_annotate words
    else (if bytes_eq name (codes "flow") then asked_flow words
    else command_that_runs name words)))

-- the command that words fit, or none
abbrev pub command : List (List ℕ) → Option Command
command [] = None
command (name ∷ words) = command_named name words

-- ---- what the code hands on

abbrev pub opted_of : CodeOpted → Opted
opted_of o = record { steps = o.steps; tally = o.tally; leaks = o.leaks; rest = o.rest.now }

abbrev pub ReadIs : CodeRead → Read → Type 0
ReadIs (CodeMore o) what = what ≡ More (opted_of o)
ReadIs CodeEnded what = what ≡ Ended
ReadIs CodeBad what = what ≡ Bad

abbrev pub words_of : RunAsked → RunWords
words_of r = record { steps = r.steps; tally = r.tally; leaks = r.leaks; files = r.files.now; args = r.args.now }

abbrev pub AskedIs : Asked → Option Command → Type 0
AskedIs (AskedBuild files) what = (what ≡ Some (Build files.now)) × (are_sources files.now ≡ true)
AskedIs (AskedCheck files) what = (what ≡ Some (Check files.now)) × (are_sources files.now ≡ true)
AskedIs (AskedAnnotate files) what = (what ≡ Some (Annotate files.now)) × (are_sources files.now ≡ true)
AskedIs (AskedFlow files) what = (what ≡ Some (Flow files.now)) × (are_sources files.now ≡ true)
AskedIs (AskedRun r) what = (what ≡ Some (Run (words_of r))) × (are_sources r.files.now ≡ true)
AskedIs (AskedLlRun r) what = (what ≡ Some (LlRun (words_of r))) × (are_sources r.files.now ≡ true)
AskedIs (AskedCRun r) what = what ≡ Some (CRun (words_of r))
AskedIs (AskedSample k) what = what ≡ Some (Sample k)
AskedIs Nothing what = what ≡ None

-- the command, where the words fit one; want of memory aside
abbrev pub ReadsAs : Result Command WordsFault → Option Command → Type 0
ReadsAs (Ok made) what = what ≡ Some made
ReadsAs (Err Usage) what = what ≡ None
ReadsAs (Err NoMem) what = Unit {0}

abbrev pub OptionsAre : CodeOptions → Option Opted → Type 0
OptionsAre (OptionsRead o) what = what ≡ Some (opted_of o)
OptionsAre OptionsBad what = what ≡ None

abbrev pub RunIs : (List (List ℕ) → Bool) → RunOf → Option RunWords → Type 0
RunIs test (RunGood r) what = (what ≡ Some (words_of r)) × (test r.files.now ≡ true)
RunIs test RunBad what = what ≡ None

-- ---- what there is to do

pub data Brought : Type 0 where
  Writing : (what : Task) → (files : List (List ℕ)) → Brought
  Running : (file : List ℕ) → (words : RunWords) → Brought
  RunningProgram : (words : RunWords) → Brought
  RunningLow : (words : RunWords) → Brought
  Sampling : (k : ℕ) → Brought
  NotThere : Brought

-- a run of the one C file that its words name
abbrev pub run_file : List (List ℕ) → RunWords → Brought
run_file (file ∷ []) words = Running file words
run_file other words = NotThere

abbrev pub brought : Option Command → Brought
brought (Some (Build files)) = Writing task.Build files
brought (Some (Check files)) = Writing task.Check files
brought (Some (Annotate files)) = Writing task.Annotate files
brought (Some (Flow files)) = Writing task.Flow files
brought (Some (Run words)) = RunningProgram words
brought (Some (LlRun words)) = RunningLow words
brought (Some (CRun words)) = run_file words.files words
brought (Some (Sample k)) = Sampling k
brought None = NotThere

abbrev pub JobIs : Job → Brought → Type 0
JobIs (JobWrite t files) what = (what ≡ Writing t files.now) × (are_sources files.now ≡ true)
JobIs (JobRun asked) what = (what ≡ RunningProgram (words_of asked)) × (are_sources asked.files.now ≡ true)
JobIs (JobLlRun asked) what = (what ≡ RunningLow (words_of asked)) × (are_sources asked.files.now ≡ true)
JobIs (JobCRun file asked) what = what ≡ Running file.now (words_of asked)
JobIs (JobSample k) what = what ≡ Sampling k
JobIs NoJob what = what ≡ NotThere

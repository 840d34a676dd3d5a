-- When the run of a C file ends with each status, and what then stands in the sinks and the watchers.
use Rattle.std.specs.Prelude.{◌≡◌, ◌⊎◌, ℕ, ◌&&◌, ◌||◌, Bool, true, false, if◌then◌else◌, List, [], ◌∷◌, ◌++◌, codes, Result, Ok, Err}
use Rattle.std.specs.Str.{bytes_eq}
use Rattle.std.specs.Fmt.{decimal, signed_decimal}
use Rattle.rpy_base.specs.Outcomes.{fail_name}
use Rattle.rpy_base.specs.Watching.{Seen, Reports}
use Rattle.rpy_base.specs.declared.outcome.Outcome.{Outcome}
use Rattle.rpy_base.specs.declared.outcome.Outcome.TheVariants.{Returned, Raised, Failed, Running}
use Rattle.csub_tree.specs.Spelling.{file_text}
use Rattle.csub_tree.specs.Checked.{IsChecked}
use Rattle.csub_tree.specs.declared.tree.CFile.{CFile}
use Rattle.csub_tree.specs.declared.stuck.StuckReason.{StuckReason}
use Rattle.csub_tree.specs.declared.stuck.StuckReason.TheVariants.{Gone, Kind, Outside, Unset, BadFree, Signature, Word, Length, Cost, Argument}
use Rattle.csub_reader.specs.Refused.{IsRefused}
use Rattle.csub_reader.specs.declared.fault.CFault.{CFault}
use Rattle.csub_reader.specs.declared.fault.CFault.TheVariants.{NotText, NotChecked, NoMem as NoMemToRead}
use Rattle.csub_runner.specs.Run.{Runs, CauseOf}
use Rattle.csub_runner.specs.declared.run.CRan.{CRan}
use Rattle.csub_runner.specs.declared.run.RunFault.{RunFault}
use Rattle.csub_runner.specs.declared.run.RunFault.TheVariants.{Stuck, WriteFault, WorkSpent, NoMem}
use Rattle.rpy_words.specs.declared.words.RunWords.{RunWords}
use Rattle.rpy_edge.specs.Edge.{Filed, Sunk, IsQuiet, AllRead, AreBytes, Loads, Says, line}
use Rattle.rpy_edge.specs.declared.status.Status.{Status}
use Rattle.rpy_edge.specs.declared.status.Status.TheVariants as status
use Rattle.rpy_crun.specs.declared.command.CWork.{CWork}
use Rattle.rpy_crun.specs.declared.command.CWork.TheVariants.{Unread, Refused, Starved, Ran}

-- how many bytes a C file may have
abbrev pub c_limit : ℕ
c_limit = 67108864

abbrev pub reason_number : StuckReason → ℕ
reason_number Gone = 1
reason_number Kind = 2
reason_number Outside = 3
reason_number Unset = 4
reason_number BadFree = 5
reason_number Signature = 6
reason_number Word = 7
reason_number Length = 8
reason_number Cost = 9
reason_number Argument = 10

-- ---- lines

-- the line that tells how a run ended
abbrev pub outcome_line : Outcome → List ℕ
outcome_line (Returned z) = codes "returned " ++ signed_decimal z ++ codes "\n"
outcome_line (Raised name) = codes "raised " ++ name ++ codes "\n"
outcome_line (Failed name) = codes "failed " ++ fail_name name ++ codes "\n"
outcome_line Running = codes "steps spent\n"

abbrev pub outcome_status : Outcome → Status
outcome_status (Returned z) = status.Done
outcome_status (Raised name) = status.Raised
outcome_status (Failed name) = status.Failed
outcome_status Running = status.Running

abbrev pub stuck_line : StuckReason → ℕ → List ℕ
stuck_line reason statement = codes "stuck " ++ decimal (reason_number reason) ++ codes " at statement " ++ decimal statement ++ codes "\n"

abbrev pub spent_line : List ℕ
spent_line = codes "work spent\n"

-- the lines of texts that are no C file: the line of the text, or the declaration
abbrev pub not_text_line : List ℕ → ℕ → List ℕ
not_text_line file k = file ++ codes ":" ++ decimal k ++ codes ": not C-sub\n"

abbrev pub not_checked_line : List ℕ → ℕ → List ℕ
not_checked_line file d = file ++ codes ": declaration " ++ decimal d ++ codes " not checked\n"

-- ---- reports

-- an option asks for the reports of watchers of this name
abbrev pub is_asked : RunWords → List ℕ → Bool
is_asked words name = (words.tally && bytes_eq name (codes "tally")) || (words.leaks && bytes_eq name (codes "leaks"))

-- those watchers, in order
abbrev pub asked_of : RunWords → List Seen → List Seen
asked_of words [] = []
asked_of words (s ∷ ss) = if is_asked words s.name then s ∷ asked_of words ss else asked_of words ss

-- the text holds the report of each of these watchers, in order; where it is not whole, those of the first of them
abbrev pub AreReports : Bool → List Seen → List ℕ → Type 0
AreReports whole [] text = text ≡ []
AreReports whole (s ∷ ss) text = ((whole ≡ false) × (text ≡ [])) ⊎ ((report : List ℕ) × (rest : List ℕ) × Reports s report × AreReports whole ss rest × (text ≡ report ++ rest))

-- the report of a watcher was added to a text, if it is asked for
abbrev pub Adds : Bool → Seen → List ℕ → List ℕ → Type 0
Adds true s old new = (report : List ℕ) × Reports s report × (new ≡ old ++ report)
Adds false s old new = new ≡ old

-- reports were added to a text
abbrev pub AddsReports : Bool → List Seen → List ℕ → List ℕ → Type 0
AddsReports whole seen old new = (reports : List ℕ) × AreReports whole seen reports × (new ≡ old ++ reports)

abbrev pub if_whole : Bool → Status → Status
if_whole true worked = worked
if_whole false worked = status.NoMem

-- the line and the reports are written to err. Where memory for a report is wanting, those before it are, and the status is that of no memory
abbrev pub Reported : Status → Status → List ℕ → List Seen → Sunk → Type 0
Reported worked answered text seen err = (whole : Bool) × (new : List ℕ) × AddsReports whole seen text new × Says (if_whole whole worked) answered new err

-- ---- the work

-- a fault of out is counted there, and nothing else is
abbrev pub OutIsCalm : Result CRan RunFault → Sunk → Type 0
OutIsCalm (Ok ran) out = out.faults ≡ out.faults_before
OutIsCalm (Err fault) out = CauseOf fault out.faults_before out.faults

-- a C file was run with these words, or there was no memory to begin
abbrev pub RunsFile : CWork → CFile → RunWords → Sunk → List Seen → List Seen → Type 0
RunsFile (Ran result) c words out seen seen_now =
    Runs c (codes "program" ∷ words.args) words.steps out.taken_before out.taken seen seen_now result × OutIsCalm result out
RunsFile Starved c words out seen seen_now = IsQuiet out × (seen_now ≡ seen)
RunsFile other c words out seen seen_now = ⊥

-- where these bytes are run, they are the spelling of a C file that keeps the rules; else there is what is known of why they are refused
abbrev pub RunsBytes : CWork → List ℕ → RunWords → Sunk → List Seen → List Seen → Type 0
RunsBytes (Ran result) bytes words out seen seen_now = (c : CFile) × (bytes ≡ file_text c) × IsChecked c × RunsFile (Ran result) c words out seen seen_now
RunsBytes (Refused why) bytes words out seen seen_now = IsRefused bytes why × IsQuiet out × (seen_now ≡ seen)
RunsBytes Starved bytes words out seen seen_now = IsQuiet out × (seen_now ≡ seen)
RunsBytes (Unread why) bytes words out seen seen_now = ⊥

-- what came of the work on a C file: its bytes were not read; they are no C file that keeps the rules; there was no memory; or it was run
abbrev pub WorksC : CWork → List ℕ → RunWords → Filed → Sunk → List Seen → List Seen → Type 0
WorksC (Unread why) file words files out seen seen_now = Loads c_limit (Err why) file files × IsQuiet out × (seen_now ≡ seen)
WorksC other file words files out seen seen_now = (bytes : List ℕ) × AreBytes c_limit files file bytes × AllRead files × RunsBytes other bytes words out seen seen_now

-- ---- what is said of it

-- nothing is put
abbrev pub SaysNothing : Status → Status → Sunk → Type 0
SaysNothing worked answered err = (answered ≡ worked) × IsQuiet err

abbrev pub SaidRefused : CFault → Status → List ℕ → Sunk → Type 0
SaidRefused (NotText k) answered file err = Says status.NotC answered (not_text_line file k) err
SaidRefused (NotChecked d) answered file err = Says status.NotC answered (not_checked_line file d) err
SaidRefused NoMemToRead answered file err = SaysNothing status.NoMem answered err

-- reports follow the line of an ending alone
abbrev pub SaidRan : Result CRan RunFault → Status → RunWords → List Seen → Sunk → Type 0
SaidRan (Ok ran) answered words seen err = Reported (outcome_status ran.outcome) answered (outcome_line ran.outcome) (asked_of words seen) err
SaidRan (Err (Stuck reason statement)) answered words seen err = Says status.Stuck answered (stuck_line reason statement) err
SaidRan (Err WriteFault) answered words seen err = SaysNothing status.WriteFault answered err
SaidRan (Err WorkSpent) answered words seen err = Says status.WorkSpent answered spent_line err
SaidRan (Err NoMem) answered words seen err = SaysNothing status.NoMem answered err

abbrev pub SaidC : CWork → Status → List ℕ → RunWords → List Seen → Sunk → Type 0
SaidC (Unread why) answered file words seen err = Says why answered (line why file) err
SaidC (Refused why) answered file words seen err = SaidRefused why answered file err
SaidC Starved answered file words seen err = SaysNothing status.NoMem answered err
SaidC (Ran result) answered file words seen err = SaidRan result answered words seen err

-- the whole run of a C file
abbrev pub AnswersRun : Status → List ℕ → RunWords → Filed → Sunk → Sunk → List Seen → List Seen → Type 0
AnswersRun answered file words files out err seen seen_now =
    (work : CWork) × WorksC work file words files out seen seen_now × SaidC work answered file words seen_now err

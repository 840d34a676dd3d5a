-- When reading a file and writing a line end with each status, and what then stands in the files and the sink.
use Rattle.std.specs.Prelude.{◌≡◌, ◌⊎◌, ℕ, ◌<◌, ◌≤◌, List, ◌++◌, [], length, take, codes, Option, Some, None, IfSome, option_map, Result, Ok, Err}
use Rattle.rpy_base.specs.Causes.{Rose}
use Rattle.rpy_base.specs.Reading.{Disk}
use Rattle.rpy_edge.specs.declared.status.Status.{Status}
use Rattle.rpy_edge.specs.declared.status.Status.TheVariants.{Done, Usage, NotSource, NotProgram, Conflicting, Untyped, TooMany, NotC, Stuck, NoFile, NotRead, WriteFault, Raised, Failed, Running, NoMem, WorkSpent, TooLong}

abbrev pub code : Status → ℕ
code Done = 0
code Usage = 1
code NotSource = 2
code NotC = 6
code Stuck = 7
code NoFile = 8
code NotRead = 8
code WriteFault = 9
code Raised = 10
code Failed = 11
code Running = 12
code NoMem = 13
code WorkSpent = 14
code TooLong = 15
code NotProgram = 3
code Conflicting = 4
code Untyped = 5
code TooMany = 15

-- a sink before and after a call: its count of faults, and what it took where it tells that
pub record Sunk : Type 0 where
  pub faults_before : ℕ
  pub faults : ℕ
  pub taken_before : Option (List ℕ)
  pub taken : Option (List ℕ)

abbrev pub sunk : {S : Type 0} → (S → ℕ) → (S → Option (List ℕ)) → S → S → Sunk
sunk faults taken old new = record { faults_before = faults old; faults = faults new; taken_before = taken old; taken = taken new }

-- the files before and after a call: what they hold, where they tell it, and their count of faults
pub record Filed : Type 0 where
  pub held : Option Disk
  pub faults_before : ℕ
  pub faults : ℕ

abbrev pub filed : {F : Type 0} → (F → Option Disk) → (F → ℕ) → F → F → Filed
filed held faults old new = record { held = held old; faults_before = faults old; faults = faults new }

-- in the call the sink took this text and did not fail
abbrev pub Took : Sunk → List ℕ → Type 0
Took sink text = (sink.faults ≡ sink.faults_before) × (sink.taken ≡ option_map (λ before. before ++ text) sink.taken_before)

-- it took a first part of this text, and failed
abbrev pub TookPart : Sunk → List ℕ → Type 0
TookPart sink text = Rose sink.faults_before sink.faults × ((k : ℕ) × (sink.taken ≡ option_map (λ before. before ++ take k text) sink.taken_before))

-- it is as before
abbrev pub IsQuiet : Sunk → Type 0
IsQuiet sink = (sink.faults ≡ sink.faults_before) × (sink.taken ≡ sink.taken_before)

-- no read failed
abbrev pub AllRead : Filed → Type 0
AllRead files = files.faults ≡ files.faults_before

-- these are the file's bytes, at most so many, where the files tell what they hold
abbrev pub AreBytes : ℕ → Filed → List ℕ → List ℕ → Type 0
AreBytes most files file bytes = (length bytes ≤ most) × IfSome files.held (λ disk. disk file ≡ Some bytes)

-- there is no file of this name, or it has more bytes than these, where the files tell it
abbrev pub IsMissing : Filed → List ℕ → Type 0
IsMissing files file = IfSome files.held (λ disk. disk file ≡ None)

abbrev pub IsTooLong : ℕ → Filed → List ℕ → Type 0
IsTooLong most files file = IfSome files.held (λ disk. IfSome (disk file) (λ bytes. most < length bytes))

-- ---- lines

abbrev pub usage_line : List ℕ
usage_line = codes "usage: rpy COMMAND [OPTION..] FILE.. [-- ARG..]\n"

-- the line for a status, of this file; none where nothing is to be written, and where it tells more than the status
abbrev pub line : Status → List ℕ → List ℕ
line Usage file = usage_line
line NoFile file = file ++ codes ": no such file\n"
line NotRead file = file ++ codes ": not read\n"
line TooLong file = file ++ codes ": too long\n"
line TooMany file = codes "too many files\n"
line other file = []

-- a call answers the status of its work once the line for it is written to err; else a fault of err, or want of memory
abbrev pub Says : Status → Status → List ℕ → Sunk → Type 0
Says worked answered text err =
    ((answered ≡ worked) × Took err text)
    ⊎ ((answered ≡ WriteFault) × TookPart err text)
    ⊎ ((answered ≡ NoMem) × IsQuiet err)

-- a line is said, if there was memory for it
abbrev pub SaysLine : {N : Type 0} → Status → Status → Result (List ℕ) N → Sunk → Type 0
SaysLine status answered (Ok text) err = Says status answered text err
SaysLine status answered (Err n) err = (answered ≡ NoMem) × IsQuiet err

-- why a put or a read stopped, and what the sink and the files are then
abbrev pub PutEnds : Result (Unit {0}) Status → List ℕ → Sunk → Type 0
PutEnds (Ok done) text sink = Took sink text
PutEnds (Err WriteFault) text sink = TookPart sink text
PutEnds (Err NoMem) text sink = IsQuiet sink
PutEnds (Err status) text sink = ⊥

abbrev pub Loads : ℕ → Result (List ℕ) Status → List ℕ → Filed → Type 0
Loads most (Ok bytes) file files = AreBytes most files file bytes × AllRead files
Loads most (Err NoFile) file files = IsMissing files file × AllRead files
Loads most (Err NotRead) file files = Rose files.faults_before files.faults
Loads most (Err TooLong) file files = IsTooLong most files file × AllRead files
Loads most (Err NoMem) file files = AllRead files
Loads most (Err status) file files = ⊥

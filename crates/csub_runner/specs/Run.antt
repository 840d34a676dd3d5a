-- A whole run: what one statement does to the output and to the watchers, and what stands after the run.
use Rattle.std.specs.Prelude.{◌≡◌, ℕ, ◌+◌, ◌-◌, ◌<◌, ◌≤◌, ◌^◌, List, [], ◌∷◌, ◌++◌, length, map, Option, option_map, Result, Ok, Err}
use Rattle.std.specs.List.{All}
use Rattle.rpy_base.specs.Causes.{Rose}
use Rattle.rpy_base.specs.Watching.{Seen, Block, after_made, after_gone, first_told}
use Rattle.csub_tree.specs.State.{Core, Event, Made, Freed, After, Onward, Puts, Told, Over, Stuck}
use Rattle.csub_tree.specs.Machine.{step, start, statement_number}
use Rattle.csub_tree.specs.Meaning.{run, Ran, Ended, Unfinished, Ending, Came, StuckAt, Meant, MeansWithin, RunsOn, made_in, gone_in}
use Rattle.csub_tree.specs.declared.tree.CFile.{CFile}
use Rattle.csub_runner.specs.Synced.{Synced}
use Rattle.csub_runner.specs.declared.run.CRan.{CRan}
use Rattle.csub_runner.specs.declared.run.RunFault.{RunFault}
use Rattle.csub_runner.specs.declared.run.RunFault.TheVariants.{Stuck as FaultStuck, WriteFault, WorkSpent, NoMem}
use Rattle.csub_runner.specs.declared.run.Stop.{Stop}
use Rattle.csub_runner.specs.declared.run.Stop.TheVariants.{Ended as StopEnded, Stuck as StopStuck, Spent}

-- what a watcher has seen once it was told of an event, and of several in order
abbrev pub told : Event → Seen → Seen
told (Made number kind cells) seen = after_made (number, kind, cells) seen
told (Freed number) seen = after_gone number seen

abbrev pub told_all : List Event → Seen → Seen
told_all [] seen = seen
told_all (event ∷ events) seen = told_all events (told event seen)

-- what a statement puts, and what the watchers are told
abbrev pub put_by : After → List ℕ
put_by (Puts byte core) = byte ∷ []
put_by other = []

abbrev pub told_by : After → List Event
told_by (Told event core) = event ∷ []
told_by other = []

-- so many statements lead from one state to another, where nothing was put and nobody told
pub record LeadsOn (file : CFile) (args : List (List ℕ)) (k : ℕ) (old new : Core) : Type 0 where
  pub runs : (m : ℕ) (text : List ℕ) (events : List Event) → run file args (k + m) old text events ≡ run file args m new text events
  pub synced : (seen : List Seen) → All (Synced old.blocks) seen → All (Synced new.blocks) seen

-- the run goes on in this state
abbrev pub GoesOn : After → Core → Type 0
GoesOn (Onward next) core = core ≡ next
GoesOn (Puts byte next) core = core ≡ next
GoesOn (Told event next) core = core ≡ next
GoesOn (Over outcome next) core = ⊥
GoesOn (Stuck reason) core = ⊥

-- the run stops so, in this state
abbrev pub Stops : Core → After → Stop → Core → Type 0
Stops old (Onward next) stop core = ⊥
Stops old (Puts byte next) stop core = ⊥
Stops old (Told event next) stop core = ⊥
Stops old (Over outcome next) stop core = (stop ≡ StopEnded outcome) × (core ≡ next)
Stops old (Stuck reason) stop core = (stop ≡ StopStuck reason) × (core ≡ old)

-- what a sink took after what it took before, where it tells it
abbrev pub HasTaken : Option (List ℕ) → Option (List ℕ) → List ℕ → Type 0
HasTaken before after bytes = after ≡ option_map (λ taken. taken ++ bytes) before

-- a first part of these bytes was taken
abbrev pub HasTakenSome : Option (List ℕ) → Option (List ℕ) → List ℕ → Type 0
HasTakenSome before after bytes = (sent rest : List ℕ) × (bytes ≡ sent ++ rest) × HasTaken before after sent

-- of the bytes that were held and those that were put, the first were taken and the others are held now
abbrev pub Sends : Option (List ℕ) → Option (List ℕ) → List ℕ → List ℕ → List ℕ → Type 0
Sends before after held put now = (sent : List ℕ) × (held ++ put ≡ sent ++ now) × HasTaken before after sent

-- the first so many watchers were told of one block more
abbrev pub SomeTold : List Seen → List Seen → Type 0
SomeTold before after = (k : ℕ) × (block : Block) × (after ≡ first_told k (after_made block) before)

-- the watchers after a fault: all are as after the same events, or some of them were told of one block more
abbrev pub WatchersAfter : RunFault → List Seen → List Seen → Type 0
WatchersAfter NoMem before after = SomeTold before after
WatchersAfter fault before after = after ≡ before

-- the watchers were told of blocks made and gone, in order, and these are those of the meaning; so in each watcher the two numbers grew
-- by their counts
abbrev pub ToldOf : Meant → List Seen → List Seen → Type 0
ToldOf meant before after = (events : List Event) × (meant.made ≡ made_in events) × (meant.gone ≡ gone_in events) × (after ≡ map (told_all events) before)
    × (map (λ s. s.made) after ≡ map (λ s. s.made + length meant.made) before) × (map (λ s. s.gone) after ≡ map (λ s. s.gone + length meant.gone) before)

-- one statement more: the state goes on, what is put is held or taken, each watcher is told, and the blocks are counted
pub record Advances (after : After) (new : Core) (before now : Option (List ℕ)) (held held_now : List ℕ) (made made_now gone gone_now : ℕ) (seen seen_now : List Seen) : Type 0 where
  pub goes : GoesOn after new
  pub sends : Sends before now held (put_by after) held_now
  pub told_is : seen_now ≡ map (told_all (told_by after)) seen
  pub made_is : made + length (made_in (told_by after)) < 2 ^ 64 → made_now ≡ made + length (made_in (told_by after))
  pub gone_is : gone + length (gone_in (told_by after)) < 2 ^ 64 → gone_now ≡ gone + length (gone_in (told_by after))

-- a fault of the sink or of memory
abbrev pub IsOwnFault : RunFault → Type 0
IsOwnFault (FaultStuck reason statement) = ⊥
IsOwnFault WorkSpent = ⊥
IsOwnFault WriteFault = Unit {0}
IsOwnFault NoMem = Unit {0}

-- how a run of at most so many statements stands when it stops, in this state
abbrev pub RanTo : ℕ → CFile → List (List ℕ) → Core → Stop → Core → List ℕ → List Event → Type 0
RanTo most file args start (StopEnded outcome) core text events = (k : ℕ) × (k ≤ most) × (run file args k start [] [] ≡ Ended (Came outcome) core text events)
RanTo most file args start (StopStuck reason) core text events = (k : ℕ) × (k ≤ most) × (run file args k start [] [] ≡ Ended (StuckAt reason (statement_number file.functions core)) core text events)
RanTo most file args start Spent core text events = run file args most start [] [] ≡ Unfinished core text events

-- the run stopped: of its text the first part was taken and the rest is held, and each watcher was told of each block
pub record Finished (most : ℕ) (file : CFile) (args : List (List ℕ)) (start : Core) (stop : Stop) (core : Core) (before now : Option (List ℕ)) (held : List ℕ) (made gone : ℕ) (seen seen_now : List Seen) : Type 0 where
  pub text : List ℕ
  pub events : List Event
  pub ran : RanTo most file args start stop core text events
  pub sent : List ℕ
  pub text_is : text ≡ sent ++ held
  pub taken : HasTaken before now sent
  pub told_is : seen_now ≡ map (told_all events) seen
  pub made_is : made ≡ length (made_in events)
  pub gone_is : gone ≡ length (gone_in events)

-- a fault came in the statement after so many others: the first part of what the run puts was taken
pub record Broken (most : ℕ) (file : CFile) (args : List (List ℕ)) (start : Core) (fault : RunFault) (before now : Option (List ℕ)) (seen seen_now : List Seen) : Type 0 where
  pub k : ℕ
  pub core : Core
  pub text : List ℕ
  pub events : List Event
  pub inside : k < most
  pub goes_on : (m : ℕ) → run file args (k + m) start [] [] ≡ run file args m core text events
  pub some : HasTakenSome before now (text ++ put_by (step file args core))
  pub watchers : WatchersAfter fault (map (told_all events) seen) seen_now

-- which count of a sink's faults goes with which fault
abbrev pub CauseOf : RunFault → ℕ → ℕ → Type 0
CauseOf WriteFault before now = Rose before now
CauseOf other before now = now ≡ before

-- at some moment of the run this is the text that it put, and these are the events
abbrev pub Stands : Ran → List ℕ → List Event → Type 0
Stands (Ended ending core t es) text events = (t ≡ text) × (es ≡ events)
Stands (Unfinished core t es) text events = (t ≡ text) × (es ≡ events)

abbrev pub PutsSoFar : CFile → List (List ℕ) → ℕ → List ℕ → List Event → Type 0
PutsSoFar file args steps text events = (k : ℕ) × Stands (run file args k (start file steps) [] []) text events

-- after a fault: a first part of what the run put by some moment was taken, and the watchers stand as at that moment, but that after
-- want of memory some of them may have seen one block more
abbrev pub StandsAfter : RunFault → CFile → List (List ℕ) → ℕ → Option (List ℕ) → Option (List ℕ) → List Seen → List Seen → Type 0
StandsAfter fault file args steps before now seen seen_now =
    (text : List ℕ) × (events : List Event) × PutsSoFar file args steps text events × HasTakenSome before now text × WatchersAfter fault (map (told_all events) seen) seen_now

-- an ending: the output was taken, and each watcher was told of each block made and gone
abbrev pub EndsSo : Ending → CFile → List (List ℕ) → ℕ → Option (List ℕ) → Option (List ℕ) → List Seen → List Seen → Meant → Type 0
EndsSo ending file args steps before now seen seen_now meant =
    MeansWithin (2 ^ 63) file args steps meant × (meant.ending ≡ ending) × HasTaken before now meant.output × ToldOf meant seen seen_now

-- what a run answers, and what it leaves
abbrev pub Runs : CFile → List (List ℕ) → ℕ → Option (List ℕ) → Option (List ℕ) → List Seen → List Seen → Result CRan RunFault → Type 0
Runs file args steps before now seen seen_now (Ok ran) = (meant : Meant) × EndsSo (Came ran.outcome) file args steps before now seen seen_now meant
    × (ran.steps_used ≡ meant.paid) × (ran.blocks_made ≡ length meant.made) × (ran.blocks_gone ≡ length meant.gone)
Runs file args steps before now seen seen_now (Err (FaultStuck reason statement)) = (meant : Meant) × EndsSo (StuckAt reason statement) file args steps before now seen seen_now meant
Runs file args steps before now seen seen_now (Err WorkSpent) = RunsOn (2 ^ 63) file args steps × StandsAfter WorkSpent file args steps before now seen seen_now
Runs file args steps before now seen seen_now (Err WriteFault) = StandsAfter WriteFault file args steps before now seen seen_now
Runs file args steps before now seen seen_now (Err NoMem) = StandsAfter NoMem file args steps before now seen seen_now

-- what a run that stopped so answers
abbrev pub Concludes : CFile → ℕ → Core → ℕ → ℕ → Stop → Result CRan RunFault → Type 0
Concludes file steps core made gone (StopEnded outcome) (Ok ran) = (ran.outcome ≡ outcome) × (ran.steps_used ≡ steps - core.steps) × (ran.blocks_made ≡ made) × (ran.blocks_gone ≡ gone)
Concludes file steps core made gone (StopStuck reason) (Err (FaultStuck given statement)) = (given ≡ reason) × (statement ≡ statement_number file.functions core)
Concludes file steps core made gone (StopStuck reason) (Err NoMem) = Unit {0}
Concludes file steps core made gone Spent (Err WorkSpent) = Unit {0}
Concludes file steps core made gone stop result = ⊥

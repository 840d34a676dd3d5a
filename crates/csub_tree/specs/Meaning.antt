-- What a C file means: how its run ends, with what it put, what it paid, and the blocks that it made and freed.
use Rattle.std.specs.Prelude.{◌≡◌, ℕ, zero, suc, ◌-◌, ◌≤◌, List, [], ◌∷◌, ◌++◌, Option, Some, None}
use Rattle.rpy_base.specs.declared.outcome.Outcome.{Outcome}
use Rattle.csub_tree.specs.State.{Core, Event, Made, Freed, After, Onward, Puts, Told, Over, Stuck}
use Rattle.csub_tree.specs.Machine.{step, start, statement_number}
use Rattle.csub_tree.specs.declared.stuck.StuckReason.{StuckReason}
use Rattle.csub_tree.specs.declared.tree.CFile.{CFile}

-- the run came to an outcome, or is stuck at the statement of this number
pub data Ending : Type 0 where
  Came : (outcome : Outcome) → Ending
  StuckAt : (reason : StuckReason) → (statement : ℕ) → Ending

pub data Ran : Type 0 where
  Ended : (ending : Ending) → (core : Core) → (text : List ℕ) → (events : List Event) → Ran
  Unfinished : (core : Core) → (text : List ℕ) → (events : List Event) → Ran

abbrev pub follow : CFile → (Core → List ℕ → List Event → Ran) → Core → List ℕ → List Event → After → Ran
follow file go before text events (Onward core) = go core text events
follow file go before text events (Puts byte core) = go core (text ++ byte ∷ []) events
follow file go before text events (Told event core) = go core text (events ++ event ∷ [])
follow file go before text events (Over outcome core) = Ended (Came outcome) core text events
follow file go before text events (Stuck reason) = Ended (StuckAt reason (statement_number file.functions before)) before text events

-- what k statements lead to, with the text that was put and the events that were told so far
unfoldable pub run : CFile → List (List ℕ) → ℕ → Core → List ℕ → List Event → Ran
run file args zero core text events = Unfinished core text events
run file args (suc k) core text events = follow file (run file args k) core text events (step file args core)

-- a block by its number, its struct and its count of cells
abbrev pub made_in : List Event → List (ℕ × ℕ × ℕ)
made_in [] = []
made_in (Made number kind cells ∷ events) = (number, kind, cells) ∷ made_in events
made_in (Freed number ∷ events) = made_in events

abbrev pub gone_in : List Event → List ℕ
gone_in [] = []
gone_in (Made number kind cells ∷ events) = gone_in events
gone_in (Freed number ∷ events) = number ∷ gone_in events

-- the ending of a run, with its output, the steps paid, and the blocks made and those gone, each in order
pub record Meant : Type 0 where
  pub ending : Ending
  pub output : List ℕ
  pub paid : ℕ
  pub made : List (ℕ × ℕ × ℕ)
  pub gone : List ℕ

abbrev pub meant_by : ℕ → Ran → Option Meant
meant_by steps (Ended ending core text events) = Some (record { ending = ending; output = text; paid = steps - core.steps; made = made_in events; gone = gone_in events })
meant_by steps (Unfinished core text events) = None

-- the meaning of the run with so many steps, where it ends within k statements
abbrev pub within : CFile → List (List ℕ) → ℕ → ℕ → Option Meant
within file args steps k = meant_by steps (run file args k (start file steps) [] [])

-- the run ends within so many statements, and this is its meaning
abbrev pub MeansWithin : ℕ → CFile → List (List ℕ) → ℕ → Meant → Type 0
MeansWithin most file args steps meant = (k : ℕ) × (k ≤ most) × (within file args steps k ≡ Some meant)

-- the meaning of the run with so many steps
abbrev pub CMeans : CFile → List (List ℕ) → ℕ → Meant → Type 0
CMeans file args steps meant = (k : ℕ) × (within file args steps k ≡ Some meant)

-- the run comes to no ending within so many statements
abbrev pub RunsOn : ℕ → CFile → List (List ℕ) → ℕ → Type 0
RunsOn most file args steps = within file args steps most ≡ None

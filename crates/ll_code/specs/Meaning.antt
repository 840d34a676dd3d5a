-- What a low-level program means: how its run ends, with what it put, what it paid, and the blocks that it made and freed.
use Rattle.std.specs.Prelude.{◌≡◌, ℕ, zero, suc, ◌-◌, ◌≤◌, List, [], ◌∷◌, ◌++◌, Option, Some, None}
use Rattle.rpy_base.specs.declared.outcome.Outcome.{Outcome}
use Rattle.csub_tree.specs.State.{Core, Event}
use Rattle.csub_tree.specs.Meaning.{made_in, gone_in}
use Rattle.csub_tree.specs.declared.stuck.StuckReason.{StuckReason}
use Rattle.ll_code.specs.declared.program.LlProgram.{LlProgram}
use Rattle.ll_code.specs.State.{State, Next, Goes, Puts, Tells, Ends, Sticks}
use Rattle.ll_code.specs.Machine.{step, start}

-- the run came to an outcome, or is stuck
pub data Ending : Type 0 where
  Came : (outcome : Outcome) → Ending
  StuckFor : (reason : StuckReason) → Ending

pub data Ran : Type 0 where
  Ended : (ending : Ending) → (steps : ℕ) → (text : List ℕ) → (events : List Event) → Ran
  Unfinished : (state : State) → (text : List ℕ) → (events : List Event) → Ran

abbrev pub follow : (State → List ℕ → List Event → Ran) → List ℕ → List Event → Next → Ran
follow go text events (Goes state) = go state text events
follow go text events (Puts byte state) = go state (text ++ byte ∷ []) events
follow go text events (Tells event state) = go state text (events ++ event ∷ [])
follow go text events (Ends outcome core) = Ended (Came outcome) core.steps text events
follow go text events (Sticks reason) = Ended (StuckFor reason) 0 text events

-- what k steps of the machine lead to, with the text that was put and the events that were told so far
unfoldable pub run : LlProgram → List (List ℕ) → ℕ → State → List ℕ → List Event → Ran
run program args zero state text events = Unfinished state text events
run program args (suc k) state text events = follow (run program args k) text events (step program args state)

-- the ending of a run, with its output, the steps paid, and the blocks made and those gone, each in order
pub record Meant : Type 0 where
  pub ending : Ending
  pub output : List ℕ
  pub paid : ℕ
  pub made : List (ℕ × ℕ × ℕ)
  pub gone : List ℕ

abbrev pub meant_by : ℕ → Ran → Option Meant
meant_by steps (Ended ending left text events) = Some (record { ending = ending; output = text; paid = steps - left; made = made_in events; gone = gone_in events })
meant_by steps (Unfinished state text events) = None

-- the meaning of the run with so many steps to pay, where it ends within k steps of the machine
abbrev pub within : LlProgram → List (List ℕ) → ℕ → ℕ → Option Meant
within program args steps k = meant_by steps (run program args k (start program steps) [] [])

-- the meaning of the run with so many steps
abbrev pub LMeans : LlProgram → List (List ℕ) → ℕ → Meant → Type 0
LMeans program args steps meant = (k : ℕ) × (within program args steps k ≡ Some meant)

-- the run ends within so many steps of the machine, and this is its meaning
abbrev pub MeansWithin : ℕ → LlProgram → List (List ℕ) → ℕ → Meant → Type 0
MeansWithin most program args steps meant = (k : ℕ) × (k ≤ most) × (within program args steps k ≡ Some meant)

-- the run comes to no ending within so many steps of the machine
abbrev pub RunsOn : ℕ → LlProgram → List (List ℕ) → ℕ → Type 0
RunsOn most program args steps = within program args steps most ≡ None

abbrev pub comes : Ending → Type 0
comes (Came outcome) = Unit {0}
comes (StuckFor reason) = ⊥

-- no run is stuck, whatever the arguments and the bound
abbrev pub NeverStuck : LlProgram → Type 0
NeverStuck program = (args : List (List ℕ)) → (steps : ℕ) → (meant : Meant) → LMeans program args steps meant → comes meant.ending

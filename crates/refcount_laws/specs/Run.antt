-- When the run of a counted program goes as that of its program does.
use Rattle.std.specs.Prelude.{◌≡◌, ◌≤◌, ℕ, zero, suc, ◌+◌, List, map, Option}
use Rattle.csub_tree.specs.State.{Block, Event}
use Rattle.ll_code.specs.State.{Frame, State, Next, Goes, Puts, Tells, Ends, Sticks}
use Rattle.ll_code.specs.Machine.{step}
use Rattle.ll_code.specs.Meaning.{Ran, Ended, Unfinished, Came, StuckFor, run}
use Rattle.csub_tree.specs.Meaning.{made_in}
use Rattle.ll_code.specs.declared.program.LlProgram.{LlProgram}
use Rattle.refcount_transform.specs.Counted.{counted}
use Rattle.refcount_laws.specs.Ghost.{Ghost}
use Rattle.refcount_laws.specs.Whole.{Call, StandsFor, ReadyFor}

-- each state of so many steps is ready, whatever stands for it
abbrev pub IsReady : LlProgram → State → Type 0
IsReady p s = (calls : List Call) (others : List Frame) (t : State) (g : Ghost) (h : List (Option Block)) → StandsFor p calls others s t g h → ReadyFor p calls s g

abbrev pub ReadyNext : (State → Type 0) → Next → Type 0
ReadyNext ready (Goes s) = ready s
ReadyNext ready (Puts byte s) = ready s
ReadyNext ready (Tells event s) = ready s
ReadyNext ready (Ends outcome core) = Unit {0}
ReadyNext ready (Sticks reason) = Unit {0}

unfoldable pub ReadyAlong : LlProgram → List (List ℕ) → ℕ → State → Type 0
ReadyAlong p args zero s = Unit {0}
ReadyAlong p args (suc k) s = IsReady p s × ReadyNext (ReadyAlong p args k) (step p args s)

-- a block that is made has two cells more
abbrev pub wider : ℕ × ℕ × ℕ → ℕ × ℕ × ℕ
wider (number, kind, cells) = (number, kind, cells + 2)

-- the counted program comes, in as many steps as its program took at least, to where its program is, or to the same ending, with the same output and as many steps left; the same blocks are made
abbrev pub RunStands : LlProgram → List (List ℕ) → ℕ → State → List ℕ → List Event → Ran → Type 0
RunStands p args k t text events (Unfinished s out told) =
    (j : ℕ) × (t' : State) × (events' : List Event) × (k ≤ j) × (run (counted p) args j t text events ≡ Unfinished t' out events') × (made_in events' ≡ map wider (made_in told))
    × (calls : List Call) × (others : List Frame) × (g : Ghost) × (h : List (Option Block)) × StandsFor p calls others s t' g h
RunStands p args k t text events (Ended (Came outcome) left out told) = (j : ℕ) × (events' : List Event) × (run (counted p) args j t text events ≡ Ended (Came outcome) left out events') × (made_in events' ≡ map wider (made_in told))
RunStands p args k t text events (Ended (StuckFor reason) left out told) = Unit {0}

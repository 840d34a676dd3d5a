-- How the machine of the explicit program follows that of the program.
use Rattle.std.specs.Prelude.{◌≡◌, ◌+◌, ℕ, List}
use Rattle.csub_tree.specs.State.{Core, Event}
use Rattle.ll_code.specs.State.{State, Next, Goes, Puts, Tells, Ends, Sticks}
use Rattle.ll_code.specs.Machine.{step}
use Rattle.ll_code.specs.Meaning.{run}
use Rattle.ll_code.specs.declared.program.LlProgram.{LlProgram}
use Rattle.exc_transform.specs.Pieces.{explicit}
use Rattle.ll_held.specs.Quiet.{Calm}
use Rattle.exc_laws.specs.Stands.{Stands}

-- the second state comes so many quiet steps after the first
pub record Leads (p : LlProgram) (args : List (List ℕ)) (x later : State) (count : ℕ) : Type 0 where
  pub by : (k : ℕ) (text : List ℕ) (events : List Event) → run p args (k + count) x text events ≡ run p args k later text events
  pub calm : Calm p args x later

-- some quiet steps later its next step is this
pub record Does (p : LlProgram) (args : List (List ℕ)) (x : State) (next : Next) : Type 0 where
  pub later : State
  pub count : ℕ
  pub leads : Leads (explicit p) args x later count
  pub does : step (explicit p) args later ≡ next

-- what follows a step of the program: where it goes, the explicit program comes too; the same output, events, ending or reason
abbrev pub Follows : LlProgram → List (List ℕ) → State → Next → Type 0
Follows p args x (Goes to) = (later : State) × Does p args x (Goes later) × Stands p to later
Follows p args x (Puts byte to) = (later : State) × Does p args x (Puts byte later) × Stands p to later
Follows p args x (Tells event to) = (later : State) × Does p args x (Tells event later) × Stands p to later
Follows p args x (Ends outcome core) = (x_core : Core) × Does p args x (Ends outcome x_core) × (x_core.steps ≡ core.steps)
Follows p args x (Sticks reason) = Does p args x (Sticks reason)

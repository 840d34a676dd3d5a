-- How the machine of the C file follows that of the low-level program.
use Rattle.std.specs.Prelude.{◌≡◌, ◌+◌, ◌*◌, ◌≤◌, ◌⊎◌, ℕ, List, []}
use Rattle.csub_tree.specs.State.{Core, Event, Puts as PutsByte, Told, Over, Stuck}
use Rattle.csub_tree.specs.Machine as c_machine
use Rattle.csub_tree.specs.Meaning as c_meaning
use Rattle.csub_tree.specs.declared.stuck.StuckReason.{StuckReason}
use Rattle.csub_tree.specs.declared.stuck.StuckReason.TheVariants.{Unset}
use Rattle.csub_tree.specs.declared.tree.CFile.{CFile}
use Rattle.ll_code.specs.State.{State, Calling, At, Returning, Throwing, Next, Goes, Puts, Tells, Ends, Sticks}
use Rattle.ll_code.specs.declared.program.LlExit.TheVariants as exit
use Rattle.ll_code.specs.declared.program.LlProgram.{LlProgram}
use Rattle.genc_lower.specs.Lower.{lowered}
use Rattle.genc_laws.specs.Stands.{Stands}

-- the second core comes so many statements after the first, and nothing is put or told on the way
pub record Leads (file : CFile) (args : List (List ℕ)) (core later : Core) (count : ℕ) : Type 0 where
  pub by : (k : ℕ) (text : List ℕ) (events : List Event) → c_meaning.run file args (k + count) core text events ≡ c_meaning.run file args k later text events

-- how many steps may pass before the next statement
abbrev pub weight : State → ℕ
weight (Calling f values frames core) = 2
weight (At ops exit frames core) = 1
weight (Returning value frames core) = 0
weight (Throwing value frames core) = 0

-- some statements later the C file stands where the program does; where it takes none, the weight falls
pub record Comes (p : LlProgram) (args : List (List ℕ)) (from : State) (c_core : Core) (to : State) : Type 0 where
  pub later : Core
  pub count : ℕ
  pub leads : Leads (lowered p) args c_core later count
  pub stands : Stands p to later
  pub pays : 1 + weight to ≤ weight from + 3 * count

pub record Sticks_too (p : LlProgram) (args : List (List ℕ)) (c_core : Core) (reason : StuckReason) : Type 0 where
  pub later : Core
  pub count : ℕ
  pub leads : Leads (lowered p) args c_core later count
  pub stuck : c_machine.step (lowered p) args later ≡ Stuck reason

-- the next step is over a link
abbrev pub IsAtLink : State → Type 0
IsAtLink (At [] (exit.Goto link) frames core) = Unit {0}
IsAtLink (At [] (exit.If a there elsewhere) frames core) = Unit {0}
IsAtLink other = ⊥

-- what follows a step of the program: the same output, events, ending or reason. Where an operand of a link is unset the program is
-- stuck; its C file may go on, since it leaves alone an input that takes its own value
abbrev pub Follows : LlProgram → List (List ℕ) → State → Core → Next → Type 0
Follows p args from c_core (Goes to) = Comes p args from c_core to
Follows p args from c_core (Puts byte to) = (later : Core) × (c_machine.step (lowered p) args c_core ≡ PutsByte byte later) × Stands p to later × (weight to ≤ 1)
Follows p args from c_core (Tells event to) = (later : Core) × (c_machine.step (lowered p) args c_core ≡ Told event later) × Stands p to later × (weight to ≤ 1)
Follows p args from c_core (Ends outcome core) = (later : Core) × (c_machine.step (lowered p) args c_core ≡ Over outcome later) × (later.steps ≡ core.steps)
Follows p args from c_core (Sticks reason) = Sticks_too p args c_core reason ⊎ ((reason ≡ Unset) × IsAtLink from)

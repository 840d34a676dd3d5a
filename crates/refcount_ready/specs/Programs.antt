-- A program whose references can be counted, a run that lets them be, and what the counted program comes to.
use Rattle.std.specs.Prelude.{◌≡◌, ◌≤◌, ℕ, true, List, [], Option, Some, None}
use Rattle.csub_tree.specs.State.{Block, Event}
use Rattle.ll_code.specs.Machine.{start}
use Rattle.ll_code.specs.Meaning.{Unfinished, run}
use Rattle.ll_code.specs.State.{Frame, State}
use Rattle.ll_code.specs.Typed.{IsWellTyped}
use Rattle.ll_code.specs.declared.program.LlProgram.{LlProgram}
use Rattle.ll_held.specs.Held.{Held}
use Rattle.ll_held.specs.Quiet.{ReadsInputs}
use Rattle.ll_held.specs.Roots.{roots, core_of}
use Rattle.ll_points.specs.Agrees.{Agrees, slots_of}
use Rattle.refcount_transform.specs.Counted.{counted}
use Rattle.refcount_laws.specs.Ghost.{Ghost}
use Rattle.refcount_laws.specs.Touched.{block_in}
use Rattle.refcount_laws.specs.Whole.{Call, StandsFor}
use Rattle.refcount_typed.specs.Leads.{LeadsToRoots}
use Rattle.refcount_typed.specs.Numbered.{HasNumbers}
use Rattle.refcount_checks.specs.Countable.{is_countable}
use Rattle.refcount_ready.specs.Along.{EachState, IsSmall, LeavesStatics}

-- its exceptions are explicit, and it keeps the rules that counts need: all but what each block reads is a test
pub record CanBeCounted (p : LlProgram) : Type 0 where
  pub typed : IsWellTyped p
  pub agrees : Agrees (slots_of p) p
  pub leads : LeadsToRoots p
  pub numbers : HasNumbers p
  pub inputs : ReadsInputs p
  pub countable : is_countable p ≡ true

-- each state is small, and no reference is written into a static
pub record RunsSmall (p : LlProgram) (args : List (List ℕ)) (steps : ℕ) : Type 0 where
  pub small : EachState (IsSmall p) p args steps
  pub blocks : EachState (LeavesStatics p) p args steps

-- so many steps on, the counted program has come, in as many steps at least, to a state that stands for this one, with the same output;
-- each block that is there then is held in the program
pub record ComesAlong (p : LlProgram) (args : List (List ℕ)) (steps k : ℕ) (s : State) (text : List ℕ) : Type 0 where
  pub taken : ℕ
  pub enough : k ≤ taken
  pub state : State
  pub events : List Event
  pub runs : run (counted p) args taken (start (counted p) steps) [] [] ≡ Unfinished state text events
  pub calls : List Call
  pub others : List Frame
  pub g : Ghost
  pub h : List (Option Block)
  pub stands : StandsFor p calls others s state g h
  pub held : (b : ℕ) (block : Block) → block_in (core_of state).blocks b ≡ Some block → Held (core_of s).blocks (roots p s) b

-- and where nothing is held, no block is there
pub record LeavesNothing (p : LlProgram) (args : List (List ℕ)) (steps : ℕ) (text : List ℕ) : Type 0 where
  pub taken : ℕ
  pub state : State
  pub events : List Event
  pub runs : run (counted p) args taken (start (counted p) steps) [] [] ≡ Unfinished state text events
  pub none : (b : ℕ) → block_in (core_of state).blocks b ≡ None

-- What is asked of the states of a run, beside the test of its program: what is raised has a class.
use Rattle.std.specs.Prelude.{◌≡◌, ℕ, true, List, [], Option, Some, None}
use Rattle.csub_tree.specs.State.{Value, Block, Core, Event}
use Rattle.csub_tree.specs.Layout.{shape_at, place}
use Rattle.csub_tree.specs.Statement.{read, block_at}
use Rattle.ll_code.specs.State.{State, At, Throwing}
use Rattle.ll_code.specs.Machine.{shapes_of, start}
use Rattle.ll_code.specs.Meaning.{Unfinished, run}
use Rattle.ll_code.specs.declared.program.LlProgram.{LlProgram}
use Rattle.exc_transform.specs.Explicit.{is_marked}
use Rattle.exc_laws.specs.Ready.{marks_of, exceptions_of, is_pointer, raised_next}
use Rattle.ll_points.specs.Points.{Leads}
use Rattle.exc_ready.specs.Raisable.{root_of}

-- each state that the run comes to
abbrev pub EachState : (State → Type 0) → LlProgram → List (List ℕ) → ℕ → Type 0
EachState holds p args steps = (k : ℕ) (s : State) (text : List ℕ) (events : List Event) → run p args k (start p steps) [] [] ≡ Unfinished s text events → holds s

-- the field that tells classes apart, if exceptions have one, names one
abbrev pub NamesClass : LlProgram → Option ℕ → Block → Type 0
NamesClass p None block = Unit {0}
NamesClass p (Some kind) block = is_pointer (read block.fields (place (shape_at (shapes_of p.structs) (root_of p)) 0)) ≡ true

-- no NULL, and the block that it leads to names its class
pub record HasClass (p : LlProgram) (core : Core) (value : Value) : Type 0 where
  pub there : is_pointer value ≡ true
  pub class : (block : Block) → block_at core value ≡ Some block → NamesClass p (exceptions_of p).kind block

-- what is raised next has a class
abbrev pub RaisesClassed : LlProgram → State → Type 0
RaisesClassed p (At ops exit frames core) = (a : ℕ) → raised_next ops exit ≡ Some a → HasClass p core (read core.vars a)
RaisesClassed p other = Unit {0}

-- an exception leaves none but a graph that is marked
abbrev pub LeavesMarked : LlProgram → State → Type 0
LeavesMarked p (Throwing value frames core) = is_marked (marks_of p) core.function ≡ true
LeavesMarked p other = Unit {0}

-- what is raised, and what leaves a graph, leads to what begins with the struct of exceptions
abbrev pub RaisedLeads : LlProgram → State → Type 0
RaisedLeads p (At ops exit frames core) = (a : ℕ) → raised_next ops exit ≡ Some a → Leads p core.blocks core.statics (root_of p) (read core.vars a)
RaisedLeads p (Throwing value frames core) = Leads p core.blocks core.statics (root_of p) value
RaisedLeads p other = Unit {0}

-- What is told of the operands of a run of a program.
use Rattle.std.specs.Prelude.{◌≡◌, false, List, ◌∷◌, slice_get, Some, ℕ}
use Rattle.rpy_tree.specs.Value.{Value}
use Rattle.rpy_tree.specs.declared.program.Program.{Program}
use Rattle.rpy_meaning.specs.Tree as meaning
use Rattle.resolved_laws.specs.Meant.{meant_by}
use Rattle.flow_graph.specs.declared.graph.Graphs.{Graphs}
use Rattle.flow_meaning.specs.Machine.{State, Calling, At, values_of}
use Rattle.flow_meaning.specs.Meaning.{run, start}
use Rattle.flow_runs.specs.Runs.{Reaches}
use Rattle.graph_told.specs.Plain.{narrows}
use Rattle.ann_element.specs.declared.annotation.Annotation.{Annotation}
use Rattle.ann_needs.specs.View.{assignment}
use Rattle.rpy_checked.specs.Settles.{HasTypes}
use Rattle.sound_rows.specs.Told.{IsTold}
use Rattle.sound_runs.specs.Runs.{Takes, IsToldIn, IsNotWrong}
use Rattle.sound_runs.specs.States.{IsSound}
use Rattle.sound_programs.specs.Whole.{whole_of, ReadsAreBound, IsWhole}

-- The operands of an operation that narrows nothing are as graphs are made: an index has its literal, what is walked by place is there, and so on. A function
-- that is called takes its arguments.
abbrev pub IsAsMade : meaning.Program → State → Type 0
IsAsMade q (At g (o ∷ ops) e env instead frames world) = narrows o.op ≡ false → (vs : List Value) → values_of env o.args ≡ Some vs → IsTold q world o.op vs
IsAsMade q (Calling f args instead frames world) = Takes args (slice_get q.functions f)
IsAsMade q state = Unit {0}

-- wherever a run of the program comes to
abbrev pub RunsAreAsMade : Program → Graphs → State → Type 0
RunsAreAsMade p gs from = (state : State) → Reaches (meant_by p) gs from state → IsAsMade (meant_by p) state

-- Then all that soundness asks to be told holds along each run: narrowings stand behind their tests.
abbrev pub RunsAreTold : Type 0
RunsAreTold = (p : Program) (gs : Graphs) (n : Annotation) (types : HasTypes p gs n) → IsWhole p gs (assignment types.state) → (args : List (List ℕ)) (steps : ℕ) → RunsAreAsMade p gs (start (meant_by p) args steps)
    → (state : State) → Reaches (meant_by p) gs (start (meant_by p) args steps) state → IsToldIn (meant_by p) state

-- So each state that a run of a program with types comes to is sound: its variables are of their elements, and its objects of their sorts.
abbrev pub RunsAreSound : Type 0
RunsAreSound = (p : Program) (gs : Graphs) (n : Annotation) (types : HasTypes p gs n) → IsWhole p gs (assignment types.state) → ReadsAreBound (whole_of p gs) (assignment types.state)
    → (args : List (List ℕ)) (steps : ℕ) → RunsAreAsMade p gs (start (meant_by p) args steps)
    → (state : State) → Reaches (meant_by p) gs (start (meant_by p) args steps) state → IsSound (whole_of p gs) (assignment types.state) (meant_by p) state

-- and the run is never wrong
abbrev pub MadeRunsAreNeverWrong : Type 0
MadeRunsAreNeverWrong = (p : Program) (gs : Graphs) (n : Annotation) (types : HasTypes p gs n) → IsWhole p gs (assignment types.state) → ReadsAreBound (whole_of p gs) (assignment types.state)
    → (args : List (List ℕ)) (steps : ℕ) → RunsAreAsMade p gs (start (meant_by p) args steps) → (k : ℕ) → IsNotWrong (run (meant_by p) gs k (start (meant_by p) args steps))

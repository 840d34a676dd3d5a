-- Runs are never wrong.
use Rattle.std.specs.Prelude.{◌≡◌, ℕ, zero, suc, false, List, ◌∷◌, slice_get, Option, Some, None}
use Rattle.rpy_base.specs.declared.outcome.Outcome.{Outcome}
use Rattle.rpy_tree.specs.Value.{Value}
use Rattle.rpy_meaning.specs.Evaluation.{parameters}
use Rattle.rpy_meaning.specs.Tree.{Function, Program}
use Rattle.flow_graph.specs.declared.graph.Graphs.{Graphs}
use Rattle.flow_meaning.specs.Machine.{State, Calling, At, Next, Goes, Ends, Stops, Strays, values_of, step}
use Rattle.flow_meaning.specs.Meaning.{Ran, Ended, Unfinished, run}
use Rattle.ann_lattice.specs.Assign.{Assignment}
use Rattle.ann_rules.specs.Program.{Whole}
use Rattle.sound_rows.specs.Told.{IsTold}
use Rattle.sound_runs.specs.Graphs.{IsSettled}
use Rattle.sound_runs.specs.States.{IsSound}

-- the function takes these arguments
abbrev pub Takes : List Value → Option Function → Type 0
Takes args None = Unit {0}
Takes args (Some function) = (function.takes_more ≡ false) × ((vs : List Value) × (parameters function.defaults args ≡ Some vs))

-- what is known of a state besides: what tests tell of operands holds of them, and a function that is called takes its arguments
abbrev pub IsToldIn : Program → State → Type 0
IsToldIn q (At g (o ∷ ops) e env instead frames world) = (vs : List Value) → values_of env o.args ≡ Some vs → IsTold q world o.op vs
IsToldIn q (Calling f args instead frames world) = Takes args (slice_get q.functions f)
IsToldIn q state = Unit {0}

-- the step leads on, ends the run with an outcome, or lacks steps; it does not stray
abbrev pub IsRight : Whole → Assignment → Program → Next → Type 0
IsRight p a q (Goes state) = IsSound p a q state
IsRight p a q (Ends (Some outcome) world) = Unit {0}
IsRight p a q (Ends None world) = ⊥
IsRight p a q (Stops world) = Unit {0}
IsRight p a q Strays = ⊥

-- a step from a sound state is right
abbrev pub StepsAreRight : Type 0
StepsAreRight = (p : Whole) (a : Assignment) (q : Program) (gs : Graphs) → IsSettled p a q gs → (state : State) → IsSound p a q state → IsToldIn q state → IsRight p a q (step q gs state)

-- so is each state within so many steps
abbrev pub ToldOn : Program → Graphs → (State → Type 0) → Next → Type 0
ToldOn q gs told (Goes state) = told state
ToldOn q gs told next = Unit {0}

abbrev pub ToldAlong : Program → Graphs → ℕ → State → Type 0
ToldAlong q gs zero state = Unit {0}
ToldAlong q gs (suc k) state = IsToldIn q state × ToldOn q gs (ToldAlong q gs k) (step q gs state)

-- it has not ended, or has an outcome
abbrev pub HasOutcome : Option Outcome → Type 0
HasOutcome None = ⊥
HasOutcome (Some outcome) = Unit {0}

abbrev pub IsNotWrong : Ran → Type 0
IsNotWrong (Unfinished state) = Unit {0}
IsNotWrong (Ended r) = HasOutcome r.outcome

-- a run from a sound state is never wrong
abbrev pub RunsAreNeverWrong : Type 0
RunsAreNeverWrong = (p : Whole) (a : Assignment) (q : Program) (gs : Graphs) → IsSettled p a q gs → (k : ℕ) (state : State) → IsSound p a q state → ToldAlong q gs k state
    → IsNotWrong (run q gs k state)

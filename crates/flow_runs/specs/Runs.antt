-- Where the run of flow graphs comes to.
use Rattle.std.specs.Prelude.{◌≡◌, Bool, List, [], ◌∷◌, Some, ℕ, Option}
use Rattle.rpy_tree.specs.Value.{Value}
use Rattle.rpy_meaning.specs.Tree.{Program}
use Rattle.rpy_meaning.specs.World.{World}
use Rattle.flow_graph.specs.declared.graph.Exit.{Exit}
use Rattle.flow_graph.specs.declared.graph.Graphs.{Graphs}
use Rattle.flow_graph.specs.declared.graph.Op.{Op}
use Rattle.flow_meaning.specs.Machine.{State, At, Bound, Frame, Goes, step, values_of}
use Rattle.flow_runs.specs.Good.{IsGood, TestIsTold}

module _ (p : Program) (gs : Graphs) where
  -- some steps lead from the one state to the other
  pub data Reaches : State → State → Type 0 where
    Here : {state : State} → Reaches state state
    Then : {state mid last : State} → step p gs state ≡ Goes mid → Reaches mid last → Reaches state last

  -- From this state on, each operation that the run comes to is as the laws of operations ask, where it is known which classes are made, and
  -- which operations are those on dicts.
  abbrev pub OperationsAreGood : (ℕ → Bool) → (ℕ → Op → Bool) → State → Type 0
  OperationsAreGood made keyed state = (f : ℕ) (o : Op) (ops : List Op) (exit : Exit) (env : List Bound) (instead : Option Value) (frames : List Frame) (world : World) (vs : List Value)
      → Reaches state (At f (o ∷ ops) exit env instead frames world) → values_of env o.args ≡ Some vs → IsGood p made (keyed f o) o.op world vs

  -- each test that the run comes to tells what is known of it
  abbrev pub TestsAreTold : (ℕ → ℕ → Option Bool) → State → Type 0
  TestsAreTold known state = (f : ℕ) (exit : Exit) (env : List Bound) (instead : Option Value) (frames : List Frame) (world : World) → Reaches state (At f [] exit env instead frames world) → TestIsTold (known f) exit env world

  -- from this state on, operations and tests are as laws of runs ask
  pub record AreGood (made : ℕ → Bool) (keyed : ℕ → Op → Bool) (known : ℕ → ℕ → Option Bool) (state : State) : Type 0 where
    pub operations : OperationsAreGood made keyed state
    pub tests : TestsAreTold known state

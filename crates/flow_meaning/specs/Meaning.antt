-- What the flow graphs of a program mean: how their run ends, with what it holds, and the world then.
use Rattle.std.specs.Prelude.{◌≡◌, ℕ, zero, suc, List, [], ◌∷◌, length, Option, Some, None}
use Rattle.rpy_base.specs.declared.outcome.Outcome.{Outcome}
use Rattle.rpy_base.specs.declared.outcome.Outcome.TheVariants as outcome
use Rattle.rpy_tree.specs.Value.{Value, Ref}
use Rattle.rpy_meaning.specs.Tree.{Program}
use Rattle.rpy_meaning.specs.World.{World}
use Rattle.rpy_meaning.specs.Meaning.{Run, prebuilt, start as begin}
use Rattle.flow_graph.specs.declared.graph.Graphs.{Graphs}
use Rattle.flow_meaning.specs.Machine.{State, Calling, Next, Goes, Ends, Stops, Strays, step}
use Rattle.flow_meaning.specs.Roots.{roots}

pub data Ran : Type 0 where
  Ended : (run : Run) → Ran
  Unfinished : (state : State) → Ran

abbrev pub run_of : Option Outcome → List Value → World → Run
run_of outcome held world = record { outcome = outcome; held = held; world = world }

-- a run that is wrong has no outcome, and no world
abbrev pub no_world : World
no_world = record { heap = []; out = []; left = 0 }

-- what follows a state; where its steps do not suffice the run goes on, and holds the roots
abbrev pub follow : (State → Ran) → State → Next → Ran
follow go state (Goes next) = go next
follow go state (Ends outcome world) = Ended (run_of outcome [] world)
follow go state (Stops world) = Ended (run_of (Some outcome.Running) (roots state) world)
follow go state Strays = Ended (run_of None [] no_world)

-- what k steps of the machine lead to
unfoldable pub run : Program → Graphs → ℕ → State → Ran
run p gs zero state = Unfinished state
run p gs (suc k) state = follow (run p gs k) state (step p gs state)

-- the entry point is called with the list of arguments, which is the last of the first objects
abbrev pub start : Program → List (List ℕ) → ℕ → State
start p args n = Calling p.entry (Ref (length (prebuilt p)) ∷ []) None [] (begin p args n 0).world

abbrev pub ended : Ran → Option Run
ended (Ended run) = Some run
ended (Unfinished state) = None

-- the meaning with a bound on steps, where the run ends within k steps of the machine
abbrev pub gmean : Program → Graphs → List (List ℕ) → ℕ → ℕ → Option Run
gmean p gs args n k = ended (run p gs k (start p args n))

-- this is the meaning
abbrev pub GMeans : Program → Graphs → List (List ℕ) → ℕ → Run → Type 0
GMeans p gs args n run = (k : ℕ) × (gmean p gs args n k ≡ Some run)

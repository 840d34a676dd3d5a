-- Whole runs.
use Rattle.std.specs.Prelude.{◌≡◌, ℕ, List, ◌++◌, Option, Some, None}
use Rattle.rpy_base.specs.declared.outcome.Outcome.{Outcome}
use Rattle.ll_code.specs.State as low
use Rattle.rpy_meaning.specs.World.{World}
use Rattle.rpy_meaning.specs.Meaning.{Run}
use Rattle.flow_meaning.specs.Machine.{State, world_of}
use Rattle.flow_meaning.specs.Meaning.{Ended, run}
use Rattle.flow_runs.specs.Runs.{AreGood}
use Rattle.object_laws.specs.Ghost.{Ghost}
use Rattle.run_laws.specs.Points.{Setting, is_keyed, truth_known, Way}
use Rattle.run_laws.specs.Does.{Over}
use Rattle.run_laws.specs.States.{IsLowered, Stands}

-- the low-level program comes to this outcome, over memory that represents the heap then, and puts what the run puts from here on
pub record Ends (s : Setting) (outcome : Outcome) (before w : World) (from : low.State) : Type 0 where
  pub text : List ℕ
  pub last : low.State
  pub way : Way s from text last
  pub over : Over s outcome w last
  pub out : w.out ≡ before.out ++ text

abbrev pub EndsIf : Setting → Option Outcome → World → World → low.State → Type 0
EndsIf s None before w from = Unit {0}
EndsIf s (Some outcome) before w from = Ends s outcome before w from

-- Of a program each block of which does what that of its flow graph does: where the flow graphs end from a state on, the low-level program ends
-- so from where it stands, if each operation that it comes to is as the laws of operations ask.
abbrev pub RunsAreFollowed : Type 0
RunsAreFollowed = (s : Setting) → IsLowered s → (g : Ghost) (state : State) (from : low.State) → Stands s g state from → AreGood s.known.program s.graphs s.made (is_keyed s) (truth_known s) state
    → (k : ℕ) (end : Run) → run s.known.program s.graphs k state ≡ Ended end → EndsIf s end.outcome (world_of state) end.world from

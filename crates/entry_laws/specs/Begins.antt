-- How a run begins: the list of arguments is made, and the entry point is called with it.
use Rattle.std.specs.Prelude.{◌≡◌, ℕ, [], ◌∷◌, length, slice_get, Some}
use Rattle.ann_element.specs.declared.element.Element.{Element}
use Rattle.csub_tree.specs.State.{Value, Core}
use Rattle.ll_code.specs.State as low
use Rattle.ll_code.specs.State.{Frame, Calling, Returning}
use Rattle.ll_code.specs.Machine as machine
use Rattle.ll_held.specs.Roots.{core_of}
use Rattle.ll_leads.specs.Memory.{forgotten}
use Rattle.rpy_tree.specs.Value.{Value as Meant, Ref}
use Rattle.rpy_meaning.specs.Evaluation.{parameters}
use Rattle.rpy_meaning.specs.Meaning.{Run, prebuilt, start as begin}
use Rattle.rpy_meaning.specs.Tree.{Function}
use Rattle.rpy_meaning.specs.World.{World as MeantWorld}
use Rattle.flow_meaning.specs.Meaning.{Ended, run, start}
use Rattle.rtyper_class.specs.Seen.{World}
use Rattle.rtyper_program.specs.Entry.{number_of}
use Rattle.object_laws.specs.Ghost.{Ghost}
use Rattle.object_laws.specs.Represents.{Represents}
use Rattle.object_laws.specs.Values.{Holds}
use Rattle.flow_runs.specs.Runs.{AreGood}
use Rattle.run_laws.specs.Points.{Setting, is_keyed, truth_known, Way}
use Rattle.run_laws.specs.Runs.{EndsIf}
use Rattle.run_laws.specs.States.{IsLowered, Stands}
use Rattle.entry_laws.specs.Ends.{HasEntry}

-- the world in which the entry point is called, with so many steps
abbrev pub first_world : Setting → ℕ → MeantWorld
first_world s steps = (begin s.known.program s.arguments steps 0).world

-- the list of arguments: the last of the first objects
abbrev pub first_list : Setting → Meant
first_list s = Ref (length (prebuilt s.known.program))

-- the call comes to this value over this memory, and puts nothing
pub record Comes (s : Setting) (from : low.State) (x : Value) (frame : Frame) (memory : Core) : Type 0 where
  pub end : Core
  pub same : forgotten end ≡ forgotten memory
  pub way : Way s from [] (Returning x (frame ∷ []) end)

-- Where the graph of this number is called over the memory with which a run begins, it gives the list of arguments, and memory represents
-- the first objects then. The entry point takes this list.
pub record ArgumentsAreGiven (s : Setting) (arguments steps : ℕ) : Type 0 where
  -- whatever waits, the call comes to this value over this memory
  pub x : Value
  pub memory : Core
  pub gives : (frame : Frame) (core : Core) → forgotten core ≡ forgotten (core_of (machine.start s.low steps)) → Comes s (Calling arguments [] (frame ∷ []) core) x frame memory
  -- that memory represents the first objects, with as many steps left
  pub ghost : Ghost
  pub stands : Represents s.around.layout s.known ghost (first_world s steps).heap (first_world s steps).left memory.blocks memory.statics
  pub left : (first_world s steps).left ≡ memory.steps
  -- the entry point has one parameter, and the value is the list, as this is known of it
  pub param : Element
  pub takes : slice_get s.around.params s.known.program.entry ≡ Some (param ∷ [])
  pub one : (function : Function) → slice_get s.known.program.functions s.known.program.entry ≡ Some function → parameters function.defaults (first_list s ∷ []) ≡ Some (first_list s ∷ [])
  pub holds : Holds s.around.layout s.known ghost (Some param) x (first_list s)

-- A run of the low-level program begins at the graph that calls the entry point, which has its graph where that calls it.
pub record BeginsThere (world : World) (s : Setting) (number arguments : ℕ) : Type 0 where
  pub has : HasEntry world s number arguments
  -- the program begins at the graph
  pub first : s.low.entry ≡ number
  -- the entry point has a graph, at the number that is called
  pub entry : s.known.graph s.known.program.entry ≡ Some (number_of world s.known.program.entry)

-- the low-level program comes, from its start, to where it stands as the flow graphs do at theirs, and puts nothing on the way
pub record IsStarted (s : Setting) (steps : ℕ) : Type 0 where
  pub ghost : Ghost
  pub state : low.State
  pub way : Way s (machine.start s.low steps) [] state
  pub stands : Stands s ghost (start s.known.program s.arguments steps) state

abbrev pub EntryPointsAreCalled : Type 0
EntryPointsAreCalled = (world : World) (s : Setting) (number arguments steps : ℕ) → BeginsThere world s number arguments → ArgumentsAreGiven s arguments steps → IsStarted s steps

-- Where each block does what that of its flow graph does, and the run of the flow graphs ends, the low-level program ends so from its start, if
-- each operation of the run is as the laws of operations ask.
abbrev pub WholeRunsAreFollowed : Type 0
WholeRunsAreFollowed = (world : World) (s : Setting) (number arguments steps : ℕ) → BeginsThere world s number arguments → ArgumentsAreGiven s arguments steps → IsLowered s → AreGood s.known.program s.graphs s.made (is_keyed s) (truth_known s) (start s.known.program s.arguments steps)
    → (k : ℕ) (end : Run) → run s.known.program s.graphs k (start s.known.program s.arguments steps) ≡ Ended end → EndsIf s end.outcome (first_world s steps) end.world (machine.start s.low steps)

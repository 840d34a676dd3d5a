-- How a run ends once the entry point has been called: with the word that this gives, or as raised, with the name of an exception's class.
use Rattle.std.specs.Prelude.{◌≡◌, ℕ, true, List, [], ◌∷◌, length, map, slice_get, Option, Some, None}
use Rattle.csub_tree.specs.State.{Value, Byte, Core}
use Rattle.ll_code.specs.State.{Frame, Returning, Throwing}
use Rattle.ll_code.specs.declared.program.LlExit.{LlExit}
use Rattle.ll_code.specs.declared.program.LlExit.TheVariants as exit
use Rattle.rpy_tree.specs.Value.{Value as Meant}
use Rattle.rpy_meaning.specs.Classes.{is_below}
use Rattle.rpy_meaning.specs.Meaning.{class_in, returned, name_of}
use Rattle.rpy_meaning.specs.Tree.{Class}
use Rattle.rpy_meaning.specs.World.{World as MeantWorld}
use Rattle.rtyper_layout.specs.declared.classes.Laid.{Laid}
use Rattle.rtyper_class.specs.Seen.{World, laid}
use Rattle.rtyper_program.specs.Entry.{entry_graph, given_back, into_of, types, ways}
use Rattle.rtyper_program.specs.Graphs.{result_of}
use Rattle.object_laws.specs.Done.{HasLayout}
use Rattle.object_laws.specs.Ghost.{Ghost, InstanceOf}
use Rattle.object_laws.specs.Known.{Known}
use Rattle.object_laws.specs.Represents.{Represents}
use Rattle.object_laws.specs.Values.{Holds}
use Rattle.class_laws.specs.Classes.{IsOf, IsLaidOut}
use Rattle.run_laws.specs.Points.{Setting}
use Rattle.run_laws.specs.States.{IsEntry, OverIf}

-- ---- what waits

-- what is left behind the call of the entry point: where there are exceptions, they are caught
abbrev pub exit_of : Option ℕ → Option Laid → LlExit
exit_of into None = exit.Return (Some (given_back into))
exit_of into (Some l) = ways into

abbrev pub waits : ℕ → Option ℕ → Option Laid → List Value → Frame
waits number into l vars = record { graph = number; block = 0; at = 2; vars = vars; into = into; ops = []; exit = exit_of into l }

-- the graph of this number waits for the entry point, with these variables
abbrev pub entry_waits : World → Known → ℕ → List Value → Frame
entry_waits world known number vars = waits number (into_of (result_of world.around known.program.entry)) (laid world 0) vars

-- as many variables as the graph has
abbrev pub HasVariables : World → List Value → Type 0
HasVariables world vars = length vars ≡ length (types world.around.layout.first_list (laid world 0))

-- ---- what is known

-- a vtable has the name of its class
abbrev pub NamesAreKnown : World → Known → Type 0
NamesAreKnown world known = (class : ℕ) (l : Laid) (c : Class) → laid world class ≡ Some l → slice_get known.program.classes class ≡ Some c → (known.vtable class).name ≡ map Byte c.name

-- `Exception`, the class 0, has structs where a class below it has
abbrev pub ExceptionIsLaid : World → Known → Type 0
ExceptionIsLaid world known = (class : ℕ) (l : Laid) → laid world class ≡ Some l → is_below known.program.classes class 0 ≡ true → (top : Laid) × (laid world 0 ≡ Some top)

-- A low-level program has the graph that calls the entry point, and its structs and classes are laid out as the world of the lowering says.
pub record HasEntry (world : World) (s : Setting) (number arguments : ℕ) : Type 0 where
  -- what is known around it is that of the world
  pub around : s.around ≡ world.around
  -- it has this graph at this number, which calls a graph that makes the list of arguments, and then the entry point
  pub graph : slice_get s.low.graphs number ≡ Some (entry_graph world s.known.program.entry arguments)
  -- its structs are those of the layout
  pub structs : HasLayout s.low world.around.layout
  -- its classes have the numbers, the structs and the vtables that the world says
  pub of : IsOf world s.known
  pub out : IsLaidOut world s.known
  -- a vtable has the name of its class, and `Exception` has structs where it is needed
  pub names : NamesAreKnown world s.known
  pub top : ExceptionIsLaid world s.known

-- ---- how it ends

-- What waits ends the run: with what the entry point gives, and with the name of what it throws, where this is an `Exception`, the class 0.
pub record EndsRun (s : Setting) (frame : Frame) : Type 0 where
  pub back : (later : Core) (g : Ghost) (x : Value) (v : Meant) (w : MeantWorld) → Represents s.around.layout s.known g w.heap w.left later.blocks later.statics → w.left ≡ later.steps → Holds s.around.layout s.known g (slice_get s.around.results s.known.program.entry) x v
      → OverIf s (returned v) w (Returning x (frame ∷ []) later)
  pub throws : (later : Core) (g : Ghost) (x : Value) (r class : ℕ) (w : MeantWorld) → Represents s.around.layout s.known g w.heap w.left later.blocks later.statics → w.left ≡ later.steps → slice_get g.homes r ≡ Some (record { sort = InstanceOf class; head = x })
      → is_below s.known.program.classes class 0 ≡ true → OverIf s (name_of (slice_get s.known.program.classes (class_in w r))) w (Throwing x (frame ∷ []) later)

abbrev pub EntryPointsEnd : Type 0
EntryPointsEnd = (world : World) (s : Setting) (number arguments : ℕ) (vars : List Value) → HasEntry world s number arguments → HasVariables world vars → EndsRun s (entry_waits world s.known number vars)

-- so what waits for the entry point is as runs ask it
abbrev pub EntryPointsAreEntries : Type 0
EntryPointsAreEntries = (world : World) (s : Setting) (number arguments : ℕ) (vars : List Value) → HasEntry world s number arguments → HasVariables world vars → IsEntry s (entry_waits world s.known number vars)

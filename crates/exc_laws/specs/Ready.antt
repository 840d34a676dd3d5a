-- What a run has to keep so that the explicit program goes the same way.
use Rattle.std.specs.Prelude.{◌≡◌, ℕ, ◌&&◌, not, Bool, true, false, List, [], ◌∷◌, slice_get, Option, Some, None, Ok}
use Rattle.csub_tree.specs.State.{Value, Ptr, Static, Block, Core, Event}
use Rattle.csub_tree.specs.Layout.{shape_at, place}
use Rattle.csub_tree.specs.Operation.{is_unset}
use Rattle.csub_tree.specs.Statement.{read, reached}
use Rattle.ll_code.specs.State.{State, At, Throwing}
use Rattle.ll_code.specs.Machine.{shapes_of, start}
use Rattle.ll_code.specs.Meaning.{run, Unfinished}
use Rattle.ll_code.specs.declared.program.LlOp.{LlOp}
use Rattle.ll_code.specs.declared.program.LlOp.TheVariants as op
use Rattle.ll_code.specs.declared.program.LlExit.{LlExit}
use Rattle.ll_code.specs.declared.program.LlExit.TheVariants as exit
use Rattle.ll_code.specs.declared.program.LlBlock.{LlBlock}
use Rattle.ll_code.specs.declared.program.LlGraph.{LlGraph}
use Rattle.ll_code.specs.declared.program.LlProgram.{LlProgram}
use Rattle.exc_transform.specs.declared.family.Family.{Family}
use Rattle.exc_transform.specs.Raising.{any_marked, raising_graphs}
use Rattle.ll_live.specs.Live.{among, set_by, sets}
use Rattle.exc_transform.specs.Live.{live, handler_reads}
use Rattle.exc_transform.specs.Families.{family_of}

-- ---- which graphs raise, and what

abbrev pub marks_of : LlProgram → List Bool
marks_of p = raising_graphs p.graphs

abbrev pub any_of : LlProgram → Bool
any_of p = any_marked (marks_of p)

abbrev pub exceptions_of : LlProgram → Family
exceptions_of p = family_of p.structs p.graphs

-- ---- blocks

-- what is left of a block reads the variable before it sets it
abbrev pub is_live : LlProgram → List LlOp → LlExit → ℕ → Bool
is_live p ops e v = among v (live (marks_of p) (any_of p) ops e)

-- each block reads its inputs alone, and what it sets
abbrev pub IsClosed : LlProgram → Type 0
IsClosed p = (f : ℕ) (graph : LlGraph) → slice_get p.graphs f ≡ Some graph → (n : ℕ) (block : LlBlock) → slice_get graph.blocks n ≡ Some block → (v : ℕ) → is_live p block.ops block.exit v ≡ true → among v block.inputs ≡ true

-- ---- operations

abbrev pub uses_slots : LlOp → Bool
uses_slots (op.ExcType a n) = true
uses_slots (op.ExcValue a n) = true
uses_slots (op.ExcSet a b) = true
uses_slots op.ExcClear = true
uses_slots other = false

abbrev pub next_uses_slots : List LlOp → Bool
next_uses_slots [] = false
next_uses_slots (o ∷ ops) = uses_slots o

-- what catches an exception of the next operation does not read the variable that it would have set
abbrev pub is_apart : List LlOp → LlExit → ℕ → Bool
is_apart [] e v = true
is_apart (o ∷ rest) e v = not (among v (handler_reads rest e) && sets (set_by o) v)

-- ---- exceptions

abbrev pub is_pointer : Value → Bool
is_pointer (Ptr n) = true
is_pointer (Static g) = true
is_pointer other = false

-- a pointer to an exception, whose first field, if exceptions have one that tells their classes apart, is a pointer
abbrev pub IsWholeOf : LlProgram → ℕ → Option ℕ → Core → Value → Type 0
IsWholeOf p root None core value = is_pointer value ≡ true
IsWholeOf p root (Some kind) core value =
    (block : Block) × (reached core (shapes_of p.structs) root value ≡ Ok block) × (is_pointer (read block.fields (place (shape_at (shapes_of p.structs) root) 0)) ≡ true)

abbrev pub IsWhole : LlProgram → Core → Value → Type 0
IsWhole p core value = IsWholeOf p (exceptions_of p).root (exceptions_of p).kind core value

-- what is raised next
abbrev pub raised_next : List LlOp → LlExit → Option ℕ
raised_next [] (exit.Raise a) = Some a
raised_next [] other = None
raised_next (op.Raise a ∷ ops) e = Some a
raised_next (o ∷ ops) e = None

-- ---- states

-- what is live is set; the slots are left alone, and so is the result of a call that raises; what is raised is whole
pub record ReadyAt (p : LlProgram) (ops : List LlOp) (e : LlExit) (core : Core) : Type 0 where
  pub set : (v : ℕ) → is_live p ops e v ≡ true → is_unset (read core.vars v) ≡ false
  pub slots : next_uses_slots ops ≡ false
  pub apart : (v : ℕ) → is_apart ops e v ≡ true
  pub whole : (a : ℕ) → raised_next ops e ≡ Some a → IsWhole p core (read core.vars a)

-- no exception leaves the first graph
abbrev pub IsReady : LlProgram → State → Type 0
IsReady p (At ops e frames core) = ReadyAt p ops e core
IsReady p (Throwing value [] core) = ⊥
IsReady p other = Unit {0}

-- each state of the run
abbrev pub IsReadyOn : LlProgram → List (List ℕ) → ℕ → Type 0
IsReadyOn p args steps = (k : ℕ) (s : State) (text : List ℕ) (events : List Event) → run p args k (start p steps) [] [] ≡ Unfinished s text events → IsReady p s

-- Operations that read only variables that are set.
use Rattle.std.specs.Prelude.{◌≡◌, ◌<◌, ℕ, Bool, true, false, List, [], ◌∷◌, ◌++◌, length, slice_get, Option, Some, None}
use Rattle.csub_tree.specs.State.{Value, Core}
use Rattle.csub_tree.specs.Operation.{is_unset}
use Rattle.ll_code.specs.State.{Frame, Calling, At, Returning}
use Rattle.ll_code.specs.declared.program.LlType.{LlType}
use Rattle.ll_code.specs.declared.program.LlType.TheVariants as type
use Rattle.ll_code.specs.declared.program.LlOp.{LlOp}
use Rattle.ll_code.specs.declared.program.LlOp.TheVariants as op
use Rattle.ll_code.specs.declared.program.LlExit.{LlExit}
use Rattle.ll_code.specs.declared.program.LlGraph.{LlGraph}
use Rattle.ll_code.specs.declared.program.LlLink.{LlLink}
use Rattle.ll_code.specs.declared.program.LlProgram.{LlProgram}
use Rattle.ll_leads.specs.Path.{Path}
use Rattle.ll_live.specs.Live.{reads, set_by}
use Rattle.throw_laws.specs.Pieces.{AllIn, AreSet, IsReady, IsSetting, nowhere}

-- ---- what is read

abbrev pub with_set : Option ℕ → List ℕ → List ℕ
with_set None set = set
with_set (Some a) set = set ++ a ∷ []

-- the variables that are set behind the operations, where these are set before
abbrev pub through : List LlOp → List ℕ → List ℕ
through [] set = set
through (o ∷ ops) set = through ops (with_set (set_by o) set)

-- they read only these variables, and those that they have set
abbrev pub ReadIn : List LlOp → List ℕ → Type 0
ReadIn [] set = Unit {0}
ReadIn (o ∷ ops) set = AllIn (reads o) set × ReadIn ops (with_set (set_by o) set)

-- ---- what is set

abbrev pub uses_slots : LlOp → Bool
uses_slots (op.ExcType a n) = true
uses_slots (op.ExcValue a n) = true
uses_slots (op.ExcSet a b) = true
uses_slots op.ExcClear = true
uses_slots other = false

module _ (p : LlProgram) (n : ℕ) where
  abbrev pub SetsUnder : Option ℕ → Type 0
  SetsUnder None = Unit {0}
  SetsUnder (Some a) = a < n

  -- a variable of the graph takes what a call gives, which is something
  abbrev pub TakesFrom : Option ℕ → LlType → Type 0
  TakesFrom None t = Unit {0}
  TakesFrom (Some a) t = (a < n) × (t ≡ type.Void → ⊥)

  abbrev pub TakesOf : Option ℕ → Option LlGraph → Type 0
  TakesOf into None = SetsUnder into
  TakesOf into (Some graph) = TakesFrom into graph.result

  -- an operation sets a variable of the graph
  abbrev pub OpFits : LlOp → Type 0
  OpFits (op.Call into g xs) = TakesOf into (slice_get p.graphs g)
  OpFits (op.CallFn into result params b xs) = TakesFrom into result
  OpFits o = (uses_slots o ≡ false) × SetsUnder (set_by o)

  abbrev pub AllFit : List LlOp → Type 0
  AllFit [] = Unit {0}
  AllFit (o ∷ ops) = OpFits o × AllFit ops

-- what a graph with a result gives is set
abbrev pub GiveValues : LlProgram → List (List ℕ) → Type 0
GiveValues p args = (g : ℕ) (graph : LlGraph) → slice_get p.graphs g ≡ Some graph → (graph.result ≡ type.Void → ⊥) → (values : List Value) (core end : Core) (text : List ℕ) (x : Value) → Path p args (Calling g values [] core) text (Returning x [] end) → is_unset x ≡ false

-- ---- the laws

-- what is needed behind operations is among the variables that are set, where those operations read only these, and these are what is passed on
abbrev pub IsEnough : (List LlOp → List ℕ) → List ℕ → List ℕ → Type 0
IsEnough needed base further = (left : List LlOp) (set : List ℕ) → ReadIn left set → AllIn base set → AllIn further (through left set) → AllIn (needed left) set

-- Operations that read only variables that are set, and those that they have set, come to no place where what is needed is not set.
abbrev pub OperationsAreReady : Type 0
OperationsAreReady = (p : LlProgram) (args : List (List ℕ)) (quiet : ℕ → Bool) (needed : List LlOp → List ℕ) (f : ℕ) (graph : LlGraph) (v : ℕ) (by : LlLink) (e : LlExit) (base further set : List ℕ) (ops : List LlOp) (core : Core)
    → IsSetting p args quiet f graph → GiveValues p args → IsEnough needed base further → core.function ≡ f → ReadIn ops set → AllFit p (length core.vars) ops → AllIn base set → AllIn further (through ops set) → AreSet set core.vars
    → IsReady p args quiet needed f graph v by e (At ops (nowhere graph) [] core)

-- And so where a call that they make comes back with something.
abbrev pub ReturnsAreReady : Type 0
ReturnsAreReady = (p : LlProgram) (args : List (List ℕ)) (quiet : ℕ → Bool) (needed : List LlOp → List ℕ) (f : ℕ) (graph : LlGraph) (v : ℕ) (by : LlLink) (e : LlExit) (base further set : List ℕ) (ops : List LlOp) (core : Core)
    → IsSetting p args quiet f graph → GiveValues p args → IsEnough needed base further → core.function ≡ f → ReadIn ops set → AllFit p (length core.vars) ops → AllIn base set → AllIn further (through ops set) → AreSet set core.vars
    → (g : ℕ) (values : List Value) (frame : Frame) (end later : Core) (text : List ℕ) (x : Value) → Path p args (At ops (nowhere graph) [] core) text (Calling g values (frame ∷ []) end) → is_unset x ≡ false
    → IsReady p args quiet needed f graph v by e (Returning x (frame ∷ []) later)

-- When a state of a counted program stands where one of its program does, and what follows an operation there.
use Rattle.std.specs.Prelude.{◌≡◌, ◌⊎◌, ◌<◌, ℕ, ◌+◌, Bool, true, false, List, length, slice_get, Option, Some}
use Rattle.csub_tree.specs.State.{Value, Unset, Null, Ptr, Static, Block, Core, Made, Freed, After, Onward, Puts as PutsByte, Told, Over, Stuck}
use Rattle.csub_tree.specs.Layout.{begins_with}
use Rattle.csub_tree.specs.Statement.{read}
use Rattle.ll_held.specs.Held.{is_reference}
use Rattle.ll_code.specs.State.{Frame, State, At, Puts, Tells, Ends}
use Rattle.ll_code.specs.Machine.{step, shapes_of}
use Rattle.ll_code.specs.declared.program.LlOp.{LlOp}
use Rattle.ll_code.specs.declared.program.LlExit.{LlExit}
use Rattle.ll_code.specs.declared.program.LlProgram.{LlProgram}
use Rattle.ll_code.specs.declared.program.LlType.{LlType}
use Rattle.refcount_transform.specs.Plan.{Plan, plan_of, is_counted, root_of}
use Rattle.refcount_transform.specs.Changes.{around_of, var_referred}
use Rattle.refcount_transform.specs.Counted.{counted}
use Rattle.refcount_laws.specs.Made.{counts_of}
use Rattle.refcount_laws.specs.Ghost.{Ghost, Fixed, Alone, F, fixed_at, bare_at, memory, IsCounted}
use Rattle.refcount_laws.specs.Runs.{Leads, here}
use Rattle.refcount_laws.specs.Touched.{block_in, Shown}
use Rattle.refcount_laws.specs.Owned.{owned}

-- ---- memory

-- a cell: what is unset in the program may be NULL, or a number
abbrev pub Near : Value → Value → Type 0
Near x y = (x ≡ y) ⊎ ((x ≡ Unset) × (is_reference y ≡ false))

pub record AllNear (xs ys : List Value) : Type 0 where
  pub size : length xs ≡ length ys
  pub at : (k : ℕ) → Near (read xs k) (read ys k)

pub record NearBlock (block other : Block) : Type 0 where
  pub kind : block.kind ≡ other.kind
  pub fields : AllNear block.fields other.fields
  pub items : AllNear block.items other.items

abbrev pub NearStatic : Plan → Block → Fixed → Type 0
NearStatic plan block (Alone other) = (block ≡ other) × (is_counted plan block.kind ≡ false)
NearStatic plan block (F n kind fields items) = NearBlock block (record { kind = kind; fields = fields; items = items }) × (is_counted plan kind ≡ true)

-- each block of the program, gone or not once it is counted, and each static
pub record NearMemory (plan : Plan) (blocks : List (Option Block)) (statics : List Block) (g : Ghost) : Type 0 where
  pub size : length blocks ≡ length g.blocks
  pub each : (a : ℕ) → a < length blocks → (block : Block) × (block_in blocks a ≡ Some block) × NearBlock block (bare_at g.blocks a)
  pub size_statics : length statics ≡ length g.statics
  pub each_static : (s : ℕ) (block : Block) → slice_get statics s ≡ Some block → NearStatic plan block (fixed_at g.statics s)

-- ---- pointers

-- the value leads to a block that begins with this struct, or is NULL
abbrev pub PointsTo : LlProgram → List (Option Block) → List Block → ℕ → Value → Type 0
PointsTo p blocks statics n Null = Unit {0}
PointsTo p blocks statics n (Ptr b) = (block : Block) × (block_in blocks b ≡ Some block) × (begins_with (shapes_of p.structs) block.kind n ≡ true)
PointsTo p blocks statics n (Static s) = (block : Block) × (slice_get statics s ≡ Some block) × (begins_with (shapes_of p.structs) block.kind n ≡ true)
PointsTo p blocks statics n other = ⊥

-- so do these variables, where they refer to a struct that is counted; the others hold no block
pub record Pointing (p : LlProgram) (types : List LlType) (blocks : List (Option Block)) (statics : List Block) (uses : ℕ → Bool) (vars : List Value) : Type 0 where
  pub at : (v n : ℕ) → uses v ≡ true → var_referred (around_of (plan_of p) types) v ≡ Some n → PointsTo p blocks statics n (read vars v)
  pub refers : (v a : ℕ) → uses v ≡ true → read vars v ≡ Ptr a → (n : ℕ) × (var_referred (around_of (plan_of p) types) v ≡ Some n)

-- variables refer to roots
abbrev pub AllRoots : LlProgram → List LlType → Type 0
AllRoots p types = (v n : ℕ) → var_referred (around_of (plan_of p) types) v ≡ Some n → root_of (plan_of p) n ≡ n

-- ---- cores

-- the counted program has counts for this memory, and the other parts of its core are those of the program
pub record Stands (p : LlProgram) (core qcore : Core) (g : Ghost) (h : List (Option Block)) : Type 0 where
  pub near : NearMemory (plan_of p) core.blocks core.statics g
  pub shown : Shown (counts_of (plan_of p)) h g.blocks
  pub steps : qcore.steps ≡ core.steps
  pub exc_type : qcore.exc_type ≡ core.exc_type
  pub exc_value : qcore.exc_value ≡ core.exc_value

-- it comes to where the core of the program is, with this left to do
pub record Comes (p : LlProgram) (args : List (List ℕ)) (types : List LlType) (uses : ℕ → Bool) (own : Value → ℕ) (from : State) (rest : List LlOp) (ex : LlExit) (frames : List Frame) (block : ℕ) (core : Core) : Type 0 where
  pub qcore : Core
  pub g : Ghost
  pub h : List (Option Block)
  pub at : ℕ
  pub stands : Stands p core qcore g h
  pub counts : IsCounted (counted p) (counts_of (plan_of p)) g (λ r. owned (around_of (plan_of p) types) uses core.vars r + own r)
  pub leads : Leads (counted p) args from (At rest ex frames (here qcore core.function block at core.vars h (memory g)))

-- what follows by an operation: the same output, ending and steps, and the same block made, with the count and the release
abbrev pub Follows : LlProgram → List (List ℕ) → List LlType → (ℕ → Bool) → (Value → ℕ) → State → List LlOp → LlExit → List Frame → ℕ → After → Type 0
Follows p args types uses own from rest ex frames block (Onward core) = Comes p args types uses own from rest ex frames block core
Follows p args types uses own from rest ex frames block (PutsByte byte core) =
    (t : State) × (later : State) × Leads (counted p) args from t × (step (counted p) args t ≡ Puts byte later) × Comes p args types uses own later rest ex frames block core
Follows p args types uses own from rest ex frames block (Told (Made number kind cells) core) =
    (t : State) × (later : State) × Leads (counted p) args from t × (step (counted p) args t ≡ Tells (Made number kind (cells + 2)) later) × Comes p args types uses own later rest ex frames block core
Follows p args types uses own from rest ex frames block (Told (Freed number) core) = ⊥
Follows p args types uses own from rest ex frames block (Over outcome core) = (t : State) × (end : Core) × Leads (counted p) args from t × (step (counted p) args t ≡ Ends outcome end) × (end.steps ≡ core.steps)
Follows p args types uses own from rest ex frames block (Stuck reason) = Unit {0}

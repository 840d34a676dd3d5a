-- What a step does to the blocks, and which blocks the state after it names.
use Rattle.std.specs.Prelude.{◌≡◌, ◌≤◌, ◌<◌, ◌⊎◌, ℕ, ◌+◌, List, [], ◌∷◌, ◌++◌, length, slice_index_or, slice_set, slice_get, drop, Option, Some, None, true, false}
use Rattle.csub_tree.specs.State.{Value, Static, Block, Core}
use Rattle.csub_tree.specs.Statement.{read, operand}
use Rattle.ll_code.specs.State.{State, At}
use Rattle.ll_code.specs.declared.program.LlProgram.{LlProgram}
use Rattle.ll_code.specs.Machine.{block_in}
use Rattle.ll_code.specs.declared.program.LlOp.{LlOp}
use Rattle.ll_code.specs.declared.program.LlOp.TheVariants as op
use Rattle.ll_code.specs.declared.program.LlBlock.{LlBlock}
use Rattle.ll_live.specs.Live.{set_by, sets, handler_variable}
use Rattle.ll_held.specs.Roots.{roots, core_of}
use Rattle.ll_held.specs.Held.{times, references, cells, Held, are_distinct, AllHeld, references_in}
use Rattle.ll_leads.specs.Path.{Path, Stay, Go, Put, Tell, stored, reference_in}

abbrev pub blocks_of : State → List (Option Block)
blocks_of s = (core_of s).blocks

abbrev pub IsHeld : LlProgram → State → ℕ → Type 0
IsHeld p s b = Held (blocks_of s) (roots p s) b

-- no static names a block
abbrev pub StaticsNameNone : Core → Type 0
StaticsNameNone core = (g : ℕ) (block : Block) → slice_get core.statics g ≡ Some block → (b : ℕ) → times b (block.fields ++ block.items) ≡ 0

-- what catches an exception of the last operation of a block does not read the variable that this would have set
abbrev pub HandlersReadOthers : LlProgram → Type 0
HandlersReadOthers p = (f n : ℕ) (block : LlBlock) → block_in (slice_get p.graphs f) n ≡ Some block → (place : ℕ) (o : LlOp) → drop place block.ops ≡ o ∷ [] → (v : ℕ) → handler_variable block.exit v ≡ true → sets (set_by o) v ≡ false

-- each root of the second state is of this kind
abbrev pub RootsAre : LlProgram → State → (ℕ → Type 0) → Type 0
RootsAre p t good = (b : ℕ) → 0 < times b (roots p t) → good b

abbrev pub statics_of : State → List Block
statics_of s = (core_of s).statics

-- whether the next operation writes a reference into a static
abbrev pub within_static : Value → ℕ → ℕ
within_static (Static g) n = n
within_static other n = 0

abbrev pub into_static : State → ℕ
into_static (At (op.SetField n b k x ∷ ops) e frames core) = within_static (read core.vars b) (reference_in (operand core.vars x))
into_static (At (op.SetItem n b i x ∷ ops) e frames core) = within_static (read core.vars b) (reference_in (operand core.vars x))
into_static other = 0

-- how many references are written into statics on the way
abbrev pub into_statics : {p : LlProgram} {args : List (List ℕ)} {s t : State} {text : List ℕ} → Path p args s text t → ℕ
into_statics (Stay s) = 0
into_statics (Go {s} e path) = into_static s + into_statics path
into_statics (Put {s} e path) = into_static s + into_statics path
into_statics (Tell {s} e path) = into_static s + into_statics path

-- what holds of each state of the way, the last one included
abbrev pub AllOn : {p : LlProgram} {args : List (List ℕ)} {s t : State} {text : List ℕ} → (State → Type 0) → Path p args s text t → Type 0
AllOn good (Stay s) = good s
AllOn good (Go {s} e path) = good s × AllOn good path
AllOn good (Put {s} e path) = good s × AllOn good path
AllOn good (Tell {s} e path) = good s × AllOn good path

abbrev pub memory_of : State → List (Option Block) × List Block
memory_of s = (blocks_of s, statics_of s)

pub data Effect (p : LlProgram) (s t : State) : Type 0 where
  -- blocks and statics are as they were
  Same : memory_of t ≡ memory_of s → RootsAre p t (IsHeld p s) → Effect p s t
  -- a block without references is made
  Makes : (block : Block) → ((b : ℕ) → times b (cells (Some block)) ≡ 0) → references (cells (Some block)) ≡ 0 → blocks_of t ≡ blocks_of s ++ Some block ∷ [] → statics_of t ≡ statics_of s → RootsAre p t (λ b. IsHeld p s b ⊎ (b ≡ length (blocks_of s))) → Effect p s t
  -- a block is written: what it names is what it named, or is held
  Writes : (n : ℕ) (old new : Block) → slice_index_or (blocks_of s) n None ≡ Some old → blocks_of t ≡ slice_set (blocks_of s) n (Some new) → statics_of t ≡ statics_of s
      → ((b : ℕ) → 0 < times b (cells (Some new)) → (0 < times b (cells (Some old))) ⊎ IsHeld p s b) → references (cells (Some new)) ≤ references (cells (Some old)) + stored s → RootsAre p t (IsHeld p s) → Effect p s t
  -- a static is written: what it names is what it named, unless a reference is written
  WritesStatic : (g : ℕ) (old new : Block) → slice_get (statics_of s) g ≡ Some old → blocks_of t ≡ blocks_of s → statics_of t ≡ slice_set (statics_of s) g new
      → (into_static s ≡ 0 → (b : ℕ) → 0 < times b (cells (Some new)) → 0 < times b (cells (Some old))) → RootsAre p t (IsHeld p s) → Effect p s t

-- no more than so many references stand in blocks that are held
abbrev pub HeldStore : LlProgram → State → ℕ → Type 0
HeldStore p s most = (bs : List ℕ) → are_distinct bs ≡ true → AllHeld (blocks_of s) (roots p s) bs → references_in (blocks_of s) bs ≤ most

-- What moves of references do to memory.
use Rattle.std.specs.Prelude.{◌≡◌, ◌<◌, ◌≤◌, ℕ, List, length, map, slice_index_or, Option, None}
use Rattle.csub_tree.specs.State.{Value, Block}
use Rattle.ll_code.specs.State.{State}
use Rattle.ll_code.specs.declared.program.LlProgram.{LlProgram}
use Rattle.refcount_laws.specs.Graphs.{Counts}
use Rattle.refcount_laws.specs.Ghost.{Slot, shown, slot_at, count, bare_at, inner, weight, fixed_at, shown_fixed, as_first, Ghost, IsCounted}
use Rattle.refcount_laws.specs.Runs.{Leads}

abbrev pub block_in : List (Option Block) → ℕ → Option Block
block_in h a = slice_index_or h a None

-- memory shows the blocks that are there, whatever it has where others stood
pub record Shows (c : Counts) (h : List (Option Block)) (g : List Slot) : Type 0 where
  pub at : (a : ℕ) → 0 < count g a → block_in h a ≡ shown c (slot_at g a)

-- what was there is as the later counts say, and nothing else was touched
pub record Touched (c : Counts) (g later : List Slot) (h h' : List (Option Block)) : Type 0 where
  pub dead : (a : ℕ) → count g a ≡ 0 → block_in h' a ≡ block_in h a
  pub live : (a : ℕ) → 0 < count g a → block_in h' a ≡ shown c (slot_at later a)
  pub size : length h' ≡ length h
  pub less : (a : ℕ) → count later a ≤ count g a

-- after some moves blocks and statics are the same but for their counts, and `own` has what it has besides
pub record Moved (q : LlProgram) (args : List (List ℕ)) (c : Counts) (g : Ghost) (h : List (Option Block)) (own : Value → ℕ) (from : State) (to : List (Option Block) → List Block → State) : Type 0 where
  pub later : Ghost
  pub blocks : List (Option Block)
  pub same : (b : ℕ) → bare_at later.blocks b ≡ bare_at g.blocks b
  pub same_statics : (s : ℕ) → as_first (fixed_at later.statics s) ≡ as_first (fixed_at g.statics s)
  pub size : length later.blocks ≡ length g.blocks
  pub size_statics : length later.statics ≡ length g.statics
  pub weighs : weight c later.blocks ≤ weight c g.blocks
  pub inners : (r : Value) → inner c later.blocks r ≤ inner c g.blocks r
  pub counted : IsCounted q c later own
  pub touched : Touched c g.blocks later.blocks h blocks
  pub leads : Leads q args from (to blocks (map shown_fixed later.statics))

-- memory shows all blocks that were made, each gone or there
pub record Shown (c : Counts) (h : List (Option Block)) (g : List Slot) : Type 0 where
  pub at : (a : ℕ) → block_in h a ≡ shown c (slot_at g a)
  pub size : length h ≡ length g

-- some steps later blocks and statics are the same but for their counts, memory shows them, and `own` has what it has besides
pub record Done (q : LlProgram) (args : List (List ℕ)) (c : Counts) (g : Ghost) (own : Value → ℕ) (from : State) (to : List (Option Block) → List Block → State) : Type 0 where
  pub later : Ghost
  pub blocks : List (Option Block)
  pub same : (b : ℕ) → bare_at later.blocks b ≡ bare_at g.blocks b
  pub same_statics : (s : ℕ) → as_first (fixed_at later.statics s) ≡ as_first (fixed_at g.statics s)
  pub size : length later.blocks ≡ length g.blocks
  pub size_statics : length later.statics ≡ length g.statics
  pub inners : (r : Value) → inner c later.blocks r ≤ inner c g.blocks r
  pub counted : IsCounted q c later own
  pub shown : Shown c blocks later.blocks
  pub leads : Leads q args from (to blocks (map shown_fixed later.statics))

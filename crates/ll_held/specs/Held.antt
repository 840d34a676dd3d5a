-- The blocks that a state holds: those that can be reached from its roots, or from a block on a cycle. And how many references stand in
-- the roots and in such blocks.
use Rattle.std.specs.Prelude.{◌≡◌, ◌<◌, ℕ, suc, ◌+◌, ◌==◌, ◌&&◌, not, Bool, true, false, cond, List, [], ◌∷◌, ◌++◌, slice_index_or, Option, Some, None}
use Rattle.csub_tree.specs.State.{Value, Ptr, Static, Block}

-- ---- references

-- how often the block stands among these values
abbrev pub is_block : ℕ → Value → Bool
is_block b (Ptr n) = n == b
is_block b other = false

abbrev pub times : ℕ → List Value → ℕ
times b [] = 0
times b (value ∷ values) = cond (is_block b value) (suc (times b values)) (times b values)

-- references lead to blocks and to statics
abbrev pub is_reference : Value → Bool
is_reference (Ptr n) = true
is_reference (Static g) = true
is_reference other = false

abbrev pub references : List Value → ℕ
references [] = 0
references (value ∷ values) = cond (is_reference value) (suc (references values)) (references values)

-- ---- blocks

abbrev pub cells : Option Block → List Value
cells None = []
cells (Some block) = block.fields ++ block.items

abbrev pub cells_at : List (Option Block) → ℕ → List Value
cells_at blocks n = cells (slice_index_or blocks n None)

-- a reference in the one block leads to the other
abbrev pub Refers : List (Option Block) → ℕ → ℕ → Type 0
Refers blocks a b = 0 < times b (cells_at blocks a)

-- one or more references lead from the one to the other
pub data Reaches (blocks : List (Option Block)) : ℕ → ℕ → Type 0 where
  Next : {a b : ℕ} → Refers blocks a b → Reaches blocks a b
  Then : {a b c : ℕ} → Refers blocks a b → Reaches blocks b c → Reaches blocks a c

pub data Held (blocks : List (Option Block)) (roots : List Value) : ℕ → Type 0 where
  Root : {b : ℕ} → 0 < times b roots → Held blocks roots b
  Cycle : {b : ℕ} → Reaches blocks b b → Held blocks roots b
  From : {a b : ℕ} → Held blocks roots a → Refers blocks a b → Held blocks roots b

-- ---- how many

abbrev pub is_new : ℕ → List ℕ → Bool
is_new b [] = true
is_new b (c ∷ cs) = not (b == c) && is_new b cs

abbrev pub are_distinct : List ℕ → Bool
are_distinct [] = true
are_distinct (b ∷ bs) = is_new b bs && are_distinct bs

abbrev pub AllHeld : List (Option Block) → List Value → List ℕ → Type 0
AllHeld blocks roots [] = Unit {0}
AllHeld blocks roots (b ∷ bs) = Held blocks roots b × AllHeld blocks roots bs

-- the references in these blocks
abbrev pub references_in : List (Option Block) → List ℕ → ℕ
references_in blocks [] = 0
references_in blocks (b ∷ bs) = references (cells_at blocks b) + references_in blocks bs

-- fewer than so many references stand in the roots and in the blocks that are held
abbrev pub IsBelow : ℕ → List (Option Block) → List Value → Type 0
IsBelow most blocks roots = (bs : List ℕ) → are_distinct bs ≡ true → AllHeld blocks roots bs → references roots + references_in blocks bs < most

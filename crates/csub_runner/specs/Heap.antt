-- The blocks by number, whatever their keys in the slab are.
use Rattle.std.specs.Prelude.{◌≡◌, ◌==◌, ℕ, zero, suc, ◌+◌, ◌<◌, List, [], ◌∷◌, Option, Some, None, cond, Bool, true, false, IsSome, slice_set, ℤ, pos, negsuc, nat_lt}
use Rattle.std.specs.List.{All}
use Rattle.slab.specs.Slab.{get}
use Rattle.csub_tree.specs.State.{Value, Block}
use Rattle.csub_runner.specs.Erased.{erase_cells}
use Rattle.csub_runner.specs.declared.heap.Heap.{Heap}
use Rattle.csub_runner.specs.declared.heap.Entry.{Entry}
use Rattle.csub_runner.specs.declared.val.Cells.{Cells}
use Rattle.csub_runner.specs.declared.val.Ptr.{Ptr}
use Rattle.csub_runner.specs.declared.val.Val.{Val}
use Rattle.csub_runner.specs.declared.val.Val.TheVariants.{Unset as RawUnset, Word as RawWord, Byte as RawByte, Flag as RawFlag, Fun as RawFun, Null as RawNull, Ptr as RawPtr, Static as RawStatic}

-- the block of this number, in these slots
unfoldable pub find : ℕ → List (Option Entry) → Option Block
find number [] = None
find number (None ∷ slots) = find number slots
find number (Some entry ∷ slots) = cond (entry.number == number) (Some (erase_cells entry.cells)) (find number slots)

-- the first so many numbers from i on, each with f
unfoldable pub table : {X : Type 0} → (ℕ → X) → ℕ → ℕ → List X
table f i zero = []
table f i (suc n) = f i ∷ table f (i + 1) n

-- the blocks by number, none where one is gone
abbrev pub blocks_of : Heap → List (Option Block)
blocks_of heap = table (λ n. find n heap.slots.slots) 0 heap.made

-- at this key stands a block of this number
pub record StandsAt (heap : Heap) (key number : ℕ) (entry : Entry) : Type 0 where
  pub there : get heap.slots key ≡ Some entry
  pub has : entry.number ≡ number

-- the pointer is of a block that was made, and where that block is allocated it stands at the pointer's key
pub record PtrOk (heap : Heap) (ptr : Ptr) : Type 0 where
  pub made : ptr.number < heap.made
  pub stands : (key : ℕ) (e : Entry) → StandsAt heap key ptr.number e → key ≡ ptr.key

abbrev pub ValOk : Heap → Val → Type 0
ValOk heap RawUnset = Unit {0}
ValOk heap (RawWord n) = Unit {0}
ValOk heap (RawByte n) = Unit {0}
ValOk heap (RawFlag b) = Unit {0}
ValOk heap (RawFun f) = Unit {0}
ValOk heap RawNull = Unit {0}
ValOk heap (RawPtr ptr) = PtrOk heap ptr
ValOk heap (RawStatic g) = Unit {0}

pub record CellsOk (heap : Heap) (cells : Cells) : Type 0 where
  pub fields : All (ValOk heap) cells.fields.items
  pub elements : All (ValOk heap) cells.elements.items

-- no number stands twice, each is of a block that was made, and the cells are ok
pub record IsSound (heap : Heap) : Type 0 where
  pub once : (k j n : ℕ) (e f : Entry) → StandsAt heap k n e → StandsAt heap j n f → k ≡ j
  pub below : (k n : ℕ) (e : Entry) → StandsAt heap k n e → n < heap.made
  pub cells : (k n : ℕ) (e : Entry) → StandsAt heap k n e → CellsOk heap e.cells

abbrev pub Frees : Bool → ℕ → Option Block → List (Option Block) → List (Option Block) → Type 0
Frees true number block old new = IsSome block × (new ≡ slice_set old number None)
Frees false number block old new = (block ≡ None) × (new ≡ old)

abbrev pub with_field : ℕ → Value → Block → Block
with_field at value block = record block { fields = slice_set block.fields at value }

abbrev pub with_item : ℕ → Value → Block → Block
with_item at value block = record block { items = slice_set block.items at value }

-- whether the pointer's block stands at its key
abbrev pub IsLive : Bool → Heap → Ptr → Type 0
IsLive true heap ptr = (e : Entry) × StandsAt heap ptr.key ptr.number e
IsLive false heap ptr = (e : Entry) → StandsAt heap ptr.key ptr.number e → ⊥

-- where true, there is a block, and it is of this very struct
abbrev pub HasKind : Bool → ℕ → Option Block → Type 0
HasKind true kind block = (there : Block) × (block ≡ Some there) × (there.kind ≡ kind)
HasKind false kind block = Unit {0}

-- f was done to the static of this number, where there is one
abbrev pub at_static : (Block → Block) → ℕ → List Block → List Block
at_static f number [] = []
at_static f zero (block ∷ blocks) = f block ∷ blocks
at_static f (suc number) (block ∷ blocks) = block ∷ at_static f number blocks

-- an index from 0 on and below a length
abbrev pub index_at : ℤ → ℕ → Option ℕ
index_at (pos i) len = cond (nat_lt i len) (Some i) None
index_at (negsuc i) len = None

-- The entries of a list of blocks, of which some are marked as gone.
use Rattle.std.specs.Prelude.{◌≡◌, ℕ, zero, suc, Bool, true, false, cond, List, [], ◌∷◌}
use Rattle.rpy_base.specs.declared.watch.Entry.{Entry}
use Rattle.rpy_base.specs.Watching.{Block, is_live}

-- the blocks that are live
abbrev pub live_blocks : List Entry → List Block
live_blocks [] = []
live_blocks (e ∷ es) = cond e.live ((e.number, e.kind, e.cells) ∷ live_blocks es) (live_blocks es)

-- whether no two blocks have one number
abbrev pub is_distinct : List Block → Bool
is_distinct [] = true
is_distinct (block ∷ blocks) = cond (is_live block.0 blocks) false (is_distinct blocks)

-- the entry at a place is the live block of a number
abbrev pub IsEntryAt : ℕ → List Entry → ℕ → Type 0
IsEntryAt number [] at = ⊥
IsEntryAt number (e ∷ es) zero = (e.live ≡ true) × (e.number ≡ number)
IsEntryAt number (e ∷ es) (suc at) = IsEntryAt number es at

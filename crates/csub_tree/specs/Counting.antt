-- Counted blocks: the first word of each allocated block counts the references to it.
use Rattle.std.specs.Prelude.{◌≡◌, ℕ, ◌+◌, pos, ◌≤ℤ◌, List, [], ◌∷◌, sum_by, count_by, slice_get, slice_index_or, Option, Some, None, Bool, false, ◌==◌}
use Rattle.csub_tree.specs.State.{Value, Word, Ptr, Block, Core, Event}
use Rattle.csub_tree.specs.Machine.{stmt_at, start}
use Rattle.csub_tree.specs.Meaning.{run, Ended, Unfinished, Ending}
use Rattle.csub_tree.specs.declared.tree.CFile.{CFile}
use Rattle.csub_tree.specs.declared.tree.COperand.{COperand}
use Rattle.csub_tree.specs.declared.tree.CStmt.TheVariants.{Step}

abbrev pub is_to : ℕ → Value → Bool
is_to number (Ptr n) = n == number
is_to number other = false

-- how many of the values hold the block
abbrev pub holders : ℕ → List Value → ℕ
holders number values = count_by (is_to number) values

abbrev pub holders_in : ℕ → Option Block → ℕ
holders_in number None = 0
holders_in number (Some block) = holders number block.fields + holders number block.items

-- the fields and items of allocated blocks, and the exception slots, that hold the block
abbrev pub inner : Core → ℕ → ℕ
inner core number = sum_by (holders_in number) core.blocks + holders number (core.exc_type ∷ core.exc_value ∷ [])

-- the variables of all calls that hold it
abbrev pub outer : Core → ℕ → ℕ
outer core number = holders number core.vars + sum_by (λ c. holders number c.vars) core.callers

abbrev pub IsCount : ℕ → ℕ → Option Value → Type 0
IsCount inside outside (Some (Word n)) = (pos inside ≤ℤ n) × (n ≤ℤ pos (inside + outside))
IsCount inside outside other = ⊥

-- each allocated block has a count that is at least what holds it inside, and no more than that and the variables together
abbrev pub IsCounted : Core → Type 0
IsCounted core = (number : ℕ) → (block : Block) → slice_index_or core.blocks number None ≡ Some block → IsCount (inner core number) (outer core number) (slice_get block.fields 0)

-- a run is counted at each payment of steps that it comes to, and at its ending
pub record RunIsCounted (file : CFile) (args : List (List ℕ)) (steps : ℕ) : Type 0 where
  pub at_steps : (k : ℕ) (core : Core) (text : List ℕ) (events : List Event) (x : COperand)
      → run file args k (start file steps) [] [] ≡ Unfinished core text events → stmt_at file.functions core ≡ Some (Step x) → IsCounted core
  pub at_end : (k : ℕ) (ending : Ending) (core : Core) (text : List ℕ) (events : List Event)
      → run file args k (start file steps) [] [] ≡ Ended ending core text events → IsCounted core

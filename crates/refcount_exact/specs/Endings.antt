-- What is left of the blocks of a counted program where its run ends.
use Rattle.std.specs.Prelude.{◌≡◌, ◌<◌, ℕ, pos, List, length, slice_index_or, Some, None}
use Rattle.csub_tree.specs.State.{Word, Null, Block, Core}
use Rattle.csub_tree.specs.Statement.{read}
use Rattle.ll_code.specs.State.{State}
use Rattle.ll_code.specs.Meaning.{Meant}
use Rattle.ll_code.specs.declared.program.LlProgram.{LlProgram}
use Rattle.ll_held.specs.Held.{Held, Reaches}
use Rattle.ll_held.specs.Roots.{roots, core_of}
use Rattle.ll_events.specs.Told.{often, TellOf, EndsAt}
use Rattle.refcount_transform.specs.Counted.{counted}
use Rattle.refcount_laws.specs.Means.{SameMeaning}
use Rattle.refcount_exact.specs.Exact.{inner, IsExact}

-- the counted program ends the same way, at a state in which its counts are exact and of which the blocks that it made and those that are
-- gone tell; and each block that is not gone is held in the program, in the state at which that ends
pub record EndsHolding (p : LlProgram) (args : List (List ℕ)) (steps : ℕ) (s : State) (m : Meant) : Type 0 where
  pub same : SameMeaning p args steps m
  pub last : State
  pub ends : EndsAt (counted p) args steps last same.other
  pub exact : IsExact last
  pub tells : TellOf (core_of last).blocks same.other.made same.other.gone
  pub held : (b : ℕ) → b < length same.other.made → often b same.other.gone ≡ 0 → Held (core_of s).blocks (roots p s) b

-- the counted program returns the same; no frame is left, and the count of each block that is there is the number of references to it
-- from blocks and exception slots
pub record ReturnsExact (p : LlProgram) (args : List (List ℕ)) (steps : ℕ) (m : Meant) : Type 0 where
  pub same : SameMeaning p args steps m
  pub last : State
  pub ends : EndsAt (counted p) args steps last same.other
  pub counts : (b : ℕ) (block : Block) → slice_index_or (core_of last).blocks b None ≡ Some block → read block.fields 0 ≡ Word (pos (inner (core_of last) b))

-- the counted program ends the same way, and each block that it made is among those gone, once
pub record EndsEmpty (p : LlProgram) (args : List (List ℕ)) (steps : ℕ) (m : Meant) : Type 0 where
  pub same : SameMeaning p args steps m
  pub gone : (b : ℕ) → b < length same.other.made → often b same.other.gone ≡ 1

-- the exception slots are clear, and no block lies on a cycle
pub record IsClear (core : Core) : Type 0 where
  pub kind : core.exc_type ≡ Null
  pub value : core.exc_value ≡ Null
  pub apart : (b : ℕ) → Reaches core.blocks b b → ⊥

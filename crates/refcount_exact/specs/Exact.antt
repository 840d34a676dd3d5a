-- When the counts of a state are exact: the first word of each block is the number of references to it from blocks and exception slots,
-- and of those that frames own, which stand in their variables.
use Rattle.std.specs.Prelude.{◌≡◌, ◌≤◌, ℕ, ◌+◌, pos, List, [], ◌∷◌, slice_index_or, Option, Some, None}
use Rattle.csub_tree.specs.State.{Word, Block, Core}
use Rattle.csub_tree.specs.Statement.{read}
use Rattle.ll_code.specs.State.{Frame, State, Calling, At, Returning, Throwing}
use Rattle.ll_code.specs.declared.program.LlProgram.{LlProgram}
use Rattle.ll_held.specs.Held.{times, cells}
use Rattle.ll_held.specs.Roots.{slots, core_of}
use Rattle.refcount_ready.specs.Programs.{ComesAlong}

-- how often the fields and items of blocks that are there hold this block
abbrev pub in_blocks : List (Option Block) → ℕ → ℕ
in_blocks [] b = 0
in_blocks (block ∷ blocks) b = times b (cells block) + in_blocks blocks b

-- and the exception slots
abbrev pub inner : Core → ℕ → ℕ
inner core b = in_blocks core.blocks b + times b (slots core)

-- how often the variables of the calls that wait hold it
abbrev pub in_frames : List Frame → ℕ → ℕ
in_frames [] b = 0
in_frames (frame ∷ frames) b = times b frame.vars + in_frames frames b

-- and those of the graph that runs, or what is given to a graph or by it
abbrev pub outer : State → ℕ → ℕ
outer (At ops exit frames core) b = times b core.vars + in_frames frames b
outer (Calling f values frames core) b = times b values + in_frames frames b
outer (Returning value frames core) b = times b (value ∷ []) + in_frames frames b
outer (Throwing value frames core) b = times b (value ∷ []) + in_frames frames b

-- the count of the block, and that it is right
pub record HasCount (t : State) (b : ℕ) (block : Block) : Type 0 where
  pub count : ℕ
  pub first : read block.fields 0 ≡ Word (pos count)
  pub least : inner (core_of t) b ≤ count
  pub most : count ≤ inner (core_of t) b + outer t b

abbrev pub IsExact : State → Type 0
IsExact t = (b : ℕ) (block : Block) → slice_index_or (core_of t).blocks b None ≡ Some block → HasCount t b block

-- the counted program has come to a state that stands for this one, and its counts there are exact
pub record ComesExact (p : LlProgram) (args : List (List ℕ)) (steps k : ℕ) (s : State) (text : List ℕ) : Type 0 where
  pub along : ComesAlong p args steps k s text
  pub exact : IsExact along.state

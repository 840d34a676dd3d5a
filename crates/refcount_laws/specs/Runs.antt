-- Runs of a counted program that free blocks on the way.
use Rattle.std.specs.Prelude.{◌≡◌, ◌+◌, ℕ, List, ◌++◌, map, Option}
use Rattle.csub_tree.specs.State.{Value, Block, Core, Event, Freed}
use Rattle.ll_code.specs.State.{State}
use Rattle.ll_code.specs.Meaning.{run}
use Rattle.ll_code.specs.declared.program.LlProgram.{LlProgram}

-- the second state comes so many steps after the first; nothing is put, and no block is made on the way, but some are freed
pub record Leads (q : LlProgram) (args : List (List ℕ)) (s later : State) : Type 0 where
  pub count : ℕ
  pub gone : List ℕ
  pub by : (k : ℕ) (text : List ℕ) (events : List Event) → run q args (k + count) s text events ≡ run q args k later text (events ++ map Freed gone)

-- a core whose graph stands there, with these variables and this memory
abbrev pub here : Core → ℕ → ℕ → ℕ → List Value → List (Option Block) → List Block → Core
here core f block at vars blocks statics = record core { function = f; block = block; at = at; vars = vars; blocks = blocks; statics = statics }

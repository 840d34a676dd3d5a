-- Programs whose blocks read their inputs alone.
use Rattle.std.specs.Prelude.{◌≡◌, ℕ, ◌&&◌, not, Bool, true, List, [], ◌∷◌, slice_get, Some}
use Rattle.ll_code.specs.declared.program.LlBlock.{LlBlock}
use Rattle.ll_code.specs.declared.program.LlGraph.{LlGraph}
use Rattle.ll_code.specs.declared.program.LlProgram.{LlProgram}
use Rattle.ll_live.specs.Live.{among}
use Rattle.ll_held.specs.Quiet.{ReadsInputs}
use Rattle.ll_leads.specs.Effect.{HandlersReadOthers}

-- the variables differ
abbrev pub are_apart : List ℕ → Bool
are_apart [] = true
are_apart (v ∷ vs) = not (among v vs) && are_apart vs

-- no variable is an input of a block twice
abbrev pub InputsAreApart : LlProgram → Type 0
InputsAreApart p = (f : ℕ) (graph : LlGraph) → slice_get p.graphs f ≡ Some graph → (n : ℕ) (block : LlBlock) → slice_get graph.blocks n ≡ Some block → are_apart block.inputs ≡ true

-- the inputs of the first block are parameters
abbrev pub BeginsWithParameters : LlProgram → Type 0
BeginsWithParameters p = (f : ℕ) (graph : LlGraph) → slice_get p.graphs f ≡ Some graph → (block : LlBlock) → slice_get graph.blocks 0 ≡ Some block → (v : ℕ) → among v block.inputs ≡ true → among v graph.params ≡ true

-- Each block reads its inputs alone, and what it sets itself; they are apart, and those of the first block of a graph are parameters. What catches the
-- exception of a call does not read the variable that takes its result.
pub record IsOrdered (p : LlProgram) : Type 0 where
  pub reads : ReadsInputs p
  pub apart : InputsAreApart p
  pub first : BeginsWithParameters p
  pub handlers : HandlersReadOthers p

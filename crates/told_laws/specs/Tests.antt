-- What is told of the graphs of a program can be read off their blocks.
use Rattle.std.specs.Prelude.{◌≡◌, ℕ, Bool, true, List, slice_get, Some, None}
use Rattle.ll_code.specs.declared.program.LlType.TheVariants as type
use Rattle.ll_code.specs.declared.program.LlExit.{LlExit}
use Rattle.ll_code.specs.declared.program.LlExit.TheVariants as exit
use Rattle.ll_code.specs.declared.program.LlBlock.{LlBlock}
use Rattle.ll_code.specs.declared.program.LlGraph.{LlGraph}
use Rattle.ll_code.specs.declared.program.LlProgram.{LlProgram}
use Rattle.throw_laws.specs.Pieces.{AreQuiet, NeverThrow}
use Rattle.throw_laws.specs.Ready.{GiveValues}

-- ---- graphs that never throw

abbrev pub RaisesNothing : LlExit → Type 0
RaisesNothing (exit.Raise a) = ⊥
RaisesNothing other = Unit {0}

-- a block raises nothing, and calls by their numbers, of graphs that are told so
pub record IsQuietBlock (quiet : ℕ → Bool) (block : LlBlock) : Type 0 where
  pub ops : AreQuiet quiet block.ops
  pub exit : RaisesNothing block.exit

abbrev pub AreClosed : LlProgram → (ℕ → Bool) → Type 0
AreClosed p quiet = (g : ℕ) (graph : LlGraph) → quiet g ≡ true → slice_get p.graphs g ≡ Some graph → (n : ℕ) (block : LlBlock) → slice_get graph.blocks n ≡ Some block → IsQuietBlock quiet block

-- Where each block of the graphs that are told not to raise is so, no exception comes out of a call of them.
abbrev pub QuietGraphsNeverThrow : Type 0
QuietGraphsNeverThrow = (p : LlProgram) (args : List (List ℕ)) (quiet : ℕ → Bool) → AreClosed p quiet → NeverThrow p args quiet

-- ---- graphs that give something

abbrev pub GivesSomething : LlExit → Type 0
GivesSomething (exit.Return None) = ⊥
GivesSomething other = Unit {0}

abbrev pub AlwaysGive : LlProgram → Type 0
AlwaysGive p = (g : ℕ) (graph : LlGraph) → slice_get p.graphs g ≡ Some graph → (graph.result ≡ type.Void → ⊥) → (n : ℕ) (block : LlBlock) → slice_get graph.blocks n ≡ Some block → GivesSomething block.exit

-- Where no graph with a result has a block that gives nothing back, what is given back by them is set.
abbrev pub GraphsGiveValues : Type 0
GraphsGiveValues = (p : LlProgram) (args : List (List ℕ)) → AlwaysGive p → GiveValues p args

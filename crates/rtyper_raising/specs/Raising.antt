-- Helpers that raise the exceptions of their failures, where those are covered.
use Rattle.std.specs.Prelude.{ℕ, ◌+◌, ◌==◌, Bool, List, [], ◌∷◌, ◌++◌, if◌then◌else◌, Option, Some, None, slice_get}
use Rattle.ll_code.specs.declared.program.LlOp.TheVariants as op
use Rattle.ll_code.specs.declared.program.LlExit.{LlExit}
use Rattle.ll_code.specs.declared.program.LlExit.TheVariants as exit
use Rattle.ll_code.specs.declared.program.LlBlock.{LlBlock}
use Rattle.ll_code.specs.declared.program.LlGraph.{LlGraph}
use Rattle.rpy_meaning.specs.declared.row.Covers.{Covers}
use Rattle.rtyper_data.specs.declared.found.Found.{Found}
use Rattle.rtyper_data.specs.declared.small.Small.TheVariants as small
use Rattle.rtyper_data.specs.Finding.{nothing, small_number}

abbrev pub if_covered : Bool → ℕ → Option ℕ
if_covered c class = if c then Some class else None

-- the class of a failure that is covered, by its number
abbrev pub class_of : ℕ → Covers → Option ℕ
class_of n c = if n == 1 then if_covered c.index 6 else (if n == 2 then if_covered c.zero 4 else (if n == 3 then if_covered c.number 8 else (if n == 4 then if_covered c.attribute 9 else None)))

abbrev pub failing_with : LlExit → Covers → Option ℕ
failing_with (exit.Fail n) c = class_of n c
failing_with _ c = None

-- a block that fails raises the exception of the failure before that
abbrev pub raising_block : LlBlock → Option ℕ → Found → LlBlock × Found
raising_block block None found = (block, found)
raising_block block (Some class) found = (record block { ops = block.ops ++ op.Call None (small_number (small.Raise class) found).0 [] ∷ [] }, (small_number (small.Raise class) found).1)

abbrev pub with_block : LlBlock × Found → (Found → List LlBlock × Found) → List LlBlock × Found
with_block made rest = (made.0 ∷ (rest made.1).0, (rest made.1).1)

abbrev pub raising_blocks : Covers → List LlBlock → Found → List LlBlock × Found
raising_blocks c [] found = ([], found)
raising_blocks c (block ∷ blocks) found = with_block (raising_block block (failing_with block.exit c) found) (λ next. raising_blocks c blocks next)

abbrev pub raising_graph : Covers → LlGraph → Found → LlGraph
raising_graph c graph found = record graph { blocks = (raising_blocks c graph.blocks found).0 }

-- ---- the graphs of helpers, each with the failures that it was asked for to raise

abbrev pub covers_of : Option Covers → Covers
covers_of None = nothing
covers_of (Some c) = c

abbrev pub caught_at : Found → ℕ → Covers
caught_at found n = covers_of (slice_get found.caught n)

abbrev pub with_graph : Covers → LlGraph → Found → (Found → List LlGraph × Found) → List LlGraph × Found
with_graph c graph found rest = (raising_graph c graph found ∷ (rest (raising_blocks c graph.blocks found).1).0, (rest (raising_blocks c graph.blocks found).1).1)

-- from the n-th on
abbrev pub raising_graphs : ℕ → List LlGraph → Found → List LlGraph × Found
raising_graphs n [] found = ([], found)
raising_graphs n (graph ∷ graphs) found = with_graph (caught_at found n) graph found (λ next. raising_graphs (n + 1) graphs next)

-- ---- the classes of what a graph raises

abbrev pub with_class : Option ℕ → List ℕ → List ℕ
with_class None classes = classes
with_class (Some class) classes = class ∷ classes

abbrev pub raised_in : Covers → List LlBlock → List ℕ
raised_in c [] = []
raised_in c (block ∷ blocks) = with_class (failing_with block.exit c) (raised_in c blocks)

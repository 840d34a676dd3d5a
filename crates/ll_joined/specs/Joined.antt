-- Straight ways as single blocks, and the whole program.
use Rattle.std.specs.Prelude.{ℕ, zero, suc, ◌+◌, ◌==◌, ◌&&◌, ◌||◌, not, Bool, cond, List, [], ◌∷◌, ◌++◌, length, map, slice_get, Option, Some, None}
use Rattle.csub_tree.specs.declared.tree.COperand.{COperand}
use Rattle.csub_tree.specs.declared.tree.COperand.TheVariants.{Var, Const}
use Rattle.ll_code.specs.declared.program.LlType.{LlType}
use Rattle.ll_code.specs.declared.program.LlLink.{LlLink}
use Rattle.ll_code.specs.declared.program.LlOp.{LlOp}
use Rattle.ll_code.specs.declared.program.LlOp.TheVariants as op
use Rattle.ll_code.specs.declared.program.LlExit.{LlExit}
use Rattle.ll_code.specs.declared.program.LlExit.TheVariants as exit
use Rattle.ll_code.specs.declared.program.LlBlock.{LlBlock}
use Rattle.ll_code.specs.declared.program.LlGraph.{LlGraph}
use Rattle.ll_code.specs.declared.program.LlProgram.{LlProgram}
use Rattle.ll_joined.specs.declared.count.Counts.{Counts}
use Rattle.ll_joined.specs.declared.join.Way.{Way}
use Rattle.ll_joined.specs.Named.{Naming, ByPairs, ByPlaces, name_of, named, exit_by}
use Rattle.ll_joined.specs.Counted.{has, one_more, counts_of, follows, taken_in}
use Rattle.ll_joined.specs.Marked.{marks_of}
use Rattle.ll_joined.specs.Copied.{without_copies}

-- ---- one block with those that follow at once

-- what the inputs of the next block are called
abbrev pub pairs_of : Naming → List ℕ → List COperand → List (ℕ × ℕ)
pairs_of names (v ∷ inputs) (Var w ∷ xs) = (v, name_of names w) ∷ pairs_of names inputs xs
pairs_of names (v ∷ inputs) (Const c ∷ xs) = pairs_of names inputs xs
pairs_of names inputs xs = []

-- one that is a constant is set
abbrev pub constants_of : List ℕ → List COperand → List LlOp
constants_of (v ∷ inputs) (Var w ∷ xs) = constants_of inputs xs
constants_of (v ∷ inputs) (Const c ∷ xs) = op.Set v (Const c) ∷ constants_of inputs xs
constants_of inputs xs = []

-- where a way ends, with what was taken in, or goes on at the next block
pub data Went : Type 0 where
  Ends : (ops : List LlOp) → (e : LlExit) → Went
  On : (way : Way) → Went

abbrev pub inputs_of : Option LlBlock → List ℕ
inputs_of None = []
inputs_of (Some block) = block.inputs

-- what stands in the block is taken in
abbrev pub past : Way → LlBlock → Way
past way block = record way { ops = way.ops ++ map (named (ByPairs way.pairs)) block.ops }

-- the way goes on by the link
abbrev pub onto : Way → LlLink → List ℕ → Way
onto way link inputs = record { ops = way.ops ++ constants_of inputs link.args; pairs = pairs_of (ByPairs way.pairs) inputs link.args; at = link.to }

abbrev pub goes_by : List LlBlock → Way → LlBlock → Option LlLink → Went
goes_by blocks way block None = Ends (past way block).ops (exit_by (ByPairs way.pairs) [] block.exit)
goes_by blocks way block (Some link) = On (onto (past way block) link (inputs_of (slice_get blocks link.to)))

abbrev pub goes_at : List LlBlock → Counts → Way → Option LlBlock → Went
goes_at blocks counts way None = Ends way.ops (exit.Fail 4)
goes_at blocks counts way (Some block) = goes_by blocks way block (follows blocks counts block.exit)

abbrev pub goes_on : List LlBlock → Counts → Way → Went
goes_on blocks counts way = goes_at blocks counts way (slice_get blocks way.at)

-- what was found where the way went on, or its end
abbrev pub went : Way → Option LlExit → Went
went way None = On way
went way (Some e) = Ends way.ops e

abbrev pub then_on : (Way → List LlOp × LlExit) → Went → List LlOp × LlExit
then_on go (Ends ops e) = (ops, e)
then_on go (On way) = go way

-- the operations and the exit of a way, of so many blocks at most
unfoldable pub way_from : List LlBlock → Counts → ℕ → Way → List LlOp × LlExit
way_from blocks counts zero way = (way.ops, exit.Fail 4)
way_from blocks counts (suc most) way = then_on (way_from blocks counts most) (goes_on blocks counts way)

abbrev pub way_at : ℕ → Way
way_at i = record { ops = []; pairs = []; at = i }

abbrev pub block_of : List ℕ → List LlOp × LlExit → LlBlock
block_of inputs body = record { inputs = inputs; ops = body.0; exit = body.1 }

abbrev pub joined_block : List LlBlock → Counts → ℕ → LlBlock
joined_block blocks counts i = block_of (inputs_of (slice_get blocks i)) (way_from blocks counts (length blocks) (way_at i))

-- ---- which blocks stay

-- the first one, and each to which a link leads and that no other takes in
abbrev pub stays : Counts → List ℕ → ℕ → Bool
stays counts taken i = (i == 0) || (not (has 0 i counts.to) && has 0 i taken)

abbrev pub block_if : Bool → LlBlock → List LlBlock
block_if stays block = cond stays (block ∷ []) []

abbrev pub joined_from : List LlBlock → Counts → List ℕ → ℕ → List LlBlock → List LlBlock
joined_from all counts taken i [] = []
joined_from all counts taken i (block ∷ blocks) = block_if (stays counts taken i) (joined_block all counts i) ++ joined_from all counts taken (i + 1) blocks

abbrev pub joined_blocks : List LlBlock → Counts → List ℕ → List LlBlock
joined_blocks blocks counts taken = joined_from blocks counts taken 0 blocks

-- ---- numbers

abbrev pub next_if : Bool → ℕ → ℕ
next_if stays next = cond stays (one_more next) next

abbrev pub numbers_from : Counts → List ℕ → ℕ → ℕ → List ℕ → List ℕ
numbers_from counts taken next i [] = []
numbers_from counts taken next i (n ∷ rest) = next ∷ numbers_from counts taken (next_if (stays counts taken i) next) (i + 1) rest

-- for each block the number that it has among those that stay
abbrev pub numbers_of : Counts → List ℕ → List ℕ
numbers_of counts taken = numbers_from counts taken 0 0 taken

abbrev pub places_from : ℕ → List ℕ → List ℕ
places_from next [] = []
places_from next (n ∷ named) = next ∷ places_from (next_if (not (n == 0)) next) named

-- for each variable the number that it has among those that are named
abbrev pub places_of : List ℕ → List ℕ
places_of named = places_from 0 named

abbrev pub type_if : Bool → LlType → List LlType
type_if is_left_out t = cond is_left_out [] (t ∷ [])

abbrev pub types_from : List ℕ → ℕ → List LlType → List LlType
types_from named i [] = []
types_from named i (t ∷ types) = type_if (has 0 i named) t ++ types_from named (i + 1) types

-- the types of the variables that are named
abbrev pub types_of : List ℕ → List LlType → List LlType
types_of named types = types_from named 0 types

abbrev pub block_by : Naming → List ℕ → LlBlock → LlBlock
block_by names numbers block = record { inputs = map (name_of names) block.inputs; ops = map (named names) block.ops; exit = exit_by names numbers block.exit }

-- ---- graphs and programs

-- straight ways are single blocks, whose links have the numbers of before
abbrev pub ways_by : List LlBlock → Counts → List LlBlock
ways_by blocks counts = joined_blocks blocks counts (taken_in blocks counts)

abbrev pub ways_of : LlGraph → List LlBlock
ways_of graph = ways_by graph.blocks (counts_of (length graph.types) graph.blocks)

-- .. without copies
abbrev pub plain_ways : List ℕ → List LlType → List LlBlock → List LlBlock
plain_ways params types ways = without_copies types (counts_of (length types) ways) (marks_of (length types) params ways) ways

-- .. with variables and blocks numbered anew
abbrev pub numbered : LlGraph → List ℕ → List ℕ → List LlBlock → LlGraph
numbered graph named_times numbers blocks = record {
  name = graph.name;
  params = map (name_of (ByPlaces (places_of named_times))) graph.params;
  result = graph.result;
  types = types_of named_times graph.types;
  blocks = map (block_by (ByPlaces (places_of named_times)) numbers) blocks;
}

abbrev pub numbers_in : List LlBlock → Counts → List ℕ
numbers_in blocks counts = numbers_of counts (taken_in blocks counts)

abbrev pub joined_by : LlGraph → List LlBlock → LlGraph
joined_by graph blocks = numbered graph (marks_of (length graph.types) graph.params blocks).named (numbers_in graph.blocks (counts_of (length graph.types) graph.blocks)) blocks

unfoldable pub joined_graph : LlGraph → LlGraph
joined_graph graph = joined_by graph (plain_ways graph.params graph.types (ways_of graph))

abbrev pub joined : LlProgram → LlProgram
joined program = record program { graphs = map joined_graph program.graphs }

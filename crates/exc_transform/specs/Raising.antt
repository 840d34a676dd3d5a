-- Which graphs may raise an exception.
use Rattle.std.specs.Prelude.{◌&&◌, ◌||◌, not, Bool, true, false, cond, List, [], ◌∷◌, map, Some}
use Rattle.ll_code.specs.declared.program.LlOp.{LlOp}
use Rattle.ll_code.specs.declared.program.LlOp.TheVariants as op
use Rattle.ll_code.specs.declared.program.LlExit.{LlExit}
use Rattle.ll_code.specs.declared.program.LlExit.TheVariants as exit
use Rattle.ll_code.specs.declared.program.LlBlock.{LlBlock}
use Rattle.ll_code.specs.declared.program.LlGraph.{LlGraph}
use Rattle.exc_transform.specs.Explicit.{is_tested}

-- ---- operations and exits, where these graphs are marked, and any is

abbrev pub may_raise : List Bool → Bool → LlOp → Bool
may_raise marks any (op.Raise a) = true
may_raise marks any other = is_tested marks any other

-- the exit catches what the last operation before it raises
abbrev pub catches : LlExit → Bool
catches (exit.OnRaise a (Some by) without) = true
catches other = false

abbrev pub is_last : List LlOp → Bool
is_last [] = true
is_last (o ∷ ops) = false

-- an exception leaves by an operation
abbrev pub ops_leave : List Bool → Bool → List LlOp → LlExit → Bool
ops_leave marks any [] exit = false
ops_leave marks any (o ∷ ops) exit = (may_raise marks any o && not (is_last ops && catches exit)) || ops_leave marks any ops exit

abbrev pub exit_leaves : LlExit → Bool
exit_leaves (exit.Raise a) = true
exit_leaves other = false

abbrev pub blocks_leave : List Bool → Bool → List LlBlock → Bool
blocks_leave marks any [] = false
blocks_leave marks any (block ∷ blocks) = (exit_leaves block.exit || ops_leave marks any block.ops block.exit) || blocks_leave marks any blocks

abbrev pub some_raises : List Bool → Bool → List LlOp → Bool
some_raises marks any [] = false
some_raises marks any (o ∷ ops) = may_raise marks any o || some_raises marks any ops

-- some block raises, caught or not
abbrev pub raises_within : List Bool → Bool → List LlBlock → Bool
raises_within marks any [] = false
raises_within marks any (block ∷ blocks) = (exit_leaves block.exit || some_raises marks any block.ops) || raises_within marks any blocks

-- ---- the marks

abbrev pub any_marked : List Bool → Bool
any_marked [] = false
any_marked (b ∷ marks) = b || any_marked marks

-- those that may raise where these do
abbrev pub marked_by : List LlGraph → List Bool → List Bool
marked_by graphs marks = map (λ graph. blocks_leave marks (any_marked marks) graph.blocks) graphs

abbrev pub same_mark : Bool → Bool → Bool
same_mark true b = b
same_mark false b = not b

abbrev pub same_marks : List Bool → List Bool → Bool
same_marks [] [] = true
same_marks (a ∷ marks) (b ∷ others) = same_mark a b && same_marks marks others
same_marks marks others = false

-- a round for each of these graphs, up to one that marks no more; if none is such a round, each graph is marked
abbrev pub settled : List LlGraph → List LlGraph → List Bool → List Bool
settled graphs [] marks = map (λ graph. true) graphs
settled graphs (round ∷ rounds) marks = cond (same_marks (marked_by graphs marks) marks) (marked_by graphs marks) (settled graphs rounds (marked_by graphs marks))

-- each round but the last marks one more
abbrev pub raising_graphs : List LlGraph → List Bool
raising_graphs graphs = settled graphs graphs (map (λ graph. false) graphs)

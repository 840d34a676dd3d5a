-- Which variables of a graph are known to be set, while its blocks are read one after the other: those that bear the number of the block.
use Rattle.std.specs.Prelude.{ℕ, ◌+◌, ◌==◌, ◌&&◌, not, nat_lt, Bool, true, false, List, [], ◌∷◌, length, slice_get, slice_set, Option, Some, None}
use Rattle.ll_code.specs.declared.program.LlOp.{LlOp}
use Rattle.ll_code.specs.declared.program.LlType.{LlType}
use Rattle.ll_code.specs.declared.program.LlExit.{LlExit}
use Rattle.ll_code.specs.declared.program.LlExit.TheVariants as exit
use Rattle.ll_code.specs.declared.program.LlBlock.{LlBlock}
use Rattle.ll_code.specs.declared.program.LlGraph.{LlGraph}
use Rattle.ll_live.specs.Live.{reads, set_by, exit_variables}
use Rattle.refcount_checks.specs.declared.watch.Watch.{Watch}

abbrev pub is_now : Option ℕ → ℕ → Bool
is_now None n = false
is_now (Some m) n = m == n

abbrev pub is_known : Watch → ℕ → Bool
is_known w v = is_now (slice_get w.marks v) w.block

abbrev pub and_so : Bool → Watch → Watch
and_so b w = record { block = w.block; marks = w.marks; ok = w.ok && b }

-- it is set
abbrev pub learn : ℕ → Watch → Watch
learn v w = record { block = w.block; marks = slice_set w.marks v w.block; ok = w.ok }

abbrev pub learn_if : Option ℕ → Watch → Watch
learn_if None w = w
learn_if (Some v) w = learn v w

-- these are read
abbrev pub ask : List ℕ → Watch → Watch
ask [] w = w
ask (v ∷ vs) w = ask vs (and_so (is_known w v) w)

-- these are inputs, each once
abbrev pub enter : List ℕ → Watch → Watch
enter [] w = w
enter (v ∷ vs) w = enter vs (learn v (and_so (nat_lt v (length w.marks) && not (is_known w v)) w))

abbrev pub run_ops : List LlOp → Watch → Watch
run_ops [] w = w
run_ops (o ∷ ops) w = run_ops ops (learn_if (set_by o) (ask (reads o) w))

-- no exception is caught
abbrev pub catches_none : LlExit → Bool
catches_none (exit.OnRaise a by without) = false
catches_none other = true

-- nothing is known yet
abbrev pub next : Watch → Watch
next w = record { block = w.block + 1; marks = w.marks; ok = w.ok }

abbrev pub run_block : LlBlock → Watch → Watch
run_block block w = and_so (catches_none block.exit) (ask (exit_variables block.exit) (run_ops block.ops (enter block.inputs (next w))))

abbrev pub run_blocks : List LlBlock → Watch → Watch
run_blocks [] w = w
run_blocks (block ∷ blocks) w = run_blocks blocks (run_block block w)

abbrev pub none_set : List LlType → List ℕ
none_set [] = []
none_set (t ∷ ts) = 0 ∷ none_set ts

abbrev pub begin : List LlType → Watch
begin types = record { block = 0; marks = none_set types; ok = true }

abbrev pub graph_reads_known : LlGraph → Bool
graph_reads_known graph = (run_blocks graph.blocks (begin graph.types)).ok

abbrev pub graphs_read_known : List LlGraph → Bool
graphs_read_known [] = true
graphs_read_known (graph ∷ graphs) = graph_reads_known graph && graphs_read_known graphs

-- The blocks of a function's graph read their own variables alone.
use Rattle.std.proofs.Common.{◌≡◌, ℕ, ◌+◌, ◌<◌, false, List, length, Option, Some, None, is_some, refl, ap, subst, arith}
use Rattle.std.specs.Prelude.{slice_get}
use Rattle.std.proofs.lemmas.Option.{slice_get_within}
use Rattle.std.proofs.lemmas.Bool.{false≢true}
use Rattle.rpy_meaning.specs.Tree as meaning
use Rattle.rpy_meaning.specs.declared.row.RowOp.TheVariants as row
use Rattle.flow_graph.specs.declared.graph.Block.{Block as Code}
use Rattle.flow_graph.specs.declared.graph.Graph.{Graph}
use Rattle.flow_graph.specs.declared.graph.Graphs.{Graphs}
use Rattle.flow_meaning.specs.Machine.{block_in}
use Rattle.flow_stands.specs.Places.{Go, Plain, GiveBack, GiveUp, first, first_and}
use Rattle.flow_stands.specs.Stands.{return_block, never_block, no_try, outside}
use Rattle.flow_trees.specs.Tree.{Function}
use Rattle.flow_trees.specs.Marks as marks
use Rattle.flow_trees.specs.Marks.{blocks_of}
use Rattle.flow_reads.specs.Reads.{ReadsOwn}
use Rattle.flow_reads.proofs.Below.{first_below, and_below}
use Rattle.flow_reads.proofs.Ranges as ranges
use Rattle.flow_reads.proofs.Walk as walk

is_within : (graph : Option Graph) (b : ℕ) (code : Code) → block_in graph b ≡ Some code → b < length (blocks_of graph)
is_within None b code is = absurd (false≢true (ap is_some is))
is_within (Some graph) b code is = slice_get_within graph.blocks b code is

function_reads : (p : meaning.Program) (gs : Graphs) (f : ℕ) (function : Function) → marks.HasFunction p gs f function → ranges.AllOwn gs f 0 (length (blocks_of (slice_get gs.graphs f)))
function_reads p gs f function h =
    let n = function.locals in
    ranges.join gs f (walk.block p gs f n 0 n (Go (first h.0 n)) (first_below n n (omega arith)) (h.2, (refl, refl)))
    (ranges.join gs f (walk.block p gs f n 1 1 GiveBack (omega arith) (h.3, (refl, refl)))
    (ranges.join gs f (walk.block p gs f n 2 1 GiveUp (omega arith) (h.4, (refl, refl)))
    (ranges.join gs f (walk.block p gs f n 3 0 (Go (first never_block 0)) tt (h.5, (refl, refl)))
    (ranges.join gs f (walk.marked p gs f n 4 n function.node false (Plain row.None (first_and return_block 0 n)) (and_below 0 n (n + 1) (omega arith) (omega arith)) h.6)
    (walk.lines p gs f n no_try function.body h.0 n (outside n) 5 (length (blocks_of (slice_get gs.graphs f)))
    (record { locals = omega arith; default = omega arith; hands = tt }) (omega arith, omega arith, omega arith) h.7)))))

pub block_reads : (program : meaning.Program) (gs : Graphs) (functions : List Function) → marks.Stand program gs functions → (f : ℕ) (function : Function) → slice_get functions f ≡ Some function → (b : ℕ) (code : Code) → block_in (slice_get gs.graphs f) b ≡ Some code → ReadsOwn code
block_reads program gs functions stand f function is b code there =
    let all = function_reads program gs f function (subst (λ (x : Option Function). marks.IfFunction program gs f x) is (stand f)) in
    all.own b (omega arith) (is_within (slice_get gs.graphs f) b code there) code there

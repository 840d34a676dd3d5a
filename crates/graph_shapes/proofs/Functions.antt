-- Each block of a function's graph is good.
use Rattle.std.proofs.Common.{◌≡◌, ℕ, ◌+◌, ◌<◌, false, length, Option, Some, None, is_some, refl, ap, ◌∙◌, subst, arith}
use Rattle.std.specs.Prelude.{slice_get, option_map}
use Rattle.std.proofs.lemmas.Option.{slice_get_within, slice_get-map}
use Rattle.std.proofs.lemmas.Bool.{false≢true}
use Rattle.rpy_meaning.specs.Tree as meaning
use Rattle.rpy_meaning.specs.declared.row.RowOp.TheVariants as row
use Rattle.rpy_resolved.specs.declared.tree.Resolved.{Resolved}
use Rattle.resolved_meaning.specs.Trees.{program_of}
use Rattle.flow_graph.specs.declared.graph.Block.{Block as Code}
use Rattle.flow_graph.specs.declared.graph.Graph.{Graph}
use Rattle.flow_graph.specs.declared.graph.Graphs.{Graphs}
use Rattle.flow_meaning.specs.Machine.{block_in}
use Rattle.flow_stands.specs.Places.{Go, Plain, GiveBack, GiveUp, first, first_and}
use Rattle.flow_stands.specs.Stands.{return_block, raise_block, never_block, no_try, outside}
use Rattle.flow_trees.specs.Tree.{Function}
use Rattle.flow_trees.specs.Marks as marks
use Rattle.flow_trees.specs.Marks.{blocks_of}
use Rattle.flow_space.specs.Placed.{NodesAt}
use Rattle.flow_space.specs.Trees.{function_of, functions_of}
use Rattle.graph_shapes.proofs.Parts as parts
use Rattle.graph_shapes.proofs.Walk as walk

pub function_good : (p : meaning.Program) (gs : Graphs) (f : ℕ) (function : Function) → marks.HasFunction p gs f function → parts.AllGood gs f 0 (length (blocks_of (slice_get gs.graphs f)))
function_good p gs f function h =
    let n = function.locals in
    let back : parts.Takes gs f return_block 1 = parts.takes gs f return_block h.3.0 1 h.3.1 h.3.2 GiveBack (omega arith) h.3.3 in
    let raised : parts.Takes gs f raise_block 1 = parts.takes gs f raise_block h.4.0 1 h.4.1 h.4.2 GiveUp (omega arith) h.4.3 in
    let never : parts.Takes gs f never_block 0 = parts.takes gs f never_block h.5.0 0 h.5.1 h.5.2 (Go (first never_block 0)) (omega arith) h.5.3 in
    let end = walk.marked p gs f n never back 4 n function.node false (Plain row.None (first_and return_block 0 n)) (omega arith) (parts.way_and gs f (n + 1) return_block 0 n (omega arith) (omega arith) back) h.6 in
    let body = walk.lines p gs f n never back no_try function.body h.0 n (outside n) 5 (length (blocks_of (slice_get gs.graphs f))) (omega arith)
    (record { locals = omega arith; default = omega arith; hands = tt; default_takes = raised; hands_take = tt })
    (record { brk = omega arith; cont = omega arith; ret = omega arith; norm_takes = end.0; brk_takes = end.0; cont_takes = end.0; ret_takes = back }) h.7 in
    parts.join gs f (parts.one gs f 0 h.2.0 n h.2.1 h.2.2 (Go (first h.0 n)) (parts.way_first gs f n h.0 n (omega arith) body.0) h.2.3 (refl, refl))
    (parts.join gs f (parts.one gs f 1 h.3.0 1 h.3.1 h.3.2 GiveBack refl h.3.3 (refl, refl))
    (parts.join gs f (parts.one gs f 2 h.4.0 1 h.4.1 h.4.2 GiveUp refl h.4.3 (refl, refl))
    (parts.join gs f (parts.one gs f 3 h.5.0 0 h.5.1 h.5.2 (Go (first never_block 0)) (parts.way_first gs f 0 never_block 0 (omega arith) never) h.5.3 (refl, refl))
    (parts.join gs f end.1 body.1))))

pub is_within : (graph : Option Graph) (b : ℕ) (code : Code) → block_in graph b ≡ Some code → b < length (blocks_of graph)
is_within None b code is = absurd (false≢true (ap is_some is))
is_within (Some graph) b code is = slice_get_within graph.blocks b code is

-- of the graphs of a program
module _ (r : Resolved) (gs : Graphs) (nodes : NodesAt r gs) where
  pub function_stands : (f : ℕ) (graph : Graph) → slice_get gs.graphs f ≡ Some graph → (function : Function) × (slice_get (functions_of r) f ≡ Some function) × marks.HasFunction (program_of r) gs f function
  function_stands f graph is =
      let o = nodes.only f graph is in
      let has : slice_get (functions_of r) f ≡ Some (function_of r.sites o.0) = slice_get-map (function_of r.sites) r.functions f ∙ ap (option_map (function_of r.sites)) o.1 in
      (function_of r.sites o.0, has, subst (λ (x : Option Function). marks.IfFunction (program_of r) gs f x) has (nodes.stand f))

  pub block_good : (f : ℕ) (graph : Graph) → slice_get gs.graphs f ≡ Some graph → (b : ℕ) (code : Code) → slice_get graph.blocks b ≡ Some code → parts.Good gs f code
  block_good f graph is b code there =
      let h = function_stands f graph is in
      let at : block_in (slice_get gs.graphs f) b ≡ Some code = ap (λ (g : Option Graph). block_in g b) is ∙ there in
      let all = function_good (program_of r) gs f h.0 h.2 in
      all.good b (omega arith) (is_within (slice_get gs.graphs f) b code at) code at

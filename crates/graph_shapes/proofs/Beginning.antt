-- How graphs begin.
use Rattle.std.proofs.Common.{◌≡◌, ℕ, zero, suc, ◌+◌, ◌≤◌, List, [], ◌∷◌, length, map, Option, Some, refl, sym, ap, ◌∙◌, subst, arith}
use Rattle.std.specs.Prelude.{slice_get, option_map}
use Rattle.std.proofs.lemmas.List.{length-map}
use Rattle.std.proofs.lemmas.Option.{slice_get-map}
use Rattle.rpy_resolved.specs.declared.tree.Function.{Function}
use Rattle.resolved_meaning.specs.Programs.{value_in}
use Rattle.flow_graph.specs.declared.graph.Graph.{Graph}
use Rattle.flow_graph.specs.Whole.{CountFrom}
use Rattle.flow_meaning.specs.Machine.{block_in}
use Rattle.flow_stands.specs.Places.{range, Go, first, numbered}
use Rattle.flow_trees.specs.Tree as tree
use Rattle.flow_trees.specs.Marks as marks
use Rattle.flow_space.specs.Trees.{function_of}
use Rattle.resolved_meaning.specs.Trees.{program_of}
use Rattle.graph_shapes.specs.Shapes.{AreFrom}
use Rattle.graph_shapes.specs.Beginnings.{GraphsAreOwn, FunctionsBegin, ParametersAreCounted}
use Rattle.graph_shapes.proofs.Parts as parts
use Rattle.graph_shapes.proofs.Functions.{block_good}
use Rattle.graph_shapes.proofs.Shaped.{good_shaped}

count_at : (k : ℕ) (graphs : List Graph) → CountFrom k graphs → (n : ℕ) (graph : Graph) → slice_get graphs n ≡ Some graph → graph.function ≡ k + n
count_at k [] counted n graph is = cc
count_at k (g ∷ graphs) counted zero graph is =
    let same : g ≡ graph = cc in
    let e : k ≡ k + 0 = omega arith in
    ap (λ (x : Graph). x.function) (sym same) ∙ (counted.0 ∙ e)
count_at k (g ∷ graphs) counted (suc n) graph is = let e : (k + 1) + n ≡ k + suc n = omega arith in count_at (k + 1) graphs counted.1 n graph is ∙ e

pub graphs_are_own : GraphsAreOwn
graphs_are_own gs counted n graph is = let e = count_at 0 gs.graphs counted n graph is in omega (arith, e)

pub functions_begin : FunctionsBegin
functions_begin r gs nodes f graph is =
    let o = nodes.only f graph is in
    let has : slice_get (map (function_of r.sites) r.functions) f ≡ Some (function_of r.sites o.0) = function_there o.0 o.1 in
    let h = subst (λ (x : Option tree.Function). marks.IfFunction (program_of r) gs f x) has (nodes.stand f) in
    let n = o.0.locals in
    let code = numbered h.2.0 n h.2.1 h.2.2 (Go (first h.0 n)) in
    let count : length code.inputs ≡ n = parts.shift_count h.2.0 (range 0 n) ∙ parts.range_count 0 n in
    let few : length o.0.defaults ≤ n = let l = length-map o.0.defaults (option_map (value_in r.sites)) in let fewer = h.1 in omega (arith, l, fewer) in
    (o.0, o.1, (code, sym (ap (λ (g : Option Graph). block_in g 0) is) ∙ h.2.3, record { locals = count; params = omega (arith, count, few); does = refl }))
  where
    function_there : (function : Function) → slice_get r.functions f ≡ Some function → slice_get (map (function_of r.sites) r.functions) f ≡ Some (function_of r.sites function)
    function_there function there = slice_get-map (function_of r.sites) r.functions f ∙ ap (option_map (function_of r.sites)) there

from_at : (n : ℕ) (vs : List ℕ) → AreFrom n vs → (i v : ℕ) → slice_get vs i ≡ Some v → v ≡ n + i
from_at n [] from i v is = cc
from_at n (x ∷ vs) from zero v is =
    let same : x ≡ v = cc in
    let e : n ≡ n + 0 = omega arith in
    sym same ∙ (from.0 ∙ e)
from_at n (x ∷ vs) from (suc i) v is = let e : (n + 1) + i ≡ n + suc i = omega arith in from_at (n + 1) vs from.1 i v is ∙ e

-- where there is a first one, the rest follow it
from_nought : (n : ℕ) (vs : List ℕ) → AreFrom n vs → ((v : ℕ) → slice_get vs 0 ≡ Some v → v ≡ 0) → (i v : ℕ) → slice_get vs i ≡ Some v → v ≡ i
from_nought n [] from nought i v is = cc
from_nought n (x ∷ vs) from nought i v is =
    let here : x ≡ 0 = nought x refl in
    let there : v ≡ n + i = from_at n (x ∷ vs) from i v is in
    let first : x ≡ n = from.0 in
    omega (arith, here, there, first)

pub parameters_are_counted : ParametersAreCounted
parameters_are_counted r gs nodes f graph is b there i v at =
    let shape = good_shaped gs f graph is b (block_good r gs nodes f graph is 0 b there) in
    from_nought shape.base b.inputs shape.inputs (λ v at. nodes.nought f graph is b v there at) i v at

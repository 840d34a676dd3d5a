-- Annotations of trees that are read from assignments of elements to the graphs that stand for them.
use Rattle.std.specs.Prelude.{◌≡◌, ◌<◌, ◌⊎◌, ◌==◌, ◌&&◌, ◌||◌, not, if◌then◌else◌, ℕ, zero, suc, Bool, true, false, List, [], ◌∷◌, length, map, get_or, slice_get, Option, Some, None}
use Rattle.std.specs.List.{flat_map}
use Rattle.rpy_meaning.specs.declared.row.RowOp.{RowOp}
use Rattle.rpy_meaning.specs.Tree as tree
use Rattle.flow_graph.specs.declared.graph.Op.{Op}
use Rattle.flow_graph.specs.declared.graph.Block.{Block}
use Rattle.flow_graph.specs.declared.graph.Graph.{Graph}
use Rattle.flow_graph.specs.declared.graph.Graphs.{Graphs}
use Rattle.flow_graph.specs.Whole.{CountFrom}
use Rattle.flow_trees.specs.Tree.{Function}
use Rattle.flow_trees.specs.Marks.{Stand}
use Rattle.flow_trees.specs.Ops.{OfBlocks, InFunction}
use Rattle.ann_lattice.specs.Shape.{Shape, Nothing}
use Rattle.ann_lattice.specs.Kind.{some_nothing}
use Rattle.ann_lattice.specs.Assign.{Assignment, at, mark}
use Rattle.ann_rules.specs.Program.{Whole, Callee}
use Rattle.ann_rules.specs.Rules.{value, goes_on}
use Rattle.ann_tree.specs.Faults.{Flaw, shows}
use Rattle.ann_tree.specs.Annotation.{Annotation}
use Rattle.ann_read.specs.Plain.{AllReturnPlainly}

-- one of them
abbrev pub In : List Op → Op → Type 0
In [] o = ⊥
In (q ∷ os) o = (q ≡ o) ⊎ In os o

abbrev pub ops_of : Graph → List Op
ops_of graph = flat_map (λ (b : Block). b.ops) graph.blocks

-- ---- the flaws that reached operations show

module _ (p : Whole) (w : Assignment) (flaw : Flaw) (node : ℕ) where
  -- an operation at the node, of graph f, whose operands are reached
  abbrev pub op_shows : ℕ → Op → Bool
  op_shows f o = (o.node == node) && (not (some_nothing (map (value p w f) o.args)) && shows p w flaw o.value o.op (map (value p w f) o.args))

  -- up to the first that gives no value
  abbrev pub ops_show : ℕ → List Op → Bool
  ops_show f [] = false
  ops_show f (o ∷ os) = op_shows f o || (goes_on p w f o && ops_show f os)

  abbrev pub blocks_show : ℕ → ℕ → List Block → Bool
  blocks_show f n [] = false
  blocks_show f n (b ∷ bs) = (mark w (p.places.block f n) && ops_show f b.ops) || blocks_show f (suc n) bs

  abbrev pub graphs_show : ℕ → List Graph → Bool
  graphs_show f [] = false
  graphs_show f (graph ∷ graphs) = blocks_show f 0 graph.blocks || graphs_show (suc f) graphs

-- the element of a node is that of an operation which gives its value, wherever a graph has one; and each flaw that a graph shows is marked
pub record IsReading (p : Whole) (a : Annotation) : Type 0 where
  pub of_nodes : (f : ℕ) (graph : Graph) (o : Op) → slice_get p.graphs f ≡ Some graph → In (ops_of graph) o → o.value ≡ true
      → (q : Op) × In (ops_of graph) q × (q.value ≡ true) × (q.node ≡ o.node) × (a.element o.node ≡ at a.parts (p.places.variable f q.result))
  pub of_flaws : (flaw : Flaw) (node : ℕ) → graphs_show p a.parts flaw node 0 p.graphs ≡ true → a.faulty flaw node ≡ true

-- no node has its value from two graphs
abbrev pub AreApart : Whole → Type 0
AreApart p =
    (f g : ℕ) (graph other : Graph) (o q : Op) → slice_get p.graphs f ≡ Some graph → slice_get p.graphs g ≡ Some other → In (ops_of graph) o → In (ops_of other) q → o.value ≡ true → q.value ≡ true
    → o.node ≡ q.node → f ≡ g

-- no node has its value in two functions
abbrev pub HaveOwnNodes : List Function → Type 0
HaveOwnNodes functions =
    (f g : ℕ) (function other : Function) (node : ℕ) (o q : RowOp) → slice_get functions f ≡ Some function → slice_get functions g ≡ Some other
    → InFunction node true o function → InFunction node true q other → f ≡ g

-- each graph is that of a function, and has no other operations than its tree
pub record HasOps (p : Whole) (functions : List Function) : Type 0 where
  pub of_graphs : (f : ℕ) (graph : Graph) → slice_get p.graphs f ≡ Some graph
      → (function : Function) × (slice_get functions f ≡ Some function) × OfBlocks (λ node value o. InFunction node value o function) graph.blocks

-- the first operation that gives the value of the node
abbrev pub gives : ℕ → Op → Bool
gives node o = o.value && (o.node == node)

abbrev pub first_giving : ℕ → List Op → Option Op
first_giving node [] = None
first_giving node (o ∷ os) = if gives node o then Some o else first_giving node os

abbrev pub element_of : Whole → Assignment → ℕ → Option Op → Shape → Shape
element_of p w f None rest = rest
element_of p w f (Some o) rest = at w (p.places.variable f o.result)

-- its element, of the graphs from the f-th on
abbrev pub element_in : Whole → Assignment → ℕ → ℕ → List Graph → Shape
element_in p w node f [] = Nothing
element_in p w node f (graph ∷ graphs) = element_of p w f (first_giving node (ops_of graph)) (element_in p w node (suc f) graphs)

abbrev pub reading : Whole → Assignment → Annotation
reading p w = record { parts = w; element = λ node. element_in p w node zero p.graphs; faulty = λ flaw node. graphs_show p w flaw node 0 p.graphs }

-- the graphs of the program stand for the functions, each with its number, its parameters and whether it takes more
pub record HasGraphs (program : tree.Program) (gs : Graphs) (p : Whole) (functions : List Function) : Type 0 where
  pub graphs : p.graphs ≡ gs.graphs
  pub numbers : CountFrom 0 p.graphs
  pub callees : (f : ℕ) (function : Function) → slice_get functions f ≡ Some function
      → (c : Callee) × (slice_get p.callees f ≡ Some c) × (length c.defaults ≡ length function.defaults) × (c.star ≡ function.takes_more)
  pub stand : Stand program gs functions
  pub plain : (f : ℕ) (function : Function) → slice_get functions f ≡ Some function → AllReturnPlainly function.body

-- blocks have their marks, and variables their cells and marks
pub record HasCells (p : Whole) (w : Assignment) : Type 0 where
  pub blocks : (f b : ℕ) (graph : Graph) (code : Block) → slice_get p.graphs f ≡ Some graph → slice_get graph.blocks b ≡ Some code → p.places.block f b < length w.marks
  pub inputs : (f b j : ℕ) (graph : Graph) (code : Block) → slice_get p.graphs f ≡ Some graph → slice_get graph.blocks b ≡ Some code → j < length code.inputs
      → (p.places.variable f (get_or code.inputs j 0) < length w.cells) × (p.places.loose f (get_or code.inputs j 0) < length w.marks)
  pub results : (f : ℕ) (graph : Graph) (o : Op) → slice_get p.graphs f ≡ Some graph → In (ops_of graph) o → p.places.loose f o.result < length w.marks

-- no conflict may stand in parameters, results and attributes
pub record HasSpots (p : Whole) (spots : ℕ → Bool) : Type 0 where
  pub params : (f i : ℕ) → spots (p.places.param f i) ≡ true
  pub results : (f : ℕ) → spots (p.places.result f) ≡ true
  pub attributes : (d : ℕ) (name : List ℕ) → spots (p.places.attribute d name) ≡ true

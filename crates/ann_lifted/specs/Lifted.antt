-- Annotations of trees as assignments to the graphs that stand for them.
use Rattle.std.specs.Prelude.{◌≡◌, ◌≤◌, ℕ, true, false, length, slice_get, Some, None}
use Rattle.flow_graph.specs.declared.graph.Block.{Block}
use Rattle.flow_graph.specs.declared.graph.Graph.{Graph}
use Rattle.flow_graph.specs.declared.graph.Op.{Op}
use Rattle.flow_meaning.specs.Machine.{block_in}
use Rattle.flow_reads.specs.Reads.{ReadsOwn}
use Rattle.ann_lattice.specs.Order.{Below}
use Rattle.ann_lattice.specs.Join.{is_clash}
use Rattle.ann_lattice.specs.Assign.{Assignment, at, Closed}
use Rattle.ann_rules.specs.Program.{Whole}
use Rattle.ann_rules.specs.Rules.{rules}
use Rattle.ann_tree.specs.Faults.{Flaw}
use Rattle.ann_tree.specs.Annotation.{Annotation}
use Rattle.ann_read.specs.Reading.{In, ops_of, graphs_show}

-- the blocks of a program's graphs read their own variables alone
abbrev pub ReadOwn : Whole → Type 0
ReadOwn p = (f b : ℕ) (graph : Graph) (code : Block) → slice_get p.graphs f ≡ Some graph → slice_get graph.blocks b ≡ Some code → ReadsOwn code

-- a block that is not there has no mark
abbrev pub HasNoOthers : Whole → Assignment → Type 0
HasNoOthers p w = (f b : ℕ) → block_in (slice_get p.graphs f) b ≡ None → length w.marks ≤ p.places.block f b

-- The assignment is closed under all that the graphs ask; the result of an operation is in no conflict, and below the element of the node where it
-- gives the node's value; and a flaw that a graph shows is marked at its node.
pub record IsLifted (p : Whole) (a : Annotation) (w : Assignment) : Type 0 where
  pub closed : Closed p.tables.classes (rules p) w
  pub free : (f : ℕ) (graph : Graph) (o : Op) → slice_get p.graphs f ≡ Some graph → In (ops_of graph) o → is_clash (at w (p.places.variable f o.result)) ≡ false
  pub values : (f : ℕ) (graph : Graph) (o : Op) → slice_get p.graphs f ≡ Some graph → In (ops_of graph) o → o.value ≡ true → Below p.tables.classes w.same (at w (p.places.variable f o.result)) (a.element o.node)
  pub flaws : (flaw : Flaw) (node : ℕ) → graphs_show p w flaw node 0 p.graphs ≡ true → a.faulty flaw node ≡ true

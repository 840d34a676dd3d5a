-- The elements of nodes: each has that of the first operation that gives its value and has one.
use Rattle.std.specs.Prelude.{◌≡◌, ◌<◌, ℕ, zero, suc, ◌==◌, ◌&&◌, ◌||◌, not, if◌then◌else◌, Bool, true, false, List, [], ◌∷◌, ◌++◌, length, replicate, slice_get, Option, Some, None}
use Rattle.rpy_meaning.specs.declared.row.RowOp.{RowOp}
use Rattle.rpy_meaning.specs.declared.row.RowOp.TheVariants as op
use Rattle.flow_graph.specs.declared.graph.Op.{Op}
use Rattle.flow_graph.specs.declared.graph.Block.{Block}
use Rattle.flow_graph.specs.declared.graph.Graph.{Graph}
use Rattle.ann_element.specs.declared.element.Element.{Element}
use Rattle.ann_element.specs.declared.element.Element.TheVariants as element
use Rattle.ann_rules.specs.Program.{Whole}
use Rattle.ann_needs.specs.View.{whole}
use Rattle.ann_needs.specs.declared.plan.Plan.{Plan}
use Rattle.ann_needs.specs.declared.state.State.{State}
use Rattle.ann_settled.specs.Read.{element_at}

abbrev pub is_unreached : Element → Bool
is_unreached element.Unreached = true
is_unreached other = false

-- the new value of an augmented assignment is the element of its statement
abbrev pub is_augmented : RowOp → Bool
is_augmented (op.Binary o site) = true
is_augmented op.AddTo = true
is_augmented other = false

abbrev pub gives_value : Op → Bool
gives_value o = o.value || is_augmented o.op

-- of elements with their nodes the first that is reached
abbrev pub first_reached : ℕ → List (ℕ × Element) → Element
first_reached n [] = element.Unreached
first_reached n (r ∷ rs) = if (r.0 == n) && not (is_unreached r.1) then r.1 else first_reached n rs

module _ (p : Whole) (s : State) where
  abbrev pub result : ℕ → Op → Element
  result g o = element_at s.cells (p.places.variable g o.result)

  -- the results of the operations that give a value, each with its node
  abbrev pub op_results : ℕ → Op → List (ℕ × Element)
  op_results g o = if gives_value o then (o.node, result g o) ∷ [] else []

  abbrev pub ops_results : ℕ → List Op → List (ℕ × Element)
  ops_results g [] = []
  ops_results g (o ∷ os) = op_results g o ++ ops_results g os

  abbrev pub blocks_results : ℕ → List Block → List (ℕ × Element)
  blocks_results g [] = []
  blocks_results g (b ∷ bs) = ops_results g b.ops ++ blocks_results g bs

  abbrev pub graphs_results : ℕ → List Graph → List (ℕ × Element)
  graphs_results g [] = []
  graphs_results g (graph ∷ graphs) = blocks_results g graph.blocks ++ graphs_results (suc g) graphs

-- the elements of all nodes, in their order
pub record AreNodes (p : Plan) (s : State) (nodes : List Element) : Type 0 where
  pub count : length nodes ≡ length p.places.unbound
  pub each : (n : ℕ) → n < length nodes → element_at nodes n ≡ first_reached n (graphs_results (whole p) s 0 p.graphs.graphs)

-- ---- operation by operation

-- a node that has no element yet takes this one
abbrev pub put : List Element → ℕ → Element → List Element
put [] n e = []
put (x ∷ xs) zero e = (if is_unreached x then e else x) ∷ xs
put (x ∷ xs) (suc n) e = x ∷ put xs n e

abbrev pub open_at : Option Element → Bool
open_at None = false
open_at (Some e) = is_unreached e

abbrev pub is_open : List Element → ℕ → Bool
is_open nodes n = open_at (slice_get nodes n)

module _ (p : Whole) (s : State) where
  abbrev pub put_op : ℕ → Op → List Element → List Element
  put_op g o nodes = if gives_value o then put nodes o.node (result p s g o) else nodes

  abbrev pub put_ops : ℕ → List Op → List Element → List Element
  put_ops g [] nodes = nodes
  put_ops g (o ∷ os) nodes = put_ops g os (put_op g o nodes)

  abbrev pub put_blocks : ℕ → List Block → List Element → List Element
  put_blocks g [] nodes = nodes
  put_blocks g (b ∷ bs) nodes = put_blocks g bs (put_ops g b.ops nodes)

  abbrev pub put_graphs : ℕ → List Graph → List Element → List Element
  put_graphs g [] nodes = nodes
  put_graphs g (graph ∷ graphs) nodes = put_graphs (suc g) graphs (put_blocks g graph.blocks nodes)

abbrev pub all : Plan → State → List Element
all p s = put_graphs (whole p) s 0 p.graphs.graphs (replicate (length p.places.unbound) element.Unreached)

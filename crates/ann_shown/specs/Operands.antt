-- The operands of what stands at a node, in the order of the text.
use Rattle.std.specs.Prelude.{ℕ, suc, ◌==◌, ◌&&◌, not, if◌then◌else◌, Bool, true, List, [], ◌∷◌, map, Option, Some, None}
use Rattle.rpy_meaning.specs.declared.row.RowOp.{RowOp}
use Rattle.rpy_meaning.specs.declared.row.RowOp.TheVariants as op
use Rattle.flow_graph.specs.declared.graph.Op.{Op}
use Rattle.flow_graph.specs.declared.graph.Block.{Block}
use Rattle.flow_graph.specs.declared.graph.Graph.{Graph}
use Rattle.ann_lattice.specs.Shape.{Shape, Nothing}
use Rattle.ann_lattice.specs.Kind.{is_nothing}
use Rattle.ann_lattice.specs.Assign.{Assignment}
use Rattle.ann_rules.specs.Program.{Whole}
use Rattle.ann_rules.specs.Rules.{value}
use Rattle.rpy_kinds.specs.declared.kind.Kind.{Kind}
use Rattle.rpy_kinds.specs.declared.kind.Kind.TheVariants as kind

abbrev pub or_else : Option Shape → Option Shape → Option Shape
or_else (Some x) o = Some x
or_else None o = o

abbrev pub or_nothing : Option Shape → Shape
or_nothing None = Nothing
or_nothing (Some x) = x

-- a callee that is a plain name is no operand
abbrev pub arguments : Option Kind → List Shape → List Shape
arguments (Some (kind.Call true)) (x ∷ xs) = xs
arguments other xs = xs

-- what a range counts stands before its end
abbrev pub swapped : List Shape → List Shape
swapped (x ∷ y ∷ []) = y ∷ x ∷ []
swapped xs = xs

module _ (p : Whole) (a : Assignment) where
  abbrev pub operands : ℕ → Op → List Shape
  operands g o = map (value p a g) o.args

  -- ---- the element of a node: of the first operation that gives its value and is reached

  module _ (node : ℕ) where
    abbrev pub gives : ℕ → Op → Bool
    gives g o = o.value && ((o.node == node) && not (is_nothing (value p a g o.result)))

    abbrev pub op_value : ℕ → Op → Option Shape
    op_value g o = if gives g o then Some (value p a g o.result) else None

    abbrev pub ops_value : ℕ → List Op → Option Shape
    ops_value g [] = None
    ops_value g (o ∷ os) = or_else (op_value g o) (ops_value g os)

    abbrev pub blocks_value : ℕ → List Block → Option Shape
    blocks_value g [] = None
    blocks_value g (b ∷ bs) = or_else (ops_value g b.ops) (blocks_value g bs)

    abbrev pub graphs_value : ℕ → List Graph → Option Shape
    graphs_value g [] = None
    graphs_value g (graph ∷ gs) = or_else (blocks_value g graph.blocks) (graphs_value (suc g) gs)

    abbrev pub node_value : Shape
    node_value = or_nothing (graphs_value 0 p.graphs)

  -- ---- by what stands there

  -- the two sides of `and` and `or`
  abbrev pub sides : Option Kind → List Shape
  sides (Some (kind.Logic left right)) = node_value left ∷ node_value right ∷ []
  sides other = []

  abbrev pub in_text : Option Kind → RowOp → List Shape → List Shape
  in_text k op.Copy xs = sides k
  in_text k op.CallValue xs = arguments k xs
  in_text k (op.HasItem (Some step)) xs = swapped xs
  in_text k o xs = xs

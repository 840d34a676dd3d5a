-- How a conflict is told: by the place where it stands and the elements of its operands.
use Rattle.std.specs.Prelude.{◌≡◌, ◌<◌, ◌⊎◌, ℕ, true, List, [], ◌∷◌, length, map, slice_get, Option, option_map, Some}
use Rattle.rpy_tree.specs.declared.program.Program.{Program}
use Rattle.class_desc.specs.Tables.{tables}
use Rattle.flow_graph.specs.declared.graph.Op.{Op}
use Rattle.flow_graph.specs.declared.graph.Block.{Block}
use Rattle.flow_graph.specs.declared.graph.Graph.{Graph}
use Rattle.ann_element.specs.Sites.{leader}
use Rattle.ann_element.specs.declared.element.Element.{Element}
use Rattle.ann_element.specs.declared.annotation.SpotKind.{SpotKind}
use Rattle.ann_element.specs.declared.annotation.SpotKind.TheVariants as spot
use Rattle.ann_lattice.specs.Shape.{Shape, Nothing, shape}
use Rattle.ann_lattice.specs.Kind.{some_clash}
use Rattle.ann_lattice.specs.Laws.{named}
use Rattle.ann_lattice.specs.Assign.{Assignment, Up}
use Rattle.ann_rules.specs.Program.{Whole}
use Rattle.ann_rules.specs.Asks.{parts}
use Rattle.ann_rules.specs.Rules as rule
use Rattle.ann_needs.specs.View.{whole}
use Rattle.ann_needs.specs.declared.plan.Plan.{Plan}
use Rattle.ann_layout.specs.Layout.{plan}
use Rattle.ann_places.specs.Spots.{spots}
use Rattle.ann_grown.specs.Partial.{IsFirst}
use Rattle.rpy_kinds.specs.Places.{kind_at}
use Rattle.ann_shown.specs.Functions.{function_node, param_node}
use Rattle.ann_shown.specs.Operands.{operands, in_text}
use Rattle.ann_shown.specs.declared.told.Told.{Told}

-- ---- parts

module _ (p : Program) where
  abbrev pub class_node : ℕ → Option ℕ
  class_node c = option_map (λ i. i.node) (slice_get p.classes c)

  abbrev pub site_node : ℕ → Option ℕ
  site_node s = option_map (λ i. i.node) (slice_get p.sites s)

-- the part with this cell is told by that node
pub record IsParam (p : Program) (q : Whole) (c n : ℕ) : Type 0 where
  pub function : ℕ
  pub place : ℕ
  pub cell : q.places.param function place ≡ c
  pub node : Some n ≡ param_node p function place

pub record IsResult (p : Program) (q : Whole) (c n : ℕ) : Type 0 where
  pub function : ℕ
  pub cell : q.places.result function ≡ c
  pub node : Some n ≡ function_node p function

-- an attribute by its home class
pub record IsAttribute (p : Program) (q : Whole) (name : List ℕ) (c n : ℕ) : Type 0 where
  pub home : ℕ
  pub cell : q.places.attribute home name ≡ c
  pub node : Some n ≡ class_node p home

-- items and keys by the least site of their class
pub record IsItem (p : Program) (q : Whole) (a : Assignment) (c n : ℕ) : Type 0 where
  pub site : ℕ
  pub cell : q.places.item site ≡ c
  pub node : Some n ≡ site_node p (leader a.same site)

pub record IsKey (p : Program) (q : Whole) (a : Assignment) (c n : ℕ) : Type 0 where
  pub site : ℕ
  pub cell : q.places.key site ≡ c
  pub node : Some n ≡ site_node p (leader a.same site)

-- ---- what telling rests on

-- the plan is that of the program with its classes, by some graphs
pub record IsPlanOf (p : Program) (q : Plan) : Type 0 where
  pub is : q ≡ plan p q.graphs (tables p)

-- the least site of each class is a site
pub record HasLeaders (p : Program) (same : List ℕ) : Type 0 where
  pub within : 0 < length p.sites → (s : ℕ) → leader same s < length p.sites

-- ---- operations

-- an operation of the node has this cell for its result; its operands stand in the order of the text, with the least site of each class
pub record IsOperation (p : Program) (q : Whole) (a : Assignment) (c n : ℕ) (es : List Shape) : Type 0 where
  pub graph_number : ℕ
  pub graph : Graph
  pub graph_is : slice_get q.graphs graph_number ≡ Some graph
  pub block_number : ℕ
  pub block : Block
  pub block_is : slice_get graph.blocks block_number ≡ Some block
  pub index : ℕ
  pub op : Op
  pub op_is : slice_get block.ops index ≡ Some op
  pub cell : q.places.variable graph_number op.result ≡ c
  pub node : n ≡ op.node
  pub operands : es ≡ map (named a.same) (in_text q a (kind_at p.modules op.node) op.op (operands q a graph_number op))

-- a conflict in this cell of an assignment is told so
abbrev pub IsAt : Program → Whole → Assignment → ℕ → SpotKind → ℕ → List Shape → Type 0
IsAt p q a c spot.Node node told = IsOperation p q a c node told
IsAt p q a c spot.Param node told = (told ≡ []) × IsParam p q c node
IsAt p q a c spot.Result node told = (told ≡ []) × IsResult p q c node
IsAt p q a c (spot.Attr name) node told = (told ≡ []) × IsAttribute p q name c node
IsAt p q a c spot.Keys node told = (told ≡ []) × IsKey p q a c node
IsAt p q a c spot.Items node told = (told ≡ []) × IsItem p q a c node

abbrev pub IsTold : Program → Whole → Assignment → ℕ → Told → Type 0
IsTold p q a c t = IsAt p q a c t.spot.kind t.spot.node (map shape t.operands)

-- a part, without operands
abbrev pub part_told : ℕ → SpotKind → Told
part_told node kind = record { spot = record { node = node; kind = kind }; operands = [] }

abbrev pub op_told : ℕ → List Element → Told
op_told node operands = record { spot = record { node = node; kind = spot.Node }; operands = operands }

-- ---- conflicts of rows

-- what the row of an operation gives for these operands and further parts
abbrev pub row : Whole → Assignment → ℕ → Op → List Shape → List Shape → List Shape
row q a g o xs further = rule.pieces_for q a g o.op xs (Nothing ∷ further)

-- Where the step was what the row of an operation asks of its result, and the row gives a conflict or takes no such operands, it does so for the
-- operands in the assignment behind the step.
abbrev pub IsOfRow : Whole → Assignment → ℕ → Assignment → Type 0
IsOfRow q before r after =
    (g : ℕ) (o : Op) → rule.rules q r before ≡ Up (q.places.variable g o.result) (rule.asked q before g o.op (operands q before g o) o.node)
    → some_clash (rule.asked q before g o.op (operands q before g o) o.node) ≡ true
    → (rule.is_unfit q after g o.op (operands q after g o) o.node ≡ true) ⊎ (some_clash (row q after g o (operands q after g o) (parts q before o.op (operands q before g o))) ≡ true)

-- ---- conflicts that growing meets

-- Steps lead from the start to an assignment without conflict, and one step more to one with a conflict, which is told so.
pub record IsMet (p : Program) (q : Plan) (start : Assignment) (t : Told) : Type 0 where
  pub cell : ℕ
  pub after : Assignment
  pub first : IsFirst (whole q) (spots q) start after cell
  pub told : IsTold p (whole q) after cell t
  pub row : IsOfRow (whole q) first.before first.rule after

-- The cells that must not be in conflict, and the assignment in which nothing is reached.
use Rattle.std.specs.Prelude.{ℕ, suc, ◌==◌, ◌||◌, Bool, false, List, [], ◌∷◌, ◌++◌, replicate}
use Rattle.rpy_tree.specs.declared.program.Site.{Site}
use Rattle.flow_graph.specs.declared.graph.Op.{Op}
use Rattle.flow_graph.specs.declared.graph.Block.{Block}
use Rattle.flow_graph.specs.declared.graph.Graph.{Graph}
use Rattle.ann_element.specs.Sites.{alone}
use Rattle.ann_lattice.specs.Shape.{Nothing}
use Rattle.ann_lattice.specs.Assign.{Assignment}
use Rattle.ann_rules.specs.Program.{Whole}
use Rattle.ann_needs.specs.View.{nowhere, whole}
use Rattle.ann_needs.specs.declared.plan.Plan.{Plan}
use Rattle.ann_needs.specs.declared.plan.Places.{Places}
use Rattle.ann_layout.specs.declared.layout.Planned.{Planned}

abbrev pub row_cells : List (List ℕ) → List ℕ
row_cells [] = []
row_cells (row ∷ rows) = row ++ row_cells rows

abbrev pub named_cells : List (List ℕ × ℕ) → List ℕ
named_cells [] = []
named_cells (entry ∷ entries) = entry.1 ∷ named_cells entries

abbrev pub all_named_cells : List (List (List ℕ × ℕ)) → List ℕ
all_named_cells [] = []
all_named_cells (row ∷ rows) = named_cells row ++ all_named_cells rows

-- of parameters, results, attributes, items and keys
abbrev pub part_cells : Places → List ℕ
part_cells p = row_cells p.params ++ (p.results ++ (all_named_cells p.attributes ++ (p.items ++ p.keys)))

module _ (p : Whole) where
  abbrev pub op_cells : ℕ → List Op → List ℕ
  op_cells g [] = []
  op_cells g (o ∷ os) = p.places.variable g o.result ∷ op_cells g os

  abbrev pub block_cells : ℕ → List Block → List ℕ
  block_cells g [] = []
  block_cells g (b ∷ bs) = op_cells g b.ops ++ block_cells g bs

  abbrev pub graph_cells : ℕ → List Graph → List ℕ
  graph_cells g [] = []
  graph_cells g (graph ∷ graphs) = block_cells g graph.blocks ++ graph_cells (suc g) graphs

-- the cells of parts, and of the results of operations
abbrev pub spot_cells : Plan → List ℕ
spot_cells p = part_cells p.places ++ graph_cells (whole p) 0 p.graphs.graphs

abbrev pub among : ℕ → List ℕ → Bool
among c [] = false
among c (d ∷ ds) = (d == c) || among c ds

-- what does not exist counts as one
abbrev pub spots : Plan → ℕ → Bool
spots p c = (c == nowhere) || among c (spot_cells p)

-- every element is unreached, no mark is set, and each site is alone
abbrev pub empty : ℕ → ℕ → List Site → Assignment
empty cells marks sites = record { cells = replicate cells Nothing; marks = replicate marks false; same = alone sites }

abbrev pub start : Planned → Assignment
start p = empty p.cells p.marks p.plan.sites

-- The cells in which no conflict may stand, by marks.
use Rattle.std.specs.Prelude.{◌≡◌, ◌<◌, ℕ, suc, nat_lt, if◌then◌else◌, Bool, true, false, List, [], ◌∷◌, length, set, get_or, replicate}
use Rattle.flow_graph.specs.declared.graph.Op.{Op}
use Rattle.flow_graph.specs.declared.graph.Block.{Block}
use Rattle.flow_graph.specs.declared.graph.Graph.{Graph}
use Rattle.ann_rules.specs.Program.{Whole}
use Rattle.ann_needs.specs.View.{whole}
use Rattle.ann_needs.specs.declared.plan.Plan.{Plan}
use Rattle.ann_needs.specs.declared.plan.Places.{Places}
use Rattle.ann_places.specs.Spots.{among, spot_cells}

-- one mark is set, if it is there
abbrev pub put : List Bool → ℕ → List Bool
put marks c = if nat_lt c (length marks) then set marks c true else marks

abbrev pub row : List ℕ → List Bool → List Bool
row [] marks = marks
row (c ∷ cs) marks = row cs (put marks c)

abbrev pub rows : List (List ℕ) → List Bool → List Bool
rows [] marks = marks
rows (cs ∷ css) marks = rows css (row cs marks)

abbrev pub named : List (List ℕ × ℕ) → List Bool → List Bool
named [] marks = marks
named (entry ∷ entries) marks = named entries (put marks entry.1)

abbrev pub all_named : List (List (List ℕ × ℕ)) → List Bool → List Bool
all_named [] marks = marks
all_named (entries ∷ rest) marks = all_named rest (named entries marks)

abbrev pub parts : Places → List Bool → List Bool
parts p marks = row p.keys (row p.items (all_named p.attributes (row p.results (rows p.params marks))))

module _ (p : Whole) where
  abbrev pub ops : ℕ → List Op → List Bool → List Bool
  ops g [] marks = marks
  ops g (o ∷ os) marks = ops g os (put marks (p.places.variable g o.result))

  abbrev pub blocks : ℕ → List Block → List Bool → List Bool
  blocks g [] marks = marks
  blocks g (b ∷ bs) marks = blocks g bs (ops g b.ops marks)

  abbrev pub graphs : ℕ → List Graph → List Bool → List Bool
  graphs g [] marks = marks
  graphs g (graph ∷ rest) marks = graphs (suc g) rest (blocks g graph.blocks marks)

abbrev pub all : Plan → ℕ → List Bool
all p n = graphs (whole p) 0 p.graphs.graphs (parts p.places (replicate n false))

-- of n cells those have a mark that are the cell of a part or of the result of an operation
pub record AreSpots (p : Plan) (n : ℕ) (marks : List Bool) : Type 0 where
  pub only : (c : ℕ) → get_or marks c false ≡ true → among c (spot_cells p) ≡ true
  pub each : (c : ℕ) → c < n → among c (spot_cells p) ≡ true → get_or marks c false ≡ true

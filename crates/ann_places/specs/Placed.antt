-- Each part of a program has its cell or its mark.
use Rattle.std.specs.Prelude.{ℕ, ◌<◌, List, length, map, get_or}
use Rattle.rpy_tree.specs.declared.program.Program.{Program}
use Rattle.flow_graph.specs.declared.graph.Graphs.{Graphs}
use Rattle.class_desc.specs.Tables.{Tables}
use Rattle.ann_needs.specs.View.{place, place_in}
use Rattle.ann_layout.specs.Callees.{callees}
use Rattle.ann_layout.specs.Layout.{param_count, variable_count, block_count}
use Rattle.ann_layout.specs.declared.layout.Planned.{Planned}

-- how many there are in a row
abbrev pub count_of : List ℕ → ℕ → ℕ
count_of counts g = get_or counts g 0

pub record ArePlaced (p : Program) (gs : Graphs) (t : Tables) (all : Planned) : Type 0 where
  pub params : (f i : ℕ) → i < count_of (map param_count (callees p)) f → place_in all.plan.places.params f i < all.cells
  pub results : (f : ℕ) → f < length (callees p) → place all.plan.places.results f < all.cells
  pub items : (s : ℕ) → s < length p.sites → place all.plan.places.items s < all.cells
  pub keys : (s : ℕ) → s < length p.sites → place all.plan.places.keys s < all.cells
  pub variables : (g v : ℕ) → v < count_of (map variable_count gs.graphs) g → place_in all.plan.places.variables g v < all.cells
  pub reached : (f : ℕ) → f < length (callees p) → place all.plan.places.reached f < all.marks
  pub made : (c : ℕ) → c < length t.classes → place all.plan.places.made c < all.marks
  pub loaded : (s : ℕ) → s < length p.sites → place all.plan.places.loaded s < all.marks
  pub blocks : (g b : ℕ) → b < count_of (map block_count gs.graphs) g → place_in all.plan.places.blocks g b < all.marks
  pub loose : (g v : ℕ) → v < count_of (map variable_count gs.graphs) g → place_in all.plan.places.loose g v < all.marks
  pub unbound : (n : ℕ) → n < length p.uses → place all.plan.places.unbound n < all.marks

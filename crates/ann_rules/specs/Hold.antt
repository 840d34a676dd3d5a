-- All that a program's graphs ask of an assignment holds in another.
use Rattle.std.specs.Prelude.{◌≡◌, ◌<◌, ℕ, zero, suc, Bool, true, false, List, [], ◌∷◌, length, Option, Some, None}
use Rattle.rpy_tree.specs.declared.program.ClassInfo.{ClassInfo}
use Rattle.flow_graph.specs.declared.graph.Op.{Op}
use Rattle.flow_graph.specs.declared.graph.Block.{Block}
use Rattle.flow_graph.specs.declared.graph.Graph.{Graph}
use Rattle.ann_lattice.specs.Assign.{Assignment, Need, Holds}
use Rattle.ann_rules.specs.Program.{Whole}

abbrev pub AllHold : List ClassInfo → Assignment → List Need → Type 0
AllHold k b [] = Unit {0}
AllHold k b (n ∷ ns) = Holds k b n × AllHold k b ns

-- the results of operations are among n cells, and must not be in conflict
abbrev pub OpSpots : Whole → (ℕ → Bool) → ℕ → ℕ → List Op → Type 0
OpSpots p spots n g [] = Unit {0}
OpSpots p spots n g (o ∷ os) = ((spots (p.places.variable g o.result) ≡ true) × (p.places.variable g o.result < n)) × OpSpots p spots n g os

abbrev pub BlockSpots : Whole → (ℕ → Bool) → ℕ → ℕ → List Block → Type 0
BlockSpots p spots n g [] = Unit {0}
BlockSpots p spots n g (b ∷ bs) = OpSpots p spots n g b.ops × BlockSpots p spots n g bs

abbrev pub GraphSpots : Whole → (ℕ → Bool) → ℕ → ℕ → List Graph → Type 0
GraphSpots p spots n g [] = Unit {0}
GraphSpots p spots n g (graph ∷ graphs) = BlockSpots p spots n g graph.blocks × GraphSpots p spots n (suc g) graphs

-- each site has its cells, and those, as the results of operations, must not be in conflict
pub record IsPlaced (p : Whole) (spots : ℕ → Bool) (start : Assignment) : Type 0 where
  pub sites : length p.sites ≡ length start.same
  pub items : (s : ℕ) → s < length p.sites → p.places.item s < length start.cells
  pub keys : (s : ℕ) → s < length p.sites → p.places.key s < length start.cells
  pub item_spots : (s : ℕ) → spots (p.places.item s) ≡ true
  pub key_spots : (s : ℕ) → spots (p.places.key s) ≡ true
  pub results : GraphSpots p spots (length start.cells) zero p.graphs

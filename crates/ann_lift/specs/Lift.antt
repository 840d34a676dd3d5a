-- Assignments in which the parts of a program stand as in an annotation, and the variables and blocks of its graphs as what stands at the blocks.
use Rattle.std.specs.Prelude.{◌≡◌, ◌<◌, ℕ, ◌+◌, Bool, true, false, length, Some, slice_get}
use Rattle.flow_graph.specs.declared.graph.Graph.{Graph}
use Rattle.flow_meaning.specs.Machine.{block_in}
use Rattle.flow_stands.specs.Places.{Shape as Form, Go, Fork, Does, Plain, GiveBack, GiveUp, numbered}
use Rattle.ann_lattice.specs.Assign.{Assignment, at, mark}
use Rattle.ann_lattice.specs.Laws.{IsFormed}
use Rattle.ann_rules.specs.Program.{Whole}
use Rattle.ann_tree.specs.Annotation.{Annotation}
use Rattle.ann_lift.specs.Alike.{AreAlike}
use Rattle.ann_lift.specs.Spots.{Spot, Spots}

-- whether the block of this form has an operation, whose result is behind its inputs
abbrev pub has_result : Form → Bool
has_result (Does o args covers hands default norm) = true
has_result (Plain o jump) = true
has_result (Go jump) = false
has_result (Fork test so other_way) = false
has_result GiveBack = false
has_result GiveUp = false

-- what stands at a place of a block stands in the variable that has this place there, where the first one has the number `base`
abbrev pub StandsIn : Whole → Assignment → ℕ → ℕ → Spot → ℕ → Type 0
StandsIn p w f base s j = (at w (p.places.variable f (base + j)) ≡ s.element j) × (mark w (p.places.loose f (base + j)) ≡ s.unbound j)

pub record IsLift (p : Whole) (a : Annotation) (at_blocks : ℕ → Spots) (w : Assignment) : Type 0 where
  pub alike : AreAlike p w a.parts
  pub cells : length w.cells ≡ length a.parts.cells
  pub marks : length w.marks ≡ length a.parts.marks
  pub reached : (f : ℕ) → mark w (p.places.reached f) ≡ mark a.parts (p.places.reached f)
  pub loaded : (s : ℕ) → mark w (p.places.loaded s) ≡ mark a.parts (p.places.loaded s)
  pub unbound : (node : ℕ) → mark w (p.places.unbound node) ≡ mark a.parts (p.places.unbound node)
  pub blocks : (f b : ℕ) (graph : Graph) → slice_get p.graphs f ≡ Some graph → b < length graph.blocks → mark w (p.places.block f b) ≡ (at_blocks f b).reached
  pub inputs : (f b base m node : ℕ) (value : Bool) (form : Form) → block_in (slice_get p.graphs f) b ≡ Some (numbered base m node value form) → (j : ℕ) → j < m → StandsIn p w f base (at_blocks f b) j
  pub results : (f b base m node : ℕ) (value : Bool) (form : Form) → block_in (slice_get p.graphs f) b ≡ Some (numbered base m node value form) → has_result form ≡ true → StandsIn p w f base (at_blocks f b) m
  pub formed : (c : ℕ) → IsFormed (at w c)

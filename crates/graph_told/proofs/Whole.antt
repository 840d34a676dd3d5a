-- What narrowings tell is true on every run.
use Rattle.std.proofs.Common.{◌≡◌, ℕ, List, ◌∷◌, length, Option, Some, None, refl, sym, ap, ◌∙◌, arith}
use Rattle.std.specs.Prelude.{slice_get}
use Rattle.rpy_meaning.specs.Tree.{Program}
use Rattle.rpy_resolved.specs.declared.tree.Resolved.{Resolved}
use Rattle.resolved_meaning.specs.Trees.{program_of}
use Rattle.flow_graph.specs.declared.graph.Block.{Block as Code}
use Rattle.flow_graph.specs.declared.graph.Graph.{Graph}
use Rattle.flow_graph.specs.declared.graph.Graphs.{Graphs}
use Rattle.flow_meaning.specs.Machine.{block_in, At as Stood}
use Rattle.flow_meaning.specs.Meaning.{start}
use Rattle.flow_space.specs.Placed.{NodesAt}
use Rattle.flow_space.specs.Trees.{functions_of}
use Rattle.flow_trees.specs.Marks.{blocks_of}
use Rattle.graph_shapes.specs.Shapes.{HasShape}
use Rattle.graph_shapes.proofs.Functions.{function_stands, is_within}
use Rattle.graph_shapes.proofs.Shaped.{blocks_have_shapes}
use Rattle.graph_told.specs.Plain.{ArePlain}
use Rattle.graph_told.specs.Told.{NarrowingsTellTheTruth}
use Rattle.graph_told.proofs.Facts.{Facts, Free, KeptAt, Lifted}
use Rattle.graph_told.proofs.Stmts.{function_told}
use Rattle.graph_told.proofs.Machine as machine

module _ (r : Resolved) (gs : Graphs) (nodes : NodesAt r gs) (plain : ArePlain (functions_of r)) (P : Program) (sites : P.sites ≡ (program_of r).sites) where
  lifted : (f : ℕ) (graph : Graph) → slice_get gs.graphs f ≡ Some graph → Lifted P gs f 0 (length (blocks_of (slice_get gs.graphs f))) (λ J. Unit {0}) (λ J. Free J 0)
  lifted f graph e = let h = function_stands r gs nodes f graph e in function_told (program_of r) gs P sites f h.0 (plain f h.0 h.1) h.2

  abbrev facts_in : (f : ℕ) (o : Option Graph) → slice_get gs.graphs f ≡ o → Facts
  facts_in f None e = λ b w at. ⊥
  facts_in f (Some graph) e = (lifted f graph e).found

  none_there : (f b : ℕ) (code : Code) → slice_get gs.graphs f ≡ None → block_in (slice_get gs.graphs f) b ≡ Some code → ⊥
  none_there f b code e is = let no_block : None ≡ Some code = sym (ap (λ (g : Option Graph). block_in g b) e) ∙ is in cc

  kept_in : (f b : ℕ) (code : Code) → block_in (slice_get gs.graphs f) b ≡ Some code → (o : Option Graph) (e : slice_get gs.graphs f ≡ o) → KeptAt P (facts_in f o e) b code
  kept_in f b code is None e = absurd (none_there f b code e is)
  kept_in f b code is (Some graph) e = (lifted f graph e).kept (lifted f graph e).found (λ i l h w at. (λ x. x, λ x. x)) tt b (omega arith) (is_within (slice_get gs.graphs f) b code is) code is

  free_in : (f : ℕ) (code : Code) → block_in (slice_get gs.graphs f) 0 ≡ Some code → (o : Option Graph) (e : slice_get gs.graphs f ≡ o) → Free (facts_in f o e) 0
  free_in f code is None e = absurd (none_there f 0 code e is)
  free_in f code is (Some graph) e = (lifted f graph e).known (lifted f graph e).found (λ i l h w at. (λ x. x, λ x. x)) tt

  shaped_in : (f b : ℕ) (code : Code) → block_in (slice_get gs.graphs f) b ≡ Some code → (o : Option Graph) → slice_get gs.graphs f ≡ o → (blocks : List Code) × ((i : ℕ) → block_in (slice_get gs.graphs f) i ≡ slice_get blocks i) × HasShape blocks code
  shaped_in f b code is None e = absurd (none_there f b code e is)
  shaped_in f b code is (Some graph) e = (graph.blocks, (λ i. ap (λ (g : Option Graph). block_in g i) e), blocks_have_shapes r gs nodes f graph e b code (sym (ap (λ (g : Option Graph). block_in g b) e) ∙ is))

  abbrev facts_of : ℕ → Facts
  facts_of f = facts_in f (slice_get gs.graphs f) refl

pub narrowings_tell_the_truth : NarrowingsTellTheTruth
narrowings_tell_the_truth r gs nodes plain P sites args n f o ops e env instead frames w reaches vs g =
    let J = facts_of r gs nodes plain P sites in
    let kept = λ (f b : ℕ) (code : Code) (is : block_in (slice_get gs.graphs f) b ≡ Some code). kept_in r gs nodes plain P sites f b code is (slice_get gs.graphs f) refl in
    let free = λ (f : ℕ) (code : Code) (is : block_in (slice_get gs.graphs f) 0 ≡ Some code). free_in r gs nodes plain P sites f code is (slice_get gs.graphs f) refl in
    let shaped = λ (f b : ℕ) (code : Code) (is : block_in (slice_get gs.graphs f) b ≡ Some code). shaped_in r gs nodes plain P sites f b code is (slice_get gs.graphs f) refl in
    let sound = machine.sound_reaches P gs J kept free shaped (start P args n) (Stood f (o ∷ ops) e env instead frames w) reaches tt in
    machine.standing_told P gs J kept free shaped f o ops e env w vs sound.0 g

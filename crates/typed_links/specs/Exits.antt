-- What the exits of blocks pass on, give back, ask and raise is done, in a program that has types.
use Rattle.std.specs.Prelude.{◌≡◌, ◌≤◌, ◌<◌, ◌⊎◌, ℕ, true, false, List, length, slice_get, Some}
use Rattle.ann_element.specs.declared.element.Element.{Element}
use Rattle.ann_lattice.specs.Assign.{mark}
use Rattle.ann_lattice.specs.Join.{is_clash}
use Rattle.ann_lattice.specs.Row.{truth_of}
use Rattle.ann_lattice.specs.Shape.{shape}
use Rattle.ann_rules.specs.Rules.{needs}
use Rattle.flow_graph.specs.declared.graph.Block.{Block}
use Rattle.flow_graph.specs.declared.graph.Exit.{Exit}
use Rattle.flow_graph.specs.declared.graph.Exit.TheVariants as exit
use Rattle.flow_graph.specs.declared.graph.Graph.{Graph}
use Rattle.flow_space.specs.Placed.{NodesAt}
use Rattle.rtyper_data.specs.Seen.{Writing}
use Rattle.rtyper_program.specs.Graphs.{variables}
use Rattle.rtyper_program.specs.Links.{truth_test}
use Rattle.rtyper_program.specs.Seen.{element_at, is_block_reached, is_reached, operand_of}
use Rattle.growth_laws.specs.Growing.{Grows}
use Rattle.graph_counts.specs.Counts.{StandsUnder}
use Rattle.sound_rows.specs.Sound.{AllMet}
use Rattle.run_laws.specs.Points.{is_conflict}
use Rattle.block_laws.specs.Exits.{IsTested}
use Rattle.rtyped_runs.specs.Parts.{ExitsAreDone, IsThrown, StopsAt, names_behind}
use Rattle.typed_rows.specs.Programs.{Typed, IsTyped, first, last, numbers, setting, world}
use Rattle.typed_rows.specs.Rows.{lowered_in}
use Rattle.typed_links.specs.Links.{ConversionsStand}

-- What is known of the graphs of a program that passed its checks: they are those of its trees; all that they ask is met; the blocks that are reached are those with
-- a mark; and each variable has an element.
pub record IsChecked (t : Typed) : Type 0 where
  pub graphs : t.graphs.graphs ≡ t.known.graphs
  pub nodes : NodesAt t.known.program t.graphs
  pub met : AllMet t.whole.tables.classes t.assigned (needs t.whole t.assigned)
  pub marked : (g m : ℕ) → is_block_reached t.known.annotation g m ≡ true → mark t.assigned (t.whole.places.block g m) ≡ true
  pub seen : (g m : ℕ) (graph : Graph) (b : Block) → slice_get t.graphs.graphs g ≡ Some graph → slice_get graph.blocks m ≡ Some b → mark t.assigned (t.whole.places.block g m) ≡ true → is_block_reached t.known.annotation g m ≡ true
  pub under : (g m : ℕ) (graph : Graph) (b : Block) → slice_get t.graphs.graphs g ≡ Some graph → slice_get graph.blocks m ≡ Some b → StandsUnder (length (variables t.known (world t) g)) b

-- a test of a variable that has a truth stands, whatever was asked for before
abbrev pub TestsStand : Typed → Type 0
TestsStand t = (n : ℕ) (graph : Graph) (v : ℕ) (e : Element) (w : Writing) → element_at t.known.annotation n v ≡ Some e → is_clash (truth_of (shape e)) ≡ false → v < length (variables t.known (world t) n)
    → Grows (first t) w.found → Grows (truth_test (world t).around (operand_of (lowered_in t n graph) v) w).1.found (last t) → length (variables t.known (world t) n) ≤ length w.body.types
    → IsTested (setting t) (lowered_in t n graph) v w (truth_test (world t).around (operand_of (lowered_in t n graph) v) w).0 (truth_test (world t).around (operand_of (lowered_in t n graph) v) w).1

-- the variable that is asked has a truth, and what is raised is an exception
abbrev pub ExitFits : Typed → ℕ → Graph → Exit → Type 0
ExitFits t n graph (exit.If v there elsewhere) = (e : Element) → element_at t.known.annotation n v ≡ Some e → is_clash (truth_of (shape e)) ≡ false
ExitFits t n graph (exit.Raise v) = IsThrown (setting t) (lowered_in t n graph) v
ExitFits t n graph (exit.Return v) = is_reached t.known.annotation graph.function ≡ true
ExitFits t n graph other = Unit {0}

-- Of each block that is reached one operation never gives a value, or what its exit passes on, gives back, asks and raises is done.
abbrev pub ExitsAreDoneInTyped : Type 0
ExitsAreDoneInTyped = (t : Typed) → IsTyped t → IsChecked t → ConversionsStand t → TestsStand t
    → (g m : ℕ) (graph : Graph) (b : Block) → slice_get t.graphs.graphs g ≡ Some graph → slice_get graph.blocks m ≡ Some b → is_block_reached t.known.annotation g m ≡ true → graph.function ≡ g → ExitFits t g graph b.exit
    → StopsAt (setting t) g b.ops ⊎ ExitsAreDone (setting t) (numbers t) (lowered_in t g graph) (first t) (last t) (names_behind b.inputs b.ops) b.exit

-- Tests at the ends of blocks of a program that has types.
use Rattle.std.specs.Prelude.{◌≡◌, ◌<◌, ◌≤◌, ℕ, length, Some}
use Rattle.ann_element.specs.declared.element.Element.{Element}
use Rattle.flow_graph.specs.declared.graph.Graph.{Graph}
use Rattle.rtyper_data.specs.Seen.{Writing}
use Rattle.rtyper_program.specs.Graphs.{variables}
use Rattle.rtyper_program.specs.Links.{truth_test}
use Rattle.rtyper_program.specs.Seen.{element_at, operand_of}
use Rattle.conversion_laws.specs.Ordered.{IsLaid}
use Rattle.growth_laws.specs.Growing.{Grows}
use Rattle.block_laws.specs.Exits.{IsTested}
use Rattle.typed_rows.specs.Programs.{Typed, IsTyped, layout, world, setting, first, last, same}
use Rattle.typed_rows.specs.Rows.{lowered_in}

-- The variable of the n-th graph is one of those from the start, and its element has its structs.
pub record IsTest (t : Typed) (n v : ℕ) : Type 0 where
  pub element : Element
  pub is : element_at t.known.annotation n v ≡ Some element
  pub laid : IsLaid (layout t) (same t) element
  pub under : v < length (variables t.known (world t) n)

-- What is written for a test answers it, whatever was asked for before.
abbrev pub TestsAreAnswered : Type 0
TestsAreAnswered = (t : Typed) → IsTyped t → (n : ℕ) (graph : Graph) (v : ℕ) → IsTest t n v → (w : Writing)
    → Grows (first t) w.found → Grows (truth_test (world t).around (operand_of (lowered_in t n graph) v) w).1.found (last t) → length (variables t.known (world t) n) ≤ length w.body.types
    → IsTested (setting t) (lowered_in t n graph) v w (truth_test (world t).around (operand_of (lowered_in t n graph) v) w).0 (truth_test (world t).around (operand_of (lowered_in t n graph) v) w).1

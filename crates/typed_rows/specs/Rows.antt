-- What is known of one operation of a program that has types, and when what it is written as does what it does.
use Rattle.std.specs.Prelude.{◌≡◌, ◌≤◌, ◌<◌, ℕ, Bool, true, false, List, [], ◌∷◌, length, map, slice_get, Some}
use Rattle.ann_element.specs.declared.element.Element.{Element}
use Rattle.ann_lattice.specs.Kind.{some_nothing}
use Rattle.ann_lattice.specs.Shape.{shape}
use Rattle.flow_graph.specs.declared.graph.Graph.{Graph}
use Rattle.flow_graph.specs.declared.graph.Op.{Op}
use Rattle.rpy_meaning.specs.declared.row.RowOp.{RowOp}
use Rattle.rtyper_layout.specs.declared.kind.Kind.{Kind}
use Rattle.rtyper_layout.specs.Kinds.{kind_seen}
use Rattle.rtyper_data.specs.Seen.{Writing}
use Rattle.rtyper_program.specs.Blocks.{op_of}
use Rattle.rtyper_program.specs.Graphs.{lowered_graph, variables}
use Rattle.rtyper_program.specs.Raises.{has_exceptions}
use Rattle.rtyper_program.specs.Seen.{Lowered, element_at}
use Rattle.conversion_laws.specs.Ordered.{IsLaid, AllLaid}
use Rattle.growth_laws.specs.Growing.{Grows}
use Rattle.sound_rows.specs.Sound.{Fits}
use Rattle.run_laws.specs.Points.{is_conflict}
use Rattle.block_laws.specs.Links.{AllUnder}
use Rattle.rtyped_runs.specs.Laws.{ExceptionsAreLaid}
use Rattle.rtyped_runs.specs.Parts.{OpIsWritten}
use Rattle.typed_rows.specs.Programs.{Typed, IsTyped, layout, world, setting, first, last, same}

-- these are the elements of the variables
abbrev pub AreElements : Typed → ℕ → List ℕ → List Element → Type 0
AreElements t n [] [] = Unit {0}
AreElements t n (v ∷ vs) (e ∷ es) = (element_at t.known.annotation n v ≡ Some e) × AreElements t n vs es
AreElements t n vs es = ⊥

abbrev pub AllFree : List Element → Type 0
AllFree [] = Unit {0}
AllFree (e ∷ es) = (is_conflict (Some e) ≡ false) × AllFree es

-- Of an operation of the n-th graph: its operands and its result are variables with these elements, which are in no conflict and have their structs; there
-- is something of each operand; what its row asks is met; and where it may raise, exceptions have structs.
pub record IsOp (t : Typed) (n : ℕ) (o : Op) : Type 0 where
  pub elements : List Element
  pub are : AreElements t n o.args elements
  pub free : AllFree elements
  pub laid : AllLaid (layout t) (same t) elements
  pub some : some_nothing (map shape elements) ≡ false
  pub result : Element
  pub result_is : element_at t.known.annotation n o.result ≡ Some result
  pub result_laid : IsLaid (layout t) (same t) result
  pub fits : Fits t.whole t.assigned n o.op o.node (map shape elements) (shape result)
  pub under : AllUnder (length (variables t.known (world t) n)) o.args
  pub result_under : o.result < length (variables t.known (world t) n)
  pub raising : has_exceptions t.known.annotation n o ≡ true → ExceptionsAreLaid (setting t)

-- the graph, as it is lowered
abbrev pub lowered_in : Typed → ℕ → Graph → Lowered
lowered_in t n graph = lowered_graph t.known (world t) n graph

-- what the operation is written as does what it does, whatever was asked for before
abbrev pub IsWritten : Typed → ℕ → Graph → Op → Type 0
IsWritten t n graph o = (w : Writing) → Grows (first t) w.found → Grows (op_of (lowered_in t n graph) o w).found (last t) → length (variables t.known (world t) n) ≤ length w.body.types → OpIsWritten (setting t) (lowered_in t n graph) o w

-- each operation of this row, in every program that has types
abbrev pub RowIsWritten : RowOp → Type 0
RowIsWritten row = (t : Typed) → IsTyped t → (n : ℕ) (graph : Graph) (o : Op) → o.op ≡ row → IsOp t n o → IsWritten t n graph o

-- the same where what is not said of operands by their elements is so
abbrev pub RowIsWrittenWhere : (Typed → ℕ → Op → Type 0) → RowOp → Type 0
RowIsWrittenWhere Told row = (t : Typed) → IsTyped t → (n : ℕ) (graph : Graph) (o : Op) → o.op ≡ row → IsOp t n o → Told t n o → IsWritten t n graph o

-- ---- kinds of operands

abbrev pub kind_at : Typed → ℕ → ℕ → Kind
kind_at t n v = kind_seen (element_at t.known.annotation n v)

-- its first operand, or its second one, is there, and is of such a kind
abbrev pub FirstIs : (Kind → Bool) → Typed → ℕ → Op → Type 0
FirstIs of t n o = (v : ℕ) × (slice_get o.args 0 ≡ Some v) × (of (kind_at t n v) ≡ true)

abbrev pub SecondIs : (Kind → Bool) → Typed → ℕ → Op → Type 0
SecondIs of t n o = (v : ℕ) × (slice_get o.args 1 ≡ Some v) × (of (kind_at t n v) ≡ true)

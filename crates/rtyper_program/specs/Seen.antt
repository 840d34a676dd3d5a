-- What is known of a program, and of the graph that is lowered, as plain data.
use Rattle.std.specs.Prelude.{ℕ, Bool, false, List, slice_get, unwrap_or, Option, None, Some}
use Rattle.csub_tree.specs.declared.tree.COperand.TheVariants.{Var}
use Rattle.ll_code.specs.declared.program.LlType.{LlType}
use Rattle.flow_graph.specs.declared.graph.Graph.{Graph}
use Rattle.ann_element.specs.declared.annotation.Annotation.{Annotation}
use Rattle.ann_element.specs.declared.element.Element.{Element}
use Rattle.rpy_resolved.specs.declared.tree.Resolved.{Resolved}
use Rattle.rtyper_layout.specs.declared.kind.Kind.{Kind}
use Rattle.rtyper_layout.specs.Kinds.{kind_seen}
use Rattle.rtyper_layout.specs.Types.{type_seen}
use Rattle.rtyper_data.specs.Seen.{Operand, Place}
use Rattle.rtyper_class.specs.Seen.{World, the_world}
use Rattle.rtyper_program.specs.declared.known.Known.{Known as Parts}
use Rattle.rtyper_program.specs.declared.links.Lowered.{Lowered as Borrowed}

pub record Known : Type 0 where
  pub program : Resolved
  pub graphs : List Graph
  pub annotation : Annotation

abbrev pub the_known : Parts → Known
the_known k = record { program = k.program.now; graphs = k.graphs.now; annotation = k.annotation.now }

-- ---- what is reached, and what is known of variables

abbrev pub is_reached : Annotation → ℕ → Bool
is_reached a function = unwrap_or (slice_get a.reached function) false

abbrev pub is_one_reached : Option (List Bool) → ℕ → Bool
is_one_reached None block = false
is_one_reached (Some blocks) block = unwrap_or (slice_get blocks block) false

-- a block of a graph
abbrev pub is_block_reached : Annotation → ℕ → ℕ → Bool
is_block_reached a graph block = is_one_reached (slice_get a.blocks graph) block

abbrev pub element_in : Option (List Element) → ℕ → Option Element
element_in None v = None
element_in (Some elements) v = slice_get elements v

-- the element of a variable of a graph
abbrev pub element_at : Annotation → ℕ → ℕ → Option Element
element_at a graph v = element_in (slice_get a.vars graph) v

abbrev pub variable_kind : Annotation → ℕ → ℕ → Kind
variable_kind a graph v = kind_seen (element_at a graph v)

-- ---- the graph that is lowered: its number, and the type of its result

pub record Lowered : Type 0 where
  pub known : Known
  pub world : World
  pub number : ℕ
  pub graph : Graph
  pub result : LlType

abbrev pub the_lowered : Borrowed → Lowered
the_lowered l = record { known = the_known l.known; world = the_world l.around; number = l.number; graph = l.graph.now; result = l.result }

abbrev pub operand_of : Lowered → ℕ → Operand
operand_of l v = record { x = Var v; element = element_at l.known.annotation l.number v }

abbrev pub place_of : Lowered → ℕ → Place
place_of l v = record { variable = v; element = element_at l.known.annotation l.number v }

abbrev pub type_at : Lowered → ℕ → LlType
type_at l v = type_seen l.world.around.layout (element_at l.known.annotation l.number v)

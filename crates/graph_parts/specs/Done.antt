-- What is asked of the parts of a program that is lowered, where its flow graphs are those of a program: what is left is what operations, conversions and
-- tests are written as.
use Rattle.std.specs.Prelude.{◌≡◌, ◌≤◌, ℕ, true, false, List, [], length, slice_get, Some}
use Rattle.rpy_tree.specs.declared.program.Program.{Program}
use Rattle.rpy_resolved.specs.declared.tree.Resolved.{Resolved}
use Rattle.resolver_laws.specs.Made.{IsMadeOf}
use Rattle.flow_graph.specs.declared.graph.Block.{Block}
use Rattle.flow_graph.specs.declared.graph.Graph.{Graph}
use Rattle.flow_graph.specs.declared.graph.Graphs.{Graphs}
use Rattle.flow_graph.specs.declared.graph.Link.{Link}
use Rattle.flow_graph.specs.declared.graph.Op.{Op}
use Rattle.flow_graph.specs.Whole.{CountFrom}
use Rattle.flow_space.specs.Placed.{NodesAt}
use Rattle.class_desc.specs.Tables.{Tables}
use Rattle.ann_element.specs.declared.element.Element.{Element}
use Rattle.ann_layout.specs.Layout.{plan}
use Rattle.ll_build.specs.declared.needs.Numbers.{Numbers}
use Rattle.rtyper_data.specs.declared.found.Found.{Found}
use Rattle.rtyper_data.specs.Seen.{Writing}
use Rattle.rtyper_class.specs.Seen.{World}
use Rattle.rtyper_program.specs.Blocks.{op_of}
use Rattle.rtyper_program.specs.Graphs.{variables}
use Rattle.rtyper_program.specs.Raises.{exit_catches}
use Rattle.rtyper_program.specs.Seen.{Known, Lowered}
use Rattle.growth_laws.specs.Growing.{Grows}
use Rattle.run_laws.specs.Points.{Setting}
use Rattle.block_laws.specs.Links.{AllConvert, AllUnder, IsLink}
use Rattle.block_laws.specs.Operations.{AreRead}
use Rattle.rtyped_runs.specs.Parts.{OpIsWritten, OpsAreDone}
use Rattle.graph_shapes.specs.Shapes.{Joins}
use Rattle.graph_counts.specs.Counts.{IsReadAt}

-- The graph is one of those of a program.
pub record Stands (r : Resolved) (s : Setting) (l : Lowered) : Type 0 where
  pub nodes : NodesAt r s.graphs
  pub graph : slice_get s.graphs.graphs l.number ≡ Some l.graph

-- Of a block that catches nothing the operations are done where each is written as what it does, of operands that are in no conflict, or
-- never have values.
abbrev pub OperationsAreDone : Type 0
OperationsAreDone = (r : Resolved) (s : Setting) (l : Lowered) (first last : Found) → Stands r s l → (n : ℕ) (b : Block) → slice_get l.graph.blocks n ≡ Some b → exit_catches l.graph b.exit ≡ false → ((o : Op) → slice_get b.ops 0 ≡ Some o → AreRead s l.number o.args)
    → ((o : Op) (w : Writing) → slice_get b.ops 0 ≡ Some o → Grows first w.found → Grows (op_of l o w).found last → length (variables l.known l.world l.number) ≤ length w.body.types → OpIsWritten s l o w)
    → OpsAreDone s l first last b.inputs b.ops b.exit

-- A link of a block, which joins another, is done where that is reached and what is passed on is converted.
abbrev pub LinksAreDone : Type 0
LinksAreDone = (r : Resolved) (s : Setting) (numbers : Numbers) (l : Lowered) → Stands r s l → (names : List ℕ) (link : Link) (w : Writing) (joins : Joins l.graph.blocks names link)
    → AllUnder (length (variables l.known l.world l.number)) link.args → length (variables l.known l.world l.number) ≤ length w.body.types
    → s.reached l.number link.to ≡ true → AllConvert s numbers l link.args 0 joins.block.inputs ([], w) → IsLink s numbers l names link w

-- The first block of a graph has the parameters in its first variables, which are there.
pub record TakesThem (known : Known) (world : World) (f : ℕ) (params : List Element) (b : Block) : Type 0 where
  pub counted : (i v : ℕ) → slice_get b.inputs i ≡ Some v → v ≡ i
  pub enough : length params ≤ length b.inputs
  pub some : length params ≤ length (variables known world f)

abbrev pub ParametersAreTaken : Type 0
ParametersAreTaken = (p : Program) (gs : Graphs) (t : Tables) (r : Resolved) (known : Known) (world : World) → NodesAt r gs → IsMadeOf p r → IsReadAt (plan p gs t).places known.annotation → (f : ℕ) (graph : Graph) → slice_get gs.graphs f ≡ Some graph
    → (params : List Element) (b : Block) → slice_get known.annotation.params f ≡ Some params → slice_get graph.blocks 0 ≡ Some b → TakesThem known world f params b

-- and a graph has the number of its function, and a first block
abbrev pub GraphsBegin : Type 0
GraphsBegin = (r : Resolved) (s : Setting) (l : Lowered) → Stands r s l → CountFrom 0 s.graphs.graphs → (l.graph.function ≡ l.number) × ((b : Block) × (slice_get l.graph.blocks 0 ≡ Some b))

-- Annotations of the trees of a program that the checks have looked at, and the faults of types that these show.
use Rattle.std.specs.Prelude.{◌≡◌, ◌<◌, ◌≤◌, ◌^◌, ◌⊎◌, ℕ, true, false, length, slice_get, Some}
use Rattle.rpy_tree.specs.Places.{node_file, node_line}
use Rattle.rpy_tree.specs.declared.program.Program.{Program}
use Rattle.resolved_meaning.specs.Trees.{program_of}
use Rattle.resolver_laws.specs.Made.{HaveApartNodes}
use Rattle.flow_graph.specs.declared.graph.Graph.{Graph}
use Rattle.flow_graph.specs.declared.graph.Graphs.{Graphs}
use Rattle.flow_graph.specs.declared.graph.Op.{Op}
use Rattle.flow_space.specs.Placed.{StandFor}
use Rattle.flow_space.specs.Trees.{functions_of}
use Rattle.class_desc.specs.Tables.{tables}
use Rattle.ann_element.specs.declared.annotation.Annotation as element
use Rattle.ann_lattice.specs.Laws.{named}
use Rattle.ann_lattice.specs.Shape.{shape}
use Rattle.ann_laws.specs.Rows.{HasClasses}
use Rattle.ann_needs.specs.View.{nowhere, assignment, whole}
use Rattle.ann_needs.specs.declared.state.State.{State}
use Rattle.ann_layout.specs.Layout.{plan, planned}
use Rattle.ann_places.specs.Spots.{start}
use Rattle.ann_tree.specs.Annotation.{Annotation}
use Rattle.ann_read.specs.Reading.{In, ops_of, reading}
use Rattle.typing_laws.specs.Settled.{is_augmented}
use Rattle.typing_laws.specs.Settled.{element_at}
use Rattle.ann_least.specs.Least.{IsAnnotation, IsLeast}
use Rattle.rtyper_core.specs.declared.fault.FaultKind.{FaultKind}
use Rattle.rtyper_core.specs.declared.fault.FaultKind.TheVariants as kind
use Rattle.typing_laws.specs.Faults.{HasNoFault, IsLeastFault}
use Rattle.rpy_checked.specs.declared.fault.TypeKind.{TypeKind}
use Rattle.rpy_checked.specs.declared.fault.TypeKind.TheVariants as type

-- The classes are a tree of at most 2^32, there is a site, no number is the node of two functions, and no cell and no mark has the number of what does not
-- exist.
pub record HasTrees (p : Program) (gs : Graphs) : Type 0 where
  pub classes : HasClasses (tables p)
  pub sites : 0 < length p.sites
  pub nodes : HaveApartNodes p.modules
  pub cells : (planned p gs (tables p)).cells ≤ nowhere
  pub marks : (planned p gs (tables p)).marks ≤ nowhere

abbrev pub kind_of : TypeKind → FaultKind
kind_of type.ConstantModified = kind.ConstantModified
kind_of type.MaybeUnbound = kind.MaybeUnbound
kind_of type.Family = kind.Family
kind_of type.EntryResult = kind.EntryResult

-- an augmented assignment has the node: its operation gives the new value, which is that of no expression
abbrev pub IsAugmented : Graphs → ℕ → Type 0
IsAugmented gs node = (f : ℕ) × (graph : Graph) × (o : Op) × (slice_get gs.graphs f ≡ Some graph) × In (ops_of graph) o × (o.value ≡ false) × (is_augmented o.op ≡ true) × (o.node ≡ node)

module _ (p : Program) (gs : Graphs) where
  -- with the least site of each class, a node has the element that is read at it, but where it is that of an augmented assignment
  abbrev pub HasElements : element.Annotation → State → Type 0
  HasElements n s = (node : ℕ) → node < length n.nodes → (named s.same (shape (element_at n.nodes node)) ≡ named s.same ((reading (whole (plan p gs (tables p))) (assignment s)).element node)) ⊎ IsAugmented gs node

  -- what stands in these cells and marks, read at the nodes of the trees, shows no fault of types
  abbrev pub ShowsNoFault : State → Type 0
  ShowsNoFault s = HasNoFault p (whole (plan p gs (tables p))) (reading (whole (plan p gs (tables p))) (assignment s))

  -- the least fault of types of that annotation stands at a node in this file and on this line
  pub record ShowsLeastFault (s : State) (file line : ℕ) (k : TypeKind) : Type 0 where
    pub node : ℕ
    pub least : IsLeastFault p (whole (plan p gs (tables p))) (reading (whole (plan p gs (tables p))) (assignment s)) node (kind_of k)
    pub in_file : length p.modules < 2 ^ 32 → file ≡ node_file p.modules node
    pub on_line : line ≡ node_line p.modules node

module _ (p : Program) (gs : Graphs) (stand : StandFor p gs) where
  -- an annotation of the trees with bound names for which the graphs stand
  abbrev pub IsOfTrees : Annotation → Type 0
  IsOfTrees a = IsAnnotation (whole (plan p gs (tables p))) (program_of stand.resolved).sites (functions_of stand.resolved) (start (planned p gs (tables p))) a

  -- what stands in these cells and marks, read at the nodes of these trees, is their least annotation
  abbrev pub IsLeastOfTrees : State → Type 0
  IsLeastOfTrees s = IsLeast (whole (plan p gs (tables p))) (program_of stand.resolved).sites (functions_of stand.resolved) (start (planned p gs (tables p))) (reading (whole (plan p gs (tables p))) (assignment s))

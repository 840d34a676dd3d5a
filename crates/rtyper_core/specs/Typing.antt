-- The least fault of a program under an annotation.
use Rattle.std.specs.Prelude.{◌≡◌, ℕ, ◌+◌, ◌&&◌, not, Bool, true, false, if◌then◌else◌, List, [], ◌∷◌, slice_get, unwrap_or, Option, Some, None, Result, Ok, Err}
use Rattle.rpy_tree.specs.declared.program.FunInfo.{FunInfo}
use Rattle.rpy_tree.specs.declared.program.Program.{Program}
use Rattle.rpy_meaning.specs.declared.row.RowOp.{RowOp}
use Rattle.rpy_meaning.specs.declared.row.RowOp.TheVariants as row
use Rattle.flow_graph.specs.declared.graph.Op.{Op}
use Rattle.flow_graph.specs.declared.graph.Block.{Block}
use Rattle.flow_graph.specs.declared.graph.Graph.{Graph}
use Rattle.flow_graph.specs.declared.graph.Graphs.{Graphs}
use Rattle.ann_element.specs.declared.element.Element.{Element, out-Element}
use Rattle.ann_element.specs.declared.element.Element.TheOpen.{Element-F}
use Rattle.ann_element.specs.declared.annotation.Annotation.{Annotation}
use Rattle.class_desc.specs.Tables.{Tables}
use Rattle.rtyper_core.specs.Arity.{arities}
use Rattle.rtyper_core.specs.Call.{reach, fits}
use Rattle.rtyper_core.specs.Fault.{lesser, fault_if, told}
use Rattle.rtyper_core.specs.Modify.{is_marked, prebuilt, modifies_prebuilt}
use Rattle.rtyper_core.specs.declared.fault.Fault.{Fault}
use Rattle.rtyper_core.specs.declared.fault.FaultKind.TheVariants as kind
use Rattle.rtyper_core.specs.declared.fault.TypeFault.{TypeFault}
use Rattle.rtyper_core.specs.declared.fault.TypeFault.TheVariants as fault_of
use Rattle.rtyper_core.specs.declared.least.Facts.{Facts}

abbrev pub unreached_in : Element-F Element → Bool
unreached_in Element-F.Unreached = true
unreached_in other = false

abbrev pub is_unreached : Element → Bool
is_unreached e = unreached_in (out-Element e)

abbrev pub is_unreached_at : Option Element → Bool
is_unreached_at None = true
is_unreached_at (Some e) = is_unreached e

-- what a test says of a local
abbrev pub narrows : RowOp → Bool
narrows row.DropNone = true
narrows row.OnlyNone = true
narrows row.FalseNone = true
narrows (row.Lower c) = true
narrows row.NonNegative = true
narrows other = false

-- what stands in a block after an operation that gives no value is not reached
abbrev pub stops : List Element → Op → Bool
stops es op = is_unreached_at (slice_get es op.result) && not (narrows op.op)

abbrev pub marks_at : List (List Bool) → ℕ → List Bool
marks_at lists n = unwrap_or (slice_get lists n) []

abbrev pub elements_at : List (List Element) → ℕ → List Element
elements_at lists n = unwrap_or (slice_get lists n) []

-- one of these variables has no value
abbrev pub some_unreached : List Element → List ℕ → Bool
some_unreached es [] = false
some_unreached es (v ∷ vs) = if is_unreached_at (slice_get es v) then true else some_unreached es vs

module _ (facts : Facts) (t : Tables) (a : Annotation) where
  -- an operation whose operands are reached modifies what may be a constant, or calls functions that do not take its arguments
  abbrev pub op_fault : List Element → Op → Option Fault
  op_fault es op =
      if some_unreached es op.args then None
      else if modifies_prebuilt facts.prebuilt a.same es op then fault_if true op.node kind.ConstantModified
      else fault_if (not (fits facts.arities (reach t a.made es op))) op.node kind.Family

  abbrev pub ops_fault : List Element → List Op → Option Fault → Option Fault
  ops_fault es [] least = least
  ops_fault es (op ∷ ops) least =
      if stops es op then lesser least (op_fault es op) else ops_fault es ops (lesser least (op_fault es op))

  abbrev pub block_fault : List Element → Bool → Block → Option Fault → Option Fault
  block_fault es reached b least = if not reached then least else ops_fault es b.ops least

  abbrev pub blocks_fault : List Element → List Bool → ℕ → List Block → Option Fault → Option Fault
  blocks_fault es reached n [] least = least
  blocks_fault es reached n (b ∷ bs) least = blocks_fault es reached (n + 1) bs (block_fault es (is_marked reached n) b least)

  abbrev pub graph_fault : ℕ → Graph → Option Fault → Option Fault
  graph_fault n g least = blocks_fault (elements_at a.vars n) (marks_at a.blocks n) 0 g.blocks least

  abbrev pub graphs_fault : ℕ → List Graph → Option Fault → Option Fault
  graphs_fault n [] least = least
  graphs_fault n (g ∷ gs) least = graphs_fault (n + 1) gs (graph_fault n g least)

-- a node that reads a local which may be unbound
abbrev pub unbound_from : ℕ → List Bool → Option Fault → Option Fault
unbound_from n [] least = least
unbound_from n (mark ∷ marks) least = unbound_from (n + 1) marks (lesser least (fault_if mark n kind.MaybeUnbound))

abbrev pub unbound_fault : List Bool → Option Fault
unbound_fault marks = unbound_from 0 marks None

abbrev pub node_in : Option FunInfo → ℕ
node_in None = 0
node_in (Some info) = info.node

abbrev pub node_of : List FunInfo → ℕ → ℕ
node_of functions f = node_in (slice_get functions f)

abbrev pub result_in : Element-F Element → Bool
result_in Element-F.Unreached = true
result_in Element-F.IntPos = true
result_in Element-F.Int = true
result_in other = false

-- an integer, or no value
abbrev pub is_result : Element → Bool
is_result e = result_in (out-Element e)

abbrev pub is_result_at : Option Element → Bool
is_result_at None = true
is_result_at (Some e) = is_result e

abbrev pub entry_fault : Program → List Element → Option Fault
entry_fault p results = fault_if (not (is_result_at (slice_get results p.entry))) (node_of p.functions p.entry) kind.EntryResult

abbrev pub least_fault : Program → Graphs → Annotation → Tables → Option Fault
least_fault p gs a t =
    graphs_fault (record { arities = arities p.modules; prebuilt = prebuilt a.same p.sites }) t a 0 gs.graphs
    (lesser (entry_fault p a.results) (unbound_fault a.unbound))

-- the fault that is told, if there is one; want of memory may come instead
abbrev pub Tells : Option Fault → Result (Unit {0}) TypeFault → Type 0
Tells fault (Ok done) = fault ≡ None
Tells fault (Err fault_of.NoMem) = Unit {0}
Tells fault (Err other) = told fault ≡ Err other

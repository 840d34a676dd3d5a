-- The fault that is told is the least one of the annotation of the trees.
use Rattle.std.proofs.Common.{◌≡◌, ◌≤◌, ℕ, Option, Some, None, sym, ap, subst}
use Rattle.std.specs.Prelude.{Err}
use Rattle.rpy_tree.specs.declared.program.Program.{Program}
use Rattle.flow_graph.specs.declared.graph.Graphs.{Graphs}
use Rattle.class_desc.specs.Tables.{Tables, tables}
use Rattle.ann_element.specs.declared.annotation.Annotation.{Annotation}
use Rattle.ann_lattice.specs.Assign.{Fits}
use Rattle.ann_needs.specs.View.{nowhere, whole, assignment}
use Rattle.ann_needs.specs.declared.state.State.{State}
use Rattle.ann_layout.specs.Layout.{plan, planned}
use Rattle.ann_places.specs.Spots.{start}
use Rattle.ann_read.specs.Reading.{reading}
use Rattle.typing_laws.specs.Settled.{IsRead}
use Rattle.rtyper_core.specs.Fault.{told, shown_as}
use Rattle.rtyper_core.specs.Typing.{least_fault, Tells}
use Rattle.rtyper_core.specs.declared.fault.Fault.{Fault}
use Rattle.rtyper_core.specs.declared.fault.FaultKind.{FaultKind}
use Rattle.rtyper_core.specs.declared.fault.FaultKind.TheVariants as kind
use Rattle.rtyper_core.specs.declared.fault.TypeFault.{TypeFault}
use Rattle.rtyper_core.specs.declared.fault.TypeFault.TheVariants as typing
use Rattle.rpy_checked.specs.Settles.{HasTypes, HasFault, IsTold, IsAt}
use Rattle.rpy_checked.specs.declared.fault.CheckFault.TheVariants as fault
use Rattle.rpy_checked.specs.declared.fault.TypeKind.{TypeKind}
use Rattle.rpy_checked.specs.declared.fault.TypeKind.TheVariants as type
use Rattle.typing_laws.specs.Faults.{IsLeastFault}
use Rattle.typing_laws.specs.Least.{IsLeastOf}
use Rattle.check_laws.specs.Trees.{HasTrees, kind_of, ShowsNoFault, ShowsLeastFault}

-- ---- the fault that is shown is the one that was found

abbrev fault_at : ℕ → FaultKind → Fault
fault_at node k = record { node = node; kind = k }

same_kind : (n : ℕ) (k : FaultKind) (node : ℕ) (l : FaultKind) → shown_as n k ≡ shown_as node l → fault_at n k ≡ fault_at node l
same_kind n kind.ConstantModified node kind.ConstantModified h = let e : n ≡ node = cc in ap (λ m. fault_at m kind.ConstantModified) e
same_kind n kind.ConstantModified node kind.MaybeUnbound h = cc
same_kind n kind.ConstantModified node kind.Family h = cc
same_kind n kind.ConstantModified node kind.EntryResult h = cc
same_kind n kind.MaybeUnbound node kind.ConstantModified h = cc
same_kind n kind.MaybeUnbound node kind.MaybeUnbound h = let e : n ≡ node = cc in ap (λ m. fault_at m kind.MaybeUnbound) e
same_kind n kind.MaybeUnbound node kind.Family h = cc
same_kind n kind.MaybeUnbound node kind.EntryResult h = cc
same_kind n kind.Family node kind.ConstantModified h = cc
same_kind n kind.Family node kind.MaybeUnbound h = cc
same_kind n kind.Family node kind.Family h = let e : n ≡ node = cc in ap (λ m. fault_at m kind.Family) e
same_kind n kind.Family node kind.EntryResult h = cc
same_kind n kind.EntryResult node kind.ConstantModified h = cc
same_kind n kind.EntryResult node kind.MaybeUnbound h = cc
same_kind n kind.EntryResult node kind.Family h = cc
same_kind n kind.EntryResult node kind.EntryResult h = let e : n ≡ node = cc in ap (λ m. fault_at m kind.EntryResult) e

found : (o : Option Fault) (node : ℕ) (l : FaultKind) → told o ≡ Err (shown_as node l) → o ≡ Some (record { node = node; kind = l })
found None node l h = cc
found (Some f) node l h = let e : shown_as f.node f.kind ≡ shown_as node l = cc in λ j. Some (same_kind f.node f.kind node l e j)

-- ---- of the trees

module _ (of_trees : (p : Program) (gs : Graphs) (t : Tables) (n : Annotation) (s : State) → IsRead (planned p gs t) s n → Fits t.classes (start (planned p gs t)) (assignment s) → (planned p gs t).cells ≤ nowhere → (planned p gs t).marks ≤ nowhere
    → IsLeastOf p (whole (plan p gs t)) (reading (whole (plan p gs t)) (assignment s)) (least_fault p gs n t)) where
  pub none_shown : (p : Program) (gs : Graphs) (n : Annotation) (types : HasTypes p gs n) → HasTrees p gs → ShowsNoFault p gs types.state
  none_shown p gs n types trees =
      subst (λ o. IsLeastOf p (whole (plan p gs (tables p))) (reading (whole (plan p gs (tables p))) (assignment types.state)) o) types.typed
      (of_trees p gs (tables p) n types.state types.settled.read (types.settled.fits trees.classes trees.sites) trees.cells trees.marks)

  module _ (p : Program) (file line : ℕ) (k : TypeKind) (f : HasFault p (fault.Typing file line k)) (trees : HasTrees p f.graphs) where
    abbrev Least : ℕ → FaultKind → Type 0
    Least node l = IsLeastFault p (whole (plan p f.graphs (tables p))) (reading (whole (plan p f.graphs (tables p))) (assignment f.state)) node l

    least_at : (node : ℕ) (l : FaultKind) → told (least_fault p f.graphs f.annotation (tables p)) ≡ Err (shown_as node l) → Least node l
    least_at node l h =
        subst (λ o. IsLeastOf p (whole (plan p f.graphs (tables p))) (reading (whole (plan p f.graphs (tables p))) (assignment f.state)) o) (found (least_fault p f.graphs f.annotation (tables p)) node l h)
        (of_trees p f.graphs (tables p) f.annotation f.state f.settled.read (f.settled.fits trees.classes trees.sites) trees.cells trees.marks)

    shown_at : (node : ℕ) (l : TypeKind) → Least node (kind_of l) → IsAt p node l (fault.Typing file line k) → ShowsLeastFault p f.graphs f.state file line k
    shown_at node l least at = record { node = node; least = subst (λ (m : TypeKind). Least node (kind_of m)) (sym at.1.1) least; in_file = at.0; on_line = at.1.0 }

    by_fault : (e : TypeFault) → Tells (least_fault p f.graphs f.annotation (tables p)) (Err e) → IsTold p e (fault.Typing file line k) → ShowsLeastFault p f.graphs f.state file line k
    by_fault (typing.ConstantModified node) tells is = shown_at node type.ConstantModified (least_at node kind.ConstantModified tells) is
    by_fault (typing.MaybeUnbound node) tells is = shown_at node type.MaybeUnbound (least_at node kind.MaybeUnbound tells) is
    by_fault (typing.Family node) tells is = shown_at node type.Family (least_at node kind.Family tells) is
    by_fault (typing.EntryResult node) tells is = shown_at node type.EntryResult (least_at node kind.EntryResult tells) is
    by_fault typing.NoMem tells is = cc

    pub least_shown : ShowsLeastFault p f.graphs f.state file line k
    least_shown = by_fault f.fault f.tells f.told

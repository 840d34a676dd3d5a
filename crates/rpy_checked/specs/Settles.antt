-- What the checks of a program say of it.
use Rattle.std.specs.Prelude.{◌≡◌, ◌<◌, ◌≤◌, ◌-◌, ◌^◌, ℕ, List, length, Option, None, Result, Ok, Err}
use Rattle.rpy_tree.specs.Places.{node_count, node_file, node_line}
use Rattle.rpy_tree.specs.declared.program.Program.{Program}
use Rattle.flow_graph.specs.declared.graph.Graphs.{Graphs}
use Rattle.flow_graph.specs.Whole.{Covers}
use Rattle.flow_space.specs.Placed.{StandFor}
use Rattle.class_desc.specs.Tables.{Tables, tables}
use Rattle.ann_element.specs.declared.annotation.Annotation.{Annotation}
use Rattle.ann_needs.specs.View.{nowhere}
use Rattle.ann_needs.specs.declared.state.State.{State}
use Rattle.ann_layout.specs.Layout.{plan, planned}
use Rattle.ann_layout.specs.declared.layout.Planned.{Planned}
use Rattle.ann_places.specs.Spots.{start}
use Rattle.ann_shown.specs.Told.{IsMet}
use Rattle.ann_shown.specs.declared.told.Told.{Told}
use Rattle.ann_settled.specs.Settled as settled
use Rattle.rtyper_core.specs.Typing.{least_fault, Tells}
use Rattle.rtyper_core.specs.declared.fault.TypeFault.{TypeFault}
use Rattle.rtyper_core.specs.declared.fault.TypeFault.TheVariants as typing
use Rattle.rpy_checked.specs.declared.fault.CheckFault.{CheckFault}
use Rattle.rpy_checked.specs.declared.fault.CheckFault.TheVariants as fault
use Rattle.rpy_checked.specs.declared.fault.TypeKind.{TypeKind}
use Rattle.rpy_checked.specs.declared.fault.TypeKind.TheVariants as type
use Rattle.rpy_checked.specs.declared.program.Checked.{Checked}
use Rattle.rpy_checked.specs.Words.{conflict_words}

-- ---- conflicts

-- the place of the file of a node
abbrev pub IsFile : Program → ℕ → ℕ → Type 0
IsFile p node file = length p.modules < 2 ^ 32 → file ≡ node_file p.modules node

-- a conflict is shown by its file, its line and its words; or memory was wanting
abbrev pub IsShown : Program → Told → CheckFault → Type 0
IsShown p t (fault.Conflict file line words) = IsFile p t.spot.node file × ((line ≡ node_line p.modules t.spot.node) × (words ≡ conflict_words p t))
IsShown p t (fault.Typing file line kind) = ⊥
IsShown p t fault.NoMem = Unit {0}

-- ---- faults of types

-- a fault of this kind in the file and on the line of the node
abbrev pub IsAt : Program → ℕ → TypeKind → CheckFault → Type 0
IsAt p node kind (fault.Typing file line told) = IsFile p node file × ((line ≡ node_line p.modules node) × (told ≡ kind))
IsAt p node kind other = ⊥

-- how a fault of types is told
abbrev pub IsTold : Program → TypeFault → CheckFault → Type 0
IsTold p (typing.ConstantModified node) e = IsAt p node type.ConstantModified e
IsTold p (typing.MaybeUnbound node) e = IsAt p node type.MaybeUnbound e
IsTold p (typing.Family node) e = IsAt p node type.Family e
IsTold p (typing.EntryResult node) e = IsAt p node type.EntryResult e
IsTold p typing.NoMem e = e ≡ fault.NoMem

-- no fault; or the least one, or want of memory
abbrev pub Types : Program → Graphs → Annotation → Tables → Result (Unit {0}) CheckFault → Type 0
Types p gs n t (Ok u) = least_fault p gs n t ≡ None
Types p gs n t (Err e) = (f : TypeFault) × Tells (least_fault p gs n t) (Err f) × IsTold p f e

-- ---- annotations

abbrev pub Annotates : Program → Planned → Result Annotation CheckFault → Type 0
Annotates p q (Ok n) = (s : State) × (settled.IsRead q s n × (settled.IsClosed q s × (settled.IsGrown p q s × settled.Grew q (settled.begin p q) s)))
Annotates p q (Err (fault.Conflict file line words)) =
    settled.NoneFree p q × ((t : Told) × (IsMet p q.plan (settled.begin p q) t × IsShown p t (fault.Conflict file line words)))
Annotates p q (Err (fault.Typing file line kind)) = ⊥
Annotates p q (Err fault.NoMem) = Unit {0}

abbrev pub checked : Planned → Annotation → Checked
checked q n = record { graphs = q.plan.graphs; classes = q.plan.classes; annotation = n }

-- ---- programs

-- The numbers of nodes and of classes are 32 bits wide, and no cell and no mark has the number of what does not exist.
pub record IsSmall (p : Program) (gs : Graphs) : Type 0 where
  pub nodes : node_count p.modules < 2 ^ 32
  pub classes : length p.classes < 2 ^ 32 - 1
  pub cells : (planned p gs (tables p)).cells ≤ nowhere
  pub marks : (planned p gs (tables p)).marks ≤ nowhere

-- Graphs that stand for the program's functions, with the least annotation that is closed under all that they ask and free of conflict; no operation
-- shows a fault of types.
pub record HasTypes (p : Program) (gs : Graphs) (n : Annotation) : Type 0 where
  pub covers : Covers p gs
  pub stand : StandFor p gs
  pub small : IsSmall p gs
  pub state : State
  pub settled : settled.IsSettled p gs (tables p) n state
  pub typed : least_fault p gs n (tables p) ≡ None

-- By graphs that stand for the program's functions, no annotation is closed under all that they ask and free of conflict. Growing, step by step from
-- the annotation in which nothing is reached, meets a conflict first, and that is shown.
pub record HasConflict (p : Program) (e : CheckFault) : Type 0 where
  pub graphs : Graphs
  pub covers : Covers p graphs
  pub stand : StandFor p graphs
  pub small : IsSmall p graphs
  pub none : settled.NoneSettled p graphs (tables p)
  pub told : Told
  pub met : IsMet p (plan p graphs (tables p)) (start (planned p graphs (tables p))) told
  pub shown : IsShown p told e

-- by such graphs, with the least annotation, there is a fault of types, and the least one is told
pub record HasFault (p : Program) (e : CheckFault) : Type 0 where
  pub graphs : Graphs
  pub covers : Covers p graphs
  pub stand : StandFor p graphs
  pub small : IsSmall p graphs
  pub annotation : Annotation
  pub state : State
  pub settled : settled.IsSettled p graphs (tables p) annotation state
  pub fault : TypeFault
  pub tells : Tells (least_fault p graphs annotation (tables p)) (Err fault)
  pub told : IsTold p fault e

abbrev pub IsRefused : Program → CheckFault → Type 0
IsRefused p (fault.Conflict file line words) = HasConflict p (fault.Conflict file line words)
IsRefused p (fault.Typing file line kind) = HasFault p (fault.Typing file line kind)
IsRefused p fault.NoMem = Unit {0}

abbrev pub Checks : Program → Result Checked CheckFault → Type 0
Checks p (Ok c) = HasTypes p c.graphs c.annotation
Checks p (Err e) = IsRefused p e

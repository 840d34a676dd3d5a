-- What closing a program's plan came to, said of the program.
use Rattle.std.proofs.Common.{◌≡◌, ◌<◌, ◌≤◌, ◌-◌, ◌^◌, length, Result, Ok, Err, refl, sym, ap, ◌∙◌, subst}
use Rattle.rpy_tree.specs.Places.{node_count}
use Rattle.rpy_tree.specs.declared.program.Program.{Program}
use Rattle.flow_graph.specs.declared.graph.Graphs.{Graphs}
use Rattle.flow_graph.specs.Whole.{Covers}
use Rattle.flow_space.specs.Placed.{StandFor}
use Rattle.class_desc.specs.Tables.{Tables, tables}
use Rattle.ann_element.specs.declared.annotation.Annotation.{Annotation}
use Rattle.ann_needs.specs.View.{nowhere}
use Rattle.ann_layout.specs.Layout.{plan, planned}
use Rattle.ann_layout.specs.declared.layout.Planned.{Planned}
use Rattle.ann_shown.specs.Told.{IsPlanOf}
use Rattle.ann_settled.specs.Settled as settled
use Rattle.ann_settled.proofs.Ending.{basis}
use Rattle.rtyper_core.specs.Typing.{Tells}
use Rattle.rtyper_core.specs.declared.fault.TypeFault.{TypeFault}
use Rattle.rtyper_core.specs.declared.fault.TypeFault.TheVariants as typing
use Rattle.rpy_checked.specs.declared.fault.CheckFault.{CheckFault}
use Rattle.rpy_checked.specs.declared.fault.CheckFault.TheVariants as fault
use Rattle.rpy_checked.specs.Settles as spec

-- ---- the plan is that of the program

pub is_plan : (p : Program) (gs : Graphs) (t : Tables) (q : Planned) → t ≡ tables p → q ≡ planned p gs t → IsPlanOf p q.plan
is_plan p gs t q e f = record { is = ap (λ (r : Planned). r.plan) is ∙ ap (λ (r : Planned). plan p r.plan.graphs (tables p)) (sym is) }
  where
    is : q ≡ planned p gs (tables p)
    is = subst (λ u. q ≡ planned p gs u) e f

-- what is counted is small
pub are_few : (p : Program) (gs : Graphs) (t : Tables) (q : Planned) → t ≡ tables p → q ≡ planned p gs t → node_count p.modules < 2 ^ 32 → length p.classes < 2 ^ 32 - 1 → q.cells ≤ nowhere → q.marks ≤ nowhere → spec.IsSmall p gs
are_few p gs t q e f nodes classes cells marks =
    record { nodes = nodes; classes = classes; cells = subst (λ (r : Planned). r.cells ≤ nowhere) is cells; marks = subst (λ (r : Planned). r.marks ≤ nowhere) is marks }
  where
    is : q ≡ planned p gs (tables p)
    is = subst (λ u. q ≡ planned p gs u) e f

module _ (p : Program) (gs : Graphs) (covers : Covers p gs) (stand : StandFor p gs) (small : spec.IsSmall p gs) where
  -- ---- an annotation was found

  settled_by : (n : Annotation) (h : spec.Annotates p (planned p gs (tables p)) (Ok n)) → settled.IsSettled p gs (tables p) n h.0
  settled_by n h = record {
    read = h.1.0;
    closed = h.1.1.0;
    grew = h.1.1.1.1;
    fits = λ classes lt.
        let grown = h.1.1.1.0 (basis p gs (tables p) classes lt) in
        record { cells = grown.cells; marks = grown.marks; table = grown.table; above = grown.above; formed = grown.formed h.1.1.0.free };
    least = λ classes lt. (h.1.1.1.0 (basis p gs (tables p) classes lt)).least;
  }

  types_by : (n : Annotation) → spec.Annotates p (planned p gs (tables p)) (Ok n) → spec.Types p gs n (tables p) (Ok tt) → spec.HasTypes p gs n
  types_by n h t = record { covers = covers; stand = stand; small = small; state = h.0; settled = settled_by n h; typed = t }

  pub types : (t : Tables) (q : Planned) (n : Annotation) → t ≡ tables p → q ≡ planned p gs t → spec.Annotates p q (Ok n) → spec.Types p q.plan.graphs n q.plan.classes (Ok tt) → spec.Checks p (Ok (spec.checked q n))
  types t q n e f h typed =
      let is : q ≡ planned p gs (tables p) = subst (λ u. q ≡ planned p gs u) e f in
      subst (λ r. spec.Checks p (Ok (spec.checked r n))) (sym is) (types_by n (subst (λ r. spec.Annotates p r (Ok n)) is h) (subst (λ r. spec.Types p r.plan.graphs n r.plan.classes (Ok tt)) is typed))

  faults_by : (n : Annotation) → spec.Annotates p (planned p gs (tables p)) (Ok n) → (x : CheckFault) → spec.Types p gs n (tables p) (Err x) → spec.IsRefused p x
  faults_by n h (fault.Typing file line kind) t = record { graphs = gs; covers = covers; stand = stand; small = small; annotation = n; state = h.0; settled = settled_by n h; fault = t.0; tells = t.1; told = t.2 }
  faults_by n h fault.NoMem t = tt
  faults_by n h (fault.Conflict file line words) (typing.ConstantModified node, tells, told) = absurd told
  faults_by n h (fault.Conflict file line words) (typing.MaybeUnbound node, tells, told) = absurd told
  faults_by n h (fault.Conflict file line words) (typing.Family node, tells, told) = absurd told
  faults_by n h (fault.Conflict file line words) (typing.EntryResult node, tells, told) = absurd told
  faults_by n h (fault.Conflict file line words) (typing.NoMem, tells, told) = absurd (no_memory told)
    where
      no_memory : fault.Conflict file line words ≡ fault.NoMem → ⊥
      no_memory e = cc

  pub faults : (t : Tables) (q : Planned) (n : Annotation) → t ≡ tables p → q ≡ planned p gs t → spec.Annotates p q (Ok n) → (x : CheckFault) → spec.Types p q.plan.graphs n q.plan.classes (Err x) → spec.IsRefused p x
  faults t q n e f h x typed =
      let is : q ≡ planned p gs (tables p) = subst (λ u. q ≡ planned p gs u) e f in
      faults_by n (subst (λ r. spec.Annotates p r (Ok n)) is h) x (subst (λ r. spec.Types p r.plan.graphs n r.plan.classes (Err x)) is typed)

  -- ---- none was

  refused_by : (x : CheckFault) → spec.Annotates p (planned p gs (tables p)) (Err x) → spec.IsRefused p x
  refused_by (fault.Conflict file line words) h = record {
    graphs = gs;
    covers = covers;
    stand = stand;
    small = small;
    none = λ classes lt. h.0 (basis p gs (tables p) classes lt);
    told = h.1.0;
    met = h.1.1.0;
    shown = h.1.1.1;
  }
  refused_by (fault.Typing file line kind) h = absurd h
  refused_by fault.NoMem h = tt

  pub refused : (t : Tables) (q : Planned) → t ≡ tables p → q ≡ planned p gs t → (x : CheckFault) → spec.Annotates p q (Err x) → spec.IsRefused p x
  refused t q e f x h =
      let is : q ≡ planned p gs (tables p) = subst (λ u. q ≡ planned p gs u) e f in
      refused_by x (subst (λ r. spec.Annotates p r (Err x)) is h)

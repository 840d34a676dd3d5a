-- The least fault of a program is that of its trees.
use Rattle.std.proofs.Common.{◌≡◌, ◌+◌, ◌<◌, ◌≤◌, ◌⊎◌, inl, inr, ℕ, zero, suc, Bool, true, false, List, [], ◌∷◌, length, Option, Some, None, refl, sym, ap, ◌∙◌, subst, arith}
use Rattle.std.specs.Prelude.{not, slice_get, unwrap_or}
use Rattle.std.proofs.lemmas.Bool.{false≢true}
use Rattle.std.proofs.lemmas.List.{length-map, length-replicate}
use Rattle.rpy_tree.specs.declared.program.Program.{Program}
use Rattle.flow_graph.specs.declared.graph.Graphs.{Graphs}
use Rattle.class_desc.specs.Tables.{Tables}
use Rattle.ann_element.specs.Sites.{leader}
use Rattle.ann_element.specs.declared.element.Element.{Element}
use Rattle.ann_element.specs.declared.element.Element.TheOpen.{Element-F}
use Rattle.ann_element.specs.declared.element.Element.TheFolds.{map-Element}
use Rattle.ann_element.specs.declared.annotation.Annotation.{Annotation}
use Rattle.ann_lattice.specs.Laws.{IsFormed}
use Rattle.ann_lattice.specs.Shape.{Shape, Nothing, shape, shape_step}
use Rattle.ann_lattice.specs.Assign.{Assignment, Fits, at, mark}
use Rattle.ann_layout.specs.Layout.{plan, planned}
use Rattle.ann_needs.specs.View.{nowhere, whole, assignment}
use Rattle.ann_needs.specs.declared.plan.Places.{Places}
use Rattle.ann_needs.specs.declared.state.State.{State}
use Rattle.ann_places.specs.Spots.{start}
use Rattle.ann_places.proofs.Spotting.{is_placed}
use Rattle.ann_rules.specs.Program.{Whole}
use Rattle.ann_settled.specs.Read.{annotation}
use Rattle.ann_settled.specs.Settled.{IsRead}
use Rattle.ann_read.specs.Reading.{reading}
use Rattle.rtyper_core.specs.Fault.{lesser, fault_if}
use Rattle.rtyper_core.specs.Typing.{result_in, is_result_at, node_of, entry_fault, unbound_from, unbound_fault, least_fault}
use Rattle.rtyper_core.specs.declared.fault.Fault.{Fault}
use Rattle.rtyper_core.specs.declared.fault.FaultKind.{FaultKind}
use Rattle.rtyper_core.specs.declared.fault.FaultKind.TheVariants as kind
use Rattle.typing_laws.specs.Faults.{is_integer, IsFault}
use Rattle.typing_laws.specs.Least.{IsLeastOf}
use Rattle.typing_laws.proofs.Lesser.{IsLeast, alike, either, of_one}
use Rattle.typing_laws.proofs.Operands.{seen, by_kind}
use Rattle.typing_laws.proofs.Cells.{cell_seen, mark_seen}
use Rattle.typing_laws.proofs.Shown.{ShownAs, Shown, OfGraphs, graphs_least}

-- ---- locals that may be unbound

abbrev One : Bool → ℕ → FaultKind → Fault → Type 0
One holds node k x = (holds ≡ true) × (x ≡ record { node = node; kind = k })

abbrev Loose : ℕ → List Bool → Fault → Type 0
Loose n [] x = ⊥
Loose n (m ∷ ms) x = One m n kind.MaybeUnbound x ⊎ Loose (n + 1) ms x

loose_least : (n : ℕ) (ms : List Bool) (least : Option Fault) (S : Fault → Type 0) → IsLeast least S → IsLeast (unbound_from n ms least) (λ x. S x ⊎ Loose n ms x)
loose_least n [] least S h = alike least S (λ x. S x ⊎ ⊥) (λ x i. inl i) (λ x i. elim i [ inl j ↦ j | inr j ↦ absurd j ]) h
loose_least n (m ∷ ms) least S h =
    let now = lesser least (fault_if m n kind.MaybeUnbound) in
    alike (unbound_from (n + 1) ms now) (λ x. (S x ⊎ One m n kind.MaybeUnbound x) ⊎ Loose (n + 1) ms x) (λ x. S x ⊎ Loose n (m ∷ ms) x)
    (λ x i. elim i [ inl j ↦ elim j [ inl l ↦ inl l | inr l ↦ inr (inl l) ] | inr j ↦ inr (inr j) ])
    (λ x i. elim i [ inl j ↦ inl (inl j) | inr j ↦ elim j [ inl l ↦ inl (inr l) | inr l ↦ inr l ] ])
    (loose_least (n + 1) ms now (λ x. S x ⊎ One m n kind.MaybeUnbound x) (either least (fault_if m n kind.MaybeUnbound) S (One m n kind.MaybeUnbound) h (of_one m n kind.MaybeUnbound)))

-- it stands at the place of its node
pub record Placed (n : ℕ) (ms : List Bool) (x : Fault) : Type 0 where
  pub place : ℕ
  pub is : x ≡ record { node = n + place; kind = kind.MaybeUnbound }
  pub marked : unwrap_or (slice_get ms place) false ≡ true

loose_placed : (n : ℕ) (ms : List Bool) (x : Fault) → Loose n ms x → Placed n ms x
loose_placed n [] x h = absurd h
loose_placed n (m ∷ ms) x (inl h) = let z : n ≡ n + 0 = omega arith in record { place = 0; is = h.1 ∙ (λ j. record { node = z j; kind = kind.MaybeUnbound }); marked = h.0 }
loose_placed n (m ∷ ms) x (inr h) =
    let r = loose_placed (n + 1) ms x h in
    let e : n + 1 + r.place ≡ n + suc r.place = omega arith in
    record { place = suc r.place; is = r.is ∙ (λ j. record { node = e j; kind = kind.MaybeUnbound }); marked = r.marked }

placed_loose : (n : ℕ) (ms : List Bool) (i : ℕ) → unwrap_or (slice_get ms i) false ≡ true → Loose n ms (record { node = n + i; kind = kind.MaybeUnbound })
placed_loose n [] i h = absurd (false≢true h)
placed_loose n (m ∷ ms) zero h = let z : n + 0 ≡ n = omega arith in inl (h, λ j. record { node = z j; kind = kind.MaybeUnbound })
placed_loose n (m ∷ ms) (suc i) h =
    let e : n + 1 + i ≡ n + suc i = omega arith in
    inr (subst (λ l. Loose (n + 1) ms (record { node = l; kind = kind.MaybeUnbound })) e (placed_loose (n + 1) ms i h))

-- ---- the result of the entry point

integer_is : (o : Option Element) → is_result_at o ≡ is_integer (seen o)
integer_is None = refl
integer_is (Some e) = by_kind result_in is_integer of_kind e
  where
    of_kind : (x : Element-F Element) → result_in x ≡ is_integer (shape_step (map-Element Element Shape shape x))
    of_kind Element-F.Unreached = refl
    of_kind Element-F.IntPos = refl
    of_kind Element-F.Int = refl
    of_kind _ = refl

not_true : (b : Bool) → not b ≡ true → b ≡ false
not_true true h = absurd (false≢true h)
not_true false h = refl

-- ---- the whole

module _ (p : Program) (gs : Graphs) (t : Tables) (nodes : List Element) (s : State) (few_cells : length s.cells ≤ nowhere) (few_marks : length s.marks ≤ nowhere)
    (inside : (i : ℕ) → leader s.same i < length p.sites) (formed : (c : ℕ) → IsFormed (at (assignment s) c)) where
  abbrev W : Whole
  W = whole (plan p gs t)

  abbrev w : Assignment
  w = assignment s

  abbrev P : Places
  P = (plan p gs t).places

  abbrev N : Annotation
  N = annotation s t nodes P

  abbrev unfit : Bool
  unfit = not (is_result_at (slice_get N.results p.entry))

  abbrev Entry : Fault → Type 0
  Entry x = One unfit (node_of p.functions p.entry) kind.EntryResult x

  abbrev Of : Fault → Type 0
  Of x = (Entry x ⊎ Loose 0 N.unbound x) ⊎ Shown (λ flaw node. OfGraphs p gs t nodes s few_cells few_marks inside formed 0 gs.graphs flaw node) x

  unbound_least : IsLeast (unbound_fault N.unbound) (Loose 0 N.unbound)
  unbound_least =
      alike (unbound_fault N.unbound) (λ x. ⊥ ⊎ Loose 0 N.unbound x) (Loose 0 N.unbound) (λ x i. elim i [ inl j ↦ absurd j | inr j ↦ j ]) (λ x i. inr i)
      (loose_least 0 N.unbound None (λ x. ⊥) (λ x i. i))

  all_least : IsLeast (least_fault p gs N t) Of
  all_least =
      graphs_least p gs t nodes s few_cells few_marks inside formed 0 gs.graphs (lesser (entry_fault p N.results) (unbound_fault N.unbound)) (λ x. Entry x ⊎ Loose 0 N.unbound x)
      (either (entry_fault p N.results) (unbound_fault N.unbound) Entry (Loose 0 N.unbound) (of_one unfit (node_of p.functions p.entry) kind.EntryResult) unbound_least)

  abbrev Is : ℕ → FaultKind → Type 0
  Is node k = IsFault p W (reading W w) node k

  unfit_is : unfit ≡ not (is_integer (at w (W.places.result p.entry)))
  unfit_is = ap not (integer_is (slice_get N.results p.entry) ∙ ap is_integer (cell_seen s few_cells few_marks P.results p.entry))

  shown_is : (node : ℕ) (k : FaultKind) → ShownAs (λ flaw n. OfGraphs p gs t nodes s few_cells few_marks inside formed 0 gs.graphs flaw n) node k → Is node k
  shown_is node kind.ConstantModified h = h
  shown_is node kind.MaybeUnbound h = absurd h
  shown_is node kind.Family h = h
  shown_is node kind.EntryResult h = absurd h

  there : (x : Fault) → Of x → Is x.node x.kind
  there x (inl (inl h)) = subst (λ (y : Fault). Is y.node y.kind) (sym h.1) (refl, not_true (is_integer (at w (W.places.result p.entry))) (sym unfit_is ∙ h.0))
  there x (inl (inr h)) =
      let r = loose_placed 0 N.unbound x h in
      let z : r.place ≡ 0 + r.place = omega arith in
      subst (λ (y : Fault). Is y.node y.kind) (sym r.is) (subst (λ i. mark w (W.places.unbound i) ≡ true) z (sym (mark_seen s few_cells few_marks P.unbound r.place) ∙ r.marked))
  there x (inr h) = shown_is x.node x.kind h

  back : (node : ℕ) (k : FaultKind) → Is node k → Of (record { node = node; kind = k })
  back node kind.ConstantModified h = inr h
  back node kind.MaybeUnbound h =
      let z : 0 + node ≡ node = omega arith in
      inl (inr (subst (λ i. Loose 0 N.unbound (record { node = i; kind = kind.MaybeUnbound })) z (placed_loose 0 N.unbound node (mark_seen s few_cells few_marks P.unbound node ∙ h))))
  back node kind.Family h = inr h
  back node kind.EntryResult h = inl (inl (unfit_is ∙ ap not h.1, λ j. record { node = h.0 j; kind = kind.EntryResult }))

  least_is : (o : Option Fault) → IsLeast o Of → IsLeastOf p W (reading W w) o
  least_is None h = λ node k i. h (record { node = node; kind = k }) (back node k i)
  least_is (Some f) h = record { is = there f h.0; least = λ other l i. h.1 (record { node = other; kind = l }) (back other l i) }

  pub of_trees : IsLeastOf p W (reading W w) (least_fault p gs N t)
  of_trees = least_is (least_fault p gs N t) all_least

pub least_of_trees : (p : Program) (gs : Graphs) (t : Tables) (n : Annotation) (s : State) → IsRead (planned p gs t) s n → Fits t.classes (start (planned p gs t)) (assignment s) → (planned p gs t).cells ≤ nowhere → (planned p gs t).marks ≤ nowhere
    → IsLeastOf p (whole (plan p gs t)) (reading (whole (plan p gs t)) (assignment s)) (least_fault p gs n t)
least_of_trees p gs t n s read fits few_cells few_marks =
    subst (λ (m : Annotation). IsLeastOf p (whole (plan p gs t)) (reading (whole (plan p gs t)) (assignment s)) (least_fault p gs m t)) (sym read.0)
    (of_trees p gs t n.nodes s cells marks inside fits.formed)
  where
    cells : length s.cells ≤ nowhere
    cells =
        let l = length-map s.cells shape in
        let e = fits.cells in
        let c = length-replicate (planned p gs t).cells Nothing in
        omega (arith, l, e, c, few_cells)

    marks : length s.marks ≤ nowhere
    marks = let e = fits.marks in let c = length-replicate (planned p gs t).marks false in omega (arith, e, c, few_marks)

    inside : (i : ℕ) → leader s.same i < length p.sites
    inside i = let l = fits.table.sites i in let e = (is_placed p gs t).sites in omega (arith, l, e)

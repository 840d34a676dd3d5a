-- What rules read is what the annotation says.
use Rattle.std.proofs.Common.{◌≡◌, ◌≤◌, ℕ, ◌==◌, ◌&&◌, Bool, true, false, List, length, Option, Some, None, refl, sym, ap, ◌∙◌, subst, arith}
use Rattle.std.proofs.lemmas.Bool.Decides.{nat_tests}
use Rattle.std.specs.Prelude.{slice_get, unwrap_or}
use Rattle.ann_element.specs.declared.annotation.Annotation.{Annotation}
use Rattle.ann_element.specs.declared.element.Element.{Element}
use Rattle.ann_lattice.specs.Assign.{at, mark}
use Rattle.ann_lattice.specs.Shape.{shape}
use Rattle.ann_layout.specs.Layout.{plan, planned}
use Rattle.ann_needs.specs.View.{nowhere}
use Rattle.ann_needs.specs.declared.plan.Places.{Places}
use Rattle.ann_needs.specs.declared.state.State.{State}
use Rattle.ann_settled.specs.Read as read
use Rattle.class_desc.specs.Tables.{tables, home}
use Rattle.flow_graph.specs.declared.graph.Graphs.{Graphs}
use Rattle.ll_code.specs.declared.program.LlProgram.{LlProgram}
use Rattle.object_laws.specs.Known.{Known as Seen}
use Rattle.rpy_checked.specs.Settles.{HasTypes}
use Rattle.rpy_resolved.specs.declared.tree.Resolved.{Resolved}
use Rattle.rpy_tree.specs.declared.program.Program.{Program}
use Rattle.rtyper_class.specs.Attributes.{Standing, place_in, standing, standing_in, standing_at}
use Rattle.rtyper_class.specs.Seen.{laid}
use Rattle.rtyper_layout.specs.declared.classes.Laid.{Laid}
use Rattle.rtyper_layout.specs.Families.{attribute_place}
use Rattle.rtyper_program.specs.Program.{IsLaid}
use Rattle.rtyper_program.specs.Seen.{element_in}
use Rattle.typing_laws.proofs.Cells as typing
use Rattle.typed_rows.specs.Programs.{Typed, SeesElements, world}
use Rattle.typed_programs.specs.Made.{known_in, typed_in}
use Rattle.typed_programs.specs.Seeing.{ElementsAreSeen}
use Rattle.typed_programs.proofs.Cells.{in_row, in_rows, no_some, same_some, cell_seen}
use Rattle.typed_programs.proofs.Attributes.{attribute_found}

-- ---- numbers

equal : (i j : ℕ) → (i == j) ≡ true → i ≡ j
equal i j h = grind (arith, nat_tests, h)

first : (b c : Bool) → (b && c) ≡ true → b ≡ true
first true c h = refl
first false c h = h

second : (b c : Bool) → (b && c) ≡ true → c ≡ true
second true c h = h
second false c h = absurd (cc)

pub few_marks_of : (program : Program) (gs : Graphs) (n : Annotation) (types : HasTypes program gs n) → length types.state.marks ≤ nowhere
few_marks_of program gs n types = (let q = equal (length types.state.marks) (planned program gs (tables program)).marks (second _ _ types.settled.closed.complete) in let m = types.small.marks in subst (λ (k : ℕ). k ≤ nowhere) (sym q) m)

pub few_cells_of : (program : Program) (gs : Graphs) (n : Annotation) (types : HasTypes program gs n) → length types.state.cells ≤ nowhere
few_cells_of program gs n types = (let q = equal (length types.state.cells) (planned program gs (tables program)).cells (first _ _ types.settled.closed.complete) in let m = types.small.cells in subst (λ (k : ℕ). k ≤ nowhere) (sym q) m)

module _ (program : Program) (gs : Graphs) (n : Annotation) (types : HasTypes program gs n) (resolved : Resolved) (p : LlProgram) (made : IsLaid (known_in resolved gs n) (tables program) p) (seen : Seen) (arguments : List (List ℕ)) (sites : resolved.sites ≡ program.sites) where
  abbrev t : Typed
  t = typed_in program gs n types resolved p made seen arguments

  abbrev s : State
  s = types.state

  abbrev places : Places
  places = (plan program gs (tables program)).places

  is : n ≡ read.annotation s (tables program) n.nodes places
  is = types.settled.read.0

  few_marks : length s.marks ≤ nowhere
  few_marks = few_marks_of program gs n types

  few_cells : length s.cells ≤ nowhere
  few_cells = few_cells_of program gs n types

  -- ---- elements

  variables : (g v : ℕ) (e : Element) → element_in (slice_get n.vars g) v ≡ Some e → at t.assigned (t.whole.places.variable g v) ≡ shape e
  variables g v e h = by (slice_get n.vars g) refl h
    where
      by : (o : Option (List Element)) → slice_get n.vars g ≡ o → element_in o v ≡ Some e → at t.assigned (t.whole.places.variable g v) ≡ shape e
      by None q k = absurd (no_some k)
      by (Some row) q k = in_rows s places.variables g v row e (sym (ap (λ (m : Annotation). slice_get m.vars g) is) ∙ q) k

  params : (f i : ℕ) (es : List Element) (e : Element) → slice_get n.params f ≡ Some es → slice_get es i ≡ Some e → at t.assigned (t.whole.places.param f i) ≡ shape e
  params f i es e h k = in_rows s places.params f i es e (sym (ap (λ (m : Annotation). slice_get m.params f) is) ∙ h) k

  results : (f : ℕ) (e : Element) → slice_get n.results f ≡ Some e → at t.assigned (t.whole.places.result f) ≡ shape e
  results f e h = in_row s places.results f e (sym (ap (λ (m : Annotation). slice_get m.results f) is) ∙ h)

  items : (site : ℕ) (e : Element) → slice_get n.items site ≡ Some e → at t.assigned (t.whole.places.item site) ≡ shape e
  items site e h = in_row s places.items site e (sym (ap (λ (m : Annotation). slice_get m.items site) is) ∙ h)

  keys : (site : ℕ) (e : Element) → slice_get n.keys site ≡ Some e → at t.assigned (t.whole.places.key site) ≡ shape e
  keys site e h = in_row s places.keys site e (sym (ap (λ (m : Annotation). slice_get m.keys site) is) ∙ h)

  -- ---- attributes

  attributes : (c h : ℕ) (name : List ℕ) (st : Standing) → home (tables program) c name ≡ Some h → place_in (world t) c name ≡ Some st → at t.assigned (t.whole.places.attribute h name) ≡ shape st.element
  unfolding place_in
  attributes c h name st at_home placed = by_class (laid (world t) h) (sym (ap (standing_at (world t) name) at_home) ∙ placed)
    where
      by_place : (own : ℕ) (o : Option (ℕ × Element)) → attribute_place n.attributes h name ≡ o → standing own o ≡ Some st → at t.assigned (t.whole.places.attribute h name) ≡ shape st.element
      by_place own None q k = absurd (no_some k)
      by_place own (Some found) q k =
          let e : found.1 ≡ st.element = ap (λ (x : Standing). x.element) (same_some k) in
          let there : found.1 ≡ read.cell s (t.whole.places.attribute h name) = attribute_found s (tables program) h name places.attributes found.0 found.1 (sym (ap (λ (m : Annotation). attribute_place m.attributes h name) is) ∙ q) in
          sym (cell_seen s (t.whole.places.attribute h name)) ∙ ap shape (sym there ∙ e)

      by_class : (o : Option Laid) → standing_in (world t) h name o ≡ Some st → at t.assigned (t.whole.places.attribute h name) ≡ shape st.element
      by_class None k = absurd (no_some k)
      by_class (Some l) k = by_place l.own (attribute_place n.attributes h name) refl k

  -- ---- marks

  made_seen : (c : ℕ) → mark t.assigned (t.whole.places.made c) ≡ unwrap_or (slice_get n.made c) false
  made_seen c = sym (typing.mark_seen s few_cells few_marks places.made c) ∙ ap (λ (m : Annotation). unwrap_or (slice_get m.made c) false) (sym is)

  reached_seen : (f : ℕ) → mark t.assigned (t.whole.places.reached f) ≡ unwrap_or (slice_get n.reached f) false
  reached_seen f = sym (typing.mark_seen s few_cells few_marks places.reached f) ∙ ap (λ (m : Annotation). unwrap_or (slice_get m.reached f) false) (sym is)

  pub seen_so : SeesElements t
  seen_so = record {
    variables = variables;
    params = params;
    results = results;
    items = items;
    keys = keys;
    attributes = attributes;
    same_is = ap (λ (m : Annotation). m.same) (sym is);
    classes_are = refl;
    graphs_are = refl;
    sites_are = sym sites;
    made = made_seen;
    reached = reached_seen;
  }

pub elements_are_seen : ElementsAreSeen
elements_are_seen program gs n types resolved p made seen arguments sites = seen_so program gs n types resolved p made seen arguments sites

-- What stands in the part of a program stands in a cell that must not be in conflict.
use Rattle.std.proofs.Common.{◌≡◌, ℕ, zero, suc, Bool, true, false, List, [], ◌∷◌, ◌++◌, map, Some, None, refl, sym, ap, ◌∙◌, subst}
use Rattle.std.specs.Prelude.{slice_get, if◌then◌else◌, ◌==◌, ◌||◌}
use Rattle.std.proofs.lemmas.Bool.{eq-eqb}
use Rattle.class_desc.specs.Tables.{Tables, tables, home}
use Rattle.ann_element.specs.declared.annotation.Annotation.{Annotation}
use Rattle.ann_element.specs.declared.element.Element.{Element}
use Rattle.ann_lattice.specs.Join.{is_clash}
use Rattle.ann_lattice.specs.Shape.{shape}
use Rattle.ann_needs.specs.View.{nowhere, whole}
use Rattle.ann_needs.specs.declared.plan.Places.{Places}
use Rattle.ann_needs.specs.declared.state.State.{State}
use Rattle.ann_layout.specs.Layout.{planned}
use Rattle.ann_places.specs.Spots.{among, row_cells, named_cells, all_named_cells, part_cells, graph_cells, spot_cells}
use Rattle.ann_places.proofs.Spotting.{among_left, among_right}
use Rattle.ann_settled.specs.Read as read
use Rattle.typing_laws.proofs.Cells.{shape_at}
use Rattle.laid_laws.specs.Laid.{InRow, StandsIn, Param, Result, Attribute, Item, Key}
use Rattle.planned_laws.specs.Parts.{StandsInPart, OfParam, OfResult, OfAttribute, OfItem, OfKey, PartsAreFree, PartsArePlanned}
use Rattle.planned_laws.proofs.Standing.{elements_are_planned}

no_some : {A : Type 0} {x : A} → None ≡ Some x → ⊥
no_some h = cc

same_some : {A : Type 0} {x y : A} → Some x ≡ Some y → x ≡ y
same_some h = cc

here : (c : ℕ) (cs : List ℕ) → among c (c ∷ cs) ≡ true
here c cs = ap (λ b. b || among c cs) (eq-eqb c c refl)

later : (c d : ℕ) (cs : List ℕ) → among c cs ≡ true → among c (d ∷ cs) ≡ true
later c d cs h = by (d == c)
  where
    by : (b : Bool) → (b || among c cs) ≡ true
    by true = refl
    by false = h

module _ (s : State) where
  -- it stands in one of these cells
  abbrev InOne : List ℕ → Element → Type 0
  InOne cs e = (c : ℕ) × ((e ≡ read.cell s c) × (among c cs ≡ true))

  on_left : (cs ds : List ℕ) (e : Element) → InOne cs e → InOne (cs ++ ds) e
  on_left cs ds e h = (h.0, (h.1.0, among_left h.0 cs ds h.1.1))

  on_right : (cs ds : List ℕ) (e : Element) → InOne ds e → InOne (cs ++ ds) e
  on_right cs ds e h = (h.0, (h.1.0, among_right h.0 cs ds h.1.1))

  of_row : (row : List ℕ) (e : Element) (i : ℕ) → slice_get (read.cells s row) i ≡ Some e → InOne row e
  of_row [] e i h = absurd (no_some h)
  of_row (c ∷ row) e zero h = (c, (sym (same_some h), here c row))
  of_row (c ∷ row) e (suc i) h = let it = of_row row e i h in (it.0, (it.1.0, later it.0 c row it.1.1))

  of_rows : (rows : List (List ℕ)) (e : Element) (i : ℕ) (row : List Element) → slice_get (map (read.cells s) rows) i ≡ Some row → InRow row e → InOne (row_cells rows) e
  of_rows [] e i row h it = absurd (no_some h)
  of_rows (cs ∷ rows) e zero row h it = on_left cs (row_cells rows) e (of_row cs e it.0 (ap (λ es. slice_get es it.0) (same_some h) ∙ it.1))
  of_rows (cs ∷ rows) e (suc i) row h it = on_right cs (row_cells rows) e (of_rows rows e i row h it)

  -- ---- attributes

  abbrev AllOne : List ℕ → List (ℕ × List ℕ × Element) → Type 0
  AllOne cs [] = Unit {0}
  AllOne cs (x ∷ xs) = InOne cs x.2 × AllOne cs xs

  both : (cs : List ℕ) (xs ys : List (ℕ × List ℕ × Element)) → AllOne cs xs → AllOne cs ys → AllOne cs (xs ++ ys)
  both cs [] ys h g = g
  both cs (x ∷ xs) ys h g = (h.0, both cs xs ys h.1 g)

  wider : (cs ds : List ℕ) → ((e : Element) → InOne cs e → InOne ds e) → (xs : List (ℕ × List ℕ × Element)) → AllOne cs xs → AllOne ds xs
  wider cs ds f [] h = tt
  wider cs ds f (x ∷ xs) h = (f x.2 h.0, wider cs ds f xs h.1)

  own_one : (b : Bool) (c : ℕ) (entry : List ℕ × ℕ) (cs : List ℕ) → AllOne (entry.1 ∷ cs) (if b then (c, entry.0, read.cell s entry.1) ∷ [] else [])
  own_one true c entry cs = ((entry.1, (refl, here entry.1 cs)), tt)
  own_one false c entry cs = tt

  of_class : (t : Tables) (c : ℕ) (entries : List (List ℕ × ℕ)) → AllOne (named_cells entries) (read.attributes_of s t c entries)
  of_class t c [] = tt
  of_class t c (entry ∷ entries) =
      both (named_cells (entry ∷ entries)) (read.own s t c entry) (read.attributes_of s t c entries) (own_one (read.at_home c (home t c entry.0)) c entry (named_cells entries))
      (wider (named_cells entries) (named_cells (entry ∷ entries)) (λ e h. (h.0, (h.1.0, later h.0 entry.1 (named_cells entries) h.1.1))) (read.attributes_of s t c entries) (of_class t c entries))

  of_classes : (t : Tables) (c : ℕ) (rows : List (List (List ℕ × ℕ))) → AllOne (all_named_cells rows) (read.attributes s t c rows)
  of_classes t c [] = tt
  of_classes t c (row ∷ rows) =
      both (all_named_cells (row ∷ rows)) (read.attributes_of s t c row) (read.attributes s t (suc c) rows)
      (wider (named_cells row) (all_named_cells (row ∷ rows)) (on_left (named_cells row) (all_named_cells rows)) (read.attributes_of s t c row) (of_class t c row))
      (wider (all_named_cells rows) (all_named_cells (row ∷ rows)) (on_right (named_cells row) (all_named_cells rows)) (read.attributes s t (suc c) rows) (of_classes t (suc c) rows))

  found : (cs : List ℕ) (xs : List (ℕ × List ℕ × Element)) → AllOne cs xs → (i home : ℕ) (name : List ℕ) (e : Element) → slice_get xs i ≡ Some (home, name, e) → InOne cs e
  found cs [] h i home name e g = absurd (no_some g)
  found cs (x ∷ xs) h zero home name e g = subst (λ (y : ℕ × List ℕ × Element). InOne cs y.2) (same_some g) h.0
  found cs (x ∷ xs) h (suc i) home name e g = found cs xs h.1 i home name e g

  -- ---- the whole

  in_parts : (t : Tables) (nodes : List Element) (p : Places) (e : Element) → StandsInPart (read.annotation s t nodes p) e → InOne (part_cells p) e
  in_parts t nodes p e (OfParam h) = on_left (row_cells p.params) (p.results ++ (all_named_cells p.attributes ++ (p.items ++ p.keys))) e (of_rows p.params e h.0 h.1.0 h.1.1.0 h.1.1.1)
  in_parts t nodes p e (OfResult h) =
      on_right (row_cells p.params) (p.results ++ (all_named_cells p.attributes ++ (p.items ++ p.keys))) e (on_left p.results (all_named_cells p.attributes ++ (p.items ++ p.keys)) e (of_row p.results e h.0 h.1))
  in_parts t nodes p e (OfAttribute h) =
      on_right (row_cells p.params) (p.results ++ (all_named_cells p.attributes ++ (p.items ++ p.keys))) e
      (on_right p.results (all_named_cells p.attributes ++ (p.items ++ p.keys)) e
      (on_left (all_named_cells p.attributes) (p.items ++ p.keys) e (found (all_named_cells p.attributes) (read.attributes s t 0 p.attributes) (of_classes t 0 p.attributes) h.0 h.1.0 h.1.1.0 e h.1.1.1)))
  in_parts t nodes p e (OfItem h) =
      on_right (row_cells p.params) (p.results ++ (all_named_cells p.attributes ++ (p.items ++ p.keys))) e
      (on_right p.results (all_named_cells p.attributes ++ (p.items ++ p.keys)) e (on_right (all_named_cells p.attributes) (p.items ++ p.keys) e (on_left p.items p.keys e (of_row p.items e h.0 h.1))))
  in_parts t nodes p e (OfKey h) =
      on_right (row_cells p.params) (p.results ++ (all_named_cells p.attributes ++ (p.items ++ p.keys))) e
      (on_right p.results (all_named_cells p.attributes ++ (p.items ++ p.keys)) e (on_right (all_named_cells p.attributes) (p.items ++ p.keys) e (on_right p.items p.keys e (of_row p.keys e h.0 h.1))))

or_second : (b c : Bool) → c ≡ true → (b || c) ≡ true
or_second true c h = refl
or_second false c h = h

pub parts_are_free : PartsAreFree
parts_are_free p gs n types e stands =
    let q = planned p gs (tables p) in
    let it = in_parts types.state q.plan.classes n.nodes q.plan.places e (subst (λ (m : Annotation). StandsInPart m e) types.settled.read.0 stands) in
    let all = spot_cells q.plan in
    ap is_clash (ap shape it.1.0 ∙ shape_at types.state.cells it.0)
    ∙ types.settled.closed.free it.0 (or_second (it.0 == nowhere) (among it.0 all) (among_left it.0 (part_cells q.plan.places) (graph_cells (whole q.plan) 0 q.plan.graphs.graphs) it.1.1))

stands_there : (a : Annotation) (e : Element) → StandsInPart a e → StandsIn a e
stands_there a e (OfParam h) = Param h
stands_there a e (OfResult h) = Result h
stands_there a e (OfAttribute h) = Attribute h
stands_there a e (OfItem h) = Item h
stands_there a e (OfKey h) = Key h

pub parts_are_planned : PartsArePlanned
parts_are_planned p gs n types classes lt e stands layout structs = elements_are_planned p gs n types classes lt e (stands_there n e stands) (parts_are_free p gs n types e stands) layout structs

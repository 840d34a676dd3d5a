-- The parts of a program that passed its checks.
use Rattle.std.proofs.Common.{◌≡◌, ◌<◌, ◌⊎◌, inl, inr, ℕ, zero, suc, ◌+◌, ◌==◌, ◌||◌, Bool, true, false, List, [], ◌∷◌, ◌++◌, length, map, Option, Some, None, refl, sym, ap, ◌∙◌, arith}
use Rattle.std.specs.Prelude.{slice_get, unwrap_or, if◌then◌else◌, sum}
use Rattle.std.specs.Str.{bytes_eq}
use Rattle.ann_element.specs.declared.annotation.Annotation.{Annotation}
use Rattle.ann_element.specs.declared.element.Element.{Element}
use Rattle.ann_lattice.specs.Join.{is_clash}
use Rattle.ann_lattice.specs.Shape.{shape}
use Rattle.ann_layout.specs.Callees.{callees}
use Rattle.ann_layout.specs.Layout.{declared_count, numbers, param_count, plan, rows}
use Rattle.ann_needs.specs.View.{attribute_in, callee_of, named, nowhere, whole}
use Rattle.ann_needs.specs.declared.plan.Places.{Places}
use Rattle.ann_needs.specs.declared.state.State.{State}
use Rattle.ann_places.specs.Spots.{among, spot_cells, spots, row_cells, named_cells, all_named_cells, part_cells, graph_cells}
use Rattle.ann_lattice.specs.Assign.{at}
use Rattle.ann_places.proofs.Spotting.{among_left, among_right}
use Rattle.ann_rules.specs.Asks.{defaults, defaults_of}
use Rattle.ann_rules.specs.Program as rules
use Rattle.ann_settled.specs.Read as read
use Rattle.class_desc.specs.Tables.{tables, home}
use Rattle.rtyper_class.specs.Attributes.{Standing, place_in, standing_at}
use Rattle.conversion_laws.specs.Ordered.{IsLaid as IsLaidIn}
use Rattle.flow_graph.specs.declared.graph.Graphs.{Graphs}
use Rattle.laid_laws.specs.Laid.{StandsIn}
use Rattle.ll_code.specs.declared.program.LlProgram.{LlProgram}
use Rattle.object_laws.specs.Known.{Known as Seen}
use Rattle.rpy_checked.specs.Settles.{HasTypes}
use Rattle.rpy_resolved.specs.declared.tree.Resolved.{Resolved}
use Rattle.rpy_tree.specs.declared.program.Program.{Program}
use Rattle.rtyper_program.specs.Program.{IsLaid}
use Rattle.rtyper_program.specs.Seen.{is_reached}
use Rattle.run_laws.specs.Points.{is_conflict}
use Rattle.typed_rows.specs.Programs.{Typed, HasParts, layout, world}
use Rattle.typed_programs.specs.Made.{known_in, typed_in}
use Rattle.typed_programs.specs.Parts.{PartsAreThere}
use Rattle.typed_programs.proofs.Cells.{mapped, no_some, same_some, cell_seen}
use Rattle.typed_programs.proofs.Seeing.{seen_so}
use Rattle.typed_programs.proofs.Spots.{conflict_seen, in_list, in_lists, itself}

-- ---- numbers in rows

get_numbers : (n count i : ℕ) → i < count → (c : ℕ) × (slice_get (numbers n count) i ≡ Some c)
get_numbers n zero i lt = absurd (omega (arith, lt))
get_numbers n (suc count) zero lt = (n, refl)
get_numbers n (suc count) (suc i) lt = get_numbers (suc n) count i (omega (arith, lt))

numbers_end : (n count i c : ℕ) → slice_get (numbers n count) i ≡ Some c → i < count
numbers_end n zero i c h = absurd (no_some h)
numbers_end n (suc count) zero c h = omega arith
numbers_end n (suc count) (suc i) c h = (let k = numbers_end (suc n) count i c h in omega (arith, k))

numbers_long : (n count : ℕ) → length (numbers n count) ≡ count
numbers_long n zero = refl
numbers_long n (suc count) = ap suc (numbers_long (suc n) count)

get_rows : (n : ℕ) (counts : List ℕ) (g count : ℕ) → slice_get counts g ≡ Some count → (row : List ℕ) × ((slice_get (rows n counts) g ≡ Some row) × (length row ≡ count))
get_rows n [] g count h = absurd (no_some h)
get_rows n (c ∷ counts) zero count h = (numbers n c, (refl, numbers_long n c ∙ same_some h))
get_rows n (c ∷ counts) (suc g) count h = get_rows (n + c) counts g count h

get_map : {A B : Type 0} (f : A → B) (xs : List A) (i : ℕ) (x : A) → slice_get xs i ≡ Some x → slice_get (map f xs) i ≡ Some (f x)
get_map f [] i x h = absurd (no_some h)
get_map f (y ∷ xs) zero x h = ap (λ z. Some (f z)) (same_some h)
get_map f (y ∷ xs) (suc i) x h = get_map f xs i x h

get_there : {A : Type 0} (xs : List A) (i : ℕ) → i < length xs → (x : A) × (slice_get xs i ≡ Some x)
get_there [] i lt = absurd (omega (arith, lt))
get_there (x ∷ xs) zero lt = (x, refl)
get_there (x ∷ xs) (suc i) lt = get_there xs i (omega (arith, lt))

long_map : {A B : Type 0} (f : A → B) (xs : List A) → length (map f xs) ≡ length xs
long_map f [] = refl
long_map f (x ∷ xs) = ap suc (long_map f xs)

some_true : {o : Option Bool} → unwrap_or o false ≡ true → (b : Bool) × (o ≡ Some b)
some_true {o = None} h = absurd (cc)
some_true {o = Some b} h = (b, refl)

module _ (program : Program) (gs : Graphs) (n : Annotation) (types : HasTypes program gs n) (resolved : Resolved) (p : LlProgram) (made : IsLaid (known_in resolved gs n) (tables program) p) (seen : Seen) (arguments : List (List ℕ)) (sites : resolved.sites ≡ program.sites) where
  abbrev t : Typed
  t = typed_in program gs n types resolved p made seen arguments

  abbrev s : State
  s = types.state

  abbrev places : Places
  places = (plan program gs (tables program)).places

  is : n ≡ read.annotation s (tables program) n.nodes places
  is = types.settled.read.0

  -- ---- what is in no conflict

  abbrev cells : List ℕ
  cells = spot_cells (plan program gs (tables program))

  is_spot : (c : ℕ) → among c cells ≡ true → spots (plan program gs (tables program)) c ≡ true
  is_spot c inside = by (c == nowhere)
    where
      by : (a : Bool) → (a || among c cells) ≡ true
      by true = refl
      by false = inside

  free_cell : (e : Element) (c : ℕ) → e ≡ read.cell s c → among c cells ≡ true → is_conflict (Some e) ≡ false
  free_cell e c at inside = conflict_seen e ∙ ap is_clash (ap shape at ∙ cell_seen s c) ∙ types.settled.closed.free c (is_spot c inside)

  in_parts : (c : ℕ) → among c (part_cells places) ≡ true → among c cells ≡ true
  in_parts c h = among_left c (part_cells places) (graph_cells (whole (plan program gs (tables program))) 0 gs.graphs) h

  free_params : (f i : ℕ) (es : List Element) (e : Element) → slice_get n.params f ≡ Some es → slice_get es i ≡ Some e → is_conflict (Some e) ≡ false
  free_params f i es e h k =
      let row = mapped (read.cells s) places.params f es (sym (ap (λ (m : Annotation). slice_get m.params f) is) ∙ h) in
      let it = mapped (read.cell s) row.from i e (ap (λ r. slice_get r i) (sym row.is) ∙ k) in
      free_cell e it.from it.is (in_parts it.from (among_left it.from (row_cells places.params) (places.results ++ (all_named_cells places.attributes ++ (places.items ++ places.keys))) (in_lists places.params f i row.from it.from row.there it.there)))

  free_results : (f : ℕ) (e : Element) → slice_get n.results f ≡ Some e → is_conflict (Some e) ≡ false
  free_results f e h =
      let it = mapped (read.cell s) places.results f e (sym (ap (λ (m : Annotation). slice_get m.results f) is) ∙ h) in
      free_cell e it.from it.is (in_parts it.from (among_right it.from (row_cells places.params) (places.results ++ (all_named_cells places.attributes ++ (places.items ++ places.keys))) (among_left it.from places.results (all_named_cells places.attributes ++ (places.items ++ places.keys)) (in_list places.results f it.from it.there))))

  behind_results : (c : ℕ) → among c (all_named_cells places.attributes ++ (places.items ++ places.keys)) ≡ true → among c cells ≡ true
  behind_results c h = in_parts c (among_right c (row_cells places.params) (places.results ++ (all_named_cells places.attributes ++ (places.items ++ places.keys))) (among_right c places.results (all_named_cells places.attributes ++ (places.items ++ places.keys)) h))

  free_items : (site : ℕ) (e : Element) → slice_get n.items site ≡ Some e → is_conflict (Some e) ≡ false
  free_items site e h =
      let it = mapped (read.cell s) places.items site e (sym (ap (λ (m : Annotation). slice_get m.items site) is) ∙ h) in
      free_cell e it.from it.is (behind_results it.from (among_right it.from (all_named_cells places.attributes) (places.items ++ places.keys) (among_left it.from places.items places.keys (in_list places.items site it.from it.there))))

  free_keys : (site : ℕ) (e : Element) → slice_get n.keys site ≡ Some e → is_conflict (Some e) ≡ false
  free_keys site e h =
      let it = mapped (read.cell s) places.keys site e (sym (ap (λ (m : Annotation). slice_get m.keys site) is) ∙ h) in
      free_cell e it.from it.is (behind_results it.from (among_right it.from (all_named_cells places.attributes) (places.items ++ places.keys) (among_right it.from places.items places.keys (in_list places.keys site it.from it.there))))

  -- ---- what is there

  reached_there : (f : ℕ) → is_reached n f ≡ true → f < length (callees program)
  reached_there f h =
      let some = some_true (ap (λ (m : Annotation). unwrap_or (slice_get m.reached f) false) (sym is) ∙ h) in
      let it = mapped (read.mark s) places.reached f some.0 some.1 in
      numbers_end 0 (length (callees program)) f it.from it.there

  params_there : (f : ℕ) → is_reached n f ≡ true → (es : List Element) × ((slice_get n.params f ≡ Some es) × (length es ≡ length (defaults t.whole f)))
  params_there f h =
      let callee = get_there (callees program) f (reached_there f h) in
      let row = get_rows 0 (map param_count (callees program)) f (param_count callee.0) (get_map param_count (callees program) f callee.0 callee.1) in (
        read.cells s row.0,
        (
          ap (λ (m : Annotation). slice_get m.params f) is ∙ get_map (read.cells s) places.params f row.0 row.1.0,
          long_map (read.cell s) row.0 ∙ row.1.1 ∙ sym (ap (λ (o : Option rules.Callee). length (defaults_of t.whole o)) (get_map callee_of (callees program) f callee.0 callee.1)),
        ),
      )

  results_there : (f : ℕ) → is_reached n f ≡ true → (e : Element) × (slice_get n.results f ≡ Some e)
  results_there f h =
      let there = get_there places.results f (let k = numbers_long (0 + sum (map param_count (callees program))) (length (callees program)) in let r = reached_there f h in omega (arith, k, r)) in
      (read.cell s there.0, ap (λ (m : Annotation). slice_get m.results f) is ∙ get_map (read.cell s) places.results f there.0 there.1)

  items_there : (site : ℕ) → site < length t.whole.sites → (e : Element) × (slice_get n.items site ≡ Some e)
  items_there site lt =
      let there = get_there places.items site (let k = numbers_long (0 + sum (map param_count (callees program)) + length (callees program) + declared_count (tables program) 0 (length (tables program).classes)) (length program.sites) in omega (arith, k, lt)) in
      (read.cell s there.0, ap (λ (m : Annotation). slice_get m.items site) is ∙ get_map (read.cell s) places.items site there.0 there.1)

  keys_there : (site : ℕ) → site < length t.whole.sites → (e : Element) × (slice_get n.keys site ≡ Some e)
  keys_there site lt =
      let there = get_there places.keys site (let k = numbers_long ((0 + sum (map param_count (callees program)) + length (callees program) + declared_count (tables program) 0 (length (tables program).classes)) + length program.sites) (length program.sites) in omega (arith, k, lt)) in
      (read.cell s there.0, ap (λ (m : Annotation). slice_get m.keys site) is ∙ get_map (read.cell s) places.keys site there.0 there.1)

  -- ---- attributes

  named_spot : (name : List ℕ) (row : List (List ℕ × ℕ)) → (named name row ≡ nowhere) ⊎ (among (named name row) (named_cells row) ≡ true)
  named_spot name [] = inl refl
  named_spot name (entry ∷ row) = by (bytes_eq entry.0 name) (named_spot name row)
    where
      by : (b : Bool) → (named name row ≡ nowhere) ⊎ (among (named name row) (named_cells row) ≡ true) → ((if b then entry.1 else named name row) ≡ nowhere) ⊎ (among (if b then entry.1 else named name row) (entry.1 ∷ named_cells row) ≡ true)
      by true k = inr (ap (λ c. c || among entry.1 (named_cells row)) (itself entry.1))
      by false (inl k) = inl k
      by false (inr k) = inr (right (entry.1 == named name row) k)
        where
          right : (b : Bool) → among (named name row) (named_cells row) ≡ true → (b || among (named name row) (named_cells row)) ≡ true
          right true m = refl
          right false m = m

  attribute_spot : (rows : List (List (List ℕ × ℕ))) (h : ℕ) (name : List ℕ) → (attribute_in rows h name ≡ nowhere) ⊎ (among (attribute_in rows h name) (all_named_cells rows) ≡ true)
  attribute_spot [] h name = inl refl
  attribute_spot (row ∷ rows) zero name = by (named_spot name row)
    where
      by : (named name row ≡ nowhere) ⊎ (among (named name row) (named_cells row) ≡ true) → (named name row ≡ nowhere) ⊎ (among (named name row) (named_cells row ++ all_named_cells rows) ≡ true)
      by (inl k) = inl k
      by (inr k) = inr (among_left (named name row) (named_cells row) (all_named_cells rows) k)
  attribute_spot (row ∷ rows) (suc h) name = by (attribute_spot rows h name)
    where
      by : (attribute_in rows h name ≡ nowhere) ⊎ (among (attribute_in rows h name) (all_named_cells rows) ≡ true) → (attribute_in rows h name ≡ nowhere) ⊎ (among (attribute_in rows h name) (named_cells row ++ all_named_cells rows) ≡ true)
      by (inl k) = inl k
      by (inr k) = inr (among_right (attribute_in rows h name) (named_cells row) (all_named_cells rows) k)

  free_attribute : (h : ℕ) (name : List ℕ) → is_clash (at t.assigned (t.whole.places.attribute h name)) ≡ false
  free_attribute h name = types.settled.closed.free (attribute_in places.attributes h name) (by (attribute_spot places.attributes h name))
    where
      by : (attribute_in places.attributes h name ≡ nowhere) ⊎ (among (attribute_in places.attributes h name) (all_named_cells places.attributes) ≡ true) → spots (plan program gs (tables program)) (attribute_in places.attributes h name) ≡ true
      by (inl k) = ap (λ b. b || among (attribute_in places.attributes h name) cells) (ap (λ c. c == nowhere) k ∙ itself nowhere)
      by (inr k) = is_spot (attribute_in places.attributes h name) (behind_results (attribute_in places.attributes h name) (among_left (attribute_in places.attributes h name) (all_named_cells places.attributes) (places.items ++ places.keys) k))

  free_attributes : (c : ℕ) (name : List ℕ) (st : Standing) → place_in (world t) c name ≡ Some st → is_conflict (Some st.element) ≡ false
  unfolding place_in
  free_attributes c name st placed = by (home (tables program) c name) refl placed
    where
      by : (o : Option ℕ) → home (tables program) c name ≡ o → standing_at (world t) name o ≡ Some st → is_conflict (Some st.element) ≡ false
      by None q k = absurd (no_some k)
      by (Some h) q k = conflict_seen st.element ∙ ap is_clash (sym ((seen_so program gs n types resolved p made seen arguments sites).attributes c h name st q placed)) ∙ free_attribute h name

  pub parts_so : ((e : Element) → StandsIn n e → is_conflict (Some e) ≡ false → IsLaidIn (layout t) n.same e) → HasParts t
  parts_so laid = record {
    params = params_there;
    results = results_there;
    items = items_there;
    keys = keys_there;
    laid = laid;
    free_params = free_params;
    free_results = free_results;
    free_items = free_items;
    free_keys = free_keys;
    free_attributes = free_attributes;
  }

pub parts_are_there : PartsAreThere
parts_are_there program gs n types resolved p made seen arguments sites laid = parts_so program gs n types resolved p made seen arguments sites laid

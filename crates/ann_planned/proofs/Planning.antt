-- The places of a program's parts are such as the reading asks.
use Rattle.std.proofs.Common.{◌≡◌, ◌<◌, ◌≤◌, ℕ, zero, suc, ◌+◌, Bool, true, false, List, [], ◌∷◌, ◌++◌, length, map, get_or, Option, Some, None, ◌⊎◌, inl, inr, refl, sym, ap, ◌∙◌, arith}
use Rattle.std.specs.Prelude.{◌==◌, ◌||◌, max, slice_get, if◌then◌else◌}
use Rattle.std.specs.List.{flat_map}
use Rattle.std.specs.Str.{bytes_eq}
use Rattle.std.proofs.lemmas.List.{length-replicate}
use Rattle.std.proofs.lemmas.Bool.{eq-eqb, or_left, or_right}
use Rattle.rpy_tree.specs.declared.program.Program.{Program}
use Rattle.rpy_meaning.specs.Tree as tree
use Rattle.flow_graph.specs.declared.graph.Op.{Op}
use Rattle.flow_graph.specs.declared.graph.Block.{Block}
use Rattle.flow_graph.specs.declared.graph.Graph.{Graph}
use Rattle.flow_graph.specs.declared.graph.Graphs.{Graphs}
use Rattle.flow_trees.specs.Tree.{Function}
use Rattle.class_desc.specs.Tables.{Tables}
use Rattle.ann_lattice.specs.Shape.{Nothing}
use Rattle.ann_lattice.specs.Assign.{Assignment, Closed, Free, Fits}
use Rattle.ann_laws.specs.Rows.{HasClasses}
use Rattle.ann_rules.specs.Program.{Callee}
use Rattle.ann_rules.specs.Rules.{rules}
use Rattle.ann_needs.specs.View.{nowhere, place, place_in, named, attribute_in, callee_of, whole}
use Rattle.ann_layout.specs.Callees.{callees}
use Rattle.ann_layout.specs.Layout.{past_all, past_ops, past_blocks, param_count, variable_count, block_count, plan, planned}
use Rattle.ann_places.specs.Placed.{count_of}
use Rattle.ann_places.specs.Spots.{row_cells, named_cells, all_named_cells, part_cells, graph_cells, spot_cells, among, spots, start}
use Rattle.ann_places.proofs.Placing.{placed}
use Rattle.ann_places.proofs.Spotting.{among_left, among_right, is_placed}
use Rattle.ann_tree.specs.Annotation.{Annotation}
use Rattle.ann_tree.specs.Closed.{HasPlaces, IsPlacedIn, IsClosed}
use Rattle.ann_read.specs.Reading.{In, IsReading, HasGraphs, HasCells, HasSpots}
use Rattle.ann_read.proofs.Whole.{Premises, closed_trees}

-- ---- lists

inside : {A : Type 0} → (xs : List A) (i : ℕ) (x : A) → slice_get xs i ≡ Some x → i < length xs
inside [] i x e = cc
inside (y ∷ xs) zero x e = omega arith
inside (y ∷ xs) (suc i) x e = let l = inside xs i x e in omega (arith, l)

count_at : {A : Type 0} → (f : A → ℕ) (xs : List A) (i : ℕ) (x : A) → slice_get xs i ≡ Some x → count_of (map f xs) i ≡ f x
count_at f [] i x e = cc
count_at f (y ∷ xs) zero x e = let same : y ≡ x = cc in ap f same
count_at f (y ∷ xs) (suc i) x e = count_at f xs i x e

map_inside : {A B : Type 0} → (f : A → B) (xs : List A) (i : ℕ) (y : B) → slice_get (map f xs) i ≡ Some y → (x : A) × (slice_get xs i ≡ Some x) × (f x ≡ y)
map_inside f [] i y e = cc
map_inside f (x ∷ xs) zero y e = let same : f x ≡ y = cc in (x, refl, same)
map_inside f (x ∷ xs) (suc i) y e = map_inside f xs i y e

-- ---- numbers of variables

past_all_least : (vs : List ℕ) (most : ℕ) → most ≤ past_all vs most
past_all_least [] most = omega arith
past_all_least (v ∷ vs) most = let rest = past_all_least vs (max most (v + 1)) in omega (arith, rest)

past_ops_least : (os : List Op) (most : ℕ) → most ≤ past_ops os most
past_ops_least [] most = omega arith
past_ops_least (o ∷ os) most = let rest = past_ops_least os (max most (o.result + 1)) in omega (arith, rest)

past_blocks_least : (bs : List Block) (most : ℕ) → most ≤ past_blocks bs most
past_blocks_least [] most = omega arith
past_blocks_least (b ∷ bs) most =
    let one = past_all_least b.inputs most in
    let two = past_ops_least b.ops (past_all b.inputs most) in
    let rest = past_blocks_least bs (past_ops b.ops (past_all b.inputs most)) in
    omega (arith, one, two, rest)

in_all : (vs : List ℕ) (most j : ℕ) → j < length vs → get_or vs j 0 < past_all vs most
in_all [] most j lt = absurd (omega (arith, lt))
in_all (v ∷ vs) most zero lt = let rest = past_all_least vs (max most (v + 1)) in omega (arith, rest)
in_all (v ∷ vs) most (suc j) lt = in_all vs (max most (v + 1)) j (omega (arith, lt))

in_ops : (os : List Op) (most : ℕ) (o : Op) → In os o → o.result < past_ops os most
in_ops [] most o i = absurd i
in_ops (x ∷ os) most o (inl e) =
    let rest = past_ops_least os (max most (x.result + 1)) in
    let same : x.result ≡ o.result = ap (λ (y : Op). y.result) e in
    omega (arith, rest, same)
in_ops (x ∷ os) most o (inr i) = in_ops os (max most (x.result + 1)) o i

inputs_below : (bs : List Block) (most b : ℕ) (code : Block) (j : ℕ) → slice_get bs b ≡ Some code → j < length code.inputs → get_or code.inputs j 0 < past_blocks bs most
inputs_below [] most b code j e lt = cc
inputs_below (x ∷ bs) most zero code j e lt =
    let same : x ≡ code = cc in
    let here = in_all code.inputs most j lt in
    let inputs_same : past_all code.inputs most ≡ past_all x.inputs most = ap (λ (y : Block). past_all y.inputs most) (sym same) in
    let one = past_ops_least x.ops (past_all x.inputs most) in
    let rest = past_blocks_least bs (past_ops x.ops (past_all x.inputs most)) in
    omega (arith, here, inputs_same, one, rest)
inputs_below (x ∷ bs) most (suc b) code j e lt = inputs_below bs (past_ops x.ops (past_all x.inputs most)) b code j e lt

either : (os qs : List Op) (o : Op) → In (os ++ qs) o → In os o ⊎ In qs o
either [] qs o i = inr i
either (x ∷ os) qs o (inl e) = inl (inl e)
either (x ∷ os) qs o (inr i) = later (either os qs o i)
  where
    later : In os o ⊎ In qs o → In (x ∷ os) o ⊎ In qs o
    later (inl j) = inl (inr j)
    later (inr j) = inr j

results_below : (bs : List Block) (most : ℕ) (o : Op) → In (flat_map (λ (b : Block). b.ops) bs) o → o.result < past_blocks bs most
results_below [] most o i = absurd i
results_below (x ∷ bs) most o i = by_side (either x.ops (flat_map (λ (b : Block). b.ops) bs) o i) (λ j. results_below bs (past_ops x.ops (past_all x.inputs most)) o j)
  where
    by_side : In x.ops o ⊎ In (flat_map (λ (b : Block). b.ops) bs) o → (In (flat_map (λ (b : Block). b.ops) bs) o → o.result < past_blocks (x ∷ bs) most) → o.result < past_blocks (x ∷ bs) most
    by_side (inl j) rest =
        let here = in_ops x.ops (past_all x.inputs most) o j in
        let later = past_blocks_least bs (past_ops x.ops (past_all x.inputs most)) in
        omega (arith, here, later)
    by_side (inr j) rest = rest j

-- ---- spots: what has a place stands there, or nowhere

abbrev Spotted : ℕ → List ℕ → Type 0
Spotted c cells = ((c == nowhere) || among c cells) ≡ true

or_on : (a b d : Bool) → (b ≡ true → d ≡ true) → (a || b) ≡ true → (a || d) ≡ true
or_on true b d f e = refl
or_on false b d f e = f e

more_spots : (c : ℕ) (xs ys : List ℕ) → (among c xs ≡ true → among c ys ≡ true) → Spotted c xs → Spotted c ys
more_spots c xs ys f e = or_on (c == nowhere) (among c xs) (among c ys) f e

not_there : (cells : List ℕ) → Spotted nowhere cells
not_there cells = or_left (nowhere == nowhere) (among nowhere cells) (eq-eqb nowhere nowhere refl)

in_row : (row : List ℕ) (s : ℕ) → Spotted (place row s) row
in_row [] s = not_there []
in_row (n ∷ row) zero = or_right (n == nowhere) (among n (n ∷ row)) (or_left (n == n) (among n row) (eq-eqb n n refl))
in_row (n ∷ row) (suc s) = more_spots (place row s) row (n ∷ row) (λ e. or_right (n == place row s) (among (place row s) row) e) (in_row row s)

in_rows : (rows : List (List ℕ)) (f i : ℕ) → Spotted (place_in rows f i) (row_cells rows)
in_rows [] f i = not_there []
in_rows (row ∷ rows) zero i = more_spots (place row i) row (row_cells (row ∷ rows)) (λ e. among_left (place row i) row (row_cells rows) e) (in_row row i)
in_rows (row ∷ rows) (suc f) i = more_spots (place_in rows f i) (row_cells rows) (row_cells (row ∷ rows)) (λ e. among_right (place_in rows f i) row (row_cells rows) e) (in_rows rows f i)

in_named : (name : List ℕ) (entries : List (List ℕ × ℕ)) → Spotted (named name entries) (named_cells entries)
in_named name [] = not_there []
in_named name (entry ∷ entries) = by_test (bytes_eq entry.0 name) (in_named name entries)
  where
    by_test : (b : Bool) → Spotted (named name entries) (named_cells entries) → Spotted (if b then entry.1 else named name entries) (named_cells (entry ∷ entries))
    by_test true rest = or_right (entry.1 == nowhere) (among entry.1 (named_cells (entry ∷ entries))) (or_left (entry.1 == entry.1) (among entry.1 (named_cells entries)) (eq-eqb entry.1 entry.1 refl))
    by_test false rest =
        more_spots (named name entries) (named_cells entries) (named_cells (entry ∷ entries)) (λ e. or_right (entry.1 == named name entries) (among (named name entries) (named_cells entries)) e) rest

in_attributes : (rows : List (List (List ℕ × ℕ))) (d : ℕ) (name : List ℕ) → Spotted (attribute_in rows d name) (all_named_cells rows)
in_attributes [] d name = not_there []
in_attributes (row ∷ rows) zero name = more_spots (named name row) (named_cells row) (all_named_cells (row ∷ rows)) (λ e. among_left (named name row) (named_cells row) (all_named_cells rows) e) (in_named name row)
in_attributes (row ∷ rows) (suc d) name =
    more_spots (attribute_in rows d name) (all_named_cells rows) (all_named_cells (row ∷ rows)) (λ e. among_right (attribute_in rows d name) (named_cells row) (all_named_cells rows) e) (in_attributes rows d name)

module _ (p : Program) (gs : Graphs) (t : Tables) where
  abbrev parts : List ℕ
  parts = part_cells (plan p gs t).places

  abbrev of_graphs : List ℕ
  of_graphs = graph_cells (whole (plan p gs t)) 0 gs.graphs

  abbrev sites : List ℕ
  sites = (plan p gs t).places.items ++ (plan p gs t).places.keys

  abbrev after_results : List ℕ
  after_results = all_named_cells (plan p gs t).places.attributes ++ sites

  abbrev after_params : List ℕ
  after_params = (plan p gs t).places.results ++ after_results

  of_part : (c : ℕ) → among c parts ≡ true → among c (spot_cells (plan p gs t)) ≡ true
  of_part c e = among_left c parts of_graphs e

  pub has_spots : HasSpots (whole (plan p gs t)) (spots (plan p gs t))
  has_spots = record {
    params = λ f i.
        let c : ℕ = place_in (plan p gs t).places.params f i in
        more_spots c (row_cells (plan p gs t).places.params) (spot_cells (plan p gs t)) (λ e. of_part c (among_left c (row_cells (plan p gs t).places.params) after_params e)) (in_rows (plan p gs t).places.params f i);
    results = λ f.
        let c : ℕ = place (plan p gs t).places.results f in
        more_spots c (plan p gs t).places.results (spot_cells (plan p gs t))
        (λ e. of_part c (among_right c (row_cells (plan p gs t).places.params) after_params (among_left c (plan p gs t).places.results after_results e))) (in_row (plan p gs t).places.results f);
    attributes = λ d name.
        let c : ℕ = attribute_in (plan p gs t).places.attributes d name in
        more_spots c (all_named_cells (plan p gs t).places.attributes) (spot_cells (plan p gs t))
        (λ e.
        of_part c
        (among_right c (row_cells (plan p gs t).places.params) after_params
        (among_right c (plan p gs t).places.results after_results (among_left c (all_named_cells (plan p gs t).places.attributes) sites e)))) (in_attributes (plan p gs t).places.attributes d name);
  }

  -- ---- cells and marks

  module _ (w : Assignment) (cells : length w.cells ≡ (planned p gs t).cells) (marks : length w.marks ≡ (planned p gs t).marks) where
    cell_of : (c : ℕ) → c < (planned p gs t).cells → c < length w.cells
    cell_of c lt = omega (arith, lt, cells)

    mark_of : (m : ℕ) → m < (planned p gs t).marks → m < length w.marks
    mark_of m lt = omega (arith, lt, marks)

    variable_in : (f v : ℕ) (graph : Graph) → slice_get gs.graphs f ≡ Some graph → v < variable_count graph → v < count_of (map variable_count gs.graphs) f
    variable_in f v graph is lt = let e = count_at variable_count gs.graphs f graph is in omega (arith, lt, e)

    pub has_cells : HasCells (whole (plan p gs t)) w
    has_cells = record {
      blocks = λ f b graph code is there.
          let e = count_at block_count gs.graphs f graph is in
          let l = inside graph.blocks b code there in
          mark_of (place_in (plan p gs t).places.blocks f b) ((placed p gs t).blocks f b (omega (arith, e, l)));
      inputs = λ f b j graph code is there lt.
          let v : ℕ = get_or code.inputs j 0 in
          let l = variable_in f v graph is (inputs_below graph.blocks 0 b code j there lt) in
          (cell_of (place_in (plan p gs t).places.variables f v) ((placed p gs t).variables f v l), mark_of (place_in (plan p gs t).places.loose f v) ((placed p gs t).loose f v l));
      results = λ f graph o is i. mark_of (place_in (plan p gs t).places.loose f o.result) ((placed p gs t).loose f o.result (variable_in f o.result graph is (results_below graph.blocks 0 o i)));
    }

  module _ (program : tree.Program) (functions : List Function) (a : Annotation) (graphs : HasGraphs program gs (whole (plan p gs t)) functions) (fits : Fits t.classes (start (planned p gs t)) a.parts) where
    all_cells : length a.parts.cells ≡ (planned p gs t).cells
    all_cells = fits.cells ∙ length-replicate (planned p gs t).cells Nothing

    all_marks : length a.parts.marks ≡ (planned p gs t).marks
    all_marks = fits.marks ∙ length-replicate (planned p gs t).marks false

    of_function : (f : ℕ) (function : Function) → slice_get functions f ≡ Some function → IsPlacedIn (whole (plan p gs t)) program.sites a f (Some function)
    of_function f function is =
        let d = graphs.callees f function is in
        let c = map_inside callee_of (callees p) f d.0 d.1 in
        let l = inside (callees p) f c.0 c.1 in
        let many = count_at param_count (callees p) f c.0 c.1 in
        let same : length c.0.defaults ≡ length d.0.defaults = ap (λ (x : Callee). length x.defaults) c.2 in
        let counts : length d.0.defaults ≡ length function.defaults = d.2 in (
          mark_of a.parts all_cells all_marks (place (plan p gs t).places.reached f) ((placed p gs t).reached f l),
          cell_of a.parts all_cells all_marks (place (plan p gs t).places.results f) ((placed p gs t).results f l),
          λ i lt. cell_of a.parts all_cells all_marks (place_in (plan p gs t).places.params f i) ((placed p gs t).params f i (omega (arith, lt, many, same, counts))),
        )

    has_places : HasPlaces (whole (plan p gs t)) program.sites a functions
    has_places = record {
      of_functions = λ f. by_function f (slice_get functions f) refl;
      of_sites = λ s lt. (cell_of a.parts all_cells all_marks (place (plan p gs t).places.items s) ((placed p gs t).items s lt), cell_of a.parts all_cells all_marks (place (plan p gs t).places.keys s) ((placed p gs t).keys s lt));
    }
      where
        by_function : (f : ℕ) (o : Option Function) → slice_get functions f ≡ o → IsPlacedIn (whole (plan p gs t)) program.sites a f o
        by_function f None e = tt
        by_function f (Some function) e = of_function f function e

    pub premises : HasClasses t → Closed t.classes (rules (whole (plan p gs t))) a.parts → Free (spots (plan p gs t)) a.parts → IsReading (whole (plan p gs t)) a
        → Premises program gs (whole (plan p gs t)) functions (spots (plan p gs t)) (start (planned p gs t)) a
    premises classes closed free reading = record {
      graphs = graphs;
      classes = classes;
      placed = is_placed p gs t;
      fits = fits;
      cells = has_cells a.parts all_cells all_marks;
      spotted = has_spots;
      closed = closed;
      free = free;
      reading = reading;
    }

    pub closed_plan : HasClasses t → Closed t.classes (rules (whole (plan p gs t))) a.parts → Free (spots (plan p gs t)) a.parts → IsReading (whole (plan p gs t)) a → IsClosed (whole (plan p gs t)) program.sites a functions
    closed_plan classes closed free reading = closed_trees program gs (whole (plan p gs t)) functions (spots (plan p gs t)) (start (planned p gs t)) a (premises classes closed free reading) has_places

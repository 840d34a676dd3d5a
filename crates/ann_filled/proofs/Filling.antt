-- The assignment that is made of parts and blocks is a lift.
use Rattle.std.proofs.Common.{◌≡◌, ◌<◌, ◌≤◌, ℕ, zero, suc, ◌+◌, ◌-◌, Bool, false, List, [], ◌∷◌, ◌++◌, length, map, get_or, take, drop, sum, Option, Some, None, refl, sym, ap, ◌∙◌, arith, length-append, length-drop, length-take-le, get_or-take, get_or-drop, get_or-append-add}
use Rattle.std.specs.Prelude.{slice_get}
use Rattle.std.proofs.lemmas.List.{get_or_append_left}
use Rattle.rpy_tree.specs.declared.program.Program.{Program}
use Rattle.flow_graph.specs.declared.graph.Block.{Block}
use Rattle.flow_graph.specs.declared.graph.Graph.{Graph}
use Rattle.flow_graph.specs.declared.graph.Graphs.{Graphs}
use Rattle.flow_graph.specs.Owners.{variables_of, HaveOwnVariables}
use Rattle.flow_meaning.specs.Machine.{block_in}
use Rattle.flow_stands.specs.Places.{Shape as Form, numbered}
use Rattle.class_desc.specs.Tables.{Tables}
use Rattle.ann_lattice.specs.Shape.{Shape, Nothing}
use Rattle.ann_lattice.specs.Assign.{Assignment, at, mark}
use Rattle.ann_lattice.specs.Laws.{IsFormed}
use Rattle.ann_needs.specs.View.{nowhere, place, place_in, attribute_in, whole}
use Rattle.ann_layout.specs.Callees.{callees}
use Rattle.ann_layout.specs.Layout.{numbers, declared_count, param_count, variable_count, block_count, plan, planned}
use Rattle.ann_tree.specs.Annotation.{Annotation}
use Rattle.ann_lift.specs.Alike.{AreAlike}
use Rattle.ann_lift.specs.Spots.{Spots}
use Rattle.ann_lift.specs.Lift.{StandsIn, IsLift}
use Rattle.ann_filled.specs.Filled.{place_of, owner, element_in, unbound_in, each, element_of, is_unbound, is_reached, first_variable, first_block, first_node, filled}
use Rattle.ann_filled.proofs.Owning.{input_place, result_place, is_there, below_blocks, owned}
use Rattle.ann_filled.proofs.Placing.{Between, in_numbers, in_rows, in_attributes, same_at, each_count, IsGiven, each_at}

-- ---- pieces of lists

front : {A : Type 0} (xs ys : List A) (n i : ℕ) (d : A) → n ≤ length xs → i < n → get_or (take n xs ++ ys) i d ≡ get_or xs i d
front xs ys n i d le lt =
    let many : length (take n xs) ≡ n = length-take-le n xs le in
    get_or_append_left (take n xs) ys d i (omega (arith, many, lt)) ∙ get_or-take n xs i d lt

behind : {A : Type 0} (xs ys : List A) (n k c : ℕ) (d : A) → length xs ≡ n → c ≡ n + k → get_or (xs ++ ys) c d ≡ get_or ys k d
behind xs ys n k c d many is =
    let place_is : c ≡ length xs + k = omega (arith, many, is) in
    ap (λ i. get_or (xs ++ ys) i d) place_is ∙ get_or-append-add xs ys k d

-- ---- well-formed elements

abbrev AllFormed : List Shape → Type 0
AllFormed xs = (c : ℕ) → IsFormed (get_or xs c Nothing)

nothing_formed : IsFormed Nothing
nothing_formed = record { sound = refl; shallow = omega arith }

both_formed : (xs ys : List Shape) → AllFormed xs → AllFormed ys → AllFormed (xs ++ ys)
both_formed [] ys one other c = other c
both_formed (x ∷ xs) ys one other zero = one 0
both_formed (x ∷ xs) ys one other (suc c) = both_formed xs ys (λ k. one (suc k)) other c

front_formed : (n : ℕ) (xs : List Shape) → AllFormed xs → AllFormed (take n xs)
front_formed zero xs all c = nothing_formed
front_formed (suc n) [] all c = nothing_formed
front_formed (suc n) (x ∷ xs) all zero = all 0
front_formed (suc n) (x ∷ xs) all (suc c) = front_formed n xs (λ k. all (suc k)) c

given_formed : (value : ℕ → Shape) → ((v : ℕ) → IsFormed (value v)) → (count n : ℕ) → AllFormed (map value (numbers n count))
given_formed value all zero n c = nothing_formed
given_formed value all (suc count) n zero = all n
given_formed value all (suc count) n (suc c) = given_formed value all count (suc n) c

each_formed : (count : Graph → ℕ) (value : ℕ → Graph → ℕ → Shape) → ((f : ℕ) (graph : Graph) (v : ℕ) → IsFormed (value f graph v)) → (f : ℕ) (graphs : List Graph) → AllFormed (each count value f graphs)
each_formed count value all f [] c = nothing_formed
each_formed count value all f (graph ∷ graphs) c =
    both_formed (map (value f graph) (numbers 0 (count graph))) (each count value (suc f) graphs) (given_formed (value f graph) (λ v. all f graph v) (count graph) 0) (each_formed count value all (suc f) graphs) c

module _ (p : Program) (gs : Graphs) (t : Tables)
    (own : (f : ℕ) (graph : Graph) → slice_get gs.graphs f ≡ Some graph → HaveOwnVariables graph.blocks)
    (few_cells : (planned p gs t).cells ≤ nowhere) (few_marks : (planned p gs t).marks ≤ nowhere)
    (a : Annotation) (cells : length a.parts.cells ≡ (planned p gs t).cells) (marks : length a.parts.marks ≡ (planned p gs t).marks)
    (formed : (c : ℕ) → IsFormed (at a.parts c)) (at_blocks : ℕ → Spots) (shown : (f b j : ℕ) → IsFormed ((at_blocks f b).element j)) where
  abbrev w : Assignment
  w = filled p gs t a at_blocks

  abbrev params : List ℕ
  params = map param_count (callees p)

  abbrev variables : List ℕ
  variables = map variable_count gs.graphs

  abbrev blocks : List ℕ
  blocks = map block_count gs.graphs

  abbrev functions : ℕ
  functions = length (callees p)

  abbrev classes : ℕ
  classes = length t.classes

  abbrev sites : ℕ
  sites = length p.sites

  abbrev nodes : ℕ
  nodes = length p.uses

  abbrev declared : ℕ
  declared = declared_count t 0 classes

  abbrev elements : List Shape
  elements = each variable_count (element_of at_blocks) 0 gs.graphs

  abbrev reached : List Bool
  reached = each block_count (is_reached at_blocks) 0 gs.graphs

  abbrev loose : List Bool
  loose = each variable_count (is_unbound at_blocks) 0 gs.graphs

  abbrev last : List Bool
  last = drop (first_node p gs t) a.parts.marks

  element_count : length elements ≡ sum variables
  element_count = each_count variable_count (element_of at_blocks) 0 gs.graphs

  reached_count : length reached ≡ sum blocks
  reached_count = each_count block_count (is_reached at_blocks) 0 gs.graphs

  loose_count : length loose ≡ sum variables
  loose_count = each_count variable_count (is_unbound at_blocks) 0 gs.graphs

  -- ---- counts

  cells_there : first_variable p gs t ≤ length a.parts.cells
  cells_there = omega (arith, cells)

  front_cells : length (take (first_variable p gs t) a.parts.cells) ≡ first_variable p gs t
  front_cells = length-take-le (first_variable p gs t) a.parts.cells cells_there

  marks_there : first_block p gs t ≤ length a.parts.marks
  marks_there = omega (arith, marks)

  front_marks : length (take (first_block p gs t) a.parts.marks) ≡ first_block p gs t
  front_marks = length-take-le (first_block p gs t) a.parts.marks marks_there

  all_cells : length w.cells ≡ length a.parts.cells
  all_cells =
      let both = length-append (take (first_variable p gs t) a.parts.cells) elements in
      omega (arith, both, front_cells, element_count, cells)

  all_marks : length w.marks ≡ length a.parts.marks
  all_marks =
      let one = length-append (take (first_block p gs t) a.parts.marks) (reached ++ (loose ++ last)) in
      let two = length-append reached (loose ++ last) in
      let three = length-append loose last in
      let rest = length-drop (first_node p gs t) a.parts.marks in
      omega (arith, one, two, three, rest, front_marks, reached_count, loose_count, marks)

  -- ---- parts

  part_cell : (low c high : ℕ) → high ≤ first_variable p gs t → Between low c high → at w c ≡ at a.parts c
  part_cell low c high le b =
      same_at w.cells a.parts.cells Nothing (omega (arith, all_cells, cells, few_cells)) (omega (arith, cells, few_cells)) low c high
      (λ i l h. front a.parts.cells elements (first_variable p gs t) i Nothing cells_there (omega (arith, h, le))) b

  part_mark : (low c high : ℕ) → high ≤ first_block p gs t → Between low c high → mark w c ≡ mark a.parts c
  part_mark low c high le b =
      same_at w.marks a.parts.marks false (omega (arith, all_marks, marks, few_marks)) (omega (arith, marks, few_marks)) low c high
      (λ i l h. front a.parts.marks (reached ++ (loose ++ last)) (first_block p gs t) i false marks_there (omega (arith, h, le))) b

  last_mark : (i : ℕ) → first_node p gs t ≤ i → mark w i ≡ mark a.parts i
  last_mark i le =
      let k : ℕ = i - first_node p gs t in
      let total : i ≡ first_node p gs t + k = omega (arith, le) in
      behind (take (first_block p gs t) a.parts.marks) (reached ++ (loose ++ last)) (first_block p gs t) (sum blocks + (sum variables + k)) i false front_marks (omega (arith, total))
      ∙ behind reached (loose ++ last) (sum blocks) (sum variables + k) (sum blocks + (sum variables + k)) false reached_count refl
      ∙ behind loose last (sum variables) k (sum variables + k) false loose_count refl
      ∙ get_or-drop (first_node p gs t) a.parts.marks k false
      ∙ ap (λ j. mark a.parts j) (sym total)

  node_mark : (c : ℕ) → Between (first_node p gs t) c (first_node p gs t + nodes) → mark w c ≡ mark a.parts c
  node_mark c b =
      same_at w.marks a.parts.marks false (omega (arith, all_marks, marks, few_marks)) (omega (arith, marks, few_marks)) (first_node p gs t) c (first_node p gs t + nodes)
      (λ i l h. last_mark i l) b

  alike : AreAlike (whole (plan p gs t)) w a.parts
  alike = record {
    same = refl;
    params = λ f i. part_cell 0 (place_in (plan p gs t).places.params f i) (0 + sum params) (omega arith) (in_rows params 0 f i);
    results = λ f. part_cell (0 + sum params) (place (plan p gs t).places.results f) (0 + sum params + functions) (omega arith) (in_numbers functions (0 + sum params) f);
    attributes = λ c name.
        part_cell (0 + sum params + functions) (attribute_in (plan p gs t).places.attributes c name) (0 + sum params + functions + declared) (omega arith)
        (in_attributes t classes (0 + sum params + functions) 0 c name);
    items = λ s.
        part_cell (0 + sum params + functions + declared) (place (plan p gs t).places.items s) (0 + sum params + functions + declared + sites) (omega arith)
        (in_numbers sites (0 + sum params + functions + declared) s);
    keys = λ s.
        part_cell (0 + sum params + functions + declared + sites) (place (plan p gs t).places.keys s) (0 + sum params + functions + declared + sites + sites) (omega arith)
        (in_numbers sites (0 + sum params + functions + declared + sites) s);
    made = λ c. part_mark (0 + functions) (place (plan p gs t).places.made c) (0 + functions + classes) (omega arith) (in_numbers classes (0 + functions) c);
  }

  -- ---- variables and blocks

  block_stands : (f b : ℕ) (graph : Graph) → slice_get gs.graphs f ≡ Some graph → b < length graph.blocks → mark w (place_in (plan p gs t).places.blocks f b) ≡ (at_blocks f b).reached
  block_stands f b graph e lt =
      let g : IsGiven block_count (is_reached at_blocks) 0 (first_block p gs t) f f b graph gs.graphs = each_at block_count (is_reached at_blocks) 0 (first_block p gs t) f f b graph gs.graphs (omega arith) e lt in
      let inside = g.inside in
      behind (take (first_block p gs t) a.parts.marks) (reached ++ (loose ++ last)) (first_block p gs t) g.past (place_in (plan p gs t).places.blocks f b) false front_marks g.stands
      ∙ get_or_append_left reached (loose ++ last) false g.past (omega (arith, inside, reached_count))
      ∙ g.gives false

  variable_stands : (f b v j : ℕ) (graph : Graph) (block : Block) → slice_get gs.graphs f ≡ Some graph → slice_get graph.blocks b ≡ Some block → place_of v (variables_of block) ≡ Some j
      → (at w (place_in (plan p gs t).places.variables f v) ≡ (at_blocks f b).element j) × (mark w (place_in (plan p gs t).places.loose f v) ≡ (at_blocks f b).unbound j)
  variable_stands f b v j graph block is there found =
      let less : v < variable_count graph = below_blocks v graph.blocks 0 b block there (is_there v (variables_of block) j found) in
      let owner_is : owner v 0 graph.blocks ≡ Some (b, j) = owned graph.blocks (own f graph is) v j b block there found in
      let x : IsGiven variable_count (element_of at_blocks) 0 (first_variable p gs t) f f v graph gs.graphs = each_at variable_count (element_of at_blocks) 0 (first_variable p gs t) f f v graph gs.graphs (omega arith) is less in
      let u : IsGiven variable_count (is_unbound at_blocks) 0 (first_block p gs t + sum blocks) f f v graph gs.graphs = each_at variable_count (is_unbound at_blocks) 0 (first_block p gs t + sum blocks) f f v graph gs.graphs (omega arith) is less in
      let stands = u.stands in
      let inside = u.inside in (
        behind (take (first_variable p gs t) a.parts.cells) elements (first_variable p gs t) x.past (place_in (plan p gs t).places.variables f v) Nothing front_cells x.stands
            ∙ x.gives Nothing
            ∙ ap (λ o. element_in (at_blocks f) o) owner_is,
        behind (take (first_block p gs t) a.parts.marks) (reached ++ (loose ++ last)) (first_block p gs t) (sum blocks + u.past) (place_in (plan p gs t).places.loose f v) false front_marks (omega (arith, stands))
            ∙ behind reached (loose ++ last) (sum blocks) u.past (sum blocks + u.past) false reached_count refl
            ∙ get_or_append_left loose last false u.past (omega (arith, inside, loose_count))
            ∙ u.gives false
            ∙ ap (λ o. unbound_in (at_blocks f) o) owner_is,
      )

  place_stands : (f b base m node : ℕ) (value : Bool) (form : Form) → block_in (slice_get gs.graphs f) b ≡ Some (numbered base m node value form) → (j : ℕ) → place_of (base + j) (variables_of (numbered base m node value form)) ≡ Some j
      → StandsIn (whole (plan p gs t)) w f base (at_blocks f b) j
  place_stands f b base m node value form is j found = by_graph (slice_get gs.graphs f) refl is
    where
      by_graph : (o : Option Graph) → slice_get gs.graphs f ≡ o → block_in o b ≡ Some (numbered base m node value form) → StandsIn (whole (plan p gs t)) w f base (at_blocks f b) j
      by_graph None e there = cc
      by_graph (Some graph) e there = variable_stands f b (base + j) j graph (numbered base m node value form) e there found

  -- ---- elements

  element_formed : (f : ℕ) (o : Option (ℕ × ℕ)) → IsFormed (element_in (at_blocks f) o)
  element_formed f None = nothing_formed
  element_formed f (Some found) = shown f found.0 found.1

  all_formed : (c : ℕ) → IsFormed (at w c)
  all_formed c =
      both_formed (take (first_variable p gs t) a.parts.cells) elements (front_formed (first_variable p gs t) a.parts.cells formed)
      (each_formed variable_count (element_of at_blocks) (λ f graph v. element_formed f (owner v 0 graph.blocks)) 0 gs.graphs) c

  pub is_lift : IsLift (whole (plan p gs t)) a at_blocks w
  is_lift = record {
    alike = alike;
    cells = all_cells;
    marks = all_marks;
    reached = λ f. part_mark 0 (place (plan p gs t).places.reached f) (0 + functions) (omega arith) (in_numbers functions 0 f);
    loaded = λ s. part_mark (0 + functions + classes) (place (plan p gs t).places.loaded s) (0 + functions + classes + sites) (omega arith) (in_numbers sites (0 + functions + classes) s);
    unbound = λ node. node_mark (place (plan p gs t).places.unbound node) (in_numbers nodes (first_node p gs t) node);
    blocks = block_stands;
    inputs = λ f b base m node value form is j lt. place_stands f b base m node value form is j (input_place base m node value form j lt);
    results = λ f b base m node value form is has. place_stands f b base m node value form is m (result_place base m node value form has);
    formed = all_formed;
  }

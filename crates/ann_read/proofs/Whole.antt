-- A closed assignment of the graphs, free of conflict, gives a closed annotation of the trees, free of conflict.
use Rattle.std.proofs.Common.{◌≡◌, ◌+◌, ◌<◌, ℕ, zero, suc, Bool, true, false, List, [], ◌∷◌, ◌++◌, ◌⊎◌, inl, inr, length, map, get_or, Option, Some, None, refl, sym, ap, ◌∙◌, arith, subst}
use Rattle.std.specs.Prelude.{slice_get, ◌==◌, ◌&&◌, not, if◌then◌else◌}
use Rattle.std.specs.List.{flat_map}
use Rattle.std.proofs.lemmas.Bool.{eq-eqb}
use Rattle.rpy_tree.specs.declared.program.ClassInfo.{ClassInfo}
use Rattle.rpy_tree.specs.declared.program.Site.{Site}
use Rattle.rpy_meaning.specs.Tree as tree
use Rattle.flow_graph.specs.declared.graph.Op.{Op}
use Rattle.flow_graph.specs.declared.graph.Block.{Block}
use Rattle.flow_graph.specs.declared.graph.Graph.{Graph}
use Rattle.flow_graph.specs.declared.graph.Graphs.{Graphs}
use Rattle.flow_graph.specs.Whole.{CountFrom}
use Rattle.flow_meaning.specs.Machine.{block_in}
use Rattle.flow_stands.specs.Places.{Go, first, numbered}
use Rattle.flow_stands.specs.Stands.{head_block}
use Rattle.flow_trees.specs.Tree.{Function}
use Rattle.flow_trees.specs.Marks as marks
use Rattle.ann_element.specs.Sites.{leader}
use Rattle.ann_lattice.specs.Order.{Below}
use Rattle.ann_lattice.specs.Join.{is_clash}
use Rattle.ann_lattice.specs.Kind.{some_nothing}
use Rattle.ann_lattice.specs.Laws.{IsFormed}
use Rattle.ann_lattice.specs.Assign.{Assignment, at, mark, Need, Set, Holds, Closed, Free, Fits}
use Rattle.ann_lattice.proofs.Ordered.{below_self}
use Rattle.ann_laws.specs.Rows.{HasClasses}
use Rattle.ann_laws.proofs.Pairs.{both, or_first, or_second}
use Rattle.ann_rules.specs.Program.{Whole}
use Rattle.ann_rules.specs.Asks.{when, from_each, tie}
use Rattle.ann_rules.specs.Rules as rule
use Rattle.ann_rules.specs.Hold.{AllHold, OpSpots, BlockSpots, GraphSpots, IsPlaced}
use Rattle.ann_rules.proofs.Facts.{Facts, Level, hold_left, hold_right}
use Rattle.ann_tree.specs.Faults.{Flaw, shows}
use Rattle.ann_tree.specs.Annotation.{Annotation}
use Rattle.ann_tree.specs.Closed.{bound, IsClosedIn, IfFunction, HasPlaces, IsClosed}
use Rattle.ann_read.specs.Reading.{In, ops_of, op_shows, ops_show, blocks_show, graphs_show, IsReading, HasGraphs, HasCells, HasSpots}
use Rattle.ann_read.proofs.Links.{Known, IsKept, IsShown, IsAlike}
use Rattle.ann_read.proofs.Functions.{Started, body_closed}

-- ---- lists of operations

pub in_left : (os qs : List Op) (o : Op) → In os o → In (os ++ qs) o
in_left [] qs o h = absurd h
in_left (x ∷ os) qs o (inl e) = inl e
in_left (x ∷ os) qs o (inr h) = inr (in_left os qs o h)

pub in_right : (os qs : List Op) (o : Op) → In qs o → In (os ++ qs) o
in_right [] qs o h = h
in_right (x ∷ os) qs o h = inr (in_right os qs o h)

some_op : (os : List Op) (o : Op) (rest : List Op) → os ≡ o ∷ rest → In os o
some_op os o rest e = subst (λ l. In l o) (sym e) (inl refl)

in_block : (bs : List Block) (b : ℕ) (code : Block) (o : Op) → slice_get bs b ≡ Some code → In code.ops o → In (flat_map (λ (x : Block). x.ops) bs) o
in_block [] b code o is h = cc
in_block (x ∷ bs) zero code o is h = let e : x ≡ code = cc in in_left x.ops (flat_map (λ (y : Block). y.ops) bs) o (subst (λ (y : Block). In y.ops o) (sym e) h)
in_block (x ∷ bs) (suc b) code o is h = in_right x.ops (flat_map (λ (y : Block). y.ops) bs) o (in_block bs b code o is h)

-- a graph is that of the function with its number
counted : (n : ℕ) (gs : List Graph) (f : ℕ) (graph : Graph) → CountFrom n gs → slice_get gs f ≡ Some graph → graph.function ≡ n + f
counted n [] f graph h is = cc
counted n (x ∷ gs) zero graph h is =
    let same : x ≡ graph = cc in
    let z : n ≡ n + zero = omega arith in
    ap (λ (y : Graph). y.function) (sym same) ∙ h.0 ∙ z
counted n (x ∷ gs) (suc f) graph h is = let z : n + 1 + f ≡ n + suc f = omega arith in counted (n + 1) gs f graph h.1 is ∙ z

-- ---- needs

module _ (k : List ClassInfo) (w : Assignment) where
  hold_all : (ns : List Need) → ((r : ℕ) → Holds k w (get_or ns r rule.no_need)) → AllHold k w ns
  hold_all [] h = tt
  hold_all (n ∷ ns) h = (h zero, hold_all ns (λ r. h (suc r)))

  hold_of : (f : Op → List Need) (os : List Op) (o : Op) → AllHold k w (from_each f os) → In os o → AllHold k w (f o)
  hold_of f [] o h i = absurd i
  hold_of f (x ∷ os) o h (inl e) = subst (λ y. AllHold k w (f y)) e (hold_left k w (f x) (from_each f os) h)
  hold_of f (x ∷ os) o h (inr i) = hold_of f os o (hold_right k w (f x) (from_each f os) h) i

  numbered_at : {A : Type 0} → (p : Whole) (f : ℕ → A → List Need) (n : ℕ) (xs : List A) (i : ℕ) (x : A) → AllHold k w (rule.numbered p w f n xs) → slice_get xs i ≡ Some x → AllHold k w (f (n + i) x)
  numbered_at p f n [] i x h is = cc
  numbered_at p f n (y ∷ xs) zero x h is =
      let e : y ≡ x = cc in
      let same : n ≡ n + zero = omega arith in
      subst (λ m. AllHold k w (f m x)) same (subst (λ z. AllHold k w (f n z)) e (hold_left k w (f n y) (rule.numbered p w f (suc n) xs) h))
  numbered_at p f n (y ∷ xs) (suc i) x h is =
      let same : suc n + i ≡ n + suc i = omega arith in
      subst (λ m. AllHold k w (f m x)) same (numbered_at p f (suc n) xs i x (hold_right k w (f n y) (rule.numbered p w f (suc n) xs) h) is)

-- ---- spots

module _ (p : Whole) (spots : ℕ → Bool) (n : ℕ) where
  abbrev Spot : ℕ → Op → Type 0
  Spot f o = (spots (p.places.variable f o.result) ≡ true) × (p.places.variable f o.result < n)

  op_spot : (f : ℕ) (os : List Op) (o : Op) → OpSpots p spots n f os → In os o → Spot f o
  op_spot f [] o h i = absurd i
  op_spot f (x ∷ os) o h (inl e) = subst (λ (y : Op). Spot f y) e h.0
  op_spot f (x ∷ os) o h (inr i) = op_spot f os o h.1 i

  in_parts : (os qs : List Op) (o : Op) → In (os ++ qs) o → In os o ⊎ In qs o
  in_parts [] qs o h = inr h
  in_parts (x ∷ os) qs o (inl e) = inl (inl e)
  in_parts (x ∷ os) qs o (inr h) = later (in_parts os qs o h)
    where
      later : In os o ⊎ In qs o → In (x ∷ os) o ⊎ In qs o
      later (inl i) = inl (inr i)
      later (inr i) = inr i

  block_spot : (f : ℕ) (bs : List Block) (o : Op) → BlockSpots p spots n f bs → In (flat_map (λ (x : Block). x.ops) bs) o → Spot f o
  block_spot f [] o h i = absurd i
  block_spot f (x ∷ bs) o h i = by_side (in_parts x.ops (flat_map (λ (y : Block). y.ops) bs) o i) (λ j. block_spot f bs o h.1 j)
    where
      by_side : In x.ops o ⊎ In (flat_map (λ (y : Block). y.ops) bs) o → (In (flat_map (λ (y : Block). y.ops) bs) o → Spot f o) → Spot f o
      by_side (inl j) rest = op_spot f x.ops o h.0 j
      by_side (inr j) rest = rest j

  graph_spots : (m : ℕ) (gs : List Graph) (i : ℕ) (graph : Graph) → GraphSpots p spots n m gs → slice_get gs i ≡ Some graph → BlockSpots p spots n (m + i) graph.blocks
  graph_spots m [] i graph h is = cc
  graph_spots m (x ∷ gs) zero graph h is =
      let e : x ≡ graph = cc in
      let same : m ≡ m + zero = omega arith in
      subst (λ l. BlockSpots p spots n l graph.blocks) same (subst (λ (y : Graph). BlockSpots p spots n m y.blocks) e h.0)
  graph_spots m (x ∷ gs) (suc i) graph h is =
      let same : suc m + i ≡ m + suc i = omega arith in
      subst (λ l. BlockSpots p spots n l graph.blocks) same (graph_spots (suc m) gs i graph h.1 is)

-- ---- flaws

module _ (p : Whole) (w : Assignment) (flaw : Flaw) (node : ℕ) where
  block_shows : (f n b : ℕ) (bs : List Block) (code : Block) → slice_get bs b ≡ Some code → mark w (p.places.block f (n + b)) ≡ true → ops_show p w flaw node f code.ops ≡ true
      → blocks_show p w flaw node f n bs ≡ true
  block_shows f n b [] code is set h = cc
  block_shows f n zero (x ∷ bs) code is set h =
      let same : x ≡ code = cc in
      let z : n + zero ≡ n = omega arith in
      or_first (mark w (p.places.block f n) && ops_show p w flaw node f x.ops) (blocks_show p w flaw node f (suc n) bs)
      (both (mark w (p.places.block f n)) (ops_show p w flaw node f x.ops) (subst (λ i. mark w (p.places.block f i) ≡ true) z set) (subst (λ (y : Block). ops_show p w flaw node f y.ops ≡ true) (sym same) h))
  block_shows f n (suc b) (x ∷ bs) code is set h =
      let z : n + suc b ≡ suc n + b = omega arith in
      or_second (mark w (p.places.block f n) && ops_show p w flaw node f x.ops) (blocks_show p w flaw node f (suc n) bs)
      (block_shows f (suc n) b bs code is (subst (λ i. mark w (p.places.block f i) ≡ true) z set) h)

  graph_shows : (n f : ℕ) (gs : List Graph) (graph : Graph) → slice_get gs f ≡ Some graph → blocks_show p w flaw node (n + f) 0 graph.blocks ≡ true → graphs_show p w flaw node n gs ≡ true
  graph_shows n f [] graph is h = cc
  graph_shows n zero (x ∷ gs) graph is h =
      let same : x ≡ graph = cc in
      let z : n + zero ≡ n = omega arith in
      or_first (blocks_show p w flaw node n 0 x.blocks) (graphs_show p w flaw node (suc n) gs)
      (subst (λ i. blocks_show p w flaw node i 0 x.blocks ≡ true) z (subst (λ (y : Graph). blocks_show p w flaw node (n + zero) 0 y.blocks ≡ true) (sym same) h))
  graph_shows n (suc f) (x ∷ gs) graph is h =
      let z : n + suc f ≡ suc n + f = omega arith in
      or_second (blocks_show p w flaw node n 0 x.blocks) (graphs_show p w flaw node (suc n) gs)
      (graph_shows (suc n) f gs graph is (subst (λ i. blocks_show p w flaw node i 0 graph.blocks ≡ true) z h))

-- ---- the whole

module _ (program : tree.Program) (gs : Graphs) (p : Whole) (functions : List Function) (spots : ℕ → Bool) (start : Assignment) (a : Annotation) where
  pub record Premises : Type 0 where
    pub graphs : HasGraphs program gs p functions
    pub classes : HasClasses p.tables
    pub placed : IsPlaced p spots start
    pub fits : Fits p.tables.classes start a.parts
    pub cells : HasCells p a.parts
    pub spotted : HasSpots p spots
    pub closed : Closed p.tables.classes (rule.rules p) a.parts
    pub free : Free spots a.parts
    pub reading : IsReading p a

module _ (program : tree.Program) (gs : Graphs) (p : Whole) (functions : List Function) (spots : ℕ → Bool) (start : Assignment) (a : Annotation) (h : Premises program gs p functions spots start a) where
  abbrev k : List ClassInfo
  k = p.tables.classes

  abbrev w : Assignment
  w = a.parts

  abbrev of_starts : List Need
  of_starts = rule.numbered p w (rule.start_needs p w) zero p.callees

  abbrev of_graphs : List Need
  of_graphs = rule.numbered p w (rule.graph_needs p w) zero p.graphs

  abbrev of_sites : List Need
  of_sites = rule.numbered p w (rule.site_needs p w) zero p.sites

  all_needs : AllHold k w (rule.needs p w)
  all_needs = hold_all k w (rule.needs p w) h.closed

  entry_holds : AllHold k w (rule.entry_needs p w)
  entry_holds = hold_left k w (rule.entry_needs p w) (of_starts ++ (of_graphs ++ of_sites)) all_needs

  starts_hold : AllHold k w of_starts
  starts_hold = hold_left k w of_starts (of_graphs ++ of_sites) (hold_right k w (rule.entry_needs p w) (of_starts ++ (of_graphs ++ of_sites)) all_needs)

  graphs_hold : AllHold k w of_graphs
  graphs_hold = hold_left k w of_graphs of_sites (hold_right k w of_starts (of_graphs ++ of_sites) (hold_right k w (rule.entry_needs p w) (of_starts ++ (of_graphs ++ of_sites)) all_needs))

  sites_hold : AllHold k w of_sites
  sites_hold = hold_right k w of_graphs of_sites (hold_right k w of_starts (of_graphs ++ of_sites) (hold_right k w (rule.entry_needs p w) (of_starts ++ (of_graphs ++ of_sites)) all_needs))

  -- ---- the classes of sites

  pub in_sites : (s : ℕ) → leader w.same s < length p.sites
  in_sites s = let l : leader w.same s < length start.same = h.fits.table.sites s in let e = h.placed.sites in omega (arith, l, e)

  item_in : (s : ℕ) → s < length p.sites → p.places.item s < length w.cells
  item_in s lt = let l = h.placed.items s lt in let e = h.fits.cells in omega (arith, l, e)

  key_in : (s : ℕ) → s < length p.sites → p.places.key s < length w.cells
  key_in s lt = let l = h.placed.keys s lt in let e = h.fits.cells in omega (arith, l, e)

  there : (sites : List Site) (s : ℕ) → s < length sites → (site : Site) × (slice_get sites s ≡ Some site)
  there [] s lt = absurd (omega (arith, lt))
  there (x ∷ sites) zero lt = (x, refl)
  there (x ∷ sites) (suc s) lt = there sites s (omega (arith, lt))

  site_holds : (s : ℕ) → s < length p.sites → (site : Site) × AllHold k w (rule.site_needs p w s site)
  site_holds s lt =
      let t = there p.sites s lt in
      let z : zero + s ≡ s = omega arith in
      (t.0, subst (λ m. AllHold k w (rule.site_needs p w m t.0)) z (numbered_at k w p (rule.site_needs p w) zero p.sites s t.0 sites_hold t.1))

  level_of : (d e : ℕ) → d < length w.cells → e < length w.cells → AllHold k w (tie p w d e) → Level k w d e
  level_of d e in_d in_e t = record { there = (t.1.0 in_e).0; back = (t.0 in_d).0 }

  items_level : (s : ℕ) → s < length p.sites → Level k w (p.places.item s) (p.places.item (leader w.same s))
  items_level s lt =
      let t = site_holds s lt in
      level_of (p.places.item s) (p.places.item (leader w.same s)) (item_in s lt) (item_in (leader w.same s) (in_sites s))
      (hold_left k w (tie p w (p.places.item s) (p.places.item (leader w.same s)))
      (tie p w (p.places.key s) (p.places.key (leader w.same s)) ++ when (mark w (p.places.loaded s)) (rule.contents p w s t.0.dict t.0.prebuilt)) t.1)

  keys_level : (s : ℕ) → s < length p.sites → Level k w (p.places.key s) (p.places.key (leader w.same s))
  keys_level s lt =
      let t = site_holds s lt in
      level_of (p.places.key s) (p.places.key (leader w.same s)) (key_in s lt) (key_in (leader w.same s) (in_sites s))
      (hold_left k w (tie p w (p.places.key s) (p.places.key (leader w.same s))) (when (mark w (p.places.loaded s)) (rule.contents p w s t.0.dict t.0.prebuilt))
      (hold_right k w (tie p w (p.places.item s) (p.places.item (leader w.same s)))
      (tie p w (p.places.key s) (p.places.key (leader w.same s)) ++ when (mark w (p.places.loaded s)) (rule.contents p w s t.0.dict t.0.prebuilt)) t.1))

  pub facts : Facts p w w
  facts = record {
    classes = h.classes;
    less = record { same = record { by = λ s v e. e }; cells = λ d. below_self k h.classes.tree w.same (at w d); marks = λ m e. e };
    formed = h.fits.formed;
    leads = h.fits.table.leads;
    within = in_sites;
    within_too = in_sites;
    items = items_level;
    keys = keys_level;
    item_there = item_in;
    key_there = key_in;
    item_free = λ s. h.free (p.places.item s) (h.placed.item_spots s);
    key_free = λ s. h.free (p.places.key s) (h.placed.key_spots s);
  }

  -- ---- a graph

  module _ (f : ℕ) (graph : Graph) (is : slice_get p.graphs f ≡ Some graph) where
    pub graph_holds : AllHold k w (rule.graph_needs p w f graph)
    graph_holds = let z : zero + f ≡ f = omega arith in subst (λ m. AllHold k w (rule.graph_needs p w m graph)) z (numbered_at k w p (rule.graph_needs p w) zero p.graphs f graph graphs_hold is)

    spot_of : (o : Op) → In (ops_of graph) o → Spot p spots (length start.cells) f o
    spot_of o i =
        let z : zero + f ≡ f = omega arith in
        block_spot p spots (length start.cells) f graph.blocks o (subst (λ m. BlockSpots p spots (length start.cells) m graph.blocks) z (graph_spots p spots (length start.cells) zero p.graphs f graph h.placed.results is)) i

    pub cell_of : (o : Op) → In (ops_of graph) o → p.places.variable f o.result < length w.cells
    cell_of o i = let s = spot_of o i in let l = s.1 in let e = h.fits.cells in omega (arith, l, e)

    pub free_of : (o : Op) → In (ops_of graph) o → is_clash (at w (p.places.variable f o.result)) ≡ false
    free_of o i = h.free (p.places.variable f o.result) (spot_of o i).0

    -- the results of one node are level
    tied : (q o : Op) → In (ops_of graph) q → In (ops_of graph) o → q.value ≡ true → o.value ≡ true → q.node ≡ o.node → Level k w (p.places.variable f q.result) (p.places.variable f o.result)
    tied q o i j q_value o_value same =
        let os = ops_of graph in
        let ties = hold_right k w (rule.blocks_needs p w f graph zero graph.blocks) (rule.tie_ops p w f graph (rule.all_ops p w f graph graph.blocks)) graph_holds in
        let one = hold_of k w (λ x. from_each (rule.tie_with p w f graph x) os) os q ties i in
        let two = hold_of k w (rule.tie_with p w f graph q) os o one j in
        let test : (q.value && (o.value && (o.node == q.node))) ≡ true =
        both q.value (o.value && (o.node == q.node)) q_value (both o.value (o.node == q.node) o_value (eq-eqb o.node q.node (sym same))) in
        level_of (p.places.variable f q.result) (p.places.variable f o.result) (cell_of q i) (cell_of o j)
        (subst (λ b. AllHold k w (when b (tie p w (p.places.variable f q.result) (p.places.variable f o.result)))) test two)

    pub alike : (o : Op) → In (ops_of graph) o → o.value ≡ true → IsAlike p w (a.element o.node) (at w (p.places.variable f o.result))
    alike o i value =
        let r = h.reading.of_nodes f graph o is i value in
        let l = tied r.0 o r.1 i r.2 value r.3 in
        record {
          there = subst (λ x. Below k w.same x (at w (p.places.variable f o.result))) (sym r.4) l.there;
          back = subst (λ x. Below k w.same (at w (p.places.variable f o.result)) x) (sym r.4) l.back;
          free = ap is_clash r.4 ∙ free_of r.0 r.1;
          formed = subst (λ x. IsFormed x) (sym r.4) (facts.formed (p.places.variable f r.0.result));
        }

    kept : (b : ℕ) (code : Block) (o : Op) (os : List Op) → slice_get graph.blocks b ≡ Some code → code.ops ≡ o ∷ os → IsKept p w a.element f o
    kept b code o os there first =
        let i = in_block graph.blocks b code o there (some_op code.ops o os first) in
        record { cell = cell_of o i; loose = h.cells.results f graph o is i; free = free_of o i; node = λ value. alike o i value }

    shown : (b : ℕ) (code : Block) (o : Op) (os : List Op) → slice_get graph.blocks b ≡ Some code → code.ops ≡ o ∷ os → mark w (p.places.block f b) ≡ true → IsShown p w a.faulty f o
    shown b code o os at_b ops_are set flaw some shows_it =
        let zf : f ≡ zero + f = omega arith in
        let zb : b ≡ zero + b = omega arith in
        h.reading.of_flaws flaw o.node
        (graph_shows p w flaw o.node 0 f p.graphs graph is
        (subst (λ i. blocks_show p w flaw o.node i 0 graph.blocks ≡ true) zf
        (block_shows p w flaw o.node f 0 b graph.blocks code at_b (subst (λ i. mark w (p.places.block f i) ≡ true) zb set)
        (subst (λ l. ops_show p w flaw o.node f l ≡ true) (sym ops_are)
        (or_first (op_shows p w flaw o.node f o) (rule.goes_on p w f o && ops_show p w flaw o.node f os)
        (both (o.node == o.node) (not (some_nothing (map (rule.value p w f) o.args)) && shows p w flaw o.value o.op (map (rule.value p w f) o.args)) (eq-eqb o.node o.node refl)
        (both (not (some_nothing (map (rule.value p w f) o.args))) (shows p w flaw o.value o.op (map (rule.value p w f) o.args)) (ap not some) shows_it)))))))

    inputs_placed : (b j : ℕ) (o : Option Block) → slice_get graph.blocks b ≡ o → j < length (rule.inputs_of o)
        → (p.places.variable f (get_or (rule.inputs_of o) j 0) < length w.cells) × (p.places.loose f (get_or (rule.inputs_of o) j 0) < length w.marks)
    inputs_placed b j None e lt = absurd (omega (arith, lt))
    inputs_placed b j (Some code) e lt = h.cells.inputs f b j graph code is e lt

    abbrev known : ℕ → Known
    known n = record {
      program = program;
      graphs = gs;
      p = p;
      w = w;
      element = a.element;
      faulty = a.faulty;
      f = f;
      n = n;
      graph = graph;
      is = subst (λ l. slice_get l f ≡ Some graph) h.graphs.graphs is;
      function = let z : zero + f ≡ f = omega arith in counted zero p.graphs f graph h.graphs.numbers is ∙ z;
      facts = facts;
      blocks = hold_left k w (rule.blocks_needs p w f graph zero graph.blocks) (rule.tie_ops p w f graph (rule.all_ops p w f graph graph.blocks)) graph_holds;
      placed_blocks = λ b code there. h.cells.blocks f b graph code is there;
      placed_inputs = λ b j lt. inputs_placed b j (slice_get graph.blocks b) refl lt;
      kept = kept;
      shown = shown;
    }

  -- ---- a function

  started : (f : ℕ) (function : Function) (graph : Graph) (is : slice_get p.graphs f ≡ Some graph) → slice_get functions f ≡ Some function → mark w (p.places.reached f) ≡ true
      → Started (known f graph is function.locals) (length function.defaults) (bound function)
  started f function graph is there reached =
      let d = h.graphs.callees f function there in
      let z : zero + f ≡ f = omega arith in
      let needs : AllHold k w (rule.start_needs p w f d.0) = subst (λ m. AllHold k w (rule.start_needs p w m d.0)) z (numbered_at k w p (rule.start_needs p w) zero p.callees f d.0 starts_hold d.1) in
      let asked = λ (count bound : ℕ). Set (p.places.block f zero) ∷ rule.input_needs p w f count bound zero (rule.first_inputs p w (slice_get p.graphs f)) in
      let mine : AllHold k w (asked (length d.0.defaults) (rule.locals_of p w d.0)) = subst (λ b. AllHold k w (when b (asked (length d.0.defaults) (rule.locals_of p w d.0)))) reached needs in
      let locals_is : rule.locals_of p w d.0 ≡ bound function =
      ap (λ b. if b then length d.0.defaults + 1 else length d.0.defaults) d.3 ∙ ap (λ (n : ℕ). if function.takes_more then n + 1 else n) d.2 in
      subst (λ g. AllHold k w (Set (p.places.block f zero) ∷ rule.input_needs p w f (length function.defaults) (bound function) zero (rule.first_inputs p w g))) is
      (subst (λ n. AllHold k w (asked n (bound function))) d.2 (subst (λ n. AllHold k w (asked (length d.0.defaults) n)) locals_is mine))

  has_graph : (f : ℕ) (function : Function) → marks.HasFunction program gs f function → (graph : Graph) × (slice_get p.graphs f ≡ Some graph)
  has_graph f function has = by_graph (slice_get gs.graphs f) (numbered has.2.0 function.locals has.2.1 has.2.2 (Go (first has.0 function.locals))) refl has.2.3
    where
      by_graph : (o : Option Graph) (code : Block) → slice_get gs.graphs f ≡ o → block_in o head_block ≡ Some code → (graph : Graph) × (slice_get p.graphs f ≡ Some graph)
      by_graph None code e is = cc
      by_graph (Some graph) code e is = (graph, subst (λ l. slice_get l f ≡ Some graph) (sym h.graphs.graphs) e)

  function_closed : (f : ℕ) (function : Function) → slice_get functions f ≡ Some function → marks.HasFunction program gs f function → IsClosedIn p program.sites a f function
  function_closed f function there has reached =
      let g = has_graph f function has in
      let c : Known = known f g.0 g.1 function.locals in
      body_closed c (has.3, (refl, refl)) function.body (h.graphs.plain f function there) function.node has.0 (length function.defaults) (bound function) (length (marks.blocks_of (slice_get gs.graphs f))) (has.2, (refl, refl)) has.6 has.7 (started f function g.0 g.1 there reached)

  pub closed_trees : HasPlaces p program.sites a functions → IsClosed p program.sites a functions
  closed_trees places = record {
    placed = places;
    entry = entry_holds;
    functions_are = λ f. by_function f (slice_get functions f) refl;
    sites_are = sites_hold;
    free = record {
      params = λ f i. h.free (p.places.param f i) (h.spotted.params f i);
      results = λ f. h.free (p.places.result f) (h.spotted.results f);
      attributes = λ d name. h.free (p.places.attribute d name) (h.spotted.attributes d name);
      items = λ s. h.free (p.places.item s) (h.placed.item_spots s);
      keys = λ s. h.free (p.places.key s) (h.placed.key_spots s);
    };
  }
    where
      by_function : (f : ℕ) (o : Option Function) → slice_get functions f ≡ o → IfFunction p program.sites a f o
      by_function f None e = tt
      by_function f (Some function) e = function_closed f function e (subst (λ o. marks.IfFunction program gs f o) e (h.graphs.stand f))

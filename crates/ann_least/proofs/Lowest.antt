-- The least annotation of the graphs is the least of the trees.
use Rattle.std.proofs.Common.{◌≡◌, ◌+◌, ◌≤◌, ◌⊎◌, inl, inr, ℕ, zero, suc, Bool, true, false, List, [], ◌∷◌, ◌++◌, length, map, Option, Some, None, refl, sym, ap, ◌∙◌, arith, subst}
use Rattle.std.specs.Prelude.{◌==◌, ◌&&◌, ◌||◌, slice_get, option_map, if◌then◌else◌}
use Rattle.std.proofs.lemmas.Bool.{eqb-true, false≢true}
use Rattle.std.proofs.lemmas.List.{length-replicate}
use Rattle.std.proofs.lemmas.Option.{slice_get-map}
use Rattle.rpy_tree.specs.declared.program.ClassInfo.{ClassInfo}
use Rattle.rpy_tree.specs.declared.program.Program.{Program}
use Rattle.rpy_resolved.specs.declared.tree.Resolved.{Resolved}
use Rattle.resolved_meaning.specs.Trees.{program_of}
use Rattle.flow_graph.specs.declared.graph.Graph.{Graph}
use Rattle.flow_graph.specs.declared.graph.Graphs.{Graphs}
use Rattle.flow_graph.specs.declared.graph.Op.{Op}
use Rattle.flow_graph.specs.Whole.{CountFrom}
use Rattle.flow_meaning.specs.Machine.{block_in}
use Rattle.flow_reads.proofs.Functions.{block_reads}
use Rattle.flow_space.specs.Placed.{NodesAt}
use Rattle.flow_space.specs.Trees.{function_of, functions_of}
use Rattle.class_desc.specs.Tables.{Tables, tables}
use Rattle.ann_lattice.specs.Shape.{Shape, Nothing}
use Rattle.ann_lattice.specs.Order.{Below, least}
use Rattle.ann_lattice.specs.Join.{Within, is_clash}
use Rattle.ann_lattice.specs.Assign.{Assignment, at, mark, Closed, Free, Fits, Less, IsTable, IsLeast as IsLeastIn}
use Rattle.ann_lattice.proofs.Ordered.{below_on}
use Rattle.ann_laws.specs.Rows.{HasClasses}
use Rattle.ann_rules.specs.Program.{Whole}
use Rattle.ann_rules.specs.Rules.{rules}
use Rattle.ann_needs.specs.View.{nowhere, place, place_in, attribute_in, whole}
use Rattle.ann_needs.specs.declared.plan.Places.{Places}
use Rattle.ann_layout.specs.Layout.{numbers, rows, block_count, plan, planned}
use Rattle.ann_places.specs.Placed.{count_of}
use Rattle.ann_places.specs.Spots.{part_cells, graph_cells, spot_cells, row_cells, all_named_cells, among, spots, start}
use Rattle.ann_tree.specs.Annotation.{Annotation}
use Rattle.ann_planned.proofs.Planning.{premises}
use Rattle.ann_read.specs.Reading.{In, ops_of, AreApart, gives, first_giving, element_of, element_in, reading, HasGraphs, HasOps}
use Rattle.ann_read.proofs.Whole.{Premises}
use Rattle.ann_read.proofs.Readings.{is_reading, are_apart}
use Rattle.ann_read.proofs.Flaws.{flaws_up}
use Rattle.ann_lift.specs.Lift.{IsLift}
use Rattle.ann_lift.specs.Spots.{Spots}
use Rattle.ann_lifted.specs.Lifted.{ReadOwn, HasNoOthers, IsLifted}
use Rattle.ann_lifted.proofs.Whole.{lifted, lifted_formed, is_lifted}
use Rattle.ann_filled.specs.Filled.{filled}
use Rattle.ann_filled.proofs.Filling.{is_lift}
use Rattle.ann_read.specs.Sound.{AreSound}
use Rattle.ann_flow.proofs.Flowing.{closed_flow}
use Rattle.ann_shown.proofs.Names.{declared_distinct}
use Rattle.ann_shown.proofs.Standing.{attribute_is}
use Rattle.ann_least.specs.Least.{IsLower, IsAnnotation, IsLeast}
use Rattle.ann_least.proofs.Spots.{among_split, row_found, rows_found, name_found, graph_found, past, all_same}

-- ---- a block that is not there has no mark

numbers_past : (n count i : ℕ) → count ≤ i → place (numbers n count) i ≡ nowhere
numbers_past n zero i le = refl
numbers_past n (suc count) zero le = absurd (omega (arith, le))
numbers_past n (suc count) (suc i) le = numbers_past (suc n) count i (omega (arith, le))

rows_past : (counts : List ℕ) (n f i : ℕ) → count_of counts f ≤ i → place_in (rows n counts) f i ≡ nowhere
rows_past [] n f i le = refl
rows_past (count ∷ counts) n zero i le = numbers_past n count i le
rows_past (count ∷ counts) n (suc f) i le = rows_past counts (n + count) f i le

not_past : {A : Type 0} → (xs : List A) (i : ℕ) → slice_get xs i ≡ None → length xs ≤ i
not_past [] i e = omega arith
not_past (x ∷ xs) zero e = absurd cc
not_past (x ∷ xs) (suc i) e = let l = not_past xs i e in omega (arith, l)

blocks_past : (graphs : List Graph) (f b : ℕ) → block_in (slice_get graphs f) b ≡ None → count_of (map block_count graphs) f ≤ b
blocks_past [] f b e = omega arith
blocks_past (g ∷ graphs) zero b e = not_past g.blocks b e
blocks_past (g ∷ graphs) (suc f) b e = blocks_past graphs f b e

module _ (p : Program) (gs : Graphs) (r : Resolved) (nodes : NodesAt r gs) (count : CountFrom 0 gs.graphs) (sound : AreSound (whole (plan p gs (tables p))) (functions_of r)) (classes : HasClasses (tables p))
    (few_cells : (planned p gs (tables p)).cells ≤ nowhere) (few_marks : (planned p gs (tables p)).marks ≤ nowhere) where
  abbrev t : Tables
  t = tables p

  abbrev k : List ClassInfo
  k = t.classes

  abbrev pub W : Whole
  W = whole (plan p gs t)

  abbrev pub begin : Assignment
  begin = start (planned p gs t)

  abbrev pub Is : Annotation → Type 0
  Is a = IsAnnotation W (program_of r).sites (functions_of r) begin a

  pub has_ops : HasOps W (functions_of r)
  has_ops = record {
    of_graphs = λ f graph is.
        let h = nodes.only f graph is in
        (function_of r.sites h.0, slice_get-map (function_of r.sites) r.functions f ∙ ap (option_map (function_of r.sites)) h.1, h.2);
  }

  pub reads : ReadOwn W
  reads f b graph code is there =
      let o = has_ops.of_graphs f graph is in
      block_reads (program_of r) gs (functions_of r) nodes.stand f o.0 o.1 b code (subst (λ (g : Option Graph). block_in g b ≡ Some code) (sym is) there)

  pub has_graphs : HasGraphs (program_of r) gs W (functions_of r)
  has_graphs = record { graphs = refl; numbers = count; callees = sound.callees; stand = nodes.stand; plain = sound.plain }

  -- ---- an annotation of the trees gives an assignment to the graphs

  module _ (b : Annotation) (is : Is b) where
    abbrev at_blocks : ℕ → Spots
    at_blocks = lifted W (program_of r).sites b gs (program_of r) (functions_of r) classes.tree has_graphs has_ops reads is.closed is.fits.formed

    abbrev pub raised : Assignment
    raised = filled p gs t b at_blocks

    all_cells : length b.parts.cells ≡ (planned p gs t).cells
    all_cells = is.fits.cells ∙ length-replicate (planned p gs t).cells Nothing

    all_marks : length b.parts.marks ≡ (planned p gs t).marks
    all_marks = is.fits.marks ∙ length-replicate (planned p gs t).marks false

    pub lift : IsLift W b at_blocks raised
    lift = is_lift p gs t nodes.own few_cells few_marks b all_cells all_marks is.fits.formed at_blocks (lifted_formed W (program_of r).sites b gs (program_of r) (functions_of r) classes.tree has_graphs has_ops reads is.closed is.fits.formed)

    others : HasNoOthers W raised
    others f i e =
        let h : place_in (plan p gs t).places.blocks f i ≡ nowhere = rows_past (map block_count gs.graphs) _ f i (blocks_past gs.graphs f i e) in
        let marks : length raised.marks ≡ (planned p gs t).marks = lift.marks ∙ all_marks in
        omega (arith, h, marks, few_marks)

    pub up : IsLifted W b raised
    up = is_lifted W (program_of r).sites b gs (program_of r) (functions_of r) classes.tree has_graphs has_ops reads is.closed is.fits.formed raised lift others

    -- ---- it is free of conflict

    abbrev FreeAt : ℕ → Type 0
    FreeAt c = is_clash (at raised c) ≡ false

    free_param : (c : ℕ) → (f i : ℕ) × (place_in (plan p gs t).places.params f i ≡ c) → FreeAt c
    free_param c h = subst FreeAt h.2 (ap is_clash (lift.alike.params h.0 h.1) ∙ is.closed.free.params h.0 h.1)

    free_result : (c : ℕ) → (f : ℕ) × (place (plan p gs t).places.results f ≡ c) → FreeAt c
    free_result c h = subst FreeAt h.1 (ap is_clash (lift.alike.results h.0) ∙ is.closed.free.results h.0)

    free_item : (c : ℕ) → (s : ℕ) × (place (plan p gs t).places.items s ≡ c) → FreeAt c
    free_item c h = subst FreeAt h.1 (ap is_clash (lift.alike.items h.0) ∙ is.closed.free.items h.0)

    free_key : (c : ℕ) → (s : ℕ) × (place (plan p gs t).places.keys s ≡ c) → FreeAt c
    free_key c h = subst FreeAt h.1 (ap is_clash (lift.alike.keys h.0) ∙ is.closed.free.keys h.0)

    free_attribute : (c : ℕ) → among c (all_named_cells (plan p gs t).places.attributes) ≡ true → FreeAt c
    free_attribute c h =
        let found = name_found c (plan p gs t).places.attributes h in
        let stands : attribute_in (plan p gs t).places.attributes found.0 found.2 ≡ c = attribute_is t (declared_distinct p.modules) (length t.classes) _ 0 found.0 found.1 c found.2 found.3 in
        subst FreeAt stands (ap is_clash (lift.alike.attributes found.0 found.2) ∙ is.closed.free.attributes found.0 found.2)

    abbrev P : Places
    P = (plan p gs t).places

    free_part : (c : ℕ) → among c (part_cells (plan p gs t).places) ≡ true → FreeAt c
    free_part c h = by_params (among_split c (row_cells P.params) (P.results ++ (all_named_cells P.attributes ++ (P.items ++ P.keys))) h)
      where
        by_items : (among c P.items ≡ true) ⊎ (among c P.keys ≡ true) → FreeAt c
        by_items (inl i) = free_item c (row_found c P.items i)
        by_items (inr i) = free_key c (row_found c P.keys i)

        by_names : (among c (all_named_cells P.attributes) ≡ true) ⊎ (among c (P.items ++ P.keys) ≡ true) → FreeAt c
        by_names (inl i) = free_attribute c i
        by_names (inr i) = by_items (among_split c P.items P.keys i)

        by_results : (among c P.results ≡ true) ⊎ (among c (all_named_cells P.attributes ++ (P.items ++ P.keys)) ≡ true) → FreeAt c
        by_results (inl i) = free_result c (row_found c P.results i)
        by_results (inr i) = by_names (among_split c (all_named_cells P.attributes) (P.items ++ P.keys) i)

        by_params : (among c (row_cells P.params) ≡ true) ⊎ (among c (P.results ++ (all_named_cells P.attributes ++ (P.items ++ P.keys))) ≡ true) → FreeAt c
        by_params (inl i) = free_param c (rows_found c P.params i)
        by_params (inr i) = by_results (among_split c P.results (all_named_cells P.attributes ++ (P.items ++ P.keys)) i)

    free_op : (c : ℕ) → among c (graph_cells W 0 gs.graphs) ≡ true → FreeAt c
    free_op c h =
        let found = graph_found W c 0 gs.graphs h in
        subst FreeAt found.5 (subst (λ i. is_clash (at raised (W.places.variable i found.2.result)) ≡ false) (number found.0) (up.free found.0 found.1 found.2 found.3 found.4))
      where
        number : (i : ℕ) → i ≡ 0 + i
        number i = omega arith

    pub free : Free (spots (plan p gs t)) raised
    free c h = by_place (c == nowhere) refl h
      where
        long : length raised.cells ≤ nowhere
        long = let e : length raised.cells ≡ (planned p gs t).cells = lift.cells ∙ all_cells in omega (arith, e, few_cells)

        by_cells : (among c (part_cells (plan p gs t).places) ≡ true) ⊎ (among c (graph_cells W 0 gs.graphs) ≡ true) → FreeAt c
        by_cells (inl i) = free_part c i
        by_cells (inr i) = free_op c i

        by_place : (b : Bool) → (c == nowhere) ≡ b → (b || among c (spot_cells (plan p gs t))) ≡ true → FreeAt c
        by_place true e i = let at_c : c ≡ nowhere = eqb-true c nowhere e in ap is_clash (past raised.cells c Nothing (omega (arith, long, at_c)))
        by_place false e i = by_cells (among_split c (part_cells (plan p gs t).places) (graph_cells W 0 gs.graphs) i)

    -- ---- it has the cells, marks and sites

    pub fits : Fits k begin raised
    fits = record {
      cells = lift.cells ∙ is.fits.cells;
      marks = lift.marks ∙ is.fits.marks;
      table = subst (λ u. IsTable (length begin.same) u) (sym lift.alike.same) is.fits.table;
      above = record {
        same = subst (λ u. Within begin.same u) (sym lift.alike.same) is.fits.above.same;
        cells = λ c. subst (λ x. Below k raised.same x (at raised c)) (sym (all_same (planned p gs t).cells c Nothing)) (least (at raised c));
        marks = λ m h. absurd (false≢true (sym (all_same (planned p gs t).marks m false) ∙ h));
      };
      formed = lift.formed;
    }

    pub closed : Closed k (rules W) raised
    closed = up.closed

    -- ---- what is below it is below the annotation

    -- the flaws of an annotation that is read from it
    apart : AreApart W
    apart = are_apart W (functions_of r) has_ops sound.own

    known : Premises (program_of r) gs W (functions_of r) (spots (plan p gs t)) begin (reading W raised)
    known = premises p gs t (program_of r) (functions_of r) (reading W raised) has_graphs fits classes closed free (is_reading W raised apart)

    module _ (w : Assignment) (table : IsTable (length begin.same) w.same) (less : Less k w raised) where
      under : (c : ℕ) → at raised c ≡ at b.parts c → Below k b.parts.same (at w c) (at b.parts c)
      under c e = subst (λ u. Below k u (at w c) (at b.parts c)) lift.alike.same (subst (λ x. Below k raised.same (at w c) x) e (less.cells c))

      marked : (m : ℕ) → mark raised m ≡ mark b.parts m → mark w m ≡ true → mark b.parts m ≡ true
      marked m e h = sym e ∙ less.marks m h

      abbrev Found : ℕ → Option Op → List Op → Type 0
      Found node None os = Unit {0}
      Found node (Some o) os = In os o × (gives node o ≡ true)

      more_found : (node : ℕ) (o : Option Op) (x : Op) (os : List Op) → Found node o os → Found node o (x ∷ os)
      more_found node None x os h = tt
      more_found node (Some o) x os h = (inr h.0, h.1)

      found : (node : ℕ) (os : List Op) → Found node (first_giving node os) os
      found node [] = tt
      found node (x ∷ os) = by_op (found node os) (gives node x) refl
        where
          by_op : Found node (first_giving node os) os → (c : Bool) → gives node x ≡ c → Found node (if c then Some x else first_giving node os) (x ∷ os)
          by_op rest true e = (inl refl, e)
          by_op rest false e = more_found node (first_giving node os) x os rest

      both_left : (c d : Bool) → (c && d) ≡ true → c ≡ true
      both_left true d h = refl
      both_left false d h = absurd (false≢true h)

      both_right : (c d : Bool) → (c && d) ≡ true → d ≡ true
      both_right true d h = h
      both_right false d h = absurd (false≢true h)

      one_node : (node f : ℕ) (graph : Graph) (rest : Shape) → slice_get gs.graphs f ≡ Some graph → Below k b.parts.same rest (b.element node) → (o : Option Op) → Found node o (ops_of graph) → Below k b.parts.same (element_of W w f o rest) (b.element node)
      one_node node f graph rest is low None h = low
      one_node node f graph rest is low (Some o) h =
          let value : o.value ≡ true = both_left o.value (o.node == node) h.1 in
          let same : o.node ≡ node = eqb-true o.node node (both_right o.value (o.node == node) h.1) in
          let cell : ℕ = W.places.variable f o.result in
          subst (λ n. Below k b.parts.same (at w cell) (b.element n)) same
          (below_on k classes.tree b.parts.same (at w cell) (at raised cell) (subst (λ u. Below k u (at w cell) (at raised cell)) lift.alike.same (less.cells cell)) (b.element o.node)
          (subst (λ u. Below k u (at raised cell) (b.element o.node)) lift.alike.same (up.values f graph o is h.0 value)))

      of_node : (node f : ℕ) (graphs : List Graph) → ((i : ℕ) (graph : Graph) → slice_get graphs i ≡ Some graph → slice_get gs.graphs (f + i) ≡ Some graph) → Below k b.parts.same (element_in W w node f graphs) (b.element node)
      of_node node f [] all = least (b.element node)
      of_node node f (graph ∷ graphs) all =
          one_node node f graph (element_in W w node (suc f) graphs) (subst (λ j. slice_get gs.graphs j ≡ Some graph) (here f) (all 0 graph refl))
          (of_node node (suc f) graphs (λ i g e. subst (λ j. slice_get gs.graphs j ≡ Some g) (sym (next f i)) (all (suc i) g e))) (first_giving node (ops_of graph)) (found node (ops_of graph))
        where
          next : (f i : ℕ) → suc f + i ≡ f + suc i
          next f i = omega arith

          here : (f : ℕ) → f + 0 ≡ f
          here f = omega arith

      pub lower : IsLower W (reading W w) b
      lower = record {
        same = subst (λ u. Within w.same u) lift.alike.same less.same;
        params = λ f i. under (W.places.param f i) (lift.alike.params f i);
        results = λ f. under (W.places.result f) (lift.alike.results f);
        attributes = λ c name. under (W.places.attribute c name) (lift.alike.attributes c name);
        items = λ s. under (W.places.item s) (lift.alike.items s);
        keys = λ s. under (W.places.key s) (lift.alike.keys s);
        reached = λ f. marked (W.places.reached f) (lift.reached f);
        made = λ c. marked (W.places.made c) (lift.alike.made c);
        loaded = λ s. marked (W.places.loaded s) (lift.loaded s);
        unbound = λ node. marked (W.places.unbound node) (lift.unbound node);
        faulty = λ flaw node shown. up.flaws flaw node (flaws_up (program_of r) gs W (functions_of r) (spots (plan p gs t)) begin (reading W raised) known w table less flaw node shown);
        elements = λ node. of_node node 0 gs.graphs (λ i graph e. subst (λ j. slice_get gs.graphs j ≡ Some graph) (number i) e);
      }
        where
          number : (i : ℕ) → i ≡ 0 + i
          number i = omega arith

  -- ---- both leasts are one

  pub least_of_trees : (w : Assignment) → Fits k begin w → Closed k (rules W) w → Free (spots (plan p gs t)) w → IsLeastIn k (rules W) (spots (plan p gs t)) begin w → IsLeast W (program_of r).sites (functions_of r) begin (reading W w)
  least_of_trees w fits_w closed_w free_w least_w = record {
    is = record { fits = fits_w; closed = closed_flow p gs t r nodes count sound classes w fits_w closed_w free_w };
    least = λ b is. lower b is w fits_w.table (least_w (raised b is) (fits b is) (closed b is) (free b is));
  }

  pub none_of_trees : ((w : Assignment) → Fits k begin w → Closed k (rules W) w → Free (spots (plan p gs t)) w → ⊥) → (b : Annotation) → Is b → ⊥
  none_of_trees none b is = none (raised b is) (fits b is) (closed b is) (free b is)

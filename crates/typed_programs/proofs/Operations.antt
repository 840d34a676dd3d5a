-- The operations of blocks that are reached.
use Rattle.std.proofs.Common.{◌≡◌, ◌<◌, ◌⊎◌, inl, inr, ℕ, zero, suc, ◌+◌, ◌==◌, ◌||◌, Bool, true, false, not, List, [], ◌∷◌, ◌++◌, length, map, Option, Some, None, refl, sym, ap, ◌∙◌, subst, arith}
use Rattle.std.specs.Prelude.{slice_get, if◌then◌else◌}
use Rattle.ann_element.specs.declared.annotation.Annotation.{Annotation}
use Rattle.ann_element.specs.declared.element.Element.{Element}
use Rattle.ann_lattice.specs.Assign as assign
use Rattle.ann_lattice.specs.Assign.{at, mark}
use Rattle.ann_lattice.specs.Join.{is_clash}
use Rattle.ann_lattice.specs.Kind.{some_clash, some_nothing}
use Rattle.ann_lattice.specs.Shape.{Shape, shape}
use Rattle.ann_layout.specs.Layout.{plan}
use Rattle.ann_needs.specs.View.{nowhere, place_in}
use Rattle.ann_needs.specs.declared.plan.Places.{Places}
use Rattle.ann_needs.specs.declared.state.State.{State}
use Rattle.ann_places.specs.Spots.{among, spot_cells, part_cells, graph_cells, block_cells, op_cells}
use Rattle.ann_places.proofs.Spotting.{among_left, among_right}
use Rattle.ann_rules.specs.Asks.{asks, when}
use Rattle.ann_lattice.specs.Kind.{misfit}
use Rattle.ann_lattice.specs.Row.{fitting, pieces}
use Rattle.ann_lattice.specs.Shape.{Nothing}
use Rattle.ann_rules.specs.Asks as rules
use Rattle.ann_rules.specs.Rules.{is_unfit, pieces_for, asked, needs, op_needs, ops_needs, reached_needs, loose_needs, goes_on, value}
use Rattle.ann_settled.specs.Read as read
use Rattle.class_desc.specs.Tables.{tables}
use Rattle.conversion_laws.specs.Ordered.{AllLaid, End, Next}
use Rattle.flow_graph.specs.declared.graph.Block.{Block}
use Rattle.flow_graph.specs.declared.graph.Graph.{Graph}
use Rattle.flow_graph.specs.declared.graph.Graphs.{Graphs}
use Rattle.flow_graph.specs.declared.graph.Op.{Op}
use Rattle.flow_space.specs.Placed.{NodesAt}
use Rattle.graph_counts.specs.Counts.{IsReadAt, OpsUnder}
use Rattle.graph_counts.proofs.Counted.{variables_are_there}
use Rattle.laid_laws.specs.Laid.{InRows, StandsIn, Variable}
use Rattle.ll_code.specs.declared.program.LlProgram.{LlProgram}
use Rattle.object_laws.specs.Known.{Known as Seen}
use Rattle.rpy_checked.specs.Settles.{HasTypes}
use Rattle.rpy_resolved.specs.declared.tree.Resolved.{Resolved}
use Rattle.rpy_tree.specs.declared.program.Program.{Program}
use Rattle.rtyper_layout.specs.declared.layout.Layout.{Layout}
use Rattle.rtyper_program.specs.Graphs.{elements_in, types_of, variables}
use Rattle.rtyper_program.specs.Program.{IsLaid}
use Rattle.rtyper_program.specs.Raises.{has_exceptions}
use Rattle.rtyper_program.specs.Seen.{element_at, element_in, is_block_reached}
use Rattle.rtyped_runs.specs.Laws.{ExceptionsAreLaid}
use Rattle.block_laws.specs.Links.{AllUnder}
use Rattle.sound_rows.specs.Sound.{AllMet, Fits}
use Rattle.sound_rows.proofs.Containers.{met_append}
use Rattle.sound_rows.proofs.Tools.{above_clash}
use Rattle.sound_runs.proofs.Needs.{block_met, met_when}
use Rattle.typing_laws.proofs.Cells as typing
use Rattle.typed_rows.specs.Programs.{Typed, HasParts, layout, same, setting, world}
use Rattle.typed_rows.specs.Rows.{AllFree, AreElements, IsOp}
use Rattle.typed_programs.specs.Made.{known_in, typed_in}
use Rattle.typed_programs.specs.Operations.{HasNothing, OperationsHaveTypes}
use Rattle.typed_programs.proofs.Cells.{no_some, same_some}
use Rattle.typed_programs.proofs.Seeing.{seen_so, few_cells_of, few_marks_of}
use Rattle.typed_programs.proofs.Spots.{conflict_seen, itself}

-- ---- conflicts

clear_by : (b : Bool) (c : Bool) → (b ≡ true → ⊥) → c ≡ false → (b || c) ≡ false
clear_by true c h k = absurd (h refl)
clear_by false c h k = k

free_of : (b : Bool) → (b ≡ true → ⊥) → b ≡ false
free_of true h = absurd (h refl)
free_of false h = refl

-- ---- variables of a graph

elements_long : (l : Layout) (es : List Element) → length (types_of l es) ≡ length es
elements_long l [] = refl
elements_long l (e ∷ es) = ap suc (elements_long l es)

there : (es : List Element) (v : ℕ) → v < length es → (e : Element) × (slice_get es v ≡ Some e)
there [] v lt = absurd (omega (arith, lt))
there (e ∷ es) zero lt = (e, refl)
there (e ∷ es) (suc v) lt = there es v (omega (arith, lt))

variable_there : (l : Layout) (o : Option (List Element)) (v : ℕ) → v < length (types_of l (elements_in o)) → (e : Element) × (element_in o v ≡ Some e)
variable_there l None v lt = absurd (omega (arith, lt))
variable_there l (Some es) v lt = there es v (let k = elements_long l es in omega (arith, lt, k))

module _ (program : Program) (gs : Graphs) (n : Annotation) (types : HasTypes program gs n) (resolved : Resolved) (p : LlProgram) (made : IsLaid (known_in resolved gs n) (tables program) p) (seen : Seen) (arguments : List (List ℕ)) (sites : resolved.sites ≡ program.sites) (nodes : NodesAt resolved gs)
    (met : AllMet (tables program).classes (typed_in program gs n types resolved p made seen arguments).assigned (needs (typed_in program gs n types resolved p made seen arguments).whole (typed_in program gs n types resolved p made seen arguments).assigned))
    (parts : HasParts (typed_in program gs n types resolved p made seen arguments)) where
  abbrev t : Typed
  t = typed_in program gs n types resolved p made seen arguments

  abbrev s : State
  s = types.state

  abbrev places : Places
  places = (plan program gs (tables program)).places

  is : n ≡ read.annotation s (tables program) n.nodes places
  is = types.settled.read.0

  abbrev Met : List assign.Need → Type 0
  Met ns = AllMet (tables program).classes t.assigned ns

  -- ---- marks of blocks

  marked : (rows : List (List ℕ)) (g m : ℕ) → is_block_reached (record n { blocks = map (read.marks s) rows }) g m ≡ true → mark t.assigned (place_in rows g m) ≡ true
  marked [] g m h = absurd (cc)
  marked (row ∷ rows) zero m h = sym (typing.mark_seen s (few_cells_of program gs n types) (few_marks_of program gs n types) row m) ∙ h
  marked (row ∷ rows) (suc g) m h = marked rows g m h

  block_marked : (g m : ℕ) → is_block_reached n g m ≡ true → mark t.assigned (t.whole.places.block g m) ≡ true
  block_marked g m h = marked places.blocks g m (subst (λ (blocks : List (List Bool)). is_block_reached (record n { blocks = blocks }) g m ≡ true) (ap (λ (a : Annotation). a.blocks) is) h)

  -- ---- results are in no conflict

  abbrev cells : List ℕ
  cells = spot_cells (plan program gs (tables program))

  in_ops : (g : ℕ) (os : List Op) (o : Op) → slice_get os 0 ≡ Some o → among (t.whole.places.variable g o.result) (op_cells t.whole g os) ≡ true
  in_ops g [] o h = absurd (no_some h)
  in_ops g (x ∷ os) o h = subst (λ (y : Op). among (t.whole.places.variable g y.result) (t.whole.places.variable g x.result ∷ op_cells t.whole g os) ≡ true) (same_some h)
      (ap (λ b. b || among (t.whole.places.variable g x.result) (op_cells t.whole g os)) (itself (t.whole.places.variable g x.result)))

  in_blocks : (g : ℕ) (bs : List Block) (m : ℕ) (b : Block) (o : Op) → slice_get bs m ≡ Some b → slice_get b.ops 0 ≡ Some o → among (t.whole.places.variable g o.result) (block_cells t.whole g bs) ≡ true
  in_blocks g [] m b o h k = absurd (no_some h)
  in_blocks g (x ∷ bs) zero b o h k = among_left (t.whole.places.variable g o.result) (op_cells t.whole g x.ops) (block_cells t.whole g bs) (in_ops g x.ops o (ap (λ (y : Block). slice_get y.ops 0) (same_some h) ∙ k))
  in_blocks g (x ∷ bs) (suc m) b o h k = among_right (t.whole.places.variable g o.result) (op_cells t.whole g x.ops) (block_cells t.whole g bs) (in_blocks g bs m b o h k)

  in_graphs : (f : ℕ) (graphs : List Graph) (j : ℕ) (graph : Graph) (m : ℕ) (b : Block) (o : Op) → slice_get graphs j ≡ Some graph → slice_get graph.blocks m ≡ Some b → slice_get b.ops 0 ≡ Some o → among (t.whole.places.variable (f + j) o.result) (graph_cells t.whole f graphs) ≡ true
  in_graphs f [] j graph m b o h k l = absurd (no_some h)
  in_graphs f (x ∷ graphs) zero graph m b o h k l =
      let here : f ≡ f + 0 = omega arith in
      subst (λ i. among (t.whole.places.variable i o.result) (graph_cells t.whole f (x ∷ graphs)) ≡ true) here
      (among_left (t.whole.places.variable f o.result) (block_cells t.whole f x.blocks) (graph_cells t.whole (suc f) graphs) (in_blocks f x.blocks m b o (ap (λ (y : Graph). slice_get y.blocks m) (same_some h) ∙ k) l))
  in_graphs f (x ∷ graphs) (suc j) graph m b o h k l =
      let here : suc f + j ≡ f + suc j = omega arith in
      subst (λ i. among (t.whole.places.variable i o.result) (graph_cells t.whole f (x ∷ graphs)) ≡ true) here
      (among_right (t.whole.places.variable (suc f + j) o.result) (block_cells t.whole f x.blocks) (graph_cells t.whole (suc f) graphs) (in_graphs (suc f) graphs j graph m b o h k l))

  module _ (g m : ℕ) (graph : Graph) (b : Block) (o : Op) (of : slice_get gs.graphs g ≡ Some graph) (stands : slice_get graph.blocks m ≡ Some b) (reached : is_block_reached n g m ≡ true) (first : slice_get b.ops 0 ≡ Some o)
      (raising : has_exceptions n g o ≡ true → ExceptionsAreLaid (setting t)) where
    abbrev count : ℕ
    count = length (variables t.known (world t) g)

    result_free : is_clash (value t.whole t.assigned g o.result) ≡ false
    result_free = types.settled.closed.free (t.whole.places.variable g o.result) (by (t.whole.places.variable g o.result == nowhere))
      where
        inside : among (t.whole.places.variable g o.result) cells ≡ true
        inside =
            let here : 0 + g ≡ g = omega arith in
            among_right (t.whole.places.variable g o.result) (part_cells places) (graph_cells t.whole 0 gs.graphs)
            (subst (λ (k : ℕ). among (t.whole.places.variable k o.result) (graph_cells t.whole 0 gs.graphs) ≡ true) here (in_graphs 0 gs.graphs g graph m b o of stands first))

        by : (a : Bool) → (a || among (t.whole.places.variable g o.result) cells) ≡ true
        by true = refl
        by false = inside

    -- ---- what is met

    ops_met : Met (ops_needs t.whole t.assigned g graph b.ops b.exit)
    ops_met = (block_met t.whole t.assigned met g m graph b of stands (block_marked g m reached)).1

    first_met : (os : List Op) → slice_get os 0 ≡ Some o → Met (ops_needs t.whole t.assigned g graph os b.exit) → Met (op_needs t.whole t.assigned g o)
    first_met [] h k = absurd (no_some h)
    first_met (x ∷ os) h k = subst (λ (y : Op). Met (op_needs t.whole t.assigned g y)) (same_some h) (met_append (tables program).classes t.assigned (op_needs t.whole t.assigned g x) (when (goes_on t.whole t.assigned g x) (ops_needs t.whole t.assigned g graph os b.exit)) k).0

    op_met : Met (op_needs t.whole t.assigned g o)
    op_met = first_met b.ops first ops_met

    abbrev xs : List Shape
    xs = map (value t.whole t.assigned g) o.args

    -- ---- elements

    one_there : (v : ℕ) → v < count → (e : Element) × (element_at n g v ≡ Some e)
    one_there v lt = variable_there (layout t) (slice_get n.vars g) v lt

    record Elements (vs : List ℕ) : Type 0 where
      elements : List Element
      are : AreElements t g vs elements
      shapes : map shape elements ≡ map (value t.whole t.assigned g) vs

    all_there : (vs : List ℕ) → AllUnder count vs → Elements vs
    all_there [] under = record { elements = []; are = tt; shapes = refl }
    all_there (v ∷ vs) under =
        let e = one_there v under.0 in
        let rest = all_there vs under.1 in
        let here : shape e.0 ≡ value t.whole t.assigned g v = sym ((seen_so program gs n types resolved p made seen arguments sites).variables g v e.0 e.1) in
        record { elements = e.0 ∷ rest.elements; are = (e.1, rest.are); shapes = ap (λ y. y ∷ map shape rest.elements) here ∙ ap (λ ys. value t.whole t.assigned g v ∷ ys) rest.shapes }

    stands_in : (v : ℕ) (e : Element) → element_at n g v ≡ Some e → StandsIn n e
    stands_in v e h = Variable (by (slice_get n.vars g) refl h)
      where
        by : (row : Option (List Element)) → slice_get n.vars g ≡ row → element_in row v ≡ Some e → InRows n.vars e
        by None q k = absurd (no_some k)
        by (Some row) q k = (g, (row, (q, (v, k))))

    all_free : (es : List Element) → some_clash (map shape es) ≡ false → AllFree es
    all_free [] h = tt
    all_free (e ∷ es) h = by (is_clash (shape e)) refl (all_free es) h
      where
        by : (c : Bool) → is_clash (shape e) ≡ c → (some_clash (map shape es) ≡ false → AllFree es) → (c || some_clash (map shape es)) ≡ false → AllFree (e ∷ es)
        by true q go k = absurd (cc)
        by false q go k = (conflict_seen e ∙ q, go k)

    all_laid : (vs : List ℕ) (es : List Element) → AreElements t g vs es → AllFree es → AllLaid (layout t) (same t) es
    all_laid [] [] are free = End
    all_laid [] (e ∷ es) are free = absurd are
    all_laid (v ∷ vs) [] are free = absurd are
    all_laid (v ∷ vs) (e ∷ es) are free = Next (parts.laid e (stands_in v e are.0) free.0) (all_laid vs es are.1 free.1)

    -- ---- operands are in no conflict

    shapes_free : some_nothing xs ≡ false → assign.Under (tables program).classes t.assigned.same (asked t.whole t.assigned g o.op xs o.node) (value t.whole t.assigned g o.result) → some_clash xs ≡ false
    shapes_free some above = by (some_clash xs) refl
      where
        clashes : some_clash xs ≡ true → (b : Bool) → is_unfit t.whole t.assigned g o.op xs o.node ≡ b → ⊥
        clashes h true q =
            let under : assign.Under (tables program).classes t.assigned.same (misfit ∷ []) (value t.whole t.assigned g o.result) = subst (λ c. assign.Under (tables program).classes t.assigned.same (if c then misfit ∷ [] else pieces_for t.whole t.assigned g o.op xs (Nothing ∷ rules.parts t.whole t.assigned o.op xs)) (value t.whole t.assigned g o.result)) q above in
            above_clash (tables program).classes t.assigned.same misfit (value t.whole t.assigned g o.result) under.0 refl result_free
        clashes h false q =
            let under : assign.Under (tables program).classes t.assigned.same (pieces (tables program) o.op xs Nothing ++ pieces_for t.whole t.assigned g o.op xs (rules.parts t.whole t.assigned o.op xs)) (value t.whole t.assigned g o.result) = subst (λ c. assign.Under (tables program).classes t.assigned.same (if c then misfit ∷ [] else pieces_for t.whole t.assigned g o.op xs (Nothing ∷ rules.parts t.whole t.assigned o.op xs)) (value t.whole t.assigned g o.result)) q above in
            let first_piece : pieces (tables program) o.op xs Nothing ≡ misfit ∷ [] = ap (λ c. if c then [] else if some_clash xs then misfit ∷ [] else fitting (tables program) o.op xs Nothing) some ∙ ap (λ c. if c then misfit ∷ [] else fitting (tables program) o.op xs Nothing) h in
            above_clash (tables program).classes t.assigned.same misfit (value t.whole t.assigned g o.result)
            (subst (λ (ps : List Shape). assign.Under (tables program).classes t.assigned.same (ps ++ pieces_for t.whole t.assigned g o.op xs (rules.parts t.whole t.assigned o.op xs)) (value t.whole t.assigned g o.result)) first_piece under).0 refl result_free

        by : (c : Bool) → some_clash xs ≡ c → c ≡ false
        by true h = absurd (clashes h (is_unfit t.whole t.assigned g o.op xs o.node) refl)
        by false h = refl

    all_clear : (es : List Shape) (z : Shape) → assign.Under (tables program).classes t.assigned.same es z → is_clash z ≡ false → some_clash es ≡ false
    all_clear [] z h f = refl
    all_clear (e ∷ es) z h f = clear_by (is_clash e) (some_clash es) (λ i. above_clash (tables program).classes t.assigned.same e z h.0 i f) (all_clear es z h.1 f)

    -- ---- all of it

    op_under : (os : List Op) → slice_get os 0 ≡ Some o → OpsUnder count os → (o.result < count) × AllUnder count o.args
    op_under [] h under = absurd (no_some h)
    op_under (x ∷ os) h under = subst (λ (y : Op). (y.result < count) × AllUnder count y.args) (same_some h) (under.0, under.1)

    under_count : (o.result < count) × AllUnder count o.args
    under_count = op_under b.ops first ((variables_are_there program gs (tables program) resolved t.known (world t) nodes read_at g graph of).1 m b stands).ops
      where
        read_at : IsReadAt places n
        read_at = record { cell = read.cell s; params = ap (λ (a : Annotation). a.params) is; vars = ap (λ (a : Annotation). a.vars) is }

    is_op : some_nothing xs ≡ false → IsOp t g o
    is_op some =
        let ms = met_when (tables program).classes t.assigned (not (some_nothing xs)) (reached_needs t.whole t.assigned g o xs) (ap not some) (met_append (tables program).classes t.assigned (loose_needs t.whole t.assigned g o) (when (not (some_nothing xs)) (reached_needs t.whole t.assigned g o xs)) op_met).1 in
        let args = all_there o.args under_count.1 in
        let free = all_free args.elements (ap some_clash args.shapes ∙ shapes_free some ms.0) in
        let result = one_there o.result under_count.0 in
        let result_shape : shape result.0 ≡ value t.whole t.assigned g o.result = sym ((seen_so program gs n types resolved p made seen arguments sites).variables g o.result result.0 result.1) in
        record {
          elements = args.elements;
          are = args.are;
          free = free;
          laid = all_laid o.args args.elements args.are free;
          some = ap some_nothing args.shapes ∙ some;
          result = result.0;
          result_is = result.1;
          result_laid = parts.laid result.0 (stands_in o.result result.0 result.1) (conflict_seen result.0 ∙ ap is_clash result_shape ∙ result_free);
          fits = subst (λ (ys : List Shape). Fits t.whole t.assigned g o.op o.node ys (shape result.0)) (sym args.shapes)
              (subst (λ (z : Shape). Fits t.whole t.assigned g o.op o.node xs z) (sym result_shape) (record {
                above = ms.0;
                free = result_free;
                met = met_when (tables program).classes t.assigned (not (some_clash (asked t.whole t.assigned g o.op xs o.node))) (asks t.whole t.assigned o.op xs) (ap not (all_clear (asked t.whole t.assigned g o.op xs o.node) (value t.whole t.assigned g o.result) ms.0 result_free)) ms.1;
              }));
          under = under_count.1;
          result_under = under_count.0;
          raising = raising;
        }

    pub has_types : HasNothing t g o ⊎ IsOp t g o
    has_types = by (some_nothing xs) refl
      where
        by : (c : Bool) → some_nothing xs ≡ c → HasNothing t g o ⊎ IsOp t g o
        by true h = inl h
        by false h = inr (is_op h)

pub operations_have_types : OperationsHaveTypes
operations_have_types program gs n types resolved p made seen arguments sites nodes met parts g m graph b o of stands reached first raising = has_types program gs n types resolved p made seen arguments sites nodes met parts g m graph b o of stands reached first raising

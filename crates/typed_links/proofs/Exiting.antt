-- What exits do is done, in a program that has types.
use Rattle.std.proofs.Common.{◌≡◌, ◌≤◌, ◌<◌, ◌⊎◌, inl, inr, ℕ, zero, suc, ◌+◌, Bool, true, false, List, [], ◌∷◌, ◌++◌, length, Option, Some, None, refl, sym, ap, ◌∙◌, subst, arith}
use Rattle.std.specs.Prelude.{slice_get, not, ◌||◌, if◌then◌else◌}
use Rattle.std.proofs.lemmas.List.{append_assoc, length-append}
use Rattle.ann_element.specs.declared.element.Element.{Element}
use Rattle.ann_lattice.specs.Assign.{Need, at}
use Rattle.ann_lattice.specs.Join.{is_clash}
use Rattle.ann_lattice.specs.Kind.{is_nothing}
use Rattle.ann_lattice.specs.Order.{Below}
use Rattle.ann_lattice.specs.Shape.{Shape, Truth, shape}
use Rattle.ann_rules.specs.Asks.{when}
use Rattle.ann_rules.specs.Rules.{exit_needs, goes, goes_on, inputs_of, is_narrowing, link_needs, op_needs, ops_needs, pass_all, passed, value}
use Rattle.csub_tree.specs.declared.tree.COperand.TheVariants.{Const, Var}
use Rattle.flow_graph.specs.declared.graph.Block.{Block}
use Rattle.flow_graph.specs.declared.graph.Exit.{Exit}
use Rattle.flow_graph.specs.declared.graph.Exit.TheVariants as exit
use Rattle.flow_graph.specs.declared.graph.Graph.{Graph}
use Rattle.flow_graph.specs.declared.graph.Link.{Link}
use Rattle.flow_graph.specs.declared.graph.Op.{Op}
use Rattle.ll_code.specs.declared.program.LlType.{LlType}
use Rattle.ll_code.specs.declared.program.LlType.TheVariants as type
use Rattle.graph_counts.specs.Counts.{ExitUnder, OpsUnder, StandsUnder}
use Rattle.graph_parts.specs.Done as parts
use Rattle.graph_parts.proofs.Done.{links_are_done}
use Rattle.graph_shapes.specs.Shapes.{ExitReads, HasShape, Joins}
use Rattle.graph_shapes.proofs.Shaped.{blocks_have_shapes}
use Rattle.rtyper_layout.specs.declared.layout.Layout.{Layout}
use Rattle.rtyper_layout.specs.Kinds.{kind_seen}
use Rattle.rtyper_layout.specs.Types.{type_seen}
use Rattle.rtyper_op.specs.declared.text.Test.{Test}
use Rattle.rtyper_op.specs.declared.text.Test.TheVariants.{Known as IsKnown, By}
use Rattle.rtyper_op.specs.Texts.{truth_by, truth_of}
use Rattle.rtyper_data.specs.declared.found.Found.{Found}
use Rattle.rtyper_data.specs.Converting.{value_as}
use Rattle.rtyper_data.specs.Seen.{Around, Operand, Writing, writing}
use Rattle.rtyper_program.specs.Graphs.{elements_in, types_of, variables}
use Rattle.rtyper_program.specs.Links.{arguments, branch, by_test, flag_of, give_as, give_back, inputs_in, known_test, known_truth, link_of, truth_test}
use Rattle.rtyper_program.specs.Seen.{Lowered, element_at, element_in, is_block_reached, is_reached, operand_of, type_at}
use Rattle.growth_laws.specs.Growing.{Grows}
use Rattle.growth_laws.proofs.Growing.{same_found}
use Rattle.growth_laws.proofs.Data.{then_grows}
use Rattle.growth_laws.proofs.Operating.{truth_of_grows}
use Rattle.program_asks.proofs.WritingLinks.{link_grows}
use Rattle.laid_laws.specs.Laid.{Result}
use Rattle.conversion_laws.specs.Going.{Goes}
use Rattle.conversion_laws.proofs.Valued.{never_held}
use Rattle.run_laws.specs.Points.{Setting, is_conflict}
use Rattle.block_laws.specs.Exits.{AreWays, IsGiven, IsNever, IsTested}
use Rattle.block_laws.specs.Links.{AllUnder, IsLink}
use Rattle.block_laws.proofs.Adding.{Adds, known_adds, link_adds}
use Rattle.rtyped_runs.specs.Parts.{ExitIsDone, ExitsAreDone, StopsAt, exit_plain, names_behind}
use Rattle.sound_rows.specs.Sound.{AllMet}
use Rattle.sound_rows.proofs.Containers.{met_append}
use Rattle.sound_runs.proofs.Needs.{block_met, met_when}
use Rattle.typed_rows.specs.Programs.{Typed, IsTyped, first, last, layout, numbers, same, setting, world}
use Rattle.typed_rows.specs.Rows.{lowered_in}
use Rattle.typed_programs.proofs.Spots.{conflict_seen}
use Rattle.typed_links.specs.Links.{AllAreBelow, ConversionsStand, IsBelow, OneIsBelow}
use Rattle.typed_links.specs.Exits.{ExitFits, ExitsAreDoneInTyped, IsChecked, TestsStand}
use Rattle.typed_links.proofs.Linking.{converts_up, goes_up, links_are_converted, lower_free, no_type, stands_in}
use Rattle.typed_links.proofs.Shaping.{clash_told, go_both, known_as, never_there, nothing_told, told_shape, truth_told}

-- ---- variables

elements_long : (l : Layout) (es : List Element) → length (types_of l es) ≡ length es
elements_long l [] = refl
elements_long l (e ∷ es) = ap suc (elements_long l es)

there : (es : List Element) (v : ℕ) → v < length es → (e : Element) × (slice_get es v ≡ Some e)
there [] v lt = absurd (omega (arith, lt))
there (e ∷ es) zero lt = (e, refl)
there (e ∷ es) (suc v) lt = there es v (omega (arith, lt))

variable_there : (l : Layout) (o : Option (List Element)) (v : ℕ) → v < length (types_of l (elements_in o)) → (e : Element) × (element_in o v ≡ Some e)
variable_there l None v lt = absurd (omega (arith, lt))
variable_there l (Some es) v lt = there es v (let k = elements_long l es in omega (arith, lt, k))

at_end : (pre : List ℕ) (a : ℕ) (vs : List ℕ) → slice_get (pre ++ a ∷ vs) (length pre) ≡ Some a
at_end [] a vs = refl
at_end (p ∷ pre) a vs = at_end pre a vs

-- ---- what is written

longer : {n : ℕ} (a b : Writing) → Adds a b → n ≤ length a.body.types → n ≤ length b.body.types
longer a b adds le = let e : length b.body.types ≡ length a.body.types + length adds.new = ap (λ (ts : List LlType). length ts) adds.types ∙ length-append a.body.types adds.new in omega (arith, le, e)

by_test_grows : (l : Lowered) (one two : Link) (test : Test) (w : Writing) → Grows w.found (by_test l one two test w).1.found
by_test_grows l one two (IsKnown true) w = link_grows l None one w
by_test_grows l one two (IsKnown false) w = link_grows l None two w
by_test_grows l one two (By x) w = then_grows (link_grows l None one (writing w.found (flag_of x w.body).1)) (link_grows l None two (link_of l None one (writing w.found (flag_of x w.body).1)).1)

test_grows : (l : Lowered) (one two : Link) (v : ℕ) (w : Writing) → Grows (truth_test l.world.around (operand_of l v) w).1.found (branch l v one two w).1.found
unfolding branch
test_grows l one two v w = by_test_grows l one two (truth_test l.world.around (operand_of l v) w).0 (truth_test l.world.around (operand_of l v) w).1

-- an operation behind which nothing goes on narrows nothing, and its result is not there
stopped : (a c : Bool) → (a || not c) ≡ false → c ≡ true
stopped true c h = absurd (cc)
stopped false true h = refl
stopped false false h = absurd (cc)

truth_grows : (around : Around) (a : Operand) (w : Writing) → Grows w.found (truth_test around a w).1.found
truth_grows around a w = by (known_truth a.element)
  where
    by : (o : Option Bool) → Grows w.found (known_test o around a w).1.found
    by None = truth_of_grows around a w
    by (Some b) = same_found w.found

given_by : (l : Lowered) (end : Found) (v : ℕ) (w : Writing) (to : LlType) → (to ≡ type.Void → ⊥) → Grows (give_as l v to w).1.found end → Grows (value_as l.world.around.layout (Var v) (type_at l v) to w).1.found end
given_by l end v w type.Void there ends = absurd (there refl)
given_by l end v w type.Signed there ends = ends
given_by l end v w type.Char there ends = ends
given_by l end v w type.Bool there ends = ends
given_by l end v w type.Fn there ends = ends
given_by l end v w (type.Ptr n) there ends = ends

given_grows : (l : Lowered) (end : Found) (v : ℕ) (w : Writing) → (l.result ≡ type.Void → ⊥) → Grows (give_back l v w).1.found end → Grows (value_as l.world.around.layout (Var v) (type_at l v) l.result w).1.found end
unfolding give_back
given_grows l end v w there ends = given_by l end v w l.result there ends

module _ (t : Typed) (typed : IsTyped t) (checked : IsChecked t) (stand : ConversionsStand t) (g : ℕ) (graph : Graph) (of : slice_get t.graphs.graphs g ≡ Some graph) where
  abbrev l : Lowered
  l = lowered_in t g graph

  abbrev s : Setting
  s = setting t

  abbrev count : ℕ
  count = length (variables t.known (world t) g)

  abbrev Met : List Need → Type 0
  Met ns = AllMet t.whole.tables.classes t.assigned ns

  of_whole : slice_get t.whole.graphs g ≡ Some graph
  of_whole = ap (λ gs. slice_get gs g) (typed.sees.graphs_are ∙ sym checked.graphs) ∙ of

  pub element_of : (v : ℕ) → v < count → (e : Element) × (element_at t.known.annotation g v ≡ Some e)
  element_of v lt = variable_there (layout t) (slice_get t.known.annotation.vars g) v lt

  pub below_in : (x z : Shape) → Below t.whole.tables.classes t.assigned.same x z → Below t.classes.classes (same t) x z
  below_in x z h = subst (λ (us : List ℕ). Below t.classes.classes us x z) typed.sees.same_is (subst (λ tables. Below tables.classes t.assigned.same x z) typed.sees.classes_are h)

  one_below : (a v : ℕ) → a < count → v < count → Below t.whole.tables.classes t.assigned.same (value t.whole t.assigned g a) (value t.whole t.assigned g v) → IsBelow t g a v
  one_below a v la lv h =
      let from = element_of a la in
      let to = element_of v lv in
      record {
        from = from.0;
        to = to.0;
        from_is = from.1;
        to_is = to.1;
        below = subst (λ x. Below t.classes.classes (same t) x (shape to.0)) (typed.sees.variables g a from.0 from.1) (subst (λ z. Below t.classes.classes (same t) (value t.whole t.assigned g a) z) (typed.sees.variables g v to.0 to.1) (below_in (value t.whole t.assigned g a) (value t.whole t.assigned g v) h));
      }

  pass_below : (inputs vs pre : List ℕ) → AllUnder count inputs → AllUnder count vs → length vs ≡ length inputs → Met (pass_all t.whole t.assigned g None inputs vs) → AllAreBelow t g (pre ++ vs) (length pre) inputs
  pass_below [] vs pre inside under counted met = tt
  pass_below (v ∷ inputs) [] pre inside under counted met = absurd (omega (arith, counted))
  pass_below (v ∷ inputs) (a ∷ vs) pre inside under counted met =
      let ms = met_append t.whole.tables.classes t.assigned (passed t.whole t.assigned g None a v) (pass_all t.whole t.assigned g None inputs vs) met in
      let long : length (pre ++ a ∷ []) ≡ length pre + 1 = length-append pre (a ∷ []) in (
        subst (λ o. OneIsBelow t g o v) (sym (at_end pre a vs)) (one_below a v under.0 inside.0 ms.0.0.0),
        subst (λ args. AllAreBelow t g args (length pre + 1) inputs) (append_assoc pre (a ∷ []) vs) (subst (λ i. AllAreBelow t g ((pre ++ a ∷ []) ++ vs) i inputs) long (pass_below inputs vs (pre ++ a ∷ []) inside.1 under.1 (omega (arith, counted)) ms.1)),
      )

  stands : parts.Stands t.known.program s l
  stands = record { nodes = checked.nodes; graph = of }

  -- ---- links

  module _ (names : List ℕ) (link : Link) (w : Writing) (joins : Joins graph.blocks names link) (under : AllUnder count link.args) (met : Met (link_needs t.whole t.assigned g graph None link)) where
    reached : is_block_reached t.known.annotation g link.to ≡ true
    reached = checked.seen g link.to graph joins.block of joins.is met.0

    all_below : AllAreBelow t g link.args 0 joins.block.inputs
    all_below = pass_below joins.block.inputs link.args [] (checked.under g link.to graph joins.block of joins.is).inputs under joins.counted
        (subst (λ (o : Option Block). Met (pass_all t.whole t.assigned g None (inputs_of o) link.args)) joins.is met.1)

    written : (link_of l None link w).1 ≡ (arguments l None link.args 0 joins.block.inputs ([], w)).1
    unfolding link_of
    written =
        ap (λ b. (arguments l None link.args 0 (if b then inputs_in (slice_get graph.blocks link.to) else []) ([], w)).1) reached
        ∙ ap (λ (o : Option Block). (arguments l None link.args 0 (inputs_in o) ([], w)).1) joins.is

    pub link_done : Grows (first t) w.found → Grows (link_of l None link w).1.found (last t) → count ≤ length w.body.types → IsLink s (numbers t) l names link w
    link_done begun ends le =
        links_are_done t.known.program s (numbers t) l stands names link w joins under le reached
        (links_are_converted t typed stand g graph link.args joins.block.inputs w all_below begun (subst (λ (u : Writing). Grows u.found (last t)) written ends))

  -- ---- what is given back

  result_is : (v : ℕ) (w : Writing) → graph.function ≡ g → is_reached t.known.annotation graph.function ≡ true → v < count → Met (exit_needs t.whole t.assigned g graph (exit.Return v)) → Grows (first t) w.found → Grows (give_back l v w).1.found (last t) → count ≤ length w.body.types → IsGiven s (numbers t) l v w
  result_is v w number reached lt met begun ends le =
      let e = typed.parts.results graph.function reached in
      let from = element_of v lt in
      let there : slice_get s.around.results l.number ≡ Some e.0 = ap (slice_get s.around.results) (sym number) ∙ e.1 in
      let below : Below t.classes.classes (same t) (shape from.0) (shape e.0) =
      subst (λ x. Below t.classes.classes (same t) x (shape e.0)) (typed.sees.variables g v from.0 from.1) (subst (λ z. Below t.classes.classes (same t) (value t.whole t.assigned g v) z) (typed.sees.results graph.function e.0 e.1) (below_in (value t.whole t.assigned g v) (at t.assigned (t.whole.places.result graph.function)) met.0.0)) in
      let free : is_conflict (Some e.0) ≡ false = typed.parts.free_results graph.function e.0 e.1 in
      let goes : Goes (layout t) t.seen (element_at t.known.annotation g v) (slice_get s.around.results l.number) =
      subst (λ a. Goes (layout t) t.seen a (slice_get s.around.results l.number)) (sym from.1) (subst (λ b. Goes (layout t) t.seen (Some from.0) b) (sym there) (goes_up t typed stand from.0 e.0 (stands_in t typed stand g graph v from.0 from.1) (Result (graph.function, e.1)) below free)) in
      let result : l.result ≡ type_seen s.around.layout (slice_get s.around.results l.number) = ap (λ f. type_seen s.around.layout (slice_get s.around.results f)) number in
      record {
        result = result;
        inside = omega (arith, lt, le);
        free = ap is_conflict from.1 ∙ lower_free t typed stand from.0 e.0 below free;
        never = λ void. no_type t typed stand (element_at t.known.annotation g v) (slice_get s.around.results l.number) goes (sym result ∙ void);
        converts = λ there. converts_up t typed stand (element_at t.known.annotation g v) (slice_get s.around.results l.number) (Var v) w goes begun (subst (λ to. Grows (value_as (layout t) (Var v) (type_at l v) to w).1.found (last t)) result (given_grows l (last t) v w there ends));
      }

  -- ---- what is asked

  -- the two ways of a test
  module _ (names : List ℕ) (v : ℕ) (one two : Link) (w : Writing) (first_joins : Joins graph.blocks names one) (second_joins : Joins graph.blocks names two) (under_one : AllUnder count one.args) (under_two : AllUnder count two.args)
      (met : Met (exit_needs t.whole t.assigned g graph (exit.If v one two))) (e : Element) (is : element_at t.known.annotation g v ≡ Some e) where
    value_is_shape : value t.whole t.assigned g v ≡ shape e
    value_is_shape = typed.sees.variables g v e is

    mets : Met (when (goes true (value t.whole t.assigned g v)) (link_needs t.whole t.assigned g graph None one)) × Met (when (goes false (value t.whole t.assigned g v)) (link_needs t.whole t.assigned g graph None two))
    mets = met_append t.whole.tables.classes t.assigned (when (goes true (value t.whole t.assigned g v)) (link_needs t.whole t.assigned g graph None one)) (when (goes false (value t.whole t.assigned g v)) (link_needs t.whole t.assigned g graph None two)) met

    met_one : goes true (shape e) ≡ true → Met (link_needs t.whole t.assigned g graph None one)
    met_one h = met_when t.whole.tables.classes t.assigned (goes true (value t.whole t.assigned g v)) (link_needs t.whole t.assigned g graph None one) (ap (goes true) value_is_shape ∙ h) mets.0

    met_two : goes false (shape e) ≡ true → Met (link_needs t.whole t.assigned g graph None two)
    met_two h = met_when t.whole.tables.classes t.assigned (goes false (value t.whole t.assigned g v)) (link_needs t.whole t.assigned g graph None two) (ap (goes false) value_is_shape ∙ h) mets.1

    -- whatever was asked for and written for the test
    known_ways : (b : Bool) → shape e ≡ Truth (Some b) → Grows (first t) w.found → Grows (by_test l one two (IsKnown b) w).1.found (last t) → count ≤ length w.body.types → AreWays s (numbers t) l names v one two (IsKnown b) w
    known_ways true k begun ends le = inl (link_done names one w first_joins under_one (met_one (ap (goes true) k)) begun ends le)
    known_ways false k begun ends le = inl (link_done names two w second_joins under_two (met_two (ap (goes false) k)) begun ends le)

    both_ways : (test : Test) (after : Writing) → goes true (shape e) ≡ true → goes false (shape e) ≡ true → IsTested s l v w test after → Grows (first t) after.found → Grows (by_test l one two test after).1.found (last t) → count ≤ length after.body.types → AreWays s (numbers t) l names v one two test after
    both_ways (IsKnown true) after j k tested begun ends le = inl (link_done names one after first_joins under_one (met_one j) begun ends le)
    both_ways (IsKnown false) after j k tested begun ends le = inl (link_done names two after second_joins under_two (met_two k) begun ends le)
    both_ways (By (Var x)) after j k tested begun ends le = (
      link_done names one after first_joins under_one (met_one j) begun (then_grows (link_grows l None two (link_of l None one after).1) ends) le,
      link_done names two (link_of l None one after).1 second_joins under_two (met_two k) (then_grows begun (link_grows l None one after)) ends (longer after (link_of l None one after).1 (link_adds l None one after) le),
    )
    both_ways (By (Const c)) after j k tested begun ends le = absurd tested

    -- ---- by the shape

    never_ways : is_nothing (shape e) ≡ true → (b : Bool) → IsNever s l v b
    never_ways h b gh x v2 world told held truth = never_held (ap kind_seen is ∙ never_there e h) held

    nothing_tested : is_nothing (shape e) ≡ true → truth_test s.around (operand_of l v) w ≡ (IsKnown true, w)
    unfolding truth_of
    nothing_tested h =
        ap (λ k. known_test k s.around (operand_of l v) w) (ap known_truth is ∙ known_as e ∙ nothing_told (shape e) h)
        ∙ ap (λ k. truth_by k s.around (operand_of l v) w) (ap kind_seen is ∙ never_there e h)

    ways_by : (known : Option Bool) → truth_told (shape e) ≡ known → (nothing : Bool) → is_nothing (shape e) ≡ nothing → IsTested s l v w (truth_test s.around (operand_of l v) w).0 (truth_test s.around (operand_of l v) w).1
        → Grows (first t) w.found → Grows (by_test l one two (truth_test s.around (operand_of l v) w).0 (truth_test s.around (operand_of l v) w).1).1.found (last t) → count ≤ length w.body.types
        → AreWays s (numbers t) l names v one two (truth_test s.around (operand_of l v) w).0 (truth_test s.around (operand_of l v) w).1
    ways_by (Some b) k nothing h tested begun ends le =
        let made : truth_test s.around (operand_of l v) w ≡ (IsKnown b, w) = ap (λ k. known_test k s.around (operand_of l v) w) (ap known_truth is ∙ known_as e ∙ k) in
        subst (λ (r : Test × Writing). AreWays s (numbers t) l names v one two r.0 r.1) (sym made)
        (known_ways b (told_shape (shape e) b k) begun (subst (λ (r : Test × Writing). Grows (by_test l one two r.0 r.1).1.found (last t)) made ends) le)
    ways_by None k true h tested begun ends le = subst (λ (r : Test × Writing). AreWays s (numbers t) l names v one two r.0 r.1) (sym (nothing_tested h)) (inr (never_ways h true))
    ways_by None k false h tested begun ends le =
        let both = go_both (shape e) k h in
        both_ways (truth_test s.around (operand_of l v) w).0 (truth_test s.around (operand_of l v) w).1 both.0 both.1 tested (then_grows begun (truth_grows s.around (operand_of l v) w)) ends (longer w (truth_test s.around (operand_of l v) w).1 (known_adds s.around (operand_of l v) w) le)

    pub ways_done : IsTested s l v w (truth_test s.around (operand_of l v) w).0 (truth_test s.around (operand_of l v) w).1 → Grows (first t) w.found → Grows (branch l v one two w).1.found (last t) → count ≤ length w.body.types
        → AreWays s (numbers t) l names v one two (truth_test s.around (operand_of l v) w).0 (truth_test s.around (operand_of l v) w).1
    unfolding branch
    ways_done tested begun ends le = ways_by (truth_told (shape e)) refl (is_nothing (shape e)) refl tested begun ends le

  -- ---- exits

  module _ (m : ℕ) (b : Block) (there : slice_get graph.blocks m ≡ Some b) (reached : is_block_reached t.known.annotation g m ≡ true) (number : graph.function ≡ g) (tests : TestsStand t) (fits : ExitFits t g graph b.exit) where
    shaped : HasShape graph.blocks b
    shaped = blocks_have_shapes t.known.program t.graphs checked.nodes g graph of m b there

    under : StandsUnder count b
    under = checked.under g m graph b of there

    ops_met : Met (ops_needs t.whole t.assigned g graph b.ops b.exit)
    ops_met = (block_met t.whole t.assigned checked.met g m graph b of_whole there (checked.marked g m reached)).1

    exit_done : (names : List ℕ) (e : Exit) (w : Writing) → ExitReads graph.blocks b.inputs names e → ExitUnder count e → ExitFits t g graph e → Met (exit_needs t.whole t.assigned g graph e) → Grows (first t) w.found → Grows (exit_plain l e w).1.found (last t) → count ≤ length w.body.types → ExitIsDone s (numbers t) l names e w
    exit_done names (exit.Goto link) w reads inside fit met begun ends le = link_done names link w reads inside met begun ends le
    exit_done names (exit.If v one two) w reads inside fit met begun ends le =
        let e = element_of v inside.0 in
        let tested = tests g graph v e.0 w e.1 (fit e.0 e.1) inside.0 begun (then_grows (test_grows l one two v w) ends) le in
        (ap is_conflict e.1 ∙ conflict_seen e.0 ∙ clash_told (shape e.0) (fit e.0 e.1), tested, ways_done names v one two w reads.1 reads.2 inside.1 inside.2 met e.0 e.1 tested begun ends le)
    exit_done names (exit.OnRaise v hands by without) w reads inside fit met begun ends le = link_done names without w reads.3 inside.3 met begun ends le
    exit_done names (exit.Return v) w reads inside fit met begun ends le = result_is v w number fit inside met begun ends le
    exit_done names (exit.Raise v) w reads inside fit met begun ends le = fit

    exits_by : (ops : List Op) → length ops ≤ 1 → ExitReads graph.blocks b.inputs (names_behind b.inputs ops) b.exit → OpsUnder count ops → Met (ops_needs t.whole t.assigned g graph ops b.exit) → StopsAt s g ops ⊎ ExitsAreDone s (numbers t) l (first t) (last t) (names_behind b.inputs ops) b.exit
    exits_by [] few reads inside met = inr (λ w begun ends le. exit_done b.inputs b.exit w reads under.exit fits met begun ends le)
    exits_by (o ∷ []) few reads inside met = by (goes_on t.whole t.assigned g o) refl
      where
        result : (e : Element) × (element_at t.known.annotation g o.result ≡ Some e)
        result = element_of o.result inside.0

        never : goes_on t.whole t.assigned g o ≡ false → StopsAt s g (o ∷ [])
        never h = inl (λ gh x v held. never_held (ap kind_seen result.1 ∙ never_there result.0 (ap is_nothing (sym (typed.sees.variables g o.result result.0 result.1)) ∙ stopped (is_narrowing o.op) (is_nothing (value t.whole t.assigned g o.result)) h)) held)

        by : (c : Bool) → goes_on t.whole t.assigned g o ≡ c → StopsAt s g (o ∷ []) ⊎ ExitsAreDone s (numbers t) l (first t) (last t) (names_behind b.inputs (o ∷ [])) b.exit
        by false h = inl (never h)
        by true h =
            let met_exit = met_when t.whole.tables.classes t.assigned (goes_on t.whole t.assigned g o) (exit_needs t.whole t.assigned g graph b.exit) h (met_append t.whole.tables.classes t.assigned (op_needs t.whole t.assigned g o) (when (goes_on t.whole t.assigned g o) (exit_needs t.whole t.assigned g graph b.exit)) met).1 in
            inr (λ w begun ends le. exit_done (b.inputs ++ o.result ∷ []) b.exit w reads under.exit fits met_exit begun ends le)
    exits_by (o ∷ x ∷ ops) few reads inside met = absurd (omega (arith, few))

    pub exits_done : StopsAt s g b.ops ⊎ ExitsAreDone s (numbers t) l (first t) (last t) (names_behind b.inputs b.ops) b.exit
    exits_done = exits_by b.ops shaped.few shaped.exit under.ops ops_met

pub exits_are_done : ExitsAreDoneInTyped
exits_are_done t typed checked stand tests g m graph b of there reached number fits = exits_done t typed checked stand g graph of m b there reached number tests fits

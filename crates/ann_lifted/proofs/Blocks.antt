-- What the rules ask of the blocks of a graph holds where variables and blocks are as what stands at the blocks.
use Rattle.std.proofs.Common.{◌≡◌, ◌+◌, ◌<◌, ◌≤◌, ◌≢◌, ◌⊎◌, inl, inr, ℕ, zero, suc, Bool, true, false, List, [], ◌∷◌, ◌++◌, length, map, Option, Some, None, refl, sym, ap, ◌∙◌, arith, subst}
use Rattle.std.specs.Prelude.{◌&&◌, ◌||◌, ◌==◌, not, if◌then◌else◌, slice_get}
use Rattle.std.proofs.lemmas.Bool.{cases_lt, eq-eqb, ne_eqb, eqb-true, eqb-false, false≢true}
use Rattle.rpy_tree.specs.declared.program.ClassInfo.{ClassInfo}
use Rattle.rpy_meaning.specs.declared.row.Covers.{Covers}
use Rattle.rpy_meaning.specs.declared.row.RowOp.{RowOp}
use Rattle.rpy_meaning.specs.Classes.{no_covers}
use Rattle.flow_graph.specs.declared.graph.Block.{Block}
use Rattle.flow_graph.specs.declared.graph.Graph.{Graph}
use Rattle.flow_graph.specs.declared.graph.Graphs.{Graphs}
use Rattle.flow_graph.specs.declared.graph.Op.{Op}
use Rattle.flow_meaning.specs.Machine.{block_in}
use Rattle.flow_reads.specs.Reads.{In, AreOf, LinksRead, variables_of, ReadsOwn}
use Rattle.flow_stands.specs.Places.{range, shift, Jump, Shape as Form, Go, Fork, Does, Plain, GiveBack, GiveUp, link, links, act, numbered}
use Rattle.ann_lattice.specs.Shape.{Shape, Inst}
use Rattle.ann_lattice.specs.Order.{Below}
use Rattle.ann_lattice.specs.Kind.{is_nothing, some_nothing, some_clash}
use Rattle.ann_lattice.specs.Laws.{IsTree}
use Rattle.ann_lattice.specs.Assign.{Assignment, at, mark, Need, Up, Set, Under, Holds}
use Rattle.ann_rules.specs.Program.{Whole}
use Rattle.ann_rules.specs.Asks.{when, from_each, asks}
use Rattle.ann_rules.specs.Rules as rule
use Rattle.ann_rules.specs.Rules.{asked, goes, is_copy, is_narrowing}
use Rattle.ann_rules.specs.Hold.{AllHold}
use Rattle.ann_rules.proofs.Facts.{hold_append}
use Rattle.ann_laws.proofs.Pairs.{and_left, and_right}
use Rattle.ann_tree.specs.Faults.{Flaw, shows}
use Rattle.ann_tree.specs.Annotation.{Annotation, Passes}
use Rattle.ann_read.specs.Reading.{op_shows, ops_show}
use Rattle.ann_lift.specs.Lift.{has_result}
use Rattle.ann_lift.specs.Spots.{Spot, Spots, as_class, first_unbound, goes_on, Pass, Carries, Goes, Catches, Operates, Fits, Good}
use Rattle.ann_lift.proofs.Alike.{asked_is, asks_is, shows_is}
use Rattle.ann_lifted.proofs.Tidy.{tidy, by_form, tidied, tidy_is, tidy_passes, tidy_below, inst_formed, all_formed, same_operands}
use Rattle.ann_lifted.proofs.Speaking.{HasParts, all_hold_too, asks_speak}

not_true : (b : Bool) → not b ≡ true → b ≡ false
not_true true h = absurd (false≢true h)
not_true false h = refl

-- ---- the variables of a block

in_append : (us vs : List ℕ) (v : ℕ) → In (us ++ vs) v → In us v ⊎ In vs v
in_append [] vs v h = inr h
in_append (u ∷ us) vs v (inl h) = inl (inl h)
in_append (u ∷ us) vs v (inr h) = later (in_append us vs v h)
  where
    later : In us v ⊎ In vs v → In (u ∷ us) v ⊎ In vs v
    later (inl i) = inl (inr i)
    later (inr i) = inr i

in_range : (base s m place : ℕ) → In (shift base (range s m)) (base + place) → place < s + m
in_range base s zero place h = absurd h
in_range base s (suc m) place (inl h) = omega (arith, h)
in_range base s (suc m) place (inr h) = let l = in_range base (s + 1) m place h in omega (arith, l)

-- its place is that of an input, or that of the result
own_place : (base m node : ℕ) (value : Bool) (form : Form) (place : ℕ) → In (variables_of (numbered base m node value form)) (base + place) → (place < m) ⊎ ((place ≡ m) × (has_result form ≡ true))
own_place base m node value form place h = by form h
  where
    below_it : place < 0 + m → place < m
    below_it lt = omega (arith, lt)

    of_input : {A : Type 0} → In (shift base (range 0 m) ++ []) (base + place) → (place < m) ⊎ A
    of_input i = elim (in_append (shift base (range 0 m)) [] (base + place) i) [ inl j ↦ inl (below_it (in_range base 0 m place j)) | inr j ↦ absurd j ]

    of_both : In (shift base (range 0 m) ++ (base + m) ∷ []) (base + place) → (place < m) ⊎ ((place ≡ m) × (true ≡ true))
    of_both i = elim (in_append (shift base (range 0 m)) ((base + m) ∷ []) (base + place) i) [ inl j ↦ inl (below_it (in_range base 0 m place j)) | inr (inl e) ↦ inr (omega (arith, e), refl) | inr (inr j) ↦ absurd j ]

    by : (form : Form) → In (variables_of (numbered base m node value form)) (base + place) → (place < m) ⊎ ((place ≡ m) × (has_result form ≡ true))
    by (Go jump) i = of_input i
    by (Fork test so_way other_way) i = of_input i
    by (Does o args covers hands default norm) i = of_both i
    by (Plain o jump) i = of_both i
    by GiveBack i = of_input i
    by GiveUp i = of_input i

-- A graph, what stands at its blocks, and an assignment in which its variables and blocks are so.
module _ (p : Whole) (a : Annotation) (gs : Graphs) (w : Assignment) (stand : Spots) (f : ℕ) (graph : Graph) where
  abbrev Is : ℕ → ℕ → ℕ → ℕ → Bool → Form → Type 0
  Is b base m node value form = slice_get graph.blocks b ≡ Some (numbered base m node value form)

  abbrev At : ℕ → ℕ → ℕ → Type 0
  At b base j = (at w (p.places.variable f (base + j)) ≡ tidy ((stand b).element j)) × (mark w (p.places.loose f (base + j)) ≡ (stand b).unbound j)

  pub record Facts : Type 0 where
    pub classes : IsTree p.tables.classes
    pub has : HasParts p a.parts w
    pub unbound : (node : ℕ) → mark w (p.places.unbound node) ≡ mark a.parts (p.places.unbound node)
    pub found : slice_get gs.graphs f ≡ Some graph
    pub function : graph.function ≡ f
    pub blocks : (b : ℕ) → b < length graph.blocks → mark w (p.places.block f b) ≡ (stand b).reached
    pub inputs : (b base m node : ℕ) (value : Bool) (form : Form) → Is b base m node value form → (j : ℕ) → j < m → At b base j
    pub results : (b base m node : ℕ) (value : Bool) (form : Form) → Is b base m node value form → has_result form ≡ true → At b base m
    pub good : (b : ℕ) → b < length graph.blocks → Good p a f gs stand b
    pub reads : (b : ℕ) (code : Block) → slice_get graph.blocks b ≡ Some code → ReadsOwn code
    pub absent : (b : ℕ) → length graph.blocks ≤ b → length w.marks ≤ p.places.block f b

  module _ (facts : Facts) where
    abbrev k : List ClassInfo
    k = p.tables.classes

    abbrev val : ℕ → Shape
    val v = rule.value p w f v

    abbrev lo : ℕ → Bool
    lo v = rule.may_be_unbound p w f v

    abbrev All : List Need → Type 0
    All ns = AllHold k w ns

    below : (x y : Shape) → Passes k a.parts.same x y → Below k w.same (tidy x) (tidy y)
    below x y h = subst (λ t. Below k t (tidy x) (tidy y)) (sym facts.has.alike.same) (tidy_passes k a.parts.same x y h)

    there : (blocks : List Block) (b : ℕ) (code : Block) → slice_get blocks b ≡ Some code → b < length blocks
    there [] b code h = cc
    there (x ∷ blocks) zero code h = omega arith
    there (x ∷ blocks) (suc b) code h = let l = there blocks b code h in omega (arith, l)

    -- ---- along a link

    -- what a variable passes on, perhaps an exception with its class, stands at a place
    abbrev Source : Spot → Option (ℕ × ℕ) → ℕ → ℕ → Type 0
    Source s caught u place =
        ((rule.caught_as caught u ≡ None) × (val u ≡ tidy (s.element place)) × (lo u ≡ s.unbound place)) ⊎ ((c : ℕ) × (rule.caught_as caught u ≡ Some c) × (s.element place ≡ Inst c false))

    abbrev Sources : Spot → Option (ℕ × ℕ) → ℕ → List ℕ → Type 0
    Sources s caught base [] = Unit {0}
    Sources s caught base (place ∷ places) = Source s caught (base + place) place × Sources s caught base places

    passed : (s t : Spot) (caught : Option (ℕ × ℕ)) (u place input j : ℕ) → Source s caught u place → Pass p a f s place t j → at w (p.places.variable f input) ≡ tidy (t.element j) → lo input ≡ t.unbound j
        → All (rule.passed p w f (rule.caught_as caught u) u input)
    passed s t caught u place input j (inl h) pass here loose =
        subst (λ c. All (rule.passed p w f c u input)) (sym h.0)
        ((λ lt. (subst (λ x. Below k w.same x (at w (p.places.variable f input))) (sym h.1) (subst (λ y. Below k w.same (tidy (s.element place)) y) (sym here) (below (s.element place) (t.element j) pass.0)), tt)), by (lo u) refl)
      where
        by : (b : Bool) → lo u ≡ b → All (when b (Set (p.places.loose f input) ∷ []))
        by true is = ((λ lt. loose ∙ pass.1 (sym h.2 ∙ is)), tt)
        by false is = tt
    passed s t caught u place input j (inr h) pass here loose =
        subst (λ c. All (rule.passed p w f c u input)) (sym h.1)
        ((λ lt. (subst (λ x. Below k w.same x (at w (p.places.variable f input))) (tidy_is (Inst h.0 false) (inst_formed h.0)) (subst (λ y. Below k w.same (tidy (Inst h.0 false)) y) (sym here) (subst (λ x. Below k w.same (tidy x) (tidy (t.element j))) h.2 (below (s.element place) (t.element j) pass.0))), tt)), tt)

    passes : (s t : Spot) (caught : Option (ℕ × ℕ)) (base target j count : ℕ) (places : List ℕ) → ((i : ℕ) → j ≤ i → i < j + count → (at w (p.places.variable f (target + i)) ≡ tidy (t.element i)) × (lo (target + i) ≡ t.unbound i))
        → Sources s caught base places → Carries p a f s t j places → All (rule.pass_all p w f caught (shift target (range j count)) (shift base places))
    passes s t caught base target j zero places here sources carries = tt
    passes s t caught base target j (suc count) [] here sources carries = tt
    passes s t caught base target j (suc count) (place ∷ places) here sources carries =
        let h = here j (omega arith) (omega arith) in
        hold_append k w (rule.passed p w f (rule.caught_as caught (base + place)) (base + place) (target + j)) (rule.pass_all p w f caught (shift target (range (j + 1) count)) (shift base places))
        (passed s t caught (base + place) place (target + j) j sources.0 carries.0 h.0 h.1)
        (passes s t caught base target (j + 1) count places (λ i l r. here i (omega (arith, l)) (omega (arith, r))) sources.1 (subst (λ i. Carries p a f s t i places) (next j) carries.1))
      where
        next : (i : ℕ) → suc i ≡ i + 1
        next i = omega arith

    inputs_are : (base m node : ℕ) (value : Bool) (form : Form) → (numbered base m node value form).inputs ≡ shift base (range 0 m)
    inputs_are base m node value (Go jump) = refl
    inputs_are base m node value (Fork test so_way other_way) = refl
    inputs_are base m node value (Does o args covers hands default norm) = refl
    inputs_are base m node value (Plain o jump) = refl
    inputs_are base m node value GiveBack = refl
    inputs_are base m node value GiveUp = refl

    linked : (s : Spot) (caught : Option (ℕ × ℕ)) (base : ℕ) (jump : Jump) → Sources s caught base jump.places → Goes p a f stand s jump → All (rule.link_needs p w f graph caught (link base jump))
    linked s caught base jump sources goes_to = (reached, by (slice_get graph.blocks jump.to) refl)
      where
        reached : Holds k w (Set (p.places.block f jump.to))
        reached lt = elim (cases_lt jump.to (length graph.blocks)) [ inl less ↦ facts.blocks jump.to less ∙ goes_to.0 | inr le ↦ absurd (let h = facts.absent jump.to le in omega (arith, lt, h)) ]

        by : (o : Option Block) → slice_get graph.blocks jump.to ≡ o → All (rule.pass_all p w f caught (rule.inputs_of o) (shift base jump.places))
        by None is = tt
        by (Some code) is =
            let good = facts.good jump.to (there graph.blocks jump.to code is) in
            let target : ℕ = good.0 in
            let m : ℕ = good.1 in
            let code_is : Some code ≡ Some (numbered target m good.2 good.3 good.4) = sym is ∙ (subst (λ (g : Option Graph). block_in g jump.to ≡ Some (numbered target m good.2 good.3 good.4)) facts.found good.5) in
            let inputs_is : rule.inputs_of (Some code) ≡ shift target (range 0 m) = ap rule.inputs_of code_is ∙ inputs_are target m good.2 good.3 good.4 in
            subst (λ vs. All (rule.pass_all p w f caught vs (shift base jump.places))) (sym inputs_is)
            (passes s (stand jump.to) caught base target 0 m jump.places (λ i l r. facts.inputs jump.to target m good.2 good.3 good.4 (is ∙ code_is) i (omega (arith, r))) sources goes_to.1)

    -- ---- a reached block

    module _ (b base m node : ℕ) (value : Bool) (form : Form) (is : Is b base m node value form) where
      abbrev s : Spot
      s = stand b

      abbrev vars : List ℕ
      vars = variables_of (numbered base m node value form)

      here : (place : ℕ) → In vars (base + place) → At b base place
      here place i = by (own_place base m node value form place i)
        where
          by : (place < m) ⊎ ((place ≡ m) × (has_result form ≡ true)) → At b base place
          by (inl lt) = facts.inputs b base m node value form is place lt
          by (inr h) = subst (λ j. At b base j) (sym h.0) (facts.results b base m node value form is h.1)

      plain_sources : (places : List ℕ) → AreOf vars (shift base places) → Sources s None base places
      plain_sources [] own = tt
      plain_sources (place ∷ places) own = let h = here place own.0 in (inl (refl, h.0, h.1), plain_sources places own.1)

      caught_source : (c place : ℕ) → In vars (base + place) → (t : Bool) → (place == m) ≡ t → Source (as_class s m c) (Some (base + m, c)) (base + place) place
      caught_source c place i true e =
          let same : place ≡ m = eqb-true place m e in
          inr (c, ap (λ t. if t then Some c else None) (eq-eqb (base + m) (base + place) (omega (arith, same))), ap (λ t. if t then Inst c false else s.element place) e)
      caught_source c place i false e =
          let other : place ≢ m = eqb-false place m e in
          let h = here place i in
          inl (
            ap (λ t. if t then Some c else None) (ne_eqb (base + m) (base + place) (λ z. other (omega (arith, z)))),
            h.0 ∙ ap (λ t. tidy (if t then Inst c false else s.element place)) (sym e),
            h.1 ∙ ap (λ t. if t then false else s.unbound place) (sym e),
          )

      caught_sources : (c : ℕ) (places : List ℕ) → AreOf vars (shift base places) → Sources (as_class s m c) (Some (base + m, c)) base places
      caught_sources c [] own = tt
      caught_sources c (place ∷ places) own = (caught_source c place own.0 (place == m) refl, caught_sources c places own.1)

      caught_links : (hands : List (ℕ × Jump)) → LinksRead vars (links base hands) → Catches p a f stand s m hands → All (from_each (λ l. rule.link_needs p w f graph (Some (base + m, l.0)) l.1) (links base hands))
      caught_links [] own h = tt
      caught_links (hand ∷ hands) own h =
          hold_append k w (rule.link_needs p w f graph (Some (base + m, hand.0)) (link base hand.1)) (from_each (λ l. rule.link_needs p w f graph (Some (base + m, l.0)) l.1) (links base hands))
          (linked (as_class s m hand.0) (Some (base + m, hand.0)) base hand.1 (caught_sources hand.0 hand.1.places own.0) h.0) (caught_links hands own.1 h.1)

      operands_are : (args : List ℕ) → AreOf vars (shift base args) → map val (shift base args) ≡ map (tidied s).element args
      operands_are [] own = refl
      operands_are (i ∷ args) own = λ j. (here i own.0).0 j ∷ operands_are args own.1 j

      first_is : (args : List ℕ) → AreOf vars (shift base args) → rule.first_loose p w f (shift base args) ≡ first_unbound s args
      first_is [] own = refl
      first_is (i ∷ args) own = (here i own.0).1

      module _ (o : RowOp) (args : List ℕ) (covers : Covers) (some : has_result form ≡ true) (own : AreOf vars (shift base args)) (does : Operates p a f s m node value o args) where
        abbrev operation : Op
        operation = act base m node value o args covers

        abbrev xs : List Shape
        xs = map s.element args

        result_is : At b base m
        result_is = facts.results b base m node value form is some

        when_true : (c : Bool) (n : Need) → (c ≡ true → Holds k w n) → All (when c (n ∷ []))
        when_true true n h = (h refl, tt)
        when_true false n h = tt

        first_and : (c : Bool) → (c && rule.first_loose p w f (shift base args)) ≡ true → (c && first_unbound s args) ≡ true
        first_and c h = ap (λ t. c && t) (sym (first_is args own)) ∙ h

        loose_hold : All (rule.loose_needs p w f operation)
        loose_hold =
            hold_append k w (when (is_copy o && rule.first_loose p w f (shift base args)) (Set (p.places.unbound node) ∷ [])) (when (is_narrowing o && rule.first_loose p w f (shift base args)) (Set (p.places.loose f (base + m)) ∷ []))
            (when_true (is_copy o && rule.first_loose p w f (shift base args)) (Set (p.places.unbound node)) (λ t lt. facts.unbound node ∙ does.reads (first_and (is_copy o) t) (subst (λ l. p.places.unbound node < l) facts.has.marks lt)))
            (when_true (is_narrowing o && rule.first_loose p w f (shift base args)) (Set (p.places.loose f (base + m))) (λ t lt. result_is.1 ∙ does.keeps (first_and (is_narrowing o) t)))

        reached_hold : some_nothing (map (tidied s).element args) ≡ false → All (rule.reached_needs p w f operation (map (tidied s).element args))
        reached_hold there_are =
            let formed = all_formed s args there_are in
            let same = same_operands s args formed in
            let gives = does.gives (ap some_nothing (sym same) ∙ there_are) in
            let result : at w (p.places.variable f (base + m)) ≡ s.element m = result_is.0 ∙ tidy_is (s.element m) (does.formed formed) in
            subst (λ ys. All (rule.reached_needs p w f operation ys)) (sym same) (
              λ lt. subst (λ x. Under k w.same (asked p w f o xs node) x) (sym result) (subst (λ t. Under k t (asked p w f o xs node) (s.element m)) (sym facts.has.alike.same) (subst (λ ps. Under k a.parts.same ps (s.element m)) (sym (asked_is p w a.parts facts.has.alike f o xs node)) gives.0)),
              by (not (some_clash (asked p w f o xs node))) (subst (λ ns. All ns) (sym (asks_is p w a.parts facts.has.alike o xs)) (all_hold_too p a.parts w facts.has k (asks p a.parts o xs) (asks_speak p a.parts w facts.has o xs) gives.1)),
            )
          where
            by : (c : Bool) → All (asks p w o xs) → All (when c (asks p w o xs))
            by true h = h
            by false h = tt

        op_holds : All (rule.op_needs p w f operation)
        op_holds =
            hold_append k w (rule.loose_needs p w f operation) (when (not (some_nothing (map val (shift base args)))) (rule.reached_needs p w f operation (map val (shift base args)))) loose_hold
            (subst (λ ys. All (when (not (some_nothing ys)) (rule.reached_needs p w f operation ys))) (sym (operands_are args own)) (by (some_nothing (map (tidied s).element args)) refl))
          where
            by : (c : Bool) → some_nothing (map (tidied s).element args) ≡ c → All (when (not c) (rule.reached_needs p w f operation (map (tidied s).element args)))
            by true e = tt
            by false e = reached_hold e

        op_marked : (flaw : Flaw) (there_at : ℕ) → op_shows p w flaw there_at f operation ≡ true → a.faulty flaw there_at ≡ true
        op_marked flaw there_at h =
            let reads = map val (shift base args) in
            let rest = and_right (node == there_at) (not (some_nothing reads) && shows p w flaw value o reads) h in
            let here_is : node ≡ there_at = eqb-true node there_at (and_left (node == there_at) (not (some_nothing reads) && shows p w flaw value o reads) h) in
            let some_are : some_nothing (map (tidied s).element args) ≡ false = ap some_nothing (sym (operands_are args own)) ∙ not_true (some_nothing reads) (and_left (not (some_nothing reads)) (shows p w flaw value o reads) rest) in
            let same : map (tidied s).element args ≡ xs = same_operands s args (all_formed s args some_are) in
            let shown : shows p a.parts flaw value o xs ≡ true =
            sym (shows_is p w a.parts facts.has.alike flaw value o xs) ∙ ap (λ ys. shows p w flaw value o ys) (sym (operands_are args own ∙ same)) ∙ and_right (not (some_nothing reads)) (shows p w flaw value o reads) rest in
            subst (λ i. a.faulty flaw i ≡ true) here_is (does.marked flaw (ap some_nothing (sym same) ∙ some_are) shown)

        onward : rule.goes_on p w f operation ≡ true → goes_on o (s.element m) ≡ true
        onward t = more (is_narrowing o) (subst (λ x. (is_narrowing o || not (is_nothing x)) ≡ true) result_is.0 t)
          where
            more : (c : Bool) → (c || not (is_nothing (tidy (s.element m)))) ≡ true → (c || not (is_nothing (s.element m))) ≡ true
            more true h = refl
            more false h = by_form (λ x. not (is_nothing x) ≡ true → not (is_nothing (s.element m)) ≡ true) (s.element m) (λ i j. j) (λ i j. absurd (false≢true j)) h

        then_on : (jump : Jump) → AreOf vars (shift base jump.places) → (goes_on o (s.element m) ≡ true → Goes p a f stand s jump) → All (when (rule.goes_on p w f operation) (rule.link_needs p w f graph None (link base jump)))
        then_on jump owns goes_to = by (rule.goes_on p w f operation) refl
          where
            by : (c : Bool) → rule.goes_on p w f operation ≡ c → All (when c (rule.link_needs p w f graph None (link base jump)))
            by true e = linked s None base jump (plain_sources jump.places owns) (goes_to (onward e))
            by false e = tt

      -- a way that is gone by a truth
      by_truth : (way : Bool) (test : ℕ) (jump : Jump) → In vars (base + test) → AreOf vars (shift base jump.places) → (goes way (s.element test) ≡ true → Goes p a f stand s jump) → All (when (goes way (val (base + test))) (rule.link_needs p w f graph None (link base jump)))
      by_truth way test jump i owns goes_to = by (goes way (val (base + test))) refl
        where
          went : goes way (tidy (s.element test)) ≡ true → goes way (s.element test) ≡ true
          went h = by_form (λ x. goes way x ≡ true → goes way (s.element test) ≡ true) (s.element test) (λ j t. t) (λ j t. absurd (false≢true t)) h

          by : (c : Bool) → goes way (val (base + test)) ≡ c → All (when c (rule.link_needs p w f graph None (link base jump)))
          by true e = linked s None base jump (plain_sources jump.places owns) (goes_to (went (ap (goes way) (sym (here test i).0) ∙ e)))
          by false e = tt

    fits_hold : (b base m node : ℕ) (value : Bool) (form : Form) → Is b base m node value form → ReadsOwn (numbered base m node value form) → Fits p a f stand (stand b) m node value form → All (rule.block_needs p w f graph (numbered base m node value form))
    fits_hold b base m node value (Go jump) is own fits = linked (stand b) None base jump (plain_sources b base m node value (Go jump) is jump.places own.1) fits
    fits_hold b base m node value (Fork test so_way other_way) is own fits =
        hold_append k w (when (goes true (val (base + test))) (rule.link_needs p w f graph None (link base so_way))) (when (goes false (val (base + test))) (rule.link_needs p w f graph None (link base other_way)))
        (by_truth b base m node value (Fork test so_way other_way) is true test so_way own.1.0 own.1.1 fits.0) (by_truth b base m node value (Fork test so_way other_way) is false test other_way own.1.0 own.1.2 fits.1)
    fits_hold b base m node value (Does o args covers hands default norm) is own fits =
        let form : Form = Does o args covers hands default norm in
        let operation : Op = act base m node value o args covers in
        let hand_needs = from_each (λ l. rule.link_needs p w f graph (Some (base + m, l.0)) l.1) (links base hands) in
        let default_needs = rule.link_needs p w f graph (Some (base + m, 0)) (link base default) in
        let norm_needs = when (rule.goes_on p w f operation) (rule.link_needs p w f graph None (link base norm)) in
        hold_append k w (hand_needs ++ default_needs) (rule.op_needs p w f operation ++ norm_needs)
        (hold_append k w hand_needs default_needs (caught_links b base m node value form is hands own.1.0 fits.0)
        (linked (as_class (stand b) m 0) (Some (base + m, 0)) base default (caught_sources b base m node value form is 0 default.places own.1.1) fits.1))
        (hold_append k w (rule.op_needs p w f operation) norm_needs (op_holds b base m node value form is o args covers refl own.0.0 fits.2) (then_on b base m node value form is o args covers refl own.0.0 fits.2 norm own.1.2 fits.3))
    fits_hold b base m node value (Plain o jump) is own fits =
        let form : Form = Plain o jump in
        let operation : Op = act base m node value o [] no_covers in
        let norm_needs = when (rule.goes_on p w f operation) (rule.link_needs p w f graph None (link base jump)) in
        hold_append k w (rule.op_needs p w f operation) norm_needs (op_holds b base m node value form is o [] no_covers refl own.0.0 fits.0) (then_on b base m node value form is o [] no_covers refl own.0.0 fits.0 jump own.1 fits.1)
    fits_hold b base m node value GiveBack is own fits = (returned, tt)
      where
        result_is : at w (p.places.result f) ≡ at a.parts (p.places.result f)
        result_is = facts.has.alike.results f

        returned : Holds k w (Up (p.places.result graph.function) (val (base + 0) ∷ []))
        returned =
            subst (λ g. Holds k w (Up (p.places.result g) (val (base + 0) ∷ []))) (sym facts.function)
            (λ lt.
            let low = (fits (subst (λ l. p.places.result f < l) facts.has.cells lt)).0 in (
              subst (λ x. Below k w.same x (at w (p.places.result f))) (sym (here b base m node value GiveBack is 0 own.1).0)
                  (subst (λ y. Below k w.same (tidy ((stand b).element 0)) y) (sym result_is) (subst (λ t. Below k t (tidy ((stand b).element 0)) (at a.parts (p.places.result f))) (sym facts.has.alike.same) (tidy_below k a.parts.same ((stand b).element 0) (at a.parts (p.places.result f)) low))),
              tt,
            ))
    fits_hold b base m node value GiveUp is own fits = tt

    -- ---- the flaws that it shows

    only : (b c : Bool) → (b || (c && false)) ≡ true → b ≡ true
    only true c h = refl
    only false true h = absurd (false≢true h)
    only false false h = absurd (false≢true h)

    fits_marked : (b base m node : ℕ) (value : Bool) (form : Form) → Is b base m node value form → ReadsOwn (numbered base m node value form) → Fits p a f stand (stand b) m node value form
        → (flaw : Flaw) (there_at : ℕ) → ops_show p w flaw there_at f (numbered base m node value form).ops ≡ true → a.faulty flaw there_at ≡ true
    fits_marked b base m node value (Go jump) is own fits flaw there_at h = absurd (false≢true h)
    fits_marked b base m node value (Fork test so_way other_way) is own fits flaw there_at h = absurd (false≢true h)
    fits_marked b base m node value (Does o args covers hands default norm) is own fits flaw there_at h =
        let operation : Op = act base m node value o args covers in
        op_marked b base m node value (Does o args covers hands default norm) is o args covers refl own.0.0 fits.2 flaw there_at (only (op_shows p w flaw there_at f operation) (rule.goes_on p w f operation) h)
    fits_marked b base m node value (Plain o jump) is own fits flaw there_at h =
        let operation : Op = act base m node value o [] no_covers in
        op_marked b base m node value (Plain o jump) is o [] no_covers refl own.0.0 fits.0 flaw there_at (only (op_shows p w flaw there_at f operation) (rule.goes_on p w f operation) h)
    fits_marked b base m node value GiveBack is own fits flaw there_at h = absurd (false≢true h)
    fits_marked b base m node value GiveUp is own fits flaw there_at h = absurd (false≢true h)

    pub block_marked : (b : ℕ) (code : Block) → slice_get graph.blocks b ≡ Some code → mark w (p.places.block f b) ≡ true → (flaw : Flaw) (there_at : ℕ) → ops_show p w flaw there_at f code.ops ≡ true → a.faulty flaw there_at ≡ true
    block_marked b code is reached flaw there_at h =
        let lt = there graph.blocks b code is in
        let good = facts.good b lt in
        let form_is : Some code ≡ Some (numbered good.0 good.1 good.2 good.3 good.4) = sym is ∙ (subst (λ (g : Option Graph). block_in g b ≡ Some (numbered good.0 good.1 good.2 good.3 good.4)) facts.found good.5) in
        let same : code ≡ numbered good.0 good.1 good.2 good.3 good.4 = cc in
        fits_marked b good.0 good.1 good.2 good.3 good.4 (is ∙ form_is) (subst (λ (c : Block). ReadsOwn c) same (facts.reads b code is)) (good.7 (sym (facts.blocks b lt) ∙ reached)) flaw there_at
        (subst (λ (c : Block). ops_show p w flaw there_at f c.ops ≡ true) same h)

    pub block_holds : (b : ℕ) (code : Block) → slice_get graph.blocks b ≡ Some code → mark w (p.places.block f b) ≡ true → All (rule.block_needs p w f graph code)
    block_holds b code is reached =
        let lt = there graph.blocks b code is in
        let good = facts.good b lt in
        let form_is : Some code ≡ Some (numbered good.0 good.1 good.2 good.3 good.4) = sym is ∙ (subst (λ (g : Option Graph). block_in g b ≡ Some (numbered good.0 good.1 good.2 good.3 good.4)) facts.found good.5) in
        let same : code ≡ numbered good.0 good.1 good.2 good.3 good.4 = cc in
        subst (λ (c : Block). All (rule.block_needs p w f graph c)) (sym same)
        (fits_hold b good.0 good.1 good.2 good.3 good.4 (is ∙ form_is) (subst (λ (c : Block). ReadsOwn c) same (facts.reads b code is)) (good.7 (sym (facts.blocks b lt) ∙ reached)))

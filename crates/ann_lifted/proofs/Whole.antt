-- All that the graphs of a program ask holds where an annotation is lifted to them.
use Rattle.std.proofs.Common.{◌≡◌, ◌+◌, ◌<◌, ◌≤◌, ℕ, zero, suc, Bool, true, false, List, [], ◌∷◌, ◌++◌, inl, inr, length, get_or, Option, Some, None, refl, sym, ap, ◌∙◌, arith, subst}
use Rattle.std.specs.Prelude.{◌&&◌, ◌||◌, ◌==◌, nat_lt, nat_le, if◌then◌else◌, slice_get}
use Rattle.std.specs.List.{flat_map}
use Rattle.std.proofs.lemmas.Bool.{eqb-true, false≢true}
use Rattle.rpy_tree.specs.Value.{Object}
use Rattle.rpy_tree.specs.declared.program.ClassInfo.{ClassInfo}
use Rattle.rpy_meaning.specs.Tree as meaning
use Rattle.flow_graph.specs.declared.graph.Block.{Block}
use Rattle.flow_graph.specs.declared.graph.Graph.{Graph}
use Rattle.flow_graph.specs.declared.graph.Graphs.{Graphs}
use Rattle.flow_graph.specs.declared.graph.Op.{Op}
use Rattle.flow_graph.specs.Whole.{CountFrom}
use Rattle.flow_meaning.specs.Machine.{block_in}
use Rattle.flow_stands.specs.Places.{range, shift, Shape as Form, Go, Fork, Does, Plain, GiveBack, GiveUp, first, numbered}
use Rattle.flow_trees.specs.Tree.{Function}
use Rattle.flow_trees.specs.Marks as marks
use Rattle.flow_trees.specs.Marks.{blocks_of}
use Rattle.ann_lattice.specs.Shape.{Shape, Nothing, NoneOnly, Truth, Num, Str, Tup, Lst, Dct, Inst, Fun, Clash}
use Rattle.ann_lattice.specs.Order.{Below, least}
use Rattle.ann_lattice.specs.Join.{is_clash}
use Rattle.ann_lattice.specs.Laws.{IsFormed, IsTree}
use Rattle.ann_lattice.specs.Assign.{Assignment, at, mark, Need, Up, Set, Holds}
use Rattle.ann_lattice.proofs.Ordered.{below_self}
use Rattle.ann_rules.specs.Program.{Callee, Whole}
use Rattle.ann_rules.specs.Asks.{when, from_each, tie}
use Rattle.ann_rules.specs.Rules as rule
use Rattle.ann_rules.specs.Hold.{AllHold}
use Rattle.ann_rules.proofs.Facts.{hold_append}
use Rattle.ann_laws.proofs.Pairs.{and_left, and_right}
use Rattle.ann_tree.specs.Faults.{Flaw}
use Rattle.ann_tree.specs.Annotation.{Annotation, Environment}
use Rattle.ann_tree.specs.Closed.{bound, before, IsClosed}
use Rattle.ann_read.specs.Reading.{In, ops_of, ops_show, blocks_show, graphs_show, HasGraphs, HasOps}
use Rattle.ann_lift.specs.Lift.{IsLift}
use Rattle.ann_lift.specs.Spots.{Spot, Spots, calm, IsValue, Results, Good, Starts, Shown}
use Rattle.ann_lift.proofs.Functions.{shown_in}
use Rattle.ann_lifted.specs.Lifted.{ReadOwn, HasNoOthers, IsLifted}
use Rattle.ann_lifted.proofs.Tidy.{tidy, tidied, tidy_formed, tidy_is, tidy_free, tidy_below}
use Rattle.ann_lifted.proofs.Speaking.{HasParts, all_hold_too, entry_speak, sites_speak, entry_same, sites_same}
use Rattle.ann_lifted.proofs.Blocks.{Facts, block_holds, block_marked}

calm_below : (k : List ClassInfo) → IsTree k → (t : List ℕ) (x : Shape) → Below k t (calm x) x
calm_below k tree t Nothing = below_self k tree t Nothing
calm_below k tree t NoneOnly = below_self k tree t NoneOnly
calm_below k tree t (Truth b) = below_self k tree t (Truth b)
calm_below k tree t (Num b) = below_self k tree t (Num b)
calm_below k tree t (Str w) = below_self k tree t (Str w)
calm_below k tree t (Tup xs) = below_self k tree t (Tup xs)
calm_below k tree t (Lst s b) = below_self k tree t (Lst s b)
calm_below k tree t (Dct s b) = below_self k tree t (Dct s b)
calm_below k tree t (Inst c b) = below_self k tree t (Inst c b)
calm_below k tree t (Fun fs b) = below_self k tree t (Fun fs b)
calm_below k tree t (Clash o q) = least (Clash o q)

-- ---- lists

at_place : {A : Type 0} → (xs : List A) (i : ℕ) (x : A) → slice_get xs i ≡ Some x → i < length xs
at_place [] i x h = cc
at_place (y ∷ xs) zero x h = omega arith
at_place (y ∷ xs) (suc i) x h = let l = at_place xs i x h in omega (arith, l)

-- a graph is that of the function with its number
counted : (n : ℕ) (graphs : List Graph) (f : ℕ) (graph : Graph) → CountFrom n graphs → slice_get graphs f ≡ Some graph → graph.function ≡ n + f
counted n [] f graph h is = cc
counted n (x ∷ graphs) zero graph h is =
    let same : x ≡ graph = cc in
    let z : n ≡ n + zero = omega arith in
    ap (λ (y : Graph). y.function) (sym same) ∙ h.0 ∙ z
counted n (x ∷ graphs) (suc f) graph h is = let z : n + 1 + f ≡ n + suc f = omega arith in counted (n + 1) graphs f graph h.1 is ∙ z

-- the block of an operation
find_block : (bs : List Block) (o : Op) → In (flat_map (λ (x : Block). x.ops) bs) o → (b : ℕ) × (code : Block) × (slice_get bs b ≡ Some code) × In code.ops o
find_block [] o h = absurd h
find_block (x ∷ bs) o h = sort (λ i. find_block bs o i) x.ops (λ j. j) h
  where
    later : (b : ℕ) × (code : Block) × (slice_get bs b ≡ Some code) × In code.ops o → (b : ℕ) × (code : Block) × (slice_get (x ∷ bs) b ≡ Some code) × In code.ops o
    later r = (suc r.0, r.1, r.2, r.3)

    here : In x.ops o → (b : ℕ) × (code : Block) × (slice_get (x ∷ bs) b ≡ Some code) × In code.ops o
    here i = (zero, x, refl, i)

    sort : (In (flat_map (λ (y : Block). y.ops) bs) o → (b : ℕ) × (code : Block) × (slice_get bs b ≡ Some code) × In code.ops o) → (os : List Op) → (In os o → In x.ops o) → In (os ++ flat_map (λ (y : Block). y.ops) bs) o → (b : ℕ) × (code : Block) × (slice_get (x ∷ bs) b ≡ Some code) × In code.ops o
    sort rest [] onto i = later (rest i)
    sort rest (q ∷ os) onto (inl e) = here (onto (inl e))
    sort rest (q ∷ os) onto (inr i) = sort rest os (λ j. onto (inr j)) i

module _ (k : List ClassInfo) (w : Assignment) where
  all_in : (f : Op → List Need) (os : List Op) → ((o : Op) → In os o → AllHold k w (f o)) → AllHold k w (from_each f os)
  all_in f [] h = tt
  all_in f (o ∷ os) h = hold_append k w (f o) (from_each f os) (h o (inl refl)) (all_in f os (λ q i. h q (inr i)))

  all_numbered : {A : Type 0} → (p : Whole) (f : ℕ → A → List Need) (n : ℕ) (xs : List A) → ((i : ℕ) (x : A) → slice_get xs i ≡ Some x → AllHold k w (f (n + i) x)) → AllHold k w (rule.numbered p w f n xs)
  all_numbered p f n [] h = tt
  all_numbered p f n (x ∷ xs) h =
      hold_append k w (f n x) (rule.numbered p w f (suc n) xs) (subst (λ i. AllHold k w (f i x)) (zero_is n) (h zero x refl)) (all_numbered p f (suc n) xs (λ i y e. subst (λ j. AllHold k w (f j y)) (suc_is n i) (h (suc i) y e)))
    where
      zero_is : (n : ℕ) → n + 0 ≡ n
      zero_is n = omega arith

      suc_is : (n i : ℕ) → n + suc i ≡ suc n + i
      suc_is n i = omega arith

  each_need : (ns : List Need) → AllHold k w ns → (r : ℕ) → Holds k w (get_or ns r rule.no_need)
  each_need [] h r = λ lt. tt
  each_need (n ∷ ns) h zero = h.0
  each_need (n ∷ ns) h (suc r) = each_need ns h.1 r

-- ---- the program

module _ (p : Whole) (sites : List (Option Object)) (a : Annotation) (gs : Graphs) (meant : meaning.Program) (functions : List Function) (classes : IsTree p.tables.classes) (graphs : HasGraphs meant gs p functions) (ops : HasOps p functions) (reads : ReadOwn p)
    (closed : IsClosed p sites a functions) (formed : (c : ℕ) → IsFormed (at a.parts c)) where
  abbrev nothing : Spot
  nothing = record { reached = false; element = λ j. Nothing; unbound = λ j. false }

  pub shown : (f : ℕ) (function : Function) → slice_get functions f ≡ Some function → Shown p a f sites gs function
  shown f function e = shown_in p sites a gs meant functions classes graphs.stand closed formed f function e

  abbrev pick : (f : ℕ) (o : Option Function) → slice_get functions f ≡ o → Spots
  pick f None e = λ b. nothing
  pick f (Some function) e = (shown f function e).spots

  abbrev raw : ℕ → Spots
  raw f = pick f (slice_get functions f) refl

  abbrev pub lifted : ℕ → Spots
  lifted f b = tidied (raw f b)

  pub lifted_formed : (f b j : ℕ) → IsFormed ((lifted f b).element j)
  lifted_formed f b j = tidy_formed ((raw f b).element j)

  good_of : (f : ℕ) (o : Option Function) (e : slice_get functions f ≡ o) (function : Function) → o ≡ Some function → (b : ℕ) → b < length (blocks_of (slice_get gs.graphs f)) → Good p a f gs (pick f o e) b
  good_of f None e function is b lt = cc
  good_of f (Some x) e function is b lt = (shown f x e).good b lt

  starts_of : (f : ℕ) (o : Option Function) (e : slice_get functions f ≡ o) (function : Function) → o ≡ Some function → mark a.parts (p.places.reached f) ≡ true → Starts p a f (pick f o e 0) function.locals (before p sites a f function)
  starts_of f None e function is reached = cc
  starts_of f (Some x) e function is reached = let same : x ≡ function = cc in subst (λ (g : Function). Starts p a f ((shown f x e).spots 0) g.locals (before p sites a f g)) same ((shown f x e).starts reached)

  module _ (w : Assignment) (lift : IsLift p a lifted w) (others : HasNoOthers p w) where
    abbrev k : List ClassInfo
    k = p.tables.classes

    abbrev All : List Need → Type 0
    All ns = AllHold k w ns

    has : HasParts p a.parts w
    has = record { alike = lift.alike; cells = lift.cells; marks = lift.marks; reached = lift.reached; loaded = lift.loaded }

    in_graphs : (f : ℕ) (graph : Graph) → slice_get p.graphs f ≡ Some graph → slice_get gs.graphs f ≡ Some graph
    in_graphs f graph is = subst (λ (l : List Graph). slice_get l f ≡ Some graph) graphs.graphs is

    module _ (f : ℕ) (graph : Graph) (is : slice_get p.graphs f ≡ Some graph) (function : Function) (of : slice_get functions f ≡ Some function) where
      block_is : (b : ℕ) (code : Block) → slice_get graph.blocks b ≡ Some code → block_in (slice_get p.graphs f) b ≡ Some code
      block_is b code e = subst (λ (o : Option Graph). block_in o b ≡ Some code) (sym is) e

      good : (b : ℕ) → b < length graph.blocks → Good p a f gs (raw f) b
      good b lt = good_of f (slice_get functions f) refl function of b (subst (λ (o : Option Graph). b < length (blocks_of o)) (sym (in_graphs f graph is)) lt)

      past : (xs : List Block) (b : ℕ) → length xs ≤ b → slice_get xs b ≡ None
      past [] b le = refl
      past (x ∷ xs) zero le = absurd (omega (arith, le))
      past (x ∷ xs) (suc b) le = past xs b (omega (arith, le))

      number : 0 + f ≡ f
      number = omega arith

      facts : Facts p a gs w (raw f) f graph
      facts = record {
        classes = classes;
        has = has;
        unbound = lift.unbound;
        found = in_graphs f graph is;
        function = counted 0 p.graphs f graph graphs.numbers is ∙ number;
        blocks = λ b lt. lift.blocks f b graph is lt;
        inputs = λ b base m node value form e j lt. lift.inputs f b base m node value form (block_is b (numbered base m node value form) e) j lt;
        results = λ b base m node value form e some. lift.results f b base m node value form (block_is b (numbered base m node value form) e) some;
        good = good;
        reads = λ b code e. reads f b graph code is e;
        absent = λ b le. others f b (subst (λ (o : Option Graph). block_in o b ≡ None) (sym is) (past graph.blocks b le));
      }

      -- ---- results of operations

      abbrev result : Op → Shape
      result o = at w (p.places.variable f o.result)

      pub record Resulting (o : Op) : Type 0 where
        pub free : is_clash (result o) ≡ false
        pub value : o.value ≡ true → result o ≡ tidy (calm (a.element o.node))

      valued : (s : Spot) (m node : ℕ) (value : Bool) (x : Shape) → x ≡ tidy (s.element m) → (is_clash (s.element m) ≡ false) → (value ≡ true → s.element m ≡ calm (a.element node)) → (is_clash x ≡ false) × (value ≡ true → x ≡ tidy (calm (a.element node)))
      valued s m node value x is_x free of_node = (ap is_clash is_x ∙ tidy_free (s.element m) free, λ v. is_x ∙ ap tidy (of_node v))

      of_value : (value : Bool) (node : ℕ) (x : Shape) → IsValue p a f value node x → value ≡ true → x ≡ calm (a.element node)
      of_value true node x h v = h
      of_value false node x h v = absurd (false≢true v)

      resulting : (b base m node : ℕ) (value : Bool) (form : Form) → slice_get graph.blocks b ≡ Some (numbered base m node value form) → Results p a f (raw f b) m node value form → (o : Op) → In (numbered base m node value form).ops o → Resulting o
      resulting b base m node value (Go jump) e results o i = absurd i
      resulting b base m node value (Fork test so_way other_way) e results o i = absurd i
      resulting b base m node value (Does op args covers hands default norm) e results o (inl same) =
          let form : Form = Does op args covers hands default norm in
          let v = valued (raw f b) m node value (at w (p.places.variable f (base + m))) (facts.results b base m node value form e refl).0 results.0 (of_value value node ((raw f b).element m) results.1) in
          subst Resulting same (record { free = v.0; value = v.1 })
      resulting b base m node value (Does op args covers hands default norm) e results o (inr i) = absurd i
      resulting b base m node value (Plain op jump) e results o (inl same) =
          let v = valued (raw f b) m node value (at w (p.places.variable f (base + m))) (facts.results b base m node value (Plain op jump) e refl).0 results.0 (of_value value node ((raw f b).element m) results.1) in
          subst Resulting same (record { free = v.0; value = v.1 })
      resulting b base m node value (Plain op jump) e results o (inr i) = absurd i
      resulting b base m node value GiveBack e results o i = absurd i
      resulting b base m node value GiveUp e results o i = absurd i

      op_result : (o : Op) → In (ops_of graph) o → Resulting o
      op_result o i =
          let r = find_block graph.blocks o i in
          let g = good r.0 (at_place graph.blocks r.0 r.1 r.2) in
          let form_is : Some r.1 ≡ Some (numbered g.0 g.1 g.2 g.3 g.4) = sym r.2 ∙ subst (λ (o : Option Graph). block_in o r.0 ≡ Some (numbered g.0 g.1 g.2 g.3 g.4)) (in_graphs f graph is) g.5 in
          let same : r.1 ≡ numbered g.0 g.1 g.2 g.3 g.4 = cc in
          resulting r.0 g.0 g.1 g.2 g.3 g.4 (r.2 ∙ form_is) g.6 o (subst (λ (c : Block). In c.ops o) same r.3)

      -- ---- what the graph asks

      blocks_hold : (n : ℕ) (bs : List Block) → ((i : ℕ) (code : Block) → slice_get bs i ≡ Some code → mark w (p.places.block f (n + i)) ≡ true → All (rule.block_needs p w f graph code)) → All (rule.blocks_needs p w f graph n bs)
      blocks_hold n [] h = tt
      blocks_hold n (code ∷ bs) h =
          hold_append k w (when (mark w (p.places.block f n)) (rule.block_needs p w f graph code)) (rule.blocks_needs p w f graph (suc n) bs) (by (mark w (p.places.block f n)) refl)
          (blocks_hold (suc n) bs (λ i x e reached. h (suc i) x e (subst (λ j. mark w (p.places.block f j) ≡ true) (sym (suc_is n i)) reached)))
        where
          zero_is : (n : ℕ) → n + 0 ≡ n
          zero_is n = omega arith

          suc_is : (n i : ℕ) → n + suc i ≡ suc n + i
          suc_is n i = omega arith

          by : (c : Bool) → mark w (p.places.block f n) ≡ c → All (when c (rule.block_needs p w f graph code))
          by true e = h zero code refl (subst (λ j. mark w (p.places.block f j) ≡ true) (sym (zero_is n)) e)
          by false e = tt

      -- ---- the flaws that it shows

      blocks_marked : (flaw : Flaw) (node n : ℕ) (bs : List Block) → ((i : ℕ) (code : Block) → slice_get bs i ≡ Some code → mark w (p.places.block f (n + i)) ≡ true → ops_show p w flaw node f code.ops ≡ true → a.faulty flaw node ≡ true)
          → blocks_show p w flaw node f n bs ≡ true → a.faulty flaw node ≡ true
      blocks_marked flaw node n [] one h = absurd (false≢true h)
      blocks_marked flaw node n (code ∷ bs) one h =
          by (mark w (p.places.block f n) && ops_show p w flaw node f code.ops) refl h
          (blocks_marked flaw node (suc n) bs (λ i x e reached. one (suc i) x e (subst (λ j. mark w (p.places.block f j) ≡ true) (sym (suc_is n i)) reached)))
        where
          zero_is : (n : ℕ) → n + 0 ≡ n
          zero_is n = omega arith

          suc_is : (n i : ℕ) → n + suc i ≡ suc n + i
          suc_is n i = omega arith

          by : (c : Bool) → (mark w (p.places.block f n) && ops_show p w flaw node f code.ops) ≡ c → (c || blocks_show p w flaw node f (suc n) bs) ≡ true
              → (blocks_show p w flaw node f (suc n) bs ≡ true → a.faulty flaw node ≡ true) → a.faulty flaw node ≡ true
          by true e i rest =
              one zero code refl (subst (λ j. mark w (p.places.block f j) ≡ true) (sym (zero_is n)) (and_left (mark w (p.places.block f n)) (ops_show p w flaw node f code.ops) e))
              (and_right (mark w (p.places.block f n)) (ops_show p w flaw node f code.ops) e)
          by false e i rest = rest i

      graph_marked : (flaw : Flaw) (node : ℕ) → blocks_show p w flaw node f 0 graph.blocks ≡ true → a.faulty flaw node ≡ true
      graph_marked flaw node h =
          blocks_marked flaw node 0 graph.blocks (λ i code e reached. block_marked p a gs w (raw f) f graph facts i code e (subst (λ j. mark w (p.places.block f j) ≡ true) (zero_add i) reached) flaw node) h
        where
          zero_add : (i : ℕ) → zero + i ≡ i
          zero_add i = omega arith

      tied : (o q : Op) → In (ops_of graph) o → In (ops_of graph) q → All (rule.tie_with p w f graph o q)
      tied o q i j = by (o.value && (q.value && (q.node == o.node))) refl
        where
          left : (b c : Bool) → (b && c) ≡ true → b ≡ true
          left true c h = refl
          left false c h = absurd (false≢true h)

          right : (b c : Bool) → (b && c) ≡ true → c ≡ true
          right true c h = h
          right false c h = absurd (false≢true h)

          by : (c : Bool) → (o.value && (q.value && (q.node == o.node))) ≡ c → All (when c (tie p w (p.places.variable f o.result) (p.places.variable f q.result)))
          by true e =
              let rest = right o.value (q.value && (q.node == o.node)) e in
              let nodes : q.node ≡ o.node = eqb-true q.node o.node (right q.value (q.node == o.node) rest) in
              let first_is = (op_result o i).value (left o.value (q.value && (q.node == o.node)) e) in
              let second_is = (op_result q j).value (left q.value (q.node == o.node) rest) in
              let same : result o ≡ result q = first_is ∙ ap (λ n. tidy (calm (a.element n))) (sym nodes) ∙ sym second_is in (
                λ lt. (subst (λ x. Below k w.same x (result o)) same (below_self k classes w.same (result o)), tt),
                ((λ lt. (subst (λ x. Below k w.same (result o) x) same (below_self k classes w.same (result o)), tt)), tt),
              )
          by false e = tt

      graph_holds : All (rule.graph_needs p w f graph)
      graph_holds =
          hold_append k w (rule.blocks_needs p w f graph zero graph.blocks) (rule.tie_ops p w f graph (rule.all_ops p w f graph graph.blocks))
          (blocks_hold zero graph.blocks (λ i code e reached. block_holds p a gs w (raw f) f graph facts i code e (subst (λ j. mark w (p.places.block f j) ≡ true) (zero_add i) reached)))
          (all_in k w (λ o. from_each (rule.tie_with p w f graph o) (ops_of graph)) (ops_of graph) (λ o i. all_in k w (rule.tie_with p w f graph o) (ops_of graph) (λ q j. tied o q i j)))
        where
          zero_add : (i : ℕ) → zero + i ≡ i
          zero_add i = omega arith

      -- ---- where the function starts

      abbrev start : Environment
      start = before p sites a f function

      inputs_hold : (count locals base i n : ℕ) → count ≡ length function.defaults → locals ≡ bound function → ((j : ℕ) → j < i + n → (at w (p.places.variable f (base + j)) ≡ tidy (start.element j)) × (mark w (p.places.loose f (base + j)) ≡ start.unbound j))
          → All (rule.input_needs p w f count locals i (shift base (range i n)))
      inputs_hold count locals base i zero counted_is locals_is here = tt
      inputs_hold count locals base i (suc n) counted_is locals_is here =
          let h = here i (omega arith) in
          hold_append k w (when (nat_lt i count) (Up (p.places.variable f (base + i)) (at w (p.places.param f i) ∷ []) ∷ [])) (when (nat_le locals i) (Set (p.places.loose f (base + i)) ∷ []) ++ rule.input_needs p w f count locals (suc i) (shift base (range (i + 1) n)))
          (param (nat_lt i count) (ap (λ c. nat_lt i c) (sym counted_is)) h.0)
          (hold_append k w (when (nat_le locals i) (Set (p.places.loose f (base + i)) ∷ [])) (rule.input_needs p w f count locals (suc i) (shift base (range (i + 1) n))) (loose (nat_le locals i) (ap (λ l. nat_le l i) locals_is) h.1)
          (subst (λ j. All (rule.input_needs p w f count locals j (shift base (range (i + 1) n)))) (next i) (inputs_hold count locals base (i + 1) n counted_is locals_is (λ j lt. here j (omega (arith, lt))))))
        where
          next : (i : ℕ) → i + 1 ≡ suc i
          next i = omega arith

          param : (c : Bool) → nat_lt i (length function.defaults) ≡ c → at w (p.places.variable f (base + i)) ≡ tidy (if nat_lt i (length function.defaults) then at a.parts (p.places.param f i) else Nothing) → All (when c (Up (p.places.variable f (base + i)) (at w (p.places.param f i) ∷ []) ∷ []))
          param true e is_var =
              let is_param : at w (p.places.variable f (base + i)) ≡ at w (p.places.param f i) = is_var ∙ ap (λ t. tidy (if t then at a.parts (p.places.param f i) else Nothing)) e ∙ tidy_is (at a.parts (p.places.param f i)) (formed (p.places.param f i)) ∙ sym (lift.alike.params f i) in
              ((λ lt. (subst (λ x. Below k w.same (at w (p.places.param f i)) x) (sym is_param) (below_self k classes w.same (at w (p.places.param f i))), tt)), tt)
          param false e is_var = tt

          loose : (c : Bool) → c ≡ nat_le (bound function) i → mark w (p.places.loose f (base + i)) ≡ nat_le (bound function) i → All (when c (Set (p.places.loose f (base + i)) ∷ []))
          loose true e is_loose = ((λ lt. is_loose ∙ sym e), tt)
          loose false e is_loose = tt

      start_holds : (c : Callee) → slice_get p.callees f ≡ Some c → mark w (p.places.reached f) ≡ true → All (Set (p.places.block f zero) ∷ rule.input_needs p w f (length c.defaults) (rule.locals_of p w c) zero (rule.inputs_of (rule.block_at graph.blocks zero)))
      start_holds c callee reached =
          let known = graphs.callees f function of in
          let same : known.0 ≡ c = cc in
          let defaults : length c.defaults ≡ length function.defaults = subst (λ (d : Callee). length d.defaults ≡ length function.defaults) same known.2 in
          let star : c.star ≡ function.takes_more = subst (λ (d : Callee). d.star ≡ function.takes_more) same known.3 in
          let locals : rule.locals_of p w c ≡ bound function = (λ j. if star j then defaults j + 1 else defaults j) in
          let h = subst (λ (o : Option Function). marks.IfFunction meant gs f o) of (graphs.stand f) in
          let base : ℕ = h.2.0 in
          let n : ℕ = function.locals in
          let form : Form = Go (first h.0 n) in
          let block : slice_get graph.blocks zero ≡ Some (numbered base n h.2.1 h.2.2 form) = subst (λ (o : Option Graph). block_in o 0 ≡ Some (numbered base n h.2.1 h.2.2 form)) (in_graphs f graph is) h.2.3 in
          let starts = starts_of f (slice_get functions f) refl function of (sym (lift.reached f) ∙ reached) in (
            λ lt. lift.blocks f 0 graph is (at_place graph.blocks 0 (numbered base n h.2.1 h.2.2 form) block) ∙ starts.0,
            subst (λ vs. All (rule.input_needs p w f (length c.defaults) (rule.locals_of p w c) zero vs)) (sym (ap rule.inputs_of block))
                (inputs_hold (length c.defaults) (rule.locals_of p w c) base 0 n defaults locals (λ j lt.
                let less : j < n = omega (arith, lt) in
                let cell = facts.inputs 0 base n h.2.1 h.2.2 form block j less in
                let from = starts.1 j less in
                (cell.0 ∙ ap tidy from.0, cell.1 ∙ from.1))),
          )

    function_of : (f : ℕ) (graph : Graph) → slice_get p.graphs f ≡ Some graph → (function : Function) × (slice_get functions f ≡ Some function)
    function_of f graph is = let o = ops.of_graphs f graph is in (o.0, o.1)

    starts_hold : (f : ℕ) (c : Callee) → slice_get p.callees f ≡ Some c → All (rule.start_needs p w f c)
    starts_hold f c callee = by (mark w (p.places.reached f)) refl (slice_get p.graphs f) refl
      where
        by : (r : Bool) → mark w (p.places.reached f) ≡ r → (o : Option Graph) → slice_get p.graphs f ≡ o → All (when r (Set (p.places.block f zero) ∷ rule.input_needs p w f (length c.defaults) (rule.locals_of p w c) zero (rule.first_inputs p w o)))
        by false reached o is = tt
        by true reached None is = ((λ lt. absurd (let h = others f zero (subst (λ (o : Option Graph). block_in o zero ≡ None) (sym is) refl) in omega (arith, lt, h))), tt)
        by true reached (Some graph) is = let g = function_of f graph is in start_holds f graph is g.0 g.1 c callee reached

    -- ---- all of it

    entry_holds : All (rule.entry_needs p w)
    entry_holds = subst (λ ns. All ns) (entry_same p a.parts w has) (all_hold_too p a.parts w has k (rule.entry_needs p a.parts) (entry_speak p a.parts w has) closed.entry)

    sites_hold : All (rule.numbered p w (rule.site_needs p w) 0 p.sites)
    sites_hold = subst (λ ns. All ns) (sites_same p a.parts w has 0 p.sites) (all_hold_too p a.parts w has k (rule.numbered p a.parts (rule.site_needs p a.parts) 0 p.sites) (sites_speak p a.parts w has 0 p.sites) closed.sites_are)

    needs_hold : All (rule.needs p w)
    needs_hold =
        let starts = rule.numbered p w (rule.start_needs p w) zero p.callees in
        let of_graphs = rule.numbered p w (rule.graph_needs p w) zero p.graphs in
        let of_sites = rule.numbered p w (rule.site_needs p w) zero p.sites in
        hold_append k w (rule.entry_needs p w) (starts ++ (of_graphs ++ of_sites)) entry_holds
        (hold_append k w starts (of_graphs ++ of_sites) (all_numbered k w p (rule.start_needs p w) zero p.callees (λ f c e. subst (λ i. All (rule.start_needs p w i c)) (zero_add f) (starts_hold f c e)))
        (hold_append k w of_graphs of_sites (all_numbered k w p (rule.graph_needs p w) zero p.graphs (λ f graph e. subst (λ i. All (rule.graph_needs p w i graph)) (zero_add f) (let g = function_of f graph e in graph_holds f graph e g.0 g.1))) sites_hold))
      where
        zero_add : (i : ℕ) → i ≡ zero + i
        zero_add i = omega arith

    graphs_marked : (flaw : Flaw) (node n : ℕ) (graphs : List Graph) → ((f : ℕ) (graph : Graph) → slice_get graphs f ≡ Some graph → blocks_show p w flaw node (n + f) 0 graph.blocks ≡ true → a.faulty flaw node ≡ true)
        → graphs_show p w flaw node n graphs ≡ true → a.faulty flaw node ≡ true
    graphs_marked flaw node n [] one h = absurd (false≢true h)
    graphs_marked flaw node n (graph ∷ graphs) one h =
        by (blocks_show p w flaw node n 0 graph.blocks) refl h
        (graphs_marked flaw node (suc n) graphs (λ f x e shown. one (suc f) x e (subst (λ i. blocks_show p w flaw node i 0 x.blocks ≡ true) (sym (suc_is n f)) shown)))
      where
        zero_is : (n : ℕ) → n + 0 ≡ n
        zero_is n = omega arith

        suc_is : (n i : ℕ) → n + suc i ≡ suc n + i
        suc_is n i = omega arith

        by : (c : Bool) → blocks_show p w flaw node n 0 graph.blocks ≡ c → (c || graphs_show p w flaw node (suc n) graphs) ≡ true → (graphs_show p w flaw node (suc n) graphs ≡ true → a.faulty flaw node ≡ true) → a.faulty flaw node ≡ true
        by true e i rest = one zero graph refl (subst (λ i. blocks_show p w flaw node i 0 graph.blocks ≡ true) (sym (zero_is n)) e)
        by false e i rest = rest i

    all_marked : (flaw : Flaw) (node : ℕ) → graphs_show p w flaw node 0 p.graphs ≡ true → a.faulty flaw node ≡ true
    all_marked flaw node h =
        graphs_marked flaw node 0 p.graphs (λ f graph is shown. let g = function_of f graph is in graph_marked f graph is g.0 g.1 flaw node (subst (λ i. blocks_show p w flaw node i 0 graph.blocks ≡ true) (zero_add f) shown)) h
      where
        zero_add : (i : ℕ) → zero + i ≡ i
        zero_add i = omega arith

    pub is_lifted : IsLifted p a w
    is_lifted = record {
      closed = each_need k w (rule.needs p w) needs_hold;
      free = λ f graph o is i. let g = function_of f graph is in (op_result f graph is g.0 g.1 o i).free;
      values = λ f graph o is i value.
          let g = function_of f graph is in
          subst (λ x. Below k w.same x (a.element o.node)) (sym ((op_result f graph is g.0 g.1 o i).value value)) (tidy_below k w.same (calm (a.element o.node)) (a.element o.node) (calm_below k classes w.same (a.element o.node)));
      flaws = all_marked;
    }

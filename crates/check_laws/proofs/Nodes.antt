-- The elements of nodes that are answered are those of the annotation of the trees.
use Rattle.std.proofs.Common.{◌≡◌, ◌+◌, ◌<◌, ◌⊎◌, inl, inr, ℕ, zero, suc, Bool, true, false, List, [], ◌∷◌, ◌++◌, length, Option, Some, None, refl, sym, ap, ◌∙◌, subst, arith}
use Rattle.std.specs.Prelude.{◌==◌, ◌&&◌, ◌||◌, not, if◌then◌else◌, slice_get}
use Rattle.std.specs.List.{flat_map}
use Rattle.std.proofs.lemmas.Bool.{false≢true, eqb-true, eq-eqb}
use Rattle.rpy_tree.specs.declared.program.Program.{Program}
use Rattle.resolved_meaning.specs.Trees.{program_of}
use Rattle.flow_graph.specs.declared.graph.Block.{Block}
use Rattle.flow_graph.specs.declared.graph.Graph.{Graph}
use Rattle.flow_graph.specs.declared.graph.Graphs.{Graphs}
use Rattle.flow_graph.specs.declared.graph.Op.{Op}
use Rattle.flow_space.specs.Trees.{functions_of}
use Rattle.class_desc.specs.Tables.{tables}
use Rattle.ann_element.specs.declared.annotation.Annotation.{Annotation}
use Rattle.ann_element.specs.declared.element.Element.{Element}
use Rattle.ann_element.specs.declared.element.Element.TheVariants as element
use Rattle.ann_lattice.specs.Shape.{Shape, Nothing, shape}
use Rattle.ann_lattice.specs.Laws.{IsFormed, named}
use Rattle.ann_lattice.specs.Assign.{Assignment, at}
use Rattle.ann_lattice.proofs.Ordered.{is_order}
use Rattle.ann_laws.proofs.Pairs.{and_left, and_right, both}
use Rattle.ann_rules.specs.Program.{Whole}
use Rattle.ann_needs.specs.View.{whole, assignment}
use Rattle.ann_needs.specs.declared.state.State.{State}
use Rattle.ann_layout.specs.Layout.{plan, planned}
use Rattle.ann_places.specs.Spots.{spots, start}
use Rattle.ann_least.proofs.Passed.{premises}
use Rattle.ann_read.specs.Sound.{AreSound}
use Rattle.ann_read.specs.Reading.{In, ops_of, gives, first_giving, element_of, element_in, reading, AreApart}
use Rattle.ann_read.proofs.Readings.{is_reading, are_apart, first_is}
use Rattle.ann_read.proofs.Whole as whole_of
use Rattle.ann_read.proofs.Whole.{Premises, in_left, in_right}
use Rattle.typing_laws.specs.Settled.{is_unreached, is_augmented, gives_value, first_reached, result, op_results, ops_results, blocks_results, graphs_results}
use Rattle.typing_laws.specs.Settled.{element_at}
use Rattle.ann_sound.proofs.Callees.{callee_of_function}
use Rattle.ann_sound.proofs.Nodes.{own_nodes}
use Rattle.ann_sound.proofs.Returns.{returns_plainly}
use Rattle.ann_least.proofs.Lowest.{has_graphs, has_ops}
use Rattle.rpy_checked.specs.Settles.{HasTypes}
use Rattle.typing_laws.proofs.Cells.{shape_at, unreached_shape}
use Rattle.check_laws.specs.Trees.{HasTrees, IsAugmented, HasElements}

-- ---- the first that is reached

abbrev Pair_ : Type 0
Pair_ = ℕ × Element

unreached_is : (e : Element) → is_unreached e ≡ true → e ≡ element.Unreached
unreached_is element.Unreached h = refl
unreached_is _ h = absurd (false≢true h)

-- of what holds of each element of a node, and of the one that is unreached, holds of the first
module _ (node : ℕ) (P : Element → Type 0) where
  abbrev Each : List Pair_ → Type 0
  Each [] = Unit {0}
  Each (r ∷ rs) = (r.0 ≡ node → P r.1) × Each rs

  each_append : (rs qs : List Pair_) → Each rs → Each qs → Each (rs ++ qs)
  each_append [] qs h i = i
  each_append (r ∷ rs) qs h i = (h.0, each_append rs qs h.1 i)

  first_holds : (rs : List Pair_) → Each rs → (first_reached node rs ≡ element.Unreached) ⊎ P (first_reached node rs)
  first_holds [] h = inl refl
  first_holds (r ∷ rs) h = by ((r.0 == node) && not (is_unreached r.1)) refl (first_holds rs h.1)
    where
      by : (c : Bool) → ((r.0 == node) && not (is_unreached r.1)) ≡ c → (first_reached node rs ≡ element.Unreached) ⊎ P (first_reached node rs)
          → ((if c then r.1 else first_reached node rs) ≡ element.Unreached) ⊎ P (if c then r.1 else first_reached node rs)
      by true e rest = inr (h.0 (eqb-true r.0 node (and_left (r.0 == node) (not (is_unreached r.1)) e)))
      by false e rest = rest

-- an element that is reached is not passed over
abbrev Some_ : ℕ → List Pair_ → Type 0
Some_ node rs = is_unreached (first_reached node rs) ≡ false

some_here : (node : ℕ) (e : Element) (rs : List Pair_) → is_unreached e ≡ false → Some_ node ((node, e) ∷ rs)
some_here node e rs h =
    subst (λ c. is_unreached (if c then e else first_reached node rs) ≡ false) (sym (both (node == node) (not (is_unreached e)) (eq-eqb node node refl) (ap not h))) h

not_true : (b : Bool) → not b ≡ true → b ≡ false
not_true true h = absurd (false≢true h)
not_true false h = refl

some_later : (node : ℕ) (r : Pair_) (rs : List Pair_) → Some_ node rs → Some_ node (r ∷ rs)
some_later node r rs h = by ((r.0 == node) && not (is_unreached r.1)) refl
  where
    by : (c : Bool) → ((r.0 == node) && not (is_unreached r.1)) ≡ c → is_unreached (if c then r.1 else first_reached node rs) ≡ false
    by true e = not_true (is_unreached r.1) (and_right (r.0 == node) (not (is_unreached r.1)) e)
    by false e = h

some_left : (node : ℕ) (rs qs : List Pair_) → Some_ node rs → Some_ node (rs ++ qs)
some_left node [] qs h = absurd (false≢true (sym h))
some_left node (r ∷ rs) qs h = by ((r.0 == node) && not (is_unreached r.1)) refl h (λ i. some_left node rs qs i)
  where
    by : (c : Bool) → ((r.0 == node) && not (is_unreached r.1)) ≡ c → is_unreached (if c then r.1 else first_reached node rs) ≡ false → (Some_ node rs → Some_ node (rs ++ qs)) → is_unreached (if c then r.1 else first_reached node (rs ++ qs)) ≡ false
    by true e i rest = i
    by false e i rest = rest i

some_right : (node : ℕ) (rs qs : List Pair_) → Some_ node qs → Some_ node (rs ++ qs)
some_right node [] qs h = h
some_right node (r ∷ rs) qs h = some_later node r (rs ++ qs) (some_right node rs qs h)

-- ---- of the graphs

module _ (W : Whole) (s : State) (node : ℕ) where
  op_some : (f : ℕ) (o : Op) → gives_value o ≡ true → o.node ≡ node → is_unreached (result W s f o) ≡ false → Some_ node (op_results W s f o)
  op_some f o value is h = subst (λ (c : Bool). Some_ node (if c then (o.node, result W s f o) ∷ [] else [])) (sym value) (subst (λ i. Some_ node ((i, result W s f o) ∷ [])) (sym is) (some_here node (result W s f o) [] h))

  ops_some : (f : ℕ) (os : List Op) (o : Op) → In os o → gives_value o ≡ true → o.node ≡ node → is_unreached (result W s f o) ≡ false → Some_ node (ops_results W s f os)
  ops_some f [] o i value is h = absurd i
  ops_some f (x ∷ os) o (inl e) value is h = some_left node (op_results W s f x) (ops_results W s f os) (subst (λ (y : Op). Some_ node (op_results W s f y)) (sym e) (op_some f o value is h))
  ops_some f (x ∷ os) o (inr i) value is h = some_right node (op_results W s f x) (ops_results W s f os) (ops_some f os o i value is h)

  in_either : (os qs : List Op) (o : Op) → In (os ++ qs) o → In os o ⊎ In qs o
  in_either [] qs o i = inr i
  in_either (x ∷ os) qs o (inl e) = inl (inl e)
  in_either (x ∷ os) qs o (inr i) = later (in_either os qs o i)
    where
      later : In os o ⊎ In qs o → In (x ∷ os) o ⊎ In qs o
      later (inl j) = inl (inr j)
      later (inr j) = inr j

  blocks_some : (f : ℕ) (bs : List Block) (o : Op) → In (flat_map (λ (b : Block). b.ops) bs) o → gives_value o ≡ true → o.node ≡ node → is_unreached (result W s f o) ≡ false → Some_ node (blocks_results W s f bs)
  blocks_some f [] o i value is h = absurd i
  blocks_some f (b ∷ bs) o i value is h = by (in_either b.ops (flat_map (λ (x : Block). x.ops) bs) o i) (λ j. blocks_some f bs o j value is h)
    where
      by : In b.ops o ⊎ In (flat_map (λ (x : Block). x.ops) bs) o → (In (flat_map (λ (x : Block). x.ops) bs) o → Some_ node (blocks_results W s f bs)) → Some_ node (blocks_results W s f (b ∷ bs))
      by (inl j) rest = some_left node (ops_results W s f b.ops) (blocks_results W s f bs) (ops_some f b.ops o j value is h)
      by (inr j) rest = some_right node (ops_results W s f b.ops) (blocks_results W s f bs) (rest j)

  graphs_some : (n : ℕ) (graphs : List Graph) (f : ℕ) (graph : Graph) (o : Op) → slice_get graphs f ≡ Some graph → In (ops_of graph) o → gives_value o ≡ true → o.node ≡ node → is_unreached (result W s (n + f) o) ≡ false → Some_ node (graphs_results W s n graphs)
  graphs_some n [] f graph o there i value is h = cc
  graphs_some n (x ∷ graphs) zero graph o there i value is h =
      let same : x ≡ graph = cc in
      let z : n + 0 ≡ n = omega arith in
      some_left node (blocks_results W s n x.blocks) (graphs_results W s (suc n) graphs)
      (blocks_some n x.blocks o (subst (λ (y : Graph). In (ops_of y) o) (sym same) i) value is (subst (λ j. is_unreached (result W s j o) ≡ false) z h))
  graphs_some n (x ∷ graphs) (suc f) graph o there i value is h =
      let z : n + suc f ≡ suc n + f = omega arith in
      some_right node (blocks_results W s n x.blocks) (graphs_results W s (suc n) graphs)
      (graphs_some (suc n) graphs f graph o there i value is (subst (λ j. is_unreached (result W s j o) ≡ false) z h))

  -- a property of the results of operations that give the value of the node, unless something else holds
  module _ (A : Type 0) (P : Element → Type 0) where
    abbrev All : List Pair_ → Type 0
    All rs = A ⊎ Each node P rs

    and_all : (rs qs : List Pair_) → All rs → All qs → All (rs ++ qs)
    and_all rs qs (inl a) h = inl a
    and_all rs qs (inr h) (inl a) = inl a
    and_all rs qs (inr h) (inr i) = inr (each_append node P rs qs h i)

    abbrev Of : ℕ → Op → Type 0
    Of f o = gives_value o ≡ true → o.node ≡ node → A ⊎ P (result W s f o)

    op_all : (f : ℕ) (o : Op) → Of f o → All (op_results W s f o)
    op_all f o h = by (gives_value o) refl (o.node == node) refl
      where
        by : (c : Bool) → gives_value o ≡ c → (d : Bool) → (o.node == node) ≡ d → All (if c then (o.node, result W s f o) ∷ [] else [])
        by false e d i = inr tt
        by true e false i = inr ((λ is. absurd (false≢true (sym i ∙ eq-eqb o.node node is))), tt)
        by true e true i = elim (h e (eqb-true o.node node i)) [ inl a ↦ inl a | inr j ↦ inr ((λ is. j), tt) ]

    ops_all : (f : ℕ) (os : List Op) → ((o : Op) → In os o → Of f o) → All (ops_results W s f os)
    ops_all f [] h = inr tt
    ops_all f (o ∷ os) h = and_all (op_results W s f o) (ops_results W s f os) (op_all f o (h o (inl refl))) (ops_all f os (λ q i. h q (inr i)))

    blocks_all : (f : ℕ) (bs : List Block) → ((o : Op) → In (flat_map (λ (b : Block). b.ops) bs) o → Of f o) → All (blocks_results W s f bs)
    blocks_all f [] h = inr tt
    blocks_all f (b ∷ bs) h =
        and_all (ops_results W s f b.ops) (blocks_results W s f bs) (ops_all f b.ops (λ o i. h o (in_left b.ops (flat_map (λ (x : Block). x.ops) bs) o i)))
        (blocks_all f bs (λ o i. h o (in_right b.ops (flat_map (λ (x : Block). x.ops) bs) o i)))

    graphs_all : (n : ℕ) (graphs : List Graph) → ((f : ℕ) (graph : Graph) → slice_get graphs f ≡ Some graph → (o : Op) → In (ops_of graph) o → Of (n + f) o) → All (graphs_results W s n graphs)
    graphs_all n [] h = inr tt
    graphs_all n (x ∷ graphs) h =
        and_all (blocks_results W s n x.blocks) (graphs_results W s (suc n) graphs) (blocks_all n x.blocks (λ o i. subst (λ j. Of j o) (here n) (h 0 x refl o i)))
        (graphs_all (suc n) graphs (λ f g e o i. subst (λ j. Of j o) (next n f) (h (suc f) g e o i)))
      where
        here : (n : ℕ) → n + 0 ≡ n
        here n = omega arith

        next : (n f : ℕ) → n + suc f ≡ suc n + f
        next n f = omega arith

  -- ---- what is read at the node

  -- no graph gives it, or it is that of an operation which gives it
  record Source (w : Assignment) (n : ℕ) (graphs : List Graph) (x : Shape) : Type 0 where
    f : ℕ
    graph : Graph
    o : Op
    there : slice_get graphs f ≡ Some graph
    inside : In (ops_of graph) o
    giving : gives node o ≡ true
    is : x ≡ at w (W.places.variable (n + f) o.result)

  source : (w : Assignment) (n : ℕ) (graphs : List Graph) → (element_in W w node n graphs ≡ Nothing) ⊎ Source w n graphs (element_in W w node n graphs)
  source w n [] = inl refl
  source w n (graph ∷ graphs) = by (first_giving node (ops_of graph)) refl (source w (suc n) graphs)
    where
      by : (o : Option Op) → first_giving node (ops_of graph) ≡ o → (element_in W w node (suc n) graphs ≡ Nothing) ⊎ Source w (suc n) graphs (element_in W w node (suc n) graphs)
          → (element_of W w n o (element_in W w node (suc n) graphs) ≡ Nothing) ⊎ Source w n (graph ∷ graphs) (element_of W w n o (element_in W w node (suc n) graphs))
      by None e (inl h) = inl h
      by None e (inr h) =
          let z : suc n + h.f ≡ n + suc h.f = omega arith in
          inr (record { f = suc h.f; graph = h.graph; o = h.o; there = h.there; inside = h.inside; giving = h.giving; is = h.is ∙ ap (λ i. at w (W.places.variable i h.o.result)) z })
      by (Some o) e rest =
          let found = first_is node (ops_of graph) o e in
          let z : n ≡ n + 0 = omega arith in
          inr (record { f = 0; graph = graph; o = o; there = refl; inside = found.inside; giving = found.giving; is = ap (λ i. at w (W.places.variable i o.result)) z })

-- ---- the whole

module _ (p : Program) (gs : Graphs) (n : Annotation) (types : HasTypes p gs n) (has : HasTrees p gs) where
  abbrev W : Whole
  W = whole (plan p gs (tables p))

  abbrev s : State
  s = types.state

  abbrev w : Assignment
  w = assignment s

  sound : AreSound W (functions_of types.stand.resolved)
  sound = record { callees = callee_of_function p types.stand.resolved types.stand.made gs (tables p); plain = returns_plainly p types.stand.resolved types.stand.made; own = own_nodes p types.stand.resolved types.stand.made has.nodes }

  apart : AreApart W
  apart = are_apart W (functions_of types.stand.resolved) (has_ops p gs types.stand.resolved types.stand.nodes types.covers.0 sound has.classes has.cells has.marks) sound.own

  known : Premises (program_of types.stand.resolved) gs W (functions_of types.stand.resolved) (spots (plan p gs (tables p))) (start (planned p gs (tables p))) (reading W w)
  known =
      premises p gs (tables p) (program_of types.stand.resolved) (functions_of types.stand.resolved) (reading W w)
      (has_graphs p gs types.stand.resolved types.stand.nodes types.covers.0 sound has.classes has.cells has.marks) (types.settled.fits has.classes has.sites) has.classes types.settled.closed.closed types.settled.closed.free (is_reading W w apart)

  module _ (node : ℕ) where
    abbrev x : Shape
    x = (reading W w).element node

    abbrev P : Element → Type 0
    P e = named s.same (shape e) ≡ named s.same x

    -- an operation that gives the value of the node has its element
    valued : (f : ℕ) (graph : Graph) → slice_get gs.graphs f ≡ Some graph → (o : Op) → In (ops_of graph) o → o.value ≡ true → o.node ≡ node → P (result W s f o)
    valued f graph is o i value at_node =
        let a = whole_of.alike (program_of types.stand.resolved) gs W (functions_of types.stand.resolved) (spots (plan p gs (tables p))) (start (planned p gs (tables p))) (reading W w) known f graph is o i value in
        let cell : ℕ = W.places.variable f o.result in
        let formed : IsFormed (at w cell) = (types.settled.fits has.classes has.sites).formed cell in
        let same : named s.same ((reading W w).element o.node) ≡ named s.same (at w cell) = (is_order (tables p).classes has.classes.tree s.same).both ((reading W w).element o.node) (at w cell) a.formed formed a.there a.back in
        ap (named s.same) (shape_at s.cells cell) ∙ (sym same ∙ ap (λ m. named s.same ((reading W w).element m)) at_node)

    or_augmented : (f : ℕ) (graph : Graph) → slice_get gs.graphs f ≡ Some graph → (o : Op) → In (ops_of graph) o → gives_value o ≡ true → o.node ≡ node → IsAugmented gs node ⊎ P (result W s f o)
    or_augmented f graph is o i gives_it at_node = by o.value refl gives_it
      where
        by : (c : Bool) → o.value ≡ c → (c || is_augmented o.op) ≡ true → IsAugmented gs node ⊎ P (result W s f o)
        by true e j = inr (valued f graph is o i e at_node)
        by false e j = inl (f, graph, o, is, i, e, j, at_node)

    abbrev R : List Pair_
    R = graphs_results W s 0 gs.graphs

    all_are : IsAugmented gs node ⊎ Each node P R
    all_are =
        graphs_all W s node (IsAugmented gs node) P 0 gs.graphs (λ f graph is o i gives_it at_node.
        let z : f ≡ 0 + f = omega arith in
        subst (λ j. IsAugmented gs node ⊎ P (result W s j o)) z (or_augmented f graph is o i gives_it at_node))

    or_true : (c : Bool) → c ≡ true → (d : Bool) → (c || d) ≡ true
    or_true true e d = refl
    or_true false e d = absurd (false≢true e)

    -- where the first one is unreached, so is the element that is read
    none_read : first_reached node R ≡ element.Unreached → P element.Unreached
    none_read h = by (source W s node w 0 gs.graphs)
      where
        by : (x ≡ Nothing) ⊎ Source W s node w 0 gs.graphs x → P element.Unreached
        by (inl e) = ap (named s.same) (unreached_shape ∙ sym e)
        by (inr src) = by_result (is_unreached (result W s (0 + src.f) src.o)) refl
          where
            value : src.o.value ≡ true
            value = and_left src.o.value (src.o.node == node) src.giving

            at_node : src.o.node ≡ node
            at_node = eqb-true src.o.node node (and_right src.o.value (src.o.node == node) src.giving)

            by_result : (c : Bool) → is_unreached (result W s (0 + src.f) src.o) ≡ c → P element.Unreached
            by_result true e =
                let cell : ℕ = W.places.variable (0 + src.f) src.o.result in
                let none : result W s (0 + src.f) src.o ≡ element.Unreached = unreached_is (result W s (0 + src.f) src.o) e in
                ap (named s.same) (ap shape (sym none) ∙ (shape_at s.cells cell ∙ sym src.is))
            by_result false e =
                let some = graphs_some W s node 0 gs.graphs src.f src.graph src.o src.there src.inside (or_true src.o.value value (is_augmented src.o.op)) at_node e in
                absurd (false≢true (sym some ∙ ap is_unreached h))

    one_node : node < length n.nodes → (named s.same (shape (element_at n.nodes node)) ≡ named s.same x) ⊎ IsAugmented gs node
    one_node lt = by all_are
      where
        is : element_at n.nodes node ≡ first_reached node R
        is = types.settled.read.1.each node lt

        by : IsAugmented gs node ⊎ Each node P R → (named s.same (shape (element_at n.nodes node)) ≡ named s.same x) ⊎ IsAugmented gs node
        by (inl a) = inr a
        by (inr all) = inl (subst P (sym is) (elim (first_holds node P R all) [ inl e ↦ subst P (sym e) (none_read e) | inr h ↦ h ]))

  pub elements_are : HasElements p gs n s
  elements_are node lt = one_node node lt

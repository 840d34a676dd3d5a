-- An assignment is read by the first operation that gives the value of each node.
use Rattle.std.proofs.Common.{◌≡◌, ◌+◌, ℕ, zero, suc, Bool, true, false, List, [], ◌∷◌, Option, Some, None, ◌⊎◌, inl, inr, refl, sym, ap, ◌∙◌, arith, subst, ◌++◌}
use Rattle.std.specs.Prelude.{slice_get, ◌==◌, if◌then◌else◌}
use Rattle.std.proofs.lemmas.Bool.{eqb-true, eq-eqb}
use Rattle.std.specs.List.{flat_map}
use Rattle.flow_graph.specs.declared.graph.Op.{Op}
use Rattle.flow_graph.specs.declared.graph.Block.{Block}
use Rattle.flow_graph.specs.declared.graph.Graph.{Graph}
use Rattle.flow_trees.specs.Tree.{Function}
use Rattle.flow_trees.specs.Ops.{Property, OfOps, OfBlocks, InFunction}
use Rattle.ann_lattice.specs.Shape.{Shape}
use Rattle.ann_lattice.specs.Assign.{Assignment, at}
use Rattle.ann_laws.proofs.Pairs.{and_left, and_right, both}
use Rattle.ann_rules.specs.Program.{Whole}
use Rattle.ann_read.specs.Reading.{In, ops_of, IsReading, AreApart, gives, first_giving, element_of, element_in, reading, HaveOwnNodes, HasOps}

-- it is one of them, and gives the value
pub record Found (node : ℕ) (os : List Op) (q : Op) : Type 0 where
  pub inside : In os q
  pub giving : gives node q ≡ true

more_found : (node : ℕ) (x : Op) (os : List Op) (q : Op) → Found node os q → Found node (x ∷ os) q
more_found node x os q f = record { inside = inr f.inside; giving = f.giving }

-- there is one where some operation gives the value
first_there : (node : ℕ) (os : List Op) (o : Op) → In os o → gives node o ≡ true → (q : Op) × (first_giving node os ≡ Some q) × Found node os q
first_there node [] o i g = absurd i
first_there node (x ∷ os) o i g = by_test (gives node x) refl (later i (λ j. first_there node os o j g))
  where
    later : In (x ∷ os) o → (In os o → (q : Op) × (first_giving node os ≡ Some q) × Found node os q) → (x ≡ o) ⊎ ((q : Op) × (first_giving node os ≡ Some q) × Found node os q)
    later (inl e) rest = inl e
    later (inr j) rest = inr (rest j)

    by_test : (b : Bool) → gives node x ≡ b → (x ≡ o) ⊎ ((q : Op) × (first_giving node os ≡ Some q) × Found node os q) → (q : Op) × (first_giving node (x ∷ os) ≡ Some q) × Found node (x ∷ os) q
    by_test true e rest = (x, ap (λ b. if b then Some x else first_giving node os) e, record { inside = inl refl; giving = e })
    by_test false e (inl same) = absurd (clash (sym e ∙ ap (λ (y : Op). gives node y) same ∙ g))
      where
        clash : false ≡ true → ⊥
        clash z = cc
    by_test false e (inr r) = (r.0, ap (λ b. if b then Some x else first_giving node os) e ∙ r.1, more_found node x os r.0 r.2)

pub first_is : (node : ℕ) (os : List Op) (q : Op) → first_giving node os ≡ Some q → Found node os q
first_is node [] q e = absurd_of e
  where
    absurd_of : {A : Type 0} → None ≡ Some q → A
    absurd_of z = cc
first_is node (x ∷ os) q e = by_test (gives node x) refl (λ z. first_is node os q z)
  where
    by_test : (b : Bool) → gives node x ≡ b → (first_giving node os ≡ Some q → Found node os q) → Found node (x ∷ os) q
    by_test true t rest =
        let same : Some x ≡ Some q = sym (ap (λ b. if b then Some x else first_giving node os) t) ∙ e in
        let is : x ≡ q = cc in
        record { inside = inl is; giving = subst (λ (y : Op). gives node y ≡ true) is t }
    by_test false t rest = more_found node x os q (rest (sym (ap (λ b. if b then Some x else first_giving node os) t) ∙ e))

module _ (p : Whole) (w : Assignment) (node : ℕ) where
  abbrev Read : ℕ → List Op → Shape → Type 0
  Read f os x = (q : Op) × In os q × (q.value ≡ true) × (q.node ≡ node) × (x ≡ at w (p.places.variable f q.result))

  read_at : (f : ℕ) (os : List Op) (x : Shape) (q : Op) → Found node os q → x ≡ at w (p.places.variable f q.result) → Read f os x
  read_at f os x q found e =
      (q, found.inside, and_left q.value (q.node == node) found.giving, eqb-true q.node node (and_right q.value (q.node == node) found.giving), e)

  reads : (n : ℕ) (graphs : List Graph) (i : ℕ) (graph : Graph) (o : Op) → slice_get graphs i ≡ Some graph → In (ops_of graph) o → gives node o ≡ true
      → ((j : ℕ) (other : Graph) (q : Op) → slice_get graphs j ≡ Some other → In (ops_of other) q → gives node q ≡ true → j ≡ i) → Read (n + i) (ops_of graph) (element_in p w node n graphs)
  reads n [] i graph o is inside g apart = cc
  reads n (x ∷ graphs) zero graph o is inside g apart =
      let same : x ≡ graph = cc in
      let r = first_there node (ops_of graph) o inside g in
      let z : n ≡ n + zero = omega arith in
      let found : first_giving node (ops_of x) ≡ Some r.0 = ap (λ (y : Graph). first_giving node (ops_of y)) same ∙ r.1 in
      read_at (n + zero) (ops_of graph) (element_in p w node n (x ∷ graphs)) r.0 r.2
      (ap (λ t. element_of p w n t (element_in p w node (suc n) graphs)) found ∙ ap (λ (m : ℕ). at w (p.places.variable m r.0.result)) z)
  reads n (x ∷ graphs) (suc i) graph o is inside g apart =
      let z : suc n + i ≡ n + suc i = omega arith in
      subst (λ m. Read m (ops_of graph) (element_in p w node n (x ∷ graphs))) z
      (by_first (first_giving node (ops_of x)) refl
      (reads (suc n) graphs i graph o is inside g (λ j other q there inside2 g2. let e = apart (suc j) other q there inside2 g2 in omega (arith, e))))
    where
      by_first : (t : Option Op) → first_giving node (ops_of x) ≡ t → Read (suc n + i) (ops_of graph) (element_in p w node (suc n) graphs) → Read (suc n + i) (ops_of graph) (element_in p w node n (x ∷ graphs))
      by_first None e r = (r.0, r.1, r.2, r.3, ap (λ t. element_of p w n t (element_in p w node (suc n) graphs)) e ∙ r.4)
      by_first (Some q) e r =
          let found = first_is node (ops_of x) q e in
          let bad : zero ≡ suc i = apart zero x q refl found.inside found.giving in
          absurd (omega (arith, bad))

pub is_reading : (p : Whole) (w : Assignment) → AreApart p → IsReading p (reading p w)
is_reading p w apart = record {
  of_nodes = λ f graph o is inside value.
      let z : zero + f ≡ f = omega arith in
      let g : gives o.node o ≡ true = both o.value (o.node == o.node) value (eq-eqb o.node o.node refl) in
      subst (λ m. Read p w o.node m (ops_of graph) (element_in p w o.node zero p.graphs)) z
      (reads p w o.node zero p.graphs f graph o is inside g
      (λ j other q there inside2 g2.
      apart j f other graph q o there is inside2 inside (and_left q.value (q.node == o.node) g2) value (eqb-true q.node o.node (and_right q.value (q.node == o.node) g2))));
  of_flaws = λ flaw node shown. shown;
}

-- ---- nodes of two functions

in_either : (os qs : List Op) (o : Op) → In (os ++ qs) o → In os o ⊎ In qs o
in_either [] qs o i = inr i
in_either (x ∷ os) qs o (inl e) = inl (inl e)
in_either (x ∷ os) qs o (inr i) = later (in_either os qs o i)
  where
    later : In os o ⊎ In qs o → In (x ∷ os) o ⊎ In qs o
    later (inl j) = inl (inr j)
    later (inr j) = inr j

module _ (P : Property) where
  of_ops : (os : List Op) (o : Op) → OfOps P os → In os o → P o.node o.value o.op
  of_ops [] o h i = absurd i
  of_ops (x ∷ os) o h (inl e) = subst (λ (y : Op). P y.node y.value y.op) e h.0
  of_ops (x ∷ os) o h (inr i) = of_ops os o h.1 i

  of_blocks : (bs : List Block) (o : Op) → OfBlocks P bs → In (flat_map (λ (b : Block). b.ops) bs) o → P o.node o.value o.op
  of_blocks [] o h i = absurd i
  of_blocks (x ∷ bs) o h i = by_side (in_either x.ops (flat_map (λ (b : Block). b.ops) bs) o i) (λ j. of_blocks bs o h.1 j)
    where
      by_side : In x.ops o ⊎ In (flat_map (λ (b : Block). b.ops) bs) o → (In (flat_map (λ (b : Block). b.ops) bs) o → P o.node o.value o.op) → P o.node o.value o.op
      by_side (inl j) rest = of_ops x.ops o h.0 j
      by_side (inr j) rest = rest j

pub are_apart : (p : Whole) (functions : List Function) → HasOps p functions → HaveOwnNodes functions → AreApart p
are_apart p functions has own f g graph other o q is there i j o_value q_value same =
    let one = has.of_graphs f graph is in
    let two = has.of_graphs g other there in
    let P : Function → Property = λ function node value op. InFunction node value op function in
    let mine : InFunction o.node true o.op one.0 = subst (λ b. InFunction o.node b o.op one.0) o_value (of_blocks (P one.0) graph.blocks o one.2 i) in
    let theirs : InFunction q.node true q.op two.0 = subst (λ b. InFunction q.node b q.op two.0) q_value (of_blocks (P two.0) other.blocks q two.2 j) in
    own f g one.0 two.0 o.node o.op q.op one.1 two.1 mine (subst (λ n. InFunction n true q.op two.0) (sym same) theirs)

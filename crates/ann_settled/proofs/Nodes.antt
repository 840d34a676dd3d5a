-- What stands at a node is the first result of its operations that is reached.
use Rattle.std.proofs.Common.{◌≡◌, ◌≢◌, ◌<◌, ◌≤◌, ℕ, zero, suc, Bool, true, false, List, [], ◌∷◌, ◌++◌, length, replicate, slice_set, refl, sym, ap, ◌∙◌, subst, arith}
use Rattle.std.specs.Prelude.{◌==◌, ◌&&◌, not, if◌then◌else◌}
use Rattle.std.proofs.lemmas.List.{length-replicate}
use Rattle.class_desc.proofs.Sums.{next_same, other_is}
use Rattle.flow_graph.specs.declared.graph.Op.{Op}
use Rattle.flow_graph.specs.declared.graph.Block.{Block}
use Rattle.flow_graph.specs.declared.graph.Graph.{Graph}
use Rattle.ann_element.specs.declared.element.Element.{Element}
use Rattle.ann_element.specs.declared.element.Element.TheVariants as element
use Rattle.ann_element.specs.declared.annotation.Annotation.{Annotation}
use Rattle.ann_laws.proofs.Pairs.{no}
use Rattle.ann_rules.specs.Program.{Whole}
use Rattle.ann_needs.specs.View.{whole}
use Rattle.ann_needs.specs.declared.plan.Plan.{Plan}
use Rattle.ann_needs.specs.declared.state.State.{State}
use Rattle.ann_layout.specs.declared.layout.Planned.{Planned}
use Rattle.ann_settled.specs.Read.{element_at, annotation}
use Rattle.ann_settled.specs.Settled.{IsRead}
use Rattle.ann_settled.specs.Nodes as spec
use Rattle.ann_settled.specs.Nodes.{is_unreached, first_reached, put, is_open, AreNodes}

-- ---- one node

pub put_open : (xs : List Element) (n : ℕ) (e : Element) → is_open xs n ≡ true → slice_set xs n e ≡ put xs n e
put_open [] n e h = absurd (no h)
put_open (x ∷ xs) zero e h = ap (λ b. (if b then e else x) ∷ xs) (sym h)
put_open (x ∷ xs) (suc n) e h = ap (λ l. x ∷ l) (put_open xs n e h)

pub put_closed : (xs : List Element) (n : ℕ) (e : Element) → is_open xs n ≡ false → xs ≡ put xs n e
put_closed [] n e h = refl
put_closed (x ∷ xs) zero e h = ap (λ b. (if b then e else x) ∷ xs) (sym h)
put_closed (x ∷ xs) (suc n) e h = ap (λ l. x ∷ l) (put_closed xs n e h)

pub put_past : (xs : List Element) (n : ℕ) (e : Element) → length xs ≤ n → xs ≡ put xs n e
put_past [] n e h = refl
put_past (x ∷ xs) zero e h = absurd (omega (arith, h))
put_past (x ∷ xs) (suc n) e h = ap (λ l. x ∷ l) (put_past xs n e (omega (arith, h)))

length_put : (xs : List Element) (n : ℕ) (e : Element) → length (put xs n e) ≡ length xs
length_put [] n e = refl
length_put (x ∷ xs) zero e = refl
length_put (x ∷ xs) (suc n) e = ap suc (length_put xs n e)

-- the former where it is reached, else the latter
abbrev pick : Element → Element → Element
pick x e = if is_unreached x then e else x

pick_none : (x : Element) → pick x element.Unreached ≡ x
pick_none element.Unreached = refl
pick_none x = refl

pick_on : (x y z : Element) → pick (pick x y) z ≡ pick x (pick y z)
pick_on element.Unreached y z = refl
pick_on x y z = refl

-- another node keeps what it has
elsewhere : (x e : Element) (m n : ℕ) → m ≢ n → x ≡ pick x (if m == n then e else element.Unreached)
elsewhere x e m n apart = sym (ap (λ b. pick x (if b then e else element.Unreached)) (other_is m n apart) ∙ pick_none x)

put_at : (xs : List Element) (m n : ℕ) (e : Element) → n < length xs → element_at (put xs m e) n ≡ pick (element_at xs n) (if m == n then e else element.Unreached)
put_at [] m n e lt = absurd (omega (arith, lt))
put_at (x ∷ xs) zero zero e lt = refl
put_at (x ∷ xs) zero (suc n) e lt = elsewhere (element_at xs n) e zero (suc n) (λ h. omega (arith, h))
put_at (x ∷ xs) (suc m) zero e lt = elsewhere x e (suc m) zero (λ h. omega (arith, h))
put_at (x ∷ xs) (suc m) (suc n) e lt =
    put_at xs m n e (omega (arith, lt)) ∙ ap (λ b. pick (element_at xs n) (if b then e else element.Unreached)) (sym (next_same m n))

-- ---- the first that is reached

one : (b : Bool) (e : Element) → (if b && not (is_unreached e) then e else element.Unreached) ≡ (if b then e else element.Unreached)
one false e = refl
one true element.Unreached = refl
one true e = refl

first_by : (b : Bool) (e f g h : Element) → h ≡ pick f g → (if b && not (is_unreached e) then e else h) ≡ pick (if b && not (is_unreached e) then e else f) g
first_by false e f g h k = k
first_by true element.Unreached f g h k = k
first_by true e f g h k = refl

first_on : (n : ℕ) (xs ys : List (ℕ × Element)) → first_reached n (xs ++ ys) ≡ pick (first_reached n xs) (first_reached n ys)
first_on n [] ys = refl
first_on n (x ∷ xs) ys = first_by (x.0 == n) x.1 (first_reached n xs) (first_reached n ys) (first_reached n (xs ++ ys)) (first_on n xs ys)

-- what stands at a node after some results, and then after others
after_both : (n : ℕ) (a b c : Element) (xs ys : List (ℕ × Element)) → b ≡ pick a (first_reached n xs) → c ≡ pick b (first_reached n ys) → c ≡ pick a (first_reached n (xs ++ ys))
after_both n a b c xs ys e f =
    f ∙ ap (λ x. pick x (first_reached n ys)) e ∙ pick_on a (first_reached n xs) (first_reached n ys) ∙ ap (pick a) (sym (first_on n xs ys))

module _ (p : Whole) (s : State) where
  -- ---- lengths

  length_by : (b : Bool) (nodes : List Element) (n : ℕ) (e : Element) → length (if b then put nodes n e else nodes) ≡ length nodes
  length_by true nodes n e = length_put nodes n e
  length_by false nodes n e = refl

  length_op : (g : ℕ) (o : Op) (nodes : List Element) → length (spec.put_op p s g o nodes) ≡ length nodes
  length_op g o nodes = length_by (spec.gives_value o) nodes o.node (spec.result p s g o)

  length_ops : (g : ℕ) (os : List Op) (nodes : List Element) → length (spec.put_ops p s g os nodes) ≡ length nodes
  length_ops g [] nodes = refl
  length_ops g (o ∷ os) nodes = length_ops g os (spec.put_op p s g o nodes) ∙ length_op g o nodes

  length_blocks : (g : ℕ) (bs : List Block) (nodes : List Element) → length (spec.put_blocks p s g bs nodes) ≡ length nodes
  length_blocks g [] nodes = refl
  length_blocks g (b ∷ bs) nodes = length_blocks g bs (spec.put_ops p s g b.ops nodes) ∙ length_ops g b.ops nodes

  length_graphs : (g : ℕ) (gs : List Graph) (nodes : List Element) → length (spec.put_graphs p s g gs nodes) ≡ length nodes
  length_graphs g [] nodes = refl
  length_graphs g (graph ∷ gs) nodes = length_graphs (suc g) gs (spec.put_blocks p s g graph.blocks nodes) ∙ length_blocks g graph.blocks nodes

  -- ---- elements

  module _ (n : ℕ) where
    at_by : (b : Bool) (nodes : List Element) (m : ℕ) (e : Element) → n < length nodes
        → element_at (if b then put nodes m e else nodes) n ≡ pick (element_at nodes n) (first_reached n (if b then (m, e) ∷ [] else []))
    at_by true nodes m e lt = put_at nodes m n e lt ∙ ap (pick (element_at nodes n)) (sym (one (m == n) e))
    at_by false nodes m e lt = sym (pick_none (element_at nodes n))

    at_op : (g : ℕ) (o : Op) (nodes : List Element) → n < length nodes → element_at (spec.put_op p s g o nodes) n ≡ pick (element_at nodes n) (first_reached n (spec.op_results p s g o))
    at_op g o nodes lt = at_by (spec.gives_value o) nodes o.node (spec.result p s g o) lt

    at_ops : (g : ℕ) (os : List Op) (nodes : List Element) → n < length nodes
        → element_at (spec.put_ops p s g os nodes) n ≡ pick (element_at nodes n) (first_reached n (spec.ops_results p s g os))
    at_ops g [] nodes lt = sym (pick_none (element_at nodes n))
    at_ops g (o ∷ os) nodes lt =
        after_both n (element_at nodes n) (element_at (spec.put_op p s g o nodes) n) (element_at (spec.put_ops p s g (o ∷ os) nodes) n) (spec.op_results p s g o) (spec.ops_results p s g os)
        (at_op g o nodes lt) (at_ops g os (spec.put_op p s g o nodes) (omega (arith, lt, length_op g o nodes)))

    at_blocks : (g : ℕ) (bs : List Block) (nodes : List Element) → n < length nodes
        → element_at (spec.put_blocks p s g bs nodes) n ≡ pick (element_at nodes n) (first_reached n (spec.blocks_results p s g bs))
    at_blocks g [] nodes lt = sym (pick_none (element_at nodes n))
    at_blocks g (b ∷ bs) nodes lt =
        after_both n (element_at nodes n) (element_at (spec.put_ops p s g b.ops nodes) n) (element_at (spec.put_blocks p s g (b ∷ bs) nodes) n)
        (spec.ops_results p s g b.ops) (spec.blocks_results p s g bs)
        (at_ops g b.ops nodes lt) (at_blocks g bs (spec.put_ops p s g b.ops nodes) (omega (arith, lt, length_ops g b.ops nodes)))

    at_graphs : (g : ℕ) (gs : List Graph) (nodes : List Element) → n < length nodes
        → element_at (spec.put_graphs p s g gs nodes) n ≡ pick (element_at nodes n) (first_reached n (spec.graphs_results p s g gs))
    at_graphs g [] nodes lt = sym (pick_none (element_at nodes n))
    at_graphs g (graph ∷ gs) nodes lt =
        after_both n (element_at nodes n) (element_at (spec.put_blocks p s g graph.blocks nodes) n) (element_at (spec.put_graphs p s g (graph ∷ gs) nodes) n)
        (spec.blocks_results p s g graph.blocks) (spec.graphs_results p s (suc g) gs)
        (at_blocks g graph.blocks nodes lt) (at_graphs (suc g) gs (spec.put_blocks p s g graph.blocks nodes) (omega (arith, lt, length_blocks g graph.blocks nodes)))

-- ---- the whole

unreached_at : (count n : ℕ) → element_at (replicate count element.Unreached) n ≡ element.Unreached
unreached_at zero n = refl
unreached_at (suc count) zero = refl
unreached_at (suc count) (suc n) = unreached_at count n

module _ (p : Plan) (s : State) where
  abbrev none : List Element
  none = replicate (length p.places.unbound) element.Unreached

  count_all : length (spec.all p s) ≡ length p.places.unbound
  count_all = length_graphs (whole p) s 0 p.graphs.graphs none ∙ length-replicate (length p.places.unbound) element.Unreached

  all_are : AreNodes p s (spec.all p s)
  all_are = record {
    count = count_all;
    each = λ n lt.
        at_graphs (whole p) s n 0 p.graphs.graphs none (subst (λ k. n < k) (length_graphs (whole p) s 0 p.graphs.graphs none) lt)
        ∙ ap (λ x. pick x (first_reached n (spec.graphs_results (whole p) s 0 p.graphs.graphs))) (unreached_at (length p.places.unbound) n);
  }

  pub are_nodes : (nodes : List Element) → nodes ≡ spec.all p s → AreNodes p s nodes
  are_nodes nodes e = subst (AreNodes p s) (sym e) all_are

pub read_by : (q : Planned) (s : State) (nodes : List Element) (n : Annotation) → n ≡ annotation s q.plan.classes nodes q.plan.places → AreNodes q.plan s nodes → IsRead q s n
read_by q s nodes n e h = subst (IsRead q s) (sym e) (refl, h)

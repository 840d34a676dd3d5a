-- The variables of a node are results of operations that its function's tree has.
use Rattle.std.proofs.Common.{◌≡◌, ◌⊎◌, inl, inr, ℕ, zero, suc, ◌==◌, Bool, true, false, List, [], ◌∷◌, ◌++◌, Option, Some, None, refl, sym, subst}
use Rattle.std.specs.Prelude.{slice_get, if◌then◌else◌}
use Rattle.std.specs.List.{flat_map}
use Rattle.std.proofs.lemmas.Bool.{eqb-true}
use Rattle.rpy_meaning.specs.declared.row.RowOp.{RowOp}
use Rattle.rpy_tree.specs.declared.program.Program.{Program}
use Rattle.flow_graph.specs.declared.graph.Block.{Block}
use Rattle.flow_graph.specs.declared.graph.Graphs.{Graphs}
use Rattle.flow_graph.specs.declared.graph.Op.{Op}
use Rattle.flow_graph.specs.Values.{item, value_of, values_of, values_in, values}
use Rattle.flow_trees.specs.Ops.{Property, OfOps, OfBlocks, InFunction}
use Rattle.flow_space.specs.Placed.{StandFor}
use Rattle.flow_space.specs.Trees.{function_of}
use Rattle.flow_laws.specs.Giving.{Gives}

-- ---- an item of lists one after another is one of them

item_append : (us vs : List ℕ) (i v : ℕ) → item (us ++ vs) i ≡ Some v → ((j : ℕ) × (item us j ≡ Some v)) ⊎ ((j : ℕ) × (item vs j ≡ Some v))
item_append [] vs i v e = inr (i, e)
item_append (u ∷ us) vs zero v e = inl (zero, e)
item_append (u ∷ us) vs (suc i) v e = further (item_append us vs i v e)
  where
    further : ((j : ℕ) × (item us j ≡ Some v)) ⊎ ((j : ℕ) × (item vs j ≡ Some v)) → ((j : ℕ) × (item (u ∷ us) j ≡ Some v)) ⊎ ((j : ℕ) × (item vs j ≡ Some v))
    further (inl h) = inl (suc h.0, h.1)
    further (inr h) = inr h

abbrev IsIn : {A : Type 0} → (A → List ℕ) → List A → ℕ → Type 0
IsIn {A} h xs v = (k j : ℕ) × (x : A) × (slice_get xs k ≡ Some x) × (item (h x) j ≡ Some v)

in_rest : {A : Type 0} (h : A → List ℕ) (x : A) (xs : List A) (v : ℕ) → ((i : ℕ) → item (flat_map h xs) i ≡ Some v → IsIn h xs v)
    → ((j : ℕ) × (item (h x) j ≡ Some v)) ⊎ ((j : ℕ) × (item (flat_map h xs) j ≡ Some v)) → IsIn h (x ∷ xs) v
in_rest h x xs v rest (inl e) = (zero, e.0, x, refl, e.1)
in_rest h x xs v rest (inr e) = let r = rest e.0 e.1 in (suc r.0, r.1, r.2, r.3, r.4)

in_flat : {A : Type 0} (h : A → List ℕ) (xs : List A) (i v : ℕ) → item (flat_map h xs) i ≡ Some v → IsIn h xs v
in_flat h [] i v e = absurd (cc e)
in_flat h (x ∷ xs) i v e = in_rest h x xs v (λ j k. in_flat h xs j v k) (item_append (h x) (flat_map h xs) i v e)

-- ---- an operation

of_value : (b c : Bool) (result j v : ℕ) → item (if b then (if c then result ∷ [] else []) else []) j ≡ Some v → (b ≡ true) × (c ≡ true) × (result ≡ v)
of_value true true result zero v e = let same : result ≡ v = cc in (refl, refl, same)
of_value true true result (suc j) v e = absurd (cc e)
of_value true false result j v e = absurd (cc e)
of_value false c result j v e = absurd (cc e)

op_of : (P : Property) (ops : List Op) (k : ℕ) (op : Op) → OfOps P ops → slice_get ops k ≡ Some op → P op.node op.value op.op
op_of P [] k op all e = absurd (cc e)
op_of P (x ∷ ops) zero op all e = let same : x ≡ op = cc in subst (λ (o : Op). P o.node o.value o.op) same all.0
op_of P (x ∷ ops) (suc k) op all e = op_of P ops k op all.1 e

ops_of : (P : Property) (blocks : List Block) (k : ℕ) (block : Block) → OfBlocks P blocks → slice_get blocks k ≡ Some block → OfOps P block.ops
ops_of P [] k block all e = absurd (cc e)
ops_of P (x ∷ blocks) zero block all e = let same : x ≡ block = cc in subst (λ (b : Block). OfOps P b.ops) same all.0
ops_of P (x ∷ blocks) (suc k) block all e = ops_of P blocks k block all.1 e

pub given : (p : Program) (gs : Graphs) (stand : StandFor p gs) (node i v : ℕ) → item (values node gs) i ≡ Some v → Gives stand.resolved gs node v
given p gs stand node i v e =
    let g = in_flat (values_in node) gs.graphs i v e in
    let b = in_flat (values_of node) g.2.blocks g.1 v g.4 in
    let o = in_flat (value_of node) b.2.ops b.1 v b.4 in
    let op = o.2 in
    let k = of_value op.value (op.node == node) op.result o.1 v o.4 in
    let of = stand.nodes.only g.0 g.2 g.3 in
    let P : Property = λ x g w. InFunction x g w (function_of stand.resolved.sites of.0) in
    let has = op_of P b.2.ops o.0 op (ops_of P g.2.blocks b.0 b.2 of.2 b.3) o.3 in
    record {
      number = g.0;
      function = of.0;
      graph = g.2;
      of_function = of.1;
      of_graph = g.3;
      place = b.0;
      block = b.2;
      of_block = b.3;
      turn = o.0;
      op = op;
      of_op = o.3;
      is_result = k.2;
      in_tree = subst (λ n. InFunction n true op.op (function_of stand.resolved.sites of.0)) (eqb-true op.node node k.1)
          (subst (λ g. InFunction op.node g op.op (function_of stand.resolved.sites of.0)) k.0 has);
    }

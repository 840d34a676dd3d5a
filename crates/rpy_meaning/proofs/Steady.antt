-- With more steps each operation answers the same, unless it lacked steps.
use Rattle.std.proofs.Common.{◌≡◌, ℕ, ◌+◌, ◌-◌, ◌≤◌, List, [], ◌∷◌, ◌++◌, Bool, true, false, refl, sym, ap, ◌∙◌, subst, arith}
use Rattle.std.specs.Prelude.{length, nat_lt, if◌then◌else◌}
use Rattle.std.proofs.lemmas.Bool.{ltb-false, le-ltb}
use Rattle.rpy_tree.specs.Value.{Value, Ref, Object, Heap}
use Rattle.rpy_meaning.specs.declared.row.Covers.{Covers}
use Rattle.rpy_meaning.specs.declared.row.RowOp.{RowOp}
use Rattle.rpy_meaning.specs.Tree.{Program}
use Rattle.rpy_meaning.specs.Laws.{with_more, SameWithMore, IsSteady}
use Rattle.rpy_meaning.specs.World.{World, Op, Lacks, give, paying, new_object, set_object}
use Rattle.rpy_meaning.specs.Operations.{op}
use Rattle.rpy_meaning.proofs.Closed.{Closed, op_ok}

-- no more steps are none
pub none_more : (w : World) → with_more 0 w ≡ w
none_more w = ap (λ n. record w { left = n }) (omega arith)

-- in worlds with this heap
record SteadyAt (heap : Heap) (o : Op) : Type 0 where
  law : (k : ℕ) (w : World) → w.heap ≡ heap → SameWithMore k (o w) (o (with_more k w))

paid_more : (heap : Heap) (cost : ℕ) (go : Op) → SteadyAt heap go → (k : ℕ) (w : World) → w.heap ≡ heap → (b : Bool) → nat_lt w.left cost ≡ b
    → SameWithMore k (if b then Lacks else go (record w { left = w.left - cost })) (paying cost go (with_more k w))
paid_more heap cost go h k w z true e = λ zero.
    subst (λ k. paying cost go (with_more k w) ≡ Lacks) (sym zero)
    (ap (paying cost go) (none_more w) ∙ ap (λ b. if b then Lacks else go (record w { left = w.left - cost })) e)
paid_more heap cost go h k w z false e =
    let c : cost ≤ w.left = ltb-false w.left cost e in
    let d : nat_lt (w.left + k) cost ≡ false = le-ltb (w.left + k) cost (omega (arith, c)) in
    let f : (w.left - cost) + k ≡ (w.left + k) - cost = omega (arith, c) in
    subst (λ b. SameWithMore k (go (record w { left = w.left - cost })) (if b then Lacks else go (record w { left = (w.left + k) - cost }))) (sym d)
    (subst (λ n. SameWithMore k (go (record w { left = w.left - cost })) (go (record w { left = n }))) f (h.law k (record w { left = w.left - cost }) z))

pay_steady : (heap : Heap) (cost : ℕ) (go : Op) → SteadyAt heap go → SteadyAt heap (paying cost go)
pay_steady heap cost go h = record { law = λ k w z. paid_more heap cost go h k w z (nat_lt w.left cost) refl }

set_steady : (heap : Heap) (r : ℕ) (n : Object) (v : Value) → SteadyAt heap (set_object r n v)
set_steady heap r n v = record { law = λ k w z. refl }

give_steady : (heap : Heap) (v : Value) → SteadyAt heap (give v)
give_steady heap v = record { law = λ k w z. refl }

make_steady : (heap : Heap) (o : Object) (f : Value → Op) → ((other : Heap) (v : Value) → SteadyAt other (f v)) → SteadyAt heap (λ w. f (Ref (length w.heap)) (record w { heap = w.heap ++ o ∷ [] }))
make_steady heap o f h = record { law = λ k w z. (h (w.heap ++ o ∷ []) (Ref (length w.heap))).law k (record w { heap = w.heap ++ o ∷ [] }) refl }

all_steady : Closed SteadyAt
all_steady = record {
  bad_in = λ heap. record { law = λ k w z. refl };
  give_in = give_steady;
  throw_in = λ heap r. record { law = λ k w z. refl };
  fail_in = λ heap name. record { law = λ k w z. refl };
  enter_in = λ heap f args instead. record { law = λ k w z. refl };
  write_in = λ heap text v. record { law = λ k w z. refl };
  set_in = λ heap r o n v e le. set_steady heap r n v;
  grow_in = λ heap cost r o n v e le. pay_steady heap cost (set_object r n v) (set_steady heap r n v);
  new_in = λ heap cost o le. pay_steady heap cost (new_object o) (make_steady heap o give give_steady);
  make_in = λ heap o f z h. make_steady heap o f h;
  pay_in = pay_steady;
  look_in = λ heap f h. record { law = λ k w z. subst (λ x. SameWithMore k (f x w) (f x (with_more k w))) (sym z) (h.law k w z) };
}

pub steady : (p : Program) (c : Covers) (o : RowOp) (vs : List Value) → IsSteady (op p c o vs)
steady p c o vs = record { law = λ k w. (op_ok SteadyAt all_steady w.heap p c o vs).law k w refl }

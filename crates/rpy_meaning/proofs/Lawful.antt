-- Each operation is lawful.
use Rattle.std.proofs.Common.{◌≡◌, ℕ, ◌-◌, List, [], ◌∷◌, ◌++◌, Bool, true, false, refl, sym, subst, arith}
use Rattle.std.specs.Prelude.{length, nat_lt, if◌then◌else◌}
use Rattle.std.proofs.Math.Nat.{le_refl}
use Rattle.std.proofs.lemmas.List.{length-set}
use Rattle.std.proofs.Math.ListN.{length-append}
use Rattle.rpy_tree.specs.Value.{Value, Ref, Object, Heap}
use Rattle.rpy_meaning.specs.declared.row.Covers.{Covers}
use Rattle.rpy_meaning.specs.declared.row.RowOp.{RowOp}
use Rattle.rpy_meaning.specs.Tree.{Program}
use Rattle.rpy_meaning.specs.Laws.{IsLater, OnLater, IsLawful}
use Rattle.rpy_meaning.specs.World.{World, Op, Answer, Gives, Throws, Fails, Lacks, Enters, Bad, give, paying, new_object, set_object}
use Rattle.rpy_meaning.specs.Operations.{op}
use Rattle.rpy_meaning.proofs.Closed.{Closed, op_ok}

same : (w : World) → IsLater w w
same w = record { steps = le_refl w.left; objects = le_refl (length w.heap) }

later_on : (w u : World) (a : Answer) → IsLater w u → OnLater u a → OnLater w a
later_on w u (Gives v x) e l = record { steps = omega (arith, e.steps, l.steps); objects = omega (arith, e.objects, l.objects) }
later_on w u (Throws r x) e l = record { steps = omega (arith, e.steps, l.steps); objects = omega (arith, e.objects, l.objects) }
later_on w u (Enters f args instead x) e l = record { steps = omega (arith, e.steps, l.steps); objects = omega (arith, e.objects, l.objects) }
later_on w u (Fails name) e l = tt
later_on w u Lacks e l = tt
later_on w u Bad e l = tt

-- in worlds with this heap
record LawfulAt (heap : Heap) (o : Op) : Type 0 where
  law : (w : World) → w.heap ≡ heap → OnLater w (o w)

set_lawful : (heap : Heap) (r : ℕ) (n : Object) (v : Value) → LawfulAt heap (set_object r n v)
set_lawful heap r n v = record { law = λ w e. record { steps = le_refl w.left; objects = rw (length-set w.heap r n) (le_refl (length w.heap)) } }

pay_lawful : (heap : Heap) (cost : ℕ) (go : Op) → LawfulAt heap go → LawfulAt heap (paying cost go)
pay_lawful heap cost go h = record { law = λ w e. paid w e (nat_lt w.left cost) }
  where
    paid : (w : World) → w.heap ≡ heap → (b : Bool) → OnLater w (if b then Lacks else go (record w { left = w.left - cost }))
    paid w e true = tt
    paid w e false =
        later_on w (record w { left = w.left - cost }) (go (record w { left = w.left - cost })) (record { steps = omega arith; objects = le_refl (length w.heap) }) (h.law (record w { left = w.left - cost }) e)

give_lawful : (heap : Heap) (v : Value) → LawfulAt heap (give v)
give_lawful heap v = record { law = λ w e. same w }

make_lawful : (heap : Heap) (o : Object) (f : Value → Op) → ((other : Heap) (v : Value) → LawfulAt other (f v)) → LawfulAt heap (λ w. f (Ref (length w.heap)) (record w { heap = w.heap ++ o ∷ [] }))
make_lawful heap o f h = record {
  law = λ w e.
      let u : World = record w { heap = w.heap ++ o ∷ [] } in
      later_on w u (f (Ref (length w.heap)) u) (record { steps = le_refl w.left; objects = rw (length-append w.heap (o ∷ [])) (omega arith) }) ((h (w.heap ++ o ∷ []) (Ref (length w.heap))).law u refl);
}

all_lawful : Closed LawfulAt
all_lawful = record {
  bad_in = λ heap. record { law = λ w e. tt };
  give_in = give_lawful;
  throw_in = λ heap r. record { law = λ w e. same w };
  fail_in = λ heap name. record { law = λ w e. tt };
  enter_in = λ heap f args instead. record { law = λ w e. same w };
  write_in = λ heap text v. record { law = λ w e. record { steps = le_refl w.left; objects = le_refl (length w.heap) } };
  set_in = λ heap r o n v e le. set_lawful heap r n v;
  grow_in = λ heap cost r o n v e le. pay_lawful heap cost (set_object r n v) (set_lawful heap r n v);
  new_in = λ heap cost o le. pay_lawful heap cost (new_object o) (make_lawful heap o give give_lawful);
  make_in = λ heap o f z h. make_lawful heap o f h;
  pay_in = pay_lawful;
  look_in = λ heap f h. record { law = λ w e. subst (λ x. OnLater w (f x w)) (sym e) (h.law w e) };
}

pub lawful : (p : Program) (c : Covers) (o : RowOp) (vs : List Value) → IsLawful (op p c o vs)
lawful p c o vs = record { law = λ w. (op_ok LawfulAt all_lawful w.heap p c o vs).law w refl }

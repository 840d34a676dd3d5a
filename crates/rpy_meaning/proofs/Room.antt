-- What lists and dicts grow by is paid.
use Rattle.std.proofs.Common.{◌≡◌, ℕ, zero, suc, ◌+◌, ◌-◌, ◌≤◌, List, [], ◌∷◌, ◌++◌, Bool, true, false, Some, refl, sym, ap, ◌∙◌, subst, arith, length, ◌⊎◌, inl, inr}
use Rattle.std.specs.Prelude.{nat_lt, slice_get, slice_set, if◌then◌else◌}
use Rattle.std.proofs.lemmas.Bool.{ltb-false}
use Rattle.rpy_tree.specs.Value.{Value, Ref, Object, Heap}
use Rattle.rpy_meaning.specs.declared.row.Covers.{Covers}
use Rattle.rpy_meaning.specs.declared.row.RowOp.{RowOp}
use Rattle.rpy_meaning.specs.Tree.{Program}
use Rattle.rpy_meaning.specs.World.{World, Op, Lacks, paying, new_object, set_object}
use Rattle.rpy_meaning.specs.Laws.{size, size_at, HasRoom, OnRoom, KeepsRoom}
use Rattle.rpy_meaning.specs.Operations.{op}
use Rattle.rpy_meaning.proofs.Closed.{Closed, op_ok}

-- in worlds with this heap
record RoomAt (heap : Heap) (o : Op) : Type 0 where
  law : (most : ℕ) (w : World) → w.heap ≡ heap → HasRoom most w → OnRoom most (o w)

-- the size at a place is what it was, or this one
abbrev OldOrNew : (old new this : ℕ) → Type 0
OldOrNew old new this = (new ≡ old) ⊎ (new ≡ this)

set_at : (heap : Heap) (r i : ℕ) (n : Object) → OldOrNew (size_at (slice_get heap i)) (size_at (slice_get (slice_set heap r n) i)) (size n)
set_at [] r i n = inl refl
set_at (x ∷ heap) zero zero n = inr refl
set_at (x ∷ heap) zero (suc i) n = inl refl
set_at (x ∷ heap) (suc r) zero n = inl refl
set_at (x ∷ heap) (suc r) (suc i) n = set_at heap r i n

-- an object behind the others
new_at : (heap : Heap) (o : Object) (i : ℕ) → OldOrNew (size_at (slice_get heap i)) (size_at (slice_get (heap ++ o ∷ []) i)) (size o)
new_at [] o zero = inr refl
new_at [] o (suc i) = inl refl
new_at (x ∷ heap) o zero = inl refl
new_at (x ∷ heap) o (suc i) = new_at heap o i

-- with no more steps left there is room for each of the two
has_room : (most low high old new this : ℕ) → low ≤ high → OldOrNew old new this → old + high ≤ most → this + low ≤ most → new + low ≤ most
has_room most low high old new this le (inl e) f g = omega (arith, e, le, f)
has_room most low high old new this le (inr e) f g = omega (arith, e, g)

left_fits : (most : ℕ) (w : World) → HasRoom most w → w.left ≤ most
left_fits most w h = let x = h 0 in omega (arith, x)

object_fits : (most r : ℕ) (w : World) (o : Object) → HasRoom most w → slice_get w.heap r ≡ Some o → size o + w.left ≤ most
object_fits most r w o h e = subst (λ x. size_at x + w.left ≤ most) e (h r)

set_room : (most r : ℕ) (w : World) (o n : Object) (left : ℕ) → HasRoom most w → slice_get w.heap r ≡ Some o → left ≤ w.left → size n + left ≤ size o + w.left
    → HasRoom most (record w { heap = slice_set w.heap r n; left = left })
set_room most r w o n left h e le fits i =
    let x = object_fits most r w o h e in
    has_room most left w.left (size_at (slice_get w.heap i)) (size_at (slice_get (slice_set w.heap r n) i)) (size n) le (set_at w.heap r i n) (h i) (omega (arith, fits, x))

new_room : (most : ℕ) (w : World) (o : Object) (left : ℕ) → HasRoom most w → left ≤ w.left → size o + left ≤ w.left → HasRoom most (record w { heap = w.heap ++ o ∷ []; left = left })
new_room most w o left h le fits i =
    let x = left_fits most w h in
    has_room most left w.left (size_at (slice_get w.heap i)) (size_at (slice_get (w.heap ++ o ∷ []) i)) (size o) le (new_at w.heap o i) (h i) (omega (arith, fits, x))

less_room : (most cost : ℕ) (w : World) → HasRoom most w → HasRoom most (record w { left = w.left - cost })
less_room most cost w h i = let x = h i in omega (arith, x)

-- either way at a cost
paid_room : (most cost : ℕ) (w : World) (go : Op) (b : Bool) → nat_lt w.left cost ≡ b → (cost ≤ w.left → OnRoom most (go (record w { left = w.left - cost })))
    → OnRoom most (if b then Lacks else go (record w { left = w.left - cost }))
paid_room most cost w go true e h = tt
paid_room most cost w go false e h = h (ltb-false w.left cost e)

grow_room : (heap : Heap) (cost r : ℕ) (o n : Object) (v : Value) → slice_get heap r ≡ Some o → size n ≤ cost + size o → RoomAt heap (paying cost (set_object r n v))
grow_room heap cost r o n v e le = record {
  law = λ most w z h.
      let f : slice_get w.heap r ≡ Some o = ap (λ x. slice_get x r) z ∙ e in
      paid_room most cost w (set_object r n v) (nat_lt w.left cost) refl (λ c. set_room most r w o n (w.left - cost) h f (omega arith) (omega (arith, c, le)));
}

all_room : Closed RoomAt
all_room = record {
  bad_in = λ heap. record { law = λ most w z h. tt };
  give_in = λ heap v. record { law = λ most w z h. h };
  throw_in = λ heap r. record { law = λ most w z h. h };
  fail_in = λ heap name. record { law = λ most w z h. tt };
  enter_in = λ heap f args instead. record { law = λ most w z h. h };
  write_in = λ heap text v. record { law = λ most w z h. h };
  set_in = λ heap r o n v e le. record { law = λ most w z h. set_room most r w o n w.left h (ap (λ x. slice_get x r) z ∙ e) (omega arith) (omega (arith, le)) };
  grow_in = grow_room;
  new_in = λ heap cost o le. record {
    law = λ most w z h. paid_room most cost w (new_object o) (nat_lt w.left cost) refl (λ c. new_room most w o (w.left - cost) h (omega arith) (omega (arith, c, le)));
  };
  make_in = λ heap o f e g. record {
    law = λ most w z h.
        (g (w.heap ++ o ∷ []) (Ref (length w.heap))).law most (record w { heap = w.heap ++ o ∷ [] }) refl (new_room most w o w.left h (omega arith) (omega (arith, e)));
  };
  pay_in = λ heap cost go g. record {
    law = λ most w z h. paid_room most cost w go (nat_lt w.left cost) refl (λ c. g.law most (record w { left = w.left - cost }) z (less_room most cost w h));
  };
  look_in = λ heap f g. record { law = λ most w z h. subst (λ x. OnRoom most (f x w)) (sym z) (g.law most w z h) };
}

pub keeps_room : (p : Program) (c : Covers) (o : RowOp) (vs : List Value) → KeepsRoom (op p c o vs)
keeps_room p c o vs most w h = (op_ok RoomAt all_room w.heap p c o vs).law most w refl h

-- Counts of blocks that change.
use Rattle.std.proofs.Common.{◌≡◌, ◌≢◌, ℕ, zero, suc, ◌+◌, ◌<◌, List, [], ◌∷◌, ◌++◌, length, refl, ap, arith}
use Rattle.std.specs.Prelude.{slice_set}
use Rattle.csub_tree.specs.State.{Value}
use Rattle.refcount_laws.specs.Graphs.{Counts}
use Rattle.refcount_laws.specs.Ghost.{one, occurs, Slot, S, count_of, slot_at, count, held_by, inner, size_of, weight}

pub one_self : (a : ℕ) → one a a ≡ 1
one_self zero = refl
one_self (suc a) = one_self a

pub one_other : (a b : ℕ) → a ≢ b → one a b ≡ 0
one_other zero zero ne = absurd (ne refl)
one_other zero (suc b) ne = refl
one_other (suc a) zero ne = refl
one_other (suc a) (suc b) ne = one_other a b (λ e. ne (ap suc e))

pub occurs_both : (r : Value) (xs ys : List Value) → occurs r (xs ++ ys) ≡ occurs r xs + occurs r ys
occurs_both r [] ys = omega arith
occurs_both r (x ∷ xs) ys = omega (arith, occurs_both r xs ys)

-- a block that is there
pub record There (g : List Slot) (a : ℕ) : Type 0 where
  pub n : ℕ
  pub kind : ℕ
  pub fields : List Value
  pub items : List Value
  pub is : slot_at g a ≡ S (suc n) kind fields items

there_of : (g : List Slot) (a : ℕ) (d : Slot) → slot_at g a ≡ d → 0 < count_of d → There g a
there_of g a (S zero kind fields items) e h = absurd (omega arith)
there_of g a (S (suc n) kind fields items) e h = record { n = n; kind = kind; fields = fields; items = items; is = e }

pub there : (g : List Slot) (a : ℕ) → 0 < count g a → There g a
there g a h = there_of g a (slot_at g a) refl h

pub inside : (g : List Slot) (a : ℕ) → 0 < count g a → a < length g
inside [] a h = absurd (omega arith)
inside (x ∷ g) zero h = omega arith
inside (x ∷ g) (suc a) h = omega (arith, inside g a h)

pub set_down : (g : List Slot) (a : ℕ) (d : Slot) → count g a ≡ suc (count_of d) → (b : ℕ) → count g b ≡ count (slice_set g a d) b + one a b
set_down [] a d e b = absurd (omega (arith, e))
set_down (x ∷ g) zero d e zero = omega (arith, e)
set_down (x ∷ g) zero d e (suc b) = omega arith
set_down (x ∷ g) (suc a) d e zero = omega arith
set_down (x ∷ g) (suc a) d e (suc b) = set_down g a d e b

pub set_up : (g : List Slot) (a : ℕ) (d : Slot) → 0 < count g a → count_of d ≡ suc (count g a) → (b : ℕ) → count (slice_set g a d) b ≡ count g b + one a b
set_up [] a d h e b = absurd (omega arith)
set_up (x ∷ g) zero d h e zero = omega (arith, e)
set_up (x ∷ g) zero d h e (suc b) = omega arith
set_up (x ∷ g) (suc a) d h e zero = omega arith
set_up (x ∷ g) (suc a) d h e (suc b) = set_up g a d h e b

module _ (c : Counts) where
  pub set_inner : (g : List Slot) (a : ℕ) (d : Slot) → 0 < count g a → (r : Value) → inner c (slice_set g a d) r + held_by c (slot_at g a) r ≡ inner c g r + held_by c d r
  set_inner [] a d h r = absurd (omega arith)
  set_inner (x ∷ g) zero d h r = omega arith
  set_inner (x ∷ g) (suc a) d h r = omega (arith, set_inner g a d h r)

  pub set_weight : (g : List Slot) (a : ℕ) (d : Slot) → 0 < count g a → weight c (slice_set g a d) + size_of c (slot_at g a) ≡ weight c g + size_of c d
  set_weight [] a d h = absurd (omega arith)
  set_weight (x ∷ g) zero d h = omega arith
  set_weight (x ∷ g) (suc a) d h = omega (arith, set_weight g a d h)

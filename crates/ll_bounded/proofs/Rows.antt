-- A list that has itself and a string as its items, in three blocks: its own two, and that of the string.
use Rattle.std.proofs.Common.{◌≡◌, ◌<◌, ◌≤◌, ◌⊎◌, inl, inr, ℕ, zero, suc, List, [], ◌∷◌, length, Some, Option, pos, refl, sym, subst, arith}
use Rattle.csub_tree.specs.State.{Value, Word, Byte, Ptr, Block}
use Rattle.rpy_tree.specs.Value.{Value as Meant, Text, Ref, Heap, Listed}
use Rattle.rpy_tree.specs.Held.{values_at}
use Rattle.rpy_meaning.specs.Moments.{held}
use Rattle.ll_held.specs.Held.{times, Refers}
use Rattle.ll_held.proofs.Keeping.{at_head}
use Rattle.ll_bounded.specs.Represents.{IsIn, Stands, string, object, AllStand, nil, cons, Represents}

heap : Heap
heap = Listed (Ref 0 ∷ Text (97 ∷ []) ∷ []) ∷ []

blocks : List (Option Block)
blocks =
    Some (record { kind = 1; fields = Word (pos 2) ∷ Ptr 1 ∷ []; items = [] })
    ∷ Some (record { kind = 2; fields = Word (pos 2) ∷ []; items = Ptr 0 ∷ Ptr 2 ∷ [] })
    ∷ Some (record { kind = 0; fields = Word (pos 1) ∷ []; items = Byte 97 ∷ [] }) ∷ []

own : ℕ → List ℕ
own zero = 0 ∷ 1 ∷ []
own (suc i) = []

kept : ℕ → List Value
kept zero = Ptr 0 ∷ Ptr 2 ∷ []
kept (suc i) = []

-- the first block of the list leads on to the second
rank : ℕ → ℕ
rank zero = 1
rank (suc b) = 0

-- two are held: the list and the string
row : held 0 (Ref 0 ∷ []) heap ≡ 2
unfolding heap
row = refl

no_owner : (b i : ℕ) → IsIn (suc (suc b)) (own i) → ⊥
unfolding own
no_owner b zero (inl e) = omega (arith, e)
no_owner b zero (inr (inl e)) = omega (arith, e)
no_owner b zero (inr (inr h)) = h
no_owner b (suc i) h = h

quiet : (c : ℕ) → Refers blocks 2 c → ⊥
unfolding blocks
quiet c h = omega (arith, h)

represents : Represents 0 heap blocks own kept rank
unfolding heap blocks own kept rank
represents = record {
  few = few;
  apart = apart;
  none = λ b i h. omega arith;
  there = there;
  stand = stand;
  from = from;
  to = to;
}
  where
    few : (i : ℕ) → length (own i) ≤ 3
    few zero = omega arith
    few (suc i) = omega arith

    apart : (b i j : ℕ) → IsIn b (own i) → IsIn b (own j) → i ≡ j
    apart b zero zero h k = refl
    apart b zero (suc j) h k = absurd k
    apart b (suc i) j h k = absurd h

    there : (b i : ℕ) → IsIn b (own i) → i < length heap
    there b zero h = omega arith
    there b (suc i) h = absurd h

    item : Stands blocks own (Ptr 2) (Text (97 ∷ []))
    item = string (no_owner 0) quiet

    stand : (i : ℕ) → AllStand blocks own (kept i) (values_at heap i)
    stand zero = cons (object (inl refl)) (cons item nil)
    stand (suc i) = nil

    nothing : (c : ℕ) → 0 < times c [] → ⊥
    nothing c h = omega (arith, h)

    to_array : (c : ℕ) → (Ptr 1 ≡ Ptr c) ⊎ (0 < times c []) → c ≡ 1
    to_array c (inl e) = cc
    to_array c (inr h) = absurd (nothing c h)

    to_item : (c : ℕ) → (Ptr 2 ≡ Ptr c) ⊎ (0 < times c []) → c ≡ 2
    to_item c (inl e) = cc
    to_item c (inr h) = absurd (nothing c h)

    to_items : (c : ℕ) → (Ptr 0 ≡ Ptr c) ⊎ (0 < times c (Ptr 2 ∷ [])) → (c ≡ 0) ⊎ (c ≡ 2)
    to_items c (inl e) = inl (cc)
    to_items c (inr h) = inr (to_item c (at_head c (Ptr 2) [] h))

    from_head : (c : ℕ) → Refers blocks 0 c → c ≡ 1
    from_head c h = to_array c (at_head c (Ptr 1) [] h)

    from_array : (c : ℕ) → Refers blocks 1 c → (c ≡ 0) ⊎ (c ≡ 2)
    from_array c h = to_items c (at_head c (Ptr 0) (Ptr 2 ∷ []) h)

    low : (c : ℕ) → c ≡ 1 → IsIn c (own 0) × (rank c < rank 0)
    low c e = (inr (inl e), subst (λ k. rank k < rank 0) (sym e) (omega arith))

    from : (i b c : ℕ) → IsIn b (own i) → Refers blocks b c → (IsIn c (own i) × (rank c < rank b)) ⊎ (0 < times c (kept i))
    from (suc i) b c h k = absurd h
    from zero b c (inl e) k = inl (subst (λ b. IsIn c (own 0) × (rank c < rank b)) (sym e) (low c (from_head c (subst (λ b. Refers blocks b c) e k))))
    from zero b c (inr (inl e)) k = inr (subst (λ b. Refers blocks b c) e k)
    from zero b c (inr (inr h)) k = absurd h

    owned : (b : ℕ) → (b ≡ 0) ⊎ (b ≡ 2) → ((i : ℕ) × IsIn b (own i)) ⊎ ((v : Meant) × Stands blocks own (Ptr b) v)
    owned b (inl e) = inl (0, inl e)
    owned b (inr e) = inr (Text (97 ∷ []), subst (λ b. Stands blocks own (Ptr b) (Text (97 ∷ []))) (sym e) item)

    to : (a b : ℕ) → Refers blocks a b → ((i : ℕ) × IsIn b (own i)) ⊎ ((v : Meant) × Stands blocks own (Ptr b) v)
    to zero b h = inl (0, inr (inl (from_head b h)))
    to (suc zero) b h = owned b (from_array b h)
    to (suc (suc zero)) b h = absurd (quiet b h)
    to (suc (suc (suc a))) b h = absurd (omega (arith, h))

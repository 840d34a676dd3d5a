-- Masks of one less than a power of two, and lengths that are doubled.
use Rattle.std.proofs.Common.{◌≡◌, ◌≢◌, ◌⊎◌, inl, inr, ℕ, zero, suc, ◌+◌, ◌-◌, ◌*◌, ◌==◌, ◌<◌, ◌≤◌, ◌%◌, ◌^◌, ℤ, pos, Bool, true, false, if◌then◌else◌, refl, sym, ap, ◌∙◌, subst, arith}
use Rattle.std.proofs.Math.Nat.{pow-le-pow_right, one-le-pow, two-pow-succ, mod_self, mod-eq_of_lt, mod-lt}
use Rattle.std.proofs.lemmas.Bool.{eqb-true, eqb-false}
use Rattle.std.proofs.lemmas.Int.{to_z_pos}
use Rattle.std.proofs.lemmas.Nat.{and_mask}
use Rattle.std.specs.Int.{w64, cast_signed, cast_unsigned, int_bit_and}
use Rattle.dict_laws.specs.Index.{next}
use Rattle.dict_laws.specs.Masks.{place_of, MasksLead, Doubled, enough, greatest, again, IsLength, IndicesAreLonger}

pub two_more : (i j : ℕ) → i ≤ j → 2 ^ i ≤ 2 ^ j
two_more i j le = pow-le-pow_right {n = 2} (omega arith) le

some_more : (bits : ℕ) → 0 < 2 ^ bits
some_more bits = one-le-pow bits 2 (omega arith)

below_all : (bits n : ℕ) → bits < 63 → n < 2 ^ bits → n < 2 ^ 63
below_all bits n few lt = let p = two_more bits 62 (omega (arith, few)) in omega (arith, p, lt)

masked : (bits : ℕ) (hash : ℤ) → bits < 63 → int_bit_and w64 hash (pos (2 ^ bits - 1)) ≡ pos (place_of bits hash)
masked bits hash few =
    ap (cast_signed w64) (and_mask (cast_unsigned w64 hash) bits)
    ∙ to_z_pos w64 (place_of bits hash) (below_all bits (place_of bits hash) few (mod-lt (cast_unsigned w64 hash) (some_more bits)))

round : (size at : ℕ) → at < size → (at + 1) % size ≡ next size at
round size at lt = by ((at + 1) == size) refl
  where
    by : (b : Bool) → ((at + 1) == size) ≡ b → (at + 1) % size ≡ (if b then 0 else at + 1)
    by true e = ap (λ n. n % size) (eqb-true (at + 1) size e) ∙ mod_self size
    by false e = let ne = eqb-false (at + 1) size e in mod-eq_of_lt (omega (arith, lt, ne))

pub masks_lead : MasksLead
masks_lead bits few = (
  λ hash. (masked bits hash few, mod-lt (cast_unsigned w64 hash) (some_more bits)),
  λ at lt. masked bits (pos (at + 1)) few ∙ ap pos (round (2 ^ bits) at lt),
)

-- ---- lengths

less_or_not : (m n : ℕ) → (m < n) ⊎ (n ≤ m)
less_or_not zero zero = inr (omega arith)
less_or_not zero (suc n) = inl (omega arith)
less_or_not (suc m) zero = inr (omega arith)
less_or_not (suc m) (suc n) = one (less_or_not m n)
  where
    one : (m < n) ⊎ (n ≤ m) → (suc m < suc n) ⊎ (suc n ≤ suc m)
    one (inl h) = inl (omega (arith, h))
    one (inr h) = inr (omega (arith, h))

twice : (bits : ℕ) → 2 ^ bits + 2 ^ bits ≡ 2 ^ (bits + 1)
twice bits = let p : bits + 1 ≡ suc bits = omega arith in sym (ap (λ n. 2 ^ n) p ∙ two-pow-succ bits)

is_longer : (places least size end bits : ℕ) → least ≡ places + places → places < 2 ^ 62 → size ≡ 2 ^ bits → bits < 63 → Doubled least size end → IsLength places end
is_longer places least size _ bits e lt is few (enough _ le) = record { bits = bits; few = few; is = is; longer = omega (arith, le, e, is, some_more bits) }
is_longer places least size _ bits e lt is few (greatest _ le) = record { bits = bits; few = few; is = is; longer = omega (arith, le, lt) }
is_longer places least size _ bits e lt is few (again _ end less small rest) =
    by (less_or_not bits 62) (λ h. is_longer places least (size + size) end (bits + 1) e lt (ap (λ n. n + n) is ∙ twice bits) (omega (arith, h)) rest)
  where
    by : (bits < 62) ⊎ (62 ≤ bits) → (bits < 62 → IsLength places end) → IsLength places end
    by (inl h) next = next h
    by (inr h) next = let p = two_more 62 bits h in absurd (omega (arith, p, small, is))

ends : (least n size bits : ℕ) → bits + n ≡ 62 → size ≡ 2 ^ bits → (end : ℕ) × Doubled least size end
ends least zero size bits e is = (size, greatest size (let p = two_more 62 bits (omega (arith, e)) in omega (arith, p, is)))
ends least (suc n) size bits e is = by (less_or_not size least) (ends least n (size + size) (bits + 1) (omega (arith, e)) (ap (λ m. m + m) is ∙ twice bits))
  where
    small : size < 2 ^ 62
    small = let p = two_more (bits + 1) 62 (omega (arith, e)) in omega (arith, p, is, twice bits, some_more bits)

    by : (size < least) ⊎ (least ≤ size) → ((end : ℕ) × Doubled least (size + size) end) → (end : ℕ) × Doubled least size end
    by (inl h) rest = (rest.0, again size rest.0 h small rest.1)
    by (inr h) rest = (size, enough size h)

pub indices_are_longer : IndicesAreLonger
indices_are_longer places lt =
    (ends (places + places) 61 2 1 (omega arith) refl, λ size d. is_longer places (places + places) 2 size 1 refl lt refl (omega arith) d)

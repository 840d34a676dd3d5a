-- Where hashes lead in an index, whose length is a power of two.
use Rattle.std.specs.Prelude.{◌≡◌, ℕ, ◌+◌, ◌-◌, ◌<◌, ◌≤◌, ◌%◌, ◌^◌, ℤ, pos}
use Rattle.std.specs.Int.{w64, cast_unsigned, int_bit_and}
use Rattle.dict_laws.specs.Index.{next}

-- so many of the lowest bits of a hash, as a number
abbrev pub place_of : ℕ → ℤ → ℕ
place_of bits hash = cast_unsigned w64 hash % 2 ^ bits

-- by a mask of one less than the length of an index, a hash leads to a place of it, and one more than a place to the place behind, round the end
abbrev pub MasksLead : Type 0
MasksLead = (bits : ℕ) → bits < 63
    → ((hash : ℤ) → (int_bit_and w64 hash (pos (2 ^ bits - 1)) ≡ pos (place_of bits hash)) × (place_of bits hash < 2 ^ bits))
    × ((at : ℕ) → at < 2 ^ bits → int_bit_and w64 (pos (at + 1)) (pos (2 ^ bits - 1)) ≡ pos (next (2 ^ bits) at))

-- a length is doubled while it is less than so many, and less than the greatest
pub data Doubled (least : ℕ) : ℕ → ℕ → Type 0 where
  enough : (size : ℕ) → least ≤ size → Doubled least size size
  greatest : (size : ℕ) → 2 ^ 62 ≤ size → Doubled least size size
  again : (size end : ℕ) → size < least → size < 2 ^ 62 → Doubled least (size + size) end → Doubled least size end

pub record IsLength (places size : ℕ) : Type 0 where
  pub bits : ℕ
  pub few : bits < 63
  pub is : size ≡ 2 ^ bits
  pub longer : places < size

-- doubling comes to an end, at a power of two that is more than the places for entries
abbrev pub IndicesAreLonger : Type 0
IndicesAreLonger = (places : ℕ) → places < 2 ^ 62
    → ((size : ℕ) × Doubled (places + places) 2 size) × ((size : ℕ) → Doubled (places + places) 2 size → IsLength places size)

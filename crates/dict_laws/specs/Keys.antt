-- The places of keys in the list of the keys of a dict.
use Rattle.std.specs.Prelude.{◌≡◌, ℕ, suc, ◌<◌, Bool, true, false, if◌then◌else◌, List, [], ◌∷◌, length, map, slice_get, Option, Some, None}
use Rattle.dict_laws.specs.Index.{IsRight, Looks}

-- by a test of which keys are equal
module _ {K : Type 0} (same : K → K → Bool) where
  abbrev pub is_key : Option K → K → Bool
  is_key None k = false
  is_key (Some x) k = same x k

  -- an entry has the key
  abbrev pub has_key : List K → K → ℕ → Bool
  has_key keys k entry = is_key (slice_get keys entry) k

  -- the place of a key, counted from a number
  abbrev pub position_from : ℕ → List K → K → Option ℕ
  position_from n [] k = None
  position_from n (x ∷ keys) k = if same x k then Some n else position_from (suc n) keys k

  -- no two keys are equal
  abbrev pub AreApart : List K → Type 0
  AreApart keys = (i j : ℕ) (x y : K) → slice_get keys i ≡ Some x → slice_get keys j ≡ Some y → same x y ≡ true → i ≡ j

-- Where an index is right for the keys of a dict, no two of which are equal, looking for a key finds its place and no other, and nothing
-- where it has none. Keys that are equal have the same hash.
abbrev pub FindsPlaces : Type 0 → Type 0
FindsPlaces K = (same : K → K → Bool) (start : K → ℕ) (words : List ℕ) (keys : List K) (k : K)
    → ((x y : K) → same x y ≡ true → start x ≡ start y)
    → ((x y z : K) → same x z ≡ true → same y z ≡ true → same x y ≡ true)
    → IsRight words (map start keys) → AreApart same keys
    → (found : Option ℕ) → Looks words (has_key same keys k) (start k) found → found ≡ position_from same 0 keys k

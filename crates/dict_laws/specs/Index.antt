-- The index of a dict: words in a row that goes round its end. A word that is zero is empty, and any other is the number of an entry, counted
-- from 1.
use Rattle.std.specs.Prelude.{◌≡◌, ℕ, zero, suc, ◌+◌, ◌==◌, ◌<◌, Bool, true, false, if◌then◌else◌, List, [], ◌∷◌, ◌++◌, length, replicate, slice_get, slice_set, Option, Some, None}

-- the place behind one, in a row of so many
abbrev pub next : ℕ → ℕ → ℕ
next size at = if (at + 1) == size then 0 else at + 1

abbrev pub IsEmpty : List ℕ → ℕ → Type 0
IsEmpty words at = slice_get words at ≡ Some 0

abbrev pub Holds : List ℕ → ℕ → ℕ → Type 0
Holds words at entry = slice_get words at ≡ Some (suc entry)

-- how many words are empty
abbrev pub empties : List ℕ → ℕ
empties [] = 0
empties (zero ∷ words) = suc (empties words)
empties (suc entry ∷ words) = empties words

-- an entry stands at a place, or behind it with no empty word between
pub data StandsFrom (words : List ℕ) (entry : ℕ) : ℕ → Type 0 where
  here : (at : ℕ) → Holds words at entry → StandsFrom words entry at
  behind : (at other : ℕ) → Holds words at other → StandsFrom words entry (next (length words) at) → StandsFrom words entry at

-- an index is right for entries, of which these are the places where the hashes of their keys lead
pub record IsRight (words starts : List ℕ) : Type 0 where
  pub within : (entry start : ℕ) → slice_get starts entry ≡ Some start → start < length words
  pub stands : (entry start : ℕ) → slice_get starts entry ≡ Some start → StandsFrom words entry start
  -- no other entry stands there, and each once
  pub known : (at entry : ℕ) → Holds words at entry → entry < length starts
  pub once : (at other entry : ℕ) → Holds words at entry → Holds words other entry → at ≡ other
  pub free : empties words + length starts ≡ length words

-- ---- looking

-- looking from a place on, by a test of which entry has the key: up to the first entry that has it, or an empty word
pub data Looks (words : List ℕ) (has : ℕ → Bool) : ℕ → Option ℕ → Type 0 where
  missed : (at : ℕ) → IsEmpty words at → Looks words has at None
  met : (at entry : ℕ) → Holds words at entry → has entry ≡ true → Looks words has at (Some entry)
  passed : (at entry : ℕ) (found : Option ℕ) → Holds words at entry → has entry ≡ false → Looks words has (next (length words) at) found → Looks words has at found

-- what is found of so many entries has the key, and nothing only where none has it
abbrev pub IsFound : ℕ → (ℕ → Bool) → Option ℕ → Type 0
IsFound count has None = (entry : ℕ) → entry < count → has entry ≡ false
IsFound count has (Some entry) = (entry < count) × (has entry ≡ true)

-- looking comes to an end, and finds the entry of the key, which is looked for from where its hash leads
abbrev pub FindsKeys : Type 0
FindsKeys = (words starts : List ℕ) (has : ℕ → Bool) (start : ℕ) → IsRight words starts → length starts < length words → start < length words
    → ((entry : ℕ) → entry < length starts → has entry ≡ true → slice_get starts entry ≡ Some start)
    → ((found : Option ℕ) × Looks words has start found) × ((found : Option ℕ) → Looks words has start found → IsFound (length starts) has found)

-- ---- entering

-- an entry comes into the first empty word from a place on
pub data Enters (words : List ℕ) (entry : ℕ) : ℕ → List ℕ → Type 0 where
  put : (at : ℕ) → IsEmpty words at → Enters words entry at (slice_set words at (suc entry))
  went : (at other : ℕ) (new : List ℕ) → Holds words at other → Enters words entry (next (length words) at) new → Enters words entry at new

-- entering another entry comes to an end, and leaves what is right
abbrev pub EntersKeys : Type 0
EntersKeys = (words starts : List ℕ) (start : ℕ) → IsRight words starts → length starts < length words → start < length words
    → ((new : List ℕ) × Enters words (length starts) start new) × ((new : List ℕ) → Enters words (length starts) start new → IsRight new (starts ++ start ∷ []))

-- entries come into the index one after the other, from a number on
pub data EntersAll : List ℕ → ℕ → List ℕ → List ℕ → Type 0 where
  done : (words : List ℕ) (entry : ℕ) → EntersAll words entry [] words
  more : (words : List ℕ) (entry start : ℕ) (starts mid new : List ℕ) → Enters words entry start mid → EntersAll mid (suc entry) starts new → EntersAll words entry (start ∷ starts) new

abbrev pub AllBelow : ℕ → List ℕ → Type 0
AllBelow size [] = Unit {0}
AllBelow size (start ∷ starts) = (start < size) × AllBelow size starts

-- an index that is made anew of empty words is right, where they are more than the entries
abbrev pub MakesIndices : Type 0
MakesIndices = (size : ℕ) (starts : List ℕ) → AllBelow size starts → length starts < size
    → ((new : List ℕ) × EntersAll (replicate size 0) 0 starts new) × ((new : List ℕ) → EntersAll (replicate size 0) 0 starts new → IsRight new starts)

-- What a line that comes after others gives: the place after it.
use Rattle.std.specs.Prelude.{◌≡◌, ℕ, ◌+◌, ◌++◌, List, Result, Ok, Err}
use Rattle.csub_text.specs.declared.places.Place.{Place}
use Rattle.csub_text.specs.Lines.{Fits}
use Rattle.csub_reader.specs.declared.fault.Stop.{Stop}
use Rattle.csub_reader.specs.declared.fault.Stop.TheVariants.{NoText, NoMem}

-- the next number, unless memory fails
abbrev pub Counts : ℕ → Result ℕ Stop → Type 0
Counts n (Ok m) = m ≡ n + 1
Counts n (Err NoText) = ⊥
Counts n (Err NoMem) = Unit {0}

-- this place, unless memory fails
abbrev pub Gives : Place → Result Place Stop → Type 0
Gives p (Ok q) = q ≡ p
Gives p (Err NoText) = ⊥
Gives p (Err NoMem) = Unit {0}

-- a line at the front of bytes leads to the place that is found
abbrev pub Goes : Place → List ℕ → Result Place Stop → List ℕ → Type 0
Goes p old (Ok q) new = (l : List ℕ) × (old ≡ l ++ new) × Fits p l q
Goes p old (Err stop) new = Unit {0}

-- the place after a line, where there is one
abbrev pub Follows : Place → List ℕ → Result Place Stop → Type 0
Follows p l (Ok q) = Fits p l q
Follows p l (Err NoText) = (q : Place) → Fits p l q → ⊥
Follows p l (Err NoMem) = Unit {0}

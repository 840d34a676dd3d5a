-- Places below a number.
use Rattle.std.proofs.Common.{ℕ, zero, suc, ◌+◌, ◌<◌, ◌≤◌, List, [], ◌∷◌, ◌++◌, Option, Some, None, arith}
use Rattle.std.specs.Prelude.{slice_set}
use Rattle.flow_stands.specs.Places.{range, Aim, Hand, Jump, stored_if_any, hand_jumps}
use Rattle.flow_stands.specs.Stands.{hands_of}

abbrev pub Below : ℕ → List ℕ → Type 0
Below u [] = Unit {0}
Below u (place ∷ places) = (place < u) × Below u places

-- some places from a number on
pub some_below : (a k u : ℕ) → a + k ≤ u → Below u (range a k)
some_below a zero u le = tt
some_below a (suc k) u le = (omega (arith, le), some_below (a + 1) k u (omega (arith, le)))

both_below : (places others : List ℕ) (u : ℕ) → Below u places → Below u others → Below u (places ++ others)
both_below [] others u x y = y
both_below (place ∷ places) others u x y = (x.0, both_below places others u x.1 y)

set_below : (places : List ℕ) (i last u : ℕ) → last < u → Below u places → Below u (slice_set places i last)
set_below [] i last u lt x = tt
set_below (place ∷ places) zero last u lt x = (lt, x.1)
set_below (place ∷ places) (suc i) last u lt x = (x.0, set_below places i last u lt x.1)

-- the first places, those with one more, and those of which one is another
pub first_below : (keep u : ℕ) → keep ≤ u → Below u (range 0 keep)
first_below keep u le = some_below 0 keep u (omega (arith, le))

pub and_below : (keep last u : ℕ) → keep ≤ u → last < u → Below u (range 0 keep ++ last ∷ [])
and_below keep last u le lt = both_below (range 0 keep) (last ∷ []) u (first_below keep u le) (lt, tt)

pub and_two_below : (keep last other u : ℕ) → keep ≤ u → last < u → other < u → Below u ((range 0 keep ++ last ∷ []) ++ other ∷ [])
and_two_below keep last other u le lt less = both_below (range 0 keep ++ last ∷ []) (other ∷ []) u (and_below keep last u le lt) (less, tt)

pub stored_below : (keep i last u : ℕ) → keep ≤ u → last < u → Below u (slice_set (range 0 keep) i last)
stored_below keep i last u le lt = set_below (range 0 keep) i last u lt (first_below keep u le)

-- ---- where exceptions go

abbrev pub JumpsBelow : ℕ → List (ℕ × Jump) → Type 0
JumpsBelow u [] = Unit {0}
JumpsBelow u (jump ∷ jumps) = Below u jump.1.places × JumpsBelow u jumps

-- no more than so many variables go on
abbrev pub HandsKeep : ℕ → List Hand → Type 0
HandsKeep m [] = Unit {0}
HandsKeep m (hand ∷ hands) = (hand.aim.keep ≤ m) × HandsKeep m hands

if_any_below : (aim : Aim) (local : Option ℕ) (m : ℕ) → aim.keep ≤ m → Below (m + 1) (stored_if_any aim local m).places
if_any_below aim None m le = first_below aim.keep (m + 1) (omega (arith, le))
if_any_below aim (Some i) m le = stored_below aim.keep i m (m + 1) (omega (arith, le)) (omega arith)

pub hands_below : (m : ℕ) (hands : List Hand) → HandsKeep m hands → JumpsBelow (m + 1) (hand_jumps m hands)
hands_below m [] keep = tt
hands_below m (hand ∷ hands) keep = (if_any_below hand.aim hand.local m keep.0, hands_below m hands keep.1)

pub hands_later : (m k : ℕ) (hands : List Hand) → m ≤ k → HandsKeep m hands → HandsKeep k hands
hands_later m k [] le keep = tt
hands_later m k (hand ∷ hands) le keep = let here = keep.0 in (omega (arith, here, le), hands_later m k hands le keep.1)

pub hands_before : (m : ℕ) (local : Option ℕ) (aim : Aim) (classes : List ℕ) (others : List Hand) → aim.keep ≤ m → HandsKeep m others → HandsKeep m (hands_of local aim classes others)
hands_before m local aim [] others le keep = keep
hands_before m local aim (class ∷ classes) others le keep = (le, hands_before m local aim classes others le keep)

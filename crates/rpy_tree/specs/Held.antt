-- How much a run holds.
use Rattle.std.specs.Prelude.{ℕ, zero, suc, ◌+◌, ◌==◌, ◌||◌, ◌&&◌, not, nat_lt, nat_le, Bool, true, false, List, [], ◌∷◌, ◌++◌, length, sum_by, slice_get, Option, Some, None, if◌then◌else◌}
use Rattle.std.specs.List.{flat_map}
use Rattle.rpy_tree.specs.Value.{Value, Word, Flag, Text, Nothing, Tuple, Fun, Ref, Values, none, more, Object, Listed, Mapped, Instance, Heap}

-- the objects that a value refers to, also inside tuples, each as often as it stands there
abbrev mutual
  pub refs : Value → List ℕ
  refs (Ref n) = n ∷ []
  refs (Tuple parts) = refs_of parts
  refs other = []

  pub refs_of : Values → List ℕ
  refs_of none = []
  refs_of (more v vs) = refs v ++ refs_of vs

-- the strings and tuples in a value, also inside tuples
abbrev mutual
  pub texts : Value → ℕ
  texts (Text bytes) = 1
  texts (Tuple parts) = suc (texts_of parts)
  texts other = 0

  pub texts_of : Values → ℕ
  texts_of none = 0
  texts_of (more v vs) = texts v + texts_of vs

-- the values in an object
abbrev pub values_in : Object → List Value
values_in (Listed vs) = vs
values_in (Mapped pairs) = flat_map (λ p. p.0 ∷ p.1 ∷ []) pairs
values_in (Instance class fields) = flat_map (λ f. f.1 ∷ []) fields

abbrev pub values_at : Heap → ℕ → List Value
values_at [] n = []
values_at (object ∷ objects) zero = values_in object
values_at (object ∷ objects) (suc n) = values_at objects n

abbrev pub is_among : ℕ → List ℕ → Bool
is_among n [] = false
is_among n (m ∷ ms) = (m == n) || is_among n ms

-- these objects and those that they refer to
abbrev pub with_next : Heap → List ℕ → List ℕ → List ℕ
with_next heap seen [] = seen
with_next heap seen (n ∷ ns) = with_next heap (if is_among n seen then seen else n ∷ seen) ns

abbrev pub spread : Heap → List ℕ → List ℕ
spread heap seen = with_next heap seen (flat_map (λ n. flat_map refs (values_at heap n)) seen)

-- what can be reached from these objects in so many references
abbrev pub reached : Heap → ℕ → List ℕ → List ℕ
reached heap zero seen = seen
reached heap (suc k) seen = reached heap k (spread heap seen)

-- an object is on a cycle where references lead from it to itself
abbrev pub is_on_cycle : Heap → ℕ → Bool
is_on_cycle heap n = is_among n (reached heap (length heap) (with_next heap [] (flat_map refs (values_at heap n))))

abbrev pub on_cycles : Heap → ℕ → List ℕ
on_cycles heap zero = []
on_cycles heap (suc n) = if is_on_cycle heap n then n ∷ on_cycles heap n else on_cycles heap n

-- the objects that can be reached from the roots or from an object on a cycle
abbrev pub held_objects : List Value → Heap → List ℕ
held_objects roots heap = reached heap (length heap) (with_next heap [] (flat_map refs roots ++ on_cycles heap (length heap)))

-- these objects, the prebuilt ones aside, which are the first so many, with the strings and tuples that stand in the roots and in them
abbrev pub held : ℕ → List Value → Heap → ℕ
held prebuilt roots heap =
    sum_by (λ n. if nat_lt n prebuilt then 0 else 1) (held_objects roots heap)
    + sum_by texts roots
    + sum_by (λ n. sum_by texts (values_at heap n)) (held_objects roots heap)

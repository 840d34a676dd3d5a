-- A run begins with room.
use Rattle.std.proofs.Common.{◌≡◌, ◌≤◌, ℕ, zero, suc, ◌+◌, List, [], ◌∷◌, ◌++◌, map, Option, Some, None, refl, arith}
use Rattle.std.specs.Prelude.{slice_get, filter_map}
use Rattle.std.proofs.lemmas.List.{length-map}
use Rattle.rpy_tree.specs.Value.{Text, Object, Listed, Heap}
use Rattle.rpy_meaning.specs.Laws.{size, size_at}
use Rattle.rpy_meaning.specs.Meaning.{exceptions_from}
use Rattle.rpy_meaning.specs.Operations.{builtin_classes}
use Rattle.good_runs.specs.Room.{StartsHaveRoom}

module _ (steps most : ℕ) (some : steps ≤ most) where
  abbrev Fits : Heap → Type 0
  Fits [] = Unit {0}
  Fits (object ∷ heap) = (size object + steps ≤ most) × Fits heap

  all_fit : (heap : Heap) → Fits heap → (r : ℕ) → size_at (slice_get heap r) + steps ≤ most
  all_fit [] h r = let e : 0 + steps ≡ steps = omega arith in omega (arith, some, e)
  all_fit (object ∷ heap) h zero = h.0
  all_fit (object ∷ heap) h (suc r) = all_fit heap h.1 r

  both_fit : (xs ys : Heap) → Fits xs → Fits ys → Fits (xs ++ ys)
  both_fit [] ys h g = g
  both_fit (x ∷ xs) ys h g = (h.0, both_fit xs ys h.1 g)

  exceptions_fit : (c n : ℕ) → Fits (exceptions_from c n)
  exceptions_fit c zero = tt
  exceptions_fit c (suc n) = (omega (arith, some), exceptions_fit (suc c) n)

  sites_fit : (sites : List (Option Object)) → ((s : ℕ) (object : Object) → slice_get sites s ≡ Some (Some object) → size object + steps ≤ most) → Fits (filter_map (λ object. object) sites)
  sites_fit [] h = tt
  sites_fit (None ∷ sites) h = sites_fit sites (λ s. h (suc s))
  sites_fit (Some object ∷ sites) h = (h zero object refl, sites_fit sites (λ s. h (suc s)))

pub starts_have_room : StartsHaveRoom
starts_have_room q args steps most sites h =
    let some : steps ≤ most = omega (arith, h) in
    let count = length-map args Text in
    let last : size (Listed (map Text args)) + steps ≤ most = omega (arith, h, count) in
    let before : Heap = exceptions_from 0 builtin_classes ++ filter_map (λ object. object) q.sites in
    all_fit steps most some (before ++ Listed (map Text args) ∷ []) (both_fit steps most some before (Listed (map Text args) ∷ [])
    (both_fit steps most some (exceptions_from 0 builtin_classes) (filter_map (λ object. object) q.sites) (exceptions_fit steps most some 0 builtin_classes) (sites_fit steps most some q.sites sites)) (last, tt))

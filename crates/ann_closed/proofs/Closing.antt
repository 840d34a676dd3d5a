-- A need that holds by the test holds.
use Rattle.std.proofs.Common.{◌≡◌, ◌<◌, ℕ, zero, suc, ◌&&◌, Bool, true, false, List, [], ◌∷◌, length, get_or, slice_get, Option, Some, None, refl, sym, ap, ◌∙◌, subst, arith}
use Rattle.rpy_tree.specs.declared.program.ClassInfo.{ClassInfo}
use Rattle.ann_lattice.specs.Shape.{Shape, Nothing}
use Rattle.ann_lattice.specs.Order.{is_below}
use Rattle.ann_lattice.specs.Assign.{Assignment, at, Need, Up, Set, Under, Holds}
use Rattle.ann_lattice.proofs.Tested.{is_tested}
use Rattle.ann_closed.specs.Met.{all_below, is_above, is_set, holds}

abbrev is_no : Bool → Type 0
is_no false = Unit {0}
is_no true = ⊥

first_of : (a b : Bool) → (a && b) ≡ true → a ≡ true
first_of true b e = refl
first_of false b e = e

second_of : (a b : Bool) → (a && b) ≡ true → b ≡ true
second_of true b e = e
second_of false b e = absurd (subst is_no e tt)

module _ (k : List ClassInfo) where
  under : (t : List ℕ) (xs : List Shape) (z : Shape) → all_below k t xs z ≡ true → Under k t xs z
  under t [] z e = tt
  under t (x ∷ xs) z e = ((is_tested k t).yes x z (first_of (is_below k t x z) (all_below k t xs z) e), under t xs z (second_of (is_below k t x z) (all_below k t xs z) e))

  above : (t : List ℕ) (xs : List Shape) (cells : List Shape) (c : ℕ) → is_above k t xs (slice_get cells c) ≡ true → c < length cells → Under k t xs (get_or cells c Nothing)
  above t xs [] c e lt = absurd (omega (arith, lt))
  above t xs (z ∷ zs) zero e lt = under t xs z e
  above t xs (z ∷ zs) (suc c) e lt = above t xs zs c e (omega (arith, lt))

  marked : (marks : List Bool) (m : ℕ) → is_set (slice_get marks m) ≡ true → m < length marks → get_or marks m false ≡ true
  marked [] m e lt = absurd (omega (arith, lt))
  marked (b ∷ bs) zero e lt = e
  marked (b ∷ bs) (suc m) e lt = marked bs m e (omega (arith, lt))

  pub one_holds : (a : Assignment) (n : Need) → holds k a n ≡ true → Holds k a n
  one_holds a (Up c xs) e = above a.same xs a.cells c e
  one_holds a (Set m) e = marked a.marks m e

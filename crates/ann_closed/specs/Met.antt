-- Whether all that is asked of an assignment holds in it.
use Rattle.std.specs.Prelude.{ℕ, ◌&&◌, Bool, true, false, List, [], ◌∷◌, map, slice_get, Option, Some, None}
use Rattle.rpy_tree.specs.declared.program.ClassInfo.{ClassInfo}
use Rattle.ann_lattice.specs.Shape.{Shape}
use Rattle.ann_lattice.specs.Order.{is_below}
use Rattle.ann_lattice.specs.Assign.{Assignment, Need, Up, Set}

abbrev pub all_below : List ClassInfo → List ℕ → List Shape → Shape → Bool
all_below k t [] z = true
all_below k t (x ∷ xs) z = is_below k t x z && all_below k t xs z

-- what is not there is asked nothing
abbrev pub is_above : List ClassInfo → List ℕ → List Shape → Option Shape → Bool
is_above k t xs None = true
is_above k t xs (Some z) = all_below k t xs z

abbrev pub is_set : Option Bool → Bool
is_set None = true
is_set (Some mark) = mark

abbrev pub holds : List ClassInfo → Assignment → Need → Bool
holds k a (Up c xs) = is_above k a.same xs (slice_get a.cells c)
holds k a (Set m) = is_set (slice_get a.marks m)

abbrev pub all_hold : List ClassInfo → Assignment → List Need → Bool
all_hold k a [] = true
all_hold k a (n ∷ ns) = holds k a n && all_hold k a ns

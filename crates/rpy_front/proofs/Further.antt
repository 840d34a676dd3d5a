-- One more module after the first ones.
use Rattle.std.proofs.Common.{◌≡◌, ℕ, List, [], ◌∷◌, ◌++◌, length, Option, Some, None, sym, subst, refl, arith, zero, suc, ◌+◌, ◌≤◌, true}
use Rattle.std.specs.Prelude.{◌&&◌, nat_lt, nat_le, Bool, false, cond}
use Rattle.std.proofs.lemmas.Bool.Decides.{nat_tests}
use Rattle.std.specs.Prelude.{slice_get}
use Rattle.rpy_nodes.specs.declared.listing.Named.{Named}
use Rattle.rpy_front.specs.Modules.{are_short, IsNamed, AreFirst}

same : {A : Type 0} (a b : A) → Some a ≡ Some b → a ≡ b
same a b e = cc

pub further : (sources names : List (List ℕ)) (ms : List Named) (source name : List ℕ) (m : Named) → AreFirst sources names ms → slice_get sources (length ms) ≡ Some source → slice_get names (length ms) ≡ Some name → IsNamed source name m → AreFirst sources names (ms ++ m ∷ [])
further [] names [] source name m first s n is = absurd cc
further (s0 ∷ sources) [] [] source name m first s n is = absurd cc
further (s0 ∷ sources) (n0 ∷ names) [] source name m first s n is = (subst (λ a. IsNamed a n0 m) (sym (same s0 source s)) (subst (λ b. IsNamed source b m) (sym (same n0 name n)) is), tt)
further [] names (m0 ∷ ms) source name m first s n is = absurd first
further (s0 ∷ sources) [] (m0 ∷ ms) source name m first s n is = absurd first
further (s0 ∷ sources) (n0 ∷ names) (m0 ∷ ms) source name m first s n is = (first.0, further sources names ms source name m first.1 s n is)

and_left : (a b : Bool) → (a && b) ≡ true → a ≡ true
and_left true b e = refl
and_left false b e = e

and_right : (a b : Bool) → (a && b) ≡ true → b ≡ true
and_right true b e = e
and_right false b e = absurd cc

le_of : (a b : ℕ) → nat_le a b ≡ true → a ≤ b
le_of a b h = grind (arith, nat_tests)

pub longer : (ms : List Named) (m : Named) → length (ms ++ m ∷ []) ≡ length ms + 1
longer [] m = refl
longer (n ∷ ms) m = omega (arith, longer ms m)

pub most : (sources names : List (List ℕ)) (ms : List Named) → AreFirst sources names ms → length ms ≤ length sources
most sources names [] first = omega arith
most [] names (m0 ∷ ms) first = absurd first
most (s0 ∷ sources) [] (m0 ∷ ms) first = absurd first
most (s0 ∷ sources) (n0 ∷ names) (m0 ∷ ms) first = omega (arith, most sources names ms first.1)

pub not_below : (a b : ℕ) → false ≡ nat_lt a b → b ≤ a
not_below a b h = grind (arith, nat_tests)

pub short_at : (sources : List (List ℕ)) (i : ℕ) (source : List ℕ) → are_short sources ≡ true → slice_get sources i ≡ Some source → length source ≤ 1048576
short_at [] i source short s = absurd cc
short_at (first ∷ sources) zero source short s = subst (λ x. length x ≤ 1048576) (same first source s) (le_of (length first) 1048576 (and_left (nat_le (length first) 1048576) _ short))
short_at (first ∷ sources) (suc i) source short s = short_at sources i source (and_right (nat_le (length first) 1048576) _ short) s

-- What holds of the order of elements and of their join.
use Rattle.std.specs.Prelude.{◌≡◌, ℕ, ◌<◌, ◌≤◌, ◌&&◌, nat_lt, Bool, true, List, [], ◌∷◌, length, Option, Some, None}
use Rattle.rpy_tree.specs.declared.program.ClassInfo.{ClassInfo}
use Rattle.class_desc.specs.Range.{IsForest}
use Rattle.ann_element.specs.Sites.{leader}
use Rattle.ann_lattice.specs.Shape.{Shape, Tup, Lst, Dct, Fun, Clash, Shapes, end, more}
use Rattle.ann_lattice.specs.Order.{Below, is_below}
use Rattle.ann_lattice.specs.Join.{Within, depth, no_clash, join, classes_after}

-- there are classes, their bases are classes, and those of each come to an end
pub record IsTree (classes : List ClassInfo) : Type 0 where
  pub some : 0 < length classes
  pub forest : IsForest classes

-- an element written with the least site of each class
abbrev pub name_of : List ℕ → Option ℕ → Option ℕ
name_of t None = None
name_of t (Some s) = Some (leader t s)

abbrev mutual
  pub named : List ℕ → Shape → Shape
  named t (Tup xs) = Tup (all_named t xs)
  named t (Lst s n) = Lst (leader t s) n
  named t (Dct s n) = Dct (leader t s) n
  named t (Clash o p) = Clash (name_of t o) (name_of t p)
  named t other = other

  pub all_named : List ℕ → Shapes → Shapes
  all_named t end = end
  all_named t (more x xs) = more (named t x) (all_named t xs)

-- numbers in rising order
abbrev pub from : ℕ → List ℕ → Bool
from n [] = true
from n (f ∷ fs) = nat_lt n f && from f fs

abbrev pub rising : List ℕ → Bool
rising [] = true
rising (f ∷ fs) = from f fs

-- no item of a tuple, at any depth, is in conflict, and functions stand in rising order
abbrev mutual
  pub is_sound : Shape → Bool
  is_sound (Tup xs) = no_clash xs && are_sound xs
  is_sound (Fun fs n) = rising fs
  is_sound other = true

  pub are_sound : Shapes → Bool
  are_sound end = true
  are_sound (more x xs) = is_sound x && are_sound xs

-- and at most 8 tuples stand inside one another
pub record IsFormed (x : Shape) : Type 0 where
  pub sound : is_sound x ≡ true
  pub shallow : depth x ≤ 8

pub record IsOrder (classes : List ClassInfo) (t : List ℕ) : Type 0 where
  pub itself : (x : Shape) → Below classes t x x
  pub onward : (x y z : Shape) → Below classes t x y → Below classes t y z → Below classes t x z
  pub both : (x y : Shape) → IsFormed x → IsFormed y → Below classes t x y → Below classes t y x → named t x ≡ named t y
  -- under larger classes of sites more is below
  pub wider : (u : List ℕ) → Within t u → (x y : Shape) → Below classes t x y → Below classes u x y

-- the join is the least element above both, under the finest classes of sites that allow it
pub record IsJoin (classes : List ClassInfo) (t : List ℕ) : Type 0 where
  pub left : (x y : Shape) → Below classes (classes_after classes t x y) x (join classes x y)
  pub right : (x y : Shape) → Below classes (classes_after classes t x y) y (join classes x y)
  pub finer : (x y : Shape) → Within t (classes_after classes t x y)
  pub finest : (u : List ℕ) → Within t u → (x y z : Shape) → IsFormed z → Below classes u x z → Below classes u y z → Within (classes_after classes t x y) u
  pub least : (u : List ℕ) → (x y z : Shape) → IsFormed z → Below classes u x z → Below classes u y z → Below classes u (join classes x y) z
  pub formed : (x y : Shape) → IsFormed x → IsFormed y → IsFormed (join classes x y)

-- tables with the same classes, and elements that are below each other: with the least sites of their classes they are one
pub record Alike (t u : List ℕ) : Type 0 where
  pub there : Within t u
  pub back : Within u t

pub record Level (classes : List ClassInfo) (t : List ℕ) (x y : Shape) : Type 0 where
  pub up : Below classes t x y
  pub down : Below classes t y x

-- the order in which elements are joined does not matter, nor does joining one again
pub record IsLattice (classes : List ClassInfo) (t : List ℕ) : Type 0 where
  pub commutes : (x y : Shape) → IsFormed x → IsFormed y
      → Alike (classes_after classes t x y) (classes_after classes t y x) × Level classes (classes_after classes t x y) (join classes x y) (join classes y x)
  pub associates : (x y z : Shape) → IsFormed x → IsFormed y → IsFormed z
      → Alike (classes_after classes (classes_after classes t x y) (join classes x y) z) (classes_after classes (classes_after classes t y z) x (join classes y z))
      × Level classes (classes_after classes (classes_after classes t x y) (join classes x y) z) (join classes (join classes x y) z) (join classes x (join classes y z))
  pub repeats : (x : Shape) → IsFormed x → Alike (classes_after classes t x x) t × Level classes t (join classes x x) x

-- the test of the order is right
pub record IsTested (classes : List ClassInfo) (t : List ℕ) : Type 0 where
  pub yes : (x y : Shape) → is_below classes t x y ≡ true → Below classes t x y
  pub no : (x y : Shape) → Below classes t x y → is_below classes t x y ≡ true

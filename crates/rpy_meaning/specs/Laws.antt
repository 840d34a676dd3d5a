-- What each operation leaves of the steps and of the objects.
use Rattle.std.specs.Prelude.{◌≡◌, ℕ, ◌+◌, ◌≤◌, length, slice_get, Option, Some, None}
use Rattle.rpy_tree.specs.Value.{Object, Listed, Mapped, Instance}
use Rattle.rpy_meaning.specs.World.{World, Op, Answer, Gives, Throws, Fails, Lacks, Enters, Bad}

-- no more steps are left, and no object is gone
pub record IsLater (w u : World) : Type 0 where
  pub steps : u.left ≤ w.left
  pub objects : length w.heap ≤ length u.heap

abbrev pub OnLater : World → Answer → Type 0
OnLater w (Gives v u) = IsLater w u
OnLater w (Throws r u) = IsLater w u
OnLater w (Enters f args instead u) = IsLater w u
OnLater w (Fails name) = Unit {0}
OnLater w Lacks = Unit {0}
OnLater w Bad = Unit {0}

-- the world of each answer is later than the one before
pub record IsLawful (o : Op) : Type 0 where
  pub law : (w : World) → OnLater w (o w)

-- the same with so many more steps
abbrev pub with_more : ℕ → World → World
with_more k w = record w { left = w.left + k }

-- With more steps an answer is the same. Only one that lacked steps may be another.
abbrev pub SameWithMore : ℕ → Answer → Answer → Type 0
SameWithMore k (Gives v u) a = a ≡ Gives v (with_more k u)
SameWithMore k (Throws r u) a = a ≡ Throws r (with_more k u)
SameWithMore k (Enters f args instead u) a = a ≡ Enters f args instead (with_more k u)
SameWithMore k (Fails name) a = a ≡ Fails name
SameWithMore k Lacks a = k ≡ 0 → a ≡ Lacks
SameWithMore k Bad a = a ≡ Bad

pub record IsSteady (o : Op) : Type 0 where
  pub law : (k : ℕ) (w : World) → SameWithMore k (o w) (o (with_more k w))

-- ---- room

-- the items of a list, the pairs of a dict
abbrev pub size : Object → ℕ
size (Listed vs) = length vs
size (Mapped pairs) = length pairs
size (Instance class attributes) = 0

abbrev pub size_at : Option Object → ℕ
size_at None = 0
size_at (Some o) = size o

-- the steps left, and the size of each list and dict with them, are no more than this
abbrev pub HasRoom : ℕ → World → Type 0
HasRoom most w = (r : ℕ) → size_at (slice_get w.heap r) + w.left ≤ most

abbrev pub OnRoom : ℕ → Answer → Type 0
OnRoom most (Gives v u) = HasRoom most u
OnRoom most (Throws r u) = HasRoom most u
OnRoom most (Enters f args instead u) = HasRoom most u
OnRoom most (Fails name) = Unit {0}
OnRoom most Lacks = Unit {0}
OnRoom most Bad = Unit {0}

-- what lists and dicts grow by is paid
abbrev pub KeepsRoom : Op → Type 0
KeepsRoom o = (most : ℕ) (w : World) → HasRoom most w → OnRoom most (o w)

-- Assignments that grow step by step, each below all that are closed and free of conflict; and the first conflict.
use Rattle.std.specs.Prelude.{◌≡◌, ◌⊎◌, ◌&&◌, if◌then◌else◌, ℕ, Bool, true, List, [], ◌∷◌, length, map, Option, Some, None}
use Rattle.ann_lattice.specs.Join.{is_clash}
use Rattle.ann_lattice.specs.Assign.{Assignment, Less, Need, Up, Set, at, meet, Grown, Fits, Closed, Free, IsTable, IsLeast}
use Rattle.ann_lattice.specs.Laws.{IsFormed, named}
use Rattle.ann_laws.specs.Rows.{HasClasses}
use Rattle.ann_rules.specs.Program.{Whole}
use Rattle.ann_rules.specs.Rules.{needs, rules}
use Rattle.ann_rules.specs.Hold.{IsPlaced}

-- what growing rests on: the classes are a tree, each part has its cell, the sites of the start are a table, and its elements are well-formed
pub record Basis (p : Whole) (spots : ℕ → Bool) (start : Assignment) : Type 0 where
  pub classes : HasClasses p.tables
  pub placed : IsPlaced p spots start
  pub table : IsTable (length start.same) start.same
  pub formed : (c : ℕ) → IsFormed (at start c)

-- as many cells and marks as the start, above the start, below each assignment above the start that is closed and free, and well-formed while it is
-- free itself
pub record IsPartial (p : Whole) (spots : ℕ → Bool) (start a : Assignment) : Type 0 where
  pub cells : length a.cells ≡ length start.cells
  pub marks : length a.marks ≡ length start.marks
  pub table : IsTable (length start.same) a.same
  pub above : Less p.tables.classes start a
  pub formed : Free spots a → (c : ℕ) → IsFormed (at a c)
  pub least : IsLeast p.tables.classes (rules p) spots start a

-- no assignment above the start is closed and free
abbrev pub NoneFree : Whole → (ℕ → Bool) → Assignment → Type 0
NoneFree p spots start = (b : Assignment) → Fits p.tables.classes start b → Closed p.tables.classes (rules p) b → Free spots b → ⊥

-- ---- needs

-- it is one of these
abbrev pub IsOne : Need → List Need → Type 0
IsOne n [] = ⊥
IsOne n (m ∷ ms) = (m ≡ n) ⊎ IsOne n ms

-- each of the former is one of the latter
abbrev pub AreOf : List Need → List Need → Type 0
AreOf ms ns = (n : Need) → IsOne n ms → IsOne n ns

-- the graphs ask it of this assignment
abbrev pub IsAsked : Whole → Assignment → Need → Type 0
IsAsked p a n = IsOne n (needs p a)

-- ---- steps

-- Steps led to it from the start, each of which met one need that was asked of the assignment as it was then; no cell that must not is in conflict.
pub record IsGrown (p : Whole) (spots : ℕ → Bool) (start a : Assignment) : Type 0 where
  pub grown : Grown p.tables.classes (rules p) start a
  pub free : Free spots a

-- Such steps led to the assignment before the last step; that met one need more, and put a conflict into this cell, where none may be.
pub record IsFirst (p : Whole) (spots : ℕ → Bool) (start a : Assignment) (c : ℕ) : Type 0 where
  pub before : Assignment
  pub grown : IsGrown p spots start before
  pub rule : ℕ
  pub step : a ≡ meet p.tables.classes (rules p rule before) before
  pub spot : spots c ≡ true
  pub clash : is_clash (at a c) ≡ true

-- the cell of a need, where a conflict stands there and none may
abbrev pub clash_at : (ℕ → Bool) → Assignment → Need → Option ℕ
clash_at spots a (Up c es) = if spots c && is_clash (at a c) then Some c else None
clash_at spots a (Set m) = None

-- what such steps lead to from a they lead to from there to b
abbrev pub Keeps : Whole → (ℕ → Bool) → Assignment → Assignment → Type 0
Keeps p spots a b = (start : Assignment) → IsGrown p spots start a → IsGrown p spots start b

-- and there to the first conflict
abbrev pub Meets : Whole → (ℕ → Bool) → Assignment → Assignment → ℕ → Type 0
Meets p spots a b c = (start : Assignment) → IsGrown p spots start a → IsFirst p spots start b c

-- ---- names

-- each element written with the least site of each class
abbrev pub with_leaders : Assignment → Assignment
with_leaders a = record { cells = map (named a.same) a.cells; marks = a.marks; same = a.same }

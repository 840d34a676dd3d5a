-- Assignments of elements that grow until they are closed.
use Rattle.std.specs.Prelude.{◌≡◌, ◌<◌, ℕ, nat_lt, if◌then◌else◌, Bool, true, false, List, [], ◌∷◌, length, get_or, set}
use Rattle.rpy_tree.specs.declared.program.ClassInfo.{ClassInfo}
use Rattle.ann_element.specs.Sites.{leader}
use Rattle.ann_lattice.specs.Shape.{Shape, Nothing}
use Rattle.ann_lattice.specs.Order.{Below}
use Rattle.ann_lattice.specs.Join.{Within, is_clash, join, classes_after}
use Rattle.ann_lattice.specs.Laws.{IsFormed}

-- the elements of all cells (variables, parameters, results, attributes, items and keys), the marks (what is reached, and what is made), and the
-- classes of sites
pub record Assignment : Type 0 where
  pub cells : List Shape
  pub marks : List Bool
  pub same : List ℕ

abbrev pub at : Assignment → ℕ → Shape
at a c = get_or a.cells c Nothing

abbrev pub mark : Assignment → ℕ → Bool
mark a m = get_or a.marks m false

-- a is below b
pub record Less (k : List ClassInfo) (a b : Assignment) : Type 0 where
  pub same : Within a.same b.same
  pub cells : (c : ℕ) → Below k b.same (at a c) (at b c)
  pub marks : (m : ℕ) → mark a m ≡ true → mark b m ≡ true

-- what a rule asks: that a cell is above some elements, or that a mark is set
pub data Need : Type 0 where
  Up : ℕ → List Shape → Need
  Set : ℕ → Need

abbrev pub Under : List ClassInfo → List ℕ → List Shape → Shape → Type 0
Under k t [] z = Unit {0}
Under k t (x ∷ xs) z = Below k t x z × Under k t xs z

-- what is not there is asked nothing
abbrev pub Holds : List ClassInfo → Assignment → Need → Type 0
Holds k a (Up c es) = c < length a.cells → Under k a.same es (at a c)
Holds k a (Set m) = m < length a.marks → mark a m ≡ true

-- a cell is joined with an element
abbrev pub raised : List ClassInfo → ℕ → Shape → Assignment → Assignment
raised k c e a = record { cells = set a.cells c (join k (at a c) e); marks = a.marks; same = classes_after k a.same (at a c) e }

abbrev pub raise : List ClassInfo → ℕ → List Shape → Assignment → Assignment
raise k c [] a = a
raise k c (e ∷ es) a = raise k c es (raised k c e a)

abbrev pub meet : List ClassInfo → Need → Assignment → Assignment
meet k (Up c es) a = if nat_lt c (length a.cells) then raise k c es a else a
meet k (Set m) a = if nat_lt m (length a.marks) then record { cells = a.cells; marks = set a.marks m true; same = a.same } else a

-- what each rule, by its number, asks of an assignment
abbrev pub Rules : Type 0
Rules = ℕ → Assignment → Need

-- rules in any order lead to it
pub data Grown (k : List ClassInfo) (rules : Rules) (start : Assignment) : Assignment → Type 0 where
  begin : Grown k rules start start
  step : (a : Assignment) (r : ℕ) → Grown k rules start a → Grown k rules start (meet k (rules r a) a)

abbrev pub Closed : List ClassInfo → Rules → Assignment → Type 0
Closed k rules a = (r : ℕ) → Holds k a (rules r a)

-- no cell that must not is in conflict
abbrev pub Free : (ℕ → Bool) → Assignment → Type 0
Free spots a = (c : ℕ) → spots c ≡ true → is_clash (at a c) ≡ false

-- a table of n sites gives each site one that is its own leader
pub record IsTable (n : ℕ) (t : List ℕ) : Type 0 where
  pub count : length t ≡ n
  pub leads : (s : ℕ) → leader t (leader t s) ≡ leader t s
  pub sites : (s : ℕ) → leader t s < n

-- as many cells, marks and sites, above the start, with well-formed elements
pub record Fits (k : List ClassInfo) (start b : Assignment) : Type 0 where
  pub cells : length b.cells ≡ length start.cells
  pub marks : length b.marks ≡ length start.marks
  pub table : IsTable (length start.same) b.same
  pub above : Less k start b
  pub formed : (c : ℕ) → IsFormed (at b c)

-- what a rule asks of a smaller assignment holds in a larger one that is closed, free and well-formed; both have the cells, marks and sites of
-- the start
abbrev pub Monotone : List ClassInfo → Rules → (ℕ → Bool) → Assignment → Type 0
Monotone k rules spots start = (r : ℕ) (a b : Assignment) → IsTable (length start.same) a.same → Less k a b → Fits k start b → Closed k rules b → Free spots b → Holds k b (rules r a)

-- a is below each that is closed and free
abbrev pub IsLeast : List ClassInfo → Rules → (ℕ → Bool) → Assignment → Assignment → Type 0
IsLeast k rules spots start a = (b : Assignment) → Fits k start b → Closed k rules b → Free spots b → Less k a b

-- The least annotation of the trees of a program.
use Rattle.std.specs.Prelude.{◌≡◌, ℕ, true, List, Option}
use Rattle.rpy_tree.specs.Value.{Object}
use Rattle.flow_trees.specs.Tree.{Function}
use Rattle.ann_lattice.specs.Order.{Below}
use Rattle.ann_lattice.specs.Join.{Within}
use Rattle.ann_lattice.specs.Assign.{Assignment, at, mark, Fits}
use Rattle.ann_rules.specs.Program.{Whole}
use Rattle.ann_tree.specs.Faults.{Flaw}
use Rattle.ann_tree.specs.Annotation.{Annotation}
use Rattle.ann_tree.specs.Closed.{IsClosed}

-- Each part and each node has an element below that of the other, under its classes of sites; what is reached, made, loaded and read unbound is so there,
-- and so is what shows a flaw.
pub record IsLower (p : Whole) (a b : Annotation) : Type 0 where
  pub same : Within a.parts.same b.parts.same
  pub params : (f i : ℕ) → Below p.tables.classes b.parts.same (at a.parts (p.places.param f i)) (at b.parts (p.places.param f i))
  pub results : (f : ℕ) → Below p.tables.classes b.parts.same (at a.parts (p.places.result f)) (at b.parts (p.places.result f))
  pub attributes : (c : ℕ) (name : List ℕ) → Below p.tables.classes b.parts.same (at a.parts (p.places.attribute c name)) (at b.parts (p.places.attribute c name))
  pub items : (s : ℕ) → Below p.tables.classes b.parts.same (at a.parts (p.places.item s)) (at b.parts (p.places.item s))
  pub keys : (s : ℕ) → Below p.tables.classes b.parts.same (at a.parts (p.places.key s)) (at b.parts (p.places.key s))
  pub reached : (f : ℕ) → mark a.parts (p.places.reached f) ≡ true → mark b.parts (p.places.reached f) ≡ true
  pub made : (c : ℕ) → mark a.parts (p.places.made c) ≡ true → mark b.parts (p.places.made c) ≡ true
  pub loaded : (s : ℕ) → mark a.parts (p.places.loaded s) ≡ true → mark b.parts (p.places.loaded s) ≡ true
  pub unbound : (node : ℕ) → mark a.parts (p.places.unbound node) ≡ true → mark b.parts (p.places.unbound node) ≡ true
  pub faulty : (flaw : Flaw) (node : ℕ) → a.faulty flaw node ≡ true → b.faulty flaw node ≡ true
  pub elements : (node : ℕ) → Below p.tables.classes b.parts.same (a.element node) (b.element node)

-- An annotation of a program's trees: as many cells, marks and sites as the start, well-formed in its parts, closed under all that the trees ask and
-- free of conflict.
pub record IsAnnotation (p : Whole) (sites : List (Option Object)) (functions : List Function) (start : Assignment) (a : Annotation) : Type 0 where
  pub fits : Fits p.tables.classes start a.parts
  pub closed : IsClosed p sites a functions

-- it is one, and below each
pub record IsLeast (p : Whole) (sites : List (Option Object)) (functions : List Function) (start : Assignment) (a : Annotation) : Type 0 where
  pub is : IsAnnotation p sites functions start a
  pub least : (b : Annotation) → IsAnnotation p sites functions start b → IsLower p a b

-- Annotations that are closed under all that the trees of a program ask, and free of conflict.
use Rattle.std.specs.Prelude.{◌≡◌, ◌<◌, ℕ, ◌+◌, if◌then◌else◌, true, List, [], length, slice_get, Option, Some, None}
use Rattle.rpy_tree.specs.Value.{Object}
use Rattle.ann_lattice.specs.Shape.{NoneOnly}
use Rattle.ann_lattice.specs.Assign.{at, mark}
use Rattle.ann_rules.specs.Program.{Whole}
use Rattle.ann_rules.specs.Rules.{entry_needs, site_needs, numbered}
use Rattle.ann_rules.specs.Hold.{AllHold}
use Rattle.flow_trees.specs.Tree.{Function}
use Rattle.ann_tree.specs.Annotation.{Annotation, Environment, Point, Away, Towards, at_start, At, IsFree}
use Rattle.ann_tree.specs.Leaves.{Returns, LeavesAll}

-- how many locals are bound when a function starts
abbrev pub bound : Function → ℕ
bound function = if function.takes_more then length function.defaults + 1 else length function.defaults

-- the program, and what its sites hold before the run
module _ (p : Whole) (sites : List (Option Object)) (a : Annotation) where
  abbrev pub before : ℕ → Function → Environment
  before f function = at_start (λ i. at a.parts (p.places.param f i)) (length function.defaults) (bound function)

  -- the body of a reached function, with the elements of its parameters; where its end is reached it returns `None`
  abbrev pub IsClosedIn : ℕ → Function → Type 0
  IsClosedIn f function =
      mark a.parts (p.places.reached f) ≡ true
      → (end : Point)
      × LeavesAll p sites a f function.locals [] function.body (before f function) (record { next = end; broken = Towards end; continued = Towards end; returned = Away })
      × At end (λ g. Returns p sites a f function.locals NoneOnly)

  abbrev pub IfFunction : ℕ → Option Function → Type 0
  IfFunction f None = Unit {0}
  IfFunction f (Some function) = IsClosedIn f function

  -- a function has its places
  abbrev pub IsPlacedIn : ℕ → Option Function → Type 0
  IsPlacedIn f None = Unit {0}
  IsPlacedIn f (Some function) =
      (p.places.reached f < length a.parts.marks)
      × (p.places.result f < length a.parts.cells)
      × ((i : ℕ) → i < length function.defaults → p.places.param f i < length a.parts.cells)

  -- what has no place is asked nothing, so functions and sites have theirs
  pub record HasPlaces (functions : List Function) : Type 0 where
    pub of_functions : (f : ℕ) → IsPlacedIn f (slice_get functions f)
    pub of_sites : (s : ℕ) → s < length p.sites → (p.places.item s < length a.parts.cells) × (p.places.key s < length a.parts.cells)

  -- the entry point is reached with the list of arguments; each reached function is closed; the sites of one class hold the same, and what they hold
  -- before the run
  pub record IsClosed (functions : List Function) : Type 0 where
    pub placed : HasPlaces functions
    pub entry : AllHold p.tables.classes a.parts (entry_needs p a.parts)
    pub functions_are : (f : ℕ) → IfFunction f (slice_get functions f)
    pub sites_are : AllHold p.tables.classes a.parts (numbered p a.parts (site_needs p a.parts) 0 p.sites)
    pub free : IsFree p.places a

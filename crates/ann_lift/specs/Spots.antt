-- What stands at the blocks of a graph, by the places of their variables, and what the rules of graphs ask of it, block by block.
use Rattle.std.specs.Prelude.{◌≡◌, ◌<◌, ℕ, suc, ◌==◌, ◌&&◌, ◌||◌, not, if◌then◌else◌, Bool, true, false, List, [], ◌∷◌, length, map, Option, Some, slice_get}
use Rattle.rpy_tree.specs.Value.{Object}
use Rattle.rpy_meaning.specs.declared.row.RowOp.{RowOp}
use Rattle.flow_graph.specs.declared.graph.Graphs.{Graphs}
use Rattle.flow_meaning.specs.Machine.{block_in}
use Rattle.flow_stands.specs.Places.{Jump, Shape as Form, Go, Fork, Does, Plain, GiveBack, GiveUp, numbered}
use Rattle.ann_lattice.specs.Shape.{Shape, Nothing, Inst, Clash}
use Rattle.ann_lattice.specs.Join.{is_clash}
use Rattle.ann_lattice.specs.Laws.{IsFormed}
use Rattle.ann_lattice.specs.Kind.{is_nothing, some_nothing}
use Rattle.ann_lattice.specs.Assign.{mark, Up, Set, Under, Holds}
use Rattle.ann_rules.specs.Program.{Whole}
use Rattle.ann_rules.specs.Asks.{asks}
use Rattle.ann_rules.specs.Rules.{asked, goes, is_copy, is_narrowing}
use Rattle.ann_rules.specs.Hold.{AllHold}
use Rattle.flow_trees.specs.Tree.{Function}
use Rattle.flow_trees.specs.Marks.{blocks_of}
use Rattle.ann_tree.specs.Faults.{Flaw, shows}
use Rattle.ann_tree.specs.Annotation.{Annotation, Environment, Passes}
use Rattle.ann_tree.specs.Gives.{AreFormed}
use Rattle.ann_tree.specs.Closed.{before}

-- Whether a block is reached; the element of the variable at each place, inputs first and then the result, and whether it may be unbound.
pub record Spot : Type 0 where
  pub reached : Bool
  pub element : ℕ → Shape
  pub unbound : ℕ → Bool

abbrev pub Spots : Type 0
Spots = ℕ → Spot

-- the variable at a place is an exception of a class
abbrev pub as_class : Spot → ℕ → ℕ → Spot
as_class s m c = record { reached = s.reached; element = λ j. if j == m then Inst c false else s.element j; unbound = λ j. if j == m then false else s.unbound j }

-- what nothing reaches need not be in conflict
abbrev pub calm : Shape → Shape
calm (Clash o q) = Nothing
calm x = x

abbrev pub first_unbound : Spot → List ℕ → Bool
first_unbound s [] = false
first_unbound s (i ∷ places) = s.unbound i

abbrev pub goes_on : RowOp → Shape → Bool
goes_on o x = is_narrowing o || not (is_nothing x)

-- the parts of the program and the elements of its nodes; the graph is that of function f
module _ (p : Whole) (a : Annotation) (f : ℕ) where
  -- what stands at one place passes to another
  abbrev pub Pass : Spot → ℕ → Spot → ℕ → Type 0
  Pass s i t j = Passes p.tables.classes a.parts.same (s.element i) (t.element j) × (s.unbound i ≡ true → t.unbound j ≡ true)

  abbrev pub Carries : Spot → Spot → ℕ → List ℕ → Type 0
  Carries s t j [] = Unit {0}
  Carries s t j (i ∷ places) = Pass s i t j × Carries s t (suc j) places

  -- the block of the jump is reached, and its inputs are above what goes there
  abbrev pub Goes : Spots → Spot → Jump → Type 0
  Goes at s jump = ((at jump.to).reached ≡ true) × Carries s (at jump.to) 0 jump.places

  abbrev pub Catches : Spots → Spot → ℕ → List (ℕ × Jump) → Type 0
  Catches at s m [] = Unit {0}
  Catches at s m (hand ∷ hands) = Goes at (as_class s m hand.0) hand.1 × Catches at s m hands

  -- what an operation asks of its operands, its result, the parts of the program and the marks of its node
  pub record Operates (s : Spot) (m node : ℕ) (value : Bool) (o : RowOp) (args : List ℕ) : Type 0 where
    pub reads : (is_copy o && first_unbound s args) ≡ true → Holds p.tables.classes a.parts (Set (p.places.unbound node))
    pub keeps : (is_narrowing o && first_unbound s args) ≡ true → s.unbound m ≡ true
    pub gives : some_nothing (map s.element args) ≡ false
        → Under p.tables.classes a.parts.same (asked p a.parts f o (map s.element args) node) (s.element m) × AllHold p.tables.classes a.parts (asks p a.parts o (map s.element args))
    pub formed : AreFormed (map s.element args) → IsFormed (s.element m)
    pub marked : (flaw : Flaw) → some_nothing (map s.element args) ≡ false → shows p a.parts flaw value o (map s.element args) ≡ true → a.faulty flaw node ≡ true

  -- what a reached block with m inputs asks
  abbrev pub Fits : Spots → Spot → ℕ → ℕ → Bool → Form → Type 0
  Fits at s m node value (Go jump) = Goes at s jump
  Fits at s m node value (Fork test so other_way) = (goes true (s.element test) ≡ true → Goes at s so) × (goes false (s.element test) ≡ true → Goes at s other_way)
  Fits at s m node value (Does o args covers hands default norm) =
      Catches at s m hands × Goes at (as_class s m 0) default × Operates s m node value o args × (goes_on o (s.element m) ≡ true → Goes at s norm)
  Fits at s m node value (Plain o jump) = Operates s m node value o [] × (goes_on o (s.element m) ≡ true → Goes at s jump)
  Fits at s m node value GiveBack = Holds p.tables.classes a.parts (Up (p.places.result f) (s.element 0 ∷ []))
  Fits at s m node value GiveUp = Unit {0}

  -- the result is in no conflict; what gives the value of its node has the node's element
  abbrev pub IsValue : Bool → ℕ → Shape → Type 0
  IsValue true node x = x ≡ calm (a.element node)
  IsValue false node x = Unit {0}

  abbrev pub Results : Spot → ℕ → ℕ → Bool → Form → Type 0
  Results s m node value (Does o args covers hands default norm) = (is_clash (s.element m) ≡ false) × IsValue value node (s.element m)
  Results s m node value (Plain o jump) = (is_clash (s.element m) ≡ false) × IsValue value node (s.element m)
  Results s m node value other = Unit {0}

  -- the block has a form, and what stands there is as the rules of graphs ask
  abbrev pub Good : Graphs → Spots → ℕ → Type 0
  Good gs at b =
      (base m node : ℕ) × (value : Bool) × (form : Form)
      × (block_in (slice_get gs.graphs f) b ≡ Some (numbered base m node value form))
      × Results (at b) m node value form
      × ((at b).reached ≡ true → Fits at (at b) m node value form)

  -- the block is reached with this environment of so many locals
  abbrev pub Starts : Spot → ℕ → Environment → Type 0
  Starts s n e = (s.reached ≡ true) × ((j : ℕ) → j < n → (s.element j ≡ e.element j) × (s.unbound j ≡ e.unbound j))

  -- what stands at all blocks of the graph of a function; where it is reached, its first block is, with its parameters
  pub record Shown (sites : List (Option Object)) (gs : Graphs) (function : Function) : Type 0 where
    pub spots : Spots
    pub good : (b : ℕ) → b < length (blocks_of (slice_get gs.graphs f)) → Good gs spots b
    pub starts : mark a.parts (p.places.reached f) ≡ true → Starts (spots 0) function.locals (before p sites a f function)

-- States of the machine whose variables are of their elements.
use Rattle.std.specs.Prelude.{◌≡◌, ℕ, true, List, [], ◌∷◌, ◌++◌, map, slice_get, unwrap_or, Option, Some, None}
use Rattle.rpy_tree.specs.Value.{Value}
use Rattle.rpy_meaning.specs.Tree.{Program}
use Rattle.flow_graph.specs.declared.graph.Exit.{Exit}
use Rattle.flow_graph.specs.declared.graph.Op.{Op}
use Rattle.flow_graph.specs.declared.graph.Graph.{Graph}
use Rattle.flow_meaning.specs.Machine.{Bound, Frame, State, Calling, At, Returning, Throwing}
use Rattle.ann_lattice.specs.Shape.{Shape}
use Rattle.ann_lattice.specs.Order.{Sub}
use Rattle.ann_lattice.specs.Assign.{Assignment, at, mark}
use Rattle.ann_rules.specs.Program.{Whole}
use Rattle.ann_rules.specs.Asks.{defaults, when}
use Rattle.ann_rules.specs.Rules.{value, may_be_unbound, ops_needs, exception_needs, goes_on}
use Rattle.sound_values.specs.Values.{Sort, InstanceOf, Keeps}
use Rattle.sound_values.specs.Heaps.{IsOf, IsTyped}
use Rattle.sound_rows.specs.Sound.{AllMet, ArgumentsAre}
use Rattle.sound_runs.specs.Graphs.{CatchFits, RestFits}

abbrev pub names : List Bound → List ℕ
names env = map (λ (b : Bound). b.variable) env

module _ (p : Whole) (a : Assignment) (q : Program) where
  -- a variable is of its element, or unbound where it may be
  abbrev pub BoundIs : List Sort → ℕ → ℕ → Option Value → Type 0
  BoundIs sorts g v (Some u) = IsOf p a sorts (value p a g v) u
  BoundIs sorts g v None = may_be_unbound p a g v ≡ true

  abbrev pub EnvIs : List Sort → ℕ → List Bound → Type 0
  EnvIs sorts g [] = Unit {0}
  EnvIs sorts g (b ∷ env) = BoundIs sorts g b.variable b.value × EnvIs sorts g env

  -- what who waits is to be given: the result of the call under way, or that of the entry point
  abbrev pub awaited : List Frame → Shape
  awaited [] = at a (p.places.result p.entry)
  awaited (frame ∷ frames) = value p a frame.graph frame.call.result

  -- what the function gives, or what is given instead, is what who waits is to be given
  abbrev pub GivesBack : List Sort → ℕ → Option Value → List Frame → Type 0
  GivesBack sorts f instead frames =
      (later : List Sort) → Keeps sorts later → (v : Value) → IsOf p a later (at a (p.places.result f)) v → IsOf p a later (awaited frames) (unwrap_or instead v)

  -- a block runs in a graph: its variables are of their elements, what is left of it is asked for, and reads what is known
  pub record Runs (sorts : List Sort) (g : ℕ) (ops : List Op) (e : Exit) (env : List Bound) (instead : Option Value) (frames : List Frame) : Type 0 where
    pub graph : Graph
    pub there : slice_get p.graphs g ≡ Some graph
    pub number : graph.function ≡ g
    pub vars : EnvIs sorts g env
    pub rest : RestFits p a g graph (names env) ops e
    pub met : AllMet p.tables.classes a (ops_needs p a g graph ops e)
    pub caught : AllMet p.tables.classes a (exception_needs p a g graph e)
    pub back : GivesBack sorts g instead frames

  -- a call waits for its result, with what is left of its block
  pub record Waits (sorts : List Sort) (frame : Frame) (frames : List Frame) : Type 0 where
    pub graph : Graph
    pub there : slice_get p.graphs frame.graph ≡ Some graph
    pub number : graph.function ≡ frame.graph
    pub vars : EnvIs sorts frame.graph frame.env
    pub catch : CatchFits p a frame.graph graph (names frame.env) frame.ops frame.exit
    pub rest : RestFits p a frame.graph graph (names frame.env ++ frame.call.result ∷ []) frame.ops frame.exit
    pub met : AllMet p.tables.classes a (when (goes_on p a frame.graph frame.call) (ops_needs p a frame.graph graph frame.ops frame.exit))
    pub caught : AllMet p.tables.classes a (exception_needs p a frame.graph graph frame.exit)
    pub back : GivesBack sorts frame.graph frame.instead frames

  abbrev pub AllWait : List Sort → List Frame → Type 0
  AllWait sorts [] = Unit {0}
  AllWait sorts (frame ∷ frames) = Waits sorts frame frames × AllWait sorts frames

  -- an instance of an exception class
  pub record IsThrowable (sorts : List Sort) (r : ℕ) : Type 0 where
    pub class : ℕ
    pub sort : slice_get sorts r ≡ Some (InstanceOf class)
    pub exception : Sub p.tables.classes class 0

  -- a function that is reached is called with arguments of its parameters
  pub record IsCalled (sorts : List Sort) (f : ℕ) (args : List Value) (instead : Option Value) (frames : List Frame) : Type 0 where
    pub reached : mark a (p.places.reached f) ≡ true
    pub arguments : ArgumentsAre p a q sorts f 0 (defaults p f) args
    pub back : GivesBack sorts f instead frames

  abbrev pub Stands : List Sort → State → Type 0
  Stands sorts (Calling f args instead frames world) = IsTyped p a q.sites sorts world.heap × (AllWait sorts frames × IsCalled sorts f args instead frames)
  Stands sorts (At g ops e env instead frames world) = IsTyped p a q.sites sorts world.heap × (AllWait sorts frames × Runs sorts g ops e env instead frames)
  Stands sorts (Returning v frames world) = IsTyped p a q.sites sorts world.heap × (AllWait sorts frames × IsOf p a sorts (awaited frames) v)
  Stands sorts (Throwing r frames world) = IsTyped p a q.sites sorts world.heap × (AllWait sorts frames × IsThrowable sorts r)

  -- the state is one whose variables are of their elements, for some sorts of its objects
  abbrev pub IsSound : State → Type 0
  IsSound state = (sorts : List Sort) × Stands sorts state

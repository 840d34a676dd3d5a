-- What is known of a program and its graphs, under an assignment.
use Rattle.std.specs.Prelude.{◌≡◌, ◌||◌, ℕ, true, false, List, [], ◌∷◌, ◌++◌, length, map, slice_get, Option, Some, None, option_map}
use Rattle.rpy_meaning.specs.Tree.{Function, Program}
use Rattle.rpy_meaning.specs.Operations.{constant}
use Rattle.flow_graph.specs.declared.graph.Link.{Link}
use Rattle.flow_graph.specs.declared.graph.Exit.{Exit}
use Rattle.flow_graph.specs.declared.graph.Exit.TheVariants as exit
use Rattle.flow_graph.specs.declared.graph.Op.{Op}
use Rattle.flow_graph.specs.declared.graph.Block.{Block}
use Rattle.flow_graph.specs.declared.graph.Graph.{Graph}
use Rattle.flow_graph.specs.declared.graph.Graphs.{Graphs}
use Rattle.ann_lattice.specs.Shape.{Shape, Inst}
use Rattle.ann_lattice.specs.Join.{is_clash}
use Rattle.ann_lattice.specs.Order.{Sub, has}
use Rattle.ann_lattice.specs.Kind.{is_int, is_nothing}
use Rattle.ann_lattice.specs.Assign.{Assignment, at, mark}
use Rattle.ann_lattice.specs.Row.{truth_of}
use Rattle.ann_rules.specs.Program.{Callee, Whole}
use Rattle.ann_rules.specs.Rules.{needs, value, may_be_unbound}
use Rattle.sound_rows.specs.Seen.{Sees}
use Rattle.sound_rows.specs.Sound.{AllMet}

module _ (p : Whole) (a : Assignment) where
  module _ (g : ℕ) where
    -- a variable that is read is known, and is none that may be unbound
    abbrev pub IsRead : List ℕ → ℕ → Type 0
    IsRead vars v = (has vars v ≡ true) × (may_be_unbound p a g v ≡ false)

    abbrev pub AreRead : List ℕ → List ℕ → Type 0
    AreRead vars [] = Unit {0}
    AreRead vars (v ∷ vs) = IsRead vars v × AreRead vars vs

    abbrev pub AreKnown : List ℕ → List ℕ → Type 0
    AreKnown vars [] = Unit {0}
    AreKnown vars (v ∷ vs) = (has vars v ≡ true) × AreKnown vars vs

    -- an instance of an exception class
    abbrev pub IsException : Shape → Type 0
    IsException (Inst c false) = Sub p.tables.classes c 0
    IsException other = ⊥

    module _ (graph : Graph) where
      -- a link leads to a block, and passes a known variable for each of its inputs
      pub record LinkFits (vars : List ℕ) (l : Link) : Type 0 where
        pub block : Block
        pub there : slice_get graph.blocks l.to ≡ Some block
        pub count : length l.args ≡ length block.inputs
        pub known : AreKnown vars l.args

      abbrev pub LinksFit : List ℕ → List (ℕ × Link) → Type 0
      LinksFit vars [] = Unit {0}
      LinksFit vars (l ∷ ls) = LinkFits vars l.1 × LinksFit vars ls

      abbrev pub OtherFits : List ℕ → Option Link → Type 0
      OtherFits vars None = Unit {0}
      OtherFits vars (Some l) = LinkFits vars l

      -- a test has a truth, and what leaves a function by a raise is an exception
      abbrev pub ExitFits : List ℕ → Exit → Type 0
      ExitFits vars (exit.Goto l) = LinkFits vars l
      ExitFits vars (exit.If v one two) = (IsRead vars v × (is_clash (truth_of (value p a g v)) ≡ false)) × (LinkFits vars one × LinkFits vars two)
      ExitFits vars (exit.OnRaise v links other norm) = LinkFits vars norm
      ExitFits vars (exit.Return v) = IsRead vars v
      ExitFits vars (exit.Raise v) = IsRead vars v × IsException (value p a g v)

      -- where the last operation of a block throws, the exception is a new variable
      abbrev pub CatchFits : List ℕ → List Op → Exit → Type 0
      CatchFits vars [] (exit.OnRaise v links other norm) = (has vars v ≡ false) × (LinksFit (vars ++ v ∷ []) links × OtherFits (vars ++ v ∷ []) other)
      CatchFits vars ops e = Unit {0}

      -- what is left of a block reads what is known, and the results of its operations are in no conflict
      abbrev pub RestFits : List ℕ → List Op → Exit → Type 0
      RestFits vars [] e = ExitFits vars e
      RestFits vars (o ∷ ops) e = (AreRead vars o.args × (is_clash (value p a g o.result) ≡ false)) × (CatchFits vars ops e × RestFits (vars ++ o.result ∷ []) ops e)

  -- a function that is reached is there, with its graph
  pub record IsFunction (q : Program) (f : ℕ) : Type 0 where
    pub callee : Callee
    pub there : slice_get p.callees f ≡ Some callee
    pub function : Function
    pub seen : slice_get q.functions f ≡ Some function
    pub star : function.takes_more ≡ callee.star
    pub defaults : function.defaults ≡ map (option_map (constant q.sites)) callee.defaults
    pub graph : Graph
    pub own : slice_get p.graphs f ≡ Some graph
    pub number : graph.function ≡ f
    pub first : Block
    pub begins : slice_get graph.blocks 0 ≡ Some first

  -- All that the graphs ask is met. Blocks that are reached read no variable that may be unbound, and their links lead to blocks. The entry point gives an
  -- integer, or nothing.
  pub record IsSettled (q : Program) (gs : Graphs) : Type 0 where
    pub sees : Sees p q
    pub graphs : gs.graphs ≡ p.graphs
    pub entry : q.entry ≡ p.entry
    pub result : (is_int (at a (p.places.result p.entry)) || is_nothing (at a (p.places.result p.entry))) ≡ true
    pub met : AllMet p.tables.classes a (needs p a)
    pub functions : (f : ℕ) → mark a (p.places.reached f) ≡ true → IsFunction q f
    pub blocks : (g n : ℕ) (graph : Graph) (block : Block) → slice_get p.graphs g ≡ Some graph → slice_get graph.blocks n ≡ Some block → mark a (p.places.block g n) ≡ true
        → RestFits g graph block.inputs block.ops block.exit

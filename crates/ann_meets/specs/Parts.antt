-- What graphs ask, in parts that are small: each is asked anew after each step.
use Rattle.std.specs.Prelude.{ℕ, ◌&&◌, ◌||◌, Bool, true, false, List, [], ◌∷◌, ◌++◌, slice_get, Option, Some, None}
use Rattle.rpy_tree.specs.declared.program.Site.{Site}
use Rattle.flow_graph.specs.declared.graph.Link.{Link}
use Rattle.flow_graph.specs.declared.graph.Exit.{Exit}
use Rattle.flow_graph.specs.declared.graph.Exit.TheVariants as exit
use Rattle.flow_graph.specs.declared.graph.Op.{Op}
use Rattle.flow_graph.specs.declared.graph.Block.{Block}
use Rattle.flow_graph.specs.declared.graph.Graph.{Graph}
use Rattle.ann_lattice.specs.Assign.{Assignment, mark, Need, Set}
use Rattle.ann_rules.specs.Program as program
use Rattle.ann_rules.specs.Asks.{when}
use Rattle.ann_rules.specs.Rules as rule
use Rattle.ann_needs.specs.View.{callee_of, whole}
use Rattle.ann_needs.specs.declared.plan.Callee.{Callee}
use Rattle.ann_needs.specs.declared.plan.Plan.{Plan}
use Rattle.ann_meets.specs.declared.part.OpPlace.{OpPlace}
use Rattle.ann_meets.specs.declared.part.Way.{Way}
use Rattle.ann_meets.specs.declared.part.Way.TheVariants as way
use Rattle.ann_meets.specs.declared.part.Part.{Part}
use Rattle.ann_meets.specs.declared.part.Part.TheVariants as part
use Rattle.ann_meets.specs.declared.part.Piece.{Piece}
use Rattle.ann_meets.specs.Calls.{first_piece}

-- a link that an exception takes is reached where its block is
abbrev pub is_thrown : Way → Bool
is_thrown (way.Caught k) = true
is_thrown way.Other = true
is_thrown w = false

abbrev pub op_in : Option Block → ℕ → Option Op
op_in None i = None
op_in (Some b) i = slice_get b.ops i

abbrev pub op_at : List Block → OpPlace → Option Op
op_at blocks x = op_in (slice_get blocks x.block) x.index

module _ (p : program.Whole) (a : Assignment) (g : ℕ) where
  -- ---- operations

  -- each of these operations gave a value, or goes on without
  abbrev pub all_go : List Op → Bool
  all_go [] = true
  all_go (o ∷ os) = rule.goes_on p a g o && all_go os

  -- what operations ask up to one that gives no value
  abbrev pub ops_needs : List Op → List Need
  ops_needs [] = []
  ops_needs (o ∷ os) = rule.op_needs p a g o ++ when (rule.goes_on p a g o) (ops_needs os)

  abbrev pub ops_of : ℕ → Option Block → List Need
  ops_of n None = []
  ops_of n (Some b) = when (mark a (p.places.block g n)) (ops_needs b.ops)

  abbrev pub ops_in : ℕ → Option Graph → List Need
  ops_in n None = []
  ops_in n (Some graph) = ops_of n (slice_get graph.blocks n)

  -- a piece of what the first operation asks
  abbrev pub call_of : ℕ → Piece → Option Block → List Need
  call_of n x None = []
  call_of n x (Some b) = when (mark a (p.places.block g n)) (first_piece p a g x b.ops)

  abbrev pub call_in : ℕ → Piece → Option Graph → List Need
  call_in n x None = []
  call_in n x (Some graph) = call_of n x (slice_get graph.blocks n)

  -- ---- links

  abbrev pub is_open : ℕ → Block → Way → Bool
  is_open n b w = mark a (p.places.block g n) && (is_thrown w || all_go b.ops)

  abbrev pub pass_two : Option (ℕ × ℕ) → ℕ → Option ℕ → List Need
  pass_two caught input None = []
  pass_two caught input (Some v) = rule.passed p a g (rule.caught_as caught v) v input

  abbrev pub pass_one : Option (ℕ × ℕ) → Option ℕ → Option ℕ → List Need
  pass_one caught None v = []
  pass_one caught (Some input) v = pass_two caught input v

  module _ (graph : Graph) where
    -- a link reaches its block; or what goes on to its input at a place
    abbrev pub link : Option (ℕ × ℕ) → Link → Option ℕ → List Need
    link caught l None = Set (p.places.block g l.to) ∷ []
    link caught l (Some i) = pass_one caught (slice_get (rule.inputs_of (rule.block_at graph.blocks l.to)) i) (slice_get l.args i)

    abbrev pub caught_link : ℕ → Option (ℕ × Link) → Option ℕ → List Need
    caught_link v None i = []
    caught_link v (Some l) i = link (Some (v, l.0)) l.1 i

    abbrev pub other_link : ℕ → Option Link → Option ℕ → List Need
    other_link v None i = []
    other_link v (Some l) i = link (Some (v, 0)) l i

    abbrev pub raise_way : Way → ℕ → List (ℕ × Link) → Option Link → Link → Option ℕ → List Need
    raise_way (way.Caught k) v links other norm i = caught_link v (slice_get links k) i
    raise_way way.Other v links other norm i = other_link v other i
    raise_way way.First v links other norm i = link None norm i
    raise_way way.Second v links other norm i = []

    abbrev pub test_way : Way → ℕ → Link → Link → Option ℕ → List Need
    test_way way.First v one two i = when (rule.goes true (rule.value p a g v)) (link None one i)
    test_way way.Second v one two i = when (rule.goes false (rule.value p a g v)) (link None two i)
    test_way w v one two i = []

    -- the one way of an exit that has no other
    abbrev pub only_way : Way → List Need → List Need
    only_way way.First needs = needs
    only_way w needs = []

    abbrev pub by_way : Exit → Way → Option ℕ → List Need
    by_way (exit.Goto l) w i = only_way w (link None l i)
    by_way (exit.If v one two) w i = test_way w v one two i
    by_way (exit.OnRaise v links other norm) w i = raise_way w v links other norm i
    by_way (exit.Return v) w i = only_way w (rule.exit_needs p a g graph (exit.Return v))
    by_way (exit.Raise v) w i = []

    abbrev pub exit_of : ℕ → Way → Option ℕ → Option Block → List Need
    exit_of n w i None = []
    exit_of n w i (Some b) = when (is_open n b w) (by_way b.exit w i)

    -- ---- the results of one node

    abbrev pub tie_two : Op → Option Op → List Need
    tie_two o None = []
    tie_two o (Some q) = rule.tie_with p a g graph o q

    abbrev pub tie_one : Option Op → Option Op → List Need
    tie_one None y = []
    tie_one (Some o) y = tie_two o y

  abbrev pub exit_in : ℕ → Way → Option ℕ → Option Graph → List Need
  exit_in n w i None = []
  exit_in n w i (Some graph) = exit_of graph n w i (slice_get graph.blocks n)

  abbrev pub tie_in : OpPlace → OpPlace → Option Graph → List Need
  tie_in x y None = []
  tie_in x y (Some graph) = tie_one graph (op_at graph.blocks x) (op_at graph.blocks y)

module _ (p : program.Whole) (a : Assignment) where
  abbrev pub start_of : ℕ → Option Callee → List Need
  start_of f None = []
  start_of f (Some c) = rule.start_needs p a f (callee_of c)

  abbrev pub site_of : ℕ → Option Site → List Need
  site_of s None = []
  site_of s (Some site) = rule.site_needs p a s site

abbrev pub part_needs : Plan → Assignment → Part → List Need
part_needs q a part.Entry = rule.entry_needs (whole q) a
part_needs q a (part.Start f) = start_of (whole q) a f (slice_get q.callees f)
part_needs q a (part.Site s) = site_of (whole q) a s (slice_get q.sites s)
part_needs q a (part.Tie g x y) = tie_in (whole q) a g x y (slice_get q.graphs.graphs g)
part_needs q a (part.Ops g n) = ops_in (whole q) a g n (slice_get q.graphs.graphs g)
part_needs q a (part.Call g n x) = call_in (whole q) a g n x (slice_get q.graphs.graphs g)
part_needs q a (part.Link g n w i) = exit_in (whole q) a g n w i (slice_get q.graphs.graphs g)

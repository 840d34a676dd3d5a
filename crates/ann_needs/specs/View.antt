-- The data of this crate as the rules of graphs see them.
use Rattle.std.specs.Prelude.{ℕ, ◌+◌, ◌==◌, ◌&&◌, nat_lt, nat_le, if◌then◌else◌, Bool, false, List, [], ◌∷◌, ◌++◌, length, map, slice_get, unwrap_or, Option, Some, None}
use Rattle.std.specs.Str.{bytes_eq}
use Rattle.ann_lattice.specs.Shape.{Shape, Nothing, shape}
use Rattle.ann_lattice.specs.Assign.{Assignment, at, mark, Need, Up, Set}
use Rattle.ann_lattice.specs.Kind.{given, misfit}
use Rattle.ann_lattice.specs.Order.{is_key}
use Rattle.class_desc.specs.Line as line
use Rattle.ann_lattice.specs.declared.method.Method.{Method}
use Rattle.ann_rules.specs.Program as program
use Rattle.rpy_tree.specs.declared.program.Const.{Const}
use Rattle.rpy_tree.specs.declared.program.Site.{Site}
use Rattle.flow_graph.specs.declared.graph.Op.{Op}
use Rattle.flow_graph.specs.declared.graph.Block.{Block}
use Rattle.flow_graph.specs.declared.graph.Link.{Link}
use Rattle.flow_graph.specs.declared.graph.Graph.{Graph}
use Rattle.ann_rules.specs.Asks as rule
use Rattle.ann_rules.specs.Rules as rules
use Rattle.ann_needs.specs.declared.ask.Ask.{Ask}
use Rattle.ann_needs.specs.declared.ask.Ask.TheVariants as ask
use Rattle.ann_needs.specs.declared.ask.Asks.{Asks}
use Rattle.ann_needs.specs.declared.plan.Callee.{Callee}
use Rattle.ann_needs.specs.declared.plan.Plan.{Plan}
use Rattle.ann_needs.specs.declared.plan.Places.{Places}
use Rattle.ann_needs.specs.declared.state.State.{State}

abbrev pub need_of : Ask → Need
need_of (ask.Up c es) = Up c (map shape es)
need_of (ask.Set m) = Set m

abbrev pub seen : Asks → List Need
seen a = map need_of a.items

abbrev pub assignment : State → Assignment
assignment s = record { cells = map shape s.cells; marks = s.marks; same = s.same }

-- ---- places: what does not exist stands nowhere

abbrev pub nowhere : ℕ
nowhere = 18446744073709551615

abbrev pub place : List ℕ → ℕ → ℕ
place row i = unwrap_or (slice_get row i) nowhere

abbrev pub row_of : List (List ℕ) → ℕ → List ℕ
row_of rows g = unwrap_or (slice_get rows g) []

abbrev pub place_in : List (List ℕ) → ℕ → ℕ → ℕ
place_in rows g i = place (row_of rows g) i

abbrev pub named : List ℕ → List (List ℕ × ℕ) → ℕ
named name [] = nowhere
named name (entry ∷ entries) = if bytes_eq entry.0 name then entry.1 else named name entries

abbrev pub attribute_in : List (List (List ℕ × ℕ)) → ℕ → List ℕ → ℕ
attribute_in rows c name = named name (unwrap_or (slice_get rows c) [])

abbrev pub places : Places → program.Places
places p = record {
  variable = place_in p.variables;
  param = place_in p.params;
  result = place p.results;
  attribute = attribute_in p.attributes;
  item = place p.items;
  key = place p.keys;
  block = place_in p.blocks;
  reached = place p.reached;
  made = place p.made;
  loaded = place p.loaded;
  loose = place_in p.loose;
  unbound = place p.unbound;
}

abbrev pub has_literal : List Bool → ℕ → Bool
has_literal literals node = unwrap_or (slice_get literals node) false

abbrev pub callee_of : Callee → program.Callee
callee_of c = record { defaults = c.defaults; star = c.star }

abbrev pub whole : Plan → program.Whole
whole p = record {
  tables = p.classes;
  callees = map callee_of p.callees;
  sites = p.sites;
  graphs = p.graphs.graphs;
  entry = p.entry;
  has_literal = has_literal p.literals;
  places = places p.places;
}

-- ---- single elements

abbrev pub only : List Shape → Shape
only (x ∷ []) = x
only other = Nothing

-- what can be no key is in conflict there
abbrev pub as_key : Shape → Shape
as_key x = given (is_key x) x

-- the method that an instance of a made class has, where the class is below another
abbrev pub made_method : program.Whole → Assignment → ℕ → List ℕ → ℕ → Option ℕ
made_method p a d name c = if mark a (p.places.made c) && line.is_below p.tables.classes c d then line.method p.tables.classes c name else None

-- what a method of a dict that makes a list asks of that
abbrev pub listed_at : program.Whole → Assignment → Method → ℕ → Option ℕ → List Need
listed_at p a n s None = []
listed_at p a n s (Some site) = rule.listed p a n s site

abbrev pub misfits : List Shape
misfits = misfit ∷ []

-- ---- exits

-- the links by which an exception of some class goes on
abbrev pub caught_needs : program.Whole → Assignment → ℕ → Graph → ℕ → List (ℕ × Link) → List Need
caught_needs p a g graph v links = rule.from_each (λ l. rules.link_needs p a g graph (Some (v, l.0)) l.1) links

abbrev pub way_needs : program.Whole → Assignment → ℕ → Graph → Bool → Link → List Need
way_needs p a g graph may link = rule.when may (rules.link_needs p a g graph None link)

-- ---- starts of functions

-- what an input of the first block asks, by its place
abbrev pub input_need : program.Whole → Assignment → ℕ → ℕ → ℕ → ℕ → ℕ → List Need
input_need p a f count locals i v =
    rule.when (nat_lt i count) (Up (p.places.variable f v) (at a (p.places.param f i) ∷ []) ∷ []) ++ rule.when (nat_le locals i) (Set (p.places.loose f v) ∷ [])

abbrev pub locals_of : Callee → ℕ
locals_of c = if c.star then length c.defaults + 1 else length c.defaults

abbrev pub inputs_in : Option Graph → List ℕ
inputs_in None = []
inputs_in (Some graph) = rules.inputs_of (rules.block_at graph.blocks 0)

abbrev pub first_inputs : List Graph → ℕ → List ℕ
first_inputs graphs f = inputs_in (slice_get graphs f)

-- ---- the results of one node have one element

-- the results that are values of nodes, each with its node
abbrev pub valued : List Op → List (ℕ × ℕ)
valued [] = []
valued (o ∷ os) = if o.value then (o.node, o.result) ∷ valued os else valued os

abbrev pub all_valued : List Block → List (ℕ × ℕ)
all_valued [] = []
all_valued (b ∷ bs) = valued b.ops ++ all_valued bs

abbrev pub tie_two : program.Whole → Assignment → ℕ → ℕ × ℕ → ℕ × ℕ → List Need
tie_two p a g x y = rule.when (y.0 == x.0) (rule.tie p a (p.places.variable g x.1) (p.places.variable g y.1))

abbrev pub tie_with : program.Whole → Assignment → ℕ → ℕ × ℕ → List (ℕ × ℕ) → List Need
tie_with p a g x [] = []
tie_with p a g x (y ∷ ys) = tie_two p a g x y ++ tie_with p a g x ys

abbrev pub tie_each : program.Whole → Assignment → ℕ → List (ℕ × ℕ) → List (ℕ × ℕ) → List Need
tie_each p a g [] ys = []
tie_each p a g (x ∷ xs) ys = tie_with p a g x ys ++ tie_each p a g xs ys

abbrev pub graph_ties : program.Whole → Assignment → ℕ → Graph → List Need
graph_ties p a g graph = rules.tie_ops p a g graph (rules.all_ops p a g graph graph.blocks)

-- ---- sites

abbrev pub pairs_needs : program.Whole → Assignment → ℕ → Bool → List (Const × Const) → List Need
pairs_needs p a s dict cs = rule.from_each (rules.pair_needs p a s dict) cs

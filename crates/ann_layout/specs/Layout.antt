-- Where the parts of a program stand: the cells and the marks are numbered part by part.
use Rattle.std.specs.Prelude.{ℕ, zero, suc, ◌+◌, max, Bool, List, [], ◌∷◌, map, length, sum, Option, Some, None}
use Rattle.rpy_tree.specs.declared.program.Program.{Program}
use Rattle.flow_graph.specs.declared.graph.Op.{Op}
use Rattle.flow_graph.specs.declared.graph.Block.{Block}
use Rattle.flow_graph.specs.declared.graph.Graph.{Graph}
use Rattle.flow_graph.specs.declared.graph.Graphs.{Graphs}
use Rattle.class_desc.specs.Tables.{Tables, declared}
use Rattle.ann_needs.specs.declared.plan.Callee.{Callee}
use Rattle.ann_needs.specs.declared.plan.Plan.{Plan}
use Rattle.ann_needs.specs.declared.plan.Places.{Places}
use Rattle.ann_layout.specs.Callees.{callees}
use Rattle.ann_layout.specs.Literals.{literals}
use Rattle.ann_layout.specs.declared.layout.Layout.{Layout}
use Rattle.ann_layout.specs.declared.layout.Planned.{Planned}
use Rattle.ann_layout.specs.declared.layout.Parts.{Parts}

-- so many numbers from n on
abbrev pub numbers : ℕ → ℕ → List ℕ
numbers n zero = []
numbers n (suc count) = n ∷ numbers (suc n) count

-- rows of so many numbers each, one after the other
abbrev pub rows : ℕ → List ℕ → List (List ℕ)
rows n [] = []
rows n (count ∷ counts) = numbers n count ∷ rows (n + count) counts

-- the same of names, each with its number
abbrev pub named_row : ℕ → List (List ℕ) → List (List ℕ × ℕ)
named_row n [] = []
named_row n (name ∷ names) = (name, n) ∷ named_row (suc n) names

-- the attributes that classes declare, of so many classes from c on
abbrev pub named_rows : Tables → ℕ → ℕ → ℕ → List (List (List ℕ × ℕ))
named_rows t n c zero = []
named_rows t n c (suc count) = named_row n (declared t c) ∷ named_rows t (n + length (declared t c)) (suc c) count

-- the name at a place, with its number
abbrev pub named_at : ℕ → Option (List ℕ) → List (List ℕ × ℕ)
named_at n None = []
named_at n (Some name) = (name, n) ∷ []

abbrev pub declared_count : Tables → ℕ → ℕ → ℕ
declared_count t c zero = 0
declared_count t c (suc count) = length (declared t c) + declared_count t (suc c) count

-- ---- how many there are

-- a number above those of some variables
abbrev pub past_all : List ℕ → ℕ → ℕ
past_all [] most = most
past_all (v ∷ vs) most = past_all vs (max most (v + 1))

abbrev pub past_ops : List Op → ℕ → ℕ
past_ops [] most = most
past_ops (o ∷ os) most = past_ops os (max most (o.result + 1))

abbrev pub past_blocks : List Block → ℕ → ℕ
past_blocks [] most = most
past_blocks (b ∷ bs) most = past_blocks bs (past_ops b.ops (past_all b.inputs most))

abbrev pub variable_count : Graph → ℕ
variable_count g = past_blocks g.blocks 0

abbrev pub param_count : Callee → ℕ
param_count c = length c.defaults

abbrev pub block_count : Graph → ℕ
block_count g = length g.blocks

-- ---- the layout

-- Cells: parameters, results, attributes, items, keys, variables. Marks: reached functions, made classes, sites whose contents are there,
-- blocks, variables that may be unbound, nodes that read one.
module _ (params variables blocks : List ℕ) (functions classes sites nodes : ℕ) (t : Tables) where
  abbrev pub results_at : ℕ
  results_at = 0 + sum params

  abbrev pub attributes_at : ℕ
  attributes_at = results_at + functions

  abbrev pub items_at : ℕ
  items_at = attributes_at + declared_count t 0 classes

  abbrev pub keys_at : ℕ
  keys_at = items_at + sites

  abbrev pub variables_at : ℕ
  variables_at = keys_at + sites

  abbrev pub cell_count : ℕ
  cell_count = variables_at + sum variables

  abbrev pub made_at : ℕ
  made_at = 0 + functions

  abbrev pub loaded_at : ℕ
  loaded_at = made_at + classes

  abbrev pub blocks_at : ℕ
  blocks_at = loaded_at + sites

  abbrev pub loose_at : ℕ
  loose_at = blocks_at + sum blocks

  abbrev pub unbound_at : ℕ
  unbound_at = loose_at + sum variables

  abbrev pub mark_count : ℕ
  mark_count = unbound_at + nodes

  abbrev pub places : Places
  places = record {
    params = rows 0 params;
    results = numbers results_at functions;
    attributes = named_rows t attributes_at 0 classes;
    items = numbers items_at sites;
    keys = numbers keys_at sites;
    variables = rows variables_at variables;
    reached = numbers 0 functions;
    made = numbers made_at classes;
    loaded = numbers loaded_at sites;
    blocks = rows blocks_at blocks;
    loose = rows loose_at variables;
    unbound = numbers unbound_at nodes;
  }

  abbrev pub layout : Layout
  layout = record { places = places; cells = cell_count; marks = mark_count }

-- with no part at all
abbrev pub empty : Layout
empty = record {
  places = record { variables = []; params = []; results = []; attributes = []; items = []; keys = []; blocks = []; reached = []; made = []; loaded = []; loose = []; unbound = [] };
  cells = 0;
  marks = 0;
}

abbrev pub laid_out : Program → Graphs → Tables → List Callee → Layout
laid_out p gs t cs = layout (map param_count cs) (map variable_count gs.graphs) (map block_count gs.graphs) (length cs) (length t.classes) (length p.sites) (length p.uses) t

-- a program with its graphs, its classes and its places
abbrev pub plan : Program → Graphs → Tables → Plan
plan p gs t = record {
  classes = t;
  callees = callees p;
  sites = p.sites;
  graphs = gs;
  entry = p.entry;
  literals = literals (length p.uses) gs.graphs;
  places = (laid_out p gs t (callees p)).places;
}

abbrev pub planned : Program → Graphs → Tables → Planned
planned p gs t = record { plan = plan p gs t; cells = (laid_out p gs t (callees p)).cells; marks = (laid_out p gs t (callees p)).marks }

-- what a plan has beside its graphs and its classes
abbrev pub parts : Program → Graphs → Tables → Parts
parts p gs t = record { callees = callees p; sites = p.sites; literals = literals (length p.uses) gs.graphs; layout = laid_out p gs t (callees p) }

abbrev pub planned_with : Graphs → Tables → ℕ → Parts → Planned
planned_with gs t entry ps = record {
  plan = record { classes = t; callees = ps.callees; sites = ps.sites; graphs = gs; entry = entry; literals = ps.literals; places = ps.layout.places };
  cells = ps.layout.cells;
  marks = ps.layout.marks;
}

-- The rules of a program's graphs: what each operation, link and exit, the start of each reached function, the entry point and the classes of sites
-- ask of an assignment.
use Rattle.std.specs.Prelude.{ℕ, zero, suc, ◌+◌, ◌==◌, ◌&&◌, ◌||◌, not, nat_lt, nat_le, if◌then◌else◌, Bool, true, false, List, [], ◌∷◌, ◌++◌, length, map, get_or, slice_get, Option, Some, None, is_some}
use Rattle.std.specs.List.{flat_map}
use Rattle.rpy_tree.specs.declared.program.Const.{Const}
use Rattle.rpy_tree.specs.declared.program.Site.{Site}
use Rattle.rpy_meaning.specs.declared.row.RowOp.{RowOp}
use Rattle.rpy_meaning.specs.declared.row.RowOp.TheVariants as op
use Rattle.class_desc.specs.Line as line
use Rattle.flow_graph.specs.declared.graph.Link.{Link}
use Rattle.flow_graph.specs.declared.graph.Exit.{Exit}
use Rattle.flow_graph.specs.declared.graph.Exit.TheVariants as exit
use Rattle.flow_graph.specs.declared.graph.Op.{Op}
use Rattle.flow_graph.specs.declared.graph.Block.{Block}
use Rattle.flow_graph.specs.declared.graph.Graph.{Graph}
use Rattle.ann_element.specs.Sites.{leader}
use Rattle.ann_lattice.specs.Shape.{Width, One, Any, OrNone, Shape, Nothing, NoneOnly, Truth, Str, Lst, Inst}
use Rattle.ann_lattice.specs.Assign.{Assignment, at, mark, Need, Up, Set, Rules}
use Rattle.ann_lattice.specs.Kind.{misfit, is_nothing, some_nothing, some_clash}
use Rattle.ann_lattice.specs.Row.{pieces, constant}
use Rattle.ann_rules.specs.Program.{Callee, Places, Whole}
use Rattle.ann_rules.specs.Asks.{when, from_each, rest, to_items, to_keys, tie, loads, asks, parts, defaults}

-- the operation says only what a test found of a local
abbrev pub is_narrowing : RowOp → Bool
is_narrowing op.DropNone = true
is_narrowing op.OnlyNone = true
is_narrowing op.FalseNone = true
is_narrowing (op.Lower c) = true
is_narrowing op.NonNegative = true
is_narrowing o = false

abbrev pub is_copy : RowOp → Bool
is_copy op.Copy = true
is_copy o = false

-- a test that has this element may go one way
abbrev pub goes : Bool → Shape → Bool
goes way Nothing = false
goes way (Truth (Some true)) = way
goes way (Truth (Some false)) = not way
goes way other = true

abbrev pub block_at : List Block → ℕ → Option Block
block_at blocks n = slice_get blocks n

abbrev pub inputs_of : Option Block → List ℕ
inputs_of None = []
inputs_of (Some b) = b.inputs

-- the exception on a link, and the class that it has there
abbrev pub caught_as : Option (ℕ × ℕ) → ℕ → Option ℕ
caught_as None v = None
caught_as (Some c) v = if c.0 == v then Some c.1 else None

module _ (p : Whole) (a : Assignment) where
  module _ (g : ℕ) where
    abbrev pub value : ℕ → Shape
    value v = at a (p.places.variable g v)

    abbrev pub may_be_unbound : ℕ → Bool
    may_be_unbound v = mark a (p.places.loose g v)

    -- ---- operations

    -- a class without `__init__` takes no argument but, below `Exception`, a string literal
    abbrev pub is_unfit : RowOp → List Shape → ℕ → Bool
    is_unfit (op.New c) (x ∷ xs) node = not (is_some (line.init p.tables.classes c)) && not (p.has_literal node)
    is_unfit o xs node = false

    -- the pieces of its row, for each further part
    abbrev pub pieces_for : RowOp → List Shape → List Shape → List Shape
    pieces_for o xs [] = []
    pieces_for o xs (q ∷ qs) = pieces p.tables o xs q ++ pieces_for o xs qs

    abbrev pub asked : RowOp → List Shape → ℕ → List Shape
    asked o xs node = if is_unfit o xs node then misfit ∷ [] else pieces_for o xs (Nothing ∷ parts p a o xs)

    abbrev pub first_loose : List ℕ → Bool
    first_loose [] = false
    first_loose (v ∷ vs) = may_be_unbound v

    -- a local that may be unbound: its reading has the mark, and so has what a test says of it
    abbrev pub loose_needs : Op → List Need
    loose_needs o =
        when (is_copy o.op && first_loose o.args) (Set (p.places.unbound o.node) ∷ [])
        ++ when (is_narrowing o.op && first_loose o.args) (Set (p.places.loose g o.result) ∷ [])

    -- the result is above what the row asks, and where the row fits the parts of the program are above what it asks of them
    abbrev pub reached_needs : Op → List Shape → List Need
    reached_needs o xs = Up (p.places.variable g o.result) (asked o.op xs o.node) ∷ when (not (some_clash (asked o.op xs o.node))) (asks p a o.op xs)

    abbrev pub op_needs : Op → List Need
    op_needs o = loose_needs o ++ when (not (some_nothing (map value o.args))) (reached_needs o (map value o.args))

    -- an operation that gives no value stops its block
    abbrev pub goes_on : Op → Bool
    goes_on o = is_narrowing o.op || not (is_nothing (value o.result))

    -- ---- links

    abbrev pub passed : Option ℕ → ℕ → ℕ → List Need
    passed (Some c) v input = Up (p.places.variable g input) (Inst c false ∷ []) ∷ []
    passed None v input = Up (p.places.variable g input) (value v ∷ []) ∷ when (may_be_unbound v) (Set (p.places.loose g input) ∷ [])

    abbrev pub pass_all : Option (ℕ × ℕ) → List ℕ → List ℕ → List Need
    pass_all caught [] vs = []
    pass_all caught (input ∷ inputs) [] = []
    pass_all caught (input ∷ inputs) (v ∷ vs) = passed (caught_as caught v) v input ++ pass_all caught inputs vs

    module _ (graph : Graph) where
      abbrev pub link_needs : Option (ℕ × ℕ) → Link → List Need
      link_needs caught l = Set (p.places.block g l.to) ∷ pass_all caught (inputs_of (block_at graph.blocks l.to)) l.args

      -- ---- exits

      abbrev pub other_link : ℕ → Option Link → List Need
      other_link v None = []
      other_link v (Some l) = link_needs (Some (v, 0)) l

      -- the links by exception, which are reached where their block is
      abbrev pub exception_needs : Exit → List Need
      exception_needs (exit.OnRaise v links other norm) = from_each (λ l. link_needs (Some (v, l.0)) l.1) links ++ other_link v other
      exception_needs other = []

      abbrev pub exit_needs : Exit → List Need
      exit_needs (exit.Goto l) = link_needs None l
      exit_needs (exit.If v one two) = when (goes true (value v)) (link_needs None one) ++ when (goes false (value v)) (link_needs None two)
      exit_needs (exit.OnRaise v links other norm) = link_needs None norm
      exit_needs (exit.Return v) = Up (p.places.result graph.function) (value v ∷ []) ∷ []
      exit_needs (exit.Raise v) = []

      abbrev pub ops_needs : List Op → Exit → List Need
      ops_needs [] e = exit_needs e
      ops_needs (o ∷ os) e = op_needs o ++ when (goes_on o) (ops_needs os e)

      abbrev pub block_needs : Block → List Need
      block_needs b = exception_needs b.exit ++ ops_needs b.ops b.exit

      abbrev pub blocks_needs : ℕ → List Block → List Need
      blocks_needs n [] = []
      blocks_needs n (b ∷ bs) = when (mark a (p.places.block g n)) (block_needs b) ++ blocks_needs (suc n) bs

      -- ---- the results of one node have one element

      abbrev pub is_value_of : ℕ → Op → Bool
      is_value_of node o = o.value && (o.node == node)

      abbrev pub tie_with : Op → Op → List Need
      tie_with o q = when (o.value && is_value_of o.node q) (tie p a (p.places.variable g o.result) (p.places.variable g q.result))

      abbrev pub all_ops : List Block → List Op
      all_ops blocks = flat_map (λ b. b.ops) blocks

      abbrev pub tie_ops : List Op → List Need
      tie_ops os = from_each (λ o. from_each (tie_with o) os) os

      abbrev pub graph_needs : List Need
      graph_needs = blocks_needs zero graph.blocks ++ tie_ops (all_ops graph.blocks)

  -- ---- functions

  -- the inputs of the first block: parameters, a starred one, and other locals, which may be unbound
  abbrev pub input_needs : ℕ → ℕ → ℕ → ℕ → List ℕ → List Need
  input_needs f count locals i [] = []
  input_needs f count locals i (v ∷ vs) =
      when (nat_lt i count) (Up (p.places.variable f v) (at a (p.places.param f i) ∷ []) ∷ [])
      ++ (when (nat_le locals i) (Set (p.places.loose f v) ∷ []) ++ input_needs f count locals (suc i) vs)

  abbrev pub locals_of : Callee → ℕ
  locals_of c = if c.star then length c.defaults + 1 else length c.defaults

  abbrev pub first_inputs : Option Graph → List ℕ
  first_inputs None = []
  first_inputs (Some graph) = inputs_of (block_at graph.blocks zero)

  -- the start of a reached function
  abbrev pub start_needs : ℕ → Callee → List Need
  start_needs f c = when (mark a (p.places.reached f)) (Set (p.places.block f zero) ∷ input_needs f (length c.defaults) (locals_of c) zero (first_inputs (slice_get p.graphs f)))

  -- it takes the list of arguments, which are strings
  abbrev pub entry_needs : List Need
  entry_needs = to_items p a zero (Str Any) ++ Up (p.places.param p.entry zero) (Lst zero false ∷ []) ∷ Set (p.places.reached p.entry) ∷ []

  -- ---- sites

  abbrev pub pair_needs : ℕ → Bool → Const × Const → List Need
  pair_needs s dict c = when dict (loads p c.0 ++ to_keys p a s (constant c.0)) ++ (loads p c.1 ++ to_items p a s (constant c.1))

  abbrev pub contents : ℕ → Bool → Option (List (Const × Const)) → List Need
  contents s dict None = []
  contents s dict (Some cs) = from_each (pair_needs s dict) cs

  -- the sites of one class hold the same, and a site that is read what it holds before the run
  abbrev pub site_needs : ℕ → Site → List Need
  site_needs s site =
      tie p a (p.places.item s) (p.places.item (leader a.same s))
      ++ (tie p a (p.places.key s) (p.places.key (leader a.same s)) ++ when (mark a (p.places.loaded s)) (contents s site.dict site.prebuilt))

  -- ---- all of them

  abbrev pub numbered : {A : Type 0} → (ℕ → A → List Need) → ℕ → List A → List Need
  numbered f n [] = []
  numbered f n (x ∷ xs) = f n x ++ numbered f (suc n) xs

  abbrev pub needs : List Need
  needs = entry_needs ++ (numbered start_needs zero p.callees ++ (numbered graph_needs zero p.graphs ++ numbered site_needs zero p.sites))

-- a rule that asks nothing
abbrev pub no_need : Need
no_need = Up zero []

-- each need, by its number
abbrev pub rules : Whole → Rules
rules p r a = get_or (needs p a) r no_need

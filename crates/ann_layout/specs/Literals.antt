-- Which calls of classes have a string literal as their one argument. An expression is evaluated operation by operation, each in a block of its own,
-- and a literal goes on along a link to the call that takes it.
use Rattle.std.specs.Prelude.{ℕ, ◌==◌, ◌&&◌, ◌||◌, Bool, true, false, if◌then◌else◌, List, [], ◌∷◌, slice_get, slice_set, replicate, length, nat_lt, Option, Some, None}
use Rattle.rpy_meaning.specs.declared.row.RowOp.{RowOp}
use Rattle.rpy_meaning.specs.declared.row.RowOp.TheVariants as row
use Rattle.flow_graph.specs.declared.graph.Link.{Link}
use Rattle.flow_graph.specs.declared.graph.Exit.{Exit}
use Rattle.flow_graph.specs.declared.graph.Exit.TheVariants as exit
use Rattle.flow_graph.specs.declared.graph.Op.{Op}
use Rattle.flow_graph.specs.declared.graph.Block.{Block}
use Rattle.flow_graph.specs.declared.graph.Graph.{Graph}

abbrev pub is_text : RowOp → Bool
is_text (row.Str text) = true
is_text other = false

-- the variable is a string literal of the block
abbrev pub is_literal : ℕ → List Op → Bool
is_literal v [] = false
is_literal v (o ∷ os) = (o.result == v && is_text o.op) || is_literal v os

-- a link with these arguments passes a string literal of its block on to an input
abbrev pub passes_literal : ℕ → List ℕ → List ℕ → List Op → Bool
passes_literal v [] args os = false
passes_literal v (input ∷ inputs) [] os = false
passes_literal v (input ∷ inputs) (arg ∷ args) os = (input == v && is_literal arg os) || passes_literal v inputs args os

abbrev pub takes_one_literal : List ℕ → List ℕ → List ℕ → List Op → Bool
takes_one_literal (v ∷ []) inputs passed os = passes_literal v inputs passed os
takes_one_literal other inputs passed os = false

abbrev pub set_mark : ℕ → List Bool → List Bool
set_mark n marks = if nat_lt n (length marks) then slice_set marks n true else marks

abbrev pub is_new : RowOp → Bool
is_new (row.New c) = true
is_new other = false

-- an operation of the block that the link leads to
abbrev pub with_op : List Op → List ℕ → List ℕ → Op → List Bool → List Bool
with_op os passed inputs o marks = if is_new o.op && takes_one_literal o.args inputs passed os then set_mark o.node marks else marks

abbrev pub with_ops : List Op → List ℕ → List ℕ → List Op → List Bool → List Bool
with_ops os passed inputs [] marks = marks
with_ops os passed inputs (o ∷ to) marks = with_ops os passed inputs to (with_op os passed inputs o marks)

-- the link that a block goes on by, once its operations gave values, where it has one such link
abbrev pub onward : Exit → Option Link
onward (exit.Goto l) = Some l
onward (exit.OnRaise v links other l) = Some l
onward other = None

abbrev pub with_target : List Op → List ℕ → Option Block → List Bool → List Bool
with_target os passed None marks = marks
with_target os passed (Some to) marks = with_ops os passed to.inputs to.ops marks

abbrev pub with_link : List Block → List Op → Link → List Bool → List Bool
with_link blocks os l marks = with_target os l.args (slice_get blocks l.to) marks

abbrev pub with_onward : List Block → List Op → Option Link → List Bool → List Bool
with_onward blocks os None marks = marks
with_onward blocks os (Some l) marks = with_link blocks os l marks

abbrev pub with_block : List Block → Block → List Bool → List Bool
with_block blocks b marks = with_onward blocks b.ops (onward b.exit) marks

abbrev pub with_blocks : List Block → List Block → List Bool → List Bool
with_blocks blocks [] marks = marks
with_blocks blocks (b ∷ bs) marks = with_blocks blocks bs (with_block blocks b marks)

abbrev pub with_graphs : List Graph → List Bool → List Bool
with_graphs [] marks = marks
with_graphs (g ∷ gs) marks = with_graphs gs (with_blocks g.blocks g.blocks marks)

-- the nodes that call a class with a string literal as the one argument
abbrev pub literals : ℕ → List Graph → List Bool
literals nodes gs = with_graphs gs (replicate nodes false)

-- Whether a program has exceptions at all.
use Rattle.std.specs.Prelude.{ℕ, ◌+◌, ◌&&◌, ◌||◌, not, Bool, true, false, List, [], ◌∷◌, slice_get, Option, Some, None}
use Rattle.flow_graph.specs.declared.graph.Block.{Block}
use Rattle.flow_graph.specs.declared.graph.Exit.{Exit}
use Rattle.flow_graph.specs.declared.graph.Exit.TheVariants as exit
use Rattle.flow_graph.specs.declared.graph.Graph.{Graph}
use Rattle.flow_graph.specs.declared.graph.Link.{Link}
use Rattle.flow_graph.specs.declared.graph.Op.{Op}
use Rattle.ann_element.specs.declared.annotation.Annotation.{Annotation}
use Rattle.rpy_meaning.specs.declared.row.Covers.{Covers}
use Rattle.rpy_meaning.specs.declared.row.RowOp.{RowOp}
use Rattle.rpy_meaning.specs.declared.row.RowOp.TheVariants as row
use Rattle.rpy_meaning.specs.contracts.row.CoversPartialEq.TheImpl.{eq-value as equal_covers}
use Rattle.rtyper_layout.specs.declared.kind.Kind.{Kind}
use Rattle.rtyper_layout.specs.declared.kind.Kind.TheVariants as kind
use Rattle.rtyper_layout.specs.Kinds.{is_text}
use Rattle.rtyper_data.specs.Finding.{nothing}
use Rattle.rtyper_program.specs.Seen.{Known, is_reached, is_block_reached, variable_kind}

-- ---- where exceptions leave a graph

-- a block that does nothing but raise
abbrev pub only_raises : Exit → List Op → Bool
only_raises (exit.Raise v) [] = true
only_raises e ops = false

abbrev pub leaves_by : Option Block → Bool
leaves_by None = false
leaves_by (Some b) = only_raises b.exit b.ops

-- whether exceptions leave the graph from where they are raised
abbrev pub is_uncaught : Graph → Option Link → Bool
is_uncaught graph None = true
is_uncaught graph (Some link) = leaves_by (slice_get graph.blocks link.to)

-- each graph has a block from which exceptions leave it, and exits to that
abbrev pub catches : Graph → List (ℕ × Link) → Option Link → Bool
catches graph [] by = not (is_uncaught graph by)
catches graph (hand ∷ hands) by = true

abbrev pub exit_catches : Graph → Exit → Bool
exit_catches graph (exit.OnRaise v hands by without) = catches graph hands by
exit_catches graph e = false

-- ---- what raises

abbrev pub is_covered : Covers → Bool
is_covered c = not (equal_covers.it c nothing)

abbrev pub is_dict : Kind → Bool
is_dict kind.Dict = true
is_dict kind.MaybeDict = true
is_dict k = false

-- the kind of the first argument
abbrev pub first_kind : Annotation → ℕ → List ℕ → Kind
first_kind a number [] = kind.Never
first_kind a number (v ∷ args) = variable_kind a number v

-- of an operation whose first argument is of this kind, and which may have a failure that is covered: `int` of a string raises, and so does a key that is missing
abbrev pub raises_by : RowOp → Kind → Bool → Bool
raises_by row.Raise k covered = true
raises_by (row.Checked o) k covered = true
raises_by row.CheckedNeg k covered = true
raises_by row.ToInt k covered = is_text k
raises_by (row.Index i) k covered = is_dict k || covered
raises_by row.DeleteIndex k covered = is_dict k || covered
raises_by o k covered = covered

abbrev pub has_exceptions : Annotation → ℕ → Op → Bool
has_exceptions a number o = raises_by o.op (first_kind a number o.args) (is_covered o.covered)

abbrev pub any_raises : Annotation → ℕ → List Op → Bool
any_raises a number [] = false
any_raises a number (o ∷ ops) = has_exceptions a number o || any_raises a number ops

unfoldable pub block_raises : Annotation → ℕ → Graph → Block → Bool
block_raises a number graph block = any_raises a number block.ops || exit_catches graph block.exit

-- from the n-th block on
abbrev pub blocks_raise : Annotation → ℕ → Graph → ℕ → List Block → Bool
blocks_raise a number graph n [] = false
blocks_raise a number graph n (block ∷ blocks) = (is_block_reached a number n && block_raises a number graph block) || blocks_raise a number graph (n + 1) blocks

unfoldable pub graph_raises : Annotation → ℕ → Graph → Bool
graph_raises a number graph = blocks_raise a number graph 0 graph.blocks

-- from the n-th graph on
abbrev pub graphs_raise : Annotation → ℕ → List Graph → Bool
graphs_raise a n [] = false
graphs_raise a n (graph ∷ graphs) = (is_reached a graph.function && graph_raises a n graph) || graphs_raise a (n + 1) graphs

-- whether what is reached of a program raises or catches exceptions
abbrev pub raises : Known → Bool
raises known = graphs_raise known.annotation 0 known.graphs

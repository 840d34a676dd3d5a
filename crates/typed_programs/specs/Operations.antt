-- What is known of the operations of a program that passed its checks.
use Rattle.std.specs.Prelude.{◌≡◌, ◌⊎◌, ℕ, true, List, map, slice_get, Some}
use Rattle.ann_element.specs.declared.annotation.Annotation.{Annotation}
use Rattle.ann_lattice.specs.Kind.{some_nothing}
use Rattle.ann_rules.specs.Rules.{needs, value}
use Rattle.class_desc.specs.Tables.{tables}
use Rattle.flow_graph.specs.declared.graph.Block.{Block}
use Rattle.flow_graph.specs.declared.graph.Graph.{Graph}
use Rattle.flow_graph.specs.declared.graph.Graphs.{Graphs}
use Rattle.flow_graph.specs.declared.graph.Op.{Op}
use Rattle.flow_space.specs.Placed.{NodesAt}
use Rattle.ll_code.specs.declared.program.LlProgram.{LlProgram}
use Rattle.object_laws.specs.Known.{Known as Seen}
use Rattle.rpy_checked.specs.Settles.{HasTypes}
use Rattle.rpy_resolved.specs.declared.tree.Resolved.{Resolved}
use Rattle.rpy_tree.specs.declared.program.Program.{Program}
use Rattle.rtyper_program.specs.Program.{IsLaid}
use Rattle.rtyper_program.specs.Raises.{has_exceptions}
use Rattle.rtyper_program.specs.Seen.{is_block_reached}
use Rattle.rtyped_runs.specs.Laws.{ExceptionsAreLaid}
use Rattle.sound_rows.specs.Sound.{AllMet}
use Rattle.typed_rows.specs.Programs.{Typed, HasParts, setting}
use Rattle.typed_rows.specs.Rows.{IsOp}
use Rattle.typed_programs.specs.Made.{known_in, typed_in}

-- there is nothing of an operand
abbrev pub HasNothing : Typed → ℕ → Op → Type 0
HasNothing t g o = some_nothing (map (value t.whole t.assigned g) o.args) ≡ true

-- The first operation of each block that is reached has what rows ask, or an operand of which there is nothing, where all that graphs ask is met, parts have their elements,
-- and what raises has the structs of exceptions.
abbrev pub OperationsHaveTypes : Type 0
OperationsHaveTypes = (program : Program) (gs : Graphs) (n : Annotation) (types : HasTypes program gs n) (resolved : Resolved) (p : LlProgram) (made : IsLaid (known_in resolved gs n) (tables program) p) (seen : Seen) (arguments : List (List ℕ))
    → resolved.sites ≡ program.sites → NodesAt resolved gs
    → AllMet (tables program).classes (typed_in program gs n types resolved p made seen arguments).assigned (needs (typed_in program gs n types resolved p made seen arguments).whole (typed_in program gs n types resolved p made seen arguments).assigned)
    → HasParts (typed_in program gs n types resolved p made seen arguments)
    → (g m : ℕ) (graph : Graph) (b : Block) (o : Op) → slice_get gs.graphs g ≡ Some graph → slice_get graph.blocks m ≡ Some b → is_block_reached n g m ≡ true → slice_get b.ops 0 ≡ Some o
    → (has_exceptions n g o ≡ true → ExceptionsAreLaid (setting (typed_in program gs n types resolved p made seen arguments)))
    → HasNothing (typed_in program gs n types resolved p made seen arguments) g o ⊎ IsOp (typed_in program gs n types resolved p made seen arguments) g o

-- A program that passed its checks, with what `rtype` made of it and what its meaning is.
use Rattle.std.specs.Prelude.{ℕ, List}
use Rattle.ann_element.specs.declared.annotation.Annotation.{Annotation}
use Rattle.ann_layout.specs.Layout.{plan}
use Rattle.ann_needs.specs.View.{assignment, whole}
use Rattle.class_desc.specs.Tables.{tables}
use Rattle.flow_graph.specs.declared.graph.Graphs.{Graphs}
use Rattle.ll_code.specs.declared.program.LlProgram.{LlProgram}
use Rattle.object_laws.specs.Known.{Known as Seen}
use Rattle.rpy_checked.specs.Settles.{HasTypes}
use Rattle.rpy_resolved.specs.declared.tree.Resolved.{Resolved}
use Rattle.rpy_tree.specs.declared.program.Program.{Program}
use Rattle.rtyper_program.specs.Program.{IsLaid}
use Rattle.rtyper_program.specs.Seen.{Known}
use Rattle.typed_rows.specs.Programs.{Typed}

-- the parts that are lowered
abbrev pub known_in : Resolved → Graphs → Annotation → Known
known_in resolved gs n = record { program = resolved; graphs = gs.graphs; annotation = n }

-- what is known around its operations, where this is known of its objects
abbrev pub typed_in : (program : Program) (gs : Graphs) (n : Annotation) → HasTypes program gs n → (resolved : Resolved) (p : LlProgram) → IsLaid (known_in resolved gs n) (tables program) p → Seen → List (List ℕ) → Typed
typed_in program gs n types resolved p made seen arguments = record {
  known = known_in resolved gs n;
  classes = tables program;
  p = p;
  made = made;
  seen = seen;
  graphs = gs;
  arguments = arguments;
  whole = whole (plan program gs (tables program));
  assigned = assignment types.state;
}

-- The rules of a program that passed its checks see the elements and marks of its annotation.
use Rattle.std.specs.Prelude.{◌≡◌, ℕ, List}
use Rattle.ann_element.specs.declared.annotation.Annotation.{Annotation}
use Rattle.class_desc.specs.Tables.{tables}
use Rattle.flow_graph.specs.declared.graph.Graphs.{Graphs}
use Rattle.ll_code.specs.declared.program.LlProgram.{LlProgram}
use Rattle.object_laws.specs.Known.{Known as Seen}
use Rattle.rpy_checked.specs.Settles.{HasTypes}
use Rattle.rpy_resolved.specs.declared.tree.Resolved.{Resolved}
use Rattle.rpy_tree.specs.declared.program.Program.{Program}
use Rattle.rtyper_program.specs.Program.{IsLaid}
use Rattle.typed_rows.specs.Programs.{SeesElements}
use Rattle.typed_programs.specs.Made.{known_in, typed_in}

abbrev pub ElementsAreSeen : Type 0
ElementsAreSeen = (program : Program) (gs : Graphs) (n : Annotation) (types : HasTypes program gs n) (resolved : Resolved) (p : LlProgram) (made : IsLaid (known_in resolved gs n) (tables program) p) (seen : Seen) (arguments : List (List ℕ))
    → resolved.sites ≡ program.sites → SeesElements (typed_in program gs n types resolved p made seen arguments)

-- Programs that passed their checks are as laws of their blocks ask.
use Rattle.std.specs.Prelude.{ℕ, List}
use Rattle.ann_element.specs.declared.annotation.Annotation.{Annotation}
use Rattle.ann_rules.specs.Rules.{needs}
use Rattle.class_desc.specs.Tables.{tables}
use Rattle.flow_graph.specs.declared.graph.Graphs.{Graphs}
use Rattle.flow_space.specs.Placed.{NodesAt}
use Rattle.ll_code.specs.declared.program.LlProgram.{LlProgram}
use Rattle.object_laws.specs.Known.{Known as Seen}
use Rattle.rpy_checked.specs.Settles.{HasTypes}
use Rattle.rpy_resolved.specs.declared.tree.Resolved.{Resolved}
use Rattle.rpy_tree.specs.declared.program.Program.{Program}
use Rattle.rtyper_program.specs.Program.{IsLaid}
use Rattle.sound_rows.specs.Sound.{AllMet}
use Rattle.typed_programs.specs.Made.{known_in, typed_in}
use Rattle.typed_links.specs.Exits.{IsChecked}

-- The graphs of a program that has types are those of its trees, the blocks that are reached are those with a mark, and each variable has an element, where all that graphs ask is met.
abbrev pub ProgramsAreChecked : Type 0
ProgramsAreChecked = (program : Program) (gs : Graphs) (n : Annotation) (types : HasTypes program gs n) (resolved : Resolved) (p : LlProgram) (made : IsLaid (known_in resolved gs n) (tables program) p) (seen : Seen) (arguments : List (List ℕ)) → NodesAt resolved gs
    → AllMet (tables program).classes (typed_in program gs n types resolved p made seen arguments).assigned (needs (typed_in program gs n types resolved p made seen arguments).whole (typed_in program gs n types resolved p made seen arguments).assigned)
    → IsChecked (typed_in program gs n types resolved p made seen arguments)

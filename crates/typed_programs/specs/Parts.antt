-- The parts of a program that passed its checks have their elements.
use Rattle.std.specs.Prelude.{◌≡◌, ℕ, false, List, Some}
use Rattle.ann_element.specs.declared.annotation.Annotation.{Annotation}
use Rattle.ann_element.specs.declared.element.Element.{Element}
use Rattle.class_desc.specs.Tables.{tables}
use Rattle.flow_graph.specs.declared.graph.Graphs.{Graphs}
use Rattle.ll_code.specs.declared.program.LlProgram.{LlProgram}
use Rattle.object_laws.specs.Known.{Known as Seen}
use Rattle.conversion_laws.specs.Ordered.{IsLaid as IsLaidIn}
use Rattle.laid_laws.specs.Laid.{StandsIn}
use Rattle.rpy_checked.specs.Settles.{HasTypes}
use Rattle.rpy_resolved.specs.declared.tree.Resolved.{Resolved}
use Rattle.rpy_tree.specs.declared.program.Program.{Program}
use Rattle.rtyper_program.specs.Program.{IsLaid}
use Rattle.run_laws.specs.Points.{is_conflict}
use Rattle.typed_rows.specs.Programs.{HasParts, layout}
use Rattle.typed_programs.specs.Made.{known_in, typed_in}

-- Each function that is reached has as many parameters as defaults, and a result, and each site has items and keys; none of these is in conflict, nor is an
-- attribute; where each element that is in no conflict has its structs.
abbrev pub PartsAreThere : Type 0
PartsAreThere = (program : Program) (gs : Graphs) (n : Annotation) (types : HasTypes program gs n) (resolved : Resolved) (p : LlProgram) (made : IsLaid (known_in resolved gs n) (tables program) p) (seen : Seen) (arguments : List (List ℕ))
    → resolved.sites ≡ program.sites → ((e : Element) → StandsIn n e → is_conflict (Some e) ≡ false → IsLaidIn (layout (typed_in program gs n types resolved p made seen arguments)) n.same e)
    → HasParts (typed_in program gs n types resolved p made seen arguments)

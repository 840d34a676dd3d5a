-- Programs that have types are never wrong.
use Rattle.std.specs.Prelude.{ℕ, List}
use Rattle.rpy_tree.specs.declared.program.Program.{Program}
use Rattle.resolved_laws.specs.Meant.{meant_by}
use Rattle.flow_graph.specs.declared.graph.Graphs.{Graphs}
use Rattle.flow_meaning.specs.Meaning.{run, start}
use Rattle.ann_element.specs.declared.annotation.Annotation.{Annotation}
use Rattle.ann_needs.specs.View.{assignment}
use Rattle.rpy_checked.specs.Settles.{HasTypes}
use Rattle.sound_runs.specs.Graphs.{IsSettled}
use Rattle.sound_runs.specs.Runs.{ToldAlong, IsNotWrong}
use Rattle.sound_runs.specs.Start.{Begins}
use Rattle.sound_programs.specs.Whole.{whole_of, ReadsAreBound, IsWhole}

-- what the checks of a program settled meets all that its graphs ask, as the laws of runs ask of it
abbrev pub TypesAreSettled : Type 0
TypesAreSettled = (p : Program) (gs : Graphs) (n : Annotation) (types : HasTypes p gs n) → IsWhole p gs (assignment types.state) → ReadsAreBound (whole_of p gs) (assignment types.state)
    → IsSettled (whole_of p gs) (assignment types.state) (meant_by p) gs × Begins (whole_of p gs) (meant_by p)

-- so its runs are never wrong
abbrev pub ProgramsWithTypesAreNeverWrong : Type 0
ProgramsWithTypesAreNeverWrong = (p : Program) (gs : Graphs) (n : Annotation) (types : HasTypes p gs n) → IsWhole p gs (assignment types.state) → ReadsAreBound (whole_of p gs) (assignment types.state)
    → (args : List (List ℕ)) (steps k : ℕ) → ToldAlong (meant_by p) gs k (start (meant_by p) args steps) → IsNotWrong (run (meant_by p) gs k (start (meant_by p) args steps))

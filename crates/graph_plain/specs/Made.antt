-- The trees that are made of programs narrow nothing, so that what the narrowings of their flow graphs tell is true.
use Rattle.std.specs.Prelude.{◌≡◌, ◌≤◌, ℕ, List, ◌∷◌, length, Option, Some}
use Rattle.rpy_tree.specs.Value.{Value}
use Rattle.rpy_tree.specs.declared.program.Program.{Program}
use Rattle.rpy_meaning.specs.World.{World}
use Rattle.rpy_resolved.specs.Count.{function_count}
use Rattle.rpy_resolved.specs.declared.tree.Resolved.{Resolved}
use Rattle.resolved_laws.specs.Meant.{meant_by}
use Rattle.resolver_laws.specs.Listing.{HasNoInnerClasses}
use Rattle.resolver_laws.specs.Made.{IsMadeOf}
use Rattle.flow_graph.specs.declared.graph.Exit.{Exit}
use Rattle.flow_graph.specs.declared.graph.Graphs.{Graphs}
use Rattle.flow_graph.specs.declared.graph.Op.{Op}
use Rattle.flow_meaning.specs.Machine.{Bound, Frame, At, values_of}
use Rattle.flow_meaning.specs.Meaning.{start}
use Rattle.flow_space.specs.Placed.{StandFor}
use Rattle.flow_space.specs.Trees.{functions_of}
use Rattle.graph_told.specs.Plain.{ArePlain}
use Rattle.flow_runs.specs.Runs.{Reaches}
use Rattle.graph_told.specs.Told.{IsTold}

abbrev pub MadeTreesArePlain : Type 0
MadeTreesArePlain = (p : Program) (r : Resolved) → IsMadeOf p r → ArePlain (functions_of r)

-- Of the flow graphs of a program, wherever a run of it from the start stands before an operation with operands that are bound, what it tells of them is true.
abbrev pub ProgramsTellTheTruth : Type 0
ProgramsTellTheTruth = (p : Program) (gs : Graphs) → StandFor p gs → HasNoInnerClasses p.modules → function_count p.modules ≤ length p.functions → (args : List (List ℕ)) (n : ℕ)
    → (f : ℕ) (o : Op) (ops : List Op) (e : Exit) (env : List Bound) (instead : Option Value) (frames : List Frame) (w : World) → Reaches (meant_by p) gs (start (meant_by p) args n) (At f (o ∷ ops) e env instead frames w)
    → (vs : List Value) → values_of env o.args ≡ Some vs → IsTold (meant_by p) o.op w vs

-- What is asked of the variables and graphs of a program follows from what is plain.
use Rattle.run_laws.specs.Points.{is_conflict}
use Rattle.std.specs.Prelude.{◌≡◌, false, ℕ, List, length, slice_get, Option, Some}
use Rattle.ann_element.specs.declared.element.Element.{Element}
use Rattle.csub_tree.specs.State.{Block}
use Rattle.class_desc.specs.Tables.{Tables}
use Rattle.flow_graph.specs.declared.graph.Graph.{Graph}
use Rattle.flow_graph.specs.declared.graph.Graphs.{Graphs}
use Rattle.ll_code.specs.declared.program.LlProgram.{LlProgram}
use Rattle.rpy_meaning.specs.Tree.{Program as Meant}
use Rattle.rpy_resolved.specs.declared.tree.Resolved.{Resolved}
use Rattle.rtyper_program.specs.Graphs.{variables}
use Rattle.rtyper_program.specs.Program.{IsLaid}
use Rattle.rtyper_program.specs.Seen.{Known, Lowered, element_at}
use Rattle.layout_laws.specs.Knowing.{known_of}
use Rattle.object_laws.specs.Ghost.{Home}
use Rattle.conversion_laws.specs.Ordered as ordered
use Rattle.object_laws.specs.Known.{Known as Seen}
use Rattle.program_asks.specs.Standing.{world_in}
use Rattle.rtyped_laws.specs.Programs.{layout_for}
use Rattle.block_laws.specs.Links.{setting}
use Rattle.block_laws.specs.Operations.{HasTypes}
use Rattle.rtyped_runs.specs.Programs.{KnowsGraphs}

-- what is known of each variable, where that is no conflict, has its structs
abbrev pub AreLaid : Lowered → List ℕ → Type 0
AreLaid l same = (v : ℕ) (e : Element) → element_at l.known.annotation l.number v ≡ Some e → is_conflict (Some e) ≡ false → ordered.IsLaid l.world.around.layout same e

-- Then what is held by a variable has a type, and variables with a type are those of the graph.
abbrev pub VariablesHaveTypes : Type 0
VariablesHaveTypes = (l : Lowered) (same : List ℕ) (known : Seen) (graphs : Graphs) (p : LlProgram) (arguments : List (List ℕ)) → AreLaid l same → HasTypes (setting l known graphs p arguments) l.number (length (variables l.known l.world l.number))

-- each flow graph is that of the function with its number
abbrev pub AreOwn : List Graph → Type 0
AreOwn graphs = (n : ℕ) (graph : Graph) → slice_get graphs n ≡ Some graph → graph.function ≡ n

-- Then in every program of the lowering a function is known to have the number of its graph exactly where it is reached.
abbrev pub GraphsAreKnown : Type 0
GraphsAreKnown = (known : Known) (classes : Tables) (p : LlProgram) (r : IsLaid known classes p) (program : Resolved) (meant : Meant) (items keys : ℕ → Option Element) (static : ℕ → Option Block) (site : ℕ → Option Home)
    → AreOwn known.graphs → KnowsGraphs known (world_in known classes (layout_for known classes) p r) (known_of (world_in known classes (layout_for known classes) p r) program known.annotation.reached meant items keys static site)

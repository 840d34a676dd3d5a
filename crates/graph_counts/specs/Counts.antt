-- Which variables a graph has in the annotation of its program, and how many parameters a function.
use Rattle.std.specs.Prelude.{◌≡◌, ◌<◌, ℕ, List, [], ◌∷◌, length, map, slice_get, Option, Some, None}
use Rattle.rpy_tree.specs.declared.program.Program.{Program}
use Rattle.rpy_meaning.specs.Tree.{Function}
use Rattle.rpy_resolved.specs.declared.tree.Resolved.{Resolved}
use Rattle.resolver_laws.specs.Made.{IsMadeOf}
use Rattle.resolved_meaning.specs.Trees.{program_of}
use Rattle.flow_graph.specs.declared.graph.Block.{Block}
use Rattle.flow_graph.specs.declared.graph.Exit.{Exit}
use Rattle.flow_graph.specs.declared.graph.Exit.TheVariants as exit
use Rattle.flow_graph.specs.declared.graph.Graph.{Graph}
use Rattle.flow_graph.specs.declared.graph.Graphs.{Graphs}
use Rattle.flow_graph.specs.declared.graph.Link.{Link}
use Rattle.flow_graph.specs.declared.graph.Op.{Op}
use Rattle.flow_graph.specs.Owners.{HaveOwnVariables}
use Rattle.flow_space.specs.Placed.{NodesAt}
use Rattle.class_desc.specs.Tables.{Tables}
use Rattle.ann_element.specs.declared.element.Element.{Element}
use Rattle.ann_element.specs.declared.annotation.Annotation.{Annotation}
use Rattle.ann_needs.specs.declared.plan.Places.{Places}
use Rattle.ann_layout.specs.Layout.{plan, variable_count}
use Rattle.rtyper_class.specs.Seen.{World}
use Rattle.rtyper_program.specs.Seen.{Known}
use Rattle.rtyper_program.specs.Graphs.{variables}
use Rattle.block_laws.specs.Links.{AllUnder}

-- ---- variables below a number

abbrev pub OpsUnder : ℕ → List Op → Type 0
OpsUnder n [] = Unit {0}
OpsUnder n (o ∷ ops) = (o.result < n) × AllUnder n o.args × OpsUnder n ops

abbrev pub LinksUnder : ℕ → List (ℕ × Link) → Type 0
LinksUnder n [] = Unit {0}
LinksUnder n (hand ∷ hands) = AllUnder n hand.1.args × LinksUnder n hands

abbrev pub OtherUnder : ℕ → Option Link → Type 0
OtherUnder n None = Unit {0}
OtherUnder n (Some by) = AllUnder n by.args

abbrev pub ExitUnder : ℕ → Exit → Type 0
ExitUnder n (exit.Goto link) = AllUnder n link.args
ExitUnder n (exit.If v there elsewhere) = (v < n) × AllUnder n there.args × AllUnder n elsewhere.args
ExitUnder n (exit.OnRaise v hands by without) = (v < n) × LinksUnder n hands × OtherUnder n by × AllUnder n without.args
ExitUnder n (exit.Return v) = v < n
ExitUnder n (exit.Raise v) = v < n

-- all that a block takes, sets, reads and passes on
pub record StandsUnder (n : ℕ) (b : Block) : Type 0 where
  pub inputs : AllUnder n b.inputs
  pub ops : OpsUnder n b.ops
  pub exit : ExitUnder n b.exit

-- ---- annotations of graphs

-- what is known of parameters and of variables is what stands in their cells, as an annotation is read
pub record IsReadAt (places : Places) (n : Annotation) : Type 0 where
  pub cell : ℕ → Element
  pub params : n.params ≡ map (λ row. map cell row) places.params
  pub vars : n.vars ≡ map (λ row. map cell row) places.variables

-- In the annotation that is read for the graphs of a program each graph has so many variables, and what stands in its blocks is one of them.
abbrev pub VariablesAreThere : Type 0
VariablesAreThere = (p : Program) (gs : Graphs) (t : Tables) (r : Resolved) (known : Known) (world : World) → NodesAt r gs → IsReadAt (plan p gs t).places known.annotation → (f : ℕ) (graph : Graph) → slice_get gs.graphs f ≡ Some graph
    → (length (variables known world f) ≡ variable_count graph) × ((n : ℕ) (b : Block) → slice_get graph.blocks n ≡ Some b → StandsUnder (length (variables known world f)) b)

-- and a variable that stands in two blocks of a graph stands in one: no two blocks share one
abbrev pub BlocksAreApart : Type 0
BlocksAreApart = (r : Resolved) (gs : Graphs) → NodesAt r gs → (f : ℕ) (graph : Graph) → slice_get gs.graphs f ≡ Some graph → HaveOwnVariables graph.blocks

-- In that annotation a function has as many parameters as it has defaults, some of them none.
abbrev pub ParametersAreThere : Type 0
ParametersAreThere = (p : Program) (gs : Graphs) (t : Tables) (r : Resolved) (n : Annotation) → IsMadeOf p r → IsReadAt (plan p gs t).places n
    → (f : ℕ) (function : Function) (params : List Element) → slice_get (program_of r).functions f ≡ Some function → slice_get n.params f ≡ Some params → length function.defaults ≡ length params

-- What is told of the graphs of a program that is made of flow graphs.
use Rattle.std.specs.Prelude.{◌≡◌, ◌<◌, ◌^◌, ℕ, ◌||◌, ◌&&◌, not, nat_lt, Bool, true, List, [], ◌∷◌, length, slice_get, Option, Some}
use Rattle.csub_tree.specs.State.{Value}
use Rattle.ll_code.specs.declared.program.LlGraph.{LlGraph}
use Rattle.ll_code.specs.declared.program.LlLink.{LlLink}
use Rattle.ll_code.specs.declared.program.LlProgram.{LlProgram}
use Rattle.ll_build.specs.declared.needs.Numbers.{Numbers}
use Rattle.ll_helpers.specs.Helpers.{helpers}
use Rattle.class_desc.specs.Tables.{Tables}
use Rattle.flow_graph.specs.declared.graph.Graph.{Graph}
use Rattle.flow_graph.specs.declared.graph.Graphs.{Graphs}
use Rattle.flow_graph.specs.declared.graph.Link.{Link}
use Rattle.flow_graph.specs.declared.graph.Op.{Op}
use Rattle.rtyper_layout.specs.declared.layout.Layout.{Layout}
use Rattle.rtyper_data.specs.declared.found.Found.{Found}
use Rattle.rtyper_data.specs.Finding.{small_number}
use Rattle.rtyper_data.specs.Seen.{Writing}
use Rattle.rtyper_class.specs.Seen.{World}
use Rattle.rtyper_program.specs.declared.extra.Extra.{Extra}
use Rattle.rtyper_program.specs.declared.links.Caught.{Caught}
use Rattle.rtyper_program.specs.Cuts.{any_raises, on_raise}
use Rattle.rtyper_program.specs.Graphs.{graph_of}
use Rattle.rtyper_program.specs.Handlers.{Work, any_other, handlers, land, test_of, work}
use Rattle.rtyper_program.specs.Program.{IsLaid, IsSettled}
use Rattle.rtyper_program.specs.Seen.{Known, Lowered, is_reached}
use Rattle.growth_laws.specs.Growing.{Grows}
use Rattle.program_asks.specs.Standing.{first_in, last_in, world_in}
use Rattle.object_laws.specs.Known.{Known as Seen}
use Rattle.class_laws.specs.Asked.{HasClass}
use Rattle.run_laws.specs.Points.{Setting}
use Rattle.rtyped_laws.specs.Programs.{layout_for}
use Rattle.rtyped_runs.specs.Programs.{KnowsGraphs, setting_of}
use Rattle.told_laws.specs.Tests.{AlwaysGive, AreClosed}
use Rattle.catch_laws.specs.Caught.{IsTold}
use Rattle.catch_laws.specs.Exits.{excepting, quiet_by, the_caught}

-- ---- graphs that never throw

-- from a number on, and below another
abbrev pub lies : ℕ → ℕ → ℕ → Bool
lies from to n = not (nat_lt n from) && nat_lt n to

-- the graphs that are told in the end not to raise, and those that helpers call, which stand behind those of the helpers
abbrev pub silent_in : (known : Known) (classes : Tables) (layout : Layout) (p : LlProgram) → IsSettled known classes layout p → ℕ → Bool
silent_in known classes layout p r n = quiet_by (last_in known classes layout p r) n || lies (length r.needs) (length (helpers layout.structs r.needs).graphs) n

-- they raise nothing, and call by their numbers only such graphs
abbrev pub SilentGraphsAreClosed : Type 0
SilentGraphsAreClosed = (known : Known) (classes : Tables) (layout : Layout) (p : LlProgram) (r : IsSettled known classes layout p) → length p.graphs < 2 ^ 64 → AreClosed p (silent_in known classes layout p r)

-- and what is told at any moment of the lowering not to raise is among them
abbrev pub QuietStaysQuiet : Type 0
QuietStaysQuiet = (known : Known) (classes : Tables) (layout : Layout) (p : LlProgram) (r : IsSettled known classes layout p) → length p.graphs < 2 ^ 64
    → (found : Found) → Grows found (last_in known classes layout p r) → (n : ℕ) → quiet_by found n ≡ true → silent_in known classes layout p r n ≡ true

-- ---- graphs that give something

-- no graph with a result has a block that gives nothing back
abbrev pub GraphsAlwaysGive : Type 0
GraphsAlwaysGive = (known : Known) (classes : Tables) (layout : Layout) (p : LlProgram) → IsSettled known classes layout p → AlwaysGive p

-- ---- what is told

-- So at each moment of the lowering the graphs that are told not to raise never throw, those of functions are not among them, and graphs with a result give something.
abbrev pub ProgramsAreTold : Type 0
ProgramsAreTold = (known : Known) (classes : Tables) (p : LlProgram) (r : IsLaid known classes p) (seen : Seen) (graphs : Graphs) (arguments : List (List ℕ)) → length p.graphs < 2 ^ 64
    → KnowsGraphs known (world_in known classes (layout_for known classes) p r) seen
    → (found : Found) → Grows found (last_in known classes (layout_for known classes) p r) → IsTold (setting_of known (world_in known classes (layout_for known classes) p r) seen graphs p arguments) (quiet_by found)

-- ---- handlers

-- the graph that tells whether an exception is below the class of a handler stands, whenever it is asked for
abbrev pub TestsStand : Type 0
TestsStand = (known : Known) (classes : Tables) (layout : Layout) (p : LlProgram) (r : IsSettled known classes layout p) → length p.graphs < 2 ^ 64
    → (raised : ℕ → Value) (class : ℕ) (found : Found) → Grows (small_number (test_of (world_in known classes layout p r) class) found).1 (last_in known classes layout p r)
    → HasClass p (world_in known classes layout p r) raised (test_of (world_in known classes layout p r) class) (small_number (test_of (world_in known classes layout p r) class) found).0

-- of each handler, before what was written for the further ones
abbrev pub AreTested : LlProgram → (ℕ → Value) → Lowered → Caught → List (ℕ × Link) → LlLink × Work → Type 0
AreTested p raised l caught [] next = Unit {0}
AreTested p raised l caught (hand ∷ hands) next =
    AreTested p raised l caught hands next × HasClass p l.world raised (test_of l.world hand.0) (small_number (test_of l.world hand.0) (land l hand.1 caught (handlers l caught hands next).1).1.writing.found).0

-- so the tests of all handlers of an exit stand, where its operation may raise
abbrev pub HandlersAreTested : Type 0
HandlersAreTested = (known : Known) (classes : Tables) (layout : Layout) (p : LlProgram) (r : IsSettled known classes layout p) → length p.graphs < 2 ^ 64
    → (raised : ℕ → Value) (s : Setting) (numbers : Numbers) (l : Lowered) (names : List ℕ) (o : Op) (v : ℕ) (hands : List (ℕ × Link)) (any : Option Link) (without : Link) (w : Writing) (e : Extra) (least : ℕ)
    → l.world ≡ world_in known classes layout p r → any_raises w.found least w.body.ops ≡ true → Grows (on_raise l v hands any without least (work w e)).1.writing.found (last_in known classes layout p r)
    → AreTested p raised l (the_caught s numbers l names o v hands any without w e) hands (any_other l (the_caught s numbers l names o v hands any without w e) any (excepting s numbers l names o v hands any without w e))

-- ---- blocks

-- the graph of each function that is reached, written between these moments, has so few blocks
abbrev pub FunctionsAreSmall : Known → World → Found → Found → Type 0
FunctionsAreSmall known world first last = (n : ℕ) (graph : Graph) → slice_get known.graphs n ≡ Some graph → is_reached known.annotation graph.function ≡ true
    → (found : Found) → Grows first found → Grows (graph_of known world n graph found).1 last → length (graph_of known world n graph found).0.blocks < 2 ^ 64

-- then so has each graph of the program
abbrev pub BlocksAreFew : Type 0
BlocksAreFew = (known : Known) (classes : Tables) (layout : Layout) (p : LlProgram) (r : IsSettled known classes layout p) → FunctionsAreSmall known (world_in known classes layout p r) (first_in known classes layout p r) (last_in known classes layout p r)
    → (number : ℕ) (graph : LlGraph) → slice_get p.graphs number ≡ Some graph → length graph.blocks < 2 ^ 64

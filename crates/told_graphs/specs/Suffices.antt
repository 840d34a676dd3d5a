-- What is left to ask of the parts of a program that catches exceptions.
use Rattle.std.specs.Prelude.{◌≡◌, ◌≤◌, ◌<◌, ◌^◌, ℕ, true, List, [], ◌∷◌, ◌++◌, length, slice_get, Option, Some}
use Rattle.ll_code.specs.declared.program.LlLink.{LlLink}
use Rattle.ll_code.specs.declared.program.LlOp.{LlOp}
use Rattle.ll_code.specs.declared.program.LlProgram.{LlProgram}
use Rattle.ll_build.specs.declared.needs.Numbers.{Numbers}
use Rattle.class_desc.specs.Tables.{Tables}
use Rattle.flow_graph.specs.declared.graph.Graph.{Graph}
use Rattle.flow_graph.specs.declared.graph.Graphs.{Graphs}
use Rattle.flow_graph.specs.declared.graph.Link.{Link}
use Rattle.flow_graph.specs.declared.graph.Op.{Op}
use Rattle.rtyper_layout.specs.declared.layout.Layout.{Layout}
use Rattle.rtyper_data.specs.declared.found.Found.{Found}
use Rattle.rtyper_data.specs.Seen.{Writing}
use Rattle.rtyper_class.specs.Seen.{World}
use Rattle.rtyper_program.specs.declared.extra.Extra.{Extra}
use Rattle.rtyper_program.specs.declared.links.Caught.{Caught}
use Rattle.rtyper_program.specs.Graphs.{lowered_graph}
use Rattle.rtyper_program.specs.Cuts.{any_raises, on_raise}
use Rattle.rtyper_program.specs.Handlers.{Work, any_other, handlers, work}
use Rattle.rtyper_program.specs.Program.{IsLaid, IsSettled}
use Rattle.rtyper_program.specs.Seen.{Known, Lowered, is_reached}
use Rattle.growth_laws.specs.Growing.{Grows}
use Rattle.program_asks.specs.Standing.{first_in, last_in, numbers_in, world_in}
use Rattle.object_laws.specs.Known.{Known as Seen}
use Rattle.run_laws.specs.Points.{Setting}
use Rattle.rtyped_laws.specs.Programs.{layout_for}
use Rattle.rtyped_runs.specs.Programs.{KnowsGraphs, setting_of}
use Rattle.block_laws.specs.Links.{AllAmong}
use Rattle.throw_laws.specs.Ready.{AllFit}
use Rattle.catch_laws.specs.Caught.{GoesOn}
use Rattle.catch_laws.specs.Exits.{excepting, passed_on, the_caught}
use Rattle.catch_laws.specs.Handlers.{AnyIsDone, HandsAreDone, IsLanding, emptied}
use Rattle.catch_runs.specs.Parts.{GraphIsDoneSo, WaysAreDone}
use Rattle.catch_runs.specs.Programs.{IsDoneSo}
use Rattle.told_graphs.specs.Told.{AreTested, FunctionsAreSmall}

-- ---- programs

-- what is asked of the parts, but for what is told
pub record HasParts (known : Known) (world : World) (seen : Seen) (numbers : Numbers) (first last : Found) (graphs : Graphs) (p : LlProgram) (arguments : List (List ℕ)) : Type 0 where
  pub same : graphs.graphs ≡ known.graphs
  pub knows : KnowsGraphs known world seen
  pub parts : (n : ℕ) (graph : Graph) → slice_get known.graphs n ≡ Some graph → is_reached known.annotation graph.function ≡ true
      → GraphIsDoneSo (setting_of known world seen graphs p arguments) numbers (lowered_graph known world n graph) first last
  pub functions : FunctionsAreSmall known world first last

-- it is enough
abbrev pub PartsSuffice : Type 0
PartsSuffice = (known : Known) (classes : Tables) (p : LlProgram) (r : IsLaid known classes p) (seen : Seen) (graphs : Graphs) (arguments : List (List ℕ)) → length p.graphs < 2 ^ 64
    → HasParts known (world_in known classes (layout_for known classes) p r) seen (numbers_in known classes (layout_for known classes) p r) (first_in known classes (layout_for known classes) p r) (last_in known classes (layout_for known classes) p r) graphs p arguments
    → IsDoneSo known (world_in known classes (layout_for known classes) p r) seen (numbers_in known classes (layout_for known classes) p r) (first_in known classes (layout_for known classes) p r) (last_in known classes (layout_for known classes) p r) graphs p arguments

-- ---- handlers

module _ (s : Setting) (numbers : Numbers) (l : Lowered) (caught : Caught) (names : List ℕ) where
  -- a handler of a class, but for its test
  pub record HandLands (hand : ℕ × Link) (w : Work) : Type 0 where
    pub class : hand.0 < length l.world.classes.classes
    pub landing : IsLanding s numbers l caught hand.0 names hand.1 (emptied w.writing)

  abbrev pub HandsLand : List (ℕ × Link) → LlLink × Work → Type 0
  HandsLand [] next = Unit {0}
  HandsLand (hand ∷ hands) next = HandsLand hands next × HandLands hand (handlers l caught hands next).1

-- with their tests handlers are done
abbrev pub LandingsSuffice : Type 0
LandingsSuffice = (s : Setting) (numbers : Numbers) (l : Lowered) (caught : Caught) (names : List ℕ) (hands : List (ℕ × Link)) (next : LlLink × Work)
    → HandsLand s numbers l caught names hands next → AreTested s.low s.known.exception l caught hands next → HandsAreDone s numbers l caught names hands next

module _ (s : Setting) (numbers : Numbers) (l : Lowered) (names : List ℕ) (o : Op) (v : ℕ) (hands : List (ℕ × Link)) (any : Option Link) (without : Link) (w : Writing) (e : Extra) (least : ℕ) where
  -- the ways of an operation whose exit catches, but for the tests of handlers
  pub record WaysLand : Type 0 where
    pub own : AllAmong without.args (names ++ o.result ∷ [])
    pub way : GoesOn s numbers l names o without w
    pub conversions : List LlOp
    pub are : (passed_on s numbers l names o v hands any without w e).body.ops ≡ w.body.ops ++ conversions
    pub fits : length (passed_on s numbers l names o v hands any without w e).body.types ≤ s.size l.number → AllFit s.low (s.size l.number) conversions
    pub any_lands : any_raises w.found least w.body.ops ≡ true → AnyIsDone s numbers l (the_caught s numbers l names o v hands any without w e) names any (excepting s numbers l names o v hands any without w e)
    pub hands_land : any_raises w.found least w.body.ops ≡ true → HandsLand s numbers l (the_caught s numbers l names o v hands any without w e) names hands (any_other l (the_caught s numbers l names o v hands any without w e) any (excepting s numbers l names o v hands any without w e))

-- where what the exit asks for is asked for in the end, they are done
abbrev pub WaysSuffice : Type 0
WaysSuffice = (known : Known) (classes : Tables) (layout : Layout) (p : LlProgram) (r : IsSettled known classes layout p) → length p.graphs < 2 ^ 64
    → (s : Setting) (numbers : Numbers) (l : Lowered) (names : List ℕ) (o : Op) (v : ℕ) (hands : List (ℕ × Link)) (any : Option Link) (without : Link) (w : Writing) (e : Extra) (least : ℕ)
    → s.low ≡ p → l.world ≡ world_in known classes layout p r → Grows (on_raise l v hands any without least (work w e)).1.writing.found (last_in known classes layout p r)
    → WaysLand s numbers l names o v hands any without w e least → WaysAreDone s numbers l names o v hands any without w e least

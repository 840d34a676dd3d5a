-- What is asked for stands at its numbers: what is written takes nothing back of what was asked for.
use Rattle.std.specs.Prelude.{◌≡◌, ◌<◌, ◌^◌, ℕ, ◌+◌, List, ◌++◌, length, slice_get, Some, None}
use Rattle.ll_code.specs.declared.program.LlGraph.{LlGraph}
use Rattle.ll_code.specs.declared.program.LlProgram.{LlProgram}
use Rattle.ll_code.specs.declared.program.LlStruct.{LlStruct}
use Rattle.csub_tree.specs.declared.tree.CStatic.{CStatic}
use Rattle.ll_build.specs.declared.needs.Helper.{Helper}
use Rattle.ll_build.specs.declared.needs.Numbers.{Numbers}
use Rattle.ll_build.specs.Needs.{all_shared, numbers_of}
use Rattle.ll_build.specs.declared.needs.Need.{Need}
use Rattle.class_desc.specs.Tables.{Tables}
use Rattle.flow_graph.specs.declared.graph.Graph.{Graph}
use Rattle.rpy_meaning.specs.declared.row.Covers.{Covers}
use Rattle.rtyper_layout.specs.declared.layout.Layout.{Layout}
use Rattle.ll_helpers.specs.Helpers.{graph_for, helpers}
use Rattle.rtyper_data.specs.declared.found.Found.{Found}
use Rattle.rtyper_data.specs.declared.small.Small.{Small}
use Rattle.rtyper_data.specs.Finding.{failures_of, helper_number, small_number}
use Rattle.rtyper_op.specs.Prebuilt.{prebuilt}
use Rattle.rtyper_layout.specs.Types.{word}
use Rattle.rtyper_raising.specs.Raising.{raising_blocks, raising_graph}
use Rattle.rtyper_class.specs.Seen.{World}
use Rattle.rtyper_class.specs.Vtables.{exceptions, vtables}
use Rattle.rtyper_program.specs.Graphs.{graph_of}
use Rattle.rtyper_program.specs.Program.{IsSettled, found_first, pass, small_of, smalls_to, world_behind}
use Rattle.rtyper_program.specs.Seen.{Known}
use Rattle.growth_laws.specs.Growing.{Grows}

-- the graph at a number is that of the small graph, and what that asks for is asked for in the end
pub record Stands (graphs : List LlGraph) (world : World) (last : Found) (n : ℕ) (s : Small) : Type 0 where
  pub made : Found
  pub graph : slice_get graphs n ≡ Some (small_of world s made).0
  pub grows : Grows (small_of world s made).1 last

abbrev pub SmallsOnlyAsk : World → Type 0
SmallsOnlyAsk world = (s : Small) (found : Found) → Grows found (small_of world s found).1

-- of so many small graphs each stands behind what is there before
abbrev pub SmallsStand : Type 0
SmallsStand = (world : World) (count : ℕ) (made : List LlGraph × Found) (n : ℕ) (s : Small)
    → slice_get (smalls_to world count made).1.smalls count ≡ None → slice_get (smalls_to world count made).1.smalls n ≡ Some s
    → Stands (smalls_to world count made).0 world (smalls_to world count made).1 (length made.0 + n) s

-- what writes the program only asks for more
pub record OnlyAsks (known : Known) (world : World) : Type 0 where
  pub constants : (found : Found) → Grows found (prebuilt world.around known.program.sites known.annotation.same found)
  pub functions : (n : ℕ) (graph : Graph) (found : Found) → Grows found (graph_of known world n graph found).1
  pub smalls : SmallsOnlyAsk world

-- a small graph that is asked for at any moment of a pass, which are those from which it is asked for to the end, stands at its number
abbrev pub StandsAsked : List LlGraph → World → Found → Small → Found → Type 0
StandsAsked graphs world last s found = Stands graphs world last (small_number s found).0 s

abbrev pub AskedStand : Type 0
AskedStand = (known : Known) (classes : Tables) (layout : Layout) (needs : List Need) (caught : List Covers) (count : ℕ)
    → slice_get (pass known classes layout needs caught count).1.smalls count ≡ None
    → length (pass known classes layout needs caught count).0.graphs < 2 ^ 64
    → (s : Small) (found : Found) → Grows (small_number s found).1 (pass known classes layout needs caught count).1
    → StandsAsked (pass known classes layout needs caught count).0.graphs (world_behind known classes layout (helpers layout.structs needs)) (pass known classes layout needs caught count).1 s found

-- ---- helpers

-- the graph at a number is that of the helper, which raises these of its failures, and what it asks for to raise them is asked for in the end
pub record HelperStands (graphs : List LlGraph) (numbers : Numbers) (last : Found) (n : ℕ) (h : Helper) (covers : Covers) : Type 0 where
  pub made : Found
  pub graph : slice_get graphs n ≡ Some (raising_graph covers (graph_for numbers h) made)
  pub grows : Grows (raising_blocks covers (graph_for numbers h).blocks made).1 last

-- a helper that is asked for at any moment of a pass that asks for no helper that it was not given stands at its number, and raises those
-- of its failures that are covered there
abbrev pub HelpersStand : Type 0
HelpersStand = (known : Known) (classes : Tables) (layout : Layout) (needs : List Need) (caught : List Covers) (count : ℕ)
    → length (pass known classes layout needs caught count).1.needs ≡ length needs
    → (h : Helper) (found : Found)
    → Grows (found_first known (world_behind known classes layout (helpers layout.structs needs)) (helpers layout.structs needs) needs caught) found
    → Grows (helper_number h found).1 (pass known classes layout needs caught count).1
    → HelperStands (pass known classes layout needs caught count).0.graphs (numbers_of needs all_shared (length layout.structs)) (pass known classes layout needs caught count).1 (helper_number h found).0 h (failures_of h found.covered)

-- ---- structs and statics

-- the structs of the layout come first, and the vtables and behind them the builtin exceptions stand where the lowering looks for them
pub record HasStatics (known : Known) (world : World) (p : LlProgram) : Type 0 where
  pub more : List LlStruct
  pub structs : p.structs ≡ world.around.layout.structs ++ more
  pub before : List CStatic
  pub rest : List CStatic
  pub statics : p.statics ≡ before ++ (vtables world known.program known.annotation.reached ++ (exceptions world ++ rest))
  pub first : length before ≡ world.first_vtable
  pub next : world.first_exception ≡ word (world.first_vtable + length world.around.layout.order)

abbrev pub StaticsStand : Type 0
StaticsStand = (known : Known) (classes : Tables) (layout : Layout) (needs : List Need) (caught : List Covers) (count : ℕ)
    → HasStatics known (world_behind known classes layout (helpers layout.structs needs)) (pass known classes layout needs caught count).0

-- ---- programs that are made

-- around which a program was written, and what it asked for in the end
abbrev pub world_in : (known : Known) (classes : Tables) (layout : Layout) (p : LlProgram) → IsSettled known classes layout p → World
world_in known classes layout p r = world_behind known classes layout (helpers layout.structs r.needs)

abbrev pub first_in : (known : Known) (classes : Tables) (layout : Layout) (p : LlProgram) → IsSettled known classes layout p → Found
first_in known classes layout p r = found_first known (world_in known classes layout p r) (helpers layout.structs r.needs) r.needs r.caught

abbrev pub last_in : (known : Known) (classes : Tables) (layout : Layout) (p : LlProgram) → IsSettled known classes layout p → Found
last_in known classes layout p r = (pass known classes layout r.needs r.caught r.count).1

abbrev pub numbers_in : (known : Known) (classes : Tables) (layout : Layout) (p : LlProgram) → IsSettled known classes layout p → Numbers
numbers_in known classes layout p r = numbers_of r.needs all_shared (length layout.structs)

-- each small graph and each helper that is asked for at any moment stands at its number, and the statics of classes stand where they are looked for
pub record HasAsked (p : LlProgram) (known : Known) (world : World) (numbers : Numbers) (first last : Found) : Type 0 where
  pub smalls : length p.graphs < 2 ^ 64 → (s : Small) (found : Found) → Grows (small_number s found).1 last → StandsAsked p.graphs world last s found
  pub helpers : (h : Helper) (found : Found) → Grows first found → Grows (helper_number h found).1 last → HelperStands p.graphs numbers last (helper_number h found).0 h (failures_of h found.covered)
  pub statics : HasStatics known world p

-- of every program that is made of flow graphs
abbrev pub ProgramsHaveAsked : Type 0
ProgramsHaveAsked = (known : Known) (classes : Tables) (layout : Layout) (p : LlProgram) (r : IsSettled known classes layout p)
    → HasAsked p known (world_in known classes layout p r) (numbers_in known classes layout p r) (first_in known classes layout p r) (last_in known classes layout p r)

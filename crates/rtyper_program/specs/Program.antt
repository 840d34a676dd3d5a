-- Whole programs: a pass from the helpers that are known to be asked for, and a program that asks for no other.
use Rattle.std.specs.Prelude.{◌≡◌, ℕ, zero, suc, ◌+◌, ◌-◌, if◌then◌else◌, List, [], ◌∷◌, ◌++◌, length, slice_get, Option, Some, None}
use Rattle.csub_tree.specs.declared.tree.CStatic.{CStatic}
use Rattle.ll_code.specs.declared.program.LlGraph.{LlGraph}
use Rattle.ll_code.specs.declared.program.LlProgram.{LlProgram}
use Rattle.ll_build.specs.declared.needs.Need.{Need}
use Rattle.ll_helpers.specs.Helpers.{helpers}
use Rattle.ann_element.specs.declared.annotation.Annotation.{Annotation}
use Rattle.class_desc.specs.Tables.{Tables}
use Rattle.flow_graph.specs.declared.graph.Graph.{Graph}
use Rattle.rpy_tree.specs.declared.program.Site.{Site}
use Rattle.rpy_resolved.specs.declared.tree.Resolved.{Resolved}
use Rattle.rpy_meaning.specs.declared.row.Covers.{Covers}
use Rattle.rtyper_layout.specs.declared.layout.Layout.{Layout}
use Rattle.rtyper_layout.specs.Layout.{layout_of}
use Rattle.rtyper_layout.specs.Types.{word}
use Rattle.rtyper_data.specs.declared.found.Found.{Found}
use Rattle.rtyper_data.specs.declared.small.Small.{Small}
use Rattle.rtyper_data.specs.declared.small.Small.TheVariants as small
use Rattle.rtyper_data.specs.declared.small.Listed.TheVariants as listed
use Rattle.rtyper_data.specs.Finding.{nothing, small_number}
use Rattle.rtyper_op.specs.Prebuilt.{prebuilt}
use Rattle.rtyper_raising.specs.Raising.{raising_graphs}
use Rattle.rtyper_class.specs.Seen.{World}
use Rattle.rtyper_class.specs.Smalls.{class_graph}
use Rattle.rtyper_class.specs.Vtables.{exceptions, vtables}
use Rattle.rtyper_dict.specs.Graphs.{dict_graph}
use Rattle.rtyper_program.specs.Entry.{entry_graph}
use Rattle.rtyper_program.specs.Graphs.{graph_of}
use Rattle.rtyper_program.specs.Raises.{raises}
use Rattle.rtyper_program.specs.Seen.{Known, is_reached}

-- ---- numbers

abbrev pub next_number : Annotation → ℕ → Graph → ℕ
next_number a n graph = if is_reached a graph.function then word (n + 1) else n

-- for each function the number of its graph, from the n-th on; where it is not reached it has none, and the number means nothing
abbrev pub numbers_from : Annotation → ℕ → List Graph → List ℕ
numbers_from a n [] = []
numbers_from a n (graph ∷ graphs) = n ∷ numbers_from a (next_number a n graph) graphs

-- the number behind theirs
abbrev pub number_behind : Annotation → ℕ → List Graph → ℕ
number_behind a n [] = n
number_behind a n (graph ∷ graphs) = number_behind a (next_number a n graph) graphs

-- ---- graphs

abbrev pub with_graph : List LlGraph → LlGraph × Found → List LlGraph × Found
with_graph graphs made = (graphs ++ made.0 ∷ [], made.1)

abbrev pub with_function : Known → World → ℕ → Graph → List LlGraph × Found → List LlGraph × Found
with_function known world n graph made = if is_reached known.annotation graph.function then with_graph made.0 (graph_of known world n graph made.1) else made

-- those of the functions that are reached, from the n-th on, behind others
abbrev pub functions_from : Known → World → ℕ → List Graph → List LlGraph × Found → List LlGraph × Found
functions_from known world n [] made = made
functions_from known world n (graph ∷ graphs) made = functions_from known world (n + 1) graphs (with_function known world n graph made)

abbrev pub small_of : World → Small → Found → LlGraph × Found
small_of world (small.Keyed keyed) found = dict_graph world.around.layout keyed found
small_of world other found = class_graph world other found

abbrev pub with_small : World → Option Small → List LlGraph × Found → List LlGraph × Found
with_small world None made = made
with_small world (Some s) made = with_graph made.0 (small_of world s made.1)

abbrev pub with_next : World → ℕ → List LlGraph × Found → List LlGraph × Found
with_next world n made = with_small world (slice_get made.1.smalls n) made

-- those of the first so many small graphs that are asked for, also by small graphs before them, behind others
abbrev pub smalls_to : World → ℕ → List LlGraph × Found → List LlGraph × Found
smalls_to world zero made = made
smalls_to world (suc n) made = with_next world n (smalls_to world n made)

-- the graphs of helpers and of functions, behind the lists and dicts that are constants
unfoldable pub plain_graphs : Known → World → List Site → List ℕ → List LlGraph → Found → List LlGraph × Found
plain_graphs known world sites same helped found = functions_from known world 0 known.graphs (raising_graphs 0 helped (prebuilt world.around sites same found))

-- the graph that makes the list of arguments, whose site is the first
abbrev pub arguments_number : World → Found → ℕ × Found
arguments_number world found = small_number (small.Listed (listed.Arguments world.around.layout.first_list)) found

abbrev pub entered : Known → World → ℕ → List LlGraph × Found → List LlGraph × Found
entered known world number made = (made.0 ++ entry_graph world known.program.entry number ∷ [], made.1)

abbrev pub with_smalls : Known → World → ℕ → List LlGraph → ℕ × Found → List LlGraph × Found
with_smalls known world count graphs number = entered known world number.0 (smalls_to world count (graphs, number.1))

-- the first so many small graphs and the entry, behind others
abbrev pub further_graphs : Known → World → ℕ → List LlGraph × Found → List LlGraph × Found
further_graphs known world count made = with_smalls known world count made.0 (arguments_number world made.1)

-- all of them, with so many small ones; the entry is the last
unfoldable pub all_graphs : Known → World → List Site → List ℕ → ℕ → List LlGraph → Found → List LlGraph × Found
all_graphs known world sites same count helped found = further_graphs known world count (plain_graphs known world sites same helped found)

-- that so many small graphs are all that are asked for
pub record Written (count : ℕ) (all : List LlGraph × Found) (graphs : List LlGraph) (found : Found) : Type 0 where
  pub given : graphs ≡ all.0
  pub asked : found ≡ all.1
  pub no_more : slice_get found.smalls count ≡ None

-- ---- a pass

-- what is known around, where functions have these numbers and the first vtable this
abbrev pub world_of : Known → Tables → Layout → List ℕ → ℕ → World
world_of known classes layout numbers first_vtable = record {
  around = record {
    layout = layout;
    numbers = numbers;
    params = known.annotation.params;
    results = known.annotation.results;
    functions = known.program.functions;
  };
  classes = classes;
  made = known.annotation.made;
  attributes = known.annotation.attributes;
  first_vtable = first_vtable;
  first_exception = word (first_vtable + length layout.order);
}

-- the statics of helpers and of classes
abbrev pub first_statics : Known → World → List CStatic → List CStatic
first_statics known world statics = (statics ++ vtables world known.program known.annotation.reached) ++ exceptions world

-- what is there before anything is asked for
abbrev pub found_first : Known → World → LlProgram → List Need → List Covers → Found
found_first known world helped needs caught = record {
  needs = needs;
  caught = caught;
  covered = nothing;
  statics = first_statics known world helped.statics;
  prebuilt = [];
  smalls = [];
  first_small = number_behind known.annotation (length helped.graphs) known.graphs;
}

abbrev pub program_with : LlProgram → List LlGraph × Found → LlProgram × Found
program_with helped made = (record helped { statics = made.1.statics; graphs = made.0; entry = length made.0 - 1 }, made.1)

abbrev pub pass_behind : Known → World → List Site → List ℕ → LlProgram → List Need → List Covers → ℕ → LlProgram × Found
pass_behind known world sites same helped needs caught count = program_with helped (all_graphs known world sites same count helped.graphs (found_first known world helped needs caught))

abbrev pub world_behind : Known → Tables → Layout → LlProgram → World
world_behind known classes layout helped = world_of known classes layout (numbers_from known.annotation (length helped.graphs) known.graphs) (length helped.statics)

abbrev pub pass_with : Known → Tables → Layout → LlProgram → List Need → List Covers → ℕ → LlProgram × Found
pass_with known classes layout helped needs caught count = pass_behind known (world_behind known classes layout helped) known.program.sites known.annotation.same helped needs caught count

-- a program behind these helpers, each with the failures that it was asked for to raise, with so many small graphs; and what it asks for
unfoldable pub pass : Known → Tables → Layout → List Need → List Covers → ℕ → LlProgram × Found
pass known classes layout needs caught count = pass_with known classes layout (helpers layout.structs needs) needs caught count

pub record IsPassed (made : ℕ → LlProgram × Found) (program : LlProgram) (found : Found) (count : ℕ) : Type 0 where
  pub written : program ≡ (made count).0
  pub needs : found.needs ≡ (made count).1.needs
  pub caught : found.caught ≡ (made count).1.caught
  pub smalls : found.smalls ≡ (made count).1.smalls
  pub no_small_more : slice_get found.smalls count ≡ None

-- ---- programs

-- what a pass wrote that asked for no helper that was not given, each with what of its failures it raises, and for no small graph that it did not write
pub record IsSettled (known : Known) (classes : Tables) (layout : Layout) (program : LlProgram) : Type 0 where
  pub needs : List Need
  pub caught : List Covers
  pub count : ℕ
  pub paired : length caught ≡ length needs
  pub written : program ≡ (pass known classes layout needs caught count).0
  pub no_helper_more : length (pass known classes layout needs caught count).1.needs ≡ length needs
  pub no_small_more : slice_get (pass known classes layout needs caught count).1.smalls count ≡ None

abbrev pub IsLaid : Known → Tables → LlProgram → Type 0
IsLaid known classes program = IsSettled known classes (layout_of known.program classes.classes known.annotation (raises known)) program

-- with the layout of the annotation, and with the classes of exceptions where something is raised
abbrev pub IsRtyped : Resolved → List Graph → Annotation → Tables → LlProgram → Type 0
IsRtyped program graphs annotation classes made = IsLaid (record { program = program; graphs = graphs; annotation = annotation }) classes made

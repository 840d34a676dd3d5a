-- Graphs of lists, classes and dicts that operations ask for stand at their numbers in every program that is made of flow graphs.
use Rattle.std.specs.Prelude.{◌≡◌, ◌≢◌, ◌<◌, ◌^◌, ℕ, true, List, length}
use Rattle.csub_tree.specs.State.{Value, Core}
use Rattle.ll_code.specs.declared.program.LlType.TheVariants as type
use Rattle.ll_code.specs.declared.program.LlProgram.{LlProgram}
use Rattle.ll_build.specs.declared.needs.Numbers.{Numbers}
use Rattle.rtyper_data.specs.declared.found.Found.{Found}
use Rattle.rtyper_data.specs.declared.small.Listed.{Listed}
use Rattle.rtyper_data.specs.declared.small.Listed.TheVariants as listed
use Rattle.rtyper_data.specs.declared.small.Small.{Small}
use Rattle.rtyper_data.specs.declared.small.Small.TheVariants as small
use Rattle.rtyper_data.specs.Finding.{small_number}
use Rattle.rtyper_class.specs.Seen.{World}
use Rattle.rtyper_program.specs.Seen.{Known}
use Rattle.lower_laws.specs.Asked.{Ask, Help, Raise, Make, all_asked, Has as HasOther}
use Rattle.object_laws.specs.Done.{AllAsked}
use Rattle.list_laws.specs.Asked as lists
use Rattle.class_laws.specs.Asked as classes
use Rattle.dict_op_laws.specs.Asked as dicts
use Rattle.growth_laws.specs.Growing.{Grows}
use Rattle.program_asks.specs.Standing.{HasAsked}
use Rattle.rtyped_laws.specs.Having.{of_values, raised_in}

-- no string is looked for among the items of a list
abbrev pub LooksForNoText : Listed → Type 0
LooksForNoText (listed.Contains t n) = t ≢ type.Ptr 0
LooksForNoText other = Unit {0}

-- graphs of values, with those of lists, those of lists and classes, and those of dicts
abbrev pub OfLists : Small → Type 0
OfLists (small.Listed graph) = LooksForNoText graph
OfLists other = of_values other ≡ true

abbrev pub OfClasses : Small → Type 0
OfClasses (small.New class) = Unit {0}
OfClasses (small.Attribute own place raises) = Unit {0}
OfClasses (small.IsInstance root vtable low high) = Unit {0}
OfClasses other = OfLists other

abbrev pub OfDicts : Small → Type 0
OfDicts (small.Keyed keyed) = Unit {0}
OfDicts other = of_values other ≡ true

-- Of a program that has what was asked for while it was made, with these numbers and between these two moments: what is asked for of these
-- graphs stands at its number, with what it asks for itself.
abbrev pub SmallsHaveTheirs : (Small → Type 0) → (World → LlProgram → Numbers → (ℕ → Value) → Core → Ask → Found → Type 0) → Type 0
SmallsHaveTheirs Good Has = (p : LlProgram) (known : Known) (world : World) (numbers : Numbers) (first last : Found) → HasAsked p known world numbers first last → length p.graphs < 2 ^ 64
    → (core : Core) (s : Small) → Good s → (found : Found) → Grows (small_number s found).1 last → Has world p numbers (raised_in world) core (Make s) found

abbrev pub in_lists : World → LlProgram → Numbers → (ℕ → Value) → Core → Ask → Found → Type 0
in_lists world p numbers raised core ask found = lists.Has p world.around.layout numbers raised core ask found

abbrev pub in_dicts : World → LlProgram → Numbers → (ℕ → Value) → Core → Ask → Found → Type 0
in_dicts world p numbers raised core ask found = dicts.Has p world.around.layout numbers raised core ask found

abbrev pub ListsHaveTheirs : Type 0
ListsHaveTheirs = SmallsHaveTheirs OfLists in_lists

abbrev pub ClassesHaveTheirs : Type 0
ClassesHaveTheirs = SmallsHaveTheirs OfClasses classes.Has

abbrev pub DictsHaveTheirs : Type 0
DictsHaveTheirs = SmallsHaveTheirs OfDicts in_dicts

-- ---- all that an operation asks for

-- a graph of this kind, a helper that raises what is covered, or another helper, which has to stand at its number
abbrev pub MayAsk : (Small → Type 0) → World → LlProgram → Numbers → Core → Ask → Found → Type 0
MayAsk Good world p numbers core (Help h) found = HasOther p world.around.layout numbers (raised_in world) core (Help h) found
MayAsk Good world p numbers core (Raise h) found = Unit {0}
MayAsk Good world p numbers core (Make s) found = Good s

-- what is asked for in turn stands at its numbers
abbrev pub AsksHaveTheirs : (Small → Type 0) → (World → LlProgram → Numbers → (ℕ → Value) → Core → Ask → Found → Type 0) → Type 0
AsksHaveTheirs Good Has = (p : LlProgram) (known : Known) (world : World) (numbers : Numbers) (first last : Found) → HasAsked p known world numbers first last → length p.graphs < 2 ^ 64
    → (core : Core) (asks : List Ask) (found : Found) → AllAsked (MayAsk Good world p numbers core) asks found → Grows first found → Grows (all_asked asks found) last
    → AllAsked (Has world p numbers (raised_in world) core) asks found

abbrev pub ListAsksHaveTheirs : Type 0
ListAsksHaveTheirs = AsksHaveTheirs OfLists in_lists

abbrev pub ClassAsksHaveTheirs : Type 0
ClassAsksHaveTheirs = AsksHaveTheirs OfClasses classes.Has

abbrev pub DictAsksHaveTheirs : Type 0
DictAsksHaveTheirs = AsksHaveTheirs OfDicts in_dicts

-- All that operations ask for stands at its numbers in every program that is made of flow graphs, helpers among it.
use Rattle.std.specs.Prelude.{◌≡◌, ◌<◌, ◌^◌, ℕ, true, List, length}
use Rattle.csub_tree.specs.State.{Value, Core}
use Rattle.class_desc.specs.Tables.{Tables}
use Rattle.ll_build.specs.Needs.{uses_texts}
use Rattle.ll_build.specs.declared.needs.Numbers.{Numbers}
use Rattle.ll_code.specs.declared.program.LlProgram.{LlProgram}
use Rattle.rpy_tree.specs.Value.{Heap}
use Rattle.rtyper_class.specs.Seen.{World}
use Rattle.rtyper_data.specs.declared.found.Found.{Found}
use Rattle.rtyper_data.specs.declared.small.Small.{Small}
use Rattle.rtyper_data.specs.Finding.{failures_of, nothing}
use Rattle.rtyper_program.specs.Program.{IsLaid}
use Rattle.rtyper_program.specs.Seen.{Known}
use Rattle.lower_laws.specs.Asked.{Ask, Help, Raise, Make, all_asked}
use Rattle.object_laws.specs.Done.{AllAsked}
use Rattle.object_laws.specs.Ghost.{Ghost}
use Rattle.object_laws.specs.Known.{Known as Seen}
use Rattle.object_laws.specs.Represents.{Represents}
use Rattle.class_laws.specs.Asked as classes
use Rattle.growth_laws.specs.Growing.{Grows}
use Rattle.program_asks.specs.Standing.{first_in, last_in, numbers_in, world_in}
use Rattle.rtyped_laws.specs.Having.{raised_in}
use Rattle.rtyped_laws.specs.Objects.{OfClasses, OfDicts, OfLists, in_dicts, in_lists}
use Rattle.rtyped_laws.specs.Programs.{layout_for}
use Rattle.covered_text_laws.specs.Asked as texts
use Rattle.helper_stands.specs.Standing.{KnowsTexts}

-- a graph of this kind, a helper that raises what is covered, or one that has nothing to raise
abbrev pub MayBeAsked : (Small → Type 0) → Ask → Found → Type 0
MayBeAsked Good (Help h) found = failures_of h found.covered ≡ nothing
MayBeAsked Good (Raise h) found = Unit {0}
MayBeAsked Good (Make s) found = Good s

-- Of a program with its layout, whose static strings are known to stay: over all memory that represents a heap what is asked for in turn stands at
-- its numbers.
abbrev pub AsksStand : (Small → Type 0) → (World → LlProgram → Numbers → (ℕ → Value) → Core → Ask → Found → Type 0) → Type 0
AsksStand Good Has = (known : Known) (classes : Tables) (p : LlProgram) (r : IsLaid known classes p) (seen : Seen) → length p.graphs < 2 ^ 64 → length (layout_for known classes).structs < 2 ^ 64
    → (uses_texts r.needs ≡ true → KnowsTexts p seen)
    → (asks : List Ask) (found : Found) → AllAsked (MayBeAsked Good) asks found → Grows (first_in known classes (layout_for known classes) p r) found → Grows (all_asked asks found) (last_in known classes (layout_for known classes) p r)
    → (g : Ghost) (heap : Heap) (core : Core) → Represents (layout_for known classes) seen g heap core.steps core.blocks core.statics
    → AllAsked (Has (world_in known classes (layout_for known classes) p r) p (numbers_in known classes (layout_for known classes) p r) (raised_in (world_in known classes (layout_for known classes) p r)) core) asks found

abbrev pub ListAsksStand : Type 0
ListAsksStand = AsksStand OfLists in_lists

abbrev pub ClassAsksStand : Type 0
ClassAsksStand = AsksStand OfClasses classes.Has

abbrev pub DictAsksStand : Type 0
DictAsksStand = AsksStand OfDicts in_dicts

-- helpers on strings, with what they raise
abbrev pub in_texts : World → LlProgram → Numbers → (ℕ → Value) → Core → Ask → Found → Type 0
in_texts world p numbers raised core ask found = texts.Has p world.around.layout numbers raised core ask found

abbrev pub IsNone : Small → Type 0
IsNone s = ⊥

abbrev pub TextAsksStand : Type 0
TextAsksStand = AsksStand IsNone in_texts

-- What conversions and comparisons ask for stands at its numbers in every program that is made of flow graphs, as their laws take it.
use Rattle.std.specs.Prelude.{◌<◌, ◌^◌, List, [], ◌∷◌, length}
use Rattle.csub_tree.specs.State.{Core}
use Rattle.ll_build.specs.declared.needs.Helper.TheVariants as helper
use Rattle.ll_build.specs.declared.needs.Numbers.{Numbers}
use Rattle.ll_code.specs.declared.program.LlProgram.{LlProgram}
use Rattle.rtyper_data.specs.declared.found.Found.{Found}
use Rattle.rtyper_data.specs.declared.small.Small.TheVariants as small
use Rattle.rtyper_class.specs.Seen.{World}
use Rattle.rtyper_program.specs.Seen.{Known}
use Rattle.lower_laws.specs.Asked.{Ask, Help, Make, all_asked, number_of, Has as HasOther}
use Rattle.object_laws.specs.Done.{AllAsked}
use Rattle.growth_laws.specs.Growing.{Grows}
use Rattle.program_asks.specs.Standing.{HasAsked}
use Rattle.rtyped_laws.specs.Having.{raised_in}
use Rattle.conversion_laws.specs.Asked.{Has}

-- what conversions and comparisons ask for
abbrev pub OfValues : Ask → Type 0
OfValues (Help helper.StrOfChar) = Unit {0}
OfValues (Help helper.StrEqual) = Unit {0}
OfValues (Make (small.Cast m n)) = Unit {0}
OfValues (Make (small.Equal m n)) = Unit {0}
OfValues other = ⊥

abbrev pub AllOfValues : List Ask → Type 0
AllOfValues [] = Unit {0}
AllOfValues (a ∷ asks) = OfValues a × AllOfValues asks

-- a helper on strings stands at its number, whenever it was asked for
abbrev pub StringsStand : LlProgram → World → Numbers → Core → Found → Ask → Type 0
StringsStand p world numbers core last ask = (found : Found) → Grows (number_of ask found).1 last → HasOther p world.around.layout numbers (raised_in world) core ask found

-- Of a program that has what was asked for while it was made, with these numbers and between these two moments: what is asked for in turn
-- stands at its numbers, with what it asks for itself, where the two helpers on strings do.
abbrev pub ConversionsHaveTheirs : Type 0
ConversionsHaveTheirs = (p : LlProgram) (known : Known) (world : World) (numbers : Numbers) (first last : Found) → HasAsked p known world numbers first last → length p.graphs < 2 ^ 64 → (core : Core)
    → StringsStand p world numbers core last (Help helper.StrOfChar) → StringsStand p world numbers core last (Help helper.StrEqual) → (asks : List Ask) (found : Found) → AllOfValues asks → Grows (all_asked asks found) last
    → AllAsked (Has p world.around.layout numbers (raised_in world) core) asks found

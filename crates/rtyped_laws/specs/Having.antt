-- What operations ask for stands at its numbers in every program that is made of flow graphs, as the laws of operations take it.
use Rattle.std.specs.Prelude.{◌≡◌, ◌<◌, ◌^◌, ℕ, ◌+◌, Bool, true, false, length}
use Rattle.csub_tree.specs.State.{Value, Static}
use Rattle.ll_build.specs.declared.needs.Helper.{Helper}
use Rattle.ll_build.specs.declared.needs.Numbers.{Numbers}
use Rattle.ll_code.specs.declared.program.LlProgram.{LlProgram}
use Rattle.rtyper_layout.specs.Types.{word}
use Rattle.rtyper_data.specs.declared.found.Found.{Found}
use Rattle.rtyper_data.specs.declared.small.Small.{Small}
use Rattle.rtyper_data.specs.declared.small.Small.TheVariants as small
use Rattle.rtyper_data.specs.Finding.{failures_of, helper_number, small_number}
use Rattle.rtyper_class.specs.Seen.{World}
use Rattle.rtyper_program.specs.Seen.{Known}
use Rattle.lower_laws.specs.Asked.{HasRaising, HasSmall}
use Rattle.growth_laws.specs.Growing.{Grows}
use Rattle.program_asks.specs.Standing.{HasAsked}

-- the one instance of a builtin exception class
abbrev pub raised_in : World → ℕ → Value
raised_in world class = Static (word (world.first_exception + class))

-- a graph that asks nothing of lists, dicts and classes
abbrev pub of_values : Small → Bool
of_values (small.Cast m n) = true
of_values (small.Equal m n) = true
of_values (small.Fail raises) = true
of_values (small.Present t raises) = true
of_values (small.Checked o raises) = true
of_values small.CheckedNeg = true
of_values small.IntOfText = true
of_values other = false

-- Of a program that has what was asked for while it was made, with these numbers and between these two moments: a small graph of values
-- that is asked for stands at its number, and what it raises is raised.
abbrev pub ValuesHaveTheirs : Type 0
ValuesHaveTheirs = (p : LlProgram) (known : Known) (world : World) (numbers : Numbers) (first last : Found) → HasAsked p known world numbers first last → length p.graphs < 2 ^ 64
    → (s : Small) → of_values s ≡ true → (found : Found) → Grows (small_number s found).1 last → HasSmall p world.around.layout (raised_in world) s (small_number s found).0

-- a helper that is asked for stands at its number, and raises those of its failures that are covered there
abbrev pub HelpersHaveTheirs : Type 0
HelpersHaveTheirs = (p : LlProgram) (known : Known) (world : World) (numbers : Numbers) (first last : Found) → HasAsked p known world numbers first last → length p.graphs < 2 ^ 64
    → (h : Helper) (found : Found) → Grows first found → Grows (helper_number h found).1 last → HasRaising p numbers (raised_in world) h (failures_of h found.covered) (helper_number h found).0

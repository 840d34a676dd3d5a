-- What is asked for and what functions have gives something, in every program that is made of flow graphs.
use Rattle.std.specs.Prelude.{◌≡◌, ◌≢◌, ◌<◌, ◌^◌, ℕ, length, slice_get, Some}
use Rattle.ll_code.specs.declared.program.LlProgram.{LlProgram}
use Rattle.ll_code.specs.declared.program.LlType.TheVariants as type
use Rattle.ll_build.specs.declared.needs.Numbers.{Numbers}
use Rattle.rtyper_layout.specs.Types.{type_seen}
use Rattle.rtyper_data.specs.declared.found.Found.{Found}
use Rattle.rtyper_op.specs.Calls.{number_of}
use Rattle.rtyper_class.specs.Instances.{type_of_field, value_field}
use Rattle.rtyper_class.specs.Seen.{World}
use Rattle.rtyper_dict.specs.Parts.{dict_at}
use Rattle.rtyper_program.specs.Seen.{Known}
use Rattle.program_asks.specs.Standing.{HasAsked}
use Rattle.reading_laws.specs.Tidy.{CallsGive, GivesAt}

-- the fields of attributes and the values of dicts have types
pub record HasTypedParts (world : World) : Type 0 where
  pub attributes : (own place : ℕ) → type_of_field world own (value_field place) ≢ type.Void
  pub values : (n : ℕ) → (dict_at world.around.layout n).stored_value ≢ type.Void

-- a function whose result has a type gives something
abbrev pub FunctionsGive : LlProgram → World → Type 0
FunctionsGive p world = (n : ℕ) → type_seen world.around.layout (slice_get world.around.results n) ≢ type.Void → GivesAt p (number_of world.around n)

abbrev pub CallsGiveInPrograms : Type 0
CallsGiveInPrograms = (p : LlProgram) (known : Known) (world : World) (numbers : Numbers) (first last : Found) → HasAsked p known world numbers first last → length p.graphs < 2 ^ 64 → HasTypedParts world → FunctionsGive p world → CallsGive p world first last

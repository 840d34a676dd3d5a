-- What operations on strings and lists of strings ask for stands at its numbers in every program that is made of flow graphs.
use Rattle.std.specs.Prelude.{◌≡◌, ◌<◌, ◌⊎◌, ◌^◌, ℕ, ◌+◌, [], length, Some}
use Rattle.csub_tree.specs.Layout.{constant}
use Rattle.csub_tree.specs.State.{Core}
use Rattle.class_desc.specs.Tables.{Tables}
use Rattle.ll_code.specs.declared.program.LlType.TheVariants as type
use Rattle.ll_code.specs.declared.program.LlProgram.{LlProgram}
use Rattle.ll_build.specs.declared.needs.Helper.TheVariants.{StrOfChar}
use Rattle.ll_build.specs.declared.needs.Numbers.{Numbers}
use Rattle.ll_strings.specs.Laws.{HasHelper}
use Rattle.ll_texts.specs.Texts.{HasText, found, text_block}
use Rattle.rtyper_layout.specs.declared.layout.Layout.{Layout}
use Rattle.rtyper_layout.specs.Types.{word}
use Rattle.rtyper_data.specs.declared.found.Found.{Found}
use Rattle.rtyper_data.specs.declared.small.Listed.TheVariants.{Join, Split}
use Rattle.rtyper_data.specs.declared.small.Small.TheVariants as small
use Rattle.rtyper_data.specs.Finding.{helper_number, small_number}
use Rattle.rtyper_class.specs.Seen.{World}
use Rattle.rtyper_program.specs.Program.{IsSettled}
use Rattle.rtyper_program.specs.Seen.{Known}
use Rattle.list_shape.specs.Shapes.{item_of}
use Rattle.list_texts.specs.Splitting.{empty}
use Rattle.lower_laws.specs.Asked.{Make}
use Rattle.layout_laws.specs.Statics.{statics_of}
use Rattle.growth_laws.specs.Growing.{Grows}
use Rattle.program_asks.specs.Standing.{HasAsked, last_in}
use Rattle.rtyped_laws.specs.Having.{raised_in}
use Rattle.split_laws.specs.Asked.{Has as HasToSplit}
use Rattle.join_laws.specs.Asked.{Has as HasToJoin}

-- whenever they were asked for, the helper that gives the string of a byte stands at its number, and the empty string in its static
pub record TextsStand (p : LlProgram) (numbers : Numbers) (core : Core) (last : Found) : Type 0 where
  pub letters : (made : Found) → Grows (helper_number StrOfChar made).1 last → HasHelper p numbers StrOfChar (helper_number StrOfChar made).0 core
  pub nothing : (made : Found) → Grows (empty made).1 last → found [] core.statics (constant (empty made).0) ≡ Some (text_block [])

-- Of a program that has what was asked for while it was made, between these two moments.
abbrev pub SplitsHaveTheirs : Type 0
SplitsHaveTheirs = (p : LlProgram) (known : Known) (world : World) (numbers : Numbers) (first last : Found) → HasAsked p known world numbers first last → length p.graphs < 2 ^ 64 → (core : Core) → TextsStand p numbers core last
    → (n : ℕ) (made : Found) → Grows (small_number (small.Listed (Split n)) made).1 last → HasToSplit p world.around.layout numbers (raised_in world) core (Make (small.Listed (Split n))) made

-- of lists of strings, and of bytes
abbrev pub JoinsHaveTheirs : Type 0
JoinsHaveTheirs = (p : LlProgram) (known : Known) (world : World) (numbers : Numbers) (first last : Found) → HasAsked p known world numbers first last → length p.graphs < 2 ^ 64 → (core : Core) → TextsStand p numbers core last
    → (n : ℕ) → (item_of world.around.layout (word (n + 1)) ≡ type.Ptr 0) ⊎ (item_of world.around.layout (word (n + 1)) ≡ type.Char)
    → (made : Found) → Grows (small_number (small.Listed (Join n)) made).1 last → HasToJoin p world.around.layout numbers (raised_in world) core (Make (small.Listed (Join n))) made

-- the empty string stands so at the start of a run
abbrev pub EmptyStringsStand : Type 0
EmptyStringsStand = (known : Known) (classes : Tables) (layout : Layout) (p : LlProgram) (r : IsSettled known classes layout p) → HasText p → (made : Found) → Grows (empty made).1 (last_in known classes layout p r)
    → found [] (statics_of p) (constant (empty made).0) ≡ Some (text_block [])

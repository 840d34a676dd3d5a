-- What raises exceptions stands at its numbers, where it is asked for in turn.
use Rattle.std.proofs.Common.{◌<◌, ◌^◌, ℕ, ◌+◌, List, [], ◌∷◌, length, refl}
use Rattle.ll_build.specs.declared.needs.Numbers.{Numbers}
use Rattle.ll_code.specs.declared.program.LlProgram.{LlProgram}
use Rattle.rtyper_layout.specs.Types.{word}
use Rattle.rtyper_data.specs.declared.found.Found.{Found}
use Rattle.rtyper_data.specs.declared.small.Small.TheVariants as small
use Rattle.rtyper_data.specs.Finding.{small_number}
use Rattle.rtyper_class.specs.Instances.{builtin_instance, raise, root_in}
use Rattle.rtyper_class.specs.Seen.{World, laid}
use Rattle.rtyper_program.specs.Seen.{Known}
use Rattle.lower_laws.specs.Asked.{AllRaise, Raises}
use Rattle.growth_laws.specs.Growing.{Grows}
use Rattle.growth_laws.proofs.Growing.{growth_is_one, same_found, smalls_grow}
use Rattle.program_asks.specs.Standing.{HasAsked, Stands}
use Rattle.rtyped_laws.specs.Having.{raised_in}

-- what is asked for where what raises exceptions of these classes is asked for in turn
abbrev pub all_raised : List ℕ → Found → Found
all_raised [] made = made
all_raised (class ∷ classes) made = all_raised classes (small_number (small.Raise class) made).1

pub all_raised_grows : (classes : List ℕ) (made : Found) → Grows made (all_raised classes made)
all_raised_grows [] made = same_found made
all_raised_grows (class ∷ classes) made =
    growth_is_one made (small_number (small.Raise class) made).1 (all_raised classes (small_number (small.Raise class) made).1)
    (smalls_grow (small.Raise class) made) (all_raised_grows classes (small_number (small.Raise class) made).1)

pub one_raises : (p : LlProgram) (world : World) (last : Found) (class n : ℕ) → Stands p.graphs world last n (small.Raise class) → Raises p n (raised_in world class)
unfolding raise builtin_instance
one_raises p world last class n s = record { struct = root_in (laid world 0); instance = word (world.first_exception + class); graph = s.graph; value = refl }

module _ (p : LlProgram) (known : Known) (world : World) (numbers : Numbers) (first last : Found) (has : HasAsked p known world numbers first last) (few : length p.graphs < 2 ^ 64) where
  pub all_raise : (classes : List ℕ) (made : Found) → Grows (all_raised classes made) last → AllRaise p (raised_in world) classes made
  all_raise [] made late = tt
  all_raise (class ∷ classes) made late = (
    one_raises p world last class (small_number (small.Raise class) made).0 (has.smalls few (small.Raise class) made
        (growth_is_one (small_number (small.Raise class) made).1 (all_raised classes (small_number (small.Raise class) made).1) last (all_raised_grows classes (small_number (small.Raise class) made).1) late)),
    all_raise classes (small_number (small.Raise class) made).1 late,
  )

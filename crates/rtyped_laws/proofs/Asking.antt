-- All that operations on lists, classes and dicts ask for stands at its numbers.
use Rattle.std.proofs.Common.{◌≡◌, ◌<◌, ◌^◌, true, false, List, [], ◌∷◌, length, refl}
use Rattle.csub_tree.specs.State.{Core}
use Rattle.ll_code.specs.declared.program.LlProgram.{LlProgram}
use Rattle.ll_build.specs.declared.needs.Numbers.{Numbers}
use Rattle.rtyper_data.specs.declared.found.Found.{Found}
use Rattle.rtyper_data.specs.declared.small.Small.{Small}
use Rattle.rtyper_data.specs.declared.small.Small.TheVariants as small
use Rattle.rtyper_data.specs.Finding.{small_number}
use Rattle.rtyper_class.specs.Seen.{World}
use Rattle.rtyper_program.specs.Seen.{Known}
use Rattle.lower_laws.specs.Asked.{Ask, Help, Raise, Make, all_asked, number_of}
use Rattle.object_laws.specs.Done.{AllAsked}
use Rattle.class_laws.specs.Asked as classes
use Rattle.growth_laws.specs.Growing.{Grows}
use Rattle.growth_laws.proofs.Data.{then_grows}
use Rattle.growth_laws.proofs.Growing.{helpers_grow, same_found, smalls_grow}
use Rattle.program_asks.specs.Standing.{HasAsked}
use Rattle.rtyped_laws.specs.Having.{HelpersHaveTheirs, ValuesHaveTheirs, raised_in}
use Rattle.rtyped_laws.specs.Objects.{MayAsk, OfClasses, OfDicts, OfLists, in_dicts, in_lists}
use Rattle.rtyped_laws.proofs.Objects.{has_attribute, has_is_instance, has_keyed, has_new, lists_have}

asked_grows : (a : Ask) (found : Found) → Grows found (number_of a found).1
asked_grows (Help h) found = helpers_grow h found
asked_grows (Raise h) found = helpers_grow h found
asked_grows (Make s) found = smalls_grow s found

all_grow : (asks : List Ask) (found : Found) → Grows found (all_asked asks found)
all_grow [] found = same_found found
all_grow (a ∷ asks) found = then_grows (asked_grows a found) (all_grow asks (number_of a found).1)

-- where each stands that is asked for between two moments, all stand
pub all_have : (first last : Found) (Good Has : Ask → Found → Type 0) → ((a : Ask) (found : Found) → Good a found → Grows first found → Grows (number_of a found).1 last → Has a found)
    → (asks : List Ask) (found : Found) → AllAsked Good asks found → Grows first found → Grows (all_asked asks found) last → AllAsked Has asks found
all_have first last Good Has each [] found good early late = tt
all_have first last Good Has each (a ∷ asks) found good early late =
    (each a found good.0 early (then_grows (all_grow asks (number_of a found).1) late), all_have first last Good Has each asks (number_of a found).1 good.1 (then_grows early (asked_grows a found)) late)

no_value : false ≡ true → ⊥
no_value e = absurd (let k : false ≡ true = e in cc)

module _ (values : ValuesHaveTheirs) (helpers : HelpersHaveTheirs) (p : LlProgram) (known : Known) (world : World) (numbers : Numbers) (first last : Found) (has : HasAsked p known world numbers first last) (few : length p.graphs < 2 ^ 64) where
  pub list_smalls : (core : Core) (s : Small) → OfLists s → (found : Found) → Grows (small_number s found).1 last → in_lists world p numbers (raised_in world) core (Make s) found
  list_smalls core (small.Listed graph) good found late = lists_have p known world numbers first last has few core graph good found late
  list_smalls core (small.Cast m n) good found late = values p known world numbers first last has few (small.Cast m n) refl found late
  list_smalls core (small.Equal m n) good found late = values p known world numbers first last has few (small.Equal m n) refl found late
  list_smalls core (small.Fail c) good found late = values p known world numbers first last has few (small.Fail c) refl found late
  list_smalls core (small.Present t c) good found late = values p known world numbers first last has few (small.Present t c) refl found late
  list_smalls core (small.Checked o c) good found late = values p known world numbers first last has few (small.Checked o c) refl found late
  list_smalls core small.CheckedNeg good found late = values p known world numbers first last has few small.CheckedNeg refl found late
  list_smalls core small.IntOfText good found late = values p known world numbers first last has few small.IntOfText refl found late
  list_smalls core (small.New n) good found late = absurd (no_value good)
  list_smalls core (small.Attribute own place c) good found late = absurd (no_value good)
  list_smalls core (small.IsInstance root vtable low high) good found late = absurd (no_value good)
  list_smalls core (small.Raise n) good found late = absurd (no_value good)
  list_smalls core (small.Keyed keyed) good found late = absurd (no_value good)

  pub class_smalls : (core : Core) (s : Small) → OfClasses s → (found : Found) → Grows (small_number s found).1 last → classes.Has world p numbers (raised_in world) core (Make s) found
  class_smalls core (small.New n) good found late = has_new p known world numbers first last has few n found late
  class_smalls core (small.Attribute own place c) good found late = has_attribute p known world numbers first last has few own place c found late
  class_smalls core (small.IsInstance root vtable low high) good found late = has_is_instance p known world numbers first last has few root vtable low high found late
  class_smalls core (small.Listed graph) good found late = lists_have p known world numbers first last has few core graph good found late
  class_smalls core (small.Cast m n) good found late = values p known world numbers first last has few (small.Cast m n) refl found late
  class_smalls core (small.Equal m n) good found late = values p known world numbers first last has few (small.Equal m n) refl found late
  class_smalls core (small.Fail c) good found late = values p known world numbers first last has few (small.Fail c) refl found late
  class_smalls core (small.Present t c) good found late = values p known world numbers first last has few (small.Present t c) refl found late
  class_smalls core (small.Checked o c) good found late = values p known world numbers first last has few (small.Checked o c) refl found late
  class_smalls core small.CheckedNeg good found late = values p known world numbers first last has few small.CheckedNeg refl found late
  class_smalls core small.IntOfText good found late = values p known world numbers first last has few small.IntOfText refl found late
  class_smalls core (small.Raise n) good found late = absurd (no_value good)
  class_smalls core (small.Keyed keyed) good found late = absurd (no_value good)

  pub dict_smalls : (core : Core) (s : Small) → OfDicts s → (found : Found) → Grows (small_number s found).1 last → in_dicts world p numbers (raised_in world) core (Make s) found
  dict_smalls core (small.Keyed keyed) good found late = has_keyed p known world numbers first last has few keyed found late
  dict_smalls core (small.Cast m n) good found late = values p known world numbers first last has few (small.Cast m n) refl found late
  dict_smalls core (small.Equal m n) good found late = values p known world numbers first last has few (small.Equal m n) refl found late
  dict_smalls core (small.Fail c) good found late = values p known world numbers first last has few (small.Fail c) refl found late
  dict_smalls core (small.Present t c) good found late = values p known world numbers first last has few (small.Present t c) refl found late
  dict_smalls core (small.Checked o c) good found late = values p known world numbers first last has few (small.Checked o c) refl found late
  dict_smalls core small.CheckedNeg good found late = values p known world numbers first last has few small.CheckedNeg refl found late
  dict_smalls core small.IntOfText good found late = values p known world numbers first last has few small.IntOfText refl found late
  dict_smalls core (small.New n) good found late = absurd (no_value good)
  dict_smalls core (small.Attribute own place c) good found late = absurd (no_value good)
  dict_smalls core (small.IsInstance root vtable low high) good found late = absurd (no_value good)
  dict_smalls core (small.Raise n) good found late = absurd (no_value good)
  dict_smalls core (small.Listed graph) good found late = absurd (no_value good)

  -- ---- all that is asked for

  list_ask : (core : Core) (a : Ask) (found : Found) → MayAsk OfLists world p numbers core a found → Grows first found → Grows (number_of a found).1 last → in_lists world p numbers (raised_in world) core a found
  list_ask core (Help h) found good early late = good
  list_ask core (Raise h) found good early late = helpers p known world numbers first last has few h found early late
  list_ask core (Make s) found good early late = list_smalls core s good found late

  pub list_asks : (core : Core) (asks : List Ask) (found : Found) → AllAsked (MayAsk OfLists world p numbers core) asks found → Grows first found → Grows (all_asked asks found) last → AllAsked (in_lists world p numbers (raised_in world) core) asks found
  list_asks core asks found = all_have first last (MayAsk OfLists world p numbers core) (in_lists world p numbers (raised_in world) core) (list_ask core) asks found

  class_ask : (core : Core) (a : Ask) (found : Found) → MayAsk OfClasses world p numbers core a found → Grows first found → Grows (number_of a found).1 last → classes.Has world p numbers (raised_in world) core a found
  class_ask core (Help h) found good early late = good
  class_ask core (Raise h) found good early late = helpers p known world numbers first last has few h found early late
  class_ask core (Make s) found good early late = class_smalls core s good found late

  pub class_asks : (core : Core) (asks : List Ask) (found : Found) → AllAsked (MayAsk OfClasses world p numbers core) asks found → Grows first found → Grows (all_asked asks found) last → AllAsked (classes.Has world p numbers (raised_in world) core) asks found
  class_asks core asks found = all_have first last (MayAsk OfClasses world p numbers core) (classes.Has world p numbers (raised_in world) core) (class_ask core) asks found

  dict_ask : (core : Core) (a : Ask) (found : Found) → MayAsk OfDicts world p numbers core a found → Grows first found → Grows (number_of a found).1 last → in_dicts world p numbers (raised_in world) core a found
  dict_ask core (Help h) found good early late = good
  dict_ask core (Raise h) found good early late = helpers p known world numbers first last has few h found early late
  dict_ask core (Make s) found good early late = dict_smalls core s good found late

  pub dict_asks : (core : Core) (asks : List Ask) (found : Found) → AllAsked (MayAsk OfDicts world p numbers core) asks found → Grows first found → Grows (all_asked asks found) last → AllAsked (in_dicts world p numbers (raised_in world) core) asks found
  dict_asks core asks found = all_have first last (MayAsk OfDicts world p numbers core) (in_dicts world p numbers (raised_in world) core) (dict_ask core) asks found

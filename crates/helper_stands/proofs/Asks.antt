-- All that operations ask for stands.
use Rattle.std.proofs.Common.{◌≡◌, ◌<◌, ◌^◌, true, List, length}
use Rattle.csub_tree.specs.State.{Core}
use Rattle.class_desc.specs.Tables.{Tables}
use Rattle.ll_build.specs.Needs.{uses_texts}
use Rattle.ll_build.specs.declared.needs.Numbers.{Numbers}
use Rattle.ll_code.specs.declared.program.LlProgram.{LlProgram}
use Rattle.rpy_tree.specs.Value.{Heap}
use Rattle.rtyper_class.specs.Seen.{World}
use Rattle.rtyper_data.specs.declared.found.Found.{Found}
use Rattle.rtyper_data.specs.declared.small.Small.{Small}
use Rattle.rtyper_program.specs.Program.{IsLaid}
use Rattle.rtyper_program.specs.Seen.{Known}
use Rattle.lower_laws.specs.Asked.{Ask, Help, Raise, Make, all_asked, number_of}
use Rattle.object_laws.specs.Done.{AllAsked}
use Rattle.object_laws.specs.Ghost.{Ghost}
use Rattle.object_laws.specs.Known.{Known as Seen}
use Rattle.object_laws.specs.Represents.{Represents}
use Rattle.growth_laws.specs.Growing.{Grows}
use Rattle.program_asks.specs.Standing.{first_in, last_in, numbers_in, world_in}
use Rattle.rtyped_laws.specs.Having.{raised_in}
use Rattle.rtyped_laws.specs.Objects.{MayAsk, OfClasses, OfDicts, OfLists}
use Rattle.rtyped_laws.specs.Programs.{layout_for}
use Rattle.rtyped_laws.proofs.Asking.{all_have, class_asks, dict_asks, list_asks}
use Rattle.rtyped_laws.proofs.Helping.{helpers_have_theirs}
use Rattle.rtyped_laws.proofs.Programs.{asked_is_had}
use Rattle.rtyped_laws.proofs.Values.{values_have_theirs}
use Rattle.helper_stands.specs.Asks.{ClassAsksStand, DictAsksStand, IsNone, ListAsksStand, MayBeAsked, TextAsksStand, in_texts}
use Rattle.helper_stands.specs.Standing.{KnowsTexts}
use Rattle.helper_stands.proofs.Helpers.{plain_helpers_stand, raising_helpers_stand}

module _ (known : Known) (classes : Tables) (p : LlProgram) (r : IsLaid known classes p) (seen : Seen) (few : length p.graphs < 2 ^ 64) (small : length (layout_for known classes).structs < 2 ^ 64) (knows : uses_texts r.needs ≡ true → KnowsTexts p seen)
    (g : Ghost) (heap : Heap) (core : Core) (memory : Represents (layout_for known classes) seen g heap core.steps core.blocks core.statics) where
  abbrev world : World
  world = world_in known classes (layout_for known classes) p r

  abbrev numbers : Numbers
  numbers = numbers_in known classes (layout_for known classes) p r

  abbrev first : Found
  first = first_in known classes (layout_for known classes) p r

  abbrev last : Found
  last = last_in known classes (layout_for known classes) p r

  may_ask : (Good : Small → Type 0) (a : Ask) (found : Found) → MayBeAsked Good a found → Grows first found → Grows (number_of a found).1 last → MayAsk Good world p numbers core a found
  may_ask Good (Help h) found good early late = plain_helpers_stand known classes p r seen few small knows h found good early late g heap core memory
  may_ask Good (Raise h) found good early late = tt
  may_ask Good (Make s) found good early late = good

  all_may_be : (Good : Small → Type 0) (asks : List Ask) (found : Found) → AllAsked (MayBeAsked Good) asks found → Grows first found → Grows (all_asked asks found) last → AllAsked (MayAsk Good world p numbers core) asks found
  all_may_be Good asks found good early late = all_have first last (MayBeAsked Good) (MayAsk Good world p numbers core) (may_ask Good) asks found good early late

  text_ask : (a : Ask) (found : Found) → MayBeAsked IsNone a found → Grows first found → Grows (number_of a found).1 last → in_texts world p numbers (raised_in world) core a found
  text_ask (Help h) found good early late = plain_helpers_stand known classes p r seen few small knows h found good early late g heap core memory
  text_ask (Raise h) found good early late = raising_helpers_stand known classes p r seen few small knows h found early late g heap core memory
  text_ask (Make s) found good early late = absurd good

pub text_asks_stand : TextAsksStand
text_asks_stand known classes p r seen few small knows asks found good early late g heap core memory =
    all_have (first_in known classes (layout_for known classes) p r) (last_in known classes (layout_for known classes) p r) (MayBeAsked IsNone)
    (in_texts (world_in known classes (layout_for known classes) p r) p (numbers_in known classes (layout_for known classes) p r) (raised_in (world_in known classes (layout_for known classes) p r)) core)
    (text_ask known classes p r seen few small knows g heap core memory) asks found good early late

pub list_asks_stand : ListAsksStand
list_asks_stand known classes p r seen few small knows asks found good early late g heap core memory =
    list_asks values_have_theirs helpers_have_theirs p known (world_in known classes (layout_for known classes) p r) (numbers_in known classes (layout_for known classes) p r) (first_in known classes (layout_for known classes) p r) (last_in known classes (layout_for known classes) p r)
    (asked_is_had known classes (layout_for known classes) p r) few core asks found (all_may_be known classes p r seen few small knows g heap core memory OfLists asks found good early late) early late

pub class_asks_stand : ClassAsksStand
class_asks_stand known classes p r seen few small knows asks found good early late g heap core memory =
    class_asks values_have_theirs helpers_have_theirs p known (world_in known classes (layout_for known classes) p r) (numbers_in known classes (layout_for known classes) p r) (first_in known classes (layout_for known classes) p r) (last_in known classes (layout_for known classes) p r)
    (asked_is_had known classes (layout_for known classes) p r) few core asks found (all_may_be known classes p r seen few small knows g heap core memory OfClasses asks found good early late) early late

pub dict_asks_stand : DictAsksStand
dict_asks_stand known classes p r seen few small knows asks found good early late g heap core memory =
    dict_asks values_have_theirs helpers_have_theirs p known (world_in known classes (layout_for known classes) p r) (numbers_in known classes (layout_for known classes) p r) (first_in known classes (layout_for known classes) p r) (last_in known classes (layout_for known classes) p r)
    (asked_is_had known classes (layout_for known classes) p r) few core asks found (all_may_be known classes p r seen few small knows g heap core memory OfDicts asks found good early late) early late

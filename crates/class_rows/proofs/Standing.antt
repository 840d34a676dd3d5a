-- What operations with conversions ask for stands.
use Rattle.std.proofs.Common.{List, [], ◌∷◌, ◌++◌, refl, sym, subst}
use Rattle.csub_tree.specs.State.{Core}
use Rattle.ll_build.specs.declared.needs.Helper.TheVariants as helper
use Rattle.ll_code.specs.declared.program.LlType.{LlType}
use Rattle.rpy_tree.specs.Value.{Heap}
use Rattle.rtyper_data.specs.declared.found.Found.{Found}
use Rattle.rtyper_data.specs.declared.small.Small.TheVariants as small
use Rattle.rtyper_layout.specs.declared.layout.Layout.{Layout}
use Rattle.class_laws.specs.Asked as classes
use Rattle.conversion_laws.specs.Asked.{asks_for}
use Rattle.growth_laws.specs.Growing.{Grows}
use Rattle.growth_laws.proofs.Growing.{growth_is_one, helpers_grow, same_found, smalls_grow}
use Rattle.helper_stands.specs.Asks.{MayBeAsked}
use Rattle.helper_stands.proofs.Asks.{class_asks_stand}
use Rattle.lower_laws.specs.Asked.{Ask, Help, Raise, Make, all_asked, number_of}
use Rattle.object_laws.specs.Done.{AllAsked}
use Rattle.object_laws.specs.Ghost.{Ghost}
use Rattle.object_laws.specs.Represents.{Represents}
use Rattle.passing_laws.specs.Standing.{Stood, With}
use Rattle.rtyped_conversions.specs.Having.{AllOfValues, OfValues}
use Rattle.rtyped_laws.specs.Objects.{OfClasses}
use Rattle.typed_rows.specs.Programs.{Typed, IsTyped, first, last, layout, numbers, world}
use Rattle.value_rows.proofs.Conversions.{asks_for_of, conversions_stand}
use Rattle.class_rows.proofs.Common.{exception_is}

-- ---- what may be asked for, whatever is covered

abbrev pub MayAlways : Ask → Type 0
MayAlways (Help helper.StrOfChar) = Unit {0}
MayAlways (Help helper.StrEqual) = Unit {0}
MayAlways (Help h) = ⊥
MayAlways (Raise h) = Unit {0}
MayAlways (Make (small.Cast m n)) = Unit {0}
MayAlways (Make s) = OfClasses s

abbrev pub AllAlways : List Ask → Type 0
AllAlways [] = Unit {0}
AllAlways (a ∷ asks) = MayAlways a × AllAlways asks

pub both_always : (xs ys : List Ask) → AllAlways xs → AllAlways ys → AllAlways (xs ++ ys)
both_always [] ys h k = k
both_always (x ∷ xs) ys h k = (h.0, both_always xs ys h.1 k)

value_always : (a : Ask) → OfValues a → MayAlways a
value_always (Help helper.StrOfChar) h = tt
value_always (Help helper.StrEqual) h = tt
value_always (Make (small.Cast m n)) h = tt
value_always (Make (small.Equal m n)) h = refl
value_always _ h = absurd h

values_always : (asks : List Ask) → AllOfValues asks → AllAlways asks
values_always [] h = tt
values_always (a ∷ asks) h = (value_always a h.0, values_always asks h.1)

pub converts_always : (l : Layout) (s t : LlType) → AllAlways (asks_for l s t)
converts_always l s t = values_always (asks_for l s t) (asks_for_of l s t)

-- ---- what is asked for only grows

ask_grows : (a : Ask) (found : Found) → Grows found (number_of a found).1
ask_grows (Help h) found = helpers_grow h found
ask_grows (Raise h) found = helpers_grow h found
ask_grows (Make s) found = smalls_grow s found

pub asks_grow : (asks : List Ask) (found : Found) → Grows found (all_asked asks found)
asks_grow [] found = same_found found
asks_grow (a ∷ asks) found = growth_is_one found (number_of a found).1 (all_asked asks (number_of a found).1) (ask_grows a found) (asks_grow asks (number_of a found).1)

-- ---- that it stands

module _ (t : Typed) (typed : IsTyped t) (core : Core) (g : Ghost) (heap : Heap) (memory : Represents (layout t) t.seen g heap core.steps core.blocks core.statics) where
  abbrev Has : Ask → Found → Type 0
  Has ask found = With (classes.Has (world t)) (layout t) t.p (numbers t) t.seen.exception core ask found

  class_stands : (a : Ask) (found : Found) → MayBeAsked OfClasses a found → Grows (first t) found → Grows (number_of a found).1 (last t) → classes.Has (world t) t.p (numbers t) t.seen.exception core a found
  class_stands a found good early late =
      (subst (λ raised. AllAsked (classes.Has (world t) t.p (numbers t) raised core) (a ∷ []) found) (sym (exception_is t typed))
      (class_asks_stand t.known t.classes t.p t.made t.seen typed.small.graphs typed.small.structs typed.small.texts (a ∷ []) found (good, tt) early late g heap core memory)).0

  one_stands : (a : Ask) (found : Found) → MayAlways a → Grows (first t) found → Grows (number_of a found).1 (last t) → Has a found
  one_stands (Help helper.StrOfChar) found good early late = class_stands (Help helper.StrOfChar) found refl early late
  one_stands (Help helper.StrEqual) found good early late = class_stands (Help helper.StrEqual) found refl early late
  one_stands (Help _) found good early late = absurd good
  one_stands (Raise h) found good early late = class_stands (Raise h) found tt early late
  one_stands (Make (small.Cast m n)) found good early late = (conversions_stand t typed (Make (small.Cast m n) ∷ []) found (tt, tt) late core g heap core.steps memory refl).0
  one_stands (Make s) found good early late = class_stands (Make s) found good early late

  all_stand : (asks : List Ask) (found : Found) → AllAlways asks → Grows (first t) found → Grows (all_asked asks found) (last t) → AllAsked Has asks found
  all_stand [] found good early late = tt
  all_stand (a ∷ asks) found good early late = (
    one_stands a found good.0 early (growth_is_one (number_of a found).1 (all_asked asks (number_of a found).1) (last t) (asks_grow asks (number_of a found).1) late),
    all_stand asks (number_of a found).1 good.1 (growth_is_one (first t) found (number_of a found).1 early (ask_grows a found)) late,
  )

pub stood_so : (t : Typed) → IsTyped t → (asks : List Ask) (found : Found) → AllAlways asks → Grows (first t) found → Grows (all_asked asks found) (last t) → Stood (layout t) t.seen (With (classes.Has (world t)) (layout t) t.p (numbers t) t.seen.exception) asks found
stood_so t typed asks found good early late core g heap left memory same = all_stand t typed core g heap (subst (λ k. Represents (layout t) t.seen g heap k core.blocks core.statics) same memory) asks found good early late

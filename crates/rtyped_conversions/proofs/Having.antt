-- What conversions and comparisons ask for stands at its numbers.
use Rattle.std.proofs.Common.{◌≡◌, ◌<◌, ◌^◌, ℕ, zero, suc, ◌+◌, ◌==◌, ◌&&◌, Bool, true, false, List, [], ◌∷◌, ◌++◌, length, refl, sym, ap, ◌∙◌, subst}
use Rattle.std.specs.Prelude.{if◌then◌else◌}
use Rattle.csub_tree.specs.State.{Core}
use Rattle.csub_tree.specs.declared.tree.COperand.{COperand}
use Rattle.ll_build.specs.declared.needs.Helper.TheVariants as helper
use Rattle.ll_build.specs.declared.needs.Numbers.{Numbers}
use Rattle.ll_code.specs.declared.program.LlProgram.{LlProgram}
use Rattle.ll_code.specs.declared.program.LlType.{LlType}
use Rattle.ll_code.specs.declared.program.LlType.TheVariants as type
use Rattle.rtyper_layout.specs.declared.layout.Layout.{Layout}
use Rattle.rtyper_layout.specs.Layout.{is_tuple}
use Rattle.rtyper_data.specs.declared.found.Found.{Found}
use Rattle.rtyper_data.specs.declared.small.Small.TheVariants as small
use Rattle.rtyper_data.specs.Finding.{same_type, small_number}
use Rattle.rtyper_data.specs.Graphs.{fields_at, field_at, cast_items, cast_made, equal_items, equality_made, shared_fields}
use Rattle.rtyper_data.specs.Numbers.{word}
use Rattle.rtyper_data.specs.Seen.{Writing}
use Rattle.rtyper_data.specs.Smalls.{small_graph}
use Rattle.std.specs.Prelude.{pos}
use Rattle.rtyper_class.specs.Seen.{World}
use Rattle.rtyper_program.specs.Seen.{Known}
use Rattle.lower_laws.specs.Asked.{Ask, Help, Make, all_asked, number_of}
use Rattle.lower_laws.proofs.Kept.{asked_append}
use Rattle.object_laws.specs.Done.{AllAsked}
use Rattle.growth_laws.specs.Growing.{Grows}
use Rattle.growth_laws.proofs.Data.{then_grows}
use Rattle.growth_laws.proofs.Growing.{helpers_grow, same_found, smalls_grow}
use Rattle.program_asks.specs.Standing.{HasAsked, Stands}
use Rattle.rtyped_laws.specs.Having.{raised_in}
use Rattle.conversion_laws.specs.Asked.{Has, HasTo, asked_by, asks_for, fields_asks, cast_asks, equal_asks, fields_equal_asks, equality_asks}
use Rattle.conversion_laws.proofs.Rows as rows
use Rattle.conversion_laws.proofs.Rounds as rounds
use Rattle.rtyped_conversions.specs.Having.{OfValues, AllOfValues, StringsStand, ConversionsHaveTheirs}

-- ---- what graphs ask for

module _ (layout : Layout) where
  fields_found : (m : ℕ) (to : List LlType) (i : ℕ) (ts : List LlType) (w : Writing) → rows.found_from layout m to i ts w ≡ all_asked (fields_asks layout to i ts) w.found
  fields_found m to i [] w = refl
  fields_found m to i (t ∷ ts) w =
      fields_found m to (i + 1) ts (rows.next layout m to i t w) ∙ ap (all_asked (fields_asks layout to (i + 1) ts)) (rows.first_asked layout m to i t w) ∙ sym (asked_append (asks_for layout t (field_at to i)) (fields_asks layout to (i + 1) ts) w.found)

  cast_found : (m n : ℕ) (made : Found) → (small_graph layout (small.Cast m n) made).1 ≡ all_asked (cast_asks layout m n) made
  unfolding cast_items
  cast_found m n made =
      ap (λ (r : List COperand × Writing). (cast_made n r).1) (rows.cast_is layout m (fields_at layout n) 0 (shared_fields layout m n) (rows.start layout m n made)) ∙ fields_found m (fields_at layout n) 0 (shared_fields layout m n) (rows.start layout m n made)

  rounds_found : (m n : ℕ) (those : List LlType) (i : ℕ) (ss : List LlType) (all : COperand) (w : Writing) → rounds.found_from layout m n those i ss all w ≡ all_asked (fields_equal_asks layout those i ss) w.found
  rounds_found m n those i [] all w = refl
  rounds_found m n those i (s ∷ ss) all w =
      rounds_found m n those (i + 1) ss _ (rounds.round layout m n those i s all w) ∙ ap (all_asked (fields_equal_asks layout those (i + 1) ss)) (rounds.round_asked layout m n those i s all w)
      ∙ sym (asked_append (equal_asks layout s (field_at those i)) (fields_equal_asks layout those (i + 1) ss) w.found)

  equality_found : (m n : ℕ) (made : Found) → (small_graph layout (small.Equal m n) made).1 ≡ all_asked (equality_asks layout m n) made
  unfolding equal_items
  equality_found m n made =
      ap (λ (r : COperand × Writing). (equality_made r).1) (rounds.rounds_are layout m n (fields_at layout n) 0 (shared_fields layout m n) (word (pos 1)) (rounds.start layout m n made))
      ∙ rounds_found m n (fields_at layout n) 0 (shared_fields layout m n) (word (pos 1)) (rounds.start layout m n made)

  -- ---- which these are

  both_of : (xs ys : List Ask) → AllOfValues xs → AllOfValues ys → AllOfValues (xs ++ ys)
  both_of [] ys h k = k
  both_of (a ∷ xs) ys h k = (h.0, both_of xs ys h.1 k)

  if_of : (c : Bool) (xs ys : List Ask) → AllOfValues xs → AllOfValues ys → AllOfValues (if c then xs else ys)
  if_of true xs ys h k = h
  if_of false xs ys h k = k

  asked_of : (s t : LlType) → AllOfValues (asked_by layout s t)
  asked_of type.Char (type.Ptr n) = if_of (n == 0) (Help helper.StrOfChar ∷ []) [] (tt, tt) tt
  asked_of (type.Ptr m) (type.Ptr n) = if_of (is_tuple layout m && is_tuple layout n) (Make (small.Cast m n) ∷ []) [] (tt, tt) tt
  asked_of _ _ = tt

  fields_of : (to : List LlType) (i : ℕ) (ts : List LlType) → AllOfValues (fields_asks layout to i ts)
  fields_of to i [] = tt
  fields_of to i (t ∷ ts) = both_of (asks_for layout t (field_at to i)) (fields_asks layout to (i + 1) ts) (if_of (same_type t (field_at to i)) [] (asked_by layout t (field_at to i)) tt (asked_of t (field_at to i))) (fields_of to (i + 1) ts)

  equal_of : (s t : LlType) → AllOfValues (equal_asks layout s t)
  equal_of type.Char (type.Ptr n) = if_of (n == 0) (Help helper.StrOfChar ∷ Help helper.StrEqual ∷ []) [] (tt, (tt, tt)) tt
  equal_of (type.Ptr m) type.Char = if_of (m == 0) (Help helper.StrOfChar ∷ Help helper.StrEqual ∷ []) [] (tt, (tt, tt)) tt
  equal_of (type.Ptr m) (type.Ptr n) =
      if_of ((m == 0) && (n == 0)) (Help helper.StrEqual ∷ []) (if is_tuple layout m && is_tuple layout n then Make (small.Equal m n) ∷ [] else []) (tt, tt)
      (if_of (is_tuple layout m && is_tuple layout n) (Make (small.Equal m n) ∷ []) [] (tt, tt) tt)
  equal_of _ _ = tt

  fields_equal_of : (those : List LlType) (i : ℕ) (ss : List LlType) → AllOfValues (fields_equal_asks layout those i ss)
  fields_equal_of those i [] = tt
  fields_equal_of those i (s ∷ ss) = both_of (equal_asks layout s (field_at those i)) (fields_equal_asks layout those (i + 1) ss) (equal_of s (field_at those i)) (fields_equal_of those (i + 1) ss)

-- ---- that it stands

asked_grows : (a : Ask) → OfValues a → (found : Found) → Grows found (number_of a found).1
asked_grows (Help h) good found = helpers_grow h found
asked_grows (Make s) good found = smalls_grow s found
asked_grows _ good found = absurd good

all_grow : (asks : List Ask) → AllOfValues asks → (found : Found) → Grows found (all_asked asks found)
all_grow [] good found = same_found found
all_grow (a ∷ asks) good found = then_grows (asked_grows a good.0 found) (all_grow asks good.1 (number_of a found).1)

all_have : (last : Found) (Had : Ask → Found → Type 0) → ((a : Ask) (found : Found) → OfValues a → Grows (number_of a found).1 last → Had a found) → (asks : List Ask) (found : Found) → AllOfValues asks → Grows (all_asked asks found) last → AllAsked Had asks found
all_have last Had each [] found good late = tt
all_have last Had each (a ∷ asks) found good late = (each a found good.0 (then_grows (all_grow asks good.1 (number_of a found).1) late), all_have last Had each asks (number_of a found).1 good.1 late)

module _ (p : LlProgram) (known : Known) (world : World) (numbers : Numbers) (first last : Found) (has : HasAsked p known world numbers first last) (few : length p.graphs < 2 ^ 64) (core : Core)
    (letters : StringsStand p world numbers core last (Help helper.StrOfChar)) (equals : StringsStand p world numbers core last (Help helper.StrEqual)) where
  abbrev layout : Layout
  layout = world.around.layout

  has_to : (k : ℕ) (a : Ask) (found : Found) → OfValues a → Grows (number_of a found).1 last → HasTo p world.around.layout numbers (raised_in world) core k a found
  has_to zero a found good late = tt
  has_to (suc k) (Help helper.StrOfChar) found good late = letters found late
  has_to (suc k) (Help helper.StrEqual) found good late = equals found late
  has_to (suc k) (Make (small.Cast m n)) found good late =
      let s : Stands p.graphs world last (small_number (small.Cast m n) found).0 (small.Cast m n) = has.smalls few (small.Cast m n) found late in
      record {
        made = s.made;
        graph = s.graph;
        parts = all_have last (HasTo p world.around.layout numbers (raised_in world) core k) (λ a found good late. has_to k a found good late) (cast_asks world.around.layout m n) s.made (fields_of world.around.layout (fields_at world.around.layout n) 0 (shared_fields world.around.layout m n))
            (subst (λ f. Grows f last) (cast_found world.around.layout m n s.made) s.grows);
      }
  has_to (suc k) (Make (small.Equal m n)) found good late =
      let s : Stands p.graphs world last (small_number (small.Equal m n) found).0 (small.Equal m n) = has.smalls few (small.Equal m n) found late in
      record {
        made = s.made;
        graph = s.graph;
        parts = all_have last (HasTo p world.around.layout numbers (raised_in world) core k) (λ a found good late. has_to k a found good late) (equality_asks world.around.layout m n) s.made (fields_equal_of world.around.layout (fields_at world.around.layout n) 0 (shared_fields world.around.layout m n))
            (subst (λ f. Grows f last) (equality_found world.around.layout m n s.made) s.grows);
      }
  has_to (suc k) _ found good late = absurd good

pub conversions_have_theirs : ConversionsHaveTheirs
conversions_have_theirs p known world numbers first last has few core letters equals asks found good late =
    all_have last (Has p world.around.layout numbers (raised_in world) core) (λ a found good late k. has_to p known world numbers first last has few core letters equals k a found good late) asks found good late

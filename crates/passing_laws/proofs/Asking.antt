-- What conversions ask for.
use Rattle.std.proofs.Common.{◌≡◌, ℕ, zero, suc, ◌==◌, ◌&&◌, Bool, true, false, List, [], ◌∷◌, ◌++◌, Option, Some, None, refl, ◌∙◌}
use Rattle.std.specs.Prelude.{if◌then◌else◌}
use Rattle.ann_element.specs.declared.element.Element.{Element}
use Rattle.csub_tree.specs.State.{Value, Core}
use Rattle.ll_code.specs.declared.program.LlType.{LlType}
use Rattle.ll_code.specs.declared.program.LlType.TheVariants as type
use Rattle.ll_code.specs.declared.program.LlProgram.{LlProgram}
use Rattle.ll_build.specs.declared.needs.Helper.{Helper}
use Rattle.ll_build.specs.declared.needs.Helper.TheVariants as helper
use Rattle.ll_build.specs.declared.needs.Numbers.{Numbers}
use Rattle.rtyper_layout.specs.declared.layout.Layout.{Layout}
use Rattle.rtyper_layout.specs.Layout.{is_tuple}
use Rattle.rtyper_layout.specs.Types.{type_of, type_seen}
use Rattle.rtyper_data.specs.declared.found.Found.{Found}
use Rattle.rtyper_data.specs.declared.small.Small.{Small}
use Rattle.rtyper_data.specs.declared.small.Small.TheVariants as small
use Rattle.rtyper_data.specs.Finding.{same_type, helper_number, small_number, needed, need_from, failures_of, asked, small_from}
use Rattle.rtyper_data.specs.Seen.{Operand}
use Rattle.lower_laws.specs.Asked.{Ask, Help, Raise, Make, all_asked}
use Rattle.object_laws.specs.Done.{AllAsked}
use Rattle.object_laws.specs.Known.{Known}
use Rattle.conversion_laws.specs.Asked.{Has, asked_by, asks_for}
use Rattle.passing_laws.specs.Passing.{pass_asks}
use Rattle.passing_laws.specs.Standing.{HasOne, With, Stood}

-- ---- statics stay

helper_statics : (h : Helper) (found : Found) → (helper_number h found).1.statics ≡ found.statics
unfolding helper_number
helper_statics h found = by (need_from 0 found.needs found.caught h (failures_of h found.covered))
  where
    by : (o : Option ℕ) → (needed h (failures_of h found.covered) found o).1.statics ≡ found.statics
    by None = refl
    by (Some n) = refl

small_statics : (s : Small) (found : Found) → (small_number s found).1.statics ≡ found.statics
unfolding small_number
small_statics s found = by (small_from 0 found.smalls s)
  where
    by : (o : Option ℕ) → (asked s found o).1.statics ≡ found.statics
    by None = refl
    by (Some n) = refl

pub asks_statics : (asks : List Ask) (found : Found) → (all_asked asks found).statics ≡ found.statics
asks_statics [] found = refl
asks_statics (Help h ∷ asks) found = asks_statics asks (helper_number h found).1 ∙ helper_statics h found
asks_statics (Raise h ∷ asks) found = asks_statics asks (helper_number h found).1 ∙ helper_statics h found
asks_statics (Make s ∷ asks) found = asks_statics asks (small_number s found).1 ∙ small_statics s found

-- ---- and so does what is covered

helper_covers : (h : Helper) (found : Found) → (helper_number h found).1.covered ≡ found.covered
unfolding helper_number
helper_covers h found = by (need_from 0 found.needs found.caught h (failures_of h found.covered))
  where
    by : (o : Option ℕ) → (needed h (failures_of h found.covered) found o).1.covered ≡ found.covered
    by None = refl
    by (Some n) = refl

small_covers : (s : Small) (found : Found) → (small_number s found).1.covered ≡ found.covered
unfolding small_number
small_covers s found = by (small_from 0 found.smalls s)
  where
    by : (o : Option ℕ) → (asked s found o).1.covered ≡ found.covered
    by None = refl
    by (Some n) = refl

pub asks_cover : (asks : List Ask) (found : Found) → (all_asked asks found).covered ≡ found.covered
asks_cover [] found = refl
asks_cover (Help h ∷ asks) found = asks_cover asks (helper_number h found).1 ∙ helper_covers h found
asks_cover (Raise h ∷ asks) found = asks_cover asks (helper_number h found).1 ∙ helper_covers h found
asks_cover (Make s ∷ asks) found = asks_cover asks (small_number s found).1 ∙ small_covers s found

-- ---- conversions stand among what an operation asks for

-- a helper, or the graph that makes a tuple of one struct one of another
abbrev IsConversion : Ask → Type 0
IsConversion (Help h) = Unit {0}
IsConversion (Make (small.Cast m n)) = Unit {0}
IsConversion other = ⊥

abbrev AllConversions : List Ask → Type 0
AllConversions [] = Unit {0}
AllConversions (a ∷ asks) = IsConversion a × AllConversions asks

both_conversions : (xs ys : List Ask) → AllConversions xs → AllConversions ys → AllConversions (xs ++ ys)
both_conversions [] ys a b = b
both_conversions (x ∷ xs) ys a b = (a.0, both_conversions xs ys a.1 b)

for_conversions : (layout : Layout) (s t : LlType) → AllConversions (asks_for layout s t)
for_conversions layout s t = by (same_type s t)
  where
    text : (c : Bool) → AllConversions (if c then Help helper.StrOfChar ∷ [] else [])
    text true = (tt, tt)
    text false = tt

    cast : (m n : ℕ) (c : Bool) → AllConversions (if c then Make (small.Cast m n) ∷ [] else [])
    cast m n true = (tt, tt)
    cast m n false = tt

    some : (s t : LlType) → AllConversions (asked_by layout s t)
    some type.Char (type.Ptr n) = text (n == 0)
    some (type.Ptr m) (type.Ptr n) = cast m n (is_tuple layout m && is_tuple layout n)
    some _ _ = tt

    by : (c : Bool) → AllConversions (if c then [] else asked_by layout s t)
    by true = tt
    by false = some s t

pass_conversions : (layout : Layout) (args : List Operand) (es : List Element) → AllConversions (pass_asks layout args es)
pass_conversions layout [] es = tt
pass_conversions layout (a ∷ args) [] = tt
pass_conversions layout (a ∷ args) (e ∷ es) = both_conversions (asks_for layout (type_seen layout a.element) (type_of layout e)) (pass_asks layout args es) (for_conversions layout (type_seen layout a.element) (type_of layout e)) (pass_conversions layout args es)

module _ (Other : HasOne) (layout : Layout) (p : LlProgram) (numbers : Numbers) (raised : ℕ → Value) where
  helper_had : (core : Core) (h : Helper) (found : Found) → With Other layout p numbers raised core (Help h) found → Has p layout numbers raised core (Help h) found
  helper_had core h found has zero = tt
  helper_had core h found has (suc k) = has

  all_had : (core : Core) (asks : List Ask) (found : Found) → AllConversions asks → AllAsked (With Other layout p numbers raised core) asks found → AllAsked (Has p layout numbers raised core) asks found
  all_had core [] found are has = tt
  all_had core (Help h ∷ asks) found are has = (helper_had core h found has.0, all_had core asks (helper_number h found).1 are.1 has.1)
  all_had core (Raise h ∷ asks) found are has = absurd are.0
  all_had core (Make (small.Cast m n) ∷ asks) found are has = (has.0, all_had core asks (small_number (small.Cast m n) found).1 are.1 has.1)
  all_had core (Make _ ∷ asks) found are has = absurd are.0

  pub passes_stood : (known : Known) (args : List Operand) (es : List Element) (found : Found) → Stood layout known (With Other layout p numbers raised) (pass_asks layout args es) found → Stood layout known (Has p layout numbers raised) (pass_asks layout args es) found
  passes_stood known args es found stood core g heap left r u = all_had core (pass_asks layout args es) found (pass_conversions layout args es) (stood core g heap left r u)

  pub one_stood : (known : Known) (s t : LlType) (found : Found) → Stood layout known (With Other layout p numbers raised) (asks_for layout s t) found → Stood layout known (Has p layout numbers raised) (asks_for layout s t) found
  one_stood known s t found stood core g heap left r u = all_had core (asks_for layout s t) found (for_conversions layout s t) (stood core g heap left r u)

-- What conversions and comparisons ask for, and that it stands at its numbers.
use Rattle.std.specs.Prelude.{◌≡◌, ℕ, zero, suc, ◌+◌, ◌==◌, ◌&&◌, if◌then◌else◌, List, [], ◌∷◌, ◌++◌, slice_get, Some}
use Rattle.csub_tree.specs.State.{Value, Core}
use Rattle.ll_code.specs.declared.program.LlType.{LlType}
use Rattle.ll_code.specs.declared.program.LlType.TheVariants as type
use Rattle.ll_code.specs.declared.program.LlProgram.{LlProgram}
use Rattle.ll_build.specs.declared.needs.Helper.TheVariants as helper
use Rattle.ll_build.specs.declared.needs.Numbers.{Numbers}
use Rattle.rtyper_layout.specs.declared.layout.Layout.{Layout}
use Rattle.rtyper_layout.specs.Layout.{is_tuple}
use Rattle.rtyper_data.specs.declared.found.Found.{Found}
use Rattle.rtyper_data.specs.declared.small.Small.TheVariants as small
use Rattle.rtyper_data.specs.Finding.{same_type, small_number}
use Rattle.rtyper_data.specs.Graphs.{fields_at, field_at, shared_fields}
use Rattle.rtyper_data.specs.Smalls.{small_graph}
use Rattle.lower_laws.specs.Asked.{Ask, Help, Make, Has as HasOther}
use Rattle.object_laws.specs.Done.{AllAsked}

-- ---- what is asked for

-- a string of a byte, and a tuple of one struct as one of another
abbrev pub asked_by : Layout → LlType → LlType → List Ask
asked_by layout type.Char (type.Ptr n) = if n == 0 then Help helper.StrOfChar ∷ [] else []
asked_by layout (type.Ptr m) (type.Ptr n) = if is_tuple layout m && is_tuple layout n then Make (small.Cast m n) ∷ [] else []
asked_by layout from to = []

-- for a value of the one type as one of the other
abbrev pub asks_for : Layout → LlType → LlType → List Ask
asks_for layout from to = if same_type from to then [] else asked_by layout from to

-- for the fields of a tuple, one after the other, as those of another from a place on
abbrev pub fields_asks : Layout → List LlType → ℕ → List LlType → List Ask
fields_asks layout to i [] = []
fields_asks layout to i (t ∷ ts) = asks_for layout t (field_at to i) ++ fields_asks layout to (i + 1) ts

abbrev pub cast_asks : Layout → ℕ → ℕ → List Ask
cast_asks layout m n = fields_asks layout (fields_at layout n) 0 (shared_fields layout m n)

-- for whether a value of the one type is equal to one of the other: a byte is made a string, strings are compared, and tuples are
abbrev pub equal_asks : Layout → LlType → LlType → List Ask
equal_asks layout type.Char (type.Ptr n) = if n == 0 then Help helper.StrOfChar ∷ Help helper.StrEqual ∷ [] else []
equal_asks layout (type.Ptr m) type.Char = if m == 0 then Help helper.StrOfChar ∷ Help helper.StrEqual ∷ [] else []
equal_asks layout (type.Ptr m) (type.Ptr n) = if (m == 0) && (n == 0) then Help helper.StrEqual ∷ [] else if is_tuple layout m && is_tuple layout n then Make (small.Equal m n) ∷ [] else []
equal_asks layout s t = []

abbrev pub fields_equal_asks : Layout → List LlType → ℕ → List LlType → List Ask
fields_equal_asks layout those i [] = []
fields_equal_asks layout those i (s ∷ ss) = equal_asks layout s (field_at those i) ++ fields_equal_asks layout those (i + 1) ss

abbrev pub equality_asks : Layout → ℕ → ℕ → List Ask
equality_asks layout m n = fields_equal_asks layout (fields_at layout n) 0 (shared_fields layout m n)

-- ---- that it stands

-- the graph that makes a tuple of the one struct one of the other has this number, and what it asks for itself stands
pub record HasCast (Has : Ask → Found → Type 0) (p : LlProgram) (layout : Layout) (m n f : ℕ) : Type 0 where
  pub made : Found
  pub graph : slice_get p.graphs f ≡ Some (small_graph layout (small.Cast m n) made).0
  pub parts : AllAsked Has (cast_asks layout m n) made

-- the graph that compares a tuple of the one struct with one of the other has this number, and what it asks for itself stands
pub record HasEqual (Has : Ask → Found → Type 0) (p : LlProgram) (layout : Layout) (m n f : ℕ) : Type 0 where
  pub made : Found
  pub graph : slice_get p.graphs f ≡ Some (small_graph layout (small.Equal m n) made).0
  pub parts : AllAsked Has (equality_asks layout m n) made

module _ (p : LlProgram) (layout : Layout) (numbers : Numbers) (raised : ℕ → Value) (core : Core) where
  -- what is asked for stands, and what that asks for, so many times
  abbrev pub HasTo : ℕ → Ask → Found → Type 0
  HasTo zero ask found = Unit {0}
  HasTo (suc k) (Make (small.Cast m n)) found = HasCast (HasTo k) p layout m n (small_number (small.Cast m n) found).0
  HasTo (suc k) (Make (small.Equal m n)) found = HasEqual (HasTo k) p layout m n (small_number (small.Equal m n) found).0
  HasTo (suc k) ask found = HasOther p layout numbers raised core ask found

-- any number of times
abbrev pub Has : LlProgram → Layout → Numbers → (ℕ → Value) → Core → Ask → Found → Type 0
Has p layout numbers raised core ask found = (k : ℕ) → HasTo p layout numbers raised core k ask found

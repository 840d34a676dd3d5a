-- The graph that joins strings stands at its number, with those that it calls.
use Rattle.std.specs.Prelude.{◌≡◌, ℕ, ◌+◌, Bool, true, false, Some, slice_get}
use Rattle.csub_tree.specs.State.{Value, Core}
use Rattle.ll_code.specs.declared.program.LlType.{LlType}
use Rattle.ll_code.specs.declared.program.LlType.TheVariants as type
use Rattle.ll_code.specs.declared.program.LlProgram.{LlProgram}
use Rattle.ll_build.specs.declared.needs.Helper.TheVariants.{StrOfChar}
use Rattle.ll_build.specs.declared.needs.Numbers.{Numbers}
use Rattle.ll_strings.specs.Laws.{HasHelper}
use Rattle.rtyper_layout.specs.declared.layout.Layout.{Layout}
use Rattle.rtyper_layout.specs.Types.{word}
use Rattle.rtyper_data.specs.declared.found.Found.{Found}
use Rattle.rtyper_data.specs.declared.small.Listed.TheVariants.{Copy, Join, Part}
use Rattle.rtyper_data.specs.declared.small.Small.TheVariants as small
use Rattle.rtyper_data.specs.Finding.{helper_number, small_number}
use Rattle.list_shape.specs.Shapes.{item_of}
use Rattle.list_helpers.specs.Listing.{list_graph}
use Rattle.lower_laws.specs.Asked.{Ask, Make}
use Rattle.list_laws.specs.Asked.{HasList}
use Rattle.split_laws.specs.Asked.{HasPart, Has as HasOther}

-- whether items are bytes, each of which becomes a string first
abbrev pub are_bytes : LlType → Bool
are_bytes type.Char = true
are_bytes t = false

abbrev pub with_letter : Bool → Found → Found
with_letter true found = (helper_number StrOfChar found).1
with_letter false found = found

-- what is asked for behind a first use of an item, and behind the graph that copies bytes
abbrev pub copying : Bool → Found → Found
copying bytes made = (small_number (small.Listed (Copy 0 0)) (with_letter bytes made)).1

-- The graph that joins the items of a list of this struct, which are strings or bytes: it copies bytes, takes parts, and where items are
-- bytes it has the string of each by a helper, which is asked for twice.
pub record HasJoin (p : LlProgram) (layout : Layout) (numbers : Numbers) (raised : ℕ → Value) (core : Core) (bytes : Bool) (n f : ℕ) : Type 0 where
  pub made : Found
  pub graph : slice_get p.graphs f ≡ Some (list_graph layout (Join n) made).0
  pub first : bytes ≡ true → HasHelper p numbers StrOfChar (helper_number StrOfChar made).0 core
  pub copies : HasList p layout raised (Copy 0 0) (small_number (small.Listed (Copy 0 0)) (with_letter bytes made)).0
  pub second : bytes ≡ true → HasHelper p numbers StrOfChar (helper_number StrOfChar (copying bytes made)).0 core
  pub parts : HasPart p layout numbers raised core (small_number (small.Listed Part) (with_letter bytes (copying bytes made))).0

abbrev pub Has : LlProgram → Layout → Numbers → (ℕ → Value) → Core → Ask → Found → Type 0
Has p layout numbers raised core (Make (small.Listed (Join n))) found = HasJoin p layout numbers raised core (are_bytes (item_of layout (word (n + 1)))) n (small_number (small.Listed (Join n)) found).0
Has p layout numbers raised core ask found = HasOther p layout numbers raised core ask found

-- Graphs that take parts of strings stand at their numbers, with those that they call.
use Rattle.std.specs.Prelude.{◌≡◌, ℕ, [], Some, slice_get}
use Rattle.csub_tree.specs.Layout.{constant}
use Rattle.csub_tree.specs.State.{Value, Core}
use Rattle.ll_code.specs.declared.program.LlProgram.{LlProgram}
use Rattle.ll_build.specs.declared.needs.Helper.TheVariants.{StrOfChar}
use Rattle.ll_build.specs.declared.needs.Numbers.{Numbers}
use Rattle.ll_strings.specs.Laws.{HasHelper}
use Rattle.ll_texts.specs.Texts.{found, text_block}
use Rattle.rtyper_layout.specs.declared.layout.Layout.{Layout}
use Rattle.rtyper_data.specs.declared.found.Found.{Found}
use Rattle.rtyper_data.specs.declared.small.Listed.TheVariants.{Copy, Make as MakeList, Part, Split}
use Rattle.rtyper_data.specs.declared.small.Small.TheVariants as small
use Rattle.rtyper_data.specs.Finding.{helper_number, small_number}
use Rattle.list_helpers.specs.Listing.{list_graph}
use Rattle.list_texts.specs.Splitting.{empty}
use Rattle.lower_laws.specs.Asked.{Ask, Make}
use Rattle.list_laws.specs.Asked.{HasList, HasMake, Has as HasOther}

-- The graph that takes a part of a string: the static of the empty string, the helper that gives the string of a byte, and the graph that
-- copies bytes.
pub record HasPart (p : LlProgram) (layout : Layout) (numbers : Numbers) (raised : ℕ → Value) (core : Core) (f : ℕ) : Type 0 where
  pub made : Found
  pub graph : slice_get p.graphs f ≡ Some (list_graph layout Part made).0
  pub nothing : found [] core.statics (constant (empty made).0) ≡ Some (text_block [])
  pub letter : HasHelper p numbers StrOfChar (helper_number StrOfChar (empty made).1).0 core
  pub copies : HasList p layout raised (Copy 0 0) (small_number (small.Listed (Copy 0 0)) (helper_number StrOfChar (empty made).1).1).0

-- the graph that splits a string into a list of this struct, what it makes the list by, and what it takes parts by
pub record HasSplit (p : LlProgram) (layout : Layout) (numbers : Numbers) (raised : ℕ → Value) (core : Core) (n f : ℕ) : Type 0 where
  pub made : Found
  pub graph : slice_get p.graphs f ≡ Some (list_graph layout (Split n) made).0
  pub makes : HasMake p layout raised n made
  pub parts : HasPart p layout numbers raised core (small_number (small.Listed Part) (small_number (small.Listed (MakeList n)) made).1).0

abbrev pub Has : LlProgram → Layout → Numbers → (ℕ → Value) → Core → Ask → Found → Type 0
Has p layout numbers raised core (Make (small.Listed (Split n))) found = HasSplit p layout numbers raised core n (small_number (small.Listed (Split n)) found).0
Has p layout numbers raised core ask found = HasOther p layout numbers raised core ask found

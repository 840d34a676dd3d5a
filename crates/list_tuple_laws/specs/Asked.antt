-- The graph that looks for a tuple among the items of a list stands at its number.
use Rattle.std.specs.Prelude.{◌≡◌, ◌+◌, ℕ, List, Some, slice_get}
use Rattle.csub_tree.specs.State.{Value, Core}
use Rattle.ll_code.specs.declared.program.LlProgram.{LlProgram}
use Rattle.ll_code.specs.declared.program.LlType.TheVariants as type
use Rattle.ll_build.specs.declared.needs.Numbers.{Numbers}
use Rattle.rtyper_layout.specs.declared.layout.Layout.{Layout}
use Rattle.rtyper_layout.specs.Types.{word}
use Rattle.rtyper_data.specs.declared.found.Found.{Found}
use Rattle.rtyper_data.specs.declared.small.Listed.TheVariants.{Contains}
use Rattle.rtyper_data.specs.declared.small.Small.TheVariants as small
use Rattle.rtyper_data.specs.Finding.{small_number}
use Rattle.list_helpers.specs.Listing.{list_graph}
use Rattle.list_shape.specs.Shapes.{item_of}
use Rattle.lower_laws.specs.Asked.{Ask, Make}
use Rattle.object_laws.specs.Done.{AllAsked}
use Rattle.conversion_laws.specs.Asked.{Has as HasConversion}
use Rattle.list_laws.specs.Asked.{Has as HasList}

-- the graph that looks for a tuple of the one struct among items, and that by which it compares them, with what that asks for
pub record HasAmong (p : LlProgram) (layout : Layout) (numbers : Numbers) (raised : ℕ → Value) (core : Core) (q n f : ℕ) : Type 0 where
  pub made : Found
  pub graph : slice_get p.graphs f ≡ Some (list_graph layout (Contains (type.Ptr q) n) made).0
  pub tuples : (r : ℕ) → item_of layout (word (n + 1)) ≡ type.Ptr r → HasConversion p layout numbers raised core (Make (small.Equal r q)) made

abbrev pub Has : LlProgram → Layout → Numbers → (ℕ → Value) → Core → Ask → Found → Type 0
Has p layout numbers raised core (Make (small.Listed (Contains (type.Ptr q) n))) found = HasAmong p layout numbers raised core q n (small_number (small.Listed (Contains (type.Ptr q) n)) found).0
Has p layout numbers raised core ask found = HasList p layout numbers raised core ask found

-- what is asked for stands at its numbers
abbrev pub HasAll : LlProgram → Layout → Numbers → (ℕ → Value) → Core → List Ask → Found → Type 0
HasAll p layout numbers raised core asks found = AllAsked (Has p layout numbers raised core) asks found

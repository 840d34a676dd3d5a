-- Graphs of dicts that are asked for stand at their numbers.
use Rattle.std.specs.Prelude.{◌≡◌, ℕ, List, Some, slice_get}
use Rattle.csub_tree.specs.State.{Value, Core}
use Rattle.ll_code.specs.declared.program.LlProgram.{LlProgram}
use Rattle.ll_build.specs.declared.needs.Numbers.{Numbers}
use Rattle.rtyper_layout.specs.declared.layout.Layout.{Layout}
use Rattle.rtyper_data.specs.declared.found.Found.{Found}
use Rattle.rtyper_data.specs.declared.small.Keyed.{Keyed}
use Rattle.rtyper_data.specs.declared.small.Small.TheVariants as small
use Rattle.rtyper_data.specs.Finding.{small_number}
use Rattle.rtyper_dict.specs.Graphs.{dict_graph}
use Rattle.lower_laws.specs.Asked.{Ask, Make, Has as HasOther}
use Rattle.object_laws.specs.Done.{AllAsked}

-- the graph, which calls no other, has this number
pub record HasKeyed (p : LlProgram) (layout : Layout) (keyed : Keyed) (f : ℕ) : Type 0 where
  pub made : Found
  pub graph : slice_get p.graphs f ≡ Some (dict_graph layout keyed made).0

abbrev pub Has : LlProgram → Layout → Numbers → (ℕ → Value) → Core → Ask → Found → Type 0
Has p layout numbers raised core (Make (small.Keyed keyed)) found = HasKeyed p layout keyed (small_number (small.Keyed keyed) found).0
Has p layout numbers raised core ask found = HasOther p layout numbers raised core ask found

-- what is asked for stands at its numbers
abbrev pub HasAll : LlProgram → Layout → Numbers → (ℕ → Value) → Core → List Ask → Found → Type 0
HasAll p layout numbers raised core asks found = AllAsked (Has p layout numbers raised core) asks found

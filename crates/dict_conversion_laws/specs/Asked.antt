-- Graphs of dicts, and those that convert keys and values, stand at their numbers.
use Rattle.std.specs.Prelude.{ℕ, List}
use Rattle.csub_tree.specs.State.{Value, Core}
use Rattle.ll_code.specs.declared.program.LlProgram.{LlProgram}
use Rattle.ll_code.specs.declared.program.LlType.{LlType}
use Rattle.ll_build.specs.declared.needs.Numbers.{Numbers}
use Rattle.rtyper_layout.specs.declared.layout.Layout.{Layout}
use Rattle.rtyper_data.specs.declared.found.Found.{Found}
use Rattle.rtyper_data.specs.declared.small.Keyed.TheVariants as keyed
use Rattle.rtyper_data.specs.declared.small.Small.TheVariants as small
use Rattle.rtyper_dict.specs.Parts.{dict_at, keyed_number}
use Rattle.lower_laws.specs.Asked.{Ask, Make}
use Rattle.object_laws.specs.Done.{AllAsked}
use Rattle.conversion_laws.specs.Asked.{Has as HasConversion, asks_for}
use Rattle.dict_find_laws.specs.Asked.{HasGet}
use Rattle.dict_change_laws.specs.Asked.{Has as HasDict}

-- the graph that gives the value of a key or another, and what it converts the value by
pub record HasGetAs (p : LlProgram) (layout : Layout) (numbers : Numbers) (raised : ℕ → Value) (core : Core) (n : ℕ) (t : LlType) (f : ℕ) : Type 0 where
  pub gets : HasGet p layout numbers raised core n t f
  pub converts : AllAsked (HasConversion p layout numbers raised core) (asks_for layout (dict_at layout n).value t) (keyed_number (keyed.Value (dict_at layout n).dict) gets.made).1

abbrev pub Has : LlProgram → Layout → Numbers → (ℕ → Value) → Core → Ask → Found → Type 0
Has p layout numbers raised core (Make (small.Cast m n)) found = HasConversion p layout numbers raised core (Make (small.Cast m n)) found
Has p layout numbers raised core (Make (small.Keyed (keyed.Get n t))) found = HasGetAs p layout numbers raised core n t (keyed_number (keyed.Get n t) found).0
Has p layout numbers raised core ask found = HasDict p layout numbers raised core ask found

-- what is asked for stands at its numbers
abbrev pub HasAll : LlProgram → Layout → Numbers → (ℕ → Value) → Core → List Ask → Found → Type 0
HasAll p layout numbers raised core asks found = AllAsked (Has p layout numbers raised core) asks found

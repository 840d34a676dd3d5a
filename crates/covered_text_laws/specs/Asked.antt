-- What operations on strings ask for whose failures are raised, and that it stands at its numbers.
use Rattle.std.specs.Prelude.{ℕ}
use Rattle.csub_tree.specs.State.{Value, Core}
use Rattle.ll_code.specs.declared.program.LlProgram.{LlProgram}
use Rattle.ll_build.specs.declared.needs.Numbers.{Numbers}
use Rattle.rtyper_layout.specs.declared.layout.Layout.{Layout}
use Rattle.rtyper_data.specs.declared.found.Found.{Found}
use Rattle.rtyper_data.specs.Finding.{failures_of, helper_number}
use Rattle.lower_laws.specs.Asked as values
use Rattle.lower_laws.specs.Asked.{Ask, Raise}
use Rattle.raise_laws.specs.Helpers.{HasRaisingHelper}

-- a helper that raises stands with those graphs that it calls
abbrev pub Has : LlProgram → Layout → Numbers → (ℕ → Value) → Core → Ask → Found → Type 0
Has p layout numbers raised core (Raise h) found = HasRaisingHelper p numbers raised h (failures_of h found.covered) (helper_number h found).0 core
Has p layout numbers raised core other found = values.Has p layout numbers raised core other found

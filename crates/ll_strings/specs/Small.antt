-- How many variables the graph of a helper has, with those that it calls.
use Rattle.std.specs.Prelude.{◌≡◌, ℕ}
use Rattle.ll_code.specs.declared.program.LlProgram.{LlProgram}
use Rattle.csub_tree.specs.State.{Core}
use Rattle.ll_build.specs.declared.needs.Helper.{Helper}
use Rattle.ll_build.specs.declared.needs.Helper.TheVariants as helper
use Rattle.ll_build.specs.declared.needs.Numbers.{Numbers}
use Rattle.ll_leads.specs.Weight.{Weighs}
use Rattle.ll_strings.specs.Laws.{HasHelper}

-- no helper's graph has, with those that it calls, one at a time, more variables
abbrev pub most_variables : ℕ
most_variables = 64

-- that of the one that prints a word calls itself once for each digit, and is left out
abbrev pub WeighsLittle : Type 0
WeighsLittle = (p : LlProgram) (numbers : Numbers) (h : Helper) (f : ℕ) (core : Core) → (h ≡ helper.PrintWord → ⊥) → HasHelper p numbers h f core → Weighs p f most_variables

-- When a C text is a translation of a program.
use Rattle.std.specs.Prelude.{◌≡◌, ℕ, ◌*◌, ◌-◌, ◌≤◌, List, length, Option, Some, None}
use Rattle.rpy_base.specs.declared.outcome.Outcome.{Outcome}
use Rattle.rpy_base.specs.declared.outcome.Outcome.TheVariants.{Returned, Raised, Failed, Running}
use Rattle.rpy_base.specs.Outcomes.{Same}
use Rattle.rpy_tree.specs.Pure.{Program}
use Rattle.rpy_tree.specs.Meaning as python
use Rattle.rpy_tree.specs.Held.{held}
use Rattle.csub_tree.specs.Spelling.{file_text}
use Rattle.csub_tree.specs.Checked.{IsChecked}
use Rattle.csub_tree.specs.Meaning as c
use Rattle.csub_tree.specs.Meaning.{Came, CMeans}
use Rattle.csub_tree.specs.declared.tree.CFile.{CFile}

-- the blocks that a run made and did not free
abbrev pub allocated : c.Meant → ℕ
allocated meant = length meant.made - length meant.gone

-- at most three blocks per value that the program still holds; nothing is said of a failed run. No object of a program is prebuilt yet
abbrev pub IsTight : Outcome → c.Meant → python.Meant → Type 0
IsTight (Failed name) meant program = Unit {0}
IsTight outcome meant program = allocated meant ≤ 3 * held 0 program.roots program.heap

-- with these arguments and this bound on steps, the C file's run ends, and ends as the program does
pub record Meets (program : Program) (file : CFile) (args : List (List ℕ)) (steps : ℕ) : Type 0 where
  pub meant : c.Meant
  pub outcome : Outcome
  pub expected : Outcome
  pub means : CMeans file args steps meant
  pub ends : meant.ending ≡ Came outcome
  pub expects : (python.mean program args steps).outcome ≡ Some expected
  pub same : Same (outcome, meant.output) (expected, (python.mean program args steps).output)
  pub tight : IsTight expected meant (python.mean program args steps)

-- the text is the spelling of a C file that keeps the rules and, with whatever arguments and bound, does what the program does
pub record Built (program : Program) (text : List ℕ) : Type 0 where
  pub file : CFile
  pub spells : text ≡ file_text file
  pub checked : IsChecked file
  pub meets : (args : List (List ℕ)) (steps : ℕ) → Meets program file args steps

-- A C file that the passes make of a low-level program.
use Rattle.std.specs.Prelude.{◌≡◌, ℕ, List}
use Rattle.csub_tree.specs.Checked.{IsChecked}
use Rattle.csub_tree.specs.declared.tree.CFile.{CFile}
use Rattle.ll_code.specs.Typed.{IsWellTyped}
use Rattle.ll_code.specs.declared.program.LlStage.TheVariants as stage
use Rattle.ll_code.specs.declared.program.LlProgram.{LlProgram}
use Rattle.exc_transform.specs.Pieces.{explicit}
use Rattle.exc_ready.specs.Raisable.{IsRaisable}
use Rattle.exc_counted.specs.Along.{HasFile, RunsWell}
use Rattle.ll_compiled.specs.Compiled.{compiled, SameRuns}

-- its exceptions can be made explicit
pub record CanRaise (p : LlProgram) : Type 0 where
  pub raw : p.stage ≡ stage.Raw
  pub typed : IsWellTyped p
  pub raisable : IsRaisable p

-- The file is that of the program, which passes the tests; it keeps the rules of C files; and it means what the program means, for all arguments and
-- every number of steps with which what is raised has a class, and the run of the explicit program is small and writes no reference into a static.
pub record IsFile (program : LlProgram) (file : CFile) : Type 0 where
  pub has : HasFile program
  pub is : file ≡ compiled (explicit program)
  pub checked : IsChecked file
  pub runs : (args : List (List ℕ)) (steps : ℕ) → RunsWell program args steps → SameRuns program file args steps

-- of some low-level program
abbrev pub IsOfSome : CFile → Type 0
IsOfSome file = (program : LlProgram) × IsFile program file

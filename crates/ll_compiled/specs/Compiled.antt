-- The C file of a low-level program with explicit exceptions, and when it means what the program means.
use Rattle.std.specs.Prelude.{◌≡◌, ℕ, List, map}
use Rattle.csub_tree.specs.Meaning as c
use Rattle.csub_tree.specs.declared.tree.CFile.{CFile}
use Rattle.ll_code.specs.Meaning as l
use Rattle.ll_code.specs.declared.program.LlStage.TheVariants as stage
use Rattle.ll_code.specs.declared.program.LlProgram.{LlProgram}
use Rattle.genc_lower.specs.Lower.{lowered}
use Rattle.genc_laws.specs.Alike.{SameEnding}
use Rattle.refcount_transform.specs.Counted.{counted}
use Rattle.refcount_laws.specs.Run.{wider}
use Rattle.refcount_ready.specs.Programs.{CanBeCounted}

abbrev pub compiled : LlProgram → CFile
compiled p = lowered (counted p)

-- its exceptions are explicit, and its references can be counted
pub record CanBeCompiled (p : LlProgram) : Type 0 where
  pub explicit : p.stage ≡ stage.Explicit
  pub counts : CanBeCounted p

-- the same ending, output and steps paid, and the same blocks made, each two cells larger
pub record MeansAlike (meant : l.Meant) (c_meant : c.Meant) : Type 0 where
  pub ending : SameEnding meant.ending c_meant.ending
  pub output : c_meant.output ≡ meant.output
  pub paid : c_meant.paid ≡ meant.paid
  pub made : c_meant.made ≡ map wider meant.made

-- no ending of the program's run is one of being stuck
abbrev pub IsNotStuck : LlProgram → List (List ℕ) → ℕ → Type 0
IsNotStuck p args steps = (meant : l.Meant) → l.LMeans p args steps meant → l.comes meant.ending

-- for these arguments and so many steps: where the program comes to an outcome, so does the file, which means the same; where the program
-- is not stuck, the file has no other ending, so it is not stuck; and where the program runs on, so does the file
pub record SameRuns (p : LlProgram) (file : CFile) (args : List (List ℕ)) (steps : ℕ) : Type 0 where
  pub forth : (meant : l.Meant) → l.LMeans p args steps meant → l.comes meant.ending → (c_meant : c.Meant) × c.CMeans file args steps c_meant × MeansAlike meant c_meant
  pub back : IsNotStuck p args steps → (c_meant : c.Meant) → c.CMeans file args steps c_meant → (meant : l.Meant) × l.LMeans p args steps meant × MeansAlike meant c_meant
  pub on : ((k : ℕ) → l.RunsOn k p args steps) → (k : ℕ) → c.RunsOn k file args steps

-- When a counted program means what its program does.
use Rattle.std.specs.Prelude.{◌≡◌, ℕ, List, [], map}
use Rattle.ll_code.specs.Machine.{start}
use Rattle.ll_code.specs.Meaning.{Meant, LMeans}
use Rattle.ll_code.specs.declared.program.LlProgram.{LlProgram}
use Rattle.refcount_transform.specs.Counted.{counted}
use Rattle.refcount_laws.specs.Ghost.{Ghost}
use Rattle.refcount_laws.specs.Whole.{StandsFor}
use Rattle.refcount_laws.specs.Run.{wider}

-- the run of the counted program ends the same way, with the same output and steps paid, and makes the same blocks, two cells larger; it ends in no other way
pub record SameMeaning (p : LlProgram) (args : List (List ℕ)) (steps : ℕ) (m : Meant) : Type 0 where
  pub other : Meant
  pub means : LMeans (counted p) args steps other
  pub ending : other.ending ≡ m.ending
  pub output : other.output ≡ m.output
  pub paid : other.paid ≡ m.paid
  pub made : other.made ≡ map wider m.made
  pub only : (last : Meant) → LMeans (counted p) args steps last → last ≡ other

-- where it starts stands for where its program does
pub record Starts (p : LlProgram) (steps : ℕ) : Type 0 where
  pub g : Ghost
  pub stands : StandsFor p [] [] (start p steps) (start (counted p) steps) g []

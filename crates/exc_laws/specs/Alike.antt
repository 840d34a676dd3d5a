-- What is asked of a run so that the explicit program means the same.
use Rattle.std.specs.Prelude.{ℕ, List}
use Rattle.ll_code.specs.declared.program.LlProgram.{LlProgram}
use Rattle.exc_laws.specs.Ready.{IsClosed, IsReadyOn}

-- each block reads its inputs alone, and each state of the run is ready
pub record Allows (p : LlProgram) (args : List (List ℕ)) (steps : ℕ) : Type 0 where
  pub closed : IsClosed p
  pub ready : IsReadyOn p args steps

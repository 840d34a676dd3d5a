-- What joining leaves as it is.
use Rattle.std.specs.Prelude.{◌≡◌}
use Rattle.ll_code.specs.declared.program.LlProgram.{LlProgram}

-- the stage, the structs, the statics and the entry
pub record Keeps (program made : LlProgram) : Type 0 where
  pub stage : made.stage ≡ program.stage
  pub structs : made.structs ≡ program.structs
  pub statics : made.statics ≡ program.statics
  pub entry : made.entry ≡ program.entry

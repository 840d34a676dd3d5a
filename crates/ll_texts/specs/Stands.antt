-- What values of programs are at low level.
use Rattle.std.specs.Prelude.{◌<◌, ℕ, ℤ, Bool, List, [], ◌∷◌, Option}
use Rattle.rpy_base.specs.Word.{Fits}
use Rattle.rpy_tree.specs.Value.{Value as Meant, Word as MeantWord, Flag as MeantFlag, Text, Nothing}
use Rattle.csub_tree.specs.State.{Value, Unset, Word, Byte, Flag, Null, Block}
use Rattle.ll_code.specs.declared.program.LlType.{LlType}
use Rattle.ll_code.specs.declared.program.LlType.TheVariants as type
use Rattle.ll_texts.specs.Texts.{IsText}

-- the first value is the second, as one of this type; a missing string is NULL, and a result that is never there is unset
pub data Stands (blocks : List (Option Block)) (statics : List Block) : LlType → Value → Meant → Type 0 where
  word : (z : ℤ) → Fits z → Stands blocks statics type.Signed (Word z) (MeantWord z)
  flag : (b : Bool) → Stands blocks statics type.Bool (Flag b) (MeantFlag b)
  byte : (b : ℕ) → b < 256 → Stands blocks statics type.Char (Byte b) (Text (b ∷ []))
  text : (x : Value) (bytes : List ℕ) → IsText blocks statics x bytes → Stands blocks statics (type.Ptr 0) x (Text bytes)
  missing : Stands blocks statics (type.Ptr 0) Null Nothing
  nothing : Stands blocks statics type.Void Unset Nothing

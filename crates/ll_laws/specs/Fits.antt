-- When a state of a low-level program is well typed. A pointer names a block that was made, gone or not, or a static: of which struct
-- it is, no type says, since an exception that is taken from its slot, or caught, may be of any; each read and write looks it up.
use Rattle.std.specs.Prelude.{◌≡◌, ◌<◌, ◌≤◌, ℕ, List, length, slice_index_or, slice_get, Option, Some, None, Ok, Err}
use Rattle.csub_tree.specs.State.{Value, Unset, Word, Byte, Flag, Fun, Null, Ptr, Static, Block, Core, After, Onward, Puts as PutsByte, Told, Over, Stuck}
use Rattle.csub_tree.specs.Operation.{Answer}
use Rattle.csub_tree.specs.Statement.{read}
use Rattle.ll_code.specs.declared.program.LlType.{LlType}
use Rattle.ll_code.specs.declared.program.LlType.TheVariants as type
use Rattle.ll_code.specs.declared.program.LlProgram.{LlProgram}
use Rattle.ll_code.specs.Typed.{items_of}
use Rattle.ll_laws.specs.Fields.{fields_of}

-- ---- values

-- the value is of the type, where so many blocks were made; what is unset is of each type
abbrev pub Fits : LlProgram → ℕ → LlType → Value → Type 0
Fits p made t Unset = Unit {0}
Fits p made type.Signed (Word z) = Unit {0}
Fits p made type.Char (Byte b) = Unit {0}
Fits p made type.Bool (Flag b) = Unit {0}
Fits p made type.Fn Null = Unit {0}
Fits p made type.Fn (Fun f) = f < length p.graphs
Fits p made (type.Ptr n) Null = Unit {0}
Fits p made (type.Ptr n) (Ptr b) = b < made
Fits p made (type.Ptr n) (Static g) = g < length p.statics
Fits p made t value = ⊥

-- what an operator gives, if it gives a value
abbrev pub AnswerFits : LlProgram → ℕ → LlType → Answer → Type 0
AnswerFits p made t (Ok value) = Fits p made t value
AnswerFits p made t (Err reason) = Unit {0}

-- ---- places

-- there is a place for each type, and it holds a value of the type
pub record AllFit (p : LlProgram) (made : ℕ) (types : List LlType) (values : List Value) : Type 0 where
  pub count : length values ≡ length types
  pub at : (a : ℕ) (t : LlType) → slice_get types a ≡ Some t → Fits p made t (read values a)

-- ---- blocks

-- a block of a struct of the program: it has a cell for each field, and each cell holds a value of the type of the field, or of the
-- items; where the struct has no items, nor has the block
pub record BlockFits (p : LlProgram) (made : ℕ) (block : Block) : Type 0 where
  pub of : block.kind < length p.structs
  pub fields : AllFit p made (fields_of p.structs block.kind) block.fields
  pub items : (i : ℕ) (t : LlType) → items_of (slice_get p.structs block.kind) ≡ Some t → Fits p made t (read block.items i)
  pub none : items_of (slice_get p.structs block.kind) ≡ None → length block.items ≡ 0

-- an exception is a pointer, whatever its struct
abbrev pub exception : LlType
exception = type.Ptr 0

-- each block and each static fits, each static of the program is there, and so do the exception slots
pub record MemoryFits (p : LlProgram) (blocks : List (Option Block)) (statics : List Block) (exc_type exc_value : Value) : Type 0 where
  pub each : (k : ℕ) (block : Block) → slice_index_or blocks k None ≡ Some block → BlockFits p (length blocks) block
  pub static_count : length statics ≡ length p.statics
  pub each_static : (g : ℕ) (block : Block) → slice_get statics g ≡ Some block → BlockFits p (length blocks) block
  pub slot_type : Fits p (length blocks) exception exc_type
  pub slot_value : Fits p (length blocks) exception exc_value

-- ---- the core of a graph that runs

pub record CoreFits (p : LlProgram) (types : List LlType) (core : Core) : Type 0 where
  pub vars : AllFit p (length core.blocks) types core.vars
  pub memory : MemoryFits p core.blocks core.statics core.exc_type core.exc_value

-- a core that comes after one: the same graph runs on, and no block that was made is forgotten
pub record Follows (p : LlProgram) (types : List LlType) (old core : Core) : Type 0 where
  pub graph : core.function ≡ old.function
  pub grows : length old.blocks ≤ length core.blocks
  pub fits : CoreFits p types core

-- what an operation leads to, if the run goes on
abbrev pub AfterFits : LlProgram → List LlType → Core → After → Type 0
AfterFits p types old (Onward core) = Follows p types old core
AfterFits p types old (PutsByte byte core) = Follows p types old core
AfterFits p types old (Told event core) = Follows p types old core
AfterFits p types old (Over outcome core) = Unit {0}
AfterFits p types old (Stuck reason) = Unit {0}

-- Strings at low level: a block or a static of struct 0, with its length and its bytes.
use Rattle.std.specs.Prelude.{◌≡◌, ◌<◌, ◌^◌, ℕ, ◌+◌, pos, List, [], ◌∷◌, length, map, slice_get, slice_index_or, Option, Some, None, codes}
use Rattle.csub_tree.specs.State.{Value, Unset, Word, Byte, Ptr, Static, Block}
use Rattle.csub_tree.specs.Layout.{Shape, shape_at}
use Rattle.ll_code.specs.Machine.{shapes_of}
use Rattle.ll_code.specs.declared.program.LlProgram.{LlProgram}

-- a struct without a base, of one field
abbrev pub counted_shape : ℕ → Shape
counted_shape n = record { size = 1; own = 0; first = 0; bases = n ∷ [] }

abbrev pub text_block : List ℕ → Block
text_block bytes = record { kind = 0; fields = Word (pos (length bytes)) ∷ []; items = map Byte bytes }

abbrev pub AreBytes : List ℕ → Type 0
AreBytes [] = Unit {0}
AreBytes (b ∷ bytes) = (b < 256) × AreBytes bytes

-- the block or static that a pointer names, among these
abbrev pub found : List (Option Block) → List Block → Value → Option Block
found blocks statics (Ptr n) = slice_index_or blocks n None
found blocks statics (Static g) = slice_get statics g
found blocks statics value = None

-- the value leads to a string of these bytes, whose count is a word
pub record IsText (blocks : List (Option Block)) (statics : List Block) (x : Value) (bytes : List ℕ) : Type 0 where
  pub is : found blocks statics x ≡ Some (text_block bytes)
  pub short : length bytes < 2 ^ 63
  pub small : AreBytes bytes

-- struct 0 is that of strings
abbrev pub HasText : LlProgram → Type 0
HasText p = shape_at (shapes_of p.structs) 0 ≡ counted_shape 0

-- The static strings: the empty one, those of one byte and their table, which is of this struct, `True` and `False`.
pub record HasStatics (p : LlProgram) (table : ℕ) (statics : List Block) : Type 0 where
  pub shape : shape_at (shapes_of p.structs) table ≡ counted_shape table
  pub empty : slice_get statics 0 ≡ Some (text_block [])
  pub singles : (b : ℕ) → b < 256 → slice_get statics (b + 1) ≡ Some (text_block (b ∷ []))
  pub strings : List Value
  pub listed : slice_get statics 257 ≡ Some (record { kind = table; fields = Word (pos 256) ∷ []; items = strings })
  pub count : length strings ≡ 256
  pub each : (b : ℕ) → b < 256 → slice_index_or strings b Unset ≡ Static (b + 1)
  pub yes : slice_get statics 258 ≡ Some (text_block (codes "True"))
  pub no : slice_get statics 259 ≡ Some (text_block (codes "False"))

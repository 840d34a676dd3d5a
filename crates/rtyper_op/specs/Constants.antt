-- Constants as operands. Strings and tuples are statics.
use Rattle.std.specs.Prelude.{ℕ, ◌==◌, if◌then◌else◌, List, [], ◌∷◌, length, map, slice_get, Option, Some, None, pos}
use Rattle.csub_tree.specs.declared.tree.CCell.{CCell}
use Rattle.csub_tree.specs.declared.tree.CCell.TheVariants as cell
use Rattle.csub_tree.specs.declared.tree.CConst.{CConst}
use Rattle.csub_tree.specs.declared.tree.CConst.TheVariants as constant
use Rattle.csub_tree.specs.declared.tree.COperand.{COperand}
use Rattle.csub_tree.specs.declared.tree.COperand.TheVariants.{Const as held}
use Rattle.ll_code.specs.declared.program.LlType.{LlType}
use Rattle.ll_code.specs.declared.program.LlType.TheVariants as type
use Rattle.rpy_tree.specs.declared.program.Const.{Const, fold-Const}
use Rattle.rpy_tree.specs.declared.program.Const.TheOpen.{Const-F}
use Rattle.rtyper_layout.specs.Layout.{is_tuple}
use Rattle.rtyper_data.specs.declared.found.Found.{Found}
use Rattle.rtyper_data.specs.Converting.{default_constant}
use Rattle.rtyper_data.specs.Finding.{static_of, prebuilt_at}
use Rattle.rtyper_data.specs.Seen.{Around}
use Rattle.rtyper_data.specs.Tuples.{fields_of}

abbrev pub char_cell : ℕ → CCell
char_cell b = cell.Const (constant.Char b)

-- the length, and the bytes
abbrev pub text_cells : List ℕ → List CCell
text_cells bytes = cell.Const (constant.Word (pos (length bytes))) ∷ cell.Braces (map char_cell bytes) ∷ []

abbrev pub static_text : List ℕ → LlType → Found → CConst × Found
static_text bytes (type.Ptr n) found = if n == 0 then static_of 0 (text_cells bytes) found else (default_constant (type.Ptr n), found)
static_text bytes to found = (default_constant to, found)

abbrev pub text : List ℕ → LlType → Found → CConst × Found
text (b ∷ []) type.Char found = (constant.Char b, found)
text bytes to found = static_text bytes to found

abbrev pub function_by : Option ℕ → CConst
function_by (Some number) = constant.Fun number
function_by None = constant.Fun 0

-- a function that is never called has no graph, and any stands in for it
abbrev pub function_of : Around → ℕ → LlType → CConst
function_of around f type.Fn = function_by (slice_get around.numbers f)
function_of around f to = default_constant to

abbrev pub prebuilt_by : Option ℕ → ℕ → CConst
prebuilt_by (Some number) kind = constant.Static kind number
prebuilt_by None kind = constant.Null

-- the static of a list or dict, which was made before
abbrev pub prebuilt : ℕ → LlType → Found → CConst
prebuilt site (type.Ptr kind) found = prebuilt_by (prebuilt_at found.prebuilt site) kind
prebuilt site to found = default_constant to

abbrev pub with_first : CConst × Found → (Found → List CCell × Found) → List CCell × Found
with_first made rest = (cell.Const made.0 ∷ (rest made.1).0, (rest made.1).1)

-- the parts of a tuple, as values of the types of its fields
abbrev pub parts_of : List (LlType → Found → CConst × Found) → List LlType → Found → List CCell × Found
parts_of [] fields found = ([], found)
parts_of (p ∷ ps) [] found = ([], found)
parts_of (p ∷ ps) (t ∷ ts) found = with_first (p t found) (λ next. parts_of ps ts next)

module _ (around : Around) where
  abbrev pub static_tuple : ℕ → List CCell × Found → CConst × Found
  static_tuple n cells = static_of n cells.0 cells.1

  abbrev pub tuple : List (LlType → Found → CConst × Found) → LlType → Found → CConst × Found
  tuple parts (type.Ptr n) found = if is_tuple around.layout n then static_tuple n (parts_of parts (fields_of around n) found) else (constant.Null, found)
  tuple parts to found = (default_constant to, found)

  abbrev pub constant_step : Const-F (LlType → Found → CConst × Found) → LlType → Found → CConst × Found
  constant_step (Const-F.Word z) to found = (constant.Word z, found)
  constant_step (Const-F.Bool b) to found = (constant.Bool b, found)
  constant_step (Const-F.Str bytes) to found = text bytes to found
  constant_step Const-F.None to found = (default_constant to, found)
  constant_step (Const-F.Function f) to found = (function_of around f to, found)
  constant_step (Const-F.Tuple parts) to found = tuple parts to found
  constant_step (Const-F.List site) to found = (prebuilt site to found, found)
  constant_step (Const-F.Dict site) to found = (prebuilt site to found, found)

  -- the constant as a value of a type
  abbrev pub constant_of : Const → LlType → Found → CConst × Found
  constant_of = fold-Const (LlType → Found → CConst × Found) constant_step

abbrev pub operand_of : CConst × Found → COperand × Found
operand_of made = (held made.0, made.1)

-- Where the fields of a struct stand, and what a static holds at first.
use Rattle.std.specs.Prelude.{ℕ, ◌+◌, ◌-◌, List, [], ◌∷◌, ◌++◌, length, take, drop, map, slice_index_or, Option, Some, None, Bool, true, false, cond, ◌==◌}
use Rattle.csub_tree.specs.State.{Value, Word, Byte, Flag, Fun, Null, Static, Block}
use Rattle.csub_tree.specs.declared.tree.CStruct.{CStruct}
use Rattle.csub_tree.specs.declared.tree.CStatic.{CStatic}
use Rattle.csub_tree.specs.declared.tree.CConst.{CConst}
use Rattle.csub_tree.specs.declared.tree.CConst.TheVariants.{Word as CWord, Char as CChar, Bool as CBool, Null as CNull, Static as CStaticOf, Fun as CFun}
use Rattle.csub_tree.specs.declared.tree.CCell.{CCell, fold-CCell}
use Rattle.csub_tree.specs.declared.tree.CCell.TheOpen.{CCell-F}

-- a struct: its fields, those of an inline base counted; the place of its own first field and that field's number; and the structs
-- that it begins with, itself first
pub record Shape : Type 0 where
  pub size : ℕ
  pub own : ℕ
  pub first : ℕ
  pub bases : List ℕ

abbrev pub no_shape : Shape
no_shape = record { size = 0; own = 0; first = 0; bases = [] }

abbrev pub shape_at : List Shape → ℕ → Shape
shape_at shapes n = slice_index_or shapes n no_shape

-- the shape of the struct of this number
abbrev pub shape_over : ℕ → ℕ → Option Shape → Shape
shape_over n fields None = record { size = fields; own = 0; first = 0; bases = n ∷ [] }
shape_over n fields (Some base) = record { size = base.size + fields; own = base.size; first = 1; bases = n ∷ base.bases }

abbrev pub base_of : List Shape → Option ℕ → Option Shape
base_of shapes None = None
base_of shapes (Some n) = Some (shape_at shapes n)

abbrev pub next_shape : List Shape → CStruct → Shape
next_shape shapes struct = shape_over (length shapes) (length struct.fields) (base_of shapes struct.base)

-- a base is an earlier struct
unfoldable pub shapes_from : List Shape → List CStruct → List Shape
shapes_from shapes [] = shapes
shapes_from shapes (struct ∷ structs) = shapes_from (shapes ++ next_shape shapes struct ∷ []) structs

abbrev pub shapes_of : List CStruct → List Shape
shapes_of structs = shapes_from [] structs

abbrev pub is_among : ℕ → List ℕ → Bool
is_among n [] = false
is_among n (m ∷ ms) = cond (m == n) true (is_among n ms)

-- the struct is n, or begins with n
abbrev pub begins_with : List Shape → ℕ → ℕ → Bool
begins_with shapes kind n = is_among n (shape_at shapes kind).bases

-- the place of field k
abbrev pub place : Shape → ℕ → ℕ
place shape k = shape.own + (k - shape.first)

abbrev pub constant : CConst → Value
constant (CWord n) = Word n
constant (CChar b) = Byte b
constant (CBool b) = Flag b
constant CNull = Null
constant (CStaticOf n g) = Static g
constant (CFun f) = Fun f

abbrev pub joined : List (List CConst) → List CConst
joined [] = []
joined (cs ∷ css) = cs ++ joined css

-- the constants of a cell in order, whatever the braces
abbrev pub cell_step : CCell-F (List CConst) → List CConst
cell_step (CCell-F.Const c) = c ∷ []
cell_step (CCell-F.Braces parts) = joined parts

abbrev pub cell_constants : CCell → List CConst
cell_constants = fold-CCell (List CConst) cell_step

abbrev pub static_values : CStatic → List Value
static_values static = map constant (joined (map cell_constants static.cells))

-- the fields of a static come first, and its items are what is left
abbrev pub static_block : List Shape → CStatic → Block
static_block shapes static = record {
  kind = static.kind;
  fields = take (shape_at shapes static.kind).size (static_values static);
  items = drop (shape_at shapes static.kind).size (static_values static);
}

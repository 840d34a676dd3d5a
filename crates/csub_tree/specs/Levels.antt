-- The cells of a static, a struct at a time: those of the bases stand in the first cells, each in braces in the one before.
use Rattle.std.specs.Prelude.{ℕ, Bool, true, false, ◌&&◌, Option, Some, None}
use Rattle.csub_tree.specs.declared.tree.CFile.{CFile}
use Rattle.csub_tree.specs.declared.tree.CStruct.{CStruct}
use Rattle.csub_tree.specs.Checked.{Cell, Cells, Plain, Braced, end, then_cell, fields_ok}

abbrev pub is_braced : Cell → Bool
is_braced (Plain c) = false
is_braced (Braced cells) = true

-- the cells that are no base's keep the rules
abbrev pub own_ok : CFile → ℕ → CStruct → Option ℕ → Cells → Bool
own_ok file n s None cells = fields_ok file n s.fields s.items cells
own_ok file n s (Some m) end = false
own_ok file n s (Some m) (then_cell first cells) = is_braced first && fields_ok file n s.fields s.items cells

abbrev pub cells_in : Cell → Cells
cells_in (Plain c) = end
cells_in (Braced cells) = cells

-- the cells of the base
abbrev pub base_cells : Cells → Cells
base_cells end = end
base_cells (then_cell first cells) = cells_in first

-- The cells of a static, a struct at a time: those of the bases stand in the first cells, each in braces in the one before.
use Rattle.std.specs.Prelude.{ℕ, Bool, true, false, ◌&&◌, Option, Some, None}
use Rattle.ll_code.specs.declared.program.LlProgram.{LlProgram}
use Rattle.ll_code.specs.declared.program.LlStruct.{LlStruct}
use Rattle.csub_tree.specs.Checked.{Cell, Cells, Plain, Braced, end, then_cell}
use Rattle.csub_tree.specs.Levels.{is_braced}
use Rattle.ll_code.specs.Typed.{fields_ok}

-- the cells that are no base's keep the rules
abbrev pub own_ok : LlProgram → ℕ → LlStruct → Option ℕ → Cells → Bool
own_ok program n s None cells = fields_ok program n s.fields s.items cells
own_ok program n s (Some m) end = false
own_ok program n s (Some m) (then_cell first cells) = is_braced first && fields_ok program n s.fields s.items cells

-- The cells of a static that have been read while lists of them are still open.
use Rattle.std.specs.Prelude.{ℕ, ◌++◌, List, [], Option, Some, None, codes}
use Rattle.std.specs.List.{flat_map}
use Rattle.csub_tree.specs.declared.tree.CCell.{CCell}
use Rattle.csub_tree.specs.Spelling.{cell_text}

-- a cell that another one follows
abbrev pub followed : CCell → List ℕ
followed cell = cell_text cell ++ codes ", "

-- a list of cells that is still open
abbrev pub open_list : List CCell → List ℕ
open_list cells = codes "{ " ++ flat_map followed cells

-- the open lists, the outermost first
abbrev pub open_text : List (List CCell) → List ℕ
open_text lists = flat_map open_list lists

-- the last cell, where no comma and no brace has been read after it
abbrev pub pending_text : Option CCell → List ℕ
pending_text None = []
pending_text (Some cell) = cell_text cell

-- What a turn of the reader of cells gives: the open lists, the cell that is whole, and what is left.
use Rattle.std.specs.Prelude.{◌≡◌, ℕ, List, Option, Some, None, Result, Ok, Err}
use Rattle.csub_tree.specs.declared.tree.CCell.{CCell}
use Rattle.csub_text.specs.Read.{Got}
use Rattle.csub_text.specs.ReadFile.{Open}
use Rattle.csub_reader.specs.declared.fault.Stop.{Stop}
use Rattle.csub_reader.specs.declared.fault.Stop.TheVariants.{NoText, NoMem}

abbrev pub Turns : Got (Open × Option CCell) → Result (Option CCell) Stop → Open → List ℕ → Type 0
Turns got (Ok pending) lists new = got ≡ Some ((lists, pending), new)
Turns got (Err NoText) lists new = got ≡ None
Turns got (Err NoMem) lists new = Unit {0}

-- a list that is taken, where there is one
abbrev pub Takes : Option (List CCell) → Result (List CCell) Stop → Type 0
Takes found (Ok cells) = found ≡ Some cells
Takes found (Err NoText) = found ≡ None
Takes found (Err NoMem) = ⊥

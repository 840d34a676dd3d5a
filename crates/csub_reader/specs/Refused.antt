-- What a refusal says.
use Rattle.std.specs.Prelude.{◌≡◌, ℕ, List, Some}
use Rattle.csub_tree.specs.declared.tree.CFile.{CFile}
use Rattle.csub_tree.specs.Checked.{first_unchecked}
use Rattle.csub_text.specs.Text.{IsText, IsDead}
use Rattle.csub_reader.specs.declared.fault.CFault.{CFault}
use Rattle.csub_reader.specs.declared.fault.CFault.TheVariants.{NotText, NotChecked, NoMem}

-- `NotText`: this line is the first with which no text goes on, so that the bytes are the text of no file.
-- `NotChecked`: they are the text of a file, and this declaration of it is the first that breaks a rule.
abbrev pub IsRefused : List ℕ → CFault → Type 0
IsRefused text (NotText line) = IsDead text line
IsRefused text (NotChecked declaration) = (file : CFile) × IsText text file × (first_unchecked file ≡ Some declaration)
IsRefused text NoMem = Unit {0}

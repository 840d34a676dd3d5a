-- What is read of a function's first lines, and of its insides.
use Rattle.std.specs.Prelude.{◌≡◌, ℕ, List, Some, None, Result, Ok, Err}
use Rattle.csub_tree.specs.declared.tree.CType.{CType}
use Rattle.csub_tree.specs.declared.tree.CStmt.{CStmt}
use Rattle.csub_text.specs.Read.{Got}
use Rattle.csub_text.specs.ReadFile as of
use Rattle.csub_reader.specs.declared.fault.Stop.{Stop}
use Rattle.csub_reader.specs.declared.fault.Stop.TheVariants.{NoText, NoMem}
use Rattle.csub_reader.specs.declared.read.Heading.{Heading}
use Rattle.csub_reader.specs.declared.read.Insides.{Insides}

abbrev pub ReadsHeading : Got of.Heading → Result Heading Stop → List ℕ → Type 0
ReadsHeading got (Ok h) new = got ≡ Some ((h.name, h.result, h.params), new)
ReadsHeading got (Err NoText) new = got ≡ None
ReadsHeading got (Err NoMem) new = Unit {0}

abbrev pub ReadsInsides : Got (List CType × List (List CStmt)) → Result Insides Stop → List ℕ → Type 0
ReadsInsides got (Ok b) new = got ≡ Some ((b.locals, b.blocks), new)
ReadsInsides got (Err NoText) new = got ≡ None
ReadsInsides got (Err NoMem) new = Unit {0}

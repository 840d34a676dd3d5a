-- When the low-level operations of an operation on lists do what it does.
use Rattle.std.specs.Prelude.{List}
use Rattle.rpy_meaning.specs.declared.row.Covers.{Covers}
use Rattle.rpy_meaning.specs.declared.row.RowOp.{RowOp}
use Rattle.rtyper_data.specs.Seen.{Around, Operand, Place, Writing}
use Rattle.rtyper_list.specs.Lowering.{lower_list_op}
use Rattle.lower_laws.specs.Asked.{Ask}
use Rattle.object_laws.specs.Done.{IsDone as IsDoneBy}
use Rattle.object_laws.specs.Known.{Known}
use Rattle.list_laws.specs.Asked.{Has}

-- what is written asks for this, and does what the operation does, with at most two blocks more
abbrev pub IsDone : Known → Around → RowOp → Covers → List Ask → Place → List Operand → Writing → Type 0
IsDone known around o covers asks place args w = IsDoneBy (λ p. Has p around.layout) 2 known around o covers asks (lower_list_op around o place args w) place args w

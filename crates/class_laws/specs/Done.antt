-- When the low-level operations of an operation, as those on instances are lowered, do what it does.
use Rattle.std.specs.Prelude.{ℕ, List}
use Rattle.rpy_meaning.specs.declared.row.Covers.{Covers}
use Rattle.rpy_meaning.specs.declared.row.RowOp.{RowOp}
use Rattle.rpy_meaning.specs.World.{World as MeantWorld}
use Rattle.rpy_tree.specs.Value.{Value as Meant}
use Rattle.rtyper_data.specs.Seen.{Operand, Place, Writing}
use Rattle.rtyper_class.specs.Lowering.{lower_class_op}
use Rattle.rtyper_class.specs.Seen.{World}
use Rattle.lower_laws.specs.Asked.{Ask}
use Rattle.object_laws.specs.Done.{IsDoneWhere as IsDoneBy, Any}
use Rattle.object_laws.specs.Known.{Known}
use Rattle.class_laws.specs.Asked.{Has}

-- what is written asks for this, and does what the operation does of such values, with so many blocks more at most
abbrev pub IsDoneWhere : (MeantWorld → List Meant → Type 0) → ℕ → World → Known → RowOp → Covers → List Ask → Place → List Operand → Writing → Type 0
IsDoneWhere Good blocks world known o covers asks place args w = IsDoneBy Good (Has world) blocks known world.around o covers asks (lower_class_op world o place args w) place args w

-- whatever the values are
abbrev pub IsDone : ℕ → World → Known → RowOp → Covers → List Ask → Place → List Operand → Writing → Type 0
IsDone = IsDoneWhere Any

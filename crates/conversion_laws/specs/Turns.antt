-- A turn of a loop costs a step.
use Rattle.std.specs.Prelude.{◌≡◌, []}
use Rattle.rpy_meaning.specs.declared.row.Covers.{Covers}
use Rattle.rpy_meaning.specs.declared.row.RowOp.TheVariants as row
use Rattle.rtyper_layout.specs.declared.kind.Kind.TheVariants as kind
use Rattle.rtyper_layout.specs.Kinds.{kind_seen}
use Rattle.rtyper_data.specs.Seen.{Around, Place, Writing}
use Rattle.rtyper_op.specs.Lowering.{lower_op}
use Rattle.object_laws.specs.Done.{IsDone}
use Rattle.object_laws.specs.Known.{Known}
use Rattle.conversion_laws.specs.Asked.{Has}

-- it is paid, or the steps do not suffice
abbrev pub TurnsArePaid : Type 0
TurnsArePaid = (known : Known) (around : Around) (place : Place) (w : Writing) (covers : Covers) → kind_seen place.element ≡ kind.Nothing → IsDone (λ p. Has p around.layout) 0 known around row.Turn covers [] (lower_op around row.Turn place [] w) place [] w

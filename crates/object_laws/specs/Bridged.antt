-- What is proved of values without objects holds over the relation of objects.
use Rattle.std.specs.Prelude.{◌≡◌, ◌≤◌, true, List, [], ◌∷◌}
use Rattle.rpy_tree.specs.Value.{Value as Meant}
use Rattle.rpy_meaning.specs.declared.row.Covers.{Covers}
use Rattle.rpy_meaning.specs.declared.row.RowOp.{RowOp}
use Rattle.rpy_meaning.specs.Operations.{op}
use Rattle.rpy_meaning.specs.World.{World, Gives}
use Rattle.rtyper_layout.specs.Kinds.{kind_seen}
use Rattle.rtyper_op.specs.Lowering.{lower_op}
use Rattle.rtyper_data.specs.Seen.{Around, Operand, Place, Writing}
use Rattle.lower_laws.specs.Asked.{Ask, Has}
use Rattle.lower_laws.specs.Done.{IsDoneWhere as IsPlainlyDone}
use Rattle.lower_laws.specs.Values.{is_simple}
use Rattle.object_laws.specs.Done.{IsDoneWhere}
use Rattle.object_laws.specs.Known.{Known}

-- words, truth values, bytes, strings and `None`
abbrev pub AreSimple : List Operand → Type 0
AreSimple [] = Unit {0}
AreSimple (a ∷ args) = (is_simple (kind_seen a.element) ≡ true) × AreSimple args

-- it gives no steps back
abbrev pub OnlyPays : Known → RowOp → Covers → Type 0
OnlyPays known o covers = (vs : List Meant) (world after : World) (v : Meant) → op known.program covers o vs world ≡ Gives v after → after.left ≤ world.left

-- An operation on such values that is done, whatever memory holds, is done over the relation of objects: what it makes is a string or a
-- tuple, which stays.
abbrev pub PlainIsDone : (List Meant → Type 0) → Type 0
PlainIsDone Good = (known : Known) (around : Around) (o : RowOp) (covers : Covers) (asks : List Ask) (place : Place) (args : List Operand) (w : Writing)
    → IsPlainlyDone Good around o covers asks place args w → AreSimple args → is_simple (kind_seen place.element) ≡ true → OnlyPays known o covers
    → IsDoneWhere (λ world vs. Good vs) (λ p. Has p around.layout) 1 known around o covers asks (lower_op around o place args w) place args w

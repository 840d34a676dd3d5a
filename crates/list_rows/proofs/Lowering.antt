-- Operations on lists are lowered as such.
use Rattle.std.proofs.Common.{◌≡◌, Bool, true, false, List, refl, sym, ap, ◌∙◌}
use Rattle.std.specs.Prelude.{◌&&◌, ◌||◌, not, if◌then◌else◌}
use Rattle.rpy_meaning.specs.declared.row.RowOp.{RowOp}
use Rattle.rtyper_layout.specs.declared.kind.Kind.{Kind}
use Rattle.rtyper_layout.specs.declared.kind.Kind.TheVariants as kind
use Rattle.rtyper_class.specs.Lowering.{lower_class_op, lowered as class_lowered}
use Rattle.rtyper_class.specs.Seen.{World}
use Rattle.rtyper_data.specs.Seen.{Operand, Place, Writing, kind_of}
use Rattle.rtyper_dict.specs.Lowering.{is_of_dicts, lower_dict_op}
use Rattle.rtyper_dict.specs.Operands.{is_dict, is_dict_or_none, of_none}
use Rattle.rtyper_list.specs.Lowering.{lower_list_op}
use Rattle.rtyper_list.specs.Operands.{of_list}
use Rattle.rtyper_op.specs.Lowering.{is_never}
use Rattle.rtyper_program.specs.Blocks.{lowered}
use Rattle.object_laws.specs.Values.{of_dict}
use Rattle.list_rows.proofs.Shapes.{no}

no_dict_kind : (k : Kind) → of_list k ≡ true → (of_dict k || of_none k) ≡ false
no_dict_kind kind.List h = refl
no_dict_kind kind.MaybeList h = refl
no_dict_kind _ h = no h

-- a list is no dict
pub no_dict : (a : Operand) → of_list (kind_of a) ≡ true → is_dict_or_none a ≡ false
no_dict a h = no_dict_kind (kind_of a) h

pub only_list : (a : Operand) → of_list (kind_of a) ≡ true → is_dict a ≡ false
only_list a h = by (is_dict a) (of_none (kind_of a)) (no_dict a h)
  where
    by : (b c : Bool) → (b || c) ≡ false → b ≡ false
    by true c e = no (sym e)
    by false c e = refl

pub lowers : (world : World) (r : RowOp) (place : Place) (args : List Operand) (w : Writing) → is_of_dicts r args ≡ false → class_lowered world r place args w ≡ lower_list_op world.around r place args w
    → lowered world r place args w ≡ lower_list_op world.around r place args w
lowers world r place args w h is = ap (λ (b : Bool). if b then lower_dict_op world.around r place args w else lower_class_op world r place args w) (nowhere (is_never args)) ∙ by (is_never args)
  where
    nowhere : (b : Bool) → (not b && is_of_dicts r args) ≡ false
    nowhere true = refl
    nowhere false = h

    by : (b : Bool) → (if b then lower_list_op world.around r place args w else class_lowered world r place args w) ≡ lower_list_op world.around r place args w
    by true = refl
    by false = is

-- The length of a list.
use Rattle.std.proofs.Common.{◌≡◌, false, List, [], ◌∷◌, Some, None, refl, ap, ◌∙◌, subst}
use Rattle.std.specs.Prelude.{slice_get, Option}
use Rattle.ann_lattice.specs.Row.{len as lengths}
use Rattle.ann_lattice.specs.Shape.{Shape, Num, shape}
use Rattle.rpy_tree.specs.Value.{Value as Meant, Word, Flag, Text, Fun, Nothing, Tuple, Ref, Object, Listed, Mapped, Instance}
use Rattle.rpy_meaning.specs.declared.row.Covers.{Covers}
use Rattle.rpy_meaning.specs.declared.row.RowOp.TheVariants as row
use Rattle.rpy_meaning.specs.Methods.{object_length}
use Rattle.rpy_meaning.specs.Operations.{op}
use Rattle.rpy_meaning.specs.Tree.{Program}
use Rattle.rpy_meaning.specs.World.{World}
use Rattle.rtyper_class.specs.Lowering.{lowered as class_lowered, of_one, of_some}
use Rattle.rtyper_class.specs.Seen.{World as Around}
use Rattle.rtyper_data.specs.Seen.{Operand, Place, Writing}
use Rattle.rtyper_layout.specs.Kinds.{kind_seen}
use Rattle.rtyper_list.specs.Lowering.{lower_list_op}
use Rattle.rtyper_list.specs.Operands.{of_list}
use Rattle.rtyper_program.specs.Raises.{is_covered}
use Rattle.rtyper_program.specs.Seen.{operand_of, place_of}
use Rattle.list_laws.specs.Lists.{there_asks}
use Rattle.list_laws.proofs.Lengths.{lengths_are_read}
use Rattle.rtyped_runs.specs.Laws.{before}
use Rattle.typed_rows.specs.Programs.{world}
use Rattle.typed_rows.specs.Rows.{lowered_in}
use Rattle.list_rows.specs.Rows.{LengthsAreWritten}
use Rattle.list_rows.proofs.Fitting.{above_words, row_fits}
use Rattle.list_rows.proofs.Lists.{first_told, lists_are_of}
use Rattle.list_rows.proofs.Lowering.{only_list}
use Rattle.list_rows.proofs.Operands.{Above, Takes, one}
use Rattle.list_rows.proofs.Shapes.{kind_at}
use Rattle.list_rows.proofs.Throwing.{Only, attribute_quiet}
use Rattle.list_rows.proofs.Writing.{by_list_law, there_made}

takes : Takes 1 row.Len
takes t [] other = refl
takes t (a ∷ []) other = absurd (other refl)
takes t (a ∷ b ∷ []) other = refl
takes t (a ∷ b ∷ c ∷ []) other = refl
takes t (a ∷ b ∷ c ∷ d ∷ xs) other = refl

as_class : (around : Around) (place : Place) (a : Operand) (w : Writing) → class_lowered around row.Len place (a ∷ []) w ≡ lower_list_op around.around row.Len place (a ∷ []) w
unfolding class_lowered of_some of_one
as_class around place a w = refl

counted : (o : Option Object) (c : Covers) (w : World) → Only (is_covered c) (object_length o w)
counted (Some (Listed vs)) c w = tt
counted (Some (Mapped pairs)) c w = tt
counted (Some (Instance class attributes)) c w = tt
counted None c w = tt

quiet : (program : Program) (c : Covers) (vs : List Meant) (w : World) → Only (is_covered c) (op program c row.Len vs w)
quiet program c [] w = tt
quiet program c (Text bytes ∷ []) w = tt
quiet program c (Tuple vs ∷ []) w = tt
quiet program c (Ref r ∷ []) w = counted (slice_get w.heap r) c w
quiet program c (Nothing ∷ []) w = attribute_quiet c w.heap w refl
quiet program c (Word z ∷ []) w = tt
quiet program c (Flag b ∷ []) w = tt
quiet program c (Fun f ∷ []) w = tt
quiet program c (v ∷ u ∷ vs) w = tt

pub lengths_are_written : LengthsAreWritten
lengths_are_written t typed n graph o is_row is told w from to room =
    let it = one t n o row.Len is_row is takes (λ w a g node xs. refl) in
    let list = lists_are_of t typed n it.v it.a (first_told t n of_list o it.v [] it.a it.args_are told) in
    let l = lowered_in t n graph in
    let fit : Above t (lengths (shape it.a.e)) (shape is.result) = (row_fits t.whole t.assigned n o.node row.Len (shape it.a.e ∷ []) (shape is.result) it.fits refl it.some).0 in
    let is_word = above_words t.whole.tables.classes t.assigned.same false (shape is.result) (subst (λ (x : Shape). Above t (lengths x) (shape is.result)) list.of.shape_is fit) it.fits.free in
    by_list_law t typed n graph o is w from to room 2 (there_asks (world t).around (operand_of l it.v) o.covered) row.Len (it.v ∷ []) is_row it.args_are (there_made (world t).around (operand_of l it.v) o.covered)
    (only_list (operand_of l it.v) list.kind) (as_class (world t) (place_of l o.result) (operand_of l it.v) (before o w)) (λ k. refl) (λ g core meant vs memory given. quiet t.seen.program o.covered vs meant)
    (lengths_are_read t.seen (world t).around (place_of l o.result) (operand_of l it.v) (before o w) list.kind (ap kind_seen is.result_is ∙ kind_at is.result (Num is_word.0) is_word.1))

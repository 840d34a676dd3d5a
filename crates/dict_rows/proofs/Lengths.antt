-- The number of entries of a dict, and displays of dicts.
use Rattle.std.proofs.Common.{◌≡◌, ℕ, Bool, true, false, List, [], ◌∷◌, map, Some, None, refl, ap, ◌∙◌, subst}
use Rattle.std.specs.Prelude.{slice_get, Option, if◌then◌else◌}
use Rattle.ann_lattice.specs.Row as rows
use Rattle.ann_lattice.specs.Shape.{Num, Shape, shape}
use Rattle.rpy_tree.specs.Value.{Value as Meant, Word, Flag, Text, Fun, Ref, Tuple, Listed, Mapped, Instance, Object, Nothing as Missing}
use Rattle.rpy_meaning.specs.declared.row.Covers.{Covers}
use Rattle.rpy_meaning.specs.declared.row.RowOp.TheVariants as row
use Rattle.rpy_meaning.specs.Operations.{op}
use Rattle.rpy_meaning.specs.Tree.{Program}
use Rattle.rpy_meaning.specs.World.{World}
use Rattle.rtyper_class.specs.Lowering.{other}
use Rattle.rtyper_data.specs.Seen.{Operand}
use Rattle.rtyper_data.specs.declared.small.Small.TheVariants as small
use Rattle.rtyper_layout.specs.declared.kind.Kind.{Kind}
use Rattle.rtyper_layout.specs.declared.kind.Kind.TheVariants as kind
use Rattle.rtyper_layout.specs.Kinds.{kind_seen}
use Rattle.rtyper_program.specs.Raises.{is_covered}
use Rattle.rtyper_program.specs.Seen.{operand_of, place_of}
use Rattle.lower_laws.specs.Asked.{Make}
use Rattle.rtyped_runs.specs.Laws.{before}
use Rattle.typed_rows.specs.Programs.{world}
use Rattle.typed_rows.specs.Rows.{lowered_in}
use Rattle.list_rows.proofs.Fitting.{above_words, row_fits}
use Rattle.list_rows.proofs.Lists.{first_told}
use Rattle.list_rows.proofs.Operands.{Above, Takes, none, one}
use Rattle.list_rows.proofs.Shapes.{kind_at, no}
use Rattle.list_rows.proofs.Throwing.{Only, attribute_quiet, paying_quiet}
use Rattle.list_rows.proofs.Writing.{raising}
use Rattle.ann_lattice.specs.Shape.{Dct}
use Rattle.rpy_meaning.specs.Costs.{dict_cost}
use Rattle.rpy_meaning.specs.Methods.{object_length}
use Rattle.rpy_meaning.specs.World.{new_object}
use Rattle.rtyper_data.specs.declared.small.Keyed.TheVariants as keyed
use Rattle.rtyper_op.specs.Lowering.{is_never, never_comes}
use Rattle.rtyper_program.specs.Raises.{has_exceptions}
use Rattle.object_laws.specs.Done.{Any}
use Rattle.object_laws.specs.Values.{of_dict}
use Rattle.dict_op_laws.specs.Dicts.{there_asks}
use Rattle.dict_op_laws.proofs.Displayed.{empty_dicts_are_made}
use Rattle.dict_op_laws.proofs.Lengths.{dicts_have_lengths}
use Rattle.rtyped_runs.specs.Laws.{of_dicts}
use Rattle.list_rows.proofs.Throwing.{raised_only}
use Rattle.dict_rows.specs.Rows.{DisplaysAreWritten, LengthsAreWritten}
use Rattle.dict_rows.proofs.Dicts.{dicts_are_of, result_of_dicts}
use Rattle.dict_rows.proofs.Standing.{dicts_stand, there_made}
use Rattle.dict_rows.proofs.Writing.{by_dict_law, early, lowers}

length_takes : Takes 1 row.Len
length_takes t [] other = refl
length_takes t (a ∷ []) other = absurd (other refl)
length_takes t (a ∷ b ∷ []) other = refl
length_takes t (a ∷ b ∷ c ∷ []) other = refl
length_takes t (a ∷ b ∷ c ∷ d ∷ xs) other = refl

dict_kind : (k : Kind) → of_dict k ≡ true → never_comes k ≡ false
dict_kind kind.Dict h = refl
dict_kind kind.MaybeDict h = refl
dict_kind _ h = no h

-- a dict may come
pub dict_comes : (a : Operand) → of_dict (kind_seen a.element) ≡ true → is_never (a ∷ []) ≡ false
dict_comes a h = ap (λ (b : Bool). if b then true else false) (dict_kind (kind_seen a.element) h)

counted : (o : Option Object) (c : Covers) (w : World) → Only (is_covered c) (object_length o w)
counted (Some (Listed vs)) c w = tt
counted (Some (Mapped pairs)) c w = tt
counted (Some (Instance class attributes)) c w = tt
counted None c w = tt

quiet : (program : Program) (c : Covers) (vs : List Meant) (w : World) → Only (is_covered c) (op program c row.Len vs w)
quiet program c [] w = tt
quiet program c (Text bytes ∷ []) w = tt
quiet program c (Tuple vs ∷ []) w = tt
quiet program c (Ref r ∷ []) w = counted (slice_get w.heap r) c w
quiet program c (Missing ∷ []) w = attribute_quiet c w.heap w refl
quiet program c (Word z ∷ []) w = tt
quiet program c (Flag b ∷ []) w = tt
quiet program c (Fun f ∷ []) w = tt
quiet program c (v ∷ u ∷ vs) w = tt

pub lengths_are_written : LengthsAreWritten
lengths_are_written t typed n graph o is_row is told w from to room =
    let it = one t n o row.Len is_row is length_takes (λ w a g node xs. refl) in
    let dict = dicts_are_of t typed n graph it.v it.a (first_told t n of_dict o it.v [] it.a it.args_are told) in
    let l = lowered_in t n graph in
    let fit : Above t (rows.len (shape it.a.e)) (shape is.result) = (row_fits t.whole t.assigned n o.node row.Len (shape it.a.e ∷ []) (shape is.result) it.fits refl it.some).0 in
    let is_word = above_words t.whole.tables.classes t.assigned.same false (shape is.result) (subst (λ (x : Shape). Above t (rows.len x) (shape is.result)) dict.of.shape_is fit) it.fits.free in
    by_dict_law t typed n graph o is w from to room of_dicts Any 0 (there_asks (world t).around (operand_of l it.v) o.covered) row.Len (operand_of l it.v ∷ []) is_row (ap (map (operand_of l)) it.args_are)
    (λ late. dicts_stand t typed (there_asks (world t).around (operand_of l it.v) o.covered) (before o w).found (there_made (world t).around (operand_of l it.v) o.covered) (early t typed n graph o is w from to room) late)
    (lowers (world t) row.Len (place_of l o.result) (operand_of l it.v ∷ []) (before o w) (dict_comes (operand_of l it.v) dict.kind) dict.kind)
    (λ g core meant xs memory given. raised_only (has_exceptions t.known.annotation n o) (is_covered o.covered) (op t.seen.program o.covered row.Len xs meant) (raising t typed n graph o is row.Len is_row (λ k. refl)) (quiet t.seen.program o.covered xs meant))
    (λ g core meant vs memory given good. tt)
    (dicts_have_lengths t.seen (world t).around (place_of l o.result) (operand_of l it.v) (before o w) dict.of.n dict.has.mapping dict.dict (ap kind_seen is.result_is ∙ kind_at is.result (Num is_word.0) is_word.1))

-- ---- displays

display_takes : (site : ℕ) → Takes 0 (row.Dict site)
display_takes site t [] other = absurd (other refl)
display_takes site t (a ∷ []) other = refl
display_takes site t (a ∷ b ∷ []) other = refl
display_takes site t (a ∷ b ∷ c ∷ []) other = refl
display_takes site t (a ∷ b ∷ c ∷ d ∷ xs) other = refl

display_is_quiet : (program : Program) (site : ℕ) (c : Covers) (vs : List Meant) (w : World) → Only (is_covered c) (op program c (row.Dict site) vs w)
display_is_quiet program site c [] w = paying_quiet (is_covered c) w.heap dict_cost (new_object (Mapped [])) (λ w e. tt) w refl
display_is_quiet program site c (v ∷ vs) w = tt

pub displays_are_written : DisplaysAreWritten
displays_are_written site t typed n graph o is_row is w from to room =
    let it = none t n o (row.Dict site) is_row is (display_takes site) (λ w a g node xs. refl) in
    let l = lowered_in t n graph in
    let fit : Above t (Dct site false) (shape is.result) = (row_fits t.whole t.assigned n o.node (row.Dict site) [] (shape is.result) it.fits refl it.some).0 in
    let made = result_of_dicts t typed n graph o is site false fit it.fits.free in
    by_dict_law t typed n graph o is w from to room of_dicts Any 1 (Make (small.Keyed (keyed.Make made.of.n)) ∷ []) (row.Dict site) [] is_row (ap (map (operand_of l)) it.args_are)
    (λ late. dicts_stand t typed (Make (small.Keyed (keyed.Make made.of.n)) ∷ []) (before o w).found (tt, tt) (early t typed n graph o is w from to room) late)
    (lowers (world t) (row.Dict site) (place_of l o.result) [] (before o w) refl refl)
    (λ g core meant xs memory given. raised_only (has_exceptions t.known.annotation n o) (is_covered o.covered) (op t.seen.program o.covered (row.Dict site) xs meant) (raising t typed n graph o is (row.Dict site) is_row (λ k. refl)) (display_is_quiet t.seen.program site o.covered xs meant))
    (λ g core meant vs memory given good. tt)
    (empty_dicts_are_made t.seen (world t).around (place_of l o.result) (before o w) o.covered site made.of.n made.has.mapping made.kind made.typed made.has.is)

-- Tuples that are made, and their items for targets.
use Rattle.std.proofs.Common.{◌≡◌, ℕ, Bool, true, false, List, [], ◌∷◌, length, map, Some, None, refl, sym, ap, ◌∙◌, subst}
use Rattle.std.specs.Prelude.{slice_get, Option, if◌then◌else◌}
use Rattle.ann_element.specs.declared.element.Element.{Element}
use Rattle.ann_lattice.specs.Kind.{given}
use Rattle.ann_lattice.specs.Row as rows
use Rattle.ann_lattice.specs.Shape.{Shape, shape}
use Rattle.flow_graph.specs.declared.graph.Graph.{Graph}
use Rattle.rpy_tree.specs.Value.{Value as Meant, Word, Flag, Text, Fun, Ref, Tuple, Nothing as Missing}
use Rattle.rpy_meaning.specs.declared.row.Covers.{Covers}
use Rattle.rpy_meaning.specs.declared.row.RowOp.{RowOp}
use Rattle.rpy_meaning.specs.declared.row.RowOp.TheVariants as row
use Rattle.rpy_meaning.specs.Operations.{op}
use Rattle.rpy_meaning.specs.Tree.{Program}
use Rattle.rpy_meaning.specs.World.{World}
use Rattle.rtyper_class.specs.Lowering.{lowered as class_lowered, of_some, of_one, of_two, other}
use Rattle.rtyper_class.specs.Seen.{World as Around}
use Rattle.rtyper_data.specs.Seen.{Operand, Place, Writing}
use Rattle.rtyper_layout.specs.Types.{type_of, type_seen}
use Rattle.rtyper_list.specs.Lowering.{lower_list_op}
use Rattle.rtyper_program.specs.Raises.{is_covered}
use Rattle.rtyper_program.specs.Seen.{element_at, operand_of, place_of}
use Rattle.rtyped_runs.specs.Laws.{before}
use Rattle.typed_rows.specs.Programs.{IsTyped, Typed, layout, world}
use Rattle.typed_rows.specs.Rows.{lowered_in}
use Rattle.list_rows.proofs.Fitting.{given_fits, row_fits}
use Rattle.list_rows.proofs.Lowering.{no_dict}
use Rattle.list_rows.proofs.Operands.{Above, Takes, one}
use Rattle.list_rows.proofs.Shapes.{no}
use Rattle.list_rows.proofs.Throwing.{Only, paying_quiet}
use Rattle.list_rows.proofs.Writing.{raising}
use Rattle.std.specs.Prelude.{◌+◌, ◌==◌, zero, suc, nat_le}
use Rattle.ann_lattice.specs.Join.{depth, is_clash}
use Rattle.ann_lattice.specs.Order as order
use Rattle.ann_lattice.specs.Order.{Below, Each, and_more}
use Rattle.ann_lattice.specs.Shape.{Shapes, Tup, items as items_of, shapes, shapes_of}
use Rattle.rpy_meaning.specs.Costs.{tuple_cost}
use Rattle.rpy_meaning.specs.Sequences.{items_of as values_of, tuple}
use Rattle.rpy_meaning.specs.World.{bad, give, if_some}
use Rattle.rtyper_dict.specs.Lowering.{is_of_dicts}
use Rattle.rtyper_list.specs.Lowering.{fails, first_of_one, first_of_three, first_of_two, lowered as list_lowered, lowered_unless, of_one as list_of_one, of_some as list_of_some, of_three as list_of_three, of_two as list_of_two, other as list_other, second_of_two}
use Rattle.rtyper_list.specs.Operands.{is_list}
use Rattle.rtyper_op.specs.Lowering.{is_never, lower_op}
use Rattle.rtyper_program.specs.Blocks.{lowered}
use Rattle.rtyper_program.specs.Raises.{has_exceptions}
use Rattle.lower_laws.specs.Asked as values
use Rattle.object_laws.specs.Done.{Any}
use Rattle.conversion_laws.specs.Asked.{asks_for}
use Rattle.conversion_laws.specs.Converted.{tuples_in}
use Rattle.conversion_laws.specs.Going.{Goes}
use Rattle.conversion_laws.specs.Ordered.{AllLaid, IsLaid, Next as Part}
use Rattle.passing_laws.specs.Passing.{AllPass, pass_asks, tuples_of}
use Rattle.tuple_conversion_laws.specs.Tuples.{references_given, references_made}
use Rattle.tuple_conversion_laws.proofs.Made.{tuples_are_made}
use Rattle.tuple_conversion_laws.proofs.Taken.{items_are_unpacked}
use Rattle.converted_runs.specs.Writing.{of_tuples}
use Rattle.typed_rows.specs.Programs.{same}
use Rattle.typed_rows.proofs.Going.{elements_pass}
use Rattle.list_rows.proofs.Fitting.{no_misfit}
use Rattle.list_rows.proofs.Lowering.{lowers}
use Rattle.list_rows.proofs.Operands.{End, Next, Ops, met, operands_of}
use Rattle.list_rows.proofs.Throwing.{raised_only}
use Rattle.item_rows.specs.Rows.{TargetsAreWritten, TuplesAreWritten}
use Rattle.item_rows.proofs.Behind.{by_behind, early}
use Rattle.item_rows.proofs.Displays.{all_come}
use Rattle.item_rows.proofs.Standing.{alone_stand, asks_come, pass_come}
use Rattle.item_rows.proofs.Tupled.{OfTuple, above_in, shaped_as, tuple_at, tuples_are}

-- ---- lowering

either : (b : Bool) (x : Writing) → (if b then x else x) ≡ x
either true x = refl
either false x = refl

-- what is lowered neither as an operation on classes nor as one on lists
plain_lowers : (around : Around) (r : RowOp) (place : Place) (args : List Operand) (w : Writing) → class_lowered around r place args w ≡ lower_list_op around.around r place args w → fails r args ≡ false → list_lowered around.around r place args w ≡ lower_op around.around r place args w → is_of_dicts r args ≡ false
    → lowered around r place args w ≡ lower_op around.around r place args w
plain_lowers around r place args w as_class no_failure as_list no_dict = lowers around r place args w no_dict as_class ∙ by (is_never args) ∙ refl
  where
    by : (b : Bool) → (if b then lower_op around.around r place args w else lowered_unless (fails r args) around.around r place args w) ≡ lower_op around.around r place args w
    by true = refl
    by false = ap (λ (b : Bool). lowered_unless b around.around r place args w) no_failure ∙ as_list

tuple_class : (around : Around) (place : Place) (args : List Operand) (w : Writing) → class_lowered around row.Tuple place args w ≡ lower_list_op around.around row.Tuple place args w
unfolding class_lowered of_some of_one of_two other
tuple_class around place [] w = refl
tuple_class around place (a ∷ []) w = refl
tuple_class around place (a ∷ b ∷ []) w = refl
tuple_class around place (a ∷ b ∷ c ∷ args) w = refl

tuple_list : (around : Around) (place : Place) (args : List Operand) (w : Writing) → list_lowered around.around row.Tuple place args w ≡ lower_op around.around row.Tuple place args w
unfolding list_lowered list_of_some list_of_one list_of_two list_of_three list_other first_of_one first_of_two second_of_two first_of_three
tuple_list around place [] w = refl
tuple_list around place (a ∷ []) w = either (is_list a) (lower_op around.around row.Tuple place (a ∷ []) w)
tuple_list around place (a ∷ b ∷ []) w = either (is_list a) (lower_op around.around row.Tuple place (a ∷ b ∷ []) w)
tuple_list around place (a ∷ b ∷ c ∷ []) w = either (is_list a) (lower_op around.around row.Tuple place (a ∷ b ∷ c ∷ []) w)
tuple_list around place (a ∷ b ∷ c ∷ d ∷ args) w = refl

unpack_class : (count i : ℕ) (around : Around) (place : Place) (a : Operand) (w : Writing) → class_lowered around (row.Unpack count i) place (a ∷ []) w ≡ lower_list_op around.around (row.Unpack count i) place (a ∷ []) w
unfolding class_lowered of_some of_one
unpack_class count i around place a w = refl

unpack_list : (count i : ℕ) (around : Around) (place : Place) (a : Operand) (w : Writing) → list_lowered around.around (row.Unpack count i) place (a ∷ []) w ≡ lower_op around.around (row.Unpack count i) place (a ∷ []) w
unfolding list_lowered list_of_some list_of_one first_of_one
unpack_list count i around place a w = either (is_list a) (lower_op around.around (row.Unpack count i) place (a ∷ []) w)

-- ---- displays of tuples

module _ (t : Typed) (typed : IsTyped t) (n : ℕ) (graph : Graph) where
  all_go : (args : List ℕ) (es : List Element) (parts : List Element) → Ops t n args es → AllLaid (layout t) (same t) parts → Each t.classes.classes (same t) (shapes_of (map shape es)) (shapes parts) → AllPass (layout t) t.seen (map (operand_of (lowered_in t n graph)) args) parts
  all_go _ _ [] End laid each = tt
  all_go _ _ (p ∷ parts) End laid each = elim each [ ]
  all_go _ _ [] (Next a more) laid each = elim each [ ]
  all_go _ _ (p ∷ parts) (Next {v = v} {vs = vs} {es = es} a more) (Part one others) (and_more x y xs ys below each) =
      (subst (λ e. Goes (layout t) t.seen e (Some p)) (sym a.seen) (elements_pass t typed a.e p a.laid one below), all_go vs es parts more others each)

-- a tuple below what is in no conflict
record IsTupled (t : Typed) (xs : Shapes) (e : Element) : Type 0 where
  of : OfTuple (layout t) (same t) e
  each : Each t.classes.classes (same t) xs (shapes of.parts)

tupled : (t : Typed) → IsTyped t → (xs : Shapes) (e : Element) → IsLaid (layout t) (same t) e → Above t (Tup xs) (shape e) → is_clash (shape e) ≡ false → IsTupled t xs e
tupled t typed xs e laid above free = by (shape e) refl (above_in t typed (Tup xs) (shape e) above) free
  where
    by : (z : Shape) → shape e ≡ z → Below t.classes.classes (same t) (Tup xs) z → is_clash z ≡ false → IsTupled t xs e
    by _ is (order.tuple xs ys each) free =
        let of = tuples_are (layout t) (same t) e ys laid is in
        record { of = of; each = subst (λ (y : Shapes). Each t.classes.classes (same t) xs y) (sym (shaped_as (layout t) (same t) e ys of is)) each }
    by _ is (order.clash x o p a b) free = no (sym free)

tuple_is_quiet : (program : Program) (c : Covers) (vs : List Meant) (meant : World) → Only (is_covered c) (op program c row.Tuple vs meant)
tuple_is_quiet program c vs meant = paying_quiet (is_covered c) meant.heap tuple_cost (give (tuple vs)) (λ w e. tt) meant refl

pub tuples_are_written : TuplesAreWritten
tuples_are_written t typed n graph o is_row is w from to room =
    let l = lowered_in t n graph in
    let fits = met t n o row.Tuple is_row is in
    let fit : Above t (given (nat_le (depth (Tup (shapes_of (map shape is.elements)))) 8) (Tup (shapes_of (map shape is.elements)))) (shape is.result) = (row_fits t.whole t.assigned n o.node row.Tuple (map shape is.elements) (shape is.result) fits refl is.some).0 in
    let above = (given_fits t.whole.tables.classes t.assigned.same (nat_le (depth (Tup (shapes_of (map shape is.elements)))) 8) (Tup (shapes_of (map shape is.elements))) (shape is.result) fit fits.free).1 in
    let it = tupled t typed (shapes_of (map shape is.elements)) is.result is.result_laid above fits.free in
    let ops = operands_of t n o is in
    by_behind t typed n graph o is w from to room of_tuples Any (references_made it.of.parts) (1 + tuples_of it.of.parts) 0 0 (pass_asks (layout t) (map (operand_of l) o.args) it.of.parts) row.Tuple (map (operand_of l) o.args)
    (lower_op (world t).around row.Tuple (place_of l o.result) (map (operand_of l) o.args) (before o w)) is_row refl
    (λ late. alone_stand t typed (λ p. values.Has p (layout t)) (pass_asks (layout t) (map (operand_of l) o.args) it.of.parts) (before o w).found (pass_come (λ s. ⊥) (layout t) (map (operand_of l) o.args) it.of.parts) (early t typed n graph o is w from to room) late)
    (plain_lowers (world t) row.Tuple (place_of l o.result) (map (operand_of l) o.args) (before o w) (tuple_class (world t) (place_of l o.result) (map (operand_of l) o.args) (before o w)) refl (tuple_list (world t) (place_of l o.result) (map (operand_of l) o.args) (before o w)) refl)
    (λ g core meant xs memory given. raised_only (has_exceptions t.known.annotation n o) (is_covered o.covered) (op t.seen.program o.covered row.Tuple xs meant) (raising t typed n graph o is row.Tuple is_row (λ k. refl)) (tuple_is_quiet t.seen.program o.covered xs meant))
    (λ g core meant vs memory given good. tt)
    (tuples_are_made t.seen (world t).around (place_of l o.result) (map (operand_of l) o.args) (before o w) o.covered it.of.n it.of.parts typed.small.no_tuple (all_come t n graph o.args is.elements ops)
    (tuple_at t (element_at t.known.annotation n o.result) is.result is.result_is it.of.n it.of.parts it.of.of) (all_go t typed n graph o.args is.elements it.of.parts ops it.of.all it.each))

-- ---- an item for a target

unpack_takes : (count i : ℕ) → Takes 1 (row.Unpack count i)
unpack_takes count i t [] other = refl
unpack_takes count i t (a ∷ []) other = absurd (other refl)
unpack_takes count i t (a ∷ b ∷ []) other = refl
unpack_takes count i t (a ∷ b ∷ c ∷ []) other = refl
unpack_takes count i t (a ∷ b ∷ c ∷ d ∷ xs) other = refl

unpack_is_quiet : (program : Program) (c : Covers) (count i : ℕ) (vs : List Meant) (meant : World) → Only (is_covered c) (op program c (row.Unpack count i) vs meant)
unpack_is_quiet program c count i [] meant = tt
unpack_is_quiet program c count i (Tuple vs ∷ []) meant = by (length (values_of vs) == count)
  where
    found : (o : Option Meant) → Only (is_covered c) (if_some bad o give meant)
    found (Some v) = tt
    found None = tt

    by : (b : Bool) → Only (is_covered c) ((if b then if_some bad (slice_get (values_of vs) i) give else bad) meant)
    by true = found (slice_get (values_of vs) i)
    by false = tt
unpack_is_quiet program c count i (Word z ∷ []) meant = tt
unpack_is_quiet program c count i (Flag b ∷ []) meant = tt
unpack_is_quiet program c count i (Text bytes ∷ []) meant = tt
unpack_is_quiet program c count i (Fun f ∷ []) meant = tt
unpack_is_quiet program c count i (Missing ∷ []) meant = tt
unpack_is_quiet program c count i (Ref r ∷ []) meant = tt
unpack_is_quiet program c count i (v ∷ u ∷ vs) meant = tt

-- what is unpacked is a tuple
record Unpacks (t : Typed) (i : ℕ) (e : Element) (z : Shape) : Type 0 where
  of : OfTuple (layout t) (same t) e
  part : Element
  there : slice_get of.parts i ≡ Some part
  laid : IsLaid (layout t) (same t) part
  below : Below t.classes.classes (same t) (shape part) z

record Nth (t : Typed) (parts : List Element) (i : ℕ) (z : Shape) : Type 0 where
  part : Element
  there : slice_get parts i ≡ Some part
  laid : IsLaid (layout t) (same t) part
  below : Above t (shape part) z

nth_part : (t : Typed) (parts : List Element) (i : ℕ) (z : Shape) → AllLaid (layout t) (same t) parts → Above t (rows.nth (shapes parts) i) z → is_clash z ≡ false → Nth t parts i z
nth_part t [] i z laid above free = no_misfit t.whole.tables.classes t.assigned.same z above free
nth_part t (p ∷ parts) zero z (Part one others) above free = record { part = p; there = refl; laid = one; below = above }
nth_part t (p ∷ parts) (suc i) z (Part one others) above free = (let it = nth_part t parts i z others above free in record { part = it.part; there = it.there; laid = it.laid; below = it.below })

unpacks : (t : Typed) → IsTyped t → (count i : ℕ) (e : Element) (z : Shape) → IsLaid (layout t) (same t) e → Above t (rows.unpack count i (shape e)) z → is_clash z ≡ false → Unpacks t i e z
unpacks t typed count i e z laid above free = by (shape e) refl above
  where
    by : (x : Shape) → shape e ≡ x → Above t (rows.unpack count i x) z → Unpacks t i e z
    by (Tup xs) is above =
        let of = tuples_are (layout t) (same t) e xs laid is in
        let inner = (given_fits t.whole.tables.classes t.assigned.same (length (items_of xs) == count) (rows.nth xs i) z above free).1 in
        let it = nth_part t of.parts i z of.all (subst (λ (y : Shapes). Above t (rows.nth y i) z) (sym (shaped_as (layout t) (same t) e xs of is)) inner) free in
        record { of = of; part = it.part; there = it.there; laid = it.laid; below = above_in t typed (shape it.part) z it.below }
    by _ is above = no_misfit t.whole.tables.classes t.assigned.same z above free

pub targets_are_written : TargetsAreWritten
targets_are_written count i t typed n graph o is_row is told w from to room =
    let it = one t n o (row.Unpack count i) is_row is (unpack_takes count i) (λ w a g node xs. refl) in
    let l = lowered_in t n graph in
    let fit : Above t (rows.unpack count i (shape it.a.e)) (shape is.result) = (row_fits t.whole t.assigned n o.node (row.Unpack count i) (shape it.a.e ∷ []) (shape is.result) it.fits refl it.some).0 in
    let taken = unpacks t typed count i it.a.e (shape is.result) it.a.laid fit it.fits.free in
    let there = told it.v taken.of.parts taken.part (ap (λ (args : List ℕ). slice_get args 0) it.args_are) (it.a.seen ∙ ap (λ e. Some e) taken.of.is) taken.there in
    by_behind t typed n graph o is w from to room of_tuples Any (references_given (place_of l o.result)) (tuples_in (element_at t.known.annotation n o.result)) 0 0 (asks_for (layout t) (type_of (layout t) taken.part) (type_seen (layout t) (element_at t.known.annotation n o.result))) (row.Unpack count i) (operand_of l it.v ∷ [])
    (lower_op (world t).around (row.Unpack count i) (place_of l o.result) (operand_of l it.v ∷ []) (before o w)) is_row (ap (map (operand_of l)) it.args_are)
    (λ late. alone_stand t typed (λ p. values.Has p (layout t)) (asks_for (layout t) (type_of (layout t) taken.part) (type_seen (layout t) (element_at t.known.annotation n o.result))) (before o w).found (asks_come (λ s. ⊥) (layout t) (type_of (layout t) taken.part) (type_seen (layout t) (element_at t.known.annotation n o.result))) (early t typed n graph o is w from to room) late)
    (plain_lowers (world t) (row.Unpack count i) (place_of l o.result) (operand_of l it.v ∷ []) (before o w) (unpack_class count i (world t) (place_of l o.result) (operand_of l it.v) (before o w)) refl (unpack_list count i (world t) (place_of l o.result) (operand_of l it.v) (before o w)) refl)
    (λ g core meant xs memory given. raised_only (has_exceptions t.known.annotation n o) (is_covered o.covered) (op t.seen.program o.covered (row.Unpack count i) xs meant) (raising t typed n graph o is (row.Unpack count i) is_row (λ k. refl)) (unpack_is_quiet t.seen.program o.covered count i xs meant))
    (λ g core meant vs memory given good. tt)
    (items_are_unpacked t.seen (world t).around (place_of l o.result) (operand_of l it.v) (before o w) o.covered taken.of.n taken.of.parts count i taken.part typed.small.no_tuple
    (tuple_at t (element_at t.known.annotation n it.v) it.a.e it.a.seen taken.of.n taken.of.parts taken.of.of) taken.there there
    (subst (λ e. Goes (layout t) t.seen (Some taken.part) e) (sym is.result_is) (elements_pass t typed taken.part is.result taken.laid is.result_laid taken.below)))

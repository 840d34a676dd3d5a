-- Items of lists at an index: read, stored and deleted.
use Rattle.std.proofs.Common.{◌≡◌, ℕ, true, List, [], ◌∷◌, ◌++◌, length, refl, ap, subst}
use Rattle.std.specs.Prelude.{slice_get, slice_set, remove, ◌||◌, Option, ℤ}
use Rattle.ann_lattice.specs.Kind.{is_int}
use Rattle.ann_lattice.specs.Row.{delete_index, index as indexed, store_index}
use Rattle.ann_lattice.specs.Shape.{NoneOnly, Nothing, Shape, shape}
use Rattle.rpy_tree.specs.Value.{Value as Meant, Heap, Listed, Nothing as Missing}
use Rattle.rpy_meaning.specs.declared.row.Covers.{Covers}
use Rattle.rpy_meaning.specs.declared.row.RowOp.TheVariants as row
use Rattle.rpy_meaning.specs.Operations.{op}
use Rattle.rpy_meaning.specs.Sequences.{delete_index as meant_delete, delete_object, index as meant_index, index_object, item_at, place as meant_place, store_index as meant_store, store_object}
use Rattle.rpy_meaning.specs.World.{give, if_some, index_error, set_object}
use Rattle.rtyper_class.specs.Lowering.{lowered as class_lowered, of_some, of_two, other}
use Rattle.rtyper_class.specs.Seen.{World as Around}
use Rattle.rtyper_data.specs.Seen.{Operand, Place, Writing}
use Rattle.rtyper_data.specs.declared.small.Listed.TheVariants as listed
use Rattle.rtyper_data.specs.declared.small.Small.TheVariants as small
use Rattle.rtyper_layout.specs.declared.kind.Kind.{Kind}
use Rattle.rtyper_layout.specs.declared.kind.Kind.TheVariants as kind
use Rattle.rtyper_list.specs.Lowering.{lower_list_op}
use Rattle.rtyper_list.specs.Operands.{of_list}
use Rattle.rtyper_program.specs.Raises.{is_covered, is_dict}
use Rattle.rtyper_program.specs.Seen.{operand_of, place_of}
use Rattle.lower_laws.specs.Asked.{Make}
use Rattle.list_laws.specs.Lists.{there_asks}
use Rattle.list_laws.specs.Taken.{take_asks}
use Rattle.list_laws.proofs.Deleting.{items_are_deleted}
use Rattle.list_laws.proofs.Indexed.{items_are_read}
use Rattle.list_laws.proofs.Stored.{items_are_stored}
use Rattle.rtyped_runs.specs.Laws.{before}
use Rattle.typed_rows.specs.Programs.{world}
use Rattle.typed_rows.specs.Rows.{lowered_in}
use Rattle.list_rows.specs.Rows.{DeletionsAreWritten, IndicesAreWritten, StoresAreWritten}
use Rattle.list_rows.proofs.Fitting.{given_fits, row_fits}
use Rattle.list_rows.proofs.Lists.{first_told, is_item_of, lists_are_of, nothing_is, word_is}
use Rattle.list_rows.proofs.Lowering.{no_dict}
use Rattle.list_rows.proofs.Operands.{Above, Takes, three, two}
use Rattle.list_rows.proofs.Values.{of_three_listed, of_two_listed}
use Rattle.list_rows.proofs.Throwing.{IsListed, Quiet, at_listed, attribute_quiet, if_some_quiet, index_quiet, listed_quiet, word_quiet}
use Rattle.list_rows.proofs.Writing.{by_list_law, made_both, there_made}

either_raises : (k : Kind) → (is_dict k || true) ≡ true
either_raises kind.Dict = refl
either_raises kind.MaybeDict = refl
either_raises _ = refl

-- ---- the item at an index

index_takes : (literal : Option ℤ) → Takes 2 (row.Index literal)
index_takes literal t [] other = refl
index_takes literal t (a ∷ []) other = refl
index_takes literal t (a ∷ b ∷ []) other = absurd (other refl)
index_takes literal t (a ∷ b ∷ c ∷ []) other = refl
index_takes literal t (a ∷ b ∷ c ∷ d ∷ xs) other = refl

index_class : (literal : Option ℤ) (around : Around) (place : Place) (a b : Operand) (w : Writing) → class_lowered around (row.Index literal) place (a ∷ b ∷ []) w ≡ lower_list_op around.around (row.Index literal) place (a ∷ b ∷ []) w
unfolding class_lowered of_some of_two
index_class literal around place a b w = refl

index_is_quiet : (c : Covers) (heap : Heap) (x i : Meant) → IsListed heap x → Quiet (is_covered c) heap (meant_index c x i)
index_is_quiet c heap x i is = listed_quiet (is_covered c) heap (λ (x : Meant). meant_index c x i) x is (attribute_quiet c heap)
    (λ r items at. at_listed (is_covered c) heap r items (index_object c i) at (word_quiet (is_covered c) heap (λ z. if_some (index_error c) (item_at z items) give) i (λ z. if_some_quiet (is_covered c) heap (index_error c) (item_at z items) give (index_quiet c heap) (λ v w e. tt))))

pub indices_are_written : IndicesAreWritten
indices_are_written literal t typed n graph o is_row is told w from to room =
    let it = two t n o (row.Index literal) is_row is (index_takes literal) (λ w a g node xs. refl) in
    let list = lists_are_of t typed n it.v it.a (first_told t n of_list o it.v (it.u ∷ []) it.a it.args_are told.0) in
    let l = lowered_in t n graph in
    let fit : Above t (indexed literal (shape it.a.e) (shape it.b.e) Nothing) (shape is.result) = (row_fits t.whole t.assigned n o.node (row.Index literal) (shape it.a.e ∷ shape it.b.e ∷ []) (shape is.result) it.fits refl it.some).0 in
    let int = (given_fits t.whole.tables.classes t.assigned.same (is_int (shape it.b.e)) Nothing (shape is.result) (subst (λ (x : Shape). Above t (indexed literal x (shape it.b.e) Nothing) (shape is.result)) list.of.shape_is fit) it.fits.free).0 in
    by_list_law t typed n graph o is w from to room 2 (there_asks (world t).around (operand_of l it.v) o.covered ++ Make (small.Listed (listed.Place list.of.n o.covered.index)) ∷ []) (row.Index literal) (it.v ∷ it.u ∷ []) is_row it.args_are
    (made_both (there_asks (world t).around (operand_of l it.v) o.covered) (Make (small.Listed (listed.Place list.of.n o.covered.index)) ∷ []) (there_made (world t).around (operand_of l it.v) o.covered) (tt, tt))
    (no_dict (operand_of l it.v) list.kind) (index_class literal (world t) (place_of l o.result) (operand_of l it.v) (operand_of l it.u) (before o w)) either_raises (of_two_listed t typed n graph it.v o.covered (op t.seen.program o.covered (row.Index literal)) list.kind it.u (index_is_quiet o.covered))
    (items_are_read t.seen (world t).around (place_of l o.result) (operand_of l it.v) (operand_of l it.u) (before o w) literal list.of.n list.has.item list.list (word_is t n it.u it.b int)
    (told.1 it.v list.has.item (ap (λ (args : List ℕ). slice_get args 0) it.args_are) (is_item_of t n it.v it.a list)))

-- ---- an item that is stored

store_takes : Takes 3 row.StoreIndex
store_takes t [] other = refl
store_takes t (a ∷ []) other = refl
store_takes t (a ∷ b ∷ []) other = refl
store_takes t (a ∷ b ∷ c ∷ []) other = absurd (other refl)
store_takes t (a ∷ b ∷ c ∷ d ∷ xs) other = refl

store_class : (around : Around) (place : Place) (a b c : Operand) (w : Writing) → class_lowered around row.StoreIndex place (a ∷ b ∷ c ∷ []) w ≡ lower_list_op around.around row.StoreIndex place (a ∷ b ∷ c ∷ []) w
unfolding class_lowered of_some other
store_class around place a b c w = refl

store_is_quiet : (c : Covers) (heap : Heap) (x i y : Meant) → IsListed heap x → Quiet (is_covered c) heap (meant_store c x i y)
store_is_quiet c heap x i y is = listed_quiet (is_covered c) heap (λ (x : Meant). meant_store c x i y) x is (attribute_quiet c heap)
    (λ r items at. at_listed (is_covered c) heap r items (store_object c r i y) at
    (word_quiet (is_covered c) heap (λ z. if_some (index_error c) (meant_place z (length items)) (λ k. set_object r (Listed (slice_set items k y)) y)) i
    (λ z. if_some_quiet (is_covered c) heap (index_error c) (meant_place z (length items)) (λ k. set_object r (Listed (slice_set items k y)) y) (index_quiet c heap) (λ v w e. tt))))

pub stores_are_written : StoresAreWritten
stores_are_written t typed n graph o is_row is told w from to room =
    let it = three t n o row.StoreIndex is_row is store_takes (λ w a g node xs. refl) in
    let list = lists_are_of t typed n it.v it.a (first_told t n of_list o it.v (it.u ∷ it.w ∷ []) it.a it.args_are told.0) in
    let l = lowered_in t n graph in
    let fit : Above t (store_index (shape it.a.e) (shape it.b.e) (shape it.c.e)) (shape is.result) = (row_fits t.whole t.assigned n o.node row.StoreIndex (shape it.a.e ∷ shape it.b.e ∷ shape it.c.e ∷ []) (shape is.result) it.fits refl it.some).0 in
    let int = (given_fits t.whole.tables.classes t.assigned.same (is_int (shape it.b.e)) (shape it.c.e) (shape is.result) (subst (λ (x : Shape). Above t (store_index x (shape it.b.e) (shape it.c.e)) (shape is.result)) list.of.shape_is fit) it.fits.free).0 in
    let stay = told.1 it.v it.w list.has.item (ap (λ (args : List ℕ). slice_get args 0) it.args_are) (ap (λ (args : List ℕ). slice_get args 2) it.args_are) (is_item_of t n it.v it.a list) in
    by_list_law t typed n graph o is w from to room 2 (there_asks (world t).around (operand_of l it.v) o.covered ++ Make (small.Listed (listed.Place list.of.n o.covered.index)) ∷ []) row.StoreIndex (it.v ∷ it.u ∷ it.w ∷ []) is_row it.args_are
    (made_both (there_asks (world t).around (operand_of l it.v) o.covered) (Make (small.Listed (listed.Place list.of.n o.covered.index)) ∷ []) (there_made (world t).around (operand_of l it.v) o.covered) (tt, tt))
    (no_dict (operand_of l it.v) list.kind) (store_class (world t) (place_of l o.result) (operand_of l it.v) (operand_of l it.u) (operand_of l it.w) (before o w)) (λ k. refl)
    (of_three_listed t typed n graph it.v o.covered (op t.seen.program o.covered row.StoreIndex) list.kind it.u it.w (store_is_quiet o.covered))
    (items_are_stored t.seen (world t).around (place_of l o.result) (operand_of l it.v) (operand_of l it.u) (operand_of l it.w) (before o w) list.of.n list.has.item list.list (word_is t n it.u it.b int) stay.0 stay.1)

-- ---- an item that is deleted

delete_takes : Takes 2 row.DeleteIndex
delete_takes t [] other = refl
delete_takes t (a ∷ []) other = refl
delete_takes t (a ∷ b ∷ []) other = absurd (other refl)
delete_takes t (a ∷ b ∷ c ∷ []) other = refl
delete_takes t (a ∷ b ∷ c ∷ d ∷ xs) other = refl

delete_class : (around : Around) (place : Place) (a b : Operand) (w : Writing) → class_lowered around row.DeleteIndex place (a ∷ b ∷ []) w ≡ lower_list_op around.around row.DeleteIndex place (a ∷ b ∷ []) w
unfolding class_lowered of_some of_two
delete_class around place a b w = refl

delete_is_quiet : (c : Covers) (heap : Heap) (x i : Meant) → IsListed heap x → Quiet (is_covered c) heap (meant_delete c x i)
delete_is_quiet c heap x i is = listed_quiet (is_covered c) heap (λ (x : Meant). meant_delete c x i) x is (attribute_quiet c heap)
    (λ r items at. at_listed (is_covered c) heap r items (delete_object c r i) at
    (word_quiet (is_covered c) heap (λ z. if_some (index_error c) (meant_place z (length items)) (λ k. set_object r (Listed (remove items k)) Missing)) i
    (λ z. if_some_quiet (is_covered c) heap (index_error c) (meant_place z (length items)) (λ k. set_object r (Listed (remove items k)) Missing) (index_quiet c heap) (λ v w e. tt))))

pub deletions_are_written : DeletionsAreWritten
deletions_are_written t typed n graph o is_row is told w from to room =
    let it = two t n o row.DeleteIndex is_row is delete_takes (λ w a g node xs. refl) in
    let list = lists_are_of t typed n it.v it.a (first_told t n of_list o it.v (it.u ∷ []) it.a it.args_are told.0) in
    let l = lowered_in t n graph in
    let fit : Above t (delete_index (shape it.a.e) (shape it.b.e)) (shape is.result) = (row_fits t.whole t.assigned n o.node row.DeleteIndex (shape it.a.e ∷ shape it.b.e ∷ []) (shape is.result) it.fits refl it.some).0 in
    let int = (given_fits t.whole.tables.classes t.assigned.same (is_int (shape it.b.e)) NoneOnly (shape is.result) (subst (λ (x : Shape). Above t (delete_index x (shape it.b.e)) (shape is.result)) list.of.shape_is fit) it.fits.free).0 in
    by_list_law t typed n graph o is w from to room 0 (take_asks (world t).around (operand_of l it.v) list.of.n o.covered) row.DeleteIndex (it.v ∷ it.u ∷ []) is_row it.args_are
    (made_both (there_asks (world t).around (operand_of l it.v) o.covered) (Make (small.Listed (listed.Place list.of.n o.covered.index)) ∷ Make (small.Listed (listed.Remove list.of.n)) ∷ []) (there_made (world t).around (operand_of l it.v) o.covered) (tt, (tt, tt)))
    (no_dict (operand_of l it.v) list.kind) (delete_class (world t) (place_of l o.result) (operand_of l it.v) (operand_of l it.u) (before o w)) either_raises
    (of_two_listed t typed n graph it.v o.covered (op t.seen.program o.covered row.DeleteIndex) list.kind it.u (delete_is_quiet o.covered))
    (items_are_deleted t.seen (world t).around (place_of l o.result) (operand_of l it.v) (operand_of l it.u) (before o w) list.of.n list.kind list.typed (word_is t n it.u it.b int) (nothing_is t n o.result told.1))

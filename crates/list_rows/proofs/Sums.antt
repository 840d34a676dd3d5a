-- Sums and products of lists.
use Rattle.std.proofs.Common.{◌≡◌, ℕ, Bool, false, List, [], ◌∷◌, ◌++◌, length, None, refl, ap, ◌∙◌, subst}
use Rattle.std.specs.Prelude.{slice_get, Option}
use Rattle.ann_lattice.specs.Kind.{is_int}
use Rattle.ann_lattice.specs.Row as rows
use Rattle.ann_lattice.specs.Shape.{Lst, Shape, shape}
use Rattle.rpy_tree.specs.declared.syntax.BinOp.TheVariants as bin
use Rattle.rpy_tree.specs.Value.{Value as Meant, Word, Ref, Heap, Listed, Nothing as Missing}
use Rattle.rpy_meaning.specs.declared.row.Covers.{Covers}
use Rattle.rpy_meaning.specs.declared.row.RowOp.TheVariants as row
use Rattle.rpy_meaning.specs.Operations.{op}
use Rattle.rtyper_class.specs.Lowering.{lowered as class_lowered, of_some, of_two, other}
use Rattle.rtyper_class.specs.Seen.{World as Around}
use Rattle.rtyper_data.specs.Seen.{Operand, Place, Writing}
use Rattle.rtyper_data.specs.declared.small.Listed.TheVariants as listed
use Rattle.rtyper_data.specs.declared.small.Small.TheVariants as small
use Rattle.rtyper_layout.specs.Kinds.{kind_of, kind_seen}
use Rattle.rtyper_list.specs.Lowering.{lower_list_op}
use Rattle.rtyper_list.specs.Operands.{of_list}
use Rattle.rtyper_program.specs.Raises.{is_covered}
use Rattle.rtyper_program.specs.Seen.{operand_of, place_of}
use Rattle.lower_laws.specs.Asked.{Make}
use Rattle.list_laws.specs.Lists.{there_asks}
use Rattle.object_laws.specs.Staying.{AsList}
use Rattle.rtyped_runs.specs.Laws.{before}
use Rattle.typed_rows.specs.Programs.{world}
use Rattle.typed_rows.specs.Rows.{lowered_in}
use Rattle.list_rows.proofs.Fitting.{given_fits, row_fits}
use Rattle.list_rows.proofs.Lists.{first_told, second_told, is_item_of, lists_are_of, result_item, result_of_lists, same_list, word_is}
use Rattle.list_rows.proofs.Operands.{Above, Takes, two}
use Rattle.list_rows.proofs.Values.{of_two_listed}
use Rattle.list_rows.proofs.Throwing.{IsListed, Quiet, attribute_quiet, listed_quiet, paying_quiet, with_list_quiet}
use Rattle.list_rows.proofs.Writing.{by_list_law, by_copy_law, made_both, there_made}
use Rattle.std.specs.List.{repeat}
use Rattle.std.specs.Prelude.{◌*◌}
use Rattle.rpy_meaning.specs.Costs.{list_cost}
use Rattle.rpy_meaning.specs.Sequences.{add_to, count, plus, times}
use Rattle.rpy_meaning.specs.World.{new_list, new_object, paying, with_list}
use Rattle.list_copy_laws.specs.Done.{references_paid}
use Rattle.list_copy_laws.specs.Extended.{both_asks, extend_asks}
use Rattle.list_copy_laws.proofs.Extends.{lists_are_added_to}
use Rattle.list_copy_laws.proofs.Joins.{lists_are_joined}
use Rattle.list_copy_laws.proofs.Repeats.{lists_are_repeated}
use Rattle.list_rows.specs.Rows.{AdditionsAreWritten, ProductsAreWritten, SumsAreWritten}
use Rattle.list_rows.specs.Told.{of_list_there}
use Rattle.list_rows.proofs.Methods.{extend_quiet}
use Rattle.list_rows.proofs.Lists.{is_there, there_list}
use Rattle.list_rows.proofs.Writing.{extend_made}

-- ---- the same by `+=`

addition_takes : Takes 2 row.AddTo
addition_takes t [] other = refl
addition_takes t (a ∷ []) other = refl
addition_takes t (a ∷ b ∷ []) other = absurd (other refl)
addition_takes t (a ∷ b ∷ c ∷ []) other = refl
addition_takes t (a ∷ b ∷ c ∷ d ∷ xs) other = refl

addition_class : (around : Around) (place : Place) (a b : Operand) (w : Writing) → class_lowered around row.AddTo place (a ∷ b ∷ []) w ≡ lower_list_op around.around row.AddTo place (a ∷ b ∷ []) w
unfolding class_lowered of_some of_two
addition_class around place a b w = refl

addition_of : (c : Covers) (heap : Heap) (r : ℕ) (y : Meant) → Quiet (is_covered c) heap (add_to c (Ref r) y)
addition_of c heap r (Ref s) = extend_quiet (is_covered c) heap r s (Ref r)
addition_of c heap r Missing = attribute_quiet c heap
addition_of c heap r other = λ w e. tt

addition_is_quiet : (c : Covers) (heap : Heap) (x y : Meant) → IsListed heap x → Quiet (is_covered c) heap (add_to c x y)
addition_is_quiet c heap x y is = listed_quiet (is_covered c) heap (λ (x : Meant). add_to c x y) x is (attribute_quiet c heap) (λ r items at. addition_of c heap r y)

pub additions_are_written : AdditionsAreWritten
additions_are_written t typed n graph o is_row is told w from to room =
    let it = two t n o row.AddTo is_row is addition_takes (λ w a g node xs. refl) in
    let there = first_told t n of_list_there o it.v (it.u ∷ []) it.a it.args_are told.0.0 in
    let list = lists_are_of t typed n it.v it.a (there_list (kind_of it.a.e) there) in
    let more = lists_are_of t typed n it.u it.b (second_told t n of_list o it.v it.u [] it.b it.args_are told.0.1) in
    let l = lowered_in t n graph in
    let fit : Above t (rows.binary bin.Add None (shape it.a.e) (shape it.b.e)) (shape is.result) = (row_fits t.whole t.assigned n o.node row.AddTo (shape it.a.e ∷ shape it.b.e ∷ []) (shape is.result) it.fits refl it.some).0 in
    let above : Above t (Lst list.of.site false) (shape is.result) = subst (λ (y : Shape). Above t (rows.binary bin.Add None (Lst list.of.site list.of.r) y) (shape is.result)) more.of.shape_is (subst (λ (x : Shape). Above t (rows.binary bin.Add None x (shape it.b.e)) (shape is.result)) list.of.shape_is fit) in
    let same = same_list t typed n o is it.v it.a.e list list.of.site false refl above it.fits.free in
    by_list_law t typed n graph o is w from to room 2 (extend_asks (world t).around (operand_of l it.v) (operand_of l it.u) list.of.n more.of.n o.covered) row.AddTo (it.v ∷ it.u ∷ []) is_row it.args_are
    (extend_made (world t).around (operand_of l it.v) (operand_of l it.u) list.of.n more.of.n o.covered)
    refl (addition_class (world t) (place_of l o.result) (operand_of l it.v) (operand_of l it.u) (before o w)) (λ k. refl)
    (of_two_listed t typed n graph it.v o.covered (op t.seen.program o.covered row.AddTo) list.kind it.u (addition_is_quiet o.covered))
    (lists_are_added_to t.seen (world t).around (place_of l o.result) (operand_of l it.v) (operand_of l it.u) (before o w) list.of.n more.of.n list.has.item more.has.item list.list more.list
    (told.1 it.v it.u list.has.item more.has.item (ap (λ (args : List ℕ). slice_get args 0) it.args_are) (ap (λ (args : List ℕ). slice_get args 1) it.args_are) (is_item_of t n it.v it.a list) (is_item_of t n it.u it.b more))
    (AsList list.of.n list.typed same.struct (ap kind_seen it.a.seen ∙ is_there (kind_of it.a.e) there) same.kind))

-- ---- sums

sum_takes : (site : Option ℕ) → Takes 2 (row.Binary bin.Add site)
sum_takes site t [] other = refl
sum_takes site t (a ∷ []) other = refl
sum_takes site t (a ∷ b ∷ []) other = absurd (other refl)
sum_takes site t (a ∷ b ∷ c ∷ []) other = refl
sum_takes site t (a ∷ b ∷ c ∷ d ∷ xs) other = refl

sum_class : (site : Option ℕ) (around : Around) (place : Place) (a b : Operand) (w : Writing) → class_lowered around (row.Binary bin.Add site) place (a ∷ b ∷ []) w ≡ lower_list_op around.around (row.Binary bin.Add site) place (a ∷ b ∷ []) w
unfolding class_lowered of_some of_two
sum_class site around place a b w = refl

new_quiet : (raises : Bool) (heap : Heap) (vs : List Meant) → Quiet raises heap (new_list vs)
new_quiet raises heap vs = paying_quiet raises heap (list_cost (length vs)) (new_object (Listed vs)) (λ w e. tt)

sum_of : (c : Covers) (heap : Heap) (r : ℕ) (y : Meant) → Quiet (is_covered c) heap (plus c (Ref r) y)
sum_of c heap r (Ref s) = with_list_quiet (is_covered c) heap r (λ vs. with_list s (λ us. new_list (vs ++ us))) (λ vs. with_list_quiet (is_covered c) heap s (λ us. new_list (vs ++ us)) (λ us. new_quiet (is_covered c) heap (vs ++ us)))
sum_of c heap r Missing = attribute_quiet c heap
sum_of c heap r other = λ w e. tt

sum_is_quiet : (c : Covers) (heap : Heap) (x y : Meant) → IsListed heap x → Quiet (is_covered c) heap (plus c x y)
sum_is_quiet c heap x y is = listed_quiet (is_covered c) heap (λ (x : Meant). plus c x y) x is (attribute_quiet c heap) (λ r items at. sum_of c heap r y)

pub sums_are_written : SumsAreWritten
sums_are_written site t typed n graph o is_row is told w from to room =
    let it = two t n o (row.Binary bin.Add site) is_row is (sum_takes site) (λ w a g node xs. refl) in
    let list = lists_are_of t typed n it.v it.a (first_told t n of_list o it.v (it.u ∷ []) it.a it.args_are told.0.0) in
    let more = lists_are_of t typed n it.u it.b (second_told t n of_list o it.v it.u [] it.b it.args_are told.0.1) in
    let l = lowered_in t n graph in
    let fit : Above t (rows.binary bin.Add site (shape it.a.e) (shape it.b.e)) (shape is.result) = (row_fits t.whole t.assigned n o.node (row.Binary bin.Add site) (shape it.a.e ∷ shape it.b.e ∷ []) (shape is.result) it.fits refl it.some).0 in
    let above : Above t (Lst (rows.own_site site list.of.site) false) (shape is.result) = subst (λ (y : Shape). Above t (rows.binary bin.Add site (Lst list.of.site list.of.r) y) (shape is.result)) more.of.shape_is (subst (λ (x : Shape). Above t (rows.binary bin.Add site x (shape it.b.e)) (shape is.result)) list.of.shape_is fit) in
    let made = result_of_lists t typed n o is (rows.own_site site list.of.site) false above it.fits.free in
    by_list_law t typed n graph o is w from to room 2 (both_asks (world t).around (operand_of l it.v) (operand_of l it.u) o.covered ++ Make (small.Listed (listed.Concat list.of.n more.of.n made.of.n)) ∷ []) (row.Binary bin.Add site) (it.v ∷ it.u ∷ []) is_row it.args_are
    (made_both (both_asks (world t).around (operand_of l it.v) (operand_of l it.u) o.covered) (Make (small.Listed (listed.Concat list.of.n more.of.n made.of.n)) ∷ [])
    (made_both (there_asks (world t).around (operand_of l it.v) o.covered) (there_asks (world t).around (operand_of l it.u) o.covered) (there_made (world t).around (operand_of l it.v) o.covered) (there_made (world t).around (operand_of l it.u) o.covered)) (tt, tt))
    refl (sum_class site (world t) (place_of l o.result) (operand_of l it.v) (operand_of l it.u) (before o w)) (λ k. refl)
    (of_two_listed t typed n graph it.v o.covered (op t.seen.program o.covered (row.Binary bin.Add site)) list.kind it.u (sum_is_quiet o.covered))
    (lists_are_joined site t.seen (world t).around (place_of l o.result) (operand_of l it.v) (operand_of l it.u) (before o w) list.of.n more.of.n made.of.n list.has.item more.has.item made.has.item list.list more.list
    (record { list = made.list; struct = made.has.is })
    (told.1.0 it.v list.has.item made.has.item (ap (λ (args : List ℕ). slice_get args 0) it.args_are) (is_item_of t n it.v it.a list) (result_item t typed n o is made))
    (told.1.1 it.u more.has.item made.has.item (ap (λ (args : List ℕ). slice_get args 1) it.args_are) (is_item_of t n it.u it.b more) (result_item t typed n o is made)))

-- ---- products

product_takes : (site : Option ℕ) → Takes 2 (row.Binary bin.Mul site)
product_takes site t [] other = refl
product_takes site t (a ∷ []) other = refl
product_takes site t (a ∷ b ∷ []) other = absurd (other refl)
product_takes site t (a ∷ b ∷ c ∷ []) other = refl
product_takes site t (a ∷ b ∷ c ∷ d ∷ xs) other = refl

product_class : (site : Option ℕ) (around : Around) (place : Place) (a b : Operand) (w : Writing) → class_lowered around (row.Binary bin.Mul site) place (a ∷ b ∷ []) w ≡ lower_list_op around.around (row.Binary bin.Mul site) place (a ∷ b ∷ []) w
unfolding class_lowered of_some of_two
product_class site around place a b w = refl

product_of : (c : Covers) (heap : Heap) (r : ℕ) (y : Meant) → Quiet (is_covered c) heap (times c (Ref r) y)
product_of c heap r (Word n) = with_list_quiet (is_covered c) heap r (λ vs. paying (list_cost (length vs * count n)) (new_object (Listed (repeat (count n) vs)))) (λ vs. paying_quiet (is_covered c) heap (list_cost (length vs * count n)) (new_object (Listed (repeat (count n) vs))) (λ w e. tt))
product_of c heap r other = λ w e. tt

product_is_quiet : (c : Covers) (heap : Heap) (x y : Meant) → IsListed heap x → Quiet (is_covered c) heap (times c x y)
product_is_quiet c heap x y is = listed_quiet (is_covered c) heap (λ (x : Meant). times c x y) x is (attribute_quiet c heap) (λ r items at. product_of c heap r y)

pub products_are_written : ProductsAreWritten
products_are_written site t typed n graph o is_row is told w from to room =
    let it = two t n o (row.Binary bin.Mul site) is_row is (product_takes site) (λ w a g node xs. refl) in
    let list = lists_are_of t typed n it.v it.a (first_told t n of_list o it.v (it.u ∷ []) it.a it.args_are told.0) in
    let l = lowered_in t n graph in
    let fit : Above t (rows.binary bin.Mul site (shape it.a.e) (shape it.b.e)) (shape is.result) = (row_fits t.whole t.assigned n o.node (row.Binary bin.Mul site) (shape it.a.e ∷ shape it.b.e ∷ []) (shape is.result) it.fits refl it.some).0 in
    let both = given_fits t.whole.tables.classes t.assigned.same (is_int (shape it.b.e)) (Lst (rows.own_site site list.of.site) false) (shape is.result) (subst (λ (x : Shape). Above t (rows.binary bin.Mul site x (shape it.b.e)) (shape is.result)) list.of.shape_is fit) it.fits.free in
    let made = result_of_lists t typed n o is (rows.own_site site list.of.site) false both.1 it.fits.free in
    by_copy_law t typed n graph o is w from to room references_paid (there_asks (world t).around (operand_of l it.v) o.covered ++ Make (small.Listed (listed.Repeat list.of.n made.of.n)) ∷ []) (row.Binary bin.Mul site) (it.v ∷ it.u ∷ []) is_row it.args_are
    (made_both (there_asks (world t).around (operand_of l it.v) o.covered) (Make (small.Listed (listed.Repeat list.of.n made.of.n)) ∷ []) (there_made (world t).around (operand_of l it.v) o.covered) (tt, tt))
    refl (product_class site (world t) (place_of l o.result) (operand_of l it.v) (operand_of l it.u) (before o w)) (λ k. refl)
    (of_two_listed t typed n graph it.v o.covered (op t.seen.program o.covered (row.Binary bin.Mul site)) list.kind it.u (product_is_quiet o.covered))
    (lists_are_repeated site t.seen (world t).around (place_of l o.result) (operand_of l it.v) (operand_of l it.u) (before o w) list.of.n made.of.n list.has.item made.has.item list.list (word_is t n it.u it.b both.0)
    (record { list = made.list; struct = made.has.is })
    (told.1 it.v list.has.item made.has.item (ap (λ (args : List ℕ). slice_get args 0) it.args_are) (is_item_of t n it.v it.a list) (result_item t typed n o is made)))

-- Walks over lists, and what comprehensions begin with.
use Rattle.std.proofs.Common.{◌≡◌, ℕ, false, List, [], ◌∷◌, length, None, refl, ap, ◌∙◌, subst, pos, negsuc}
use Rattle.std.specs.Prelude.{slice_get}
use Rattle.ann_lattice.specs.Kind.{is_int}
use Rattle.ann_lattice.specs.Row as rows
use Rattle.ann_lattice.specs.Shape.{Lst, Shape, Truth, shape}
use Rattle.rpy_tree.specs.Value.{Value as Meant, Word, Ref, Heap, Listed}
use Rattle.rpy_meaning.specs.declared.row.Covers.{Covers}
use Rattle.rpy_meaning.specs.declared.row.RowOp.TheVariants as row
use Rattle.rpy_meaning.specs.Operations.{op}
use Rattle.rpy_meaning.specs.Tree.{Program}
use Rattle.rpy_meaning.specs.World.{World}
use Rattle.rtyper_class.specs.Lowering.{lowered as class_lowered, of_some, of_one, of_two, other}
use Rattle.rtyper_class.specs.Seen.{World as Around}
use Rattle.rtyper_data.specs.Seen.{Operand, Place, Writing}
use Rattle.rtyper_data.specs.declared.small.Listed.TheVariants as listed
use Rattle.rtyper_data.specs.declared.small.Small.TheVariants as small
use Rattle.rtyper_layout.specs.Kinds.{kind_seen}
use Rattle.rtyper_list.specs.Lowering.{lower_list_op}
use Rattle.rtyper_list.specs.Operands.{of_list}
use Rattle.rtyper_program.specs.Raises.{is_covered}
use Rattle.rtyper_program.specs.Seen.{operand_of, place_of}
use Rattle.lower_laws.specs.Asked.{Make}
use Rattle.list_laws.specs.Lists.{there_asks}
use Rattle.rtyped_runs.specs.Laws.{before}
use Rattle.typed_rows.specs.Programs.{world}
use Rattle.typed_rows.specs.Rows.{lowered_in}
use Rattle.list_rows.proofs.Fitting.{above_truths, given_fits, row_fits}
use Rattle.list_rows.proofs.Lists.{first_told, second_told, is_item_of, lists_are_of, result_of_lists, same_list, word_is}
use Rattle.list_rows.proofs.Lowering.{only_list}
use Rattle.list_rows.proofs.Operands.{Above, Takes, none, one, two}
use Rattle.list_rows.proofs.Shapes.{kind_at}
use Rattle.list_rows.proofs.Values.{of_one_listed, of_two_listed}
use Rattle.list_rows.proofs.Throwing.{IsListed, Only, Quiet, at_listed, attribute_quiet, if_some_quiet, listed_quiet, paying_quiet, with_list_quiet}
use Rattle.list_rows.proofs.Writing.{by_list_law, there_made}
use Rattle.std.specs.Prelude.{nat_lt}
use Rattle.rpy_meaning.specs.Costs.{comprehension_cost}
use Rattle.rpy_meaning.specs.Walks.{has_item as meant_has_item, item as meant_item, walk as meant_walk, walk_object}
use Rattle.rpy_meaning.specs.World.{bad, flag, give, if_some, new_object}
use Rattle.list_laws.proofs.Displayed.{comprehensions_begin}
use Rattle.list_laws.proofs.Walked.{walks_give, walks_go_on}
use Rattle.list_laws.proofs.Walking.{walks_begin}
use Rattle.list_rows.specs.Rows.{ComprehensionsAreWritten, ItemsAreWritten, TurnsAreWritten, WalksAreWritten}
use Rattle.list_rows.specs.Told.{of_word}
use Rattle.list_rows.proofs.Lists.{told_word}

walk_takes : (site : ℕ) → Takes 1 (row.Walk site)
walk_takes site t [] other = refl
walk_takes site t (a ∷ []) other = absurd (other refl)
walk_takes site t (a ∷ b ∷ []) other = refl
walk_takes site t (a ∷ b ∷ c ∷ []) other = refl
walk_takes site t (a ∷ b ∷ c ∷ d ∷ xs) other = refl

walk_class : (site : ℕ) (around : Around) (place : Place) (a : Operand) (w : Writing) → class_lowered around (row.Walk site) place (a ∷ []) w ≡ lower_list_op around.around (row.Walk site) place (a ∷ []) w
unfolding class_lowered of_some of_one
walk_class site around place a w = refl

walk_is_quiet : (c : Covers) (heap : Heap) (x : Meant) → IsListed heap x → Quiet (is_covered c) heap (meant_walk c x)
walk_is_quiet c heap x is = listed_quiet (is_covered c) heap (meant_walk c) x is (attribute_quiet c heap) (λ r items at. at_listed (is_covered c) heap r items (walk_object r) at (λ w e. tt))

pub walks_are_written : WalksAreWritten
walks_are_written site t typed n graph o is_row is told w from to room =
    let it = one t n o (row.Walk site) is_row is (walk_takes site) (λ w a g node xs. refl) in
    let list = lists_are_of t typed n it.v it.a (first_told t n of_list o it.v [] it.a it.args_are told) in
    let l = lowered_in t n graph in
    let fit : Above t (rows.walk site (shape it.a.e)) (shape is.result) = (row_fits t.whole t.assigned n o.node (row.Walk site) (shape it.a.e ∷ []) (shape is.result) it.fits refl it.some).0 in
    let same = same_list t typed n o is it.v it.a.e list list.of.site list.of.r refl (subst (λ (x : Shape). Above t (rows.walk site x) (shape is.result)) list.of.shape_is fit) it.fits.free in
    by_list_law t typed n graph o is w from to room 2 (there_asks (world t).around (operand_of l it.v) o.covered) (row.Walk site) (it.v ∷ []) is_row it.args_are (there_made (world t).around (operand_of l it.v) o.covered)
    (only_list (operand_of l it.v) list.kind) (walk_class site (world t) (place_of l o.result) (operand_of l it.v) (before o w)) (λ k. refl)
    (of_one_listed t typed n graph it.v o.covered (op t.seen.program o.covered (row.Walk site)) list.kind (walk_is_quiet o.covered))
    (walks_begin t.seen (world t).around (place_of l o.result) (operand_of l it.v) (before o w) site list.of.n list.kind same.kind list.typed same.struct)

-- ---- whether a walk goes on

turn_takes : Takes 2 (row.HasItem None)
turn_takes t [] other = refl
turn_takes t (a ∷ []) other = refl
turn_takes t (a ∷ b ∷ []) other = absurd (other refl)
turn_takes t (a ∷ b ∷ c ∷ []) other = refl
turn_takes t (a ∷ b ∷ c ∷ d ∷ xs) other = refl

turn_class : (around : Around) (place : Place) (a b : Operand) (w : Writing) → class_lowered around (row.HasItem None) place (a ∷ b ∷ []) w ≡ lower_list_op around.around (row.HasItem None) place (a ∷ b ∷ []) w
unfolding class_lowered of_some of_two
turn_class around place a b w = refl

turn_of : (c : Covers) (heap : Heap) (r : ℕ) (i : Meant) → Quiet (is_covered c) heap (meant_has_item None (Ref r) i)
turn_of c heap r (Word (pos i)) = with_list_quiet (is_covered c) heap r (λ vs. flag (nat_lt i (length vs))) (λ vs w e. tt)
turn_of c heap r (Word (negsuc i)) = λ w e. tt
turn_of c heap r other = λ w e. tt

turn_is_quiet : (c : Covers) (heap : Heap) (x i : Meant) → IsListed heap x → Quiet (is_covered c) heap (meant_has_item None x i)
turn_is_quiet c heap x i is = listed_quiet (is_covered c) heap (λ (x : Meant). meant_has_item None x i) x is (λ w e. tt) (λ r items at. turn_of c heap r i)

pub turns_are_written : TurnsAreWritten
turns_are_written t typed n graph o is_row is told w from to room =
    let it = two t n o (row.HasItem None) is_row is turn_takes (λ w a g node xs. refl) in
    let list = lists_are_of t typed n it.v it.a (first_told t n of_list o it.v (it.u ∷ []) it.a it.args_are told) in
    let l = lowered_in t n graph in
    let fit : Above t (rows.has_item None (shape it.a.e) (shape it.b.e)) (shape is.result) = (row_fits t.whole t.assigned n o.node (row.HasItem None) (shape it.a.e ∷ shape it.b.e ∷ []) (shape is.result) it.fits refl it.some).0 in
    let both = given_fits t.whole.tables.classes t.assigned.same (is_int (shape it.b.e)) (Truth None) (shape is.result) (subst (λ (x : Shape). Above t (rows.has_item None x (shape it.b.e)) (shape is.result)) list.of.shape_is fit) it.fits.free in
    let flag = above_truths t.whole.tables.classes t.assigned.same (shape is.result) both.1 it.fits.free in
    by_list_law t typed n graph o is w from to room 2 [] (row.HasItem None) (it.v ∷ it.u ∷ []) is_row it.args_are tt
    refl (turn_class (world t) (place_of l o.result) (operand_of l it.v) (operand_of l it.u) (before o w)) (λ k. refl)
    (of_two_listed t typed n graph it.v o.covered (op t.seen.program o.covered (row.HasItem None)) list.kind it.u (turn_is_quiet o.covered))
    (walks_go_on t.seen (world t).around (place_of l o.result) (operand_of l it.v) (operand_of l it.u) (before o w) o.covered list.kind (word_is t n it.u it.b both.0) (ap kind_seen is.result_is ∙ kind_at is.result (Truth flag.0) flag.1))

-- ---- the item that a walk has come to

item_takes : Takes 2 (row.Item None)
item_takes t [] other = refl
item_takes t (a ∷ []) other = refl
item_takes t (a ∷ b ∷ []) other = absurd (other refl)
item_takes t (a ∷ b ∷ c ∷ []) other = refl
item_takes t (a ∷ b ∷ c ∷ d ∷ xs) other = refl

item_class : (around : Around) (place : Place) (a b : Operand) (w : Writing) → class_lowered around (row.Item None) place (a ∷ b ∷ []) w ≡ lower_list_op around.around (row.Item None) place (a ∷ b ∷ []) w
unfolding class_lowered of_some of_two
item_class around place a b w = refl

item_of : (c : Covers) (heap : Heap) (r : ℕ) (i : Meant) → Quiet (is_covered c) heap (meant_item None (Ref r) i)
item_of c heap r (Word (pos i)) = with_list_quiet (is_covered c) heap r (λ vs. if_some bad (slice_get vs i) give) (λ vs. if_some_quiet (is_covered c) heap bad (slice_get vs i) give (λ w e. tt) (λ v w e. tt))
item_of c heap r (Word (negsuc i)) = λ w e. tt
item_of c heap r other = λ w e. tt

item_is_quiet : (c : Covers) (heap : Heap) (x i : Meant) → IsListed heap x → Quiet (is_covered c) heap (meant_item None x i)
item_is_quiet c heap x i is = listed_quiet (is_covered c) heap (λ (x : Meant). meant_item None x i) x is (λ w e. tt) (λ r items at. item_of c heap r i)

pub items_are_written : ItemsAreWritten
items_are_written t typed n graph o is_row is told w from to room =
    let it = two t n o (row.Item None) is_row is item_takes (λ w a g node xs. refl) in
    let list = lists_are_of t typed n it.v it.a (first_told t n of_list o it.v (it.u ∷ []) it.a it.args_are told.0) in
    let l = lowered_in t n graph in
    by_list_law t typed n graph o is w from to room 2 [] (row.Item None) (it.v ∷ it.u ∷ []) is_row it.args_are tt
    refl (item_class (world t) (place_of l o.result) (operand_of l it.v) (operand_of l it.u) (before o w)) (λ k. refl)
    (of_two_listed t typed n graph it.v o.covered (op t.seen.program o.covered (row.Item None)) list.kind it.u (item_is_quiet o.covered))
    (walks_give t.seen (world t).around (place_of l o.result) (operand_of l it.v) (operand_of l it.u) (before o w) o.covered list.of.n list.has.item list.list (told_word t n it.u it.b (second_told t n of_word o it.v it.u [] it.b it.args_are told.1.0))
    (told.1.1 it.v list.has.item (ap (λ (args : List ℕ). slice_get args 0) it.args_are) (is_item_of t n it.v it.a list)))

-- ---- what a comprehension begins with

begin_takes : (site : ℕ) → Takes 0 (row.Comprehension site)
begin_takes site t [] other = absurd (other refl)
begin_takes site t (a ∷ []) other = refl
begin_takes site t (a ∷ b ∷ []) other = refl
begin_takes site t (a ∷ b ∷ c ∷ []) other = refl
begin_takes site t (a ∷ b ∷ c ∷ d ∷ xs) other = refl

begin_class : (site : ℕ) (around : Around) (place : Place) (w : Writing) → class_lowered around (row.Comprehension site) place [] w ≡ lower_list_op around.around (row.Comprehension site) place [] w
unfolding class_lowered of_some other
begin_class site around place w = refl

begin_is_quiet : (program : Program) (site : ℕ) (c : Covers) (vs : List Meant) (w : World) → Only (is_covered c) (op program c (row.Comprehension site) vs w)
begin_is_quiet program site c [] w = paying_quiet (is_covered c) w.heap comprehension_cost (new_object (Listed [])) (λ w e. tt) w refl
begin_is_quiet program site c (v ∷ vs) w = tt

pub comprehensions_are_written : ComprehensionsAreWritten
comprehensions_are_written site t typed n graph o is_row is w from to room =
    let it = none t n o (row.Comprehension site) is_row is (begin_takes site) (λ w a g node xs. refl) in
    let l = lowered_in t n graph in
    let fit : Above t (Lst site false) (shape is.result) = (row_fits t.whole t.assigned n o.node (row.Comprehension site) [] (shape is.result) it.fits refl it.some).0 in
    let list = result_of_lists t typed n o is site false fit it.fits.free in
    by_list_law t typed n graph o is w from to room 2 (Make (small.Listed (listed.Make list.of.n)) ∷ []) (row.Comprehension site) [] is_row it.args_are (tt, tt)
    refl (begin_class site (world t) (place_of l o.result) (before o w)) (λ k. refl)
    (λ g core meant xs memory given. begin_is_quiet t.seen.program site o.covered xs meant)
    (comprehensions_begin site t.seen (world t).around (place_of l o.result) (before o w) o.covered list.of.n list.kind list.typed list.has.is)

-- Methods of lists.
use Rattle.std.proofs.Common.{◌≡◌, ◌⊎◌, inl, inr, ℕ, Bool, List, [], ◌∷◌, ◌++◌, length, Some, None, refl, ap, ◌∙◌, subst, negsuc}
use Rattle.std.specs.Prelude.{slice_get, remove, Option, ℤ, codes}
use Rattle.ann_element.specs.declared.element.Element.{Element}
use Rattle.ann_lattice.specs.Kind.{given, is_int}
use Rattle.ann_lattice.specs.Shape.{Lst, NoneOnly, Nothing, Shape, shape}
use Rattle.rpy_tree.specs.Value.{Value as Meant, Word, Ref, Heap, Listed, Nothing as Missing}
use Rattle.rpy_meaning.specs.declared.row.Covers.{Covers}
use Rattle.rpy_meaning.specs.declared.row.RowOp.{RowOp}
use Rattle.rpy_meaning.specs.declared.row.RowOp.TheVariants as row
use Rattle.rpy_meaning.specs.Operations.{op}
use Rattle.rpy_meaning.specs.Tree.{Program}
use Rattle.rtyper_class.specs.Lowering.{lowered as class_lowered, other, method_of, method_on, instance_in, instance_of}
use Rattle.rtyper_class.specs.Seen.{World as Around}
use Rattle.rtyper_data.specs.Seen.{Operand, Place, Writing}
use Rattle.rtyper_data.specs.declared.small.Listed.TheVariants as listed
use Rattle.rtyper_data.specs.declared.small.Small.TheVariants as small
use Rattle.rtyper_list.specs.Lowering.{lower_list_op}
use Rattle.rtyper_list.specs.Operands.{of_list}
use Rattle.rtyper_program.specs.Raises.{is_covered}
use Rattle.rtyper_program.specs.Seen.{element_at, operand_of, place_of}
use Rattle.lower_laws.specs.Asked.{Make}
use Rattle.list_laws.specs.Lists.{there_asks}
use Rattle.list_laws.specs.Taken.{take_asks}
use Rattle.rtyped_runs.specs.Laws.{before}
use Rattle.rtyped_runs.specs.Parts.{OpIsWritten}
use Rattle.typed_rows.specs.Programs.{Typed, setting, world}
use Rattle.typed_rows.specs.Rows.{lowered_in}
use Rattle.list_rows.proofs.Fitting.{given_fits, row_fits}
use Rattle.list_rows.proofs.Lists.{IsOfLists, first_told, second_told, is_item_of, lists_are_of, nothing_is, word_is}
use Rattle.list_rows.proofs.Lowering.{only_list}
use Rattle.list_rows.proofs.Operands.{One, Two, none, one, one_where, two_where}
use Rattle.list_rows.proofs.Receivers.{ListTakes, receivers}
use Rattle.list_rows.proofs.Values.{of_one_listed, of_two_listed}
use Rattle.list_rows.proofs.Throwing.{IsListed, Quiet, at_listed, attribute_quiet, if_some_quiet, index_quiet, listed_quiet, paying_quiet, with_list_quiet}
use Rattle.list_rows.proofs.Writing.{by_list_law, made_both, there_made}
use Rattle.ann_lattice.specs.Assign.{Under}
use Rattle.ann_lattice.specs.Kind.{misfit}
use Rattle.ann_lattice.specs.Methods.{extended}
use Rattle.ann_lattice.specs.Row.{fitting}
use Rattle.class_desc.specs.Tables.{Tables}
use Rattle.rpy_meaning.specs.Costs.{extend_cost}
use Rattle.rpy_meaning.specs.Methods.{taken_out}
use Rattle.rpy_meaning.specs.Operations.{object_method}
use Rattle.rpy_meaning.specs.Sequences.{extend, item_at, place as meant_place}
use Rattle.rpy_meaning.specs.World.{bad, if_some, index_error, paying, set_object, with_list}
use Rattle.list_copy_laws.specs.Extended.{extend_asks}
use Rattle.list_copy_laws.proofs.Extends.{lists_are_extended}
use Rattle.list_laws.proofs.Popping.{items_are_popped, last_items_are_popped}
use Rattle.list_laws.proofs.Reversing.{lists_are_reversed}
use Rattle.list_rows.specs.Rows.{ExtensionsAreWritten, PopsAreWritten, ReversalsAreWritten}
use Rattle.list_rows.proofs.Receivers.{one_or_two}
use Rattle.list_rows.proofs.Writing.{extend_made}

-- a list is no instance
pub no_instance : (t : Typed) (n v : ℕ) (e : Element) (list : IsOfLists t n v e) → element_at t.known.annotation n v ≡ Some e → instance_in (element_at t.known.annotation n v) ≡ None
no_instance t n v e list seen = ap instance_in (seen ∙ ap (λ e. Some e) list.of.is)

pub method_class : (name : List ℕ) (site : Option ℕ) (around : Around) (place : Place) (a : Operand) (args : List Operand) (w : Writing) → instance_of a ≡ None
    → class_lowered around (row.Method name site) place (a ∷ args) w ≡ lower_list_op around.around (row.Method name site) place (a ∷ args) w
unfolding class_lowered method_of
method_class name site around place a args w no_class = ap (λ (i : Option (ℕ × Bool)). method_on around (row.Method name site) place name (a ∷ args) i w) no_class

-- ---- a list is turned around

reverse_takes : (site : Option ℕ) → ListTakes 0 (row.Method (codes "reverse") site)
reverse_takes site t s q [] other = absurd (other refl)
reverse_takes site t s q (x ∷ xs) other = refl

reverse_is_quiet : (program : Program) (site : Option ℕ) (c : Covers) (heap : Heap) (x : Meant) → IsListed heap x → Quiet (is_covered c) heap (op program c (row.Method (codes "reverse") site) (x ∷ []))
reverse_is_quiet program site c heap x is = listed_quiet (is_covered c) heap (λ (x : Meant). op program c (row.Method (codes "reverse") site) (x ∷ [])) x is (attribute_quiet c heap)
    (λ r items at. at_listed (is_covered c) heap r items (object_method program c (codes "reverse") r []) at (λ w e. tt))

pub reversals_are_written : ReversalsAreWritten
reversals_are_written site t typed n graph o is_row is told w from to room =
    let it = one_where t n o (row.Method (codes "reverse") site) is_row is (receivers t n (row.Method (codes "reverse") site) o is told.0 0 (reverse_takes site)) (λ w a g node xs. refl) in
    let list = lists_are_of t typed n it.v it.a (first_told t n of_list o it.v [] it.a it.args_are told.0) in
    let l = lowered_in t n graph in
    by_list_law t typed n graph o is w from to room 0 (there_asks (world t).around (operand_of l it.v) o.covered ++ Make (small.Listed (listed.Reverse list.of.n)) ∷ []) (row.Method (codes "reverse") site) (it.v ∷ []) is_row it.args_are
    (made_both (there_asks (world t).around (operand_of l it.v) o.covered) (Make (small.Listed (listed.Reverse list.of.n)) ∷ []) (there_made (world t).around (operand_of l it.v) o.covered) (tt, tt))
    (only_list (operand_of l it.v) list.kind) (method_class (codes "reverse") site (world t) (place_of l o.result) (operand_of l it.v) [] (before o w) (no_instance t n it.v it.a.e list it.a.seen)) (λ k. refl)
    (of_one_listed t typed n graph it.v o.covered (op t.seen.program o.covered (row.Method (codes "reverse") site)) list.kind (reverse_is_quiet t.seen.program site o.covered))
    (lists_are_reversed site t.seen (world t).around (place_of l o.result) (operand_of l it.v) (before o w) list.of.n list.kind list.typed (nothing_is t n o.result told.1))

-- ---- the items of another list

extended_many : (x y : Shape) (xs : List Shape) → extended (x ∷ y ∷ xs) ≡ misfit
extended_many NoneOnly y xs = refl
extended_many (Lst s n) y xs = refl
extended_many _ y xs = refl

extend_takes : (site : Option ℕ) → ListTakes 1 (row.Method (codes "extend") site)
extend_takes site t s q [] other = refl
extend_takes site t s q (x ∷ []) other = absurd (other refl)
extend_takes site t s q (x ∷ y ∷ xs) other = ap (λ z. z ∷ []) (extended_many x y xs)

pub extend_quiet : (raises : Bool) (heap : Heap) (r s : ℕ) (v : Meant) → Quiet raises heap (extend r s v)
extend_quiet raises heap r s v = with_list_quiet raises heap r (λ vs. with_list s (λ us. paying (extend_cost (length us)) (set_object r (Listed (vs ++ us)) v)))
    (λ vs. with_list_quiet raises heap s (λ us. paying (extend_cost (length us)) (set_object r (Listed (vs ++ us)) v)) (λ us. paying_quiet raises heap (extend_cost (length us)) (set_object r (Listed (vs ++ us)) v) (λ w e. tt)))

extend_of : (program : Program) (c : Covers) (heap : Heap) (r : ℕ) (items : List Meant) (y : Meant) → Quiet (is_covered c) heap (object_method program c (codes "extend") r (y ∷ []) (Some (Listed items)))
extend_of program c heap r items (Ref s) = extend_quiet (is_covered c) heap r s Missing
extend_of program c heap r items Missing = attribute_quiet c heap
extend_of program c heap r items other = λ w e. tt

extend_is_quiet : (program : Program) (site : Option ℕ) (c : Covers) (heap : Heap) (x y : Meant) → IsListed heap x → Quiet (is_covered c) heap (op program c (row.Method (codes "extend") site) (x ∷ y ∷ []))
extend_is_quiet program site c heap x y is = listed_quiet (is_covered c) heap (λ (x : Meant). op program c (row.Method (codes "extend") site) (x ∷ y ∷ [])) x is (attribute_quiet c heap)
    (λ r items at. at_listed (is_covered c) heap r items (object_method program c (codes "extend") r (y ∷ [])) at (extend_of program c heap r items y))

pub extensions_are_written : ExtensionsAreWritten
extensions_are_written site t typed n graph o is_row is told w from to room =
    let it = two_where t n o (row.Method (codes "extend") site) is_row is (receivers t n (row.Method (codes "extend") site) o is told.0.0 1 (extend_takes site)) (λ w a g node xs. refl) in
    let list = lists_are_of t typed n it.v it.a (first_told t n of_list o it.v (it.u ∷ []) it.a it.args_are told.0.0) in
    let more = lists_are_of t typed n it.u it.b (second_told t n of_list o it.v it.u [] it.b it.args_are told.0.1) in
    let l = lowered_in t n graph in
    by_list_law t typed n graph o is w from to room 2 (extend_asks (world t).around (operand_of l it.v) (operand_of l it.u) list.of.n more.of.n o.covered) (row.Method (codes "extend") site) (it.v ∷ it.u ∷ []) is_row it.args_are
    (extend_made (world t).around (operand_of l it.v) (operand_of l it.u) list.of.n more.of.n o.covered)
    (only_list (operand_of l it.v) list.kind) (method_class (codes "extend") site (world t) (place_of l o.result) (operand_of l it.v) (operand_of l it.u ∷ []) (before o w) (no_instance t n it.v it.a.e list it.a.seen)) (λ k. refl)
    (of_two_listed t typed n graph it.v o.covered (op t.seen.program o.covered (row.Method (codes "extend") site)) list.kind it.u (extend_is_quiet t.seen.program site o.covered))
    (lists_are_extended site t.seen (world t).around (place_of l o.result) (operand_of l it.v) (operand_of l it.u) (before o w) list.of.n more.of.n list.has.item more.has.item list.list more.list
    (told.1.0 it.v it.u list.has.item more.has.item (ap (λ (args : List ℕ). slice_get args 0) it.args_are) (ap (λ (args : List ℕ). slice_get args 1) it.args_are) (is_item_of t n it.v it.a list) (is_item_of t n it.u it.b more))
    (nothing_is t n o.result told.1.1))

-- ---- the last item, or that at an index

taken_quiet : (c : Covers) (heap : Heap) (r : ℕ) (items : List Meant) (z : ℤ) → Quiet (is_covered c) heap (taken_out c r items z)
taken_quiet c heap r items z = if_some_quiet (is_covered c) heap (index_error c) (meant_place z (length items)) (λ i. if_some bad (item_at z items) (λ v. set_object r (Listed (remove items i)) v)) (index_quiet c heap)
    (λ i. if_some_quiet (is_covered c) heap bad (item_at z items) (λ v. set_object r (Listed (remove items i)) v) (λ w e. tt) (λ v w e. tt))

pop_of : (program : Program) (c : Covers) (heap : Heap) (r : ℕ) (items : List Meant) (y : Meant) → Quiet (is_covered c) heap (object_method program c (codes "pop") r (y ∷ []) (Some (Listed items)))
pop_of program c heap r items (Word z) = taken_quiet c heap r items z
pop_of program c heap r items other = λ w e. tt

last_is_quiet : (program : Program) (site : Option ℕ) (c : Covers) (heap : Heap) (x : Meant) → IsListed heap x → Quiet (is_covered c) heap (op program c (row.Method (codes "pop") site) (x ∷ []))
last_is_quiet program site c heap x is = listed_quiet (is_covered c) heap (λ (x : Meant). op program c (row.Method (codes "pop") site) (x ∷ [])) x is (attribute_quiet c heap)
    (λ r items at. at_listed (is_covered c) heap r items (object_method program c (codes "pop") r []) at (taken_quiet c heap r items (negsuc 0)))

pop_is_quiet : (program : Program) (site : Option ℕ) (c : Covers) (heap : Heap) (x y : Meant) → IsListed heap x → Quiet (is_covered c) heap (op program c (row.Method (codes "pop") site) (x ∷ y ∷ []))
pop_is_quiet program site c heap x y is = listed_quiet (is_covered c) heap (λ (x : Meant). op program c (row.Method (codes "pop") site) (x ∷ y ∷ [])) x is (attribute_quiet c heap)
    (λ r items at. at_listed (is_covered c) heap r items (object_method program c (codes "pop") r (y ∷ [])) at (pop_of program c heap r items y))

pop_takes : (site : Option ℕ) (t : Tables) (s : ℕ) (q : Bool) (xs : List Shape) → (length xs ≡ 0 → ⊥) → (length xs ≡ 1 → ⊥) → fitting t (row.Method (codes "pop") site) (Lst s q ∷ xs) Nothing ≡ misfit ∷ []
pop_takes site t s q [] none one = absurd (none refl)
pop_takes site t s q (x ∷ []) none one = absurd (one refl)
pop_takes site t s q (x ∷ y ∷ xs) none one = refl

pub pops_are_written : PopsAreWritten
pops_are_written site t typed n graph o is_row is told w from to room = by (one_or_two t n o (row.Method (codes "pop") site) is_row is told.0 (pop_takes site) (λ w a g node xs. refl))
  where
    r : RowOp
    r = row.Method (codes "pop") site

    by : One t n r o.node (shape is.result) o.args ⊎ Two t n r o.node (shape is.result) o.args → OpIsWritten (setting t) (lowered_in t n graph) o w
    by (inl it) =
        let list = lists_are_of t typed n it.v it.a (first_told t n of_list o it.v [] it.a it.args_are told.0) in
        let l = lowered_in t n graph in
        by_list_law t typed n graph o is w from to room 0 (take_asks (world t).around (operand_of l it.v) list.of.n o.covered) (row.Method (codes "pop") site) (it.v ∷ []) is_row it.args_are
        (made_both (there_asks (world t).around (operand_of l it.v) o.covered) (Make (small.Listed (listed.Place list.of.n o.covered.index)) ∷ Make (small.Listed (listed.Remove list.of.n)) ∷ []) (there_made (world t).around (operand_of l it.v) o.covered) (tt, (tt, tt)))
        (only_list (operand_of l it.v) list.kind) (method_class (codes "pop") site (world t) (place_of l o.result) (operand_of l it.v) [] (before o w) (no_instance t n it.v it.a.e list it.a.seen)) (λ k. refl)
        (of_one_listed t typed n graph it.v o.covered (op t.seen.program o.covered (row.Method (codes "pop") site)) list.kind (last_is_quiet t.seen.program site o.covered))
        (last_items_are_popped site t.seen (world t).around (place_of l o.result) (operand_of l it.v) (before o w) list.of.n list.has.item list.list
        (told.1 it.v list.has.item (ap (λ (args : List ℕ). slice_get args 0) it.args_are) (is_item_of t n it.v it.a list)))
    by (inr it) =
        let list = lists_are_of t typed n it.v it.a (first_told t n of_list o it.v (it.u ∷ []) it.a it.args_are told.0) in
        let l = lowered_in t n graph in
        let fit : Under t.whole.tables.classes t.assigned.same (fitting t.whole.tables (row.Method (codes "pop") site) (shape it.a.e ∷ shape it.b.e ∷ []) Nothing) (shape is.result) =
        row_fits t.whole t.assigned n o.node (row.Method (codes "pop") site) (shape it.a.e ∷ shape it.b.e ∷ []) (shape is.result) it.fits refl it.some in
        let above : Under t.whole.tables.classes t.assigned.same (given (is_int (shape it.b.e)) Nothing ∷ []) (shape is.result) =
        subst (λ (x : Shape). Under t.whole.tables.classes t.assigned.same (fitting t.whole.tables (row.Method (codes "pop") site) (x ∷ shape it.b.e ∷ []) Nothing) (shape is.result)) list.of.shape_is fit in
        let int = (given_fits t.whole.tables.classes t.assigned.same (is_int (shape it.b.e)) Nothing (shape is.result) above.0 it.fits.free).0 in
        by_list_law t typed n graph o is w from to room 0 (take_asks (world t).around (operand_of l it.v) list.of.n o.covered) (row.Method (codes "pop") site) (it.v ∷ it.u ∷ []) is_row it.args_are
        (made_both (there_asks (world t).around (operand_of l it.v) o.covered) (Make (small.Listed (listed.Place list.of.n o.covered.index)) ∷ Make (small.Listed (listed.Remove list.of.n)) ∷ []) (there_made (world t).around (operand_of l it.v) o.covered) (tt, (tt, tt)))
        (only_list (operand_of l it.v) list.kind) (method_class (codes "pop") site (world t) (place_of l o.result) (operand_of l it.v) (operand_of l it.u ∷ []) (before o w) (no_instance t n it.v it.a.e list it.a.seen)) (λ k. refl)
        (of_two_listed t typed n graph it.v o.covered (op t.seen.program o.covered (row.Method (codes "pop") site)) list.kind it.u (pop_is_quiet t.seen.program site o.covered))
        (items_are_popped site t.seen (world t).around (place_of l o.result) (operand_of l it.v) (operand_of l it.u) (before o w) list.of.n list.has.item list.list (word_is t n it.u it.b int)
        (told.1 it.v list.has.item (ap (λ (args : List ℕ). slice_get args 0) it.args_are) (is_item_of t n it.v it.a list)))

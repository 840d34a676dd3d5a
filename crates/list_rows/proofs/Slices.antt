-- Slices of lists.
use Rattle.std.proofs.Common.{◌≡◌, ℕ, Bool, true, false, List, [], ◌∷◌, ◌++◌, length, map, Some, None, refl, ap, subst}
use Rattle.std.specs.Prelude.{slice_get, Option, ℤ, if◌then◌else◌}
use Rattle.ann_element.specs.declared.element.Element.{Element}
use Rattle.ann_lattice.specs.Kind.{is_int}
use Rattle.ann_lattice.specs.Row as rows
use Rattle.ann_lattice.specs.Shape.{Num, Shape, shape}
use Rattle.flow_graph.specs.declared.graph.Graph.{Graph}
use Rattle.rpy_tree.specs.Value.{Value as Meant, Word, Ref, Heap, Listed}
use Rattle.rpy_meaning.specs.declared.row.Covers.{Covers}
use Rattle.rpy_meaning.specs.declared.row.RowOp.TheVariants as row
use Rattle.rpy_meaning.specs.Operations.{op}
use Rattle.rtyper_class.specs.Lowering.{lowered as class_lowered, of_some, of_one, of_two, other}
use Rattle.rtyper_class.specs.Seen.{World as Around}
use Rattle.rtyper_data.specs.Seen.{Operand, Place, Writing}
use Rattle.rtyper_data.specs.declared.small.Listed.TheVariants as listed
use Rattle.rtyper_data.specs.declared.small.Small.TheVariants as small
use Rattle.rtyper_layout.specs.declared.kind.Kind.TheVariants as kind
use Rattle.rtyper_layout.specs.Kinds.{kind_seen}
use Rattle.rtyper_list.specs.Lowering.{lower_list_op}
use Rattle.rtyper_list.specs.Operands.{of_list}
use Rattle.rtyper_program.specs.Raises.{is_covered}
use Rattle.rtyper_program.specs.Seen.{element_at, operand_of, place_of}
use Rattle.lower_laws.specs.Asked.{Make}
use Rattle.list_laws.specs.Lists.{there_asks}
use Rattle.rtyped_runs.specs.Laws.{before}
use Rattle.typed_rows.specs.Programs.{Typed, world}
use Rattle.typed_rows.specs.Rows.{lowered_in}
use Rattle.list_rows.proofs.Fitting.{given_fits, row_fits}
use Rattle.list_rows.proofs.Lists.{first_told, is_item_of, lists_are_of, result_item, result_of_lists, word_is}
use Rattle.list_rows.proofs.Operands.{Above, Operand as Known, Takes, one}
use Rattle.list_rows.proofs.Shapes.{no}
use Rattle.list_rows.proofs.Values.{of_one_listed, of_some_listed}
use Rattle.list_rows.proofs.Throwing.{IsListed, Quiet, attribute_quiet, listed_quiet, paying_quiet, with_list_quiet}
use Rattle.list_rows.proofs.Writing.{by_list_law, made_both, there_made}
use Rattle.std.specs.Prelude.{◌&&◌}
use Rattle.ann_lattice.specs.Kind.{all_positive, is_positive, some_nothing}
use Rattle.rpy_meaning.specs.Costs.{list_cost}
use Rattle.rpy_meaning.specs.Sequences.{Cut, all_but_last, between, but_last, is_bound, part, part_between, slice}
use Rattle.rpy_meaning.specs.World.{negative_slice, new_list, new_object}
use Rattle.list_copy_laws.specs.Joined.{AreBounds}
use Rattle.list_copy_laws.proofs.Shortens.{last_items_are_left_out}
use Rattle.list_copy_laws.proofs.Slices.{lists_are_sliced}
use Rattle.list_rows.specs.Rows.{ShorteningsAreWritten, SlicesAreWritten}
use Rattle.list_rows.specs.Told.{AreBounds as Told}
use Rattle.list_rows.proofs.Operands.{End, Met, Next, Ops, met, operands_of}

new_quiet : (raises : Bool) (heap : Heap) (vs : List Meant) → Quiet raises heap (new_list vs)
new_quiet raises heap vs = paying_quiet raises heap (list_cost (length vs)) (new_object (Listed vs)) (λ w e. tt)

part_quiet : (c : Covers) (cut : Cut) (heap : Heap) (r : ℕ) → Quiet (is_covered c) heap (part c cut (Ref r))
part_quiet c cut heap r = with_list_quiet (is_covered c) heap r (λ vs. new_list (cut Meant vs)) (λ vs. new_quiet (is_covered c) heap (cut Meant vs))

between_is_quiet : (c : Covers) (low high : Option ℤ) (heap : Heap) (x : Meant) → IsListed heap x → Quiet (is_covered c) heap (part_between c low high x)
between_is_quiet c low high heap x is = listed_quiet (is_covered c) heap (part_between c low high) x is (attribute_quiet c heap) (λ r items at. by r (is_bound low && is_bound high))
  where
    by : (r : ℕ) (b : Bool) → Quiet (is_covered c) heap (if b then part c (between low high) (Ref r) else negative_slice)
    by r true = part_quiet c (between low high) heap r
    by r false = λ w e. tt

-- ---- a slice

slice_class : (site : ℕ) (low high : Bool) (around : Around) (place : Place) (a : Operand) (args : List Operand) (w : Writing) → class_lowered around (row.Slice site low high) place (a ∷ args) w ≡ lower_list_op around.around (row.Slice site low high) place (a ∷ args) w
unfolding class_lowered of_some of_one of_two other
slice_class site low high around place a [] w = refl
slice_class site low high around place a (b ∷ []) w = refl
slice_class site low high around place a (b ∷ c ∷ args) w = refl

slice_is_quiet : (c : Covers) (low high : Bool) (heap : Heap) (x : Meant) (xs : List Meant) → IsListed heap x → Quiet (is_covered c) heap (slice c low high (x ∷ xs))
slice_is_quiet c false false heap x [] is = between_is_quiet c None None heap x is
slice_is_quiet c true false heap x (Word a ∷ []) is = between_is_quiet c (Some a) None heap x is
slice_is_quiet c false true heap x (Word b ∷ []) is = between_is_quiet c None (Some b) heap x is
slice_is_quiet c true true heap x (Word a ∷ Word b ∷ []) is = between_is_quiet c (Some a) (Some b) heap x is
slice_is_quiet c low high heap x xs is = λ w e. tt

positive_is : (t : Typed) (n v : ℕ) (a : Known t n v) → is_positive (shape a.e) ≡ true → kind_seen (element_at t.known.annotation n v) ≡ kind.Word
positive_is t n v a positive = word_is t n v a (by (shape a.e) positive)
  where
    by : (x : Shape) → is_positive x ≡ true → is_int x ≡ true
    by (Num false) h = refl
    by (Num true) h = no h
    by _ h = no h

first_of_both : (a b : Bool) → (a && b) ≡ true → a ≡ true
first_of_both true b h = refl
first_of_both false b h = no h

last_of_both : (a b : Bool) → (a && b) ≡ true → b ≡ true
last_of_both true b h = h
last_of_both false b h = no h

-- a list and its bounds
record Sliced (t : Typed) (n : ℕ) (graph : Graph) (site : ℕ) (low high : Bool) (z : Shape) (args : List ℕ) : Type 0 where
  v : ℕ
  us : List ℕ
  a : Known t n v
  args_are : args ≡ v ∷ us
  above : Above t (rows.slice site (shape a.e)) z
  bounds : AreBounds low high (map (operand_of (lowered_in t n graph)) us)

module _ (t : Typed) (n : ℕ) (graph : Graph) (site node : ℕ) (z : Shape) where
  fits_of : (low high : Bool) (v : ℕ) (a : Known t n v) (es : List Element) → Met t n (row.Slice site low high) node z (shape a.e ∷ map shape es) → some_nothing (shape a.e ∷ map shape es) ≡ false → (all_positive (map shape es) ≡ true) × Above t (rows.slice site (shape a.e)) z
  fits_of low high v a es fits some =
      given_fits t.whole.tables.classes t.assigned.same (all_positive (map shape es)) (rows.slice site (shape a.e)) z (row_fits t.whole t.assigned n node (row.Slice site low high) (shape a.e ∷ map shape es) z fits refl some).0 fits.free

  sliced_by : (low high : Bool) (args : List ℕ) (es : List Element) → Ops t n args es → Told low high args → Met t n (row.Slice site low high) node z (map shape es) → some_nothing (map shape es) ≡ false → Sliced t n graph site low high z args
  sliced_by false false _ _ (Next {v = v} a End) told fits some = record { v = v; us = []; a = a; args_are = refl; above = (fits_of false false v a [] fits some).1; bounds = tt }
  sliced_by true false _ _ (Next {v = v} a (Next {v = u} b End)) told fits some =
      let it = fits_of true false v a (b.e ∷ []) fits some in
      record { v = v; us = u ∷ []; a = a; args_are = refl; above = it.1; bounds = positive_is t n u b (first_of_both (is_positive (shape b.e)) true it.0) }
  sliced_by false true _ _ (Next {v = v} a (Next {v = u} b End)) told fits some =
      let it = fits_of false true v a (b.e ∷ []) fits some in
      record { v = v; us = u ∷ []; a = a; args_are = refl; above = it.1; bounds = positive_is t n u b (first_of_both (is_positive (shape b.e)) true it.0) }
  sliced_by true true _ _ (Next {v = v} a (Next {v = u} b (Next {v = r} c End))) told fits some =
      let it = fits_of true true v a (b.e ∷ c.e ∷ []) fits some in
      record {
        v = v;
        us = u ∷ r ∷ [];
        a = a;
        args_are = refl;
        above = it.1;
        bounds = (positive_is t n u b (first_of_both (is_positive (shape b.e)) (is_positive (shape c.e) && true) it.0), positive_is t n r c (first_of_both (is_positive (shape c.e)) true (last_of_both (is_positive (shape b.e)) (is_positive (shape c.e) && true) it.0)));
      }
  sliced_by low high _ _ ops told fits some = absurd told

pub slices_are_written : SlicesAreWritten
slices_are_written site low high t typed n graph o is_row is told w from to room =
    let it = sliced_by t n graph site o.node (shape is.result) low high o.args is.elements (operands_of t n o is) told.1.0 (met t n o (row.Slice site low high) is_row is) is.some in
    let list = lists_are_of t typed n it.v it.a (first_told t n of_list o it.v it.us it.a it.args_are told.0) in
    let l = lowered_in t n graph in
    let made = result_of_lists t typed n o is site false (subst (λ (x : Shape). Above t (rows.slice site x) (shape is.result)) list.of.shape_is it.above) is.fits.free in
    by_list_law t typed n graph o is w from to room 2 (there_asks (world t).around (operand_of l it.v) o.covered ++ Make (small.Listed (listed.Slice list.of.n made.of.n)) ∷ []) (row.Slice site low high) (it.v ∷ it.us) is_row it.args_are
    (made_both (there_asks (world t).around (operand_of l it.v) o.covered) (Make (small.Listed (listed.Slice list.of.n made.of.n)) ∷ []) (there_made (world t).around (operand_of l it.v) o.covered) (tt, tt))
    refl (slice_class site low high (world t) (place_of l o.result) (operand_of l it.v) (map (operand_of l) it.us) (before o w)) (λ k. refl)
    (of_some_listed t typed n graph it.v o.covered (op t.seen.program o.covered (row.Slice site low high)) list.kind it.us (slice_is_quiet o.covered low high))
    (lists_are_sliced site low high t.seen (world t).around (place_of l o.result) (operand_of l it.v) (map (operand_of l) it.us) (before o w) list.of.n made.of.n list.has.item made.has.item it.bounds list.list
    (record { list = made.list; struct = made.has.is })
    (told.1.1 it.v list.has.item made.has.item (ap (λ (args : List ℕ). slice_get args 0) it.args_are) (is_item_of t n it.v it.a list) (result_item t typed n o is made)))

-- ---- all items but the last

shortening_takes : (site : ℕ) → Takes 1 (row.AllButLast site)
shortening_takes site t [] other = refl
shortening_takes site t (a ∷ []) other = absurd (other refl)
shortening_takes site t (a ∷ b ∷ []) other = refl
shortening_takes site t (a ∷ b ∷ c ∷ []) other = refl
shortening_takes site t (a ∷ b ∷ c ∷ d ∷ xs) other = refl

shortening_class : (site : ℕ) (around : Around) (place : Place) (a : Operand) (w : Writing) → class_lowered around (row.AllButLast site) place (a ∷ []) w ≡ lower_list_op around.around (row.AllButLast site) place (a ∷ []) w
unfolding class_lowered of_some of_one
shortening_class site around place a w = refl

shortening_is_quiet : (c : Covers) (heap : Heap) (x : Meant) → IsListed heap x → Quiet (is_covered c) heap (all_but_last c x)
shortening_is_quiet c heap x is = listed_quiet (is_covered c) heap (all_but_last c) x is (attribute_quiet c heap) (λ r items at. part_quiet c but_last heap r)

pub shortenings_are_written : ShorteningsAreWritten
shortenings_are_written site t typed n graph o is_row is told w from to room =
    let it = one t n o (row.AllButLast site) is_row is (shortening_takes site) (λ w a g node xs. refl) in
    let list = lists_are_of t typed n it.v it.a (first_told t n of_list o it.v [] it.a it.args_are told.0) in
    let l = lowered_in t n graph in
    let fit : Above t (rows.slice site (shape it.a.e)) (shape is.result) = (row_fits t.whole t.assigned n o.node (row.AllButLast site) (shape it.a.e ∷ []) (shape is.result) it.fits refl it.some).0 in
    let made = result_of_lists t typed n o is site false (subst (λ (x : Shape). Above t (rows.slice site x) (shape is.result)) list.of.shape_is fit) it.fits.free in
    by_list_law t typed n graph o is w from to room 2 (there_asks (world t).around (operand_of l it.v) o.covered ++ Make (small.Listed (listed.ButLast list.of.n made.of.n)) ∷ []) (row.AllButLast site) (it.v ∷ []) is_row it.args_are
    (made_both (there_asks (world t).around (operand_of l it.v) o.covered) (Make (small.Listed (listed.ButLast list.of.n made.of.n)) ∷ []) (there_made (world t).around (operand_of l it.v) o.covered) (tt, tt))
    refl (shortening_class site (world t) (place_of l o.result) (operand_of l it.v) (before o w)) (λ k. refl)
    (of_one_listed t typed n graph it.v o.covered (op t.seen.program o.covered (row.AllButLast site)) list.kind (shortening_is_quiet o.covered))
    (last_items_are_left_out site t.seen (world t).around (place_of l o.result) (operand_of l it.v) (before o w) list.of.n made.of.n list.has.item made.has.item list.list
    (record { list = made.list; struct = made.has.is })
    (told.1 it.v list.has.item made.has.item (ap (λ (args : List ℕ). slice_get args 0) it.args_are) (is_item_of t n it.v it.a list) (result_item t typed n o is made)))

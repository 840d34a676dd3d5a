-- Items that come into lists.
use Rattle.std.proofs.Common.{◌≡◌, ℕ, true, false, List, [], ◌∷◌, ◌++◌, length, map, Some, refl, sym, ap, ◌∙◌, subst, pos, negsuc}
use Rattle.std.specs.Prelude.{Option, codes}
use Rattle.ann_element.specs.declared.element.Element.{Element}
use Rattle.ann_lattice.specs.Kind.{given, is_int}
use Rattle.ann_lattice.specs.Shape.{NoneOnly, Nothing, Num, Shape, shape}
use Rattle.flow_graph.specs.declared.graph.Graph.{Graph}
use Rattle.rpy_tree.specs.Value.{Value as Meant, Word, Heap, Listed, Nothing as Missing}
use Rattle.rpy_meaning.specs.declared.row.Covers.{Covers}
use Rattle.rpy_meaning.specs.declared.row.RowOp.{RowOp}
use Rattle.rpy_meaning.specs.declared.row.RowOp.TheVariants as row
use Rattle.rpy_meaning.specs.Operations.{op}
use Rattle.rpy_meaning.specs.Tree.{Program}
use Rattle.rtyper_class.specs.Lowering.{lowered as class_lowered, of_some, of_two, other}
use Rattle.rtyper_class.specs.Seen.{World as Around}
use Rattle.rtyper_data.specs.Seen.{Operand, Place, Writing}
use Rattle.rtyper_data.specs.declared.small.Listed.TheVariants as listed
use Rattle.rtyper_data.specs.declared.small.Small.TheVariants as small
use Rattle.rtyper_layout.specs.Kinds.{kind_seen}
use Rattle.rtyper_list.specs.Lowering.{lower_list_op}
use Rattle.rtyper_list.specs.Operands.{of_list}
use Rattle.rtyper_program.specs.Raises.{is_covered}
use Rattle.rtyper_program.specs.Seen.{element_at, operand_of, place_of}
use Rattle.lower_laws.specs.Asked.{Make}
use Rattle.object_laws.specs.Staying.{Stays}
use Rattle.rtyped_runs.specs.Laws.{before}
use Rattle.typed_rows.specs.Programs.{IsTyped, Typed, layout, world}
use Rattle.typed_rows.specs.Rows.{lowered_in}
use Rattle.list_rows.proofs.Fitting.{given_fits, row_fits}
use Rattle.list_rows.proofs.Lists.{IsOfLists, first_told, lists_are_of, nothing_is, word_is}
use Rattle.list_rows.proofs.Lowering.{only_list}
use Rattle.list_rows.proofs.Operands.{Operand as Known, Takes, two, two_where}
use Rattle.list_rows.proofs.Receivers.{ListTakes, receivers}
use Rattle.list_rows.proofs.Shapes.{no}
use Rattle.list_rows.proofs.Values.{of_three_listed, of_two_listed}
use Rattle.list_rows.proofs.Throwing.{IsListed, Quiet, at_listed, attribute_quiet, listed_quiet, paying_quiet, with_list_quiet}
use Rattle.list_rows.proofs.Writing.{raising}
use Rattle.std.specs.Prelude.{insert, min}
use Rattle.ann_lattice.specs.Assign.{Under}
use Rattle.ann_lattice.specs.Kind.{is_positive}
use Rattle.ann_lattice.specs.Order.{Below}
use Rattle.ann_lattice.specs.Row.{fitting}
use Rattle.ann_rules.specs.Asks.{asks, items_of, to_items}
use Rattle.class_desc.specs.Tables.{Tables}
use Rattle.rpy_tree.specs.declared.program.ClassInfo.{ClassInfo}
use Rattle.rpy_meaning.specs.Costs.{append_cost, item_cost}
use Rattle.rpy_meaning.specs.Operations.{add_item, object_method}
use Rattle.rpy_meaning.specs.World.{paying, set_object}
use Rattle.rtyper_op.specs.Lowering.{never_comes}
use Rattle.rtyper_program.specs.Raises.{has_exceptions}
use Rattle.object_laws.specs.Done.{Any}
use Rattle.conversion_laws.specs.Converted.{items_in, tuples_in}
use Rattle.conversion_laws.specs.Going.{Goes}
use Rattle.conversion_laws.specs.Ordered.{IsLaid}
use Rattle.laid_laws.specs.Laid.{Item}
use Rattle.list_copy_laws.specs.Done.{references_moved}
use Rattle.list_conversion_laws.specs.Lists.{GoesIn, IsListOf, adding_asks, references_of}
use Rattle.list_conversion_laws.proofs.Added.{comprehension_appends, items_are_inserted, method_appends}
use Rattle.converted_runs.specs.Writing.{of_lists}
use Rattle.sound_rows.specs.Sound.{AllMet}
use Rattle.typed_rows.specs.Programs.{HasItems, same}
use Rattle.typed_rows.proofs.Going.{elements_pass}
use Rattle.list_rows.proofs.Lowering.{lowers}
use Rattle.list_rows.proofs.Methods.{method_class, no_instance}
use Rattle.list_rows.proofs.Operands.{three_where}
use Rattle.list_rows.proofs.Throwing.{raised_only}
use Rattle.item_rows.specs.Rows.{AppendsAreWritten, GathersAreWritten, InsertsAreWritten}
use Rattle.item_rows.proofs.Behind.{by_behind, early}
use Rattle.item_rows.proofs.Standing.{adding_come, lists_stand}
use Rattle.item_rows.proofs.Staying.{comes, stays_itself, still_some}

-- what an operation asks of items is met: the value is below them
pub below_items : (t : Typed) → IsTyped t → (site : ℕ) (x z : Shape) → items_of t.whole t.assigned site ≡ z → AllMet t.whole.tables.classes t.assigned (to_items t.whole t.assigned site x) → Below t.classes.classes (same t) x z
below_items t typed site x z items met =
    subst (λ (s : List ℕ). Below t.classes.classes s x z) typed.sees.same_is
    (subst (λ (k : List ClassInfo). Below k t.assigned.same x z) (ap (λ (k : Tables). k.classes) typed.sees.classes_are)
    (subst (λ (y : Shape). Below t.whole.tables.classes t.assigned.same x y) items met.0.0))

-- what is known of the items of a list
pub record HasItem (t : Typed) (item : Element) : Type 0 where
  pub laid : IsLaid (layout t) (same t) item
  pub below : (n u : ℕ) (b : Known t n u) → Below t.classes.classes (same t) (shape b.e) (shape item) → Goes (layout t) t.seen (element_at t.known.annotation n u) (Some item)
  pub settled : (n u : ℕ) (b : Known t n u) → Below t.classes.classes (same t) (shape b.e) (shape item) → Stays (layout t) t.seen (Some item) (Some item)

pub items_are : (t : Typed) → IsTyped t → (site m : ℕ) (h : HasItems t site m) → HasItem t h.item
items_are t typed site m h =
    let laid : IsLaid (layout t) (same t) h.item = typed.parts.laid h.item (Item (site, h.stands)) (typed.parts.free_items site h.item h.stands) in
    record {
      laid = laid;
      below = λ n u b under. subst (λ e. Goes (layout t) t.seen e (Some h.item)) (sym b.seen) (elements_pass t typed b.e h.item b.laid laid under);
      settled = λ n u b under. stays_itself (layout t) t.seen (same t) h.item laid (comes h.item (still_some t.classes.classes (same t) (shape b.e) (shape h.item) under b.some));
    }

-- an operand that comes into a list
goes_in : (t : Typed) → IsTyped t → (n u : ℕ) (graph : Graph) (b : Known t n u) (item : Element) → HasItem t item → Below t.classes.classes (same t) (shape b.e) (shape item) → GoesIn (world t).around t.seen (operand_of (lowered_in t n graph) u) item
goes_in t typed n u graph b item has under = record { apart = typed.small.no_tuple; comes = ap (λ e. never_comes (kind_seen e)) b.seen ∙ comes b.e b.some; goes = has.below n u b under }

-- a list into which it comes
list_of : (t : Typed) (n v : ℕ) (a : Known t n v) (list : IsOfLists t n v a.e) → Stays (layout t) t.seen (Some list.has.item) (Some list.has.item) → IsListOf (world t).around t.seen (element_at t.known.annotation n v) list.of.site list.of.r list.of.n list.has.item
list_of t n v a list settled = record { is = a.seen ∙ ap (λ e. Some e) list.of.is; list = list.list; settled = settled }

-- ---- an item that is appended

append_takes : (site : Option ℕ) → ListTakes 1 (row.Method (codes "append") site)
append_takes site t s q [] other = refl
append_takes site t s q (x ∷ []) other = absurd (other refl)
append_takes site t s q (x ∷ y ∷ xs) other = refl

append_is_quiet : (program : Program) (site : Option ℕ) (c : Covers) (heap : Heap) (x y : Meant) → IsListed heap x → Quiet (is_covered c) heap (op program c (row.Method (codes "append") site) (x ∷ y ∷ []))
append_is_quiet program site c heap x y is = listed_quiet (is_covered c) heap (λ (x : Meant). op program c (row.Method (codes "append") site) (x ∷ y ∷ [])) x is (attribute_quiet c heap)
    (λ r items at. at_listed (is_covered c) heap r items (object_method program c (codes "append") r (y ∷ [])) at (paying_quiet (is_covered c) heap append_cost (set_object r (Listed (items ++ y ∷ [])) Missing) (λ w e. tt)))

pub appends_are_written : AppendsAreWritten
appends_are_written site t typed n graph o is_row is told w from to room =
    let r : RowOp = row.Method (codes "append") site in
    let it = two_where t n o (row.Method (codes "append") site) is_row is (receivers t n (row.Method (codes "append") site) o is told.0 1 (append_takes site)) (λ w a g node xs. refl) in
    let list = lists_are_of t typed n it.v it.a (first_told t n of_list o it.v (it.u ∷ []) it.a it.args_are told.0) in
    let l = lowered_in t n graph in
    let a = operand_of l it.v in
    let b = operand_of l it.u in
    let has = items_are t typed list.of.site list.of.n list.has in
    let under = below_items t typed list.of.site (shape it.b.e) (shape list.has.item) list.items (subst (λ (x : Shape). AllMet t.whole.tables.classes t.assigned (asks t.whole t.assigned (row.Method (codes "append") site) (x ∷ shape it.b.e ∷ []))) list.of.shape_is it.fits.met) in
    by_behind t typed n graph o is w from to room of_lists Any references_of 2 (items_in (Some list.has.item)) (tuples_in (Some list.has.item))
    (adding_asks (world t).around (operand_of l it.v) (operand_of l it.u) list.has.item (Make (small.Listed (listed.Append list.of.n))) (before o w)) (row.Method (codes "append") site) (operand_of l it.v ∷ operand_of l it.u ∷ [])
    (lower_list_op (world t).around (row.Method (codes "append") site) (place_of l o.result) (operand_of l it.v ∷ operand_of l it.u ∷ []) (before o w)) is_row (ap (map (operand_of l)) it.args_are)
    (λ late. lists_stand t typed (adding_asks (world t).around (operand_of l it.v) (operand_of l it.u) list.has.item (Make (small.Listed (listed.Append list.of.n))) (before o w)) (before o w).found
    (adding_come t (operand_of l it.v) (operand_of l it.u) list.has.item (Make (small.Listed (listed.Append list.of.n))) (before o w) tt) (early t typed n graph o is w from to room) late)
    (lowers (world t) (row.Method (codes "append") site) (place_of l o.result) (operand_of l it.v ∷ operand_of l it.u ∷ []) (before o w) (only_list (operand_of l it.v) list.kind)
    (method_class (codes "append") site (world t) (place_of l o.result) (operand_of l it.v) (operand_of l it.u ∷ []) (before o w) (no_instance t n it.v it.a.e list it.a.seen)))
    (λ g core meant xs memory given. raised_only (has_exceptions t.known.annotation n o) (is_covered o.covered) (op t.seen.program o.covered (row.Method (codes "append") site) xs meant) (raising t typed n graph o is (row.Method (codes "append") site) is_row (λ k. refl))
    (of_two_listed t typed n graph it.v o.covered (op t.seen.program o.covered (row.Method (codes "append") site)) list.kind it.u (append_is_quiet t.seen.program site o.covered) g core meant xs memory given))
    (λ g core meant vs memory given good. tt)
    (method_appends site t.seen (world t).around (place_of l o.result) (operand_of l it.v) (operand_of l it.u) (before o w) list.of.site list.of.n list.of.r list.has.item
    (list_of t n it.v it.a list (has.settled n it.u it.b under)) (goes_in t typed n it.u graph it.b list.has.item has under) (nothing_is t n o.result told.1))

-- ---- an item that a comprehension adds

gather_takes : Takes 2 row.AddItem
gather_takes t [] other = refl
gather_takes t (a ∷ []) other = refl
gather_takes t (a ∷ b ∷ []) other = absurd (other refl)
gather_takes t (a ∷ b ∷ c ∷ []) other = refl
gather_takes t (a ∷ b ∷ c ∷ d ∷ xs) other = refl

gather_class : (around : Around) (place : Place) (a b : Operand) (w : Writing) → class_lowered around row.AddItem place (a ∷ b ∷ []) w ≡ lower_list_op around.around row.AddItem place (a ∷ b ∷ []) w
unfolding class_lowered of_some of_two
gather_class around place a b w = refl

gather_is_quiet : (c : Covers) (heap : Heap) (x y : Meant) → IsListed heap x → Quiet (is_covered c) heap (add_item x y)
gather_is_quiet c heap x y is = listed_quiet (is_covered c) heap (λ (x : Meant). add_item x y) x is (λ w e. tt)
    (λ r items at. with_list_quiet (is_covered c) heap r (λ vs. paying item_cost (set_object r (Listed (vs ++ y ∷ [])) Missing)) (λ vs. paying_quiet (is_covered c) heap item_cost (set_object r (Listed (vs ++ y ∷ [])) Missing) (λ w e. tt)))

pub gathers_are_written : GathersAreWritten
gathers_are_written t typed n graph o is_row is told w from to room =
    let it = two t n o row.AddItem is_row is gather_takes (λ w a g node xs. refl) in
    let list = lists_are_of t typed n it.v it.a (first_told t n of_list o it.v (it.u ∷ []) it.a it.args_are told.0) in
    let l = lowered_in t n graph in
    let has = items_are t typed list.of.site list.of.n list.has in
    let under = below_items t typed list.of.site (shape it.b.e) (shape list.has.item) list.items (subst (λ (x : Shape). AllMet t.whole.tables.classes t.assigned (asks t.whole t.assigned row.AddItem (x ∷ shape it.b.e ∷ []))) list.of.shape_is it.fits.met) in
    by_behind t typed n graph o is w from to room of_lists Any references_of 2 (items_in (Some list.has.item)) (tuples_in (Some list.has.item))
    (adding_asks (world t).around (operand_of l it.v) (operand_of l it.u) list.has.item (Make (small.Listed (listed.Append list.of.n))) (before o w)) row.AddItem (operand_of l it.v ∷ operand_of l it.u ∷ [])
    (lower_list_op (world t).around row.AddItem (place_of l o.result) (operand_of l it.v ∷ operand_of l it.u ∷ []) (before o w)) is_row (ap (map (operand_of l)) it.args_are)
    (λ late. lists_stand t typed (adding_asks (world t).around (operand_of l it.v) (operand_of l it.u) list.has.item (Make (small.Listed (listed.Append list.of.n))) (before o w)) (before o w).found
    (adding_come t (operand_of l it.v) (operand_of l it.u) list.has.item (Make (small.Listed (listed.Append list.of.n))) (before o w) tt) (early t typed n graph o is w from to room) late)
    (lowers (world t) row.AddItem (place_of l o.result) (operand_of l it.v ∷ operand_of l it.u ∷ []) (before o w) refl (gather_class (world t) (place_of l o.result) (operand_of l it.v) (operand_of l it.u) (before o w)))
    (λ g core meant xs memory given. raised_only (has_exceptions t.known.annotation n o) (is_covered o.covered) (op t.seen.program o.covered row.AddItem xs meant) (raising t typed n graph o is row.AddItem is_row (λ k. refl))
    (of_two_listed t typed n graph it.v o.covered (op t.seen.program o.covered row.AddItem) list.kind it.u (gather_is_quiet o.covered) g core meant xs memory given))
    (λ g core meant vs memory given good. tt)
    (comprehension_appends t.seen (world t).around (place_of l o.result) (operand_of l it.v) (operand_of l it.u) (before o w) list.of.site list.of.n list.of.r list.has.item
    (list_of t n it.v it.a list (has.settled n it.u it.b under)) (goes_in t typed n it.u graph it.b list.has.item has under) (nothing_is t n o.result told.1))

-- ---- an item that is inserted

insert_takes : (site : Option ℕ) → ListTakes 2 (row.Method (codes "insert") site)
insert_takes site t s q [] other = refl
insert_takes site t s q (x ∷ []) other = refl
insert_takes site t s q (x ∷ y ∷ []) other = absurd (other refl)
insert_takes site t s q (x ∷ y ∷ z ∷ xs) other = refl

insert_of : (program : Program) (c : Covers) (heap : Heap) (r : ℕ) (items : List Meant) (i y : Meant) → Quiet (is_covered c) heap (object_method program c (codes "insert") r (i ∷ y ∷ []) (Some (Listed items)))
insert_of program c heap r items (Word (pos i)) y = paying_quiet (is_covered c) heap append_cost (set_object r (Listed (insert items (min i (length items)) y)) Missing) (λ w e. tt)
insert_of program c heap r items (Word (negsuc i)) y = λ w e. tt
insert_of program c heap r items other y = λ w e. tt

insert_is_quiet : (program : Program) (site : Option ℕ) (c : Covers) (heap : Heap) (x i y : Meant) → IsListed heap x → Quiet (is_covered c) heap (op program c (row.Method (codes "insert") site) (x ∷ i ∷ y ∷ []))
insert_is_quiet program site c heap x i y is = listed_quiet (is_covered c) heap (λ (x : Meant). op program c (row.Method (codes "insert") site) (x ∷ i ∷ y ∷ [])) x is (attribute_quiet c heap)
    (λ r items at. at_listed (is_covered c) heap r items (object_method program c (codes "insert") r (i ∷ y ∷ [])) at (insert_of program c heap r items i y))

positive_int : (x : Shape) → is_positive x ≡ true → is_int x ≡ true
positive_int (Num false) h = refl
positive_int (Num true) h = no h
positive_int _ h = no h

pub inserts_are_written : InsertsAreWritten
inserts_are_written site t typed n graph o is_row is told w from to room =
    let it = three_where t n o (row.Method (codes "insert") site) is_row is (receivers t n (row.Method (codes "insert") site) o is told.0 2 (insert_takes site)) (λ w a g node xs. refl) in
    let list = lists_are_of t typed n it.v it.a (first_told t n of_list o it.v (it.u ∷ it.w ∷ []) it.a it.args_are told.0) in
    let l = lowered_in t n graph in
    let has = items_are t typed list.of.site list.of.n list.has in
    let fit : Under t.whole.tables.classes t.assigned.same (fitting t.whole.tables (row.Method (codes "insert") site) (shape it.a.e ∷ shape it.b.e ∷ shape it.c.e ∷ []) Nothing) (shape is.result) =
    row_fits t.whole t.assigned n o.node (row.Method (codes "insert") site) (shape it.a.e ∷ shape it.b.e ∷ shape it.c.e ∷ []) (shape is.result) it.fits refl it.some in
    let above : Under t.whole.tables.classes t.assigned.same (given (is_positive (shape it.b.e)) NoneOnly ∷ []) (shape is.result) =
    subst (λ (x : Shape). Under t.whole.tables.classes t.assigned.same (fitting t.whole.tables (row.Method (codes "insert") site) (x ∷ shape it.b.e ∷ shape it.c.e ∷ []) Nothing) (shape is.result)) list.of.shape_is fit in
    let int = positive_int (shape it.b.e) (given_fits t.whole.tables.classes t.assigned.same (is_positive (shape it.b.e)) NoneOnly (shape is.result) above.0 it.fits.free).0 in
    let under = below_items t typed list.of.site (shape it.c.e) (shape list.has.item) list.items (subst (λ (x : Shape). AllMet t.whole.tables.classes t.assigned (asks t.whole t.assigned (row.Method (codes "insert") site) (x ∷ shape it.b.e ∷ shape it.c.e ∷ []))) list.of.shape_is it.fits.met) in
    by_behind t typed n graph o is w from to room of_lists Any references_moved 2 (items_in (Some list.has.item)) (tuples_in (Some list.has.item))
    (adding_asks (world t).around (operand_of l it.v) (operand_of l it.w) list.has.item (Make (small.Listed (listed.Insert list.of.n))) (before o w)) (row.Method (codes "insert") site) (operand_of l it.v ∷ operand_of l it.u ∷ operand_of l it.w ∷ [])
    (lower_list_op (world t).around (row.Method (codes "insert") site) (place_of l o.result) (operand_of l it.v ∷ operand_of l it.u ∷ operand_of l it.w ∷ []) (before o w)) is_row (ap (map (operand_of l)) it.args_are)
    (λ late. lists_stand t typed (adding_asks (world t).around (operand_of l it.v) (operand_of l it.w) list.has.item (Make (small.Listed (listed.Insert list.of.n))) (before o w)) (before o w).found
    (adding_come t (operand_of l it.v) (operand_of l it.w) list.has.item (Make (small.Listed (listed.Insert list.of.n))) (before o w) tt) (early t typed n graph o is w from to room) late)
    (lowers (world t) (row.Method (codes "insert") site) (place_of l o.result) (operand_of l it.v ∷ operand_of l it.u ∷ operand_of l it.w ∷ []) (before o w) (only_list (operand_of l it.v) list.kind)
    (method_class (codes "insert") site (world t) (place_of l o.result) (operand_of l it.v) (operand_of l it.u ∷ operand_of l it.w ∷ []) (before o w) (no_instance t n it.v it.a.e list it.a.seen)))
    (λ g core meant xs memory given. raised_only (has_exceptions t.known.annotation n o) (is_covered o.covered) (op t.seen.program o.covered (row.Method (codes "insert") site) xs meant) (raising t typed n graph o is (row.Method (codes "insert") site) is_row (λ k. refl))
    (of_three_listed t typed n graph it.v o.covered (op t.seen.program o.covered (row.Method (codes "insert") site)) list.kind it.u it.w (insert_is_quiet t.seen.program site o.covered) g core meant xs memory given))
    (λ g core meant vs memory given good. tt)
    (items_are_inserted site t.seen (world t).around (place_of l o.result) (operand_of l it.v) (operand_of l it.u) (operand_of l it.w) (before o w) list.of.site list.of.n list.of.r list.has.item
    (list_of t n it.v it.a list (has.settled n it.w it.c under)) (word_is t n it.u it.b int) (goes_in t typed n it.w graph it.c list.has.item has under) (nothing_is t n o.result told.1))

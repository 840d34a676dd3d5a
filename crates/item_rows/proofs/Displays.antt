-- Displays of lists.
use Rattle.std.proofs.Common.{◌≡◌, ℕ, Bool, true, false, List, [], ◌∷◌, ◌++◌, length, map, refl, ap, ◌∙◌}
use Rattle.std.specs.Prelude.{◌||◌, if◌then◌else◌}
use Rattle.ann_element.specs.declared.element.Element.{Element}
use Rattle.ann_lattice.specs.Shape.{Lst, shape}
use Rattle.flow_graph.specs.declared.graph.Graph.{Graph}
use Rattle.rpy_tree.specs.Value.{Value as Meant, Listed}
use Rattle.rpy_meaning.specs.declared.row.Covers.{Covers}
use Rattle.rpy_meaning.specs.declared.row.RowOp.TheVariants as row
use Rattle.rpy_meaning.specs.Operations.{op}
use Rattle.rpy_meaning.specs.Tree.{Program}
use Rattle.rpy_meaning.specs.World.{World}
use Rattle.rtyper_class.specs.Lowering.{lowered as class_lowered, of_some, of_one, of_two, other}
use Rattle.rtyper_class.specs.Seen.{World as Around}
use Rattle.rtyper_data.specs.Seen.{Operand, Place, Writing}
use Rattle.rtyper_data.specs.declared.small.Listed.TheVariants as listed
use Rattle.rtyper_data.specs.declared.small.Small.TheVariants as small
use Rattle.rtyper_layout.specs.Kinds.{kind_seen}
use Rattle.rtyper_list.specs.Lowering.{lower_list_op}
use Rattle.rtyper_program.specs.Raises.{is_covered}
use Rattle.rtyper_program.specs.Seen.{operand_of, place_of}
use Rattle.lower_laws.specs.Asked.{Make}
use Rattle.rtyped_runs.specs.Laws.{before}
use Rattle.rtyped_runs.specs.Parts.{OpIsWritten}
use Rattle.typed_rows.specs.Programs.{IsTyped, Typed, layout, setting, world}
use Rattle.typed_rows.specs.Rows.{lowered_in}
use Rattle.list_rows.proofs.Fitting.{row_fits}
use Rattle.list_rows.proofs.Lists.{result_of_lists}
use Rattle.list_rows.proofs.Operands.{Above}
use Rattle.list_rows.proofs.Throwing.{Only, paying_quiet}
use Rattle.list_rows.proofs.Writing.{by_list_law, raising}
use Rattle.std.specs.Prelude.{◌+◌}
use Rattle.ann_lattice.specs.Kind.{some_nothing}
use Rattle.ann_rules.specs.Asks.{from_each, items_of, to_items}
use Rattle.rpy_meaning.specs.Costs.{list_cost}
use Rattle.rpy_meaning.specs.World.{new_object}
use Rattle.rtyper_op.specs.Lowering.{is_never, never_comes}
use Rattle.rtyper_program.specs.Raises.{has_exceptions}
use Rattle.object_laws.specs.Done.{Any}
use Rattle.list_conversion_laws.specs.Lists.{each_item, references_made}
use Rattle.list_conversion_laws.proofs.Displayed.{lists_are_made}
use Rattle.list_laws.proofs.Displayed.{displays_are_made as empty_displays_are_made}
use Rattle.passing_laws.specs.Passing.{AllPass, pass_asks, tuples_of}
use Rattle.converted_runs.specs.Writing.{of_lists}
use Rattle.sound_rows.specs.Sound.{AllMet}
use Rattle.list_rows.proofs.Lists.{result_site}
use Rattle.list_rows.proofs.Lowering.{lowers}
use Rattle.list_rows.proofs.Operands.{End, Met, Next, Ops, met, operands_of}
use Rattle.list_rows.proofs.Throwing.{raised_only}
use Rattle.item_rows.specs.Rows.{DisplaysAreWritten}
use Rattle.item_rows.proofs.Adding.{HasItem, below_items, items_are}
use Rattle.item_rows.proofs.Behind.{by_behind, early}
use Rattle.item_rows.proofs.Standing.{OfListed, come_both, lists_stand, pass_come}
use Rattle.item_rows.proofs.Staying.{comes}

-- ---- all operands come into a list

module _ (t : Typed) (typed : IsTyped t) (n : ℕ) (graph : Graph) (site : ℕ) (item : Element) (has : HasItem t item) (items : items_of t.whole t.assigned site ≡ shape item) where
  all_pass : (args : List ℕ) (es : List Element) → Ops t n args es → AllMet t.whole.tables.classes t.assigned (from_each (to_items t.whole t.assigned site) (map shape es)) → AllPass (layout t) t.seen (map (operand_of (lowered_in t n graph)) args) (each_item (map (operand_of (lowered_in t n graph)) args) item)
  all_pass _ _ End met = tt
  all_pass _ _ (Next {v = v} {vs = vs} {es = es} a more) met = (has.below n v a (below_items t typed site (shape a.e) (shape item) items (met.0, tt)), all_pass vs es more met.1)

pub all_come : (t : Typed) (n : ℕ) (graph : Graph) (args : List ℕ) (es : List Element) → Ops t n args es → is_never (map (operand_of (lowered_in t n graph)) args) ≡ false
all_come t n graph _ _ End = refl
all_come t n graph _ _ (Next {v = v} {vs = vs} {es = es} a more) =
    ap (λ (b : Bool). if b then true else is_never (map (operand_of (lowered_in t n graph)) vs)) (ap (λ e. never_comes (kind_seen e)) a.seen ∙ comes a.e a.some) ∙ all_come t n graph vs es more

pub all_some : (t : Typed) (n : ℕ) (args : List ℕ) (es : List Element) → Ops t n args es → some_nothing (map shape es) ≡ false
all_some t n _ _ End = refl
all_some t n _ _ (Next {vs = vs} {es = es} a more) = ap (λ (b : Bool). b || some_nothing (map shape es)) a.some ∙ all_some t n vs es more

-- ---- displays

display_class : (site : ℕ) (around : Around) (place : Place) (args : List Operand) (w : Writing) → class_lowered around (row.List site) place args w ≡ lower_list_op around.around (row.List site) place args w
unfolding class_lowered of_some of_one of_two other
display_class site around place [] w = refl
display_class site around place (a ∷ []) w = refl
display_class site around place (a ∷ b ∷ []) w = refl
display_class site around place (a ∷ b ∷ c ∷ args) w = refl

display_is_quiet : (program : Program) (site : ℕ) (c : Covers) (vs : List Meant) (meant : World) → Only (is_covered c) (op program c (row.List site) vs meant)
display_is_quiet program site c vs meant = paying_quiet (is_covered c) meant.heap (list_cost (length vs)) (new_object (Listed vs)) (λ w e. tt) meant refl

pub displays_are_written : DisplaysAreWritten
displays_are_written site t typed n graph o is_row is w from to room = by o.args is.elements refl (operands_of t n o is) (met t n o (row.List site) is_row is)
  where
    by : (args : List ℕ) (es : List Element) → o.args ≡ args → Ops t n args es → Met t n (row.List site) o.node (shape is.result) (map shape es) → OpIsWritten (setting t) (lowered_in t n graph) o w
    by _ _ are End fits =
        let l = lowered_in t n graph in
        let fit : Above t (Lst site false) (shape is.result) = (row_fits t.whole t.assigned n o.node (row.List site) [] (shape is.result) fits refl refl).0 in
        let made = result_of_lists t typed n o is site false fit fits.free in
        by_list_law t typed n graph o is w from to room 2 (Make (small.Listed (listed.Make made.of.n)) ∷ []) (row.List site) [] is_row are (tt, tt)
        refl (display_class site (world t) (place_of l o.result) [] (before o w)) (λ k. refl)
        (λ g core meant xs memory given. display_is_quiet t.seen.program site o.covered xs meant)
        (empty_displays_are_made site t.seen (world t).around (place_of l o.result) (before o w) o.covered made.of.n made.kind made.typed made.has.is)
    by _ _ are (Next {v = v} {vs = vs} {es = es} a more) fits =
        let l = lowered_in t n graph in
        let some : some_nothing (map shape (a.e ∷ es)) ≡ false = all_some t n (v ∷ vs) (a.e ∷ es) (Next a more) in
        let fit : Above t (Lst site false) (shape is.result) = (row_fits t.whole t.assigned n o.node (row.List site) (map shape (a.e ∷ es)) (shape is.result) fits refl some).0 in
        let made = result_of_lists t typed n o is site false fit fits.free in
        let items = result_site t typed n o is made site false fit fits.free in
        let has = items_are t typed made.of.site made.of.n made.has in
        let under = below_items t typed site (shape a.e) (shape made.has.item) items (fits.met.0, tt) in
        let args = map (operand_of l) (v ∷ vs) in
        by_behind t typed n graph o is w from to room of_lists Any (references_made (map (operand_of l) (v ∷ vs)) made.has.item) (2 + tuples_of (each_item (map (operand_of l) (v ∷ vs)) made.has.item)) 0 0
        (pass_asks (layout t) (map (operand_of l) (v ∷ vs)) (each_item (map (operand_of l) (v ∷ vs)) made.has.item) ++ Make (small.Listed (listed.Make made.of.n)) ∷ []) (row.List site) (map (operand_of l) (v ∷ vs))
        (lower_list_op (world t).around (row.List site) (place_of l o.result) (map (operand_of l) (v ∷ vs)) (before o w)) is_row (ap (map (operand_of l)) are)
        (λ late. lists_stand t typed (pass_asks (layout t) (map (operand_of l) (v ∷ vs)) (each_item (map (operand_of l) (v ∷ vs)) made.has.item) ++ Make (small.Listed (listed.Make made.of.n)) ∷ []) (before o w).found
        (come_both OfListed (pass_asks (layout t) (map (operand_of l) (v ∷ vs)) (each_item (map (operand_of l) (v ∷ vs)) made.has.item)) (Make (small.Listed (listed.Make made.of.n)) ∷ [])
        (pass_come OfListed (layout t) (map (operand_of l) (v ∷ vs)) (each_item (map (operand_of l) (v ∷ vs)) made.has.item)) (tt, tt)) (early t typed n graph o is w from to room) late)
        (lowers (world t) (row.List site) (place_of l o.result) (map (operand_of l) (v ∷ vs)) (before o w) refl (display_class site (world t) (place_of l o.result) (map (operand_of l) (v ∷ vs)) (before o w)))
        (λ g core meant xs memory given. raised_only (has_exceptions t.known.annotation n o) (is_covered o.covered) (op t.seen.program o.covered (row.List site) xs meant) (raising t typed n graph o is (row.List site) is_row (λ k. refl)) (display_is_quiet t.seen.program site o.covered xs meant))
        (λ g core meant vs memory given good. tt)
        (lists_are_made site t.seen (world t).around (place_of l o.result) (map (operand_of l) (v ∷ vs)) (before o w) o.covered made.of.n made.has.item made.list made.has.is (has.settled n v a under) typed.small.no_tuple
        (all_come t n graph (v ∷ vs) (a.e ∷ es) (Next a more)) (all_pass t typed n graph site made.has.item has items (v ∷ vs) (a.e ∷ es) (Next a more) fits.met))

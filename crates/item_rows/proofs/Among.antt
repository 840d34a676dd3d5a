-- Whether values are among the items of lists.
use Rattle.std.proofs.Common.{◌≡◌, ℕ, Bool, List, [], ◌∷◌, ◌++◌, map, Some, None, refl, sym, ap, ◌∙◌, subst}
use Rattle.std.specs.Prelude.{slice_get, Option}
use Rattle.ann_lattice.specs.Row as rows
use Rattle.ann_lattice.specs.Shape.{Nothing, Shape, Truth, shape}
use Rattle.csub_tree.specs.State.{Core}
use Rattle.rpy_tree.specs.Value.{Value as Meant, Text, Ref, Tuple, Heap, Nothing as Missing}
use Rattle.rpy_meaning.specs.declared.row.Covers.{Covers}
use Rattle.rpy_meaning.specs.declared.row.RowOp.TheVariants as row
use Rattle.rpy_meaning.specs.Operations.{op}
use Rattle.rpy_meaning.specs.Tree.{Program}
use Rattle.rpy_meaning.specs.World.{World}
use Rattle.rtyper_class.specs.Lowering.{lowered as class_lowered, of_some, of_two, other}
use Rattle.rtyper_class.specs.Seen.{World as Around}
use Rattle.rtyper_data.specs.Seen.{Operand, Place, Writing}
use Rattle.rtyper_data.specs.declared.small.Listed.TheVariants as listed
use Rattle.rtyper_data.specs.declared.small.Small.TheVariants as small
use Rattle.rtyper_layout.specs.Kinds.{kind_seen}
use Rattle.rtyper_layout.specs.Types.{type_seen}
use Rattle.rtyper_list.specs.Lowering.{lower_list_op}
use Rattle.rtyper_list.specs.Operands.{of_list}
use Rattle.rtyper_program.specs.Raises.{is_covered}
use Rattle.rtyper_program.specs.Seen.{element_at, operand_of, place_of}
use Rattle.lower_laws.specs.Asked.{Ask, Make}
use Rattle.list_laws.specs.Lists.{there_asks}
use Rattle.object_laws.specs.Ghost.{Ghost}
use Rattle.object_laws.specs.Represents.{Represents}
use Rattle.rtyped_runs.specs.Laws.{before}
use Rattle.typed_rows.specs.Programs.{IsTyped, Typed, layout, setting, world}
use Rattle.typed_rows.specs.Rows.{lowered_in}
use Rattle.list_rows.proofs.Fitting.{above_truths, row_fits}
use Rattle.list_rows.proofs.Lists.{second_told, is_item_of, lists_are_of}
use Rattle.list_rows.proofs.Lowering.{no_dict}
use Rattle.list_rows.proofs.Operands.{Above, Takes, two}
use Rattle.list_rows.proofs.Shapes.{kind_at}
use Rattle.list_rows.proofs.Throwing.{Only, attribute_quiet}
use Rattle.list_rows.proofs.Writing.{raising}
use Rattle.std.specs.Prelude.{◌+◌, not, option_map}
use Rattle.csub_tree.specs.State.{Value}
use Rattle.csub_tree.specs.declared.tree.COperand.{COperand}
use Rattle.csub_tree.specs.declared.tree.COperand.TheVariants.{Var}
use Rattle.ll_build.specs.declared.needs.Helper.TheVariants as helper
use Rattle.ll_code.specs.declared.program.LlType.{LlType}
use Rattle.ll_code.specs.declared.program.LlType.TheVariants as type
use Rattle.list_helpers.specs.Listing.{list_graph}
use Rattle.list_loops.specs.Loops.{contains, same_item}
use Rattle.list_shape.specs.Shapes.{item_of}
use Rattle.rpy_tree.specs.declared.syntax.CmpOp.TheVariants as cmp
use Rattle.rpy_meaning.specs.Operations.{within}
use Rattle.rpy_meaning.specs.Sequences.{is_in_object}
use Rattle.rpy_meaning.specs.World.{flag_if_any}
use Rattle.rtyper_data.specs.declared.found.Found.{Found}
use Rattle.rtyper_data.specs.Finding.{small_number}
use Rattle.rtyper_layout.specs.Types.{field_type, word}
use Rattle.rtyper_program.specs.Raises.{has_exceptions}
use Rattle.lower_laws.specs.Asked.{Help, Raise, all_asked}
use Rattle.conversion_laws.specs.Asked.{equal_asks}
use Rattle.conversion_laws.proofs.Testing.{asks_are, equal_is}
use Rattle.growth_laws.specs.Growing.{Grows}
use Rattle.growth_laws.proofs.Data.{then_grows}
use Rattle.growth_laws.proofs.Growing.{same_found, smalls_grow}
use Rattle.helper_stands.proofs.Asks.{list_asks_stand}
use Rattle.list_copy_laws.proofs.Among.{not_within_is, within_is}
use Rattle.list_laws.specs.Asked as lists
use Rattle.list_laws.specs.Asked.{HasContains}
use Rattle.object_laws.specs.Done.{AllAsked, Any}
use Rattle.rtyped_laws.specs.Having.{raised_in}
use Rattle.rtyped_laws.proofs.Programs.{asked_is_had}
use Rattle.rtyped_runs.specs.Laws.{StandsSo, of_lists}
use Rattle.typed_rows.specs.Programs.{first, last, numbers}
use Rattle.value_rows.proofs.Asking.{helper_stands}
use Rattle.list_rows.proofs.Lowering.{lowers}
use Rattle.list_rows.proofs.Throwing.{raised_only}
use Rattle.list_rows.proofs.Writing.{AllMade, there_made}
use Rattle.item_rows.specs.Rows.{MembershipsAreWritten}
use Rattle.item_rows.proofs.Behind.{by_told, early}

-- ---- that the graph that looks for a value stands

-- small graphs alone
abbrev OnlyMade : List Ask → Type 0
OnlyMade [] = Unit {0}
OnlyMade (Make s ∷ asks) = OnlyMade asks
OnlyMade other = ⊥

all_grow : (asks : List Ask) → OnlyMade asks → (found : Found) → Grows found (all_asked asks found)
all_grow [] h found = same_found found
all_grow (Make s ∷ asks) h found = then_grows (smalls_grow s found) (all_grow asks h (small_number s found).1)
all_grow (Help a ∷ asks) h found = absurd h
all_grow (Raise a ∷ asks) h found = absurd h

with_last : (u : LlType) (n : ℕ) (asks : List Ask) → AllMade asks → OnlyMade (asks ++ Make (small.Listed (listed.Contains u n)) ∷ [])
with_last u n [] h = tt
with_last u n (Make s ∷ asks) h = with_last u n asks h.1
with_last u n (Help a ∷ asks) h = absurd h
with_last u n (Raise a ∷ asks) h = absurd h

module _ (t : Typed) (typed : IsTyped t) (u : LlType) (n : ℕ) where
  raised_is : raised_in (world t) ≡ t.seen.exception
  raised_is = λ i class. (sym (typed.classes.is_of.exception class)) i

  contains_found : (made : Found) → (list_graph (layout t) (listed.Contains u n) made).1 ≡ all_asked (equal_asks (layout t) (item_of (layout t) (word (n + 1))) u) made
  unfolding contains same_item
  contains_found made = ap (λ (m : COperand × Writing). m.1.found) (equal_is (layout t) (item_of (layout t) (word (n + 1))) u _ (Var 0) _) ∙ asks_are (layout t) (item_of (layout t) (word (n + 1))) u _

  contains_stands : (core : Core) (g : Ghost) (heap : Heap) → Represents (layout t) t.seen g heap core.steps core.blocks core.statics → (u ≡ type.Ptr 0 → item_of (layout t) (word (n + 1)) ≡ type.Ptr 0) → (found : Found) → Grows (small_number (small.Listed (listed.Contains u n)) found).1 (last t)
      → HasContains t.p (layout t) (numbers t) t.seen.exception core u n (small_number (small.Listed (listed.Contains u n)) found).0
  contains_stands core g heap memory items found late =
      let s = (asked_is_had t.known t.classes (layout t) t.p t.made).smalls typed.small.graphs (small.Listed (listed.Contains u n)) found late in
      record {
        made = s.made;
        graph = s.graph;
        texts = λ e. helper_stands t.known t.classes t.p t.made t.seen typed.small.graphs typed.small.structs typed.small.texts helper.StrEqual s.made refl refl
            (subst (λ (k : LlType). Grows (all_asked (equal_asks (layout t) (type.Ptr 0) k) s.made) (last t)) e (subst (λ (k : LlType). Grows (all_asked (equal_asks (layout t) k u) s.made) (last t)) (items e) (subst (λ (f : Found). Grows f (last t)) (contains_found s.made) s.grows))) g heap core memory;
      }

  one_among : (core : Core) (g : Ghost) (heap : Heap) → Represents (layout t) t.seen g heap core.steps core.blocks core.statics → (u ≡ type.Ptr 0 → item_of (layout t) (word (n + 1)) ≡ type.Ptr 0) → (asks : List Ask) → AllMade asks → (found : Found) → Grows (first t) found
      → Grows (all_asked (asks ++ Make (small.Listed (listed.Contains u n)) ∷ []) found) (last t) → AllAsked (lists.Has t.p (layout t) (numbers t) t.seen.exception core) (asks ++ Make (small.Listed (listed.Contains u n)) ∷ []) found
  one_among core g heap memory items [] made found early late = (contains_stands core g heap memory items found late, tt)
  one_among core g heap memory items (Make s ∷ asks) made found early late =
      let next : Found = (small_number s found).1 in (
        (subst (λ (raised : ℕ → Value). AllAsked (lists.Has t.p (layout t) (numbers t) raised core) (Make s ∷ []) found) raised_is
            (list_asks_stand t.known t.classes t.p t.made t.seen typed.small.graphs typed.small.structs typed.small.texts (Make s ∷ []) found (made.0, tt) early (then_grows (all_grow (asks ++ Make (small.Listed (listed.Contains u n)) ∷ []) (with_last u n asks made.1) next) late) g heap core memory)).0,
        one_among core g heap memory items asks made.1 next (then_grows early (smalls_grow s found)) late,
      )
  one_among core g heap memory items (Help h ∷ asks) made found early late = absurd made
  one_among core g heap memory items (Raise h ∷ asks) made found early late = absurd made

  pub among_stands : (asks : List Ask) → AllMade asks → (found : Found) → (u ≡ type.Ptr 0 → item_of (layout t) (word (n + 1)) ≡ type.Ptr 0) → Grows (first t) found → Grows (all_asked (asks ++ Make (small.Listed (listed.Contains u n)) ∷ []) found) (last t)
      → StandsSo (setting t) (of_lists (world t) t.p (numbers t) t.seen.exception) (asks ++ Make (small.Listed (listed.Contains u n)) ∷ []) found
  among_stands asks made found items early late core g heap left memory same = one_among core g heap (subst (λ (k : ℕ). Represents (layout t) t.seen g heap k core.blocks core.statics) same memory) items asks made found early late

-- ---- what it throws

flag_quiet : (raises : Bool) (o : Option Bool) (w : World) → Only raises (flag_if_any o w)
flag_quiet raises None w = tt
flag_quiet raises (Some b) w = tt

within_quiet : (c : Covers) (f : Bool → Bool) (x y : Meant) (w : World) → Only (is_covered c) (within c f x y w)
within_quiet c f (Text part) (Text text) w = tt
within_quiet c f x (Ref r) w = flag_quiet (is_covered c) (option_map f (is_in_object x (slice_get w.heap r))) w
within_quiet c f x (Tuple vs) w = tt
within_quiet c f x Missing w = attribute_quiet c w.heap w refl
within_quiet c f x y w = tt

found_quiet : (program : Program) (c : Covers) (vs : List Meant) (w : World) → Only (is_covered c) (op program c (row.Compare cmp.Within) vs w)
found_quiet program c [] w = tt
found_quiet program c (x ∷ []) w = tt
found_quiet program c (x ∷ y ∷ []) w = within_quiet c (λ b. b) x y w
found_quiet program c (x ∷ y ∷ z ∷ vs) w = tt

missed_quiet : (program : Program) (c : Covers) (vs : List Meant) (w : World) → Only (is_covered c) (op program c (row.Compare cmp.NotWithin) vs w)
missed_quiet program c [] w = tt
missed_quiet program c (x ∷ []) w = tt
missed_quiet program c (x ∷ y ∷ []) w = within_quiet c not x y w
missed_quiet program c (x ∷ y ∷ z ∷ vs) w = tt

found_takes : Takes 2 (row.Compare cmp.Within)
found_takes t [] other = refl
found_takes t (a ∷ []) other = refl
found_takes t (a ∷ b ∷ []) other = absurd (other refl)
found_takes t (a ∷ b ∷ c ∷ []) other = refl
found_takes t (a ∷ b ∷ c ∷ d ∷ xs) other = refl

found_class : (around : Around) (place : Place) (a b : Operand) (w : Writing) → class_lowered around (row.Compare cmp.Within) place (a ∷ b ∷ []) w ≡ lower_list_op around.around (row.Compare cmp.Within) place (a ∷ b ∷ []) w
unfolding class_lowered of_some of_two
found_class around place a b w = refl

pub found_are_written : MembershipsAreWritten cmp.Within
found_are_written t typed n graph o is_row is told w from to room =
    let it = two t n o (row.Compare cmp.Within) is_row is found_takes (λ w a g node xs. refl) in
    let list = lists_are_of t typed n it.u it.b (second_told t n of_list o it.v it.u [] it.b it.args_are told.0) in
    let l = lowered_in t n graph in
    let fit : Above t (rows.within (shape it.a.e) (shape it.b.e) Nothing) (shape is.result) = (row_fits t.whole t.assigned n o.node (row.Compare cmp.Within) (shape it.a.e ∷ shape it.b.e ∷ []) (shape is.result) it.fits refl it.some).0 in
    let flag = above_truths t.whole.tables.classes t.assigned.same (shape is.result) (subst (λ (y : Shape). Above t (rows.within (shape it.a.e) y Nothing) (shape is.result)) list.of.shape_is fit) it.fits.free in
    let alike = told.1 it.v it.u list.has.item (ap (λ (args : List ℕ). slice_get args 0) it.args_are) (ap (λ (args : List ℕ). slice_get args 1) it.args_are) (is_item_of t n it.u it.b list) in
    let asks = there_asks (world t).around (operand_of l it.u) o.covered ++ Make (small.Listed (listed.Contains (type_seen (layout t) (element_at t.known.annotation n it.v)) list.of.n)) ∷ [] in
    by_told t typed n graph o is w from to room of_lists Any 0 (there_asks (world t).around (operand_of l it.u) o.covered ++ Make (small.Listed (listed.Contains (type_seen (layout t) (element_at t.known.annotation n it.v)) list.of.n)) ∷ []) (row.Compare cmp.Within) (operand_of l it.v ∷ operand_of l it.u ∷ [])
    (lower_list_op (world t).around (row.Compare cmp.Within) (place_of l o.result) (operand_of l it.v ∷ operand_of l it.u ∷ []) (before o w)) is_row (ap (map (operand_of l)) it.args_are)
    (λ late. among_stands t typed (type_seen (layout t) (element_at t.known.annotation n it.v)) list.of.n (there_asks (world t).around (operand_of l it.u) o.covered) (there_made (world t).around (operand_of l it.u) o.covered) (before o w).found
    (λ e. list.has.typed ∙ ap field_type (alike.1.1 ∙ e)) (early t typed n graph o is w from to room) late)
    (lowers (world t) (row.Compare cmp.Within) (place_of l o.result) (operand_of l it.v ∷ operand_of l it.u ∷ []) (before o w) (no_dict (operand_of l it.u) list.kind) (found_class (world t) (place_of l o.result) (operand_of l it.v) (operand_of l it.u) (before o w)))
    (λ g core meant xs memory given. raised_only (has_exceptions t.known.annotation n o) (is_covered o.covered) (op t.seen.program o.covered (row.Compare cmp.Within) xs meant) (raising t typed n graph o is (row.Compare cmp.Within) is_row (λ k. refl)) (found_quiet t.seen.program o.covered xs meant))
    (λ g core meant vs memory given good. tt)
    (within_is t.seen (world t).around (place_of l o.result) (operand_of l it.v) (operand_of l it.u) (before o w) list.of.n list.has.item alike.0 alike.1.0 alike.1.1 list.list (ap kind_seen is.result_is ∙ kind_at is.result (Truth flag.0) flag.1))

missed_takes : Takes 2 (row.Compare cmp.NotWithin)
missed_takes t [] other = refl
missed_takes t (a ∷ []) other = refl
missed_takes t (a ∷ b ∷ []) other = absurd (other refl)
missed_takes t (a ∷ b ∷ c ∷ []) other = refl
missed_takes t (a ∷ b ∷ c ∷ d ∷ xs) other = refl

missed_class : (around : Around) (place : Place) (a b : Operand) (w : Writing) → class_lowered around (row.Compare cmp.NotWithin) place (a ∷ b ∷ []) w ≡ lower_list_op around.around (row.Compare cmp.NotWithin) place (a ∷ b ∷ []) w
unfolding class_lowered of_some of_two
missed_class around place a b w = refl

pub missed_are_written : MembershipsAreWritten cmp.NotWithin
missed_are_written t typed n graph o is_row is told w from to room =
    let it = two t n o (row.Compare cmp.NotWithin) is_row is missed_takes (λ w a g node xs. refl) in
    let list = lists_are_of t typed n it.u it.b (second_told t n of_list o it.v it.u [] it.b it.args_are told.0) in
    let l = lowered_in t n graph in
    let fit : Above t (rows.within (shape it.a.e) (shape it.b.e) Nothing) (shape is.result) = (row_fits t.whole t.assigned n o.node (row.Compare cmp.NotWithin) (shape it.a.e ∷ shape it.b.e ∷ []) (shape is.result) it.fits refl it.some).0 in
    let flag = above_truths t.whole.tables.classes t.assigned.same (shape is.result) (subst (λ (y : Shape). Above t (rows.within (shape it.a.e) y Nothing) (shape is.result)) list.of.shape_is fit) it.fits.free in
    let alike = told.1 it.v it.u list.has.item (ap (λ (args : List ℕ). slice_get args 0) it.args_are) (ap (λ (args : List ℕ). slice_get args 1) it.args_are) (is_item_of t n it.u it.b list) in
    let asks = there_asks (world t).around (operand_of l it.u) o.covered ++ Make (small.Listed (listed.Contains (type_seen (layout t) (element_at t.known.annotation n it.v)) list.of.n)) ∷ [] in
    by_told t typed n graph o is w from to room of_lists Any 0 (there_asks (world t).around (operand_of l it.u) o.covered ++ Make (small.Listed (listed.Contains (type_seen (layout t) (element_at t.known.annotation n it.v)) list.of.n)) ∷ []) (row.Compare cmp.NotWithin) (operand_of l it.v ∷ operand_of l it.u ∷ [])
    (lower_list_op (world t).around (row.Compare cmp.NotWithin) (place_of l o.result) (operand_of l it.v ∷ operand_of l it.u ∷ []) (before o w)) is_row (ap (map (operand_of l)) it.args_are)
    (λ late. among_stands t typed (type_seen (layout t) (element_at t.known.annotation n it.v)) list.of.n (there_asks (world t).around (operand_of l it.u) o.covered) (there_made (world t).around (operand_of l it.u) o.covered) (before o w).found
    (λ e. list.has.typed ∙ ap field_type (alike.1.1 ∙ e)) (early t typed n graph o is w from to room) late)
    (lowers (world t) (row.Compare cmp.NotWithin) (place_of l o.result) (operand_of l it.v ∷ operand_of l it.u ∷ []) (before o w) (no_dict (operand_of l it.u) list.kind) (missed_class (world t) (place_of l o.result) (operand_of l it.v) (operand_of l it.u) (before o w)))
    (λ g core meant xs memory given. raised_only (has_exceptions t.known.annotation n o) (is_covered o.covered) (op t.seen.program o.covered (row.Compare cmp.NotWithin) xs meant) (raising t typed n graph o is (row.Compare cmp.NotWithin) is_row (λ k. refl)) (missed_quiet t.seen.program o.covered xs meant))
    (λ g core meant vs memory given good. tt)
    (not_within_is t.seen (world t).around (place_of l o.result) (operand_of l it.v) (operand_of l it.u) (before o w) list.of.n list.has.item alike.0 alike.1.0 alike.1.1 list.list (ap kind_seen is.result_is ∙ kind_at is.result (Truth flag.0) flag.1))

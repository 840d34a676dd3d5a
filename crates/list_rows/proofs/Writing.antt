-- Operations on lists are written as their laws say, in a program that has types.
use Rattle.std.proofs.Common.{◌≡◌, ◌<◌, ◌≤◌, ℕ, Bool, true, false, List, [], ◌∷◌, ◌++◌, length, map, refl, sym, ap, ◌∙◌, subst}
use Rattle.csub_tree.specs.State.{Value, Core}
use Rattle.flow_graph.specs.declared.graph.Graph.{Graph}
use Rattle.flow_graph.specs.declared.graph.Op.{Op}
use Rattle.ll_code.specs.declared.program.LlType.{LlType}
use Rattle.rpy_tree.specs.Value.{Value as Meant}
use Rattle.rpy_meaning.specs.declared.row.Covers.{Covers}
use Rattle.rpy_meaning.specs.declared.row.RowOp.{RowOp}
use Rattle.rpy_meaning.specs.Operations.{op}
use Rattle.rpy_meaning.specs.World.{World as MeantWorld}
use Rattle.rtyper_layout.specs.declared.kind.Kind.{Kind}
use Rattle.rtyper_data.specs.declared.found.Found.{Found}
use Rattle.rtyper_data.specs.declared.small.Listed.TheVariants as listed
use Rattle.rtyper_data.specs.declared.small.Small.TheVariants as small
use Rattle.rtyper_data.specs.Seen.{Around, Operand, Writing, kind_of, type_of}
use Rattle.rtyper_class.specs.Lowering.{lowered as class_lowered}
use Rattle.rtyper_dict.specs.Lowering.{is_of_dicts}
use Rattle.rtyper_list.specs.Lowering.{lower_list_op}
use Rattle.rtyper_list.specs.Operands.{of_list_or_none}
use Rattle.rtyper_program.specs.Blocks.{lowered, op_of}
use Rattle.rtyper_program.specs.Graphs.{variables}
use Rattle.rtyper_program.specs.Raises.{first_kind, has_exceptions, is_covered, raises_by}
use Rattle.rtyper_program.specs.Seen.{Lowered, operand_of, place_of}
use Rattle.lower_laws.specs.Asked.{Ask, Help, Make, Raise, all_asked, number_of}
use Rattle.object_laws.specs.Done.{AllAsked, Any, IsDoneWhere}
use Rattle.object_laws.specs.Ghost.{Ghost}
use Rattle.object_laws.specs.Represents.{Represents}
use Rattle.object_laws.specs.Values.{Given}
use Rattle.growth_laws.specs.Growing.{Grows}
use Rattle.rtyped_laws.specs.Having.{raised_in}
use Rattle.rtyped_laws.specs.Objects.{OfLists}
use Rattle.helper_stands.specs.Asks.{MayBeAsked}
use Rattle.helper_stands.proofs.Asks.{list_asks_stand}
use Rattle.list_copy_laws.specs.Done.{IsDoneWithin}
use Rattle.list_copy_laws.specs.Extended.{extend_asks}
use Rattle.list_laws.specs.Lists.{if_missing, there_asks}
use Rattle.run_laws.specs.Points.{IsException}
use Rattle.rtyped_runs.specs.Laws.{AreAlways, ExceptionsAreLaid, StandsSo, ThrowsObjects, args_of, before, of_lists}
use Rattle.rtyped_runs.specs.Parts.{OpIsWritten}
use Rattle.rtyped_runs.proofs.Operations.{copied_operations_are_written, told_operations_are_written}
use Rattle.typed_rows.specs.Programs.{IsTyped, Typed, first, last, layout, numbers, setting, world}
use Rattle.typed_rows.specs.Rows.{IsOp, lowered_in}
use Rattle.typed_rows.proofs.Going.{inside}
use Rattle.list_rows.proofs.Lowering.{lowers}
use Rattle.list_rows.proofs.Throwing.{Only, only_thrown, raised_only}

-- ---- what is asked for

-- graphs of lists
abbrev pub AllMade : List Ask → Type 0
AllMade [] = Unit {0}
AllMade (Make s ∷ asks) = OfLists s × AllMade asks
AllMade (Help h ∷ asks) = ⊥
AllMade (Raise h ∷ asks) = ⊥

pub made_both : (asks more : List Ask) → AllMade asks → AllMade more → AllMade (asks ++ more)
made_both [] more h k = k
made_both (Make s ∷ asks) more h k = (h.0, made_both asks more h.1 k)
made_both (Help a ∷ asks) more h k = absurd h
made_both (Raise a ∷ asks) more h k = absurd h

missing_made : (b : Bool) (u : LlType) (c : Covers) → AllMade (if_missing b u c)
missing_made true u c = (refl, tt)
missing_made false u c = tt

pub there_made : (around : Around) (a : Operand) (c : Covers) → AllMade (there_asks around a c)
there_made around a c = missing_made (of_list_or_none (kind_of a)) (type_of around a) c

pub extend_made : (around : Around) (a b : Operand) (n m : ℕ) (c : Covers) → AllMade (extend_asks around a b n m c)
extend_made around a b n m c = made_both (there_asks around a c ++ there_asks around b c) (Make (small.Listed (listed.Extend n m)) ∷ []) (made_both (there_asks around a c) (there_asks around b c) (there_made around a c) (there_made around b c)) (tt, tt)

made_so : (asks : List Ask) (found : Found) → AllMade asks → AllAsked (MayBeAsked OfLists) asks found
made_so [] found h = tt
made_so (Make s ∷ asks) found h = (h.0, made_so asks (number_of (Make s) found).1 h.1)
made_so (Help a ∷ asks) found h = absurd h
made_so (Raise a ∷ asks) found h = absurd h

-- ---- what is covered is no part of growth

pub covered_later : (f g : Found) (c : Covers) → Grows f g → Grows f (record g { covered = c })
covered_later f g c h = record { needs = h.needs; caught = h.caught; together = h.together; statics = h.statics; smalls = h.smalls; sites = h.sites; first = h.first }

pub covered_sooner : (f g : Found) (c : Covers) → Grows (record f { covered = c }) g → Grows f g
covered_sooner f g c h = record { needs = h.needs; caught = h.caught; together = h.together; statics = h.statics; smalls = h.smalls; sites = h.sites; first = h.first }

module _ (t : Typed) (typed : IsTyped t) (n : ℕ) (graph : Graph) (o : Op) (is : IsOp t n o) where
  abbrev pub l : Lowered
  l = lowered_in t n graph

  raised_is : raised_in (world t) ≡ t.seen.exception
  raised_is = λ i class. (sym (typed.classes.is_of.exception class)) i

  -- ---- what is thrown

  builtin : ExceptionsAreLaid (setting t) → (g : Ghost) (core : Core) (w : MeantWorld) → Represents (layout t) t.seen g w.heap w.left core.blocks core.statics → (r : ℕ) → r < 13 → IsException (setting t) g r (t.seen.exception r)
  builtin laid g core w memory r few = let it = laid r few in record { class = r; home = memory.exceptions r it.1.0 few it.1.1; above = it.0 }

  pub throws : ((g : Ghost) (core : Core) (w : MeantWorld) (vs : List Meant) → Represents (layout t) t.seen g w.heap w.left core.blocks core.statics → Given t.seen (world t).around g core (args_of l o) vs → Only (has_exceptions t.known.annotation n o) (op t.seen.program o.covered o.op vs w))
      → ThrowsObjects (setting t) l o
  throws only g core w w' vs r memory given thrown =
      let it = only_thrown (has_exceptions t.known.annotation n o) (op t.seen.program o.covered o.op vs w) r w' (only g core w vs memory given) thrown in
      builtin (is.raising it.0) g core w memory r it.1

  -- whatever is covered, such a row raises only then
  pub raising : (r : RowOp) → o.op ≡ r → ((k : Kind) → raises_by r k true ≡ true) → is_covered o.covered ≡ true → has_exceptions t.known.annotation n o ≡ true
  raising r is_row raises covered = ap (λ (q : RowOp). raises_by q (first_kind t.known.annotation n o.args) (is_covered o.covered)) is_row ∙ ap (raises_by r (first_kind t.known.annotation n o.args)) covered ∙ raises (first_kind t.known.annotation n o.args)

  -- ---- what is written

  module _ (w : Writing) (from : Grows (first t) w.found) (to : Grows (op_of l o w).found (last t)) (room : length (variables t.known (world t) n) ≤ length w.body.types) where
    asks_stand : (asks : List Ask) → Grows (all_asked asks (before o w).found) (last t) → AllMade asks → StandsSo (setting t) (of_lists (world t) t.p (numbers t) t.seen.exception) asks (before o w).found
    asks_stand asks late made core g heap left memory same_left =
        subst (λ (raised : ℕ → Value). AllAsked (of_lists (world t) t.p (numbers t) raised core) asks (before o w).found) raised_is
        (list_asks_stand t.known t.classes t.p t.made t.seen typed.small.graphs typed.small.structs typed.small.texts asks (before o w).found (made_so asks (before o w).found made) (covered_later (first t) w.found o.covered from) late
        g heap core (subst (λ (left : ℕ). Represents (layout t) t.seen g heap left core.blocks core.statics) same_left memory))

    -- by a law of this row with these operands
    pub by_law : (Good : MeantWorld → List Meant → Type 0) (blocks : ℕ) (asks : List Ask) (r : RowOp) (args : List Operand) → o.op ≡ r → args_of l o ≡ args → AllMade asks
        → lowered (world t) r (place_of l o.result) args (before o w) ≡ lower_list_op (world t).around r (place_of l o.result) args (before o w)
        → ((g : Ghost) (core : Core) (w : MeantWorld) (vs : List Meant) → Represents (layout t) t.seen g w.heap w.left core.blocks core.statics → Given t.seen (world t).around g core args vs → Only (has_exceptions t.known.annotation n o) (op t.seen.program o.covered r vs w))
        → AreAlways (setting t) l o Good
        → IsDoneWhere Good (of_lists (world t)) blocks t.seen (world t).around r o.covered asks (lower_list_op (world t).around r (place_of l o.result) args (before o w)) (place_of l o.result) args (before o w)
        → OpIsWritten (setting t) l o w
    unfolding op_of
    by_law Good blocks asks r args is_row are made lowers only always law =
        let there : IsDoneWhere Good (of_lists (world t)) blocks t.seen (world t).around o.op o.covered asks (lowered (world t) o.op (place_of l o.result) (args_of l o) (before o w)) (place_of l o.result) (args_of l o) (before o w) =
        subst (λ (q : RowOp). IsDoneWhere Good (of_lists (world t)) blocks t.seen (world t).around q o.covered asks (lowered (world t) q (place_of l o.result) (args_of l o) (before o w)) (place_of l o.result) (args_of l o) (before o w)) (sym is_row)
        (subst (λ (xs : List Operand). IsDoneWhere Good (of_lists (world t)) blocks t.seen (world t).around r o.covered asks (lowered (world t) r (place_of l o.result) xs (before o w)) (place_of l o.result) xs (before o w)) (sym are)
        (subst (λ (m : Writing). IsDoneWhere Good (of_lists (world t)) blocks t.seen (world t).around r o.covered asks m (place_of l o.result) args (before o w)) (sym lowers) law)) in
        let late : Grows (all_asked asks (before o w).found) (last t) = subst (λ (f : Found). Grows f (last t)) there.asked (covered_sooner (lowered (world t) o.op (place_of l o.result) (args_of l o) (before o w)).found (last t) _ to) in
        told_operations_are_written (of_lists) Good l t.seen t.graphs t.p t.arguments (numbers t) blocks o asks w typed.small.has (inside t n graph o is w room)
        (throws (λ g core meant vs memory given.
        subst (λ (q : RowOp). Only (has_exceptions t.known.annotation n o) (op t.seen.program o.covered q vs meant)) (sym is_row)
        (only g core meant vs memory (subst (λ xs. Given t.seen (world t).around g core xs vs) are given))))
        always (asks_stand asks late made) there

    -- by a law of what copies items
    pub by_copy : (most : MeantWorld → List Meant → ℕ) (asks : List Ask) (r : RowOp) (args : List Operand) → o.op ≡ r → args_of l o ≡ args → AllMade asks
        → lowered (world t) r (place_of l o.result) args (before o w) ≡ lower_list_op (world t).around r (place_of l o.result) args (before o w)
        → ((g : Ghost) (core : Core) (meant : MeantWorld) (vs : List Meant) → Represents (layout t) t.seen g meant.heap meant.left core.blocks core.statics → Given t.seen (world t).around g core args vs → Only (has_exceptions t.known.annotation n o) (op t.seen.program o.covered r vs meant))
        → IsDoneWithin most t.seen (world t).around r o.covered asks (place_of l o.result) args (before o w)
        → OpIsWritten (setting t) l o w
    unfolding op_of
    by_copy most asks r args is_row are made is_lowered only law =
        let there : IsDoneWithin most t.seen (world t).around o.op o.covered asks (place_of l o.result) (args_of l o) (before o w) =
        subst (λ (q : RowOp). IsDoneWithin most t.seen (world t).around q o.covered asks (place_of l o.result) (args_of l o) (before o w)) (sym is_row)
        (subst (λ (xs : List Operand). IsDoneWithin most t.seen (world t).around r o.covered asks (place_of l o.result) xs (before o w)) (sym are) law) in
        let so : lowered (world t) o.op (place_of l o.result) (args_of l o) (before o w) ≡ lower_list_op (world t).around o.op (place_of l o.result) (args_of l o) (before o w) =
        subst (λ (q : RowOp). lowered (world t) q (place_of l o.result) (args_of l o) (before o w) ≡ lower_list_op (world t).around q (place_of l o.result) (args_of l o) (before o w)) (sym is_row)
        (subst (λ (xs : List Operand). lowered (world t) r (place_of l o.result) xs (before o w) ≡ lower_list_op (world t).around r (place_of l o.result) xs (before o w)) (sym are) is_lowered) in
        let late : Grows (all_asked asks (before o w).found) (last t) = subst (λ (f : Found). Grows f (last t)) (ap (λ (m : Writing). m.found) so ∙ there.asked) (covered_sooner (lowered (world t) o.op (place_of l o.result) (args_of l o) (before o w)).found (last t) _ to) in
        copied_operations_are_written l t.seen t.graphs t.p t.arguments (numbers t) most o asks w typed.small.has (inside t n graph o is w room)
        (throws (λ g core meant vs memory given.
        subst (λ (q : RowOp). Only (has_exceptions t.known.annotation n o) (op t.seen.program o.covered q vs meant)) (sym is_row)
        (only g core meant vs memory (subst (λ xs. Given t.seen (world t).around g core xs vs) are given))))
        (asks_stand asks late made) so there

    -- what it throws of operands that are these variables is covered
    abbrev pub Throws : RowOp → List ℕ → Type 0
    Throws r vs = (g : Ghost) (core : Core) (meant : MeantWorld) (xs : List Meant) → Represents (layout t) t.seen g meant.heap meant.left core.blocks core.statics → Given t.seen (world t).around g core (map (operand_of l) vs) xs → Only (is_covered o.covered) (op t.seen.program o.covered r xs meant)

    -- by a law of lists
    pub by_list_law : (blocks : ℕ) (asks : List Ask) (r : RowOp) (vs : List ℕ) → o.op ≡ r → o.args ≡ vs → AllMade asks
        → is_of_dicts r (map (operand_of l) vs) ≡ false → class_lowered (world t) r (place_of l o.result) (map (operand_of l) vs) (before o w) ≡ lower_list_op (world t).around r (place_of l o.result) (map (operand_of l) vs) (before o w)
        → ((k : Kind) → raises_by r k true ≡ true) → Throws r vs
        → IsDoneWhere Any (of_lists (world t)) blocks t.seen (world t).around r o.covered asks (lower_list_op (world t).around r (place_of l o.result) (map (operand_of l) vs) (before o w)) (place_of l o.result) (map (operand_of l) vs) (before o w)
        → OpIsWritten (setting t) l o w
    by_list_law blocks asks r vs is_row are made no_dict as_class raises quiet law =
        by_law Any blocks asks r (map (operand_of l) vs) is_row (ap (map (operand_of l)) are) made (lowers (world t) r (place_of l o.result) (map (operand_of l) vs) (before o w) no_dict as_class)
        (λ g core meant xs memory given. raised_only (has_exceptions t.known.annotation n o) (is_covered o.covered) (op t.seen.program o.covered r xs meant) (raising r is_row raises) (quiet g core meant xs memory given))
        (λ g core meant xs memory given good. tt) law

    pub by_copy_law : (most : MeantWorld → List Meant → ℕ) (asks : List Ask) (r : RowOp) (vs : List ℕ) → o.op ≡ r → o.args ≡ vs → AllMade asks
        → is_of_dicts r (map (operand_of l) vs) ≡ false → class_lowered (world t) r (place_of l o.result) (map (operand_of l) vs) (before o w) ≡ lower_list_op (world t).around r (place_of l o.result) (map (operand_of l) vs) (before o w)
        → ((k : Kind) → raises_by r k true ≡ true) → Throws r vs
        → IsDoneWithin most t.seen (world t).around r o.covered asks (place_of l o.result) (map (operand_of l) vs) (before o w)
        → OpIsWritten (setting t) l o w
    by_copy_law most asks r vs is_row are made no_dict as_class raises quiet law =
        by_copy most asks r (map (operand_of l) vs) is_row (ap (map (operand_of l)) are) made (lowers (world t) r (place_of l o.result) (map (operand_of l) vs) (before o w) no_dict as_class)
        (λ g core meant xs memory given. raised_only (has_exceptions t.known.annotation n o) (is_covered o.covered) (op t.seen.program o.covered r xs meant) (raising r is_row raises) (quiet g core meant xs memory given))
        law

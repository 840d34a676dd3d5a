-- Slices of lists, by bounds that may be absent.
use Rattle.std.proofs.Common.{◌≡◌, ◌<◌, ◌≤◌, ℕ, ◌+◌, ◌^◌, ◌⊎◌, inl, inr, Bool, true, false, ◌||◌, ◌&&◌, List, [], ◌∷◌, ◌++◌, length, Option, Some, None, ℤ, pos, negsuc, refl, sym, ap, ◌∙◌, subst, arith, append_assoc, length-append}
use Rattle.std.specs.Prelude.{slice_get, if◌then◌else◌, take, drop, int_le}
use Rattle.std.proofs.lemmas.Bool.Decides.{nat_tests}
use Rattle.ann_element.specs.declared.element.Element.{Element}
use Rattle.rpy_base.specs.declared.outcome.FailName.TheVariants as fail
use Rattle.csub_tree.specs.State.{Value, Word, Core}
use Rattle.csub_tree.specs.Statement.{operand, operands, any_unset}
use Rattle.csub_tree.specs.declared.tree.COperand.{COperand}
use Rattle.csub_tree.specs.declared.tree.COperand.TheVariants.{Var}
use Rattle.rpy_tree.specs.Value.{Value as Meant, Word as MeantWord, Nothing, Ref, Listed as ListedObject}
use Rattle.rpy_meaning.specs.declared.row.RowOp.{RowOp}
use Rattle.rpy_meaning.specs.declared.row.RowOp.TheVariants as row
use Rattle.rpy_meaning.specs.Operations.{op as meant_op}
use Rattle.rpy_meaning.specs.World.{World, Answer, Fails, on_list, new_list, failure, negative_slice}
use Rattle.rpy_meaning.specs.Sequences.{part, between}
use Rattle.ll_code.specs.State.{Frame, State, At}
use Rattle.ll_code.specs.declared.program.LlType.{LlType}
use Rattle.ll_code.specs.declared.program.LlType.TheVariants as type
use Rattle.ll_code.specs.declared.program.LlOp.{LlOp}
use Rattle.ll_code.specs.declared.program.LlOp.TheVariants as op
use Rattle.ll_code.specs.declared.program.LlExit.{LlExit}
use Rattle.ll_code.specs.declared.program.LlProgram.{LlProgram}
use Rattle.ll_build.specs.declared.needs.Numbers.{Numbers}
use Rattle.rtyper_layout.specs.Layout.{is_list}
use Rattle.rtyper_layout.specs.Types.{word, type_of as element_type}
use Rattle.rtyper_data.specs.declared.found.Found.{Found}
use Rattle.rtyper_data.specs.declared.small.Small.{Small}
use Rattle.rtyper_data.specs.declared.small.Small.TheVariants as small
use Rattle.rtyper_data.specs.declared.small.Listed.TheVariants as listed
use Rattle.rtyper_data.specs.Converting.{by_small}
use Rattle.rtyper_data.specs.Finding.{small_number}
use Rattle.rtyper_op.specs.Lowering.{never_comes, lower_op}
use Rattle.rtyper_data.specs.Seen.{Around, Operand, Place, kind_of, Writing, writing}
use Rattle.list_shape.specs.Shapes.{item_of, taking}
use Rattle.rtyper_list.specs.Displays.{slice, slice_of, slice_between, bounds}
use Rattle.rtyper_list.specs.Lowering.{lowered, slice_or, lower_list_op}
use Rattle.rtyper_list.specs.Operands.{of_list, list_of, list_at, list_if, pointed, give_listed}
use Rattle.lower_laws.specs.Asked.{Ask, Make, all_asked}
use Rattle.lower_laws.specs.Values.{AllBelow, IsBelow}
use Rattle.lower_laws.proofs.Items.{gives_same}
use Rattle.lower_laws.proofs.Stayed.{field_is}
use Rattle.list_laws.specs.Done.{IsDone}
use Rattle.list_laws.specs.Asked.{HasSlice, HasAll}
use Rattle.list_laws.specs.Lists.{IsList, there_asks}
use Rattle.list_laws.proofs.Indexed.{asked_both, has_first, has_more}
use Rattle.list_laws.proofs.Lowered.{list_comes, one_comes, two_come, three_come}
use Rattle.list_laws.proofs.Walked.{two_behind}
use Rattle.object_laws.specs.Known.{Known}
use Rattle.object_laws.specs.Done.{Follows, HasLayout, items_in, references}
use Rattle.object_laws.specs.Ghost.{Ghost, ListOf}
use Rattle.object_laws.specs.Staying.{Stays}
use Rattle.object_laws.specs.Represents.{Represents, ListAt}
use Rattle.object_laws.specs.Values.{Given, EachHolds}
use Rattle.object_laws.proofs.Blocks.{found_set, found_there}
use Rattle.object_laws.proofs.Passing.{operand_kept}
use Rattle.object_laws.proofs.Valued.{Listing, Absent, list_or_none, word_held, stays_typed, stays_there, each_long}
use Rattle.list_copy_laws.specs.Joined.{Takes, AreBounds, ListsAreSliced}
use Rattle.list_copy_laws.proofs.Called.{call_fails}
use Rattle.list_copy_laws.proofs.Extends.{each_stays}
use Rattle.list_copy_laws.proofs.Newly.{after_list, list_given}
use Rattle.list_copy_laws.proofs.Ready.{Went, from_there, Ready, ready}
use Rattle.list_copy_laws.proofs.Slicing.{cut, take_whole, drop_none, sliced, slice_lacks, slice_fails_low, slice_fails_high}

-- what a slice between two words answers
abbrev after_slice : World → List Meant → ℤ → ℤ → Answer
after_slice w items (pos from) (pos to) = after_list w (cut from to items)
after_slice w items (pos from) (negsuc to) = Fails fail.NegativeSlice
after_slice w items (negsuc from) to = Fails fail.NegativeSlice

-- an absent bound is the start, or the end of any list
abbrev end_of_any : ℤ
end_of_any = pos 9223372036854775807

-- ---- the call

module _ (known : Known) (around : Around) (place : Place) (l n : ℕ) (result : Element) (takes : Takes around known place n result) (p : LlProgram) (raised : ℕ → Value) (arguments : List (List ℕ)) (rest : List LlOp) (e : LlExit) (frames : List Frame) (core : Core) (g : Ghost) (most below : ℕ) (world : World)
    (structs : HasLayout p around.layout) (f m : ℕ) (struct : is_list around.layout l ≡ true) (has : HasSlice p around.layout raised l n f)
    (typed : item_of around.layout (word (l + 1)) ≡ item_of around.layout (word (n + 1))) (each_as : (xs : List Value) (vs : List Meant) (g : Ghost) → EachHolds around.layout known g (known.items l) xs vs → EachHolds around.layout known g (known.items n) xs vs)
    (stands : Represents around.layout known g world.heap world.left core.blocks core.statics) (left : world.left ≡ core.steps) (inside : place.variable < m) (room : m < length core.vars) (under : below ≤ m)
    (x y z : COperand) (head : Value) (x_is : operand core.vars x ≡ head) (i : ℕ) (s : ListAt around.layout known g world.heap world.left core.blocks core.statics l i head) (many : length s.items + 1 ≤ most) where
  abbrev Answered : Answer → Type 0
  Answered answer = Follows 2 known around place p arguments (At (op.Call (Some m) f (x ∷ y ∷ z ∷ []) ∷ op.Set place.variable (Var m) ∷ rest) e frames core) rest e frames core g raised most below world answer

  same : (low high : ℤ) → operand core.vars y ≡ Word low → operand core.vars z ≡ Word high → operands core.vars (x ∷ y ∷ z ∷ []) ≡ head ∷ Word low ∷ Word high ∷ []
  same low high y_is z_is = ap (λ q. q ∷ operand core.vars y ∷ operand core.vars z ∷ []) x_is ∙ ap (λ q. head ∷ q ∷ operand core.vars z ∷ []) y_is ∙ ap (λ q. head ∷ Word low ∷ q ∷ []) z_is

  set : (low high : ℤ) → any_unset (head ∷ Word low ∷ Word high ∷ []) ≡ false
  set low high = ap (λ b. b || (false || (false || false))) (found_set core.blocks core.statics head _ s.head_is)

  slices : (low high : ℤ) → operand core.vars y ≡ Word low → operand core.vars z ≡ Word high → Answered (after_slice world s.items low high)
  slices (pos from) (pos to) y_is z_is =
      list_given known around place n takes.list.is takes.list.typed takes.struct p raised arguments rest e frames core g most below world f m (x ∷ y ∷ z ∷ []) (head ∷ Word (pos from) ∷ Word (pos to) ∷ []) (cut from to s.items) (length s.items + 1) (same (pos from) (pos to) y_is z_is) (set (pos from) (pos to)) inside room under
      (slice_lacks p arguments around.layout known raised structs l n struct takes.struct f has typed each_as g world.heap world.left core stands left i head s from to)
      (λ enough. (many, sliced p arguments around.layout known raised structs l n struct takes.struct f has typed each_as g world.heap world.left core stands left i head s from to enough))
  slices (pos from) (negsuc to) y_is z_is = call_fails (same (pos from) (negsuc to) y_is z_is) (set (pos from) (negsuc to)) (op.Set place.variable (Var m) ∷ rest) (slice_fails_high p arguments around.layout known raised structs l n struct takes.struct f has typed each_as g world.heap world.left core stands left i head s from to)
  slices (negsuc from) to y_is z_is = call_fails (same (negsuc from) to y_is z_is) (set (negsuc from) to) (op.Set place.variable (Var m) ∷ rest) (slice_fails_low p arguments around.layout known raised structs l n struct takes.struct f has typed each_as g world.heap world.left core stands left i head s from (Word to))

-- ---- what a slice means

-- the words that the bounds are
record Between (low high : Bool) (us : List Meant) (from to : ℤ) : Type 0 where
  meant : (known : Known) (w : Writing) (site : ℕ) (i : ℕ) (world : World) (items : List Meant) → length items < 2 ^ 63 → slice_get world.heap i ≡ Some (ListedObject items) → meant_op known.program w.found.covered (row.Slice site low high) (Ref i ∷ us) world ≡ after_slice world items from to
  none : (known : Known) (w : Writing) (site : ℕ) (world : World) → meant_op known.program w.found.covered (row.Slice site low high) (Nothing ∷ us) world ≡ failure w.found.covered.attribute 9 fail.Attribute world

not_below : (n : ℕ) → int_le (pos 0) (pos n) ≡ true
not_below n = grind (arith, nat_tests)

-- the slice of a list by bounds that are none below zero
abbrev sliced_by : Writing → Option ℤ → Option ℤ → ℕ → World → Bool → Answer
sliced_by w low high i world t = (if t then part w.found.covered (between low high) (Ref i) else negative_slice) world

whole : Between false false [] (pos 0) end_of_any
whole = record {
  meant = λ known w site i world items small h. ap (λ o. on_list (λ vs. new_list vs) o world) h ∙ ap (λ vs. after_list world vs) (sym (drop_none (take 9223372036854775807 items) ∙ take_whole 9223372036854775807 items (omega (arith, small))));
  none = λ known w site world. refl;
}

from_on : (z : ℤ) → Between true false (MeantWord z ∷ []) z end_of_any
from_on (pos from) = record {
  meant = λ known w site i world items small h. ap (λ t. sliced_by w (Some (pos from)) None i world (t && true)) (not_below from)
      ∙ ap (λ o. on_list (λ vs. new_list (drop from vs)) o world) h ∙ ap (λ vs. after_list world (drop from vs)) (sym (take_whole 9223372036854775807 items (omega (arith, small))));
  none = λ known w site world. refl;
}
from_on (negsuc from) = record { meant = λ known w site i world items small h. refl; none = λ known w site world. refl }

up_to : (z : ℤ) → Between false true (MeantWord z ∷ []) (pos 0) z
up_to (pos to) = record {
  meant = λ known w site i world items small h. ap (λ t. sliced_by w None (Some (pos to)) i world t) (not_below to)
      ∙ ap (λ o. on_list (λ vs. new_list (take to vs)) o world) h ∙ ap (λ vs. after_list world vs) (sym (drop_none (take to items)));
  none = λ known w site world. refl;
}
up_to (negsuc to) = record { meant = λ known w site i world items small h. refl; none = λ known w site world. refl }

from_to : (z u : ℤ) → Between true true (MeantWord z ∷ MeantWord u ∷ []) z u
from_to (pos from) (pos to) = record {
  meant = λ known w site i world items small h. ap (λ t. sliced_by w (Some (pos from)) (Some (pos to)) i world (t && int_le (pos 0) (pos to))) (not_below from) ∙ ap (λ t. sliced_by w (Some (pos from)) (Some (pos to)) i world t) (not_below to)
      ∙ ap (λ o. on_list (λ vs. new_list (drop from (take to vs))) o world) h;
  none = λ known w site world. refl;
}
from_to (pos from) (negsuc to) = record {
  meant = λ known w site i world items small h. ap (λ t. sliced_by w (Some (pos from)) (Some (negsuc to)) i world (t && false)) (not_below from);
  none = λ known w site world. refl;
}
from_to (negsuc from) (pos to) = record { meant = λ known w site i world items small h. refl; none = λ known w site world. refl }
from_to (negsuc from) (negsuc to) = record { meant = λ known w site i world items small h. refl; none = λ known w site world. refl }

-- ---- the operation

-- the bounds as operands
record Ends (core : Core) (below : ℕ) (low high : Bool) (bs : List Operand) (us : List Meant) : Type 0 where
  from : ℤ
  to : ℤ
  means : Between low high us from to
  from_is : operand core.vars (bounds low high bs).0 ≡ Word from
  to_is : operand core.vars (bounds low high bs).1 ≡ Word to
  from_below : IsBelow below (bounds low high bs).0
  to_below : IsBelow below (bounds low high bs).1

module _ (known : Known) (around : Around) (g : Ghost) (core : Core) (below : ℕ) where
  ends_of : (low high : Bool) (bs : List Operand) (us : List Meant) → AreBounds low high bs → AllBelow below bs → Given known around g core bs us → Ends core below low high bs us
  ends_of false false [] [] are under given = record { from = pos 0; to = end_of_any; means = whole; from_is = refl; to_is = refl; from_below = tt; to_below = tt }
  ends_of true false (b ∷ []) (u ∷ []) are under given = (let h = word_held are given.0 in record {
    from = h.number;
    to = end_of_any;
    means = subst (λ u. Between true false (u ∷ []) h.number end_of_any) (sym h.high) (from_on h.number);
    from_is = h.low;
    to_is = refl;
    from_below = under.0;
    to_below = tt;
  })
  ends_of false true (b ∷ []) (u ∷ []) are under given = (let h = word_held are given.0 in record {
    from = pos 0;
    to = h.number;
    means = subst (λ u. Between false true (u ∷ []) (pos 0) h.number) (sym h.high) (up_to h.number);
    from_is = refl;
    to_is = h.low;
    from_below = tt;
    to_below = under.0;
  })
  ends_of true true (b ∷ c ∷ []) (u ∷ s ∷ []) are under given = (let h = word_held are.0 given.0 in let k = word_held are.1 given.1.0 in record {
    from = h.number;
    to = k.number;
    means = subst (λ u. Between true true (u ∷ s ∷ []) h.number k.number) (sym h.high) (subst (λ s. Between true true (MeantWord h.number ∷ s ∷ []) h.number k.number) (sym k.high) (from_to h.number k.number));
    from_is = h.low;
    to_is = k.low;
    from_below = under.0;
    to_below = under.1.0;
  })
  ends_of false false [] (u ∷ us) are under given = absurd given
  ends_of true false (b ∷ []) [] are under given = absurd given
  ends_of true false (b ∷ []) (u ∷ s ∷ us) are under given = absurd given.1
  ends_of false true (b ∷ []) [] are under given = absurd given
  ends_of false true (b ∷ []) (u ∷ s ∷ us) are under given = absurd given.1
  ends_of true true (b ∷ c ∷ []) [] are under given = absurd given
  ends_of true true (b ∷ c ∷ []) (u ∷ []) are under given = absurd given.1
  ends_of true true (b ∷ c ∷ []) (u ∷ s ∷ r ∷ us) are under given = absurd given.1.1
  ends_of false false (b ∷ bs) us are under given = absurd are
  ends_of true false [] us are under given = absurd are
  ends_of true false (b ∷ c ∷ bs) us are under given = absurd are
  ends_of false true [] us are under given = absurd are
  ends_of false true (b ∷ c ∷ bs) us are under given = absurd are
  ends_of true true [] us are under given = absurd are
  ends_of true true (b ∷ []) us are under given = absurd are
  ends_of true true (b ∷ c ∷ d ∷ bs) us are under given = absurd are

-- what is written for any bounds
slice_comes : (around : Around) (place : Place) (site : ℕ) (low high : Bool) (a : Operand) (bs : List Operand) (w : Writing) → of_list (kind_of a) ≡ true → AreBounds low high bs → lower_list_op around (row.Slice site low high) place (a ∷ bs) w ≡ slice_between around place a (bounds low high bs) (list_at around place) w
unfolding lowered slice_or slice slice_of
slice_comes around place site false false a [] w lists are = one_comes around (row.Slice site false false) place a w (list_comes a lists) ∙ ap (λ t. if t then slice around place false false (a ∷ []) w else lower_op around (row.Slice site false false) place (a ∷ []) w) lists
slice_comes around place site true false a (b ∷ []) w lists are = two_come around (row.Slice site true false) place a b w (list_comes a lists) (ap never_comes are) ∙ ap (λ t. if t then slice around place true false (a ∷ b ∷ []) w else lower_op around (row.Slice site true false) place (a ∷ b ∷ []) w) lists
slice_comes around place site false true a (b ∷ []) w lists are = two_come around (row.Slice site false true) place a b w (list_comes a lists) (ap never_comes are) ∙ ap (λ t. if t then slice around place false true (a ∷ b ∷ []) w else lower_op around (row.Slice site false true) place (a ∷ b ∷ []) w) lists
slice_comes around place site true true a (b ∷ c ∷ []) w lists are = three_come around (row.Slice site true true) place a b c w (list_comes a lists) (ap never_comes are.0) (ap never_comes are.1) ∙ ap (λ t. if t then slice around place true true (a ∷ b ∷ c ∷ []) w else lower_op around (row.Slice site true true) place (a ∷ b ∷ c ∷ []) w) lists
slice_comes around place site false false a (b ∷ bs) w lists are = absurd are
slice_comes around place site true false a [] w lists are = absurd are
slice_comes around place site true false a (b ∷ c ∷ bs) w lists are = absurd are
slice_comes around place site false true a [] w lists are = absurd are
slice_comes around place site false true a (b ∷ c ∷ bs) w lists are = absurd are
slice_comes around place site true true a [] w lists are = absurd are
slice_comes around place site true true a (b ∷ []) w lists are = absurd are
slice_comes around place site true true a (b ∷ c ∷ d ∷ bs) w lists are = absurd are

module _ (site : ℕ) (low high : Bool) (known : Known) (around : Around) (place : Place) (a : Operand) (bs : List Operand) (w : Writing) (l n : ℕ) (item result : Element) (are : AreBounds low high bs) (of : IsList around known a.element l item) (takes : Takes around known place n result) (stay : Stays around.layout known (Some item) (Some result)) where
  abbrev o : RowOp
  o = row.Slice site low high

  it : Ready around a w
  it = ready around a w of.is

  abbrev cuts : Small
  cuts = small.Listed (listed.Slice l n)

  abbrev first : Found
  first = all_asked (there_asks around a w.found.covered) w.found

  abbrev asks : List Ask
  asks = there_asks around a w.found.covered ++ Make cuts ∷ []

  abbrev number : ℕ
  number = (small_number cuts first).0

  abbrev types0 : List LlType
  types0 = w.body.types ++ it.new

  abbrev m1 : ℕ
  m1 = length types0

  abbrev ends : COperand × COperand
  ends = bounds low high bs

  abbrev calls : LlOp
  calls = op.Call (Some m1) number (it.x ∷ ends.0 ∷ ends.1 ∷ [])

  abbrev puts : LlOp
  puts = op.Set place.variable (Var m1)

  list_is : list_of around a ≡ l
  unfolding list_of
  list_is = ap pointed of.typed

  list_there : list_at around place ≡ Some n
  unfolding list_at
  list_there = ap (list_if around.layout) takes.list.typed ∙ ap (λ c. if c then Some n else None) takes.struct

  result_there : element_type around.layout result ≡ type.Void → ⊥
  result_there h = stays_there stay h

  typed : item_of around.layout (word (l + 1)) ≡ item_of around.layout (word (n + 1))
  typed = of.items ∙ field_is (element_type around.layout item) (λ h. result_there (sym (stays_typed stay) ∙ h)) ∙ stays_typed stay ∙ sym (takes.list.items ∙ field_is (element_type around.layout result) result_there)

  each_as : (xs : List Value) (vs : List Meant) (g : Ghost) → EachHolds around.layout known g (known.items l) xs vs → EachHolds around.layout known g (known.items n) xs vs
  each_as xs vs g each = subst (λ seen. EachHolds around.layout known g seen xs vs) (sym takes.list.item_is) (each_stays stay (subst (λ seen. EachHolds around.layout known g seen xs vs) of.item_is each))

  abbrev entered : Writing
  entered = writing first (record { types = types0; ops = w.body.ops ++ it.ops })

  abbrev called_from : ℕ → COperand × Writing → Writing
  called_from k made = taking made (λ x next. give_listed around place (listed.Slice k n) (type.Ptr n) (x ∷ ends.0 ∷ ends.1 ∷ []) next)

  is_written : lower_list_op around o place (a ∷ bs) w ≡ writing (small_number cuts first).1 (record { types = types0 ++ type.Ptr n ∷ []; ops = ((w.body.ops ++ it.ops) ++ calls ∷ []) ++ puts ∷ [] })
  unfolding give_listed by_small
  is_written =
      slice_comes around place site low high a bs w of.is are
      ∙ ap (λ r. slice_between around place a ends r w) list_there
      ∙ ap (called_from (list_of around a)) it.written
      ∙ ap (λ k. called_from k (it.x, entered)) list_is
      ∙ gives_same around place (Var m1) (type.Ptr n) (writing (small_number cuts first).1 (record { types = types0 ++ type.Ptr n ∷ []; ops = (w.body.ops ++ it.ops) ++ calls ∷ [] })) (λ h. absurd (cc)) takes.list.typed

  new_long : length (it.new ++ type.Ptr n ∷ []) ≡ length it.new + 1
  new_long = length-append it.new (type.Ptr n ∷ [])

  m1_is : m1 ≡ length w.body.types + length it.new
  m1_is = length-append w.body.types it.new

  module _ (p : LlProgram) (numbers : Numbers) (raised : ℕ → Value) (arguments : List (List ℕ)) (rest : List LlOp) (e : LlExit) (frames : List Frame) (core : Core) (g : Ghost) (world : World)
      (structs : HasLayout p around.layout) (has : HasAll p around.layout numbers raised core asks w.found)
      (stands : Represents around.layout known g world.heap world.left core.blocks core.statics) (left : world.left ≡ core.steps)
      (room : length w.body.types + length (it.new ++ type.Ptr n ∷ []) ≤ length core.vars) (inside : place.variable < length w.body.types) where
    abbrev Here : State
    Here = At (it.ops ++ (calls ∷ puts ∷ rest)) e frames core

    abbrev Done : List Meant → Type 0
    Done vs = Follows 2 known around place p arguments Here rest e frames core g raised (references world.heap vs) (length w.body.types) world (meant_op known.program w.found.covered o vs world)

    wide : length w.body.types + length it.new ≤ length core.vars
    wide = omega (arith, room, new_long)

    has_there : HasAll p around.layout numbers raised core (there_asks around a w.found.covered) w.found
    has_there = has_first p around numbers raised core (there_asks around a w.found.covered) (Make cuts ∷ []) w.found has

    has_graph : HasSlice p around.layout raised l n number
    has_graph = (has_more p around numbers raised core (there_asks around a w.found.covered) (Make cuts ∷ []) w.found has).0

    module _ (v : Meant) (us : List Meant) (s : Ends core (length w.body.types) low high bs us) where
      missing : Absent a.element (operand core.vars a.x) v → Done (v ∷ us)
      missing gone = subst (λ v. Done (v ∷ us)) (sym gone.high)
          (subst (λ answer. Follows 2 known around place p arguments Here rest e frames core g raised (references world.heap (Nothing ∷ us)) (length w.body.types) world answer) (sym (s.means.none known w site world))
          (it.misses 2 known place p numbers raised arguments (calls ∷ puts ∷ []) rest e frames core core g (references world.heap (Nothing ∷ us)) (length w.body.types) world has_there gone.may gone.low))

      module _ (found_list : Listing around.layout known g a.element (operand core.vars a.x) v) where
        struct : is_list around.layout l ≡ true
        struct = subst (λ k. is_list around.layout k ≡ true) (ap pointed (sym found_list.typed ∙ of.typed)) found_list.struct

        home : slice_get g.homes found_list.i ≡ Some (record { sort = ListOf l; head = operand core.vars a.x })
        home = subst (λ k. slice_get g.homes found_list.i ≡ Some (record { sort = ListOf k; head = operand core.vars a.x })) (ap pointed (sym found_list.typed ∙ of.typed)) found_list.home

        list : ListAt around.layout known g world.heap world.left core.blocks core.statics l found_list.i (operand core.vars a.x)
        list = stands.lists l found_list.i (operand core.vars a.x) home struct

        went : Went p arguments Here (calls ∷ puts ∷ rest) e frames core (length w.body.types) it.x (operand core.vars a.x)
        went = it.enters p numbers raised arguments (calls ∷ puts ∷ rest) e frames core core has_there wide (found_set core.blocks core.statics (operand core.vars a.x) _ list.head_is) (found_there core.blocks core.statics (operand core.vars a.x) _ list.head_is)

        abbrev mid : Core
        mid = went.mid

        stands_mid : Represents around.layout known g world.heap world.left mid.blocks mid.statics
        stands_mid = subst (λ (c : Core). Represents around.layout known g world.heap world.left c.blocks c.statics) (sym went.passed.memory) stands

        left_mid : world.left ≡ mid.steps
        left_mid = left ∙ sym (ap (λ (c : Core). c.steps) went.passed.memory)

        mid_list : ListAt around.layout known g world.heap world.left mid.blocks mid.statics l found_list.i (operand core.vars a.x)
        mid_list = stands_mid.lists l found_list.i (operand core.vars a.x) home struct

        many : length mid_list.items + 1 ≤ references world.heap (Ref found_list.i ∷ us)
        many = (let k : items_in (slice_get world.heap found_list.i) ≡ length mid_list.items = ap items_in mid_list.object in omega (arith, k))

        few : length mid_list.items < 2 ^ 63
        few = (let q : length (mid_list.values ++ mid_list.spare) ≡ length mid_list.values + length mid_list.spare = length-append mid_list.values mid_list.spare in let t = mid_list.long in let u = each_long mid_list.each in omega (arith, q, t, u))

        there_so : Done (v ∷ us)
        unfolding stands_mid mid_list
        there_so = subst (λ v. Done (v ∷ us)) (sym found_list.high)
            (subst (λ answer. Follows 2 known around place p arguments Here rest e frames core g raised (references world.heap (Ref found_list.i ∷ us)) (length w.body.types) world answer) (sym (s.means.meant known w site found_list.i world mid_list.items few mid_list.object))
            (from_there 2 known around place p arguments rest e frames core g raised (references world.heap (Ref found_list.i ∷ us)) (length w.body.types) world (omega arith) went (after_slice world mid_list.items s.from s.to)
            (slices known around place l n result takes p raised arguments rest e frames mid g (references world.heap (Ref found_list.i ∷ us)) (length w.body.types) world structs number m1 struct has_graph typed each_as stands_mid left_mid (omega (arith, inside, m1_is)) (let q = went.passed.room in omega (arith, room, new_long, m1_is, q)) (omega (arith, m1_is))
            it.x ends.0 ends.1 (operand core.vars a.x) went.is found_list.i mid_list many s.from s.to (operand_kept went.passed ends.0 s.from_below ∙ s.from_is) (operand_kept went.passed ends.1 s.to_below ∙ s.to_is))))

      either : Listing around.layout known g a.element (operand core.vars a.x) v ⊎ Absent a.element (operand core.vars a.x) v → Done (v ∷ us)
      either (inl is) = there_so is
      either (inr gone) = missing gone

    follow : AllBelow (length w.body.types) (a ∷ bs) → (vs : List Meant) → Given known around g core (a ∷ bs) vs → Follows 2 known around place p arguments (At ((it.ops ++ (calls ∷ puts ∷ [])) ++ rest) e frames core) rest e frames core g raised (references world.heap vs) (length w.body.types) world (meant_op known.program w.found.covered o vs world)
    follow below [] given = absurd given
    follow below (v ∷ us) given =
        subst (λ l. Follows 2 known around place p arguments (At l e frames core) rest e frames core g raised (references world.heap (v ∷ us)) (length w.body.types) world (meant_op known.program w.found.covered o (v ∷ us) world)) (sym (append_assoc it.ops (calls ∷ puts ∷ []) rest))
        (either v us (ends_of known around g core (length w.body.types) low high bs us are below.1 given.1) (list_or_none of.is given.0))

  slice_done : IsDone known around o w.found.covered asks place (a ∷ bs) w
  slice_done = record {
    ops = it.ops ++ (calls ∷ puts ∷ []);
    new = it.new ++ type.Ptr n ∷ [];
    asked = ap (λ (r : Writing). r.found) is_written ∙ sym (asked_both (there_asks around a w.found.covered) (Make cuts ∷ []) w.found);
    written = ap (λ (r : Writing). r.body.ops) is_written ∙ two_behind w.body.ops it.ops calls puts;
    types = ap (λ (r : Writing). r.body.types) is_written ∙ append_assoc w.body.types it.new (type.Ptr n ∷ []);
    follows = λ p numbers raised arguments rest e frames core g world vs structs has stands left room inside below given good. follow p numbers raised arguments rest e frames core g world structs has stands left room inside below vs given;
  }

pub lists_are_sliced : ListsAreSliced
lists_are_sliced site low high known around place a bs w l n item result are of takes stay = slice_done site low high known around place a bs w l n item result are of takes stay

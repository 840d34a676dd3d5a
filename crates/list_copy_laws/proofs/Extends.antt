-- Lists are extended, by the method and by `+=`.
use Rattle.std.proofs.Common.{◌≡◌, ◌<◌, ◌≤◌, ℕ, ◌+◌, ◌-◌, ◌⊎◌, inl, inr, Bool, true, false, ◌||◌, List, [], ◌∷◌, ◌++◌, length, Option, Some, None, refl, sym, ap, ◌∙◌, subst, arith, append_assoc}
use Rattle.std.specs.Prelude.{slice_get, slice_set, nat_lt, if◌then◌else◌, codes}
use Rattle.ann_element.specs.declared.element.Element.{Element}
use Rattle.rpy_base.specs.declared.outcome.FailName.TheVariants as fail
use Rattle.csub_tree.specs.State.{Value, Flag, Core}
use Rattle.csub_tree.specs.Statement.{operand, operands, any_unset}
use Rattle.csub_tree.specs.Operation.{is_unset}
use Rattle.csub_tree.specs.declared.tree.COperand.{COperand}
use Rattle.rpy_tree.specs.Value.{Value as Meant, Nothing, Ref, Listed}
use Rattle.rpy_meaning.specs.declared.row.RowOp.{RowOp}
use Rattle.rpy_meaning.specs.declared.row.RowOp.TheVariants as row
use Rattle.rpy_meaning.specs.Operations.{op as meant_op, object_method}
use Rattle.rpy_meaning.specs.World.{World, Answer, Gives, Lacks, failure, on_list, with_list, paying, set_object}
use Rattle.rpy_meaning.specs.Costs.{extend_cost}
use Rattle.ll_code.specs.State.{Frame, State, At}
use Rattle.ll_code.specs.declared.program.LlType.TheVariants as type
use Rattle.ll_code.specs.declared.program.LlOp.{LlOp}
use Rattle.ll_code.specs.declared.program.LlOp.TheVariants as op
use Rattle.ll_code.specs.declared.program.LlExit.{LlExit}
use Rattle.ll_code.specs.declared.program.LlProgram.{LlProgram}
use Rattle.ll_build.specs.declared.needs.Numbers.{Numbers}
use Rattle.rtyper_layout.specs.declared.kind.Kind.TheVariants as kind
use Rattle.rtyper_layout.specs.declared.layout.Layout.{Layout}
use Rattle.rtyper_layout.specs.Kinds.{kind_seen}
use Rattle.rtyper_layout.specs.Layout.{is_list}
use Rattle.rtyper_layout.specs.Types.{word, type_of as element_type}
use Rattle.rtyper_data.specs.declared.found.Found.{Found}
use Rattle.rtyper_data.specs.declared.small.Small.{Small}
use Rattle.rtyper_data.specs.declared.small.Small.TheVariants as small
use Rattle.rtyper_data.specs.declared.small.Listed.TheVariants as listed
use Rattle.rtyper_data.specs.Converting.{default_operand, nothing_to}
use Rattle.rtyper_data.specs.Finding.{small_number}
use Rattle.rtyper_op.specs.Lowering.{lower_op}
use Rattle.rtyper_data.specs.Seen.{Around, Operand, Place, type_of, with_op, Writing, writing}
use Rattle.list_shape.specs.Shapes.{item_of, taking}
use Rattle.rtyper_list.specs.Lowering.{lowered, of_some, first_of_two, method_of, method_of_two, method_of_list, lower_list_op}
use Rattle.rtyper_list.specs.Methods.{extend, extended, extend_by, extend_if, method, of_two}
use Rattle.rtyper_list.specs.Operands.{list_of, pointed, there, done_by}
use Rattle.lower_laws.specs.Asked.{Ask, Make, all_asked}
use Rattle.lower_laws.specs.Values.{AllBelow}
use Rattle.lower_laws.proofs.Items.{gives_same}
use Rattle.lower_laws.proofs.Stayed.{field_is}
use Rattle.lower_laws.proofs.Typing.{place_of_none}
use Rattle.list_laws.specs.Done.{IsDone}
use Rattle.list_laws.specs.Asked.{HasExtend, HasAll}
use Rattle.list_laws.specs.Lists.{IsList}
use Rattle.list_laws.proofs.Indexed.{asked_both, has_first, has_more}
use Rattle.list_laws.proofs.Lowered.{list_comes, two_come, first_of_two_is_list}
use Rattle.list_laws.proofs.Walked.{two_behind}
use Rattle.object_laws.specs.Known.{Known}
use Rattle.object_laws.specs.Done.{Follows, HasLayout, items_in, references}
use Rattle.object_laws.specs.Ghost.{Ghost, ListOf}
use Rattle.object_laws.specs.Staying.{Stays}
use Rattle.object_laws.specs.Represents.{Represents, ListAt}
use Rattle.object_laws.specs.Values.{Given, Holds, EachHolds, Empty, More, Alone}
use Rattle.object_laws.proofs.Blocks.{found_set, found_there}
use Rattle.object_laws.proofs.Growing.{holds_grows}
use Rattle.object_laws.proofs.Valued.{Listing, Absent, list_or_none, stays_typed, stays_there, stays_held}
use Rattle.list_copy_laws.specs.Extended.{both_asks, extend_asks, ListsAreExtended, ListsAreAddedTo}
use Rattle.list_copy_laws.proofs.Both.{Both, WentBoth, both_lists}
use Rattle.list_copy_laws.proofs.Called.{call_lacks, nothing_given}
use Rattle.list_copy_laws.proofs.Extending.{extended as extends, extend_lacks}
use Rattle.list_copy_laws.proofs.Ready.{from_there}
use Rattle.list_copy_laws.proofs.Tests.{is_less, not_less}

pub each_stays : {layout : Layout} {known : Known} {g : Ghost} {from to : Option Element} {xs : List Value} {vs : List Meant} → Stays layout known from to → EachHolds layout known g from xs vs → EachHolds layout known g to xs vs
each_stays stay Empty = Empty
each_stays stay (More held each) = More (stays_held stay held) (each_stays stay each)

-- what an extension answers, with this as its value
abbrev after_extend : World → ℕ → List Meant → List Meant → Meant → Answer
after_extend w i items more v = if nat_lt w.left (length more) then Lacks else Gives v (record w { heap = slice_set w.heap i (Listed (items ++ more)); left = w.left - length more })

-- ---- the call, and what the place takes

module _ (known : Known) (around : Around) (place : Place) (p : LlProgram) (raised : ℕ → Value) (arguments : List (List ℕ)) (rest : List LlOp) (e : LlExit) (frames : List Frame) (core : Core) (g : Ghost) (most below : ℕ) (world : World)
    (structs : HasLayout p around.layout) (n m f : ℕ) (struct : is_list around.layout n ≡ true) (struct2 : is_list around.layout m ≡ true) (has : HasExtend p around.layout raised n m f)
    (typed : item_of around.layout (word (m + 1)) ≡ item_of around.layout (word (n + 1))) (each_as : (g : Ghost) (xs : List Value) (vs : List Meant) → EachHolds around.layout known g (known.items m) xs vs → EachHolds around.layout known g (known.items n) xs vs)
    (stands : Represents around.layout known g world.heap world.left core.blocks core.statics) (left : world.left ≡ core.steps) (inside : place.variable < length core.vars)
    (x y z : COperand) (head head2 value : Value) (v : Meant) (x_is : operand core.vars x ≡ head) (y_is : operand core.vars y ≡ head2) (z_is : operand core.vars z ≡ value) (value_set : is_unset value ≡ false) (held : Holds around.layout known g place.element value v)
    (i j : ℕ) (home : slice_get g.homes i ≡ Some (record { sort = ListOf n; head = head })) (home2 : slice_get g.homes j ≡ Some (record { sort = ListOf m; head = head2 })) where
  abbrev here : ListAt around.layout known g world.heap world.left core.blocks core.statics n i head
  here = stands.lists n i head home struct

  abbrev by : ListAt around.layout known g world.heap world.left core.blocks core.statics m j head2
  by = stands.lists m j head2 home2 struct2

  abbrev Answered : Answer → Type 0
  Answered answer = Follows 2 known around place p arguments (At (op.Call None f (x ∷ y ∷ []) ∷ op.Set place.variable z ∷ rest) e frames core) rest e frames core g raised most below world answer

  same : operands core.vars (x ∷ y ∷ []) ≡ head ∷ head2 ∷ []
  same = ap (λ q. q ∷ operand core.vars y ∷ []) x_is ∙ ap (λ q. head ∷ q ∷ []) y_is

  set : any_unset (head ∷ head2 ∷ []) ≡ false
  set = ap (λ b. b || (is_unset head2 || false)) (found_set core.blocks core.statics head _ here.head_is) ∙ ap (λ b. b || false) (found_set core.blocks core.statics head2 _ by.head_is)

  does : length here.items + (length by.items + 1) ≤ most → Answered (after_extend world i here.items by.items v)
  does many = cases (nat_lt world.left (length by.items)) refl
    where
      cases : (c : Bool) → nat_lt world.left (length by.items) ≡ c → Answered (if c then Lacks else Gives v (record world { heap = slice_set world.heap i (Listed (here.items ++ by.items)); left = world.left - length by.items }))
      cases true h = call_lacks same set (op.Set place.variable z ∷ rest)
          (extend_lacks p arguments around.layout known raised structs n m struct struct2 f has typed each_as g world.heap world.left core stands left i head home here j head2 home2 by (is_less world.left (length by.items) h))
      cases false h =
          let it = extends p arguments around.layout known raised structs n m struct struct2 f has typed each_as g world.heap world.left core stands left i head home here j head2 home2 by (not_less world.left (length by.items) h) in
          nothing_given known around place p arguments rest e frames core g it.ghost below world (slice_set world.heap i (Listed (here.items ++ by.items))) (world.left - length by.items) it.blocks it.statics
          (length here.items + (length by.items + 1)) most value v many same set inside it.grown it.stands (let q = it.few in omega (arith, q)) it.returns z_is value_set (holds_grows it.grown held)

-- ---- the operation

-- what the place takes, of the operand of the list, and what that is
record Ends (known : Known) (around : Around) (place : Place) (a : Operand) (flag : Bool) : Type 0 where
  z : COperand → COperand
  value : Value → Value
  result : Meant → Meant
  written : (x : COperand) (w : Writing) → extended around place a x flag w ≡ writing w.found (with_op (op.Set place.variable (z x)) w.body)
  is : (vars : List Value) (x : COperand) (y : Value) → operand vars x ≡ y → operand vars (z x) ≡ value y
  set : (y : Value) → is_unset y ≡ false → is_unset (value y) ≡ false
  holds : (g : Ghost) (y : Value) (v : Meant) → Holds around.layout known g a.element y v → Holds around.layout known g place.element (value y) (result v)

-- what the operation does with two lists, and with `None`
record Adds (known : Known) (o : RowOp) (w : Writing) (result : Meant → Meant) : Type 0 where
  there : (i j : ℕ) (world : World) (items more : List Meant) → slice_get world.heap i ≡ Some (Listed items) → slice_get world.heap j ≡ Some (Listed more) → meant_op known.program w.found.covered o (Ref i ∷ Ref j ∷ []) world ≡ after_extend world i items more (result (Ref i))
  none : (u : Meant) (world : World) → meant_op known.program w.found.covered o (Nothing ∷ u ∷ []) world ≡ failure w.found.covered.attribute 9 fail.Attribute world
  none_second : (i : ℕ) (world : World) (items : List Meant) → slice_get world.heap i ≡ Some (Listed items) → meant_op known.program w.found.covered o (Ref i ∷ Nothing ∷ []) world ≡ failure w.found.covered.attribute 9 fail.Attribute world

module _ (o : RowOp) (known : Known) (around : Around) (place : Place) (a b : Operand) (w : Writing) (n m : ℕ) (item other : Element) (of : IsList around known a.element n item) (of2 : IsList around known b.element m other) (stay : Stays around.layout known (Some other) (Some item)) (flag : Bool) (ends : Ends known around place a flag)
    (adds : Adds known o w ends.result) (l : lower_list_op around o place (a ∷ b ∷ []) w ≡ extend around place a b flag w) where
  it : Both around a b w
  it = both_lists around a b w of.is of2.is

  abbrev grows : Small
  grows = small.Listed (listed.Extend n m)

  abbrev first : Found
  first = all_asked (both_asks around a b w.found.covered) w.found

  abbrev asks : List Ask
  asks = extend_asks around a b n m w.found.covered

  abbrev number : ℕ
  number = (small_number grows first).0

  abbrev calls : LlOp
  calls = op.Call None number (it.x ∷ it.y ∷ [])

  abbrev puts : LlOp
  puts = op.Set place.variable (ends.z it.x)

  list_is : list_of around a ≡ n
  unfolding list_of
  list_is = ap pointed of.typed

  list2_is : list_of around b ≡ m
  unfolding list_of
  list2_is = ap pointed of2.typed

  -- the items of both have one type
  item_there : element_type around.layout item ≡ type.Void → ⊥
  item_there h = stays_there stay h

  other_there : element_type around.layout other ≡ type.Void → ⊥
  other_there h = item_there (sym (stays_typed stay) ∙ h)

  typed : item_of around.layout (word (m + 1)) ≡ item_of around.layout (word (n + 1))
  typed = of2.items ∙ field_is (element_type around.layout other) other_there ∙ stays_typed stay ∙ sym (of.items ∙ field_is (element_type around.layout item) item_there)

  each_as : (g : Ghost) (xs : List Value) (vs : List Meant) → EachHolds around.layout known g (known.items m) xs vs → EachHolds around.layout known g (known.items n) xs vs
  each_as g xs vs each = subst (λ seen. EachHolds around.layout known g seen xs vs) (sym of.item_is) (each_stays stay (subst (λ seen. EachHolds around.layout known g seen xs vs) of2.item_is each))

  abbrev entered : Writing
  entered = writing first (record { types = w.body.types ++ it.new; ops = w.body.ops ++ it.ops })

  abbrev called_from : ℕ → ℕ → COperand → COperand → Writing → Writing
  called_from k q x y last = extended around place a x flag (done_by (listed.Extend k q) (x ∷ y ∷ []) last)

  is_written : lower_list_op around o place (a ∷ b ∷ []) w ≡ writing (small_number grows first).1 (record { types = w.body.types ++ it.new; ops = ((w.body.ops ++ it.ops) ++ calls ∷ []) ++ puts ∷ [] })
  unfolding extend extend_by done_by
  is_written =
      l ∙ ap (λ c. taking (there around a w) (λ x next. extend_if c around place a x b flag next)) of2.is
      ∙ it.written (called_from (list_of around a) (list_of around b))
      ∙ ap (λ k. called_from k (list_of around b) it.x it.y entered) list_is
      ∙ ap (λ k. called_from n k it.x it.y entered) list2_is
      ∙ ends.written it.x (writing (small_number grows first).1 (record { types = w.body.types ++ it.new; ops = (w.body.ops ++ it.ops) ++ calls ∷ [] }))

  module _ (p : LlProgram) (numbers : Numbers) (raised : ℕ → Value) (arguments : List (List ℕ)) (rest : List LlOp) (e : LlExit) (frames : List Frame) (core : Core) (g : Ghost) (world : World)
      (structs : HasLayout p around.layout) (has : HasAll p around.layout numbers raised core asks w.found)
      (stands : Represents around.layout known g world.heap world.left core.blocks core.statics) (left : world.left ≡ core.steps)
      (room : length w.body.types + length it.new ≤ length core.vars) (inside : place.variable < length w.body.types) (below : AllBelow (length w.body.types) (a ∷ b ∷ [])) where
    abbrev Here : State
    Here = At (it.ops ++ (calls ∷ puts ∷ rest)) e frames core

    abbrev Done : List Meant → Type 0
    Done vs = Follows 2 known around place p arguments Here rest e frames core g raised (references world.heap vs) (length w.body.types) world (meant_op known.program w.found.covered o vs world)

    has_both : HasAll p around.layout numbers raised core (both_asks around a b w.found.covered) w.found
    has_both = has_first p around numbers raised core (both_asks around a b w.found.covered) (Make grows ∷ []) w.found has

    has_graph : HasExtend p around.layout raised n m number
    has_graph = (has_more p around numbers raised core (both_asks around a b w.found.covered) (Make grows ∷ []) w.found has).0

    missing : (v u : Meant) → Absent a.element (operand core.vars a.x) v → Done (v ∷ u ∷ [])
    missing v u gone = subst (λ v. Done (v ∷ u ∷ [])) (sym gone.high)
        (subst (λ answer. Follows 2 known around place p arguments Here rest e frames core g raised (references world.heap (Nothing ∷ u ∷ [])) (length w.body.types) world answer) (sym (adds.none u world))
        (it.misses 2 known place p numbers raised arguments (calls ∷ puts ∷ []) rest e frames core g (references world.heap (Nothing ∷ u ∷ [])) world has_both gone.may gone.low))

    module _ (v u : Meant) (held : Holds around.layout known g a.element (operand core.vars a.x) v) (found_list : Listing around.layout known g a.element (operand core.vars a.x) v) where
      struct : is_list around.layout n ≡ true
      struct = subst (λ k. is_list around.layout k ≡ true) (ap pointed (sym found_list.typed ∙ of.typed)) found_list.struct

      home : slice_get g.homes found_list.i ≡ Some (record { sort = ListOf n; head = operand core.vars a.x })
      home = subst (λ k. slice_get g.homes found_list.i ≡ Some (record { sort = ListOf k; head = operand core.vars a.x })) (ap pointed (sym found_list.typed ∙ of.typed)) found_list.home

      list : ListAt around.layout known g world.heap world.left core.blocks core.statics n found_list.i (operand core.vars a.x)
      list = stands.lists n found_list.i (operand core.vars a.x) home struct

      missing_second : Absent b.element (operand core.vars b.x) u → Done (v ∷ u ∷ [])
      missing_second gone = subst (λ v. Done (v ∷ u ∷ [])) (sym found_list.high) (subst (λ u. Done (Ref found_list.i ∷ u ∷ [])) (sym gone.high)
          (subst (λ answer. Follows 2 known around place p arguments Here rest e frames core g raised (references world.heap (Ref found_list.i ∷ Nothing ∷ [])) (length w.body.types) world answer) (sym (adds.none_second found_list.i world list.items list.object))
          (it.misses_second 2 known place p numbers raised arguments (calls ∷ puts ∷ []) rest e frames core g (references world.heap (Ref found_list.i ∷ Nothing ∷ [])) world has_both room below.1.0
          (found_set core.blocks core.statics (operand core.vars a.x) _ list.head_is) (found_there core.blocks core.statics (operand core.vars a.x) _ list.head_is) gone.may gone.low)))

      module _ (second : Listing around.layout known g b.element (operand core.vars b.x) u) where
        struct2 : is_list around.layout m ≡ true
        struct2 = subst (λ k. is_list around.layout k ≡ true) (ap pointed (sym second.typed ∙ of2.typed)) second.struct

        home2 : slice_get g.homes second.i ≡ Some (record { sort = ListOf m; head = operand core.vars b.x })
        home2 = subst (λ k. slice_get g.homes second.i ≡ Some (record { sort = ListOf k; head = operand core.vars b.x })) (ap pointed (sym second.typed ∙ of2.typed)) second.home

        list2 : ListAt around.layout known g world.heap world.left core.blocks core.statics m second.i (operand core.vars b.x)
        list2 = stands.lists m second.i (operand core.vars b.x) home2 struct2

        way : WentBoth p arguments Here (calls ∷ puts ∷ rest) e frames core (length w.body.types) it.x it.y (operand core.vars a.x) (operand core.vars b.x)
        way = it.enters p numbers raised arguments (calls ∷ puts ∷ rest) e frames core has_both room below.0 below.1.0
            (found_set core.blocks core.statics (operand core.vars a.x) _ list.head_is) (found_there core.blocks core.statics (operand core.vars a.x) _ list.head_is)
            (found_set core.blocks core.statics (operand core.vars b.x) _ list2.head_is) (found_there core.blocks core.statics (operand core.vars b.x) _ list2.head_is)

        abbrev mid : Core
        mid = way.went.mid

        stands_mid : Represents around.layout known g world.heap world.left mid.blocks mid.statics
        stands_mid = subst (λ (c : Core). Represents around.layout known g world.heap world.left c.blocks c.statics) (sym way.went.passed.memory) stands

        left_mid : world.left ≡ mid.steps
        left_mid = left ∙ sym (ap (λ (c : Core). c.steps) way.went.passed.memory)

        mid_list : ListAt around.layout known g world.heap world.left mid.blocks mid.statics n found_list.i (operand core.vars a.x)
        mid_list = stands_mid.lists n found_list.i (operand core.vars a.x) home struct

        mid_list2 : ListAt around.layout known g world.heap world.left mid.blocks mid.statics m second.i (operand core.vars b.x)
        mid_list2 = stands_mid.lists m second.i (operand core.vars b.x) home2 struct2

        many : length mid_list.items + (length mid_list2.items + 1) ≤ references world.heap (Ref found_list.i ∷ Ref second.i ∷ [])
        many = (let k : items_in (slice_get world.heap found_list.i) ≡ length mid_list.items = ap items_in mid_list.object in let q : items_in (slice_get world.heap second.i) ≡ length mid_list2.items = ap items_in mid_list2.object in omega (arith, k, q))

        there_both : Done (v ∷ u ∷ [])
        unfolding stands_mid mid_list mid_list2
        there_both = subst (λ v. Done (v ∷ u ∷ [])) (sym found_list.high) (subst (λ u. Done (Ref found_list.i ∷ u ∷ [])) (sym second.high)
            (subst (λ answer. Follows 2 known around place p arguments Here rest e frames core g raised (references world.heap (Ref found_list.i ∷ Ref second.i ∷ [])) (length w.body.types) world answer) (sym (adds.there found_list.i second.i world mid_list.items mid_list2.items mid_list.object mid_list2.object))
            (from_there 2 known around place p arguments rest e frames core g raised (references world.heap (Ref found_list.i ∷ Ref second.i ∷ [])) (length w.body.types) world (omega arith) way.went (after_extend world found_list.i mid_list.items mid_list2.items (ends.result (Ref found_list.i)))
            (does known around place p raised arguments rest e frames mid g (references world.heap (Ref found_list.i ∷ Ref second.i ∷ [])) (length w.body.types) world structs n m number struct struct2 has_graph typed each_as stands_mid left_mid (let q = way.went.passed.room in omega (arith, room, inside, q))
            it.x it.y (ends.z it.x) (operand core.vars a.x) (operand core.vars b.x) (ends.value (operand core.vars a.x)) (ends.result (Ref found_list.i)) way.went.is way.is (ends.is mid.vars it.x (operand core.vars a.x) way.went.is)
            (ends.set (operand core.vars a.x) (found_set core.blocks core.statics (operand core.vars a.x) _ list.head_is)) (ends.holds g (operand core.vars a.x) (Ref found_list.i) (subst (λ v. Holds around.layout known g a.element (operand core.vars a.x) v) found_list.high held)) found_list.i second.i home home2 many))))

      either_second : Listing around.layout known g b.element (operand core.vars b.x) u ⊎ Absent b.element (operand core.vars b.x) u → Done (v ∷ u ∷ [])
      either_second (inl second) = there_both second
      either_second (inr gone) = missing_second gone

    either : (v u : Meant) → Holds around.layout known g a.element (operand core.vars a.x) v → Listing around.layout known g b.element (operand core.vars b.x) u ⊎ Absent b.element (operand core.vars b.x) u → Listing around.layout known g a.element (operand core.vars a.x) v ⊎ Absent a.element (operand core.vars a.x) v → Done (v ∷ u ∷ [])
    either v u held second (inl is) = either_second v u held is second
    either v u held second (inr gone) = missing v u gone

    follow : (vs : List Meant) → Given known around g core (a ∷ b ∷ []) vs → Follows 2 known around place p arguments (At ((it.ops ++ (calls ∷ puts ∷ [])) ++ rest) e frames core) rest e frames core g raised (references world.heap vs) (length w.body.types) world (meant_op known.program w.found.covered o vs world)
    follow [] given = absurd given
    follow (v ∷ []) given = absurd given.1
    follow (v ∷ u ∷ []) given =
        subst (λ l. Follows 2 known around place p arguments (At l e frames core) rest e frames core g raised (references world.heap (v ∷ u ∷ [])) (length w.body.types) world (meant_op known.program w.found.covered o (v ∷ u ∷ []) world)) (sym (append_assoc it.ops (calls ∷ puts ∷ []) rest))
        (either v u given.0 (list_or_none of2.is given.1.0) (list_or_none of.is given.0))
    follow (v ∷ u ∷ s ∷ vs) given = absurd given.1.1

  extend_done : IsDone known around o w.found.covered asks place (a ∷ b ∷ []) w
  extend_done = record {
    ops = it.ops ++ (calls ∷ puts ∷ []);
    new = it.new;
    asked = ap (λ (r : Writing). r.found) is_written ∙ sym (asked_both (both_asks around a b w.found.covered) (Make grows ∷ []) w.found);
    written = ap (λ (r : Writing). r.body.ops) is_written ∙ two_behind w.body.ops it.ops calls puts;
    types = ap (λ (r : Writing). r.body.types) is_written;
    follows = λ p numbers raised arguments rest e frames core g world vs structs has stands left room inside below given good. follow p numbers raised arguments rest e frames core g world structs has stands left room inside below vs given;
  }

-- ---- the method, and `+=`

nothing_ends : (known : Known) (around : Around) (place : Place) (a : Operand) → kind_seen place.element ≡ kind.Nothing → Ends known around place a false
nothing_ends known around place a nothing = record {
  z = λ x. default_operand type.Bool;
  value = λ y. Flag false;
  result = λ v. Nothing;
  written = λ x w. ap (λ t. writing w.found (nothing_to place t w.body)) (place_of_none around.layout place.element nothing);
  is = λ vars x y h. refl;
  set = λ y h. refl;
  holds = λ g y v h. Alone nothing refl refl;
}

list_ends : (known : Known) (around : Around) (place : Place) (a : Operand) (n : ℕ) → type_of around a ≡ type.Ptr n → Stays around.layout known a.element place.element → Ends known around place a true
list_ends known around place a n typed stay = record {
  z = λ x. x;
  value = λ y. y;
  result = λ v. v;
  written = λ x w. gives_same around place x (type_of around a) w (λ h. (let q : type.Ptr n ≡ type.Void = sym typed ∙ h in absurd (cc))) (sym (stays_typed stay));
  is = λ vars x y h. h;
  set = λ y h. h;
  holds = λ g y v h. stays_held stay h;
}

pub lists_are_extended : ListsAreExtended
unfolding lowered method_of method_of_two method_of_list method of_two nothing_ends
lists_are_extended site known around place a b w n m item other of of2 stay nothing = extend_done (row.Method (codes "extend") site) known around place a b w n m item other of of2 stay false (nothing_ends known around place a nothing)
    (record {
      there = λ i j world items more h k. ap (λ o. object_method known.program w.found.covered (codes "extend") i (Ref j ∷ []) o world) h
          ∙ ap (λ o. on_list (λ vs. with_list j (λ us. paying (extend_cost (length us)) (set_object i (Listed (vs ++ us)) Nothing))) o world) h ∙ ap (λ o. on_list (λ us. paying (extend_cost (length us)) (set_object i (Listed (items ++ us)) Nothing)) o world) k;
      none = λ u world. refl;
      none_second = λ i world items h. ap (λ o. object_method known.program w.found.covered (codes "extend") i (Nothing ∷ []) o world) h;
    })
    (two_come around (row.Method (codes "extend") site) place a b w (list_comes a of.is) (list_comes b of2.is) ∙ ap (λ c. if c then extend around place a b false w else lower_op around (row.Method (codes "extend") site) place (a ∷ b ∷ []) w) of.is)

pub lists_are_added_to : ListsAreAddedTo
unfolding lowered of_some first_of_two list_ends
lists_are_added_to known around place a b w n m item other of of2 stay kept = extend_done row.AddTo known around place a b w n m item other of of2 stay true (list_ends known around place a n of.typed kept)
    (record {
      there = λ i j world items more h k. ap (λ o. on_list (λ vs. with_list j (λ us. paying (extend_cost (length us)) (set_object i (Listed (vs ++ us)) (Ref i)))) o world) h ∙ ap (λ o. on_list (λ us. paying (extend_cost (length us)) (set_object i (Listed (items ++ us)) (Ref i))) o world) k;
      none = λ u world. refl;
      none_second = λ i world items h. refl;
    })
    (two_come around row.AddTo place a b w (list_comes a of.is) (list_comes b of2.is) ∙ first_of_two_is_list around row.AddTo place a b w of.is)

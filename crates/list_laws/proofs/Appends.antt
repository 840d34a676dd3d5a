-- Items are appended by the method of lists and by comprehensions.
use Rattle.std.proofs.Common.{◌≡◌, ◌<◌, ◌≤◌, ℕ, ◌+◌, ◌-◌, ◌⊎◌, inl, inr, Bool, true, false, ◌||◌, List, [], ◌∷◌, ◌++◌, length, Option, Some, None, refl, sym, ap, ◌∙◌, subst, arith, append_assoc}
use Rattle.std.specs.Prelude.{slice_get, slice_set, nat_lt, if◌then◌else◌, codes}
use Rattle.std.proofs.lemmas.List.{append-nil, length-set}
use Rattle.ann_element.specs.declared.element.Element.{Element}
use Rattle.rpy_base.specs.declared.outcome.FailName.TheVariants as fail
use Rattle.csub_tree.specs.State.{Value, Null, Core}
use Rattle.csub_tree.specs.Statement.{operand}
use Rattle.csub_tree.specs.declared.tree.COperand.{COperand}
use Rattle.csub_tree.specs.declared.tree.COperand.TheVariants.{Var}
use Rattle.rpy_tree.specs.Value.{Value as Meant, Nothing, Ref, Listed}
use Rattle.rpy_meaning.specs.declared.row.RowOp.{RowOp}
use Rattle.rpy_meaning.specs.declared.row.RowOp.TheVariants as row
use Rattle.rpy_meaning.specs.Operations.{op as meant_op, object_method}
use Rattle.rpy_meaning.specs.Tree.{Program}
use Rattle.rpy_meaning.specs.World.{World, Answer, Gives, Lacks, Bad, failure, on_list, paying, set_object}
use Rattle.rpy_meaning.specs.Costs.{item_cost}
use Rattle.ll_code.specs.State.{Frame, State, At}
use Rattle.ll_code.specs.declared.program.LlType.{LlType}
use Rattle.ll_code.specs.declared.program.LlType.TheVariants as type
use Rattle.ll_code.specs.declared.program.LlOp.{LlOp}
use Rattle.ll_code.specs.declared.program.LlOp.TheVariants as op
use Rattle.ll_code.specs.declared.program.LlExit.{LlExit}
use Rattle.ll_code.specs.declared.program.LlProgram.{LlProgram}
use Rattle.ll_build.specs.declared.needs.Numbers.{Numbers}
use Rattle.ll_leads.specs.Path.{Leads}
use Rattle.ll_leads.proofs.Ways.{on}
use Rattle.rtyper_layout.specs.declared.kind.Kind.{Kind}
use Rattle.rtyper_layout.specs.declared.kind.Kind.TheVariants as kind
use Rattle.rtyper_layout.specs.Kinds.{kind_seen}
use Rattle.rtyper_layout.specs.Layout.{is_list}
use Rattle.rtyper_layout.specs.Types.{word, type_of as element_type}
use Rattle.rtyper_data.specs.declared.found.Found.{Found}
use Rattle.rtyper_data.specs.declared.small.Small.{Small}
use Rattle.rtyper_data.specs.declared.small.Small.TheVariants as small
use Rattle.rtyper_data.specs.declared.small.Listed.TheVariants as listed
use Rattle.rtyper_data.specs.Converting.{by_small, present, given, default_operand, nothing_to}
use Rattle.rtyper_data.specs.Finding.{small_number}
use Rattle.rtyper_op.specs.Lowering.{lower_op}
use Rattle.rtyper_op.specs.Placing.{says_nothing}
use Rattle.rtyper_data.specs.Seen.{Around, Operand, Place, kind_of, type_of, with_op, Writing, writing}
use Rattle.list_shape.specs.Shapes.{item_of, taking}
use Rattle.rtyper_list.specs.Lowering.{lowered, of_some, first_of_two, method_of, method_of_two, method_of_list, lower_list_op}
use Rattle.rtyper_list.specs.Methods.{append, item_given, method, of_two}
use Rattle.rtyper_list.specs.Operands.{of_list, of_list_or_none, list_of, pointed, there, done_by}
use Rattle.lower_laws.specs.Asked.{Ask, Make, all_asked, HasSmall}
use Rattle.lower_laws.specs.Values.{AllBelow}
use Rattle.lower_laws.proofs.Doing.{after}
use Rattle.lower_laws.proofs.Stayed.{field_is}
use Rattle.lower_laws.proofs.Tupled.{given_same}
use Rattle.lower_laws.proofs.Typing.{place_of_none}
use Rattle.list_laws.specs.Done.{IsDone}
use Rattle.list_laws.specs.Asked.{HasAppend, HasAll}
use Rattle.object_laws.specs.Known.{Known}
use Rattle.object_laws.specs.Done.{Follows, HasLayout, items_in, references}
use Rattle.object_laws.specs.Ghost.{Ghost, ListOf}
use Rattle.object_laws.specs.Staying.{Stays}
use Rattle.list_laws.specs.Lists.{IsList, if_missing, there_asks, ItemsAreAppended}
use Rattle.object_laws.specs.Represents.{Represents, ListAt}
use Rattle.object_laws.specs.Values.{Given, Holds}
use Rattle.list_laws.proofs.Appending.{after_append, does}
use Rattle.object_laws.proofs.Blocks.{found_set, found_there}
use Rattle.object_laws.proofs.Held.{gives_placed, gives_holds}
use Rattle.list_laws.proofs.Indexed.{asked_both, has_first, has_more}
use Rattle.list_laws.proofs.Lowered.{list_comes, two_come, first_of_two_is_list}
use Rattle.object_laws.proofs.Passing.{none_passed, sets_more, is_set_at, operand_kept, behind, calls_at, throws_at, fails_at}
use Rattle.lower_laws.proofs.Coming.{Comes}
use Rattle.object_laws.proofs.Present.{present_comes, present_flies, present_fails}
use Rattle.object_laws.proofs.Valued.{stays_comes}
use Rattle.object_laws.proofs.Valued.{Listing, Absent, list_or_none, stays_typed, stays_there, stays_held}

-- what the operation does with a list, and with `None`
pub record Adds (o : RowOp) (w : Writing) : Type 0 where
  pub there : (program : Program) (i : ℕ) (u : Meant) (world : World) (items : List Meant) → slice_get world.heap i ≡ Some (Listed items) → meant_op program w.found.covered o (Ref i ∷ u ∷ []) world ≡ after_append world i items u
  pub none : (program : Program) (u : Meant) (world : World) → (meant_op program w.found.covered o (Nothing ∷ u ∷ []) world ≡ failure w.found.covered.attribute 9 fail.Attribute world) ⊎ (meant_op program w.found.covered o (Nothing ∷ u ∷ []) world ≡ Bad)

module _ (o : RowOp) (known : Known) (around : Around) (place : Place) (a b : Operand) (w : Writing) (n : ℕ) (item : Element) (of : IsList around known a.element n item) (stay : Stays around.layout known b.element (Some item)) (nothing : kind_seen place.element ≡ kind.Nothing)
    (adds : Adds o w) (l : lower_list_op around o place (a ∷ b ∷ []) w ≡ append around place a b w) where
  abbrev appends : Small
  appends = small.Listed (listed.Append n)

  abbrev asks : List Ask
  asks = there_asks around a w.found.covered ++ Make appends ∷ []

  abbrev first : Found
  first = all_asked (there_asks around a w.found.covered) w.found

  abbrev number : ℕ
  number = (small_number appends first).0

  abbrev kept_type : LlType
  kept_type = item_of around.layout (word (n + 1))

  abbrev puts : LlOp
  puts = op.Set place.variable (default_operand type.Bool)

  element_there : element_type around.layout item ≡ type.Void → ⊥
  element_there h = stays_there stay h

  typed : type_of around b ≡ kept_type
  typed = stays_typed stay ∙ sym (of.items ∙ field_is (element_type around.layout item) element_there)

  list_is : list_of around a ≡ n
  unfolding list_of
  list_is = ap pointed of.typed

  abbrev append_from : ℕ → COperand × Writing → Writing
  append_from k made = taking made (λ x next. taking (given around b (item_of around.layout (word (k + 1))) next) (λ y last. says_nothing around place (done_by (listed.Append k) (x ∷ y ∷ []) last)))

  -- once it is known where the list is
  written_from : (x : COperand) (next : Writing) → there around a w ≡ (x, next) → lower_list_op around o place (a ∷ b ∷ []) w ≡ writing (small_number appends next.found).1 (record { types = next.body.types; ops = (next.body.ops ++ op.Call None (small_number appends next.found).0 (x ∷ b.x ∷ []) ∷ []) ++ puts ∷ [] })
  unfolding append item_given done_by
  written_from x next e =
      l ∙ ap (append_from (list_of around a)) e ∙ ap (λ k. append_from k (x, next)) list_is
      ∙ ap (λ made. taking made (λ y last. says_nothing around place (done_by (listed.Append n) (x ∷ y ∷ []) last))) (given_same around b kept_type next typed)
      ∙ ap (λ t. writing (small_number appends next.found).1 (nothing_to place t (with_op (op.Call None (small_number appends next.found).0 (x ∷ b.x ∷ [])) next.body))) (place_of_none around.layout place.element nothing)

  -- ---- once the list is there

  module _ (p : LlProgram) (raised : ℕ → Value) (arguments : List (List ℕ)) (rest : List LlOp) (e : LlExit) (frames : List Frame) (core : Core) (g : Ghost) (world : World)
      (structs : HasLayout p around.layout) (has : HasAppend p around.layout raised n number)
      (stands : Represents around.layout known g world.heap world.left core.blocks core.statics) (left : world.left ≡ core.steps) (inside : place.variable < length core.vars)
      (x : COperand) (head : Value) (x_is : operand core.vars x ≡ head) (i : ℕ) (struct : is_list around.layout n ≡ true) (home : slice_get g.homes i ≡ Some (record { sort = ListOf n; head = head }))
      (value : Value) (u : Meant) (y_is : operand core.vars b.x ≡ value) (held : Holds around.layout known g b.element value u) (program : Program) where
    in_place : Holds around.layout known g (known.items n) value u
    in_place = subst (λ seen. Holds around.layout known g seen value u) (sym of.item_is) (stays_held stay held)

    done : (below : ℕ) → Follows 2 known around place p arguments (At (op.Call None number (x ∷ b.x ∷ []) ∷ puts ∷ rest) e frames core) rest e frames core g raised (references world.heap (Ref i ∷ u ∷ [])) below world (meant_op program w.found.covered o (Ref i ∷ u ∷ []) world)
    done below =
        let list : ListAt around.layout known g world.heap world.left core.blocks core.statics n i head = stands.lists n i head home struct in
        let few : items_in (slice_get world.heap i) ≡ length list.items = ap items_in list.object in
        subst (λ answer. Follows 2 known around place p arguments (At (op.Call None number (x ∷ b.x ∷ []) ∷ puts ∷ rest) e frames core) rest e frames core g raised (references world.heap (Ref i ∷ u ∷ [])) below world answer) (sym (adds.there program i u world list.items list.object))
        (does known around place p raised arguments rest e frames core g (references world.heap (Ref i ∷ u ∷ [])) below world structs n number struct has stands left inside nothing x b.x head value u x_is y_is i home in_place (omega (arith, few)))

  -- ---- a list that is there

  module _ (h : kind_of a ≡ kind.List) where
    none_asked : there_asks around a w.found.covered ≡ []
    none_asked = ap (λ k. if_missing (of_list_or_none k) (type_of around a) w.found.covered) h

    first_is : first ≡ w.found
    first_is = ap (λ asks. all_asked asks w.found) none_asked

    there_is : there around a w ≡ (a.x, writing first w.body)
    unfolding there
    there_is = ap (λ k. present around a (of_list_or_none k) w) h ∙ ap (λ f. (a.x, writing f w.body)) (sym first_is)

    abbrev list_ops : List LlOp
    list_ops = op.Call None number (a.x ∷ b.x ∷ []) ∷ puts ∷ []

    list_follow : (program : Program) (p : LlProgram) (numbers : Numbers) (raised : ℕ → Value) (arguments : List (List ℕ)) (rest : List LlOp) (e : LlExit) (frames : List Frame) (core : Core) (g : Ghost) (world : World) (vs : List Meant)
        → HasLayout p around.layout → HasAll p around.layout numbers raised core asks w.found → Represents around.layout known g world.heap world.left core.blocks core.statics → world.left ≡ core.steps → length w.body.types + 0 ≤ length core.vars → place.variable < length w.body.types → Given known around g core (a ∷ b ∷ []) vs
        → Follows 2 known around place p arguments (At (list_ops ++ rest) e frames core) rest e frames core g raised (references world.heap vs) (length w.body.types) world (meant_op program w.found.covered o vs world)
    list_follow program p numbers raised arguments rest e frames core g world [] structs has stands left room inside given = absurd given
    list_follow program p numbers raised arguments rest e frames core g world (v ∷ []) structs has stands left room inside given = absurd given.1
    list_follow program p numbers raised arguments rest e frames core g world (v ∷ u ∷ []) structs has stands left room inside given = by (list_or_none of.is given.0)
      where
        Done : Meant → Type 0
        Done v = Follows 2 known around place p arguments (At (list_ops ++ rest) e frames core) rest e frames core g raised (references world.heap (v ∷ u ∷ [])) (length w.body.types) world (meant_op program w.found.covered o (v ∷ u ∷ []) world)

        has_append : HasAppend p around.layout raised n number
        has_append = (has_more p around numbers raised core (there_asks around a w.found.covered) (Make appends ∷ []) w.found has).0

        by : Listing around.layout known g a.element (operand core.vars a.x) v ⊎ Absent a.element (operand core.vars a.x) v → Done v
        by (inl it) =
            let same : it.n ≡ n = ap pointed (sym it.typed ∙ of.typed) in
            subst Done (sym it.high)
            (done p raised arguments rest e frames core g world structs has_append stands left (omega (arith, room, inside)) a.x (operand core.vars a.x) refl it.i (subst (λ k. is_list around.layout k ≡ true) same it.struct)
            (subst (λ k. slice_get g.homes it.i ≡ Some (record { sort = ListOf k; head = operand core.vars a.x })) same it.home) (operand core.vars b.x) u refl given.1.0 program (length w.body.types))
        by (inr gone) = (let q : kind.List ≡ kind.MaybeList = sym h ∙ gone.may in absurd (cc))
    list_follow program p numbers raised arguments rest e frames core g world (v ∷ u ∷ s ∷ vs) structs has stands left room inside given = absurd given.1.1

    list_done : IsDone known around o w.found.covered asks place (a ∷ b ∷ []) w
    list_done = record {
      ops = list_ops;
      new = [];
      asked = ap (λ (r : Writing). r.found) (written_from a.x (writing first w.body) there_is) ∙ sym (asked_both (there_asks around a w.found.covered) (Make appends ∷ []) w.found);
      written = ap (λ (r : Writing). r.body.ops) (written_from a.x (writing first w.body) there_is) ∙ append_assoc w.body.ops (op.Call None number (a.x ∷ b.x ∷ []) ∷ []) (puts ∷ []);
      types = ap (λ (r : Writing). r.body.types) (written_from a.x (writing first w.body) there_is) ∙ sym (append-nil w.body.types);
      follows = λ p numbers raised arguments rest e frames core g world vs structs has stands left room inside below given good. list_follow known.program p numbers raised arguments rest e frames core g world vs structs has stands left room inside given;
    }

  -- ---- one that may be missing

  module _ (h : kind_of a ≡ kind.MaybeList) where
    abbrev m : ℕ
    m = length w.body.types

    abbrev presents : Small
    presents = small.Present (type_of around a) w.found.covered.attribute

    abbrev present_number : ℕ
    present_number = (small_number presents w.found).0

    abbrev asks_present : LlOp
    asks_present = op.Call (Some m) present_number (a.x ∷ [])

    one_asked : there_asks around a w.found.covered ≡ Make presents ∷ []
    one_asked = ap (λ k. if_missing (of_list_or_none k) (type_of around a) w.found.covered) h

    first_made : first ≡ (small_number presents w.found).1
    first_made = ap (λ asks. all_asked asks w.found) one_asked

    abbrev next : Writing
    next = writing first (record { types = w.body.types ++ type_of around a ∷ []; ops = w.body.ops ++ asks_present ∷ [] })

    maybe_is : there around a w ≡ (Var m, next)
    unfolding there by_small
    maybe_is = ap (λ k. present around a (of_list_or_none k) w) h ∙ ap (λ f. (Var m, writing f (record { types = w.body.types ++ type_of around a ∷ []; ops = w.body.ops ++ asks_present ∷ [] }))) (sym first_made)

    abbrev maybe_ops : List LlOp
    maybe_ops = asks_present ∷ op.Call None number (Var m ∷ b.x ∷ []) ∷ puts ∷ []

    module _ (p : LlProgram) (raised : ℕ → Value) (arguments : List (List ℕ)) (rest : List LlOp) (e : LlExit) (frames : List Frame) (core : Core) (g : Ghost) (world : World) where
      abbrev Whole : Meant → Meant → Answer → Type 0
      Whole v u answer = Follows 2 known around place p arguments (At (maybe_ops ++ rest) e frames core) rest e frames core g raised (references world.heap (v ∷ u ∷ [])) m world answer

      abbrev mid : Core
      mid = after core m (operand core.vars a.x)

      abbrev Behind : State
      Behind = At (op.Call None number (Var m ∷ b.x ∷ []) ∷ puts ∷ rest) e frames mid

      -- what comes behind the test, also where the steps do not suffice
      all_behind : (v u : Meant) (i : ℕ) (items : List Meant) → Leads p arguments 0 (At (maybe_ops ++ rest) e frames core) [] Behind → Follows 2 known around place p arguments Behind rest e frames mid g raised (references world.heap (v ∷ u ∷ [])) m world (after_append world i items u) → Whole v u (after_append world i items u)
      all_behind v u i items way d = by (nat_lt world.left 1) d
        where
          given_so : Answer
          given_so = Gives Nothing (record world { heap = slice_set world.heap i (Listed (items ++ u ∷ [])); left = world.left - 1 })

          by : (c : Bool) → Follows 2 known around place p arguments Behind rest e frames mid g raised (references world.heap (v ∷ u ∷ [])) m world (if c then Lacks else given_so) → Whole v u (if c then Lacks else given_so)
          by true d = record { last = d.last; leads = on way d.leads; ends = d.ends; blocks = d.blocks; holds = λ placed x k. gives_holds p m present_number a.x (op.Call None number (Var m ∷ b.x ∷ []) ∷ puts ∷ rest) e frames core x (d.holds (gives_placed p m present_number a.x (op.Call None number (Var m ∷ b.x ∷ []) ∷ puts ∷ rest) e frames core placed) x k) }
          by false d = behind 2 known around place p arguments rest e frames core g raised (references world.heap (v ∷ u ∷ [])) m world (sets_more m (operand core.vars a.x) (omega arith) none_passed) way given_so tt d

      missing_fails : (v u : Meant) → operand core.vars a.x ≡ Null → (c : Bool) → HasSmall p around.layout raised (small.Present (type_of around a) c) present_number → Whole v u (failure c 9 fail.Attribute world)
      missing_fails v u low true s = throws_at (ap (λ x. x ∷ []) low) refl (op.Call None number (Var m ∷ b.x ∷ []) ∷ puts ∷ []) rest (present_flies p around.layout arguments raised (type_of around a) present_number core s)
      missing_fails v u low false s = fails_at (ap (λ x. x ∷ []) low) refl (op.Call None number (Var m ∷ b.x ∷ []) ∷ puts ∷ rest) (present_fails p around.layout arguments raised (type_of around a) present_number core s)

    maybe_follow : (program : Program) (p : LlProgram) (numbers : Numbers) (raised : ℕ → Value) (arguments : List (List ℕ)) (rest : List LlOp) (e : LlExit) (frames : List Frame) (core : Core) (g : Ghost) (world : World) (vs : List Meant)
        → HasLayout p around.layout → HasAll p around.layout numbers raised core asks w.found → Represents around.layout known g world.heap world.left core.blocks core.statics → world.left ≡ core.steps → length w.body.types + 1 ≤ length core.vars → place.variable < length w.body.types → AllBelow (length w.body.types) (a ∷ b ∷ []) → Given known around g core (a ∷ b ∷ []) vs
        → Follows 2 known around place p arguments (At (maybe_ops ++ rest) e frames core) rest e frames core g raised (references world.heap vs) (length w.body.types) world (meant_op program w.found.covered o vs world)
    maybe_follow program p numbers raised arguments rest e frames core g world [] structs has stands left room inside under given = absurd given
    maybe_follow program p numbers raised arguments rest e frames core g world (v ∷ []) structs has stands left room inside under given = absurd given.1
    maybe_follow program p numbers raised arguments rest e frames core g world (v ∷ u ∷ []) structs has stands left room inside under given = by (list_or_none of.is given.0)
      where
        Done : Meant → Type 0
        Done v = Whole p raised arguments rest e frames core g world v u (meant_op program w.found.covered o (v ∷ u ∷ []) world)

        has_append : HasAppend p around.layout raised n number
        has_append = (has_more p around numbers raised core (there_asks around a w.found.covered) (Make appends ∷ []) w.found has).0

        has_present : HasSmall p around.layout raised presents present_number
        has_present = (subst (λ asks. HasAll p around.layout numbers raised core asks w.found) one_asked (has_first p around numbers raised core (there_asks around a w.found.covered) (Make appends ∷ []) w.found has)).0

        head : Value
        head = operand core.vars a.x

        by : Listing around.layout known g a.element (operand core.vars a.x) v ⊎ Absent a.element (operand core.vars a.x) v → Done v
        by (inl it) = subst Done (sym it.high) (subst (Whole p raised arguments rest e frames core g world (Ref it.i) u) (sym (adds.there program it.i u world list.items list.object))
            (all_behind p raised arguments rest e frames core g world (Ref it.i) u it.i list.items way
            (subst (λ answer. Follows 2 known around place p arguments (Behind p raised arguments rest e frames core g world) rest e frames (after core m head) g raised (references world.heap (Ref it.i ∷ u ∷ [])) m world answer) (adds.there program it.i u world list.items list.object)
            (done p raised arguments rest e frames (after core m head) g world structs has_append stands left (let q = length-set core.vars m head in omega (arith, room, inside, q)) (Var m) head (is_set_at core m head (omega (arith, room))) it.i struct home (operand core.vars b.x) u
            (operand_kept {below = m} {core = core} {mid = after core m head} (sets_more m head (omega arith) none_passed) b.x under.1.0) given.1.0 program m))))
          where
            same : it.n ≡ n
            same = ap pointed (sym it.typed ∙ of.typed)

            struct : is_list around.layout n ≡ true
            struct = subst (λ k. is_list around.layout k ≡ true) same it.struct

            home : slice_get g.homes it.i ≡ Some (record { sort = ListOf n; head = head })
            home = subst (λ k. slice_get g.homes it.i ≡ Some (record { sort = ListOf k; head = head })) same it.home

            list : ListAt around.layout known g world.heap world.left core.blocks core.statics n it.i head
            list = stands.lists n it.i head home struct

            way : Leads p arguments 0 (At (maybe_ops ++ rest) e frames core) [] (At (op.Call None number (Var m ∷ b.x ∷ []) ∷ puts ∷ rest) e frames (after core m head))
            way = calls_at refl (ap (λ c. c || false) (found_set core.blocks core.statics head _ list.head_is)) (present_comes p around.layout arguments raised (type_of around a) present_number core w.found.covered.attribute has_present head (found_set core.blocks core.statics head _ list.head_is) (found_there core.blocks core.statics head _ list.head_is))
        by (inr gone) = subst Done (sym gone.high) (fails (adds.none program u world))
          where
            fails : (meant_op program w.found.covered o (Nothing ∷ u ∷ []) world ≡ failure w.found.covered.attribute 9 fail.Attribute world) ⊎ (meant_op program w.found.covered o (Nothing ∷ u ∷ []) world ≡ Bad) → Done Nothing
            fails (inl q) = subst (Whole p raised arguments rest e frames core g world Nothing u) (sym q) (missing_fails p raised arguments rest e frames core g world Nothing u gone.low w.found.covered.attribute has_present)
            fails (inr q) = subst (Whole p raised arguments rest e frames core g world Nothing u) (sym q) tt
    maybe_follow program p numbers raised arguments rest e frames core g world (v ∷ u ∷ s ∷ vs) structs has stands left room inside under given = absurd given.1.1

    maybe_done : IsDone known around o w.found.covered asks place (a ∷ b ∷ []) w
    maybe_done = record {
      ops = maybe_ops;
      new = type_of around a ∷ [];
      asked = ap (λ (r : Writing). r.found) (written_from (Var m) next maybe_is) ∙ sym (asked_both (there_asks around a w.found.covered) (Make appends ∷ []) w.found);
      written = ap (λ (r : Writing). r.body.ops) (written_from (Var m) next maybe_is) ∙ append_assoc (w.body.ops ++ asks_present ∷ []) (op.Call None number (Var m ∷ b.x ∷ []) ∷ []) (puts ∷ []) ∙ append_assoc w.body.ops (asks_present ∷ []) (op.Call None number (Var m ∷ b.x ∷ []) ∷ puts ∷ []);
      types = ap (λ (r : Writing). r.body.types) (written_from (Var m) next maybe_is);
      follows = λ p numbers raised arguments rest e frames core g world vs structs has stands left room inside below given good. maybe_follow known.program p numbers raised arguments rest e frames core g world vs structs has stands left room inside below given;
    }

  -- ---- either

  by_kind : (k : Kind) → kind_of a ≡ k → of_list k ≡ true → IsDone known around o w.found.covered asks place (a ∷ b ∷ []) w
  by_kind kind.List h is = list_done h
  by_kind kind.MaybeList h is = maybe_done h
  by_kind _ h is = absurd (cc)

  pub append_done : IsDone known around o w.found.covered asks place (a ∷ b ∷ []) w
  append_done = by_kind (kind_of a) refl of.is

-- ---- the operations

pub method_adds : (site : Option ℕ) (w : Writing) → Adds (row.Method (codes "append") site) w
method_adds site w = record { there = λ program i u world items h. ap (λ o. object_method program w.found.covered (codes "append") i (u ∷ []) o world) h; none = λ program u world. inl refl }

pub method_lowers : (site : Option ℕ) (around : Around) (place : Place) (a b : Operand) (w : Writing) → of_list (kind_of a) ≡ true → Comes b → lower_list_op around (row.Method (codes "append") site) place (a ∷ b ∷ []) w ≡ append around place a b w
unfolding lowered method_of method_of_two method_of_list method of_two
method_lowers site around place a b w is comes = two_come around (row.Method (codes "append") site) place a b w (list_comes a is) comes ∙ ap (λ c. if c then append around place a b w else lower_op around (row.Method (codes "append") site) place (a ∷ b ∷ []) w) is

pub comprehension_adds : (w : Writing) → Adds row.AddItem w
comprehension_adds w = record { there = λ program i u world items h. ap (λ o. on_list (λ vs. paying item_cost (set_object i (Listed (vs ++ u ∷ [])) Nothing)) o world) h; none = λ program u world. inr refl }

pub comprehension_lowers : (around : Around) (place : Place) (a b : Operand) (w : Writing) → of_list (kind_of a) ≡ true → Comes b → lower_list_op around row.AddItem place (a ∷ b ∷ []) w ≡ append around place a b w
unfolding lowered of_some first_of_two
comprehension_lowers around place a b w is comes = two_come around row.AddItem place a b w (list_comes a is) comes ∙ first_of_two_is_list around row.AddItem place a b w is

pub method_appends : (site : Option ℕ) → ItemsAreAppended (row.Method (codes "append") site)
method_appends site known around place a b w n item of stay nothing =
    append_done (row.Method (codes "append") site) known around place a b w n item of stay nothing (method_adds site w) (method_lowers site around place a b w of.is (stays_comes stay))

pub comprehension_appends : ItemsAreAppended row.AddItem
comprehension_appends known around place a b w n item of stay nothing =
    append_done row.AddItem known around place a b w n item of stay nothing (comprehension_adds w) (comprehension_lowers around place a b w of.is (stays_comes stay))

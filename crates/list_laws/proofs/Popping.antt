-- An item is given and taken out.
use Rattle.std.proofs.Common.{◌≡◌, ◌<◌, ◌≤◌, ℕ, ◌+◌, ◌^◌, ◌⊎◌, inl, inr, Bool, true, false, ◌||◌, List, [], ◌∷◌, ◌++◌, length, Option, Some, None, ℤ, pos, negsuc, refl, sym, ap, ◌∙◌, subst, arith, append_assoc, length-append}
use Rattle.std.specs.Prelude.{slice_get, slice_set, remove, option_and_then, if◌then◌else◌, codes}
use Rattle.std.proofs.lemmas.List.{length-set}
use Rattle.std.proofs.lemmas.Int.{ints}
use Rattle.ann_element.specs.declared.element.Element.{Element}
use Rattle.rpy_base.specs.Word.{Fits}
use Rattle.rpy_base.specs.declared.outcome.FailName.TheVariants as fail
use Rattle.csub_tree.specs.State.{Value, Word, Core}
use Rattle.csub_tree.specs.Statement.{read, operand, operands, any_unset}
use Rattle.csub_tree.specs.declared.tree.COperand.{COperand}
use Rattle.csub_tree.specs.declared.tree.COperand.TheVariants.{Var}
use Rattle.rpy_tree.specs.Value.{Value as Meant, Word as MeantWord, Nothing, Ref, Listed}
use Rattle.rpy_meaning.specs.declared.row.Covers.{Covers}
use Rattle.rpy_meaning.specs.declared.row.RowOp.{RowOp}
use Rattle.rpy_meaning.specs.declared.row.RowOp.TheVariants as row
use Rattle.rpy_meaning.specs.Operations.{op as meant_op, object_method}
use Rattle.rpy_meaning.specs.Sequences.{place as meant_place}
use Rattle.rpy_meaning.specs.World.{World, Answer, Gives, bad, index_error, if_some, set_object, failure}
use Rattle.ll_code.specs.State.{Frame, State, At}
use Rattle.ll_code.specs.declared.program.LlType.{LlType}
use Rattle.ll_code.specs.declared.program.LlType.TheVariants as type
use Rattle.ll_code.specs.declared.program.LlOp.{LlOp}
use Rattle.ll_code.specs.declared.program.LlOp.TheVariants as op
use Rattle.ll_code.specs.declared.program.LlExit.{LlExit}
use Rattle.ll_code.specs.declared.program.LlProgram.{LlProgram}
use Rattle.ll_build.specs.declared.needs.Numbers.{Numbers}
use Rattle.ll_leads.proofs.Ways.{on}
use Rattle.rtyper_layout.specs.declared.kind.Kind.TheVariants as kind
use Rattle.rtyper_layout.specs.Layout.{is_list}
use Rattle.rtyper_layout.specs.Types.{word, type_of as element_type}
use Rattle.rtyper_data.specs.declared.body.Body.{Body}
use Rattle.rtyper_data.specs.declared.found.Found.{Found}
use Rattle.rtyper_data.specs.declared.small.Small.{Small}
use Rattle.rtyper_data.specs.declared.small.Small.TheVariants as small
use Rattle.rtyper_data.specs.declared.small.Listed.TheVariants as listed
use Rattle.rtyper_data.specs.Converting.{by_small, give}
use Rattle.rtyper_data.specs.Finding.{small_number}
use Rattle.rtyper_data.specs.Numbers.{word as word_operand}
use Rattle.rtyper_op.specs.Lowering.{lower_op, never_comes}
use Rattle.rtyper_data.specs.Seen.{Around, Operand, Place, kind_of, type_at, Writing, writing}
use Rattle.list_shape.specs.declared.shape.Shape.{Shape}
use Rattle.list_shape.specs.Shapes.{item_of, shape_of, taking}
use Rattle.rtyper_list.specs.Items.{shape_in, placed, popped, pop}
use Rattle.rtyper_list.specs.Lowering.{lowered, method_of, method_of_two, method_of_list, lower_list_op}
use Rattle.rtyper_list.specs.Methods.{method, of_one, of_two}
use Rattle.rtyper_list.specs.Operands.{list_of, pointed, read_item, array_in, done_by}
use Rattle.lower_laws.specs.Asked.{Ask, Make, all_asked}
use Rattle.lower_laws.specs.Values.{IsBelow, AllBelow}
use Rattle.lower_laws.proofs.Doing.{after}
use Rattle.lower_laws.proofs.Items.{gives_same}
use Rattle.lower_laws.proofs.Stayed.{field_is}
use Rattle.list_laws.specs.Asked.{HasList, HasRemove, HasAll}
use Rattle.list_laws.specs.Lists.{IsList, there_asks}
use Rattle.list_laws.specs.Presence.{IsTold}
use Rattle.list_laws.specs.Taken.{take_asks, LastItemsArePopped, ItemsArePopped}
use Rattle.list_laws.proofs.Fetched.{fetched}
use Rattle.list_laws.proofs.Indexed.{asked_both, has_first, has_more, there_covers, three_behind, four_behind, inside_some, place_inside}
use Rattle.list_laws.proofs.Lengths.{count_fits}
use Rattle.list_laws.proofs.Lowered.{list_comes, one_comes, two_come}
use Rattle.list_laws.proofs.Places.{PlaceGoes, place_is}
use Rattle.list_laws.proofs.Taking.{no_block, takes}
use Rattle.list_laws.proofs.There.{Entered, entered}
use Rattle.object_laws.specs.Known.{Known}
use Rattle.object_laws.specs.Done.{Follows, HasLayout, items_in, references}
use Rattle.object_laws.specs.Ghost.{Ghost, ListOf}
use Rattle.object_laws.specs.Represents.{Represents, ListAt}
use Rattle.object_laws.specs.Staying.{Stays}
use Rattle.object_laws.specs.Values.{Given, Holds}
use Rattle.object_laws.proofs.Blocks.{found_set, found_there}
use Rattle.object_laws.proofs.Passing.{Pays, none_passed, sets_more, is_set_at, is_kept_at, operand_kept, behind, Went, calls_at, throws_at, fails_at}
use Rattle.object_laws.proofs.Valued.{Listing, Absent, list_or_none, word_held, stays_typed, stays_there, stays_held, each_long}

five_behind : {A : Type 0} (xs ys : List A) (a b c d e : A) → (((((xs ++ ys) ++ a ∷ []) ++ b ∷ []) ++ c ∷ []) ++ d ∷ []) ++ e ∷ [] ≡ xs ++ (ys ++ a ∷ b ∷ c ∷ d ∷ e ∷ [])
five_behind xs ys a b c d e = ap (λ l. l ++ e ∷ []) (four_behind xs ys a b c d) ∙ append_assoc xs (ys ++ a ∷ b ∷ c ∷ d ∷ []) (e ∷ []) ∙ ap (λ l. xs ++ l) (append_assoc ys (a ∷ b ∷ c ∷ d ∷ []) (e ∷ []))

-- what comes of a list, where its item is taken out
abbrev taken_at : Covers → ℕ → List Meant → World → Option ℕ → Answer
taken_at c i items world o = if_some (index_error c) o (λ k. if_some bad (option_and_then (slice_get items) o) (λ v. set_object i (Listed (remove items k)) v)) world

-- the list and the index that the operands are, and what the operation does with them
record Popped (known : Known) (around : Around) (o : RowOp) (w : Writing) (a : Operand) (c : COperand) (core : Core) (g : Ghost) (world : World) (vs : List Meant) : Type 0 where
  v : Meant
  z : ℤ
  low : operand core.vars c ≡ Word z
  fits : Fits z
  held : Holds around.layout known g a.element (operand core.vars a.x) v
  there : (i : ℕ) (items : List Meant) → v ≡ Ref i → slice_get world.heap i ≡ Some (Listed items) → meant_op known.program w.found.covered o vs world ≡ taken_at w.found.covered i items world (meant_place z (length items))
  none : v ≡ Nothing → meant_op known.program w.found.covered o vs world ≡ failure w.found.covered.attribute 9 fail.Attribute world
  many : (i : ℕ) (items : List Meant) → v ≡ Ref i → slice_get world.heap i ≡ Some (Listed items) → length items ≤ references world.heap vs

module _ (o : RowOp) (known : Known) (around : Around) (place : Place) (a : Operand) (c : COperand) (args : List Operand) (w : Writing) (n : ℕ) (item : Element) (of : IsList around known a.element n item) (stay : Stays around.layout known (Some item) place.element)
    (pops : lower_list_op around o place args w ≡ pop around place a c w) (under : AllBelow (length w.body.types) args → IsBelow (length w.body.types) a.x × IsBelow (length w.body.types) c)
    (means : (core : Core) (g : Ghost) (world : World) (vs : List Meant) → Given known around g core args vs → Popped known around o w a c core g world vs) where
  ent : Entered around a w
  ent = entered around a w of.is

  abbrev first : Found
  first = all_asked (there_asks around a w.found.covered) w.found

  abbrev outside : Small
  outside = small.Listed (listed.Place n w.found.covered.index)

  abbrev taking_out : Small
  taking_out = small.Listed (listed.Remove n)

  abbrev asks : List Ask
  asks = take_asks around a n w.found.covered

  abbrev number : ℕ
  number = (small_number outside first).0

  abbrev found1 : Found
  found1 = (small_number outside first).1

  abbrev number2 : ℕ
  number2 = (small_number taking_out found1).0

  abbrev found2 : Found
  found2 = (small_number taking_out found1).1

  abbrev kept_type : LlType
  kept_type = item_of around.layout (word (n + 1))

  abbrev types0 : List LlType
  types0 = w.body.types ++ ent.new

  abbrev m1 : ℕ
  m1 = length types0

  abbrev m2 : ℕ
  m2 = length (types0 ++ type.Signed ∷ [])

  abbrev m3 : ℕ
  m3 = length ((types0 ++ type.Signed ∷ []) ++ type.Ptr (word (n + 1)) ∷ [])

  abbrev calls : LlOp
  calls = op.Call (Some m1) number (Var ent.x ∷ c ∷ [])

  abbrev gets_array : LlOp
  gets_array = op.GetField m2 n ent.x 1

  abbrev gets_item : LlOp
  gets_item = op.GetItem m3 (word (n + 1)) m2 (Var m1)

  abbrev takes_out : LlOp
  takes_out = op.Call None number2 (Var ent.x ∷ Var m1 ∷ [])

  abbrev puts : LlOp
  puts = op.Set place.variable (Var m3)

  element_there : element_type around.layout item ≡ type.Void → ⊥
  element_there h = stays_there stay (sym (stays_typed stay) ∙ h)

  kept_is : kept_type ≡ element_type around.layout item
  kept_is = of.items ∙ field_is (element_type around.layout item) element_there

  ht : type_at around place ≡ kept_type
  ht = sym (stays_typed stay) ∙ sym kept_is

  list_is : list_of around a ≡ n
  unfolding list_of
  list_is = ap pointed of.typed

  covered : first.covered.index ≡ w.found.covered.index
  covered = ap (λ (c : Covers). c.index) (there_covers around a w.found)

  abbrev entered_writing : Writing
  entered_writing = writing first (record { types = types0; ops = w.body.ops ++ ent.ops })

  abbrev popped_from : Shape → ℕ → Found → COperand → COperand × Body → Writing
  popped_from s k found at item = give around place item.0 s.item (done_by (listed.Remove k) (Var ent.x ∷ at ∷ []) (writing found item.1))

  abbrev pop_from : ℕ → COperand × Writing → Writing
  pop_from k made = taking made (λ at last. popped_from (shape_of around.layout k) k last.found at (read_item (shape_of around.layout k) ent.x at last.body))

  abbrev last_body : Body
  last_body = record { types = ((types0 ++ type.Signed ∷ []) ++ type.Ptr (word (n + 1)) ∷ []) ++ kept_type ∷ []; ops = ((((w.body.ops ++ ent.ops) ++ calls ∷ []) ++ gets_array ∷ []) ++ gets_item ∷ []) ++ takes_out ∷ [] }

  is_written : lower_list_op around o place args w ≡ writing found2 (record last_body { ops = last_body.ops ++ puts ∷ [] })
  unfolding pop placed by_small read_item array_in done_by
  is_written =
      pops
      ∙ ap (λ made. taking made (λ x next. taking (placed (list_of around a) x c next) (λ at last. popped around place a x at last.found (read_item (shape_in around a) x at last.body)))) ent.written
      ∙ ap (λ l. pop_from l (placed l ent.x c entered_writing)) list_is
      ∙ ap (λ t. pop_from n (by_small (small.Listed (listed.Place n t)) type.Signed (Var ent.x ∷ c ∷ []) entered_writing)) covered
      ∙ gives_same around place (Var m3) kept_type (writing found2 last_body) (λ h. element_there (sym kept_is ∙ h)) ht

  -- ---- once the list is in its variable

  module _ (p : LlProgram) (raised : ℕ → Value) (arguments : List (List ℕ)) (rest : List LlOp) (e : LlExit) (frames : List Frame) (core : Core) (g : Ghost) (most : ℕ) (world : World)
      (structs : HasLayout p around.layout) (has : HasList p around.layout raised (listed.Place n w.found.covered.index) number) (has2 : HasRemove p around.layout raised n number2)
      (stands : Represents around.layout known g world.heap world.left core.blocks core.statics) (left : world.left ≡ core.steps)
      (room : m1 + 3 ≤ length core.vars) (inside : place.variable < length w.body.types) (before : ent.x < m1)
      (head : Value) (z : ℤ) (at : read core.vars ent.x ≡ head) (index_at : operand core.vars c ≡ Word z) (i : ℕ) (struct : is_list around.layout n ≡ true) (home : slice_get g.homes i ≡ Some (record { sort = ListOf n; head = head })) where
    abbrev There : State
    There = At (calls ∷ gets_array ∷ gets_item ∷ takes_out ∷ puts ∷ rest) e frames core

    abbrev here : ListAt around.layout known g world.heap world.left core.blocks core.statics n i head
    here = stands.lists n i head home struct

    abbrev count : ℕ
    count = length here.items

    few : count < 2 ^ 63
    few = count_fits here.values here.spare here.items here.long (each_long here.each)

    same : operands core.vars (Var ent.x ∷ c ∷ []) ≡ head ∷ Word z ∷ []
    same = ap (λ y. y ∷ operand core.vars c ∷ []) at ∙ ap (λ y. head ∷ y ∷ []) index_at

    set : any_unset (head ∷ Word z ∷ []) ≡ false
    set = ap (λ c. c || (false || false)) (found_set core.blocks core.statics head _ here.head_is)

    m2_is : m2 ≡ m1 + 1
    m2_is = length-append types0 (type.Signed ∷ [])

    m3_is : m3 ≡ m1 + 2
    m3_is = length-append (types0 ++ type.Signed ∷ []) (type.Ptr (word (n + 1)) ∷ []) ∙ ap (λ k. k + 1) m2_is ∙ (let q : m1 + 1 + 1 ≡ m1 + 2 = omega arith in q)

    types_before : length w.body.types ≤ m1
    types_before = (let l : m1 ≡ length w.body.types + length ent.new = length-append w.body.types ent.new in omega (arith, l))

    gives_item : (k : ℕ) (v : Meant) → k < count → count ≤ most → slice_get here.items k ≡ Some v → PlaceGoes p around.layout arguments raised n number core head here.array count (structs.heads n struct) here.head_is few w.found.covered.index z (Some k)
        → Follows 0 known around place p arguments There rest e frames core g raised most (length w.body.types) world (Gives v (record world { heap = slice_set world.heap i (Listed (remove here.items k)) }))
    gives_item k v within many found_item comes =
        let core1 : Core = after core m1 (Word (pos k)) in
        let long : length core1.vars ≡ length core.vars = length-set core.vars m1 (Word (pos k)) in
        let head_at : read core1.vars ent.x ≡ head = is_kept_at core m1 ent.x (Word (pos k)) (λ q. omega (arith, before, q)) ∙ at in
        let place_at : read core1.vars m1 ≡ Word (pos k) = is_set_at core m1 (Word (pos k)) (omega (arith, room)) in
        let it = fetched structs struct stands here ent.x m2 m3 (Var m1) k v head_at place_at (omega (arith, m2_is)) (omega (arith, m2_is, m3_is)) (omega (arith, room, long, m3_is)) found_item in
        let core2 : Core = after core1 m2 here.array in
        let core3 : Core = after core2 m3 it.value in
        let long3 : length core3.vars ≡ length core.vars = length-set core2.vars m3 it.value ∙ length-set core1.vars m2 here.array ∙ long in
        let held : Holds around.layout known g (Some item) it.value v = subst (λ seen. Holds around.layout known g seen it.value v) of.item_is it.held in
        behind 0 known around place p arguments rest e frames core g raised most (length w.body.types) world
        (sets_more m3 it.value (omega (arith, types_before, m3_is)) (sets_more m2 here.array (omega (arith, types_before, m2_is)) (sets_more m1 (Word (pos k)) types_before none_passed)))
        (on (calls_at same set comes) it.way) (Gives v (record world { heap = slice_set world.heap i (Listed (remove here.items k)) })) tt
        (takes known around place p raised arguments rest e frames core3 g most (length w.body.types) world structs n number2 struct has2 stands left (omega (arith, inside, types_before, room, long3))
        (Var ent.x) (Var m1) (Var m3) head it.value k i v
        (is_kept_at core2 m3 ent.x it.value (λ q. omega (arith, before, m3_is, q)) ∙ is_kept_at core1 m2 ent.x here.array (λ q. omega (arith, before, m2_is, q)) ∙ head_at)
        (is_kept_at core2 m3 m1 it.value (λ q. omega (arith, m3_is, q)) ∙ is_kept_at core1 m2 m1 here.array (λ q. omega (arith, m2_is, q)) ∙ place_at)
        it.is home it.set (stays_held stay held) within many)

    outside_of : (t : Bool) → PlaceGoes p around.layout arguments raised n number core head here.array count (structs.heads n struct) here.head_is few t z None
        → Follows 0 known around place p arguments There rest e frames core g raised most (length w.body.types) world (failure t 6 fail.Index world)
    outside_of true flies = throws_at same set (gets_array ∷ gets_item ∷ takes_out ∷ puts ∷ []) rest flies
    outside_of false ends = fails_at same set (gets_array ∷ gets_item ∷ takes_out ∷ puts ∷ rest) ends

    chosen : count ≤ most → (o : Option ℕ) → meant_place z count ≡ o → PlaceGoes p around.layout arguments raised n number core head here.array count (structs.heads n struct) here.head_is few w.found.covered.index z o
        → Follows 0 known around place p arguments There rest e frames core g raised most (length w.body.types) world (taken_at w.found.covered i here.items world o)
    chosen many None q goes = outside_of w.found.covered.index goes
    chosen many (Some k) q goes = by (slice_get here.items k) refl
      where
        by : (o : Option Meant) → slice_get here.items k ≡ o → Follows 0 known around place p arguments There rest e frames core g raised most (length w.body.types) world (if_some bad o (λ v. set_object i (Listed (remove here.items k)) v) world)
        by None none = absurd (inside_some here.items k (place_inside z count k q) none)
        by (Some v) some = gives_item k v (place_inside z count k q) many some goes

    does : count ≤ most → Fits z → Follows 0 known around place p arguments There rest e frames core g raised most (length w.body.types) world (taken_at w.found.covered i here.items world (meant_place z count))
    does many fits = chosen many (meant_place z count) refl (place_is p around.layout arguments raised n number core head here.array count (structs.heads n struct) here.head_is few w.found.covered.index z has fits)

    pays : (o : Option ℕ) → Pays (taken_at w.found.covered i here.items world o)
    pays (Some k) = by (slice_get here.items k)
      where
        by : (o : Option Meant) → Pays (if_some bad o (λ v. set_object i (Listed (remove here.items k)) v) world)
        by (Some v) = tt
        by None = tt
    pays None = by w.found.covered.index
      where
        by : (t : Bool) → Pays (failure t 6 fail.Index world)
        by true = tt
        by false = tt

  -- ---- the whole

  module _ (p : LlProgram) (numbers : Numbers) (raised : ℕ → Value) (arguments : List (List ℕ)) (rest : List LlOp) (e : LlExit) (frames : List Frame) (core : Core) (g : Ghost) (world : World)
      (structs : HasLayout p around.layout) (has : HasAll p around.layout numbers raised core asks w.found)
      (stands : Represents around.layout known g world.heap world.left core.blocks core.statics) (left : world.left ≡ core.steps)
      (room : length w.body.types + length (ent.new ++ type.Signed ∷ type.Ptr (word (n + 1)) ∷ kept_type ∷ []) ≤ length core.vars) (inside : place.variable < length w.body.types)
      (below : AllBelow (length w.body.types) args) where
    abbrev Done : ℕ → Answer → Type 0
    Done most answer = Follows 0 known around place p arguments (At (ent.ops ++ (calls ∷ gets_array ∷ gets_item ∷ takes_out ∷ puts ∷ rest)) e frames core) rest e frames core g raised most (length w.body.types) world answer

    first_has : HasAll p around.layout numbers raised core (there_asks around a w.found.covered) w.found
    first_has = has_first p around numbers raised core (there_asks around a w.found.covered) (Make outside ∷ Make taking_out ∷ []) w.found has

    more_has : HasAll p around.layout numbers raised core (Make outside ∷ Make taking_out ∷ []) first
    more_has = has_more p around numbers raised core (there_asks around a w.found.covered) (Make outside ∷ Make taking_out ∷ []) w.found has

    long : length (ent.new ++ type.Signed ∷ type.Ptr (word (n + 1)) ∷ kept_type ∷ []) ≡ length ent.new + 3
    long = length-append ent.new (type.Signed ∷ type.Ptr (word (n + 1)) ∷ kept_type ∷ [])

    m1_is : m1 ≡ length w.body.types + length ent.new
    m1_is = length-append w.body.types ent.new

    there : (vs : List Meant) (m : Popped known around o w a c core g world vs) → Listing around.layout known g a.element (operand core.vars a.x) m.v → Done (references world.heap vs) (meant_op known.program w.found.covered o vs world)
    there vs m it =
        subst (Done most) (sym (m.there it.i mid_here.items it.high mid_here.object))
        (behind 0 known around place p arguments rest e frames core g raised most (length w.body.types) world went.passed went.way (taken_at w.found.covered it.i mid_here.items world (meant_place m.z (length mid_here.items)))
        (pays p raised arguments rest e frames mid g most world structs more_has.0 more_has.1.0 stands_mid left_mid wide inside before x m.z went.is index_mid it.i struct home (meant_place m.z (length mid_here.items)))
        (does p raised arguments rest e frames mid g most world structs more_has.0 more_has.1.0 stands_mid left_mid wide inside before x m.z went.is index_mid it.i struct home (m.many it.i mid_here.items it.high mid_here.object) m.fits))
      where
        most : ℕ
        most = references world.heap vs

        x : Value
        x = operand core.vars a.x

        number_is : it.n ≡ n
        number_is = ap pointed (sym it.typed ∙ of.typed)

        struct : is_list around.layout n ≡ true
        struct = subst (λ k. is_list around.layout k ≡ true) number_is it.struct

        home : slice_get g.homes it.i ≡ Some (record { sort = ListOf n; head = x })
        home = subst (λ k. slice_get g.homes it.i ≡ Some (record { sort = ListOf k; head = x })) number_is it.home

        l : ListAt around.layout known g world.heap world.left core.blocks core.statics n it.i x
        l = stands.lists n it.i x home struct

        went : Went p arguments (At (ent.ops ++ (calls ∷ gets_array ∷ gets_item ∷ takes_out ∷ puts ∷ rest)) e frames core) (calls ∷ gets_array ∷ gets_item ∷ takes_out ∷ puts ∷ rest) e frames core (length w.body.types) ent.x x
        went = ent.enters p numbers raised arguments (calls ∷ gets_array ∷ gets_item ∷ takes_out ∷ puts ∷ rest) e frames core first_has (omega (arith, room, long)) (found_set core.blocks core.statics x _ l.head_is) (found_there core.blocks core.statics x _ l.head_is)

        mid : Core
        mid = went.mid

        stands_mid : Represents around.layout known g world.heap world.left mid.blocks mid.statics
        stands_mid = subst (λ (c : Core). Represents around.layout known g world.heap world.left c.blocks c.statics) (sym went.passed.memory) stands

        left_mid : world.left ≡ mid.steps
        left_mid = left ∙ sym (ap (λ (c : Core). c.steps) went.passed.memory)

        wide : m1 + 3 ≤ length mid.vars
        wide = (let r = went.passed.room in omega (arith, room, long, m1_is, r))

        before : ent.x < m1
        before = (let i = ent.inside (under below).0 in omega (arith, i, m1_is))

        index_mid : operand mid.vars c ≡ Word m.z
        index_mid = operand_kept went.passed c (under below).1 ∙ m.low

        mid_here : ListAt around.layout known g world.heap world.left mid.blocks mid.statics n it.i x
        mid_here = stands_mid.lists n it.i x home struct

    either : (vs : List Meant) (m : Popped known around o w a c core g world vs) → Listing around.layout known g a.element (operand core.vars a.x) m.v ⊎ Absent a.element (operand core.vars a.x) m.v → Done (references world.heap vs) (meant_op known.program w.found.covered o vs world)
    either vs m (inl it) = there vs m it
    either vs m (inr gone) = subst (Done (references world.heap vs)) (sym (m.none gone.high))
        (no_block known around place p arguments (At (ent.ops ++ (calls ∷ gets_array ∷ gets_item ∷ takes_out ∷ puts ∷ rest)) e frames core) rest e frames core g raised (references world.heap vs) (length w.body.types) world w.found.covered.attribute
        (ent.misses known place p numbers raised arguments (calls ∷ gets_array ∷ gets_item ∷ takes_out ∷ puts ∷ []) rest e frames core g (references world.heap vs) world first_has gone.may gone.low))

    follow : (vs : List Meant) → Given known around g core args vs → Follows 0 known around place p arguments (At ((ent.ops ++ (calls ∷ gets_array ∷ gets_item ∷ takes_out ∷ puts ∷ [])) ++ rest) e frames core) rest e frames core g raised (references world.heap vs) (length w.body.types) world (meant_op known.program w.found.covered o vs world)
    follow vs given =
        let m = means core g world vs given in
        subst (λ l. Follows 0 known around place p arguments (At l e frames core) rest e frames core g raised (references world.heap vs) (length w.body.types) world (meant_op known.program w.found.covered o vs world)) (sym (append_assoc ent.ops (calls ∷ gets_array ∷ gets_item ∷ takes_out ∷ puts ∷ []) rest))
        (either vs m (list_or_none of.is m.held))

  pop_done : IsTold known around o w.found.covered asks place args w
  pop_done = record {
    ops = ent.ops ++ (calls ∷ gets_array ∷ gets_item ∷ takes_out ∷ puts ∷ []);
    new = ent.new ++ (type.Signed ∷ type.Ptr (word (n + 1)) ∷ kept_type ∷ []);
    asked = ap (λ (r : Writing). r.found) is_written ∙ sym (asked_both (there_asks around a w.found.covered) (Make outside ∷ Make taking_out ∷ []) w.found);
    written = ap (λ (r : Writing). r.body.ops) is_written ∙ five_behind w.body.ops ent.ops calls gets_array gets_item takes_out puts;
    types = ap (λ (r : Writing). r.body.types) is_written ∙ three_behind w.body.types ent.new type.Signed (type.Ptr (word (n + 1))) kept_type;
    follows = λ p numbers raised arguments rest e frames core g world vs structs has stands left room inside below given good. follow p numbers raised arguments rest e frames core g world structs has stands left room inside below vs given;
  }

-- ---- the operations

module _ (known : Known) (around : Around) (a : Operand) (w : Writing) (site : Option ℕ) (core : Core) (g : Ghost) (world : World) where
  abbrev pops : RowOp
  pops = row.Method (codes "pop") site

  last_popped : (vs : List Meant) → Given known around g core (a ∷ []) vs → Popped known around pops w a (word_operand (negsuc 0)) core g world vs
  last_popped [] given = absurd given
  last_popped (v ∷ []) given = record {
    v = v;
    z = negsuc 0;
    low = refl;
    fits = omega (arith, ints);
    held = given.0;
    there = λ i items e h. ap (λ v. meant_op known.program w.found.covered pops (v ∷ []) world) e ∙ ap (λ o. object_method known.program w.found.covered (codes "pop") i [] o world) h;
    none = λ e. ap (λ v. meant_op known.program w.found.covered pops (v ∷ []) world) e;
    many = λ i items e h. (let q : references world.heap (v ∷ []) ≡ references world.heap (Ref i ∷ []) = ap (λ v. references world.heap (v ∷ [])) e in let k : items_in (slice_get world.heap i) ≡ length items = ap items_in h in omega (arith, q, k));
  }
  last_popped (v ∷ u ∷ vs) given = absurd given.1

  item_popped : (b : Operand) → kind_of b ≡ kind.Word → (vs : List Meant) → Given known around g core (a ∷ b ∷ []) vs → Popped known around pops w a b.x core g world vs
  item_popped b words [] given = absurd given
  item_popped b words (v ∷ []) given = absurd given.1
  item_popped b words (v ∷ u ∷ []) given =
      let y = word_held words given.1.0 in
      record {
        v = v;
        z = y.number;
        low = y.low;
        fits = y.fits;
        held = given.0;
        there = λ i items e h. ap (λ v. meant_op known.program w.found.covered pops (v ∷ u ∷ []) world) e ∙ ap (λ u. meant_op known.program w.found.covered pops (Ref i ∷ u ∷ []) world) y.high ∙ ap (λ o. object_method known.program w.found.covered (codes "pop") i (MeantWord y.number ∷ []) o world) h;
        none = λ e. ap (λ v. meant_op known.program w.found.covered pops (v ∷ u ∷ []) world) e;
        many = λ i items e h. (let q : references world.heap (v ∷ u ∷ []) ≡ references world.heap (Ref i ∷ u ∷ []) = ap (λ v. references world.heap (v ∷ u ∷ [])) e in let k : items_in (slice_get world.heap i) ≡ length items = ap items_in h in omega (arith, q, k));
      }
  item_popped b words (v ∷ u ∷ s ∷ vs) given = absurd given.1.1

pub last_items_are_popped : LastItemsArePopped
unfolding lowered method_of method_of_list method of_one
last_items_are_popped site known around place a w n item of stay =
    pop_done (row.Method (codes "pop") site) known around place a (word_operand (negsuc 0)) (a ∷ []) w n item of stay
    (one_comes around (row.Method (codes "pop") site) place a w (list_comes a of.is) ∙ ap (λ c. if c then pop around place a (word_operand (negsuc 0)) w else lower_op around (row.Method (codes "pop") site) place (a ∷ []) w) of.is)
    (λ below. (below.0, tt)) (λ core g world vs given. last_popped known around a w site core g world vs given)

pub items_are_popped : ItemsArePopped
unfolding lowered method_of method_of_two method_of_list method of_two
items_are_popped site known around place a b w n item of words stay =
    pop_done (row.Method (codes "pop") site) known around place a b.x (a ∷ b ∷ []) w n item of stay
    (two_come around (row.Method (codes "pop") site) place a b w (list_comes a of.is) (ap never_comes words) ∙ ap (λ c. if c then pop around place a b.x w else lower_op around (row.Method (codes "pop") site) place (a ∷ b ∷ []) w) of.is)
    (λ below. (below.0, below.1.0)) (λ core g world vs given. item_popped known around a w site core g world b words vs given)

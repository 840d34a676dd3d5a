-- The value of a key is stored, where the value is converted.
use Rattle.std.proofs.Common.{◌≡◌, ◌<◌, ◌≤◌, ℕ, ◌+◌, ◌*◌, ◌-◌, ◌^◌, ◌⊎◌, inl, inr, Bool, true, false, ◌||◌, ◌&&◌, List, [], ◌∷◌, ◌++◌, length, Option, Some, None, refl, sym, ap, ◌∙◌, subst, arith, append_assoc, length-append}
use Rattle.std.specs.Prelude.{slice_get, slice_set, if◌then◌else◌, not, nat_lt}
use Rattle.std.proofs.lemmas.Bool.Decides.{nat_tests}
use Rattle.ann_element.specs.declared.element.Element.{Element}
use Rattle.csub_tree.specs.State.{Value, Core}
use Rattle.csub_tree.specs.Operation.{is_unset}
use Rattle.csub_tree.specs.Statement.{operand, operands, any_unset}
use Rattle.csub_tree.specs.declared.tree.COperand.{COperand}
use Rattle.rpy_tree.specs.Value.{Value as Meant, Ref, Mapped, Heap}
use Rattle.rpy_meaning.specs.declared.row.RowOp.TheVariants as row
use Rattle.rpy_meaning.specs.Compare.{is_equal}
use Rattle.rpy_meaning.specs.Costs.{key_cost}
use Rattle.rpy_meaning.specs.Laws.{size_at}
use Rattle.rpy_meaning.specs.Operations.{op as meant_op}
use Rattle.rpy_meaning.specs.Sequences.{store_object, has_key, with_key}
use Rattle.rpy_meaning.specs.World.{World, Answer, Gives, Lacks as NoSteps, paying, set_object}
use Rattle.ll_code.specs.State.{Frame, State, Calling, At}
use Rattle.ll_code.specs.declared.program.LlType.{LlType}
use Rattle.ll_code.specs.declared.program.LlType.TheVariants as type
use Rattle.ll_code.specs.declared.program.LlOp.{LlOp}
use Rattle.ll_code.specs.declared.program.LlOp.TheVariants as op
use Rattle.ll_code.specs.declared.program.LlExit.{LlExit}
use Rattle.ll_code.specs.declared.program.LlProgram.{LlProgram}
use Rattle.ll_build.specs.declared.needs.Numbers.{Numbers}
use Rattle.rtyper_layout.specs.declared.dicts.Mapping.{Mapping}
use Rattle.rtyper_layout.specs.declared.kind.Kind.TheVariants as kind
use Rattle.rtyper_layout.specs.Dicts.{is_indexed, is_plain, stored_key, stored_value}
use Rattle.rtyper_layout.specs.Layout.{is_tuple}
use Rattle.rtyper_layout.specs.Types.{type_of as element_type, type_seen}
use Rattle.rtyper_data.specs.declared.small.Small.{Small}
use Rattle.rtyper_data.specs.declared.small.Small.TheVariants as small
use Rattle.rtyper_data.specs.declared.small.Keyed.TheVariants as keyed
use Rattle.rtyper_data.specs.Comparing.{alone}
use Rattle.rtyper_data.specs.Converting.{give, present, value_as}
use Rattle.rtyper_data.specs.Finding.{small_number}
use Rattle.rtyper_data.specs.Seen.{Around, Operand, Place, kind_of, type_of, Writing, writing}
use Rattle.rtyper_dict.specs.Lowering.{store, lower_dict_op, of_dict, of_dict_or, of_first, of_three}
use Rattle.rtyper_dict.specs.Operands.{dict_of, dict_pointed, done_by, key_in, of_dict_or_none, pointed, shape_in, stored_in, there, value_in}
use Rattle.rtyper_dict.specs.Parts.{shape_of}
use Rattle.list_shape.specs.Shapes.{taking}
use Rattle.lower_laws.specs.Asked.{Ask, Make}
use Rattle.lower_laws.specs.Values.{AllBelow, IsBelow}
use Rattle.lower_laws.proofs.Items.{gives_same}
use Rattle.lower_laws.proofs.Stayed.{field_is}
use Rattle.list_laws.proofs.Indexed.{asked_both}
use Rattle.list_copy_laws.proofs.Called.{call_lacks}
use Rattle.list_copy_laws.proofs.Ready.{Went}
use Rattle.list_copy_laws.proofs.Tests.{is_less, not_less}
use Rattle.object_laws.specs.Dicts.{DictAt, as_item, keys_of}
use Rattle.object_laws.specs.Done.{HasLayout, items_in as items_at, references}
use Rattle.object_laws.specs.Done as objects
use Rattle.object_laws.specs.Ghost.{Ghost, DictOf}
use Rattle.object_laws.specs.Known.{Known}
use Rattle.object_laws.specs.Represents.{Represents}
use Rattle.object_laws.specs.Staying.{Stays}
use Rattle.object_laws.specs.Values.{Given, Holds}
use Rattle.object_laws.proofs.Blocks.{found_set}
use Rattle.object_laws.proofs.Calling.{Returns}
use Rattle.object_laws.proofs.Growing.{holds_grows, home_grows}
use Rattle.object_laws.proofs.Passing.{operand_kept}
use Rattle.object_laws.proofs.Valued.{Dicting, Gone, dict_or_none, held_set, stays_held, stays_there, stays_typed}
use Rattle.conversion_laws.specs.Asked.{Has as HasConversion}
use Rattle.conversion_laws.specs.Converted.{Came as Converts, IsConverted, converted, items_in, tuples_in}
use Rattle.conversion_laws.specs.Going.{Goes}
use Rattle.conversion_laws.proofs.Converting.{values_are_converted}
use Rattle.conversion_laws.proofs.Moving.{Moved, has_first, has_second, operand_kept as kept_behind}
use Rattle.dict_laws.specs.Keys.{position_from}
use Rattle.dict_op_laws.proofs.Lengths.{same_kind}
use Rattle.dict_find_laws.specs.Finding.{StandsStill, place_word}
use Rattle.dict_find_laws.specs.Lookups.{HasValues, IsAskedFor as IsAskedAsItIs}
use Rattle.dict_find_laws.proofs.Arriving.{own_number, same_value}
use Rattle.dict_find_laws.proofs.Found.{keys_are_found}
use Rattle.dict_find_laws.proofs.Restored.{IsOf}
use Rattle.dict_change_laws.specs.Asked.{HasStore}
use Rattle.dict_change_laws.specs.Changed.{AreThere, CanStore}
use Rattle.dict_change_laws.proofs.Asking.{stores_by, stores_finds}
use Rattle.dict_change_laws.proofs.Coming.{Kept, kept_if}
use Rattle.dict_change_laws.proofs.Keyed.{item_set}
use Rattle.dict_change_laws.proofs.Pairs.{split, is_new}
use Rattle.dict_change_laws.proofs.Stage.{nothing_given}
use Rattle.dict_change_laws.proofs.Storing.{Stored, StoresBy, stored_kept, stored_new, store_lacks}
use Rattle.dict_conversion_laws.specs.Asked.{Has, HasAll}
use Rattle.dict_conversion_laws.specs.Done.{Follows, IsDoneWhere}
use Rattle.dict_conversion_laws.specs.Operands.{operand_asks}
use Rattle.dict_conversion_laws.proofs.Composed.{follows_so, moved_so, then_follows}
use Rattle.dict_conversion_laws.proofs.Kept.{all_kept}
use Rattle.dict_conversion_laws.proofs.Operands.{below_more, conversion_has}
use Rattle.dict_conversion_laws.proofs.Valued.{goes_there, held_is_of}

and_second : (a b : Bool) → (a && b) ≡ true → b ≡ true
and_second true b h = h
and_second false b h = absurd (cc)

never_below : (n : ℕ) → nat_lt n 0 ≡ false
never_below n = grind (arith, nat_tests)

-- four lists and more, one behind the other
parts_so : {A : Type 0} (xs ys zs us : List A) (a b : A) → ((((xs ++ ys) ++ zs) ++ us) ++ a ∷ []) ++ b ∷ [] ≡ xs ++ (ys ++ (zs ++ (us ++ (a ∷ b ∷ []))))
parts_so xs ys zs us a b =
    append_assoc (((xs ++ ys) ++ zs) ++ us) (a ∷ []) (b ∷ []) ∙ append_assoc ((xs ++ ys) ++ zs) us (a ∷ b ∷ []) ∙ append_assoc (xs ++ ys) zs (us ++ (a ∷ b ∷ [])) ∙ append_assoc xs ys (zs ++ (us ++ (a ∷ b ∷ [])))

module _ (known : Known) (around : Around) (place : Place) (a b c : Operand) (w : Writing) (n : ℕ) (m : Mapping) (value : Element) (is : IsAskedAsItIs around known a b n m) (sure : kind_of a ≡ kind.Dict) (values : HasValues around known m value)
    (go : Goes around.layout known c.element (Some value)) (real : kind_of c ≡ kind.Never → ⊥) (given_on : Stays around.layout known c.element place.element) (apart : is_tuple around.layout 0 ≡ false) where
  s : Kept m.key (stored_key m) b.x w.body
  s = kept_if b.x w.body (is_plain m.key) m.key (λ h. h)

  abbrev w1 : Writing
  w1 = writing w.found (record { types = w.body.types ++ s.new; ops = w.body.ops ++ s.ops })

  v : IsConverted (λ p. HasConversion p around.layout) known around.layout c.element (Some value) (operand_asks around c (Some value)) c.x w1
  v = values_are_converted known around.layout c.element (Some value) c.x w1 apart go

  abbrev z : COperand
  z = (converted around.layout c.element (Some value) c.x w1).0

  abbrev w2 : Writing
  w2 = (converted around.layout c.element (Some value) c.x w1).1

  t : Kept m.value (stored_value m) z w2.body
  t = kept_if z w2.body (not (is_plain m.key) && is_plain m.value) m.value (and_second (not (is_plain m.key)) (is_plain m.value))

  abbrev w3 : Writing
  w3 = writing w2.found (record { types = w2.body.types ++ t.new; ops = w2.body.ops ++ t.ops })

  abbrev puts_in : Small
  puts_in = small.Keyed (keyed.Store n)

  abbrev asks : List Ask
  asks = operand_asks around c (Some value) ++ Make puts_in ∷ []

  abbrev number : ℕ
  number = (small_number puts_in w2.found).0

  abbrev calls : LlOp
  calls = op.Call None number (a.x ∷ s.y ∷ t.y ∷ [])

  abbrev puts : LlOp
  puts = op.Set place.variable c.x

  dict_number : (shape_of m).dict ≡ m.dict
  unfolding shape_of
  dict_number = refl

  key_typed : type_of around b ≡ m.key
  key_typed = stays_typed is.stays ∙ ap (type_seen around.layout) is.keys.key_is ∙ is.keys.typed

  value_there : element_type around.layout value ≡ type.Void → ⊥
  value_there = goes_there go real

  value_typed : element_type around.layout value ≡ m.value
  value_typed = sym (values.typed ∙ field_is (element_type around.layout value) value_there)

  shape_is : dict_of around a ≡ Some (shape_of m)
  unfolding dict_of
  shape_is = ap (dict_pointed around.layout) is.dict.typed ∙ ap shape_in is.dict.mapping

  dict_written : there around a w ≡ (a.x, w)
  unfolding there
  dict_written = ap (λ k. present around a (of_dict_or_none k) w) sure

  key_written : key_in around (shape_of m) b w ≡ (s.y, w1)
  unfolding key_in shape_of
  key_written = ap (stored_in m.key (shape_of m).stored_key) (same_value around b m.key w key_typed) ∙ ap (alone w.found) s.written

  value_written : value_in around (shape_of m) c w1 ≡ (t.y, w3)
  unfolding value_in shape_of
  value_written = ap (λ u. stored_in m.value (shape_of m).stored_value (value_as around.layout c.x (type_of around c) u w1)) (sym value_typed) ∙ ap (alone w2.found) t.written

  abbrev store_at : ℕ → COperand × Writing → Writing
  store_at k made = taking made (λ v last. give around place c.x (type_of around c) (done_by (keyed.Store k) (a.x ∷ s.y ∷ v ∷ []) last))

  abbrev called : Writing
  called = writing (small_number puts_in w2.found).1 (record { types = w3.body.types; ops = w3.body.ops ++ calls ∷ [] })

  is_written : lower_dict_op around row.StoreIndex place (a ∷ b ∷ c ∷ []) w ≡ writing (small_number puts_in w2.found).1 (record { types = w3.body.types; ops = (w3.body.ops ++ calls ∷ []) ++ puts ∷ [] })
  unfolding lower_dict_op of_first of_dict of_three store done_by
  is_written =
      ap (λ o. of_dict_or around row.StoreIndex place o (a ∷ b ∷ c ∷ []) w) shape_is
      ∙ ap (λ made. taking made (λ x next. taking (key_in around (shape_of m) b next) (λ k mid. taking (value_in around (shape_of m) c mid) (λ v last. give around place c.x (type_of around c) (done_by (keyed.Store (shape_of m).dict) (x ∷ k ∷ v ∷ []) last))))) dict_written
      ∙ ap (λ made. taking made (λ k mid. taking (value_in around (shape_of m) c mid) (λ v last. give around place c.x (type_of around c) (done_by (keyed.Store (shape_of m).dict) (a.x ∷ k ∷ v ∷ []) last)))) key_written
      ∙ ap (store_at (shape_of m).dict) value_written
      ∙ ap (λ k. store_at k (t.y, w3)) (dict_number ∙ own_number around.layout.mappings n m is.dict.mapping)
      ∙ gives_same around place c.x (type_of around c) called (λ h. stays_there given_on (sym (stays_typed given_on) ∙ h)) (sym (stays_typed given_on))

  abbrev new : List LlType
  new = s.new ++ (v.new ++ t.new)

  new_long : length new ≡ length s.new + length v.new + length t.new
  new_long = (let x = length-append s.new (v.new ++ t.new) in let y = length-append v.new t.new in omega (arith, x, y))

  w1_long : length w1.body.types ≡ length w.body.types + length s.new
  w1_long = length-append w.body.types s.new

  w2_long : length w2.body.types ≡ length w.body.types + length s.new + length v.new
  w2_long = (let x = ap length v.types in let y = length-append w1.body.types v.new in let k = w1_long in omega (arith, x, y, k))

  module _ (p : LlProgram) (numbers : Numbers) (raised : ℕ → Value) (arguments : List (List ℕ)) (rest : List LlOp) (e : LlExit) (frames : List Frame) (core : Core) (g : Ghost) (world : World)
      (structs : HasLayout p around.layout) (has : HasAll p around.layout numbers raised core asks w.found)
      (stands : Represents around.layout known g world.heap world.left core.blocks core.statics) (left : world.left ≡ core.steps)
      (room : length w.body.types + length new ≤ length core.vars) (inside : place.variable < length w.body.types) (below : AllBelow (length w.body.types) (a ∷ b ∷ c ∷ [])) where
    abbrev last : List LlOp
    last = calls ∷ puts ∷ rest

    abbrev Here : State
    Here = At (s.ops ++ (v.ops ++ (t.ops ++ last))) e frames core

    abbrev Answered : List Meant → Answer → Type 0
    Answered vs answer = Follows (tuples_in (Some value) + 2) known around place p arguments Here rest e frames core g raised (references world.heap vs + items_in (Some value)) (length w.body.types) world answer

    abbrev Done : List Meant → Type 0
    Done vs = Answered vs (meant_op known.program w.found.covered row.StoreIndex vs world)

    has_graph : HasStore p around.layout numbers raised core n number
    has_graph = subst (λ found. HasStore p around.layout numbers raised core n (small_number puts_in found).0) (sym v.asked) (has_second (Has p around.layout numbers raised core) (operand_asks around c (Some value)) (Make puts_in ∷ []) w.found has).0

    module _ (u k y : Meant) (k_held : Holds around.layout known g b.element (operand core.vars b.x) k) (y_held : Holds around.layout known g c.element (operand core.vars c.x) y) (found_dict : Dicting around.layout known g a.element (operand core.vars a.x) u) (good : CanStore m world (Ref found_dict.i ∷ k ∷ y ∷ [])) where
      home : slice_get g.homes found_dict.i ≡ Some (record { sort = DictOf n; head = operand core.vars a.x })
      home = subst (λ k. slice_get g.homes found_dict.i ≡ Some (record { sort = DictOf k; head = operand core.vars a.x })) (ap pointed (sym found_dict.typed ∙ is.dict.typed)) found_dict.home

      abbrev head : Value
      head = operand core.vars a.x

      abbrev kx : Value
      kx = operand core.vars b.x

      key_in_place : Holds around.layout known g (known.keys m.dict) kx k
      key_in_place = stays_held is.stays k_held

      key_is : IsOf m.key kx
      key_is = subst (λ t. IsOf t kx) key_typed (held_is_of k_held)

      -- ---- the key

      went1 : Went p arguments Here (v.ops ++ (t.ops ++ last)) e frames core (length w.body.types) s.y (as_item m.key (stored_key m) kx)
      went1 = s.enters p arguments (v.ops ++ (t.ops ++ last)) e frames core (let q = new_long in omega (arith, room, q)) key_is

      abbrev core1 : Core
      core1 = went1.mid

      statics1 : core1.statics ≡ core.statics
      statics1 = ap (λ (c : Core). c.statics) went1.passed.memory

      stands1 : Represents around.layout known g world.heap world.left core1.blocks core1.statics
      stands1 = subst (λ (c : Core). Represents around.layout known g world.heap world.left c.blocks c.statics) (sym went1.passed.memory) stands

      left1 : world.left ≡ core1.steps
      left1 = left ∙ sym (ap (λ (c : Core). c.steps) went1.passed.memory)

      c_below : IsBelow (length w1.body.types) c.x
      c_below = below_more c.x (length w.body.types) (length w1.body.types) (let q = w1_long in omega (arith, q)) below.1.1.0

      -- ---- the value

      it : Converts around.layout known (λ ghost x. Holds around.layout known ghost (Some value) x y) p arguments (At (v.ops ++ (t.ops ++ last)) e frames core1) (t.ops ++ last) e frames core1 g world.heap world.left (length w1.body.types) (Some value) z
      it = v.follows p numbers raised arguments (t.ops ++ last) e frames core1 g world.heap world.left y structs
          (conversion_has p around.layout numbers raised core1 (type_of around c) (type_seen around.layout (Some value)) w.found
          (all_kept p around.layout numbers raised core core1 statics1 (ap (λ (c : Core). c.steps) went1.passed.memory) (operand_asks around c (Some value)) w.found (has_first (Has p around.layout numbers raised core) (operand_asks around c (Some value)) (Make puts_in ∷ []) w.found has)))
          stands1 left1 (let q = went1.passed.room in let l1 = w1_long in let l = new_long in omega (arith, room, q, l1, l)) c_below
          (subst (λ x. Holds around.layout known g c.element x y) (sym (operand_kept went1.passed c.x below.1.1.0)) y_held)

      moved : Moved around.layout known p arguments (At (v.ops ++ (t.ops ++ last)) e frames core1) (t.ops ++ last) e frames core1 g world.heap world.left (length w1.body.types) (items_in (Some value)) (tuples_in (Some value)) it.end it.ghost
      moved = record { leads = it.leads; grown = it.grown; stands = it.stands; few = it.few; memory = it.memory; others = it.others; room = it.room; function = it.function; block = it.block }

      abbrev h : Ghost
      h = it.ghost

      abbrev core2 : Core
      core2 = it.end

      left2 : world.left ≡ core2.steps
      left2 = left1 ∙ sym (ap (λ (c : Core). c.steps) it.memory)

      abbrev vx : Value
      vx = operand core2.vars z

      value_is : IsOf m.value vx
      value_is = subst (λ t. IsOf t vx) value_typed (held_is_of it.fine)

      went3 : Went p arguments (At (t.ops ++ last) e frames core2) last e frames core2 (length w2.body.types) t.y (as_item m.value (stored_value m) vx)
      went3 = t.enters p arguments last e frames core2 (let q = went1.passed.room in let q2 = it.room in let l2 = w2_long in let l = new_long in omega (arith, room, q, q2, l2, l)) value_is

      abbrev mid : Core
      mid = went3.mid

      mid_long : length mid.vars ≡ length core.vars
      mid_long = went3.passed.room ∙ it.room ∙ went1.passed.room

      stands_mid : Represents around.layout known h world.heap world.left mid.blocks mid.statics
      stands_mid = subst (λ (c : Core). Represents around.layout known h world.heap world.left c.blocks c.statics) (sym went3.passed.memory) it.stands

      left_mid : world.left ≡ mid.steps
      left_mid = left2 ∙ sym (ap (λ (c : Core). c.steps) went3.passed.memory)

      -- an operand from before, and one from behind the key
      from_before : (x : COperand) → IsBelow (length w.body.types) x → operand mid.vars x ≡ operand core.vars x
      from_before x low =
          operand_kept went3.passed x (below_more x (length w.body.types) (length w2.body.types) (let q = w2_long in omega (arith, q)) low)
          ∙ kept_behind core1 core2 (length w1.body.types) it.others x (below_more x (length w.body.types) (length w1.body.types) (let q = w1_long in omega (arith, q)) low)
          ∙ operand_kept went1.passed x low

      home2 : slice_get h.homes found_dict.i ≡ Some (record { sort = DictOf n; head = head })
      home2 = home_grows it.grown found_dict.i _ home

      d : DictAt around.layout known h world.heap mid.blocks mid.statics m found_dict.i head
      d = stands_mid.dicts n found_dict.i head m home2 is.dict.mapping

      abbrev x : Value
      x = as_item m.key (stored_key m) kx

      abbrev low : Value
      low = as_item m.value (stored_value m) vx

      dict_here : operand mid.vars a.x ≡ head
      dict_here = from_before a.x below.0

      key_here : operand mid.vars s.y ≡ x
      key_here =
          let inside : IsBelow (length w1.body.types) s.y = subst (λ k. IsBelow k s.y) (sym w1_long) (s.inside below.1.0) in
          operand_kept went3.passed s.y (below_more s.y (length w1.body.types) (length w2.body.types) (let q = w2_long in let z = w1_long in omega (arith, q, z)) inside)
          ∙ kept_behind core1 core2 (length w1.body.types) it.others s.y inside ∙ went1.is

      given_here : operand mid.vars c.x ≡ operand core.vars c.x
      given_here = from_before c.x below.1.1.0

      same : operands mid.vars (a.x ∷ s.y ∷ t.y ∷ []) ≡ head ∷ x ∷ low ∷ []
      same = ap (λ q. q ∷ operand mid.vars s.y ∷ operand mid.vars t.y ∷ []) dict_here ∙ ap (λ q. head ∷ q ∷ operand mid.vars t.y ∷ []) key_here ∙ ap (λ q. head ∷ x ∷ q ∷ []) went3.is

      head_set : is_unset head ≡ false
      head_set = found_set mid.blocks mid.statics head _ d.head_is

      set : any_unset (head ∷ x ∷ low ∷ []) ≡ false
      set = ap (λ q. q || (is_unset x || (is_unset low || false))) head_set ∙ ap (λ q. q || (is_unset low || false)) (item_set m.key (stored_key m) kx (held_set stands k_held)) ∙ ap (λ q. q || false) (item_set m.value (stored_value m) vx (held_set it.stands it.fine))

      key_held : Holds around.layout known h (known.keys m.dict) kx k
      key_held = holds_grows it.grown key_in_place

      value_held : Holds around.layout known h (known.items m.dict) vx y
      value_held = subst (λ seen. Holds around.layout known h seen vx y) (sym values.value_is) it.fine

      by_graphs : StoresBy p arguments around.layout known m number
      by_graphs = stores_by around.layout n m is.dict.mapping p arguments known is.keys structs numbers raised core number has_graph

      still : StandsStill m core mid
      still q pointer apart_so = (ap (λ (c : Core). c.statics) went3.passed.memory ∙ ap (λ (c : Core). c.statics) it.memory ∙ statics1, sym left_mid ∙ left)

      abbrev at : Option ℕ
      at = position_from is_equal 0 (keys_of d.pairs) k

      finding : (vars : List Value) (waits : List Frame) → Returns p arguments 0 (Calling by_graphs.finds (head ∷ x ∷ []) waits (record mid { function = number; block = 0; at = 0; vars = vars })) (place_word at) waits (record mid { function = number; block = 0; at = 0; vars = vars })
      unfolding by_graphs
      finding vars waits =
          let found = keys_are_found around.layout known p numbers raised arguments n by_graphs.finds m core (record mid { function = number; block = 0; at = 0; vars = vars }) h world.heap world.left found_dict.i head kx k is.dict.mapping is.keys structs
          (stores_finds around.layout n m is.dict.mapping p arguments known is.keys structs numbers raised core number has_graph) stands_mid d (record { held = key_held; there = λ q. (good.0 q).0 }) still waits in
          record { end = found.end; same = found.same; leads = found.leads }

      abbrev vs : List Meant
      vs = Ref found_dict.i ∷ k ∷ y ∷ []

      abbrev pairs2 : List (Meant × Meant)
      pairs2 = with_key k y d.pairs

      abbrev heap2 : Heap
      heap2 = slice_set world.heap found_dict.i (Mapped pairs2)

      abbrev many : ℕ
      many = length d.pairs + length d.pairs + 4

      fits : many ≤ references world.heap vs
      fits = (let q : items_at (slice_get world.heap found_dict.i) ≡ 3 * length d.pairs = ap items_at d.object in omega (arith, q))

      -- ---- the call

      abbrev Calls : Answer → Type 0
      Calls answer = objects.Follows 2 known around place p arguments (At last e frames mid) rest e frames mid h raised (references world.heap vs) (length w2.body.types) world answer

      gives_it : (fewer : ℕ) → Stored p arguments around.layout known h world.heap fewer found_dict.i head pairs2 number many x low mid → Calls (Gives y (record world { heap = heap2; left = fewer }))
      gives_it fewer done = nothing_given 2 known around place p arguments rest e frames mid h done.ghost (length w2.body.types) world heap2 fewer done.blocks done.statics
          many (references world.heap vs) (operand core.vars c.x) y fits same set (omega (arith, room, inside, mid_long)) done.grown done.stands done.few done.returns given_here (held_set stands y_held) (stays_held given_on (holds_grows done.grown (holds_grows it.grown y_held)))

      there_keys : is_indexed m ≡ true → AreThere (keys_of d.pairs)
      there_keys q = (good.0 q).1 d.pairs d.object

      few_entries : length d.pairs + world.left < 2 ^ 62
      few_entries = (let few = good.1 in let q : size_at (slice_get world.heap found_dict.i) ≡ length d.pairs = ap size_at d.object in omega (arith, few, q))

      kept : (i : ℕ) → at ≡ Some i → Calls (Gives y (record world { heap = heap2; left = world.left }))
      kept i is_at = gives_it world.left (stored_kept p arguments around.layout known structs n m is.dict.mapping number by_graphs h world.heap world.left mid stands_mid left_mid found_dict.i head home2 d kx vx k y key_held value_held (λ q. (good.0 q).0) there_keys finding i is_at)

      lacking : at ≡ None → world.left < 1 → Calls NoSteps
      lacking is_at short = call_lacks same set (puts ∷ rest) (store_lacks p arguments around.layout known structs n m is.dict.mapping number by_graphs h world.heap world.left mid stands_mid left_mid found_dict.i head home2 d kx vx k y key_held value_held (λ q. (good.0 q).0) there_keys finding is_at short)

      added : at ≡ None → 1 ≤ world.left → Calls (Gives y (record world { heap = heap2; left = world.left - 1 }))
      added is_at enough = gives_it (world.left - 1) (stored_new p arguments around.layout known structs n m is.dict.mapping number by_graphs h world.heap world.left mid stands_mid left_mid found_dict.i head home2 d kx vx k y key_held value_held (λ q. (good.0 q).0) there_keys finding is_at enough (let q = few_entries in omega (arith, q, enough)))

      abbrev answer : Bool → Answer
      answer there = paying (if there then 0 else key_cost) (set_object found_dict.i (Mapped pairs2) y) world

      by_steps : at ≡ None → (short : Bool) → nat_lt world.left key_cost ≡ short → Calls (if short then NoSteps else Gives y (record world { heap = heap2; left = world.left - 1 }))
      by_steps is_at true h = lacking is_at (is_less world.left key_cost h)
      by_steps is_at false h = added is_at (not_less world.left key_cost h)

      does : (o : Option ℕ) → at ≡ o → Calls (answer (has_key k d.pairs))
      does None is_at = subst (λ there. Calls (answer there)) (sym (is_new k d.pairs is_at).has) (by_steps is_at (nat_lt world.left key_cost) refl)
      does (Some i) is_at = subst (λ there. Calls (answer there)) (sym (split k d.pairs i is_at).has) free
        where
          never : nat_lt world.left 0 ≡ false
          never = never_below world.left

          all_left : world.left ≡ world.left - 0
          all_left = omega arith

          free : Calls (answer true)
          free = subst (λ short. Calls (if short then NoSteps else Gives y (record world { heap = heap2; left = world.left - 0 }))) (sym never) (subst (λ l. Calls (Gives y (record world { heap = heap2; left = l }))) all_left (kept i is_at))

      meant : meant_op known.program w.found.covered row.StoreIndex vs world ≡ answer (has_key k d.pairs)
      meant = ap (λ o. store_object w.found.covered found_dict.i k y o world) d.object

      abbrev result : Answer
      result = answer (has_key k d.pairs)

      there_so : Done (u ∷ k ∷ y ∷ [])
      there_so =
          let refs : ℕ = references world.heap vs in
          let made : ℕ = tuples_in (Some value) in
          let written : ℕ = items_in (Some value) in
          let at_call = follows_so known around place p arguments rest e frames raised world 2 refs (length w2.body.types) (At last e frames mid) mid stands_mid result (does at refl) in
          let at_value = then_follows known around place p arguments rest e frames raised world 0 0 refs refs 2 2 (length w2.body.types) (length w2.body.types) (moved_so known around place p arguments rest e frames raised world it.stands went3.passed went3.way) (omega arith) (omega arith) (omega arith) result at_call in
          let at_given = then_follows known around place p arguments rest e frames raised world made written refs (refs + written) 2 (made + 2) (length w1.body.types) (length w2.body.types) moved (let q = w2_long in let z = w1_long in omega (arith, q, z)) (omega arith) (omega arith) result at_value in
          let at_key = then_follows known around place p arguments rest e frames raised world 0 0 (refs + written) (refs + written) (made + 2) (made + 2) (length w.body.types) (length w1.body.types) (moved_so known around place p arguments rest e frames raised world stands went1.passed went1.way) (let z = w1_long in omega (arith, z)) (omega arith) (omega arith) result at_given in
          subst (λ u. Done (u ∷ k ∷ y ∷ [])) (sym found_dict.high) (subst (Answered vs) (sym meant) at_key)

    never_gone : (u : Meant) → Gone kind.MaybeDict a.element (operand core.vars a.x) u → ⊥
    never_gone u gone = (let q : kind.Dict ≡ kind.MaybeDict = sym sure ∙ gone.may in absurd (cc))

    either : (u k y : Meant) → Holds around.layout known g b.element (operand core.vars b.x) k → Holds around.layout known g c.element (operand core.vars c.x) y → CanStore m world (u ∷ k ∷ y ∷ []) → Dicting around.layout known g a.element (operand core.vars a.x) u ⊎ Gone kind.MaybeDict a.element (operand core.vars a.x) u → Done (u ∷ k ∷ y ∷ [])
    either u k y k_held y_held good (inl it) = there_so u k y k_held y_held it (subst (λ u. CanStore m world (u ∷ k ∷ y ∷ [])) it.high good)
    either u k y k_held y_held good (inr gone) = absurd (never_gone u gone)

    follow : (vs : List Meant) → Given known around g core (a ∷ b ∷ c ∷ []) vs → CanStore m world vs
        → Follows (tuples_in (Some value) + 2) known around place p arguments (At ((s.ops ++ (v.ops ++ (t.ops ++ (calls ∷ puts ∷ [])))) ++ rest) e frames core) rest e frames core g raised (references world.heap vs + items_in (Some value)) (length w.body.types) world (meant_op known.program w.found.covered row.StoreIndex vs world)
    follow [] given good = absurd given
    follow (u ∷ []) given good = absurd given.1
    follow (u ∷ k ∷ []) given good = absurd given.1.1
    follow (u ∷ k ∷ y ∷ []) given good =
        subst (λ l. Follows (tuples_in (Some value) + 2) known around place p arguments (At l e frames core) rest e frames core g raised (references world.heap (u ∷ k ∷ y ∷ []) + items_in (Some value)) (length w.body.types) world (meant_op known.program w.found.covered row.StoreIndex (u ∷ k ∷ y ∷ []) world))
        (sym (append_assoc s.ops (v.ops ++ (t.ops ++ (calls ∷ puts ∷ []))) rest ∙ ap (λ l. s.ops ++ l) (append_assoc v.ops (t.ops ++ (calls ∷ puts ∷ [])) rest ∙ ap (λ l. v.ops ++ l) (append_assoc t.ops (calls ∷ puts ∷ []) rest))))
        (either u k y given.1.0 given.1.1.0 good (dict_or_none (sym (same_kind (kind_of a)) ∙ is.dict.dicts) given.0))
    follow (u ∷ k ∷ y ∷ z ∷ more) given good = absurd given.1.1.1

  pub store_done : IsDoneWhere (CanStore m) (tuples_in (Some value) + 2) (items_in (Some value)) known around row.StoreIndex w.found.covered asks (lower_dict_op around row.StoreIndex place (a ∷ b ∷ c ∷ []) w) place (a ∷ b ∷ c ∷ []) w
  store_done = record {
    ops = s.ops ++ (v.ops ++ (t.ops ++ (calls ∷ puts ∷ [])));
    new = new;
    asked = ap (λ (q : Writing). q.found) is_written ∙ ap (λ found. (small_number puts_in found).1) v.asked ∙ sym (asked_both (operand_asks around c (Some value)) (Make puts_in ∷ []) w.found);
    written = ap (λ (q : Writing). q.body.ops) is_written ∙ ap (λ l. ((l ++ t.ops) ++ calls ∷ []) ++ puts ∷ []) v.written ∙ parts_so w.body.ops s.ops v.ops t.ops calls puts;
    types = ap (λ (q : Writing). q.body.types) is_written ∙ ap (λ l. l ++ t.new) v.types ∙ append_assoc (w.body.types ++ s.new) v.new t.new ∙ append_assoc w.body.types s.new (v.new ++ t.new);
    follows = λ p numbers raised arguments rest e frames core g world vs structs has stands left room inside below given good. follow p numbers raised arguments rest e frames core g world structs has stands left room inside below vs given good;
  }

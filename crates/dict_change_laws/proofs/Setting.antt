-- The value of a key is stored.
use Rattle.std.proofs.Common.{◌≡◌, ◌<◌, ◌≤◌, ℕ, ◌+◌, ◌*◌, ◌-◌, ◌^◌, ◌⊎◌, inl, inr, Bool, true, false, ◌||◌, ◌&&◌, List, [], ◌∷◌, ◌++◌, length, Option, Some, None, refl, sym, ap, ◌∙◌, subst, arith, append_assoc, length-append}
use Rattle.std.specs.Prelude.{slice_get, slice_set, if◌then◌else◌, not, nat_lt}
use Rattle.std.proofs.lemmas.Bool.Decides.{nat_tests}
use Rattle.rpy_base.specs.declared.outcome.FailName.TheVariants as fail
use Rattle.ann_element.specs.declared.element.Element.{Element}
use Rattle.csub_tree.specs.State.{Value, Core}
use Rattle.csub_tree.specs.Operation.{is_unset}
use Rattle.csub_tree.specs.Statement.{operand, operands, any_unset}
use Rattle.csub_tree.specs.declared.tree.COperand.{COperand}
use Rattle.rpy_tree.specs.Value.{Value as Meant, Nothing, Ref, Mapped, Heap}
use Rattle.rpy_meaning.specs.declared.row.RowOp.TheVariants as row
use Rattle.rpy_meaning.specs.Compare.{is_equal}
use Rattle.rpy_meaning.specs.Costs.{key_cost}
use Rattle.rpy_meaning.specs.Laws.{size_at}
use Rattle.rpy_meaning.specs.Operations.{op as meant_op}
use Rattle.rpy_meaning.specs.Sequences.{store_object, has_key, with_key}
use Rattle.rpy_meaning.specs.World.{World, Answer, Gives, Lacks as NoSteps, failure, paying, set_object}
use Rattle.ll_code.specs.State.{Frame, State, Calling, At}
use Rattle.ll_code.specs.declared.program.LlType.{LlType}
use Rattle.ll_code.specs.declared.program.LlType.TheVariants as type
use Rattle.ll_code.specs.declared.program.LlOp.{LlOp}
use Rattle.ll_code.specs.declared.program.LlOp.TheVariants as op
use Rattle.ll_code.specs.declared.program.LlExit.{LlExit}
use Rattle.ll_code.specs.declared.program.LlProgram.{LlProgram}
use Rattle.ll_build.specs.declared.needs.Numbers.{Numbers}
use Rattle.ll_leads.specs.Memory.{forgotten}
use Rattle.rtyper_layout.specs.declared.dicts.Mapping.{Mapping}
use Rattle.rtyper_layout.specs.declared.kind.Kind.TheVariants as kind
use Rattle.rtyper_layout.specs.Dicts.{is_indexed, is_plain, stored_key, stored_value}
use Rattle.rtyper_layout.specs.Types.{type_of as element_type, type_seen}
use Rattle.rtyper_data.specs.declared.found.Found.{Found}
use Rattle.rtyper_data.specs.declared.small.Small.{Small}
use Rattle.rtyper_data.specs.declared.small.Small.TheVariants as small
use Rattle.rtyper_data.specs.declared.small.Keyed.TheVariants as keyed
use Rattle.rtyper_data.specs.Comparing.{alone}
use Rattle.rtyper_data.specs.Converting.{give}
use Rattle.rtyper_data.specs.Finding.{small_number}
use Rattle.rtyper_data.specs.Seen.{Around, Operand, Place, kind_of, type_of, Writing, writing}
use Rattle.rtyper_dict.specs.Lowering.{store, lower_dict_op, of_dict, of_dict_or, of_first, of_three}
use Rattle.rtyper_dict.specs.Operands.{dict_of, dict_pointed, done_by, key_in, pointed, shape_in, stored_in, value_in}
use Rattle.rtyper_dict.specs.Parts.{shape_of}
use Rattle.list_shape.specs.Shapes.{taking}
use Rattle.lower_laws.specs.Asked.{Ask, Make, all_asked}
use Rattle.lower_laws.specs.Values.{AllBelow}
use Rattle.lower_laws.proofs.Items.{gives_same}
use Rattle.lower_laws.proofs.Stayed.{field_is}
use Rattle.list_laws.proofs.Indexed.{asked_both}
use Rattle.list_copy_laws.proofs.Called.{call_lacks}
use Rattle.list_copy_laws.proofs.Ready.{Went, from_there}
use Rattle.list_copy_laws.proofs.Tests.{is_less, not_less}
use Rattle.dict_op_laws.specs.Dicts.{there_asks}
use Rattle.dict_op_laws.proofs.Lengths.{same_kind}
use Rattle.object_laws.specs.Dicts.{DictAt, as_item, keys_of}
use Rattle.object_laws.specs.Done.{Follows, HasLayout, items_in, references}
use Rattle.object_laws.specs.Ghost.{Ghost, DictOf}
use Rattle.object_laws.specs.Known.{Known}
use Rattle.object_laws.specs.Represents.{Represents}
use Rattle.object_laws.specs.Staying.{Stays}
use Rattle.object_laws.specs.Values.{Given, Holds}
use Rattle.object_laws.proofs.Blocks.{found_set, found_there}
use Rattle.object_laws.proofs.Calling.{Returns}
use Rattle.object_laws.proofs.Growing.{holds_grows}
use Rattle.object_laws.proofs.Passing.{operand_kept}
use Rattle.object_laws.proofs.Valued.{Dicting, Gone, dict_or_none, held_set, stays_held, stays_there, stays_typed}
use Rattle.dict_laws.specs.Keys.{position_from}
use Rattle.dict_find_laws.specs.Asked.{HasAll as HasLooking}
use Rattle.dict_find_laws.specs.Finding.{place_word}
use Rattle.dict_find_laws.specs.Lookups.{HasValues, IsAskedFor}
use Rattle.dict_find_laws.proofs.Hashed.{still_so}
use Rattle.dict_find_laws.proofs.Arriving.{own_number, same_value}
use Rattle.dict_find_laws.proofs.Found.{keys_are_found}
use Rattle.dict_find_laws.proofs.Read.{below_more}
use Rattle.dict_find_laws.proofs.Restored.{IsOf, is_of}
use Rattle.dict_change_laws.specs.Asked.{HasAll, HasStore}
use Rattle.dict_change_laws.specs.Changed.{AreThere, CanStore, IsTold, ValuesAreStored}
use Rattle.dict_change_laws.proofs.Asking.{stores_by, stores_finds}
use Rattle.dict_change_laws.proofs.Coming.{Ready, ready, Kept, kept_if}
use Rattle.dict_change_laws.proofs.Keyed.{item_set}
use Rattle.dict_change_laws.proofs.Pairs.{split, is_new}
use Rattle.dict_change_laws.proofs.Stage.{has_first, has_more, there_has, nothing_given}
use Rattle.dict_change_laws.proofs.Storing.{Stored, StoresBy, stored_kept, stored_new, store_lacks}

and_second : (a b : Bool) → (a && b) ≡ true → b ≡ true
and_second true b h = h
and_second false b h = absurd (cc)

never_below : (n : ℕ) → nat_lt n 0 ≡ false
never_below n = grind (arith, nat_tests)

-- four lists and more, one behind the other
parts_so : {A : Type 0} (xs ys zs us : List A) (a b : A) → ((((xs ++ ys) ++ zs) ++ us) ++ a ∷ []) ++ b ∷ [] ≡ xs ++ (ys ++ (zs ++ (us ++ (a ∷ b ∷ []))))
parts_so xs ys zs us a b =
    append_assoc (((xs ++ ys) ++ zs) ++ us) (a ∷ []) (b ∷ []) ∙ append_assoc ((xs ++ ys) ++ zs) us (a ∷ b ∷ []) ∙ append_assoc (xs ++ ys) zs (us ++ (a ∷ b ∷ [])) ∙ append_assoc xs ys (zs ++ (us ++ (a ∷ b ∷ [])))

module _ (known : Known) (around : Around) (place : Place) (a b c : Operand) (w : Writing) (n : ℕ) (m : Mapping) (value : Element) (is : IsAskedFor around known a b n m) (values : HasValues around known m value) (stay : Stays around.layout known c.element (Some value)) (given_on : Stays around.layout known c.element place.element) where
  r : Ready around a w
  r = ready around a w is.dict.dicts

  abbrev found_first : Found
  found_first = all_asked (there_asks around a w.found.covered) w.found

  abbrev w1 : Writing
  w1 = writing found_first (record { types = w.body.types ++ r.new; ops = w.body.ops ++ r.ops })

  s : Kept m.key (stored_key m) b.x w1.body
  s = kept_if b.x w1.body (is_plain m.key) m.key (λ h. h)

  abbrev w2 : Writing
  w2 = writing found_first (record { types = (w.body.types ++ r.new) ++ s.new; ops = (w.body.ops ++ r.ops) ++ s.ops })

  t : Kept m.value (stored_value m) c.x w2.body
  t = kept_if c.x w2.body (not (is_plain m.key) && is_plain m.value) m.value (and_second (not (is_plain m.key)) (is_plain m.value))

  abbrev w3 : Writing
  w3 = writing found_first (record { types = ((w.body.types ++ r.new) ++ s.new) ++ t.new; ops = ((w.body.ops ++ r.ops) ++ s.ops) ++ t.ops })

  abbrev puts_in : Small
  puts_in = small.Keyed (keyed.Store n)

  abbrev asks : List Ask
  asks = there_asks around a w.found.covered ++ Make puts_in ∷ []

  abbrev number : ℕ
  number = (small_number puts_in found_first).0

  abbrev calls : LlOp
  calls = op.Call None number (r.x ∷ s.y ∷ t.y ∷ [])

  abbrev puts : LlOp
  puts = op.Set place.variable c.x

  dict_number : (shape_of m).dict ≡ m.dict
  unfolding shape_of
  dict_number = refl

  key_typed : type_of around b ≡ m.key
  key_typed = stays_typed is.stays ∙ ap (type_seen around.layout) is.keys.key_is ∙ is.keys.typed

  value_there : element_type around.layout value ≡ type.Void → ⊥
  value_there h = stays_there stay h

  value_typed : type_of around c ≡ m.value
  value_typed = stays_typed stay ∙ sym (values.typed ∙ field_is (element_type around.layout value) value_there)

  shape_is : dict_of around a ≡ Some (shape_of m)
  unfolding dict_of
  shape_is = ap (dict_pointed around.layout) is.dict.typed ∙ ap shape_in is.dict.mapping

  key_written : key_in around (shape_of m) b w1 ≡ (s.y, w2)
  unfolding key_in shape_of
  key_written = ap (stored_in m.key (shape_of m).stored_key) (same_value around b m.key w1 key_typed) ∙ ap (alone found_first) s.written

  value_written : value_in around (shape_of m) c w2 ≡ (t.y, w3)
  unfolding value_in shape_of
  value_written = ap (stored_in m.value (shape_of m).stored_value) (same_value around c m.value w2 value_typed) ∙ ap (alone found_first) t.written

  abbrev store_at : ℕ → COperand × Writing → Writing
  store_at k made = taking made (λ v last. give around place c.x (type_of around c) (done_by (keyed.Store k) (r.x ∷ s.y ∷ v ∷ []) last))

  abbrev called : Writing
  called = writing (small_number puts_in found_first).1 (record { types = w3.body.types; ops = w3.body.ops ++ calls ∷ [] })

  is_written : lower_dict_op around row.StoreIndex place (a ∷ b ∷ c ∷ []) w ≡ writing (small_number puts_in found_first).1 (record { types = w3.body.types; ops = (w3.body.ops ++ calls ∷ []) ++ puts ∷ [] })
  unfolding lower_dict_op of_first of_dict of_three store done_by
  is_written =
      ap (λ o. of_dict_or around row.StoreIndex place o (a ∷ b ∷ c ∷ []) w) shape_is
      ∙ ap (λ made. taking made (λ x next. taking (key_in around (shape_of m) b next) (λ k mid. taking (value_in around (shape_of m) c mid) (λ v last. give around place c.x (type_of around c) (done_by (keyed.Store (shape_of m).dict) (x ∷ k ∷ v ∷ []) last))))) r.written
      ∙ ap (λ made. taking made (λ k mid. taking (value_in around (shape_of m) c mid) (λ v last. give around place c.x (type_of around c) (done_by (keyed.Store (shape_of m).dict) (r.x ∷ k ∷ v ∷ []) last)))) key_written
      ∙ ap (store_at (shape_of m).dict) value_written
      ∙ ap (λ k. store_at k (t.y, w3)) (dict_number ∙ own_number around.layout.mappings n m is.dict.mapping)
      ∙ gives_same around place c.x (type_of around c) called (λ h. value_there (sym (stays_typed stay) ∙ h)) (sym (stays_typed given_on))

  abbrev behind : List LlOp
  behind = calls ∷ puts ∷ []

  abbrev new : List LlType
  new = r.new ++ (s.new ++ t.new)

  new_long : length new ≡ length r.new + length s.new + length t.new
  new_long = (let x = length-append r.new (s.new ++ t.new) in let y = length-append s.new t.new in omega (arith, x, y))

  w1_long : length w1.body.types ≡ length w.body.types + length r.new
  w1_long = length-append w.body.types r.new

  w2_long : length w2.body.types ≡ length w.body.types + length r.new + length s.new
  w2_long = (let x = length-append (w.body.types ++ r.new) s.new in let y = w1_long in omega (arith, x, y))

  w3_long : length w3.body.types ≡ length w.body.types + length new
  w3_long = (let x = length-append ((w.body.types ++ r.new) ++ s.new) t.new in let y = w2_long in let z = new_long in omega (arith, x, y, z))

  module _ (p : LlProgram) (numbers : Numbers) (raised : ℕ → Value) (arguments : List (List ℕ)) (rest : List LlOp) (e : LlExit) (frames : List Frame) (core : Core) (g : Ghost) (world : World)
      (structs : HasLayout p around.layout) (has : HasAll p around.layout numbers raised core asks w.found)
      (stands : Represents around.layout known g world.heap world.left core.blocks core.statics) (left : world.left ≡ core.steps)
      (room : length w.body.types + length new ≤ length core.vars) (inside : place.variable < length w.body.types) (below : AllBelow (length w.body.types) (a ∷ b ∷ c ∷ [])) where
    abbrev last : List LlOp
    last = calls ∷ puts ∷ rest

    abbrev Here : State
    Here = At (r.ops ++ (s.ops ++ (t.ops ++ last))) e frames core

    abbrev Answered : List Meant → Answer → Type 0
    Answered vs answer = Follows 2 known around place p arguments Here rest e frames core g raised (references world.heap vs) (length w.body.types) world answer

    abbrev Done : List Meant → Type 0
    Done vs = Answered vs (meant_op known.program w.found.covered row.StoreIndex vs world)

    has_there : HasLooking p around.layout numbers raised core (there_asks around a w.found.covered) w.found
    has_there = there_has p around numbers raised core a w.found.covered w.found (has_first p around numbers raised core (there_asks around a w.found.covered) (Make puts_in ∷ []) w.found has)

    has_graph : HasStore p around.layout numbers raised core n number
    has_graph = (has_more p around numbers raised core (there_asks around a w.found.covered) (Make puts_in ∷ []) w.found has).0

    dict_missing : (u k v : Meant) → Gone kind.MaybeDict a.element (operand core.vars a.x) u → Done (u ∷ k ∷ v ∷ [])
    dict_missing u k v gone = subst (λ u. Done (u ∷ k ∷ v ∷ [])) (sym gone.high)
        (subst (λ l. Follows 2 known around place p arguments (At (r.ops ++ l) e frames core) rest e frames core g raised (references world.heap (Nothing ∷ k ∷ v ∷ [])) (length w.body.types) world (failure w.found.covered.attribute 9 fail.Attribute world)) (append_assoc s.ops (t.ops ++ behind) rest ∙ ap (λ l. s.ops ++ l) (append_assoc t.ops behind rest))
        (r.misses 2 known place p numbers raised arguments (s.ops ++ (t.ops ++ behind)) rest e frames core core g (references world.heap (Nothing ∷ k ∷ v ∷ [])) (length w.body.types) world has_there gone.may gone.low))

    module _ (u k v : Meant) (k_held : Holds around.layout known g b.element (operand core.vars b.x) k) (v_held : Holds around.layout known g c.element (operand core.vars c.x) v) (found_dict : Dicting around.layout known g a.element (operand core.vars a.x) u) (good : CanStore m world (Ref found_dict.i ∷ k ∷ v ∷ [])) where
      home : slice_get g.homes found_dict.i ≡ Some (record { sort = DictOf n; head = operand core.vars a.x })
      home = subst (λ k. slice_get g.homes found_dict.i ≡ Some (record { sort = DictOf k; head = operand core.vars a.x })) (ap pointed (sym found_dict.typed ∙ is.dict.typed)) found_dict.home

      abbrev head : Value
      head = operand core.vars a.x

      abbrev kx : Value
      kx = operand core.vars b.x

      abbrev vx : Value
      vx = operand core.vars c.x

      first_dict : DictAt around.layout known g world.heap core.blocks core.statics m found_dict.i head
      first_dict = stands.dicts n found_dict.i head m home is.dict.mapping

      key_is : IsOf m.key kx
      key_is = subst (λ t. IsOf t kx) key_typed (is_of is.stays k_held)

      value_is : IsOf m.value vx
      value_is = subst (λ t. IsOf t vx) value_typed (is_of stay v_held)

      -- ---- up to the call

      went1 : Went p arguments Here (s.ops ++ (t.ops ++ last)) e frames core (length w.body.types) r.x head
      went1 = r.enters p numbers raised arguments (s.ops ++ (t.ops ++ last)) e frames core core has_there (let z = new_long in omega (arith, room, z)) (found_set core.blocks core.statics head _ first_dict.head_is) (found_there core.blocks core.statics head _ first_dict.head_is)

      key_kept : operand went1.mid.vars b.x ≡ kx
      key_kept = operand_kept went1.passed b.x below.1.0

      went2 : Went p arguments (At (s.ops ++ (t.ops ++ last)) e frames went1.mid) (t.ops ++ last) e frames went1.mid (length w1.body.types) s.y (as_item m.key (stored_key m) (operand went1.mid.vars b.x))
      went2 = s.enters p arguments (t.ops ++ last) e frames went1.mid (let q = went1.passed.room in let y = w1_long in let z = new_long in omega (arith, room, q, y, z)) (subst (IsOf m.key) (sym key_kept) key_is)

      value_kept : operand went2.mid.vars c.x ≡ vx
      value_kept = operand_kept went2.passed c.x (below_more c.x (length w.body.types) (length w1.body.types) (let y = w1_long in omega (arith, y)) below.1.1.0) ∙ operand_kept went1.passed c.x below.1.1.0

      went3 : Went p arguments (At (t.ops ++ last) e frames went2.mid) last e frames went2.mid (length w2.body.types) t.y (as_item m.value (stored_value m) (operand went2.mid.vars c.x))
      went3 = t.enters p arguments last e frames went2.mid (let q = went1.passed.room in let q2 = went2.passed.room in let y = w2_long in let z = new_long in omega (arith, room, q, q2, y, z)) (subst (IsOf m.value) (sym value_kept) value_is)

      abbrev mid : Core
      mid = went3.mid

      mid_long : length mid.vars ≡ length core.vars
      mid_long = went3.passed.room ∙ went2.passed.room ∙ went1.passed.room

      memory : forgotten mid ≡ forgotten core
      memory = went3.passed.memory ∙ went2.passed.memory ∙ went1.passed.memory

      stands_mid : Represents around.layout known g world.heap world.left mid.blocks mid.statics
      stands_mid = subst (λ (c : Core). Represents around.layout known g world.heap world.left c.blocks c.statics) (sym memory) stands

      left_mid : world.left ≡ mid.steps
      left_mid = left ∙ sym (ap (λ (c : Core). c.steps) memory)

      d : DictAt around.layout known g world.heap mid.blocks mid.statics m found_dict.i head
      d = stands_mid.dicts n found_dict.i head m home is.dict.mapping

      abbrev x : Value
      x = as_item m.key (stored_key m) kx

      abbrev y : Value
      y = as_item m.value (stored_value m) vx

      dict_here : operand mid.vars r.x ≡ head
      dict_here = operand_kept went3.passed r.x (below_more r.x (length w.body.types + length r.new) (length w2.body.types) (let q = w2_long in omega (arith, q)) (r.inside below.0))
          ∙ operand_kept went2.passed r.x (below_more r.x (length w.body.types + length r.new) (length w1.body.types) (let q = w1_long in omega (arith, q)) (r.inside below.0)) ∙ went1.is

      key_here : operand mid.vars s.y ≡ x
      key_here = operand_kept went3.passed s.y (below_more s.y (length w1.body.types + length s.new) (length w2.body.types) (let q = w2_long in let z = w1_long in omega (arith, q, z)) (s.inside (below_more b.x (length w.body.types) (length w1.body.types) (let z = w1_long in omega (arith, z)) below.1.0)))
          ∙ went2.is ∙ ap (as_item m.key (stored_key m)) key_kept

      value_here : operand mid.vars t.y ≡ y
      value_here = went3.is ∙ ap (as_item m.value (stored_value m)) value_kept

      given_here : operand mid.vars c.x ≡ vx
      given_here = operand_kept went3.passed c.x (below_more c.x (length w.body.types) (length w2.body.types) (let q = w2_long in omega (arith, q)) below.1.1.0) ∙ value_kept

      same : operands mid.vars (r.x ∷ s.y ∷ t.y ∷ []) ≡ head ∷ x ∷ y ∷ []
      same = ap (λ q. q ∷ operand mid.vars s.y ∷ operand mid.vars t.y ∷ []) dict_here ∙ ap (λ q. head ∷ q ∷ operand mid.vars t.y ∷ []) key_here ∙ ap (λ q. head ∷ x ∷ q ∷ []) value_here

      head_set : is_unset head ≡ false
      head_set = found_set mid.blocks mid.statics head _ d.head_is

      value_set : is_unset vx ≡ false
      value_set = held_set stands v_held

      set : any_unset (head ∷ x ∷ y ∷ []) ≡ false
      set = ap (λ q. q || (is_unset x || (is_unset y || false))) head_set ∙ ap (λ q. q || (is_unset y || false)) (item_set m.key (stored_key m) kx (held_set stands k_held)) ∙ ap (λ q. q || false) (item_set m.value (stored_value m) vx value_set)

      key_in_place : Holds around.layout known g (known.keys m.dict) kx k
      key_in_place = stays_held is.stays k_held

      value_in_place : Holds around.layout known g (known.items m.dict) vx v
      value_in_place = subst (λ seen. Holds around.layout known g seen vx v) (sym values.value_is) (stays_held stay v_held)

      by_graphs : StoresBy p arguments around.layout known m number
      by_graphs = stores_by around.layout n m is.dict.mapping p arguments known is.keys structs numbers raised core number has_graph

      abbrev at : Option ℕ
      at = position_from is_equal 0 (keys_of d.pairs) k

      finding : (vars : List Value) (waits : List Frame) → Returns p arguments 0 (Calling by_graphs.finds (head ∷ x ∷ []) waits (record mid { function = number; block = 0; at = 0; vars = vars })) (place_word at) waits (record mid { function = number; block = 0; at = 0; vars = vars })
      unfolding by_graphs
      finding vars waits =
          let it = keys_are_found around.layout known p numbers raised arguments n by_graphs.finds m core (record mid { function = number; block = 0; at = 0; vars = vars }) g world.heap world.left found_dict.i head kx k is.dict.mapping is.keys structs
          (stores_finds around.layout n m is.dict.mapping p arguments known is.keys structs numbers raised core number has_graph) stands_mid d (record { held = key_in_place; there = λ q. (good.0 q).0 }) (still_so m core mid memory) waits in
          record { end = it.end; same = it.same; leads = it.leads }

      abbrev vs : List Meant
      vs = Ref found_dict.i ∷ k ∷ v ∷ []

      abbrev pairs2 : List (Meant × Meant)
      pairs2 = with_key k v d.pairs

      abbrev heap2 : Heap
      heap2 = slice_set world.heap found_dict.i (Mapped pairs2)

      abbrev many : ℕ
      many = length d.pairs + length d.pairs + 4

      fits : many ≤ references world.heap vs
      fits = (let q : items_in (slice_get world.heap found_dict.i) ≡ 3 * length d.pairs = ap items_in d.object in omega (arith, q))

      -- ---- the call

      abbrev Calls : Answer → Type 0
      Calls answer = Follows 2 known around place p arguments (At last e frames mid) rest e frames mid g raised (references world.heap vs) (length w.body.types) world answer

      gives_it : (fewer : ℕ) → Stored p arguments around.layout known g world.heap fewer found_dict.i head pairs2 number many x y mid → Calls (Gives v (record world { heap = heap2; left = fewer }))
      gives_it fewer it = nothing_given 2 known around place p arguments rest e frames mid g it.ghost (length w.body.types) world heap2 fewer it.blocks it.statics
          many (references world.heap vs) vx v fits same set (omega (arith, room, inside, mid_long)) it.grown it.stands it.few it.returns given_here value_set (stays_held given_on (holds_grows it.grown v_held))

      there_keys : is_indexed m ≡ true → AreThere (keys_of d.pairs)
      there_keys q = (good.0 q).1 d.pairs d.object

      few_entries : length d.pairs + world.left < 2 ^ 62
      few_entries = (let few = good.1 in let q : size_at (slice_get world.heap found_dict.i) ≡ length d.pairs = ap size_at d.object in omega (arith, few, q))

      kept : (i : ℕ) → at ≡ Some i → Calls (Gives v (record world { heap = heap2; left = world.left }))
      kept i is_at = gives_it world.left (stored_kept p arguments around.layout known structs n m is.dict.mapping number by_graphs g world.heap world.left mid stands_mid left_mid found_dict.i head home d kx vx k v key_in_place value_in_place (λ q. (good.0 q).0) there_keys finding i is_at)

      lacking : at ≡ None → world.left < 1 → Calls NoSteps
      lacking is_at short = call_lacks same set (puts ∷ rest) (store_lacks p arguments around.layout known structs n m is.dict.mapping number by_graphs g world.heap world.left mid stands_mid left_mid found_dict.i head home d kx vx k v key_in_place value_in_place (λ q. (good.0 q).0) there_keys finding is_at short)

      added : at ≡ None → 1 ≤ world.left → Calls (Gives v (record world { heap = heap2; left = world.left - 1 }))
      added is_at enough = gives_it (world.left - 1) (stored_new p arguments around.layout known structs n m is.dict.mapping number by_graphs g world.heap world.left mid stands_mid left_mid found_dict.i head home d kx vx k v key_in_place value_in_place (λ q. (good.0 q).0) there_keys finding is_at enough (let q = few_entries in omega (arith, q, enough)))

      abbrev answer : Bool → Answer
      answer there = paying (if there then 0 else key_cost) (set_object found_dict.i (Mapped pairs2) v) world

      by_steps : at ≡ None → (short : Bool) → nat_lt world.left key_cost ≡ short → Calls (if short then NoSteps else Gives v (record world { heap = heap2; left = world.left - 1 }))
      by_steps is_at true h = lacking is_at (is_less world.left key_cost h)
      by_steps is_at false h = added is_at (not_less world.left key_cost h)

      does : (o : Option ℕ) → at ≡ o → Calls (answer (has_key k d.pairs))
      does None is_at = subst (λ there. Calls (answer there)) (sym (is_new k d.pairs is_at).has) (by_steps is_at (nat_lt world.left key_cost) refl)
      does (Some i) is_at = subst (λ there. Calls (answer there)) (sym (split k d.pairs i is_at).has) free
        where
          never : nat_lt world.left 0 ≡ false
          never = never_below world.left

          all_left : world.left ≡ world.left - 0
          all_left = omega arith

          free : Calls (answer true)
          free = subst (λ short. Calls (if short then NoSteps else Gives v (record world { heap = heap2; left = world.left - 0 }))) (sym never) (subst (λ l. Calls (Gives v (record world { heap = heap2; left = l }))) all_left (kept i is_at))

      meant : meant_op known.program w.found.covered row.StoreIndex vs world ≡ answer (has_key k d.pairs)
      meant = ap (λ o. store_object w.found.covered found_dict.i k v o world) d.object

      there_so : Done (u ∷ k ∷ v ∷ [])
      there_so =
          subst (λ u. Done (u ∷ k ∷ v ∷ [])) (sym found_dict.high) (subst (Answered vs) (sym meant)
          (from_there 2 known around place p arguments rest e frames core g raised (references world.heap vs) (length w.body.types) world (omega arith) went1 (answer (has_key k d.pairs))
          (from_there 2 known around place p arguments rest e frames went1.mid g raised (references world.heap vs) (length w.body.types) world (let q = w1_long in omega (arith, q)) went2 (answer (has_key k d.pairs))
          (from_there 2 known around place p arguments rest e frames went2.mid g raised (references world.heap vs) (length w.body.types) world (let q = w2_long in omega (arith, q)) went3 (answer (has_key k d.pairs)) (does at refl)))))

    either : (u k v : Meant) → Holds around.layout known g b.element (operand core.vars b.x) k → Holds around.layout known g c.element (operand core.vars c.x) v → CanStore m world (u ∷ k ∷ v ∷ []) → Dicting around.layout known g a.element (operand core.vars a.x) u ⊎ Gone kind.MaybeDict a.element (operand core.vars a.x) u → Done (u ∷ k ∷ v ∷ [])
    either u k v k_held v_held good (inl it) = there_so u k v k_held v_held it (subst (λ u. CanStore m world (u ∷ k ∷ v ∷ [])) it.high good)
    either u k v k_held v_held good (inr gone) = dict_missing u k v gone

    follow : (vs : List Meant) → Given known around g core (a ∷ b ∷ c ∷ []) vs → CanStore m world vs → Follows 2 known around place p arguments (At ((r.ops ++ (s.ops ++ (t.ops ++ behind))) ++ rest) e frames core) rest e frames core g raised (references world.heap vs) (length w.body.types) world (meant_op known.program w.found.covered row.StoreIndex vs world)
    follow [] given good = absurd given
    follow (u ∷ []) given good = absurd given.1
    follow (u ∷ k ∷ []) given good = absurd given.1.1
    follow (u ∷ k ∷ v ∷ []) given good =
        subst (λ l. Follows 2 known around place p arguments (At l e frames core) rest e frames core g raised (references world.heap (u ∷ k ∷ v ∷ [])) (length w.body.types) world (meant_op known.program w.found.covered row.StoreIndex (u ∷ k ∷ v ∷ []) world))
        (sym (append_assoc r.ops (s.ops ++ (t.ops ++ behind)) rest ∙ ap (λ l. r.ops ++ l) (append_assoc s.ops (t.ops ++ behind) rest ∙ ap (λ l. s.ops ++ l) (append_assoc t.ops behind rest))))
        (either u k v given.1.0 given.1.1.0 good (dict_or_none (sym (same_kind (kind_of a)) ∙ is.dict.dicts) given.0))
    follow (u ∷ k ∷ v ∷ z ∷ more) given good = absurd given.1.1.1

  store_done : IsTold (CanStore m) 2 known around row.StoreIndex w.found.covered asks place (a ∷ b ∷ c ∷ []) w
  store_done = record {
    ops = r.ops ++ (s.ops ++ (t.ops ++ behind));
    new = new;
    asked = ap (λ (q : Writing). q.found) is_written ∙ sym (asked_both (there_asks around a w.found.covered) (Make puts_in ∷ []) w.found);
    written = ap (λ (q : Writing). q.body.ops) is_written ∙ parts_so w.body.ops r.ops s.ops t.ops calls puts;
    types = ap (λ (q : Writing). q.body.types) is_written ∙ append_assoc (w.body.types ++ r.new) s.new t.new ∙ append_assoc w.body.types r.new (s.new ++ t.new);
    follows = λ p numbers raised arguments rest e frames core g world vs structs has stands left room inside below given good. follow p numbers raised arguments rest e frames core g world structs has stands left room inside below vs given good;
  }

pub values_are_stored : ValuesAreStored
values_are_stored known around place a b c w n m value is values stay given_on = store_done known around place a b c w n m value is values stay given_on

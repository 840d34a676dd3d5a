-- The value of a key is got, or another value, where both are converted.
use Rattle.std.proofs.Common.{map, ◌≡◌, ◌<◌, ◌≤◌, ℕ, ◌+◌, ◌⊎◌, inl, inr, true, false, ◌||◌, List, [], ◌∷◌, ◌++◌, length, Option, Some, None, refl, sym, ap, ◌∙◌, subst, arith, append_assoc, length-append}
use Rattle.std.specs.Prelude.{slice_get, codes, unwrap_or}
use Rattle.ann_element.specs.declared.element.Element.{Element}
use Rattle.csub_tree.specs.State.{Value, Core}
use Rattle.csub_tree.specs.Operation.{is_unset}
use Rattle.csub_tree.specs.Statement.{operand, operands, any_unset}
use Rattle.csub_tree.specs.declared.tree.COperand.{COperand}
use Rattle.rpy_tree.specs.Value.{Value as Meant, Ref}
use Rattle.rpy_meaning.specs.Compare.{is_equal}
use Rattle.rpy_meaning.specs.Operations.{op as meant_op, object_method}
use Rattle.rpy_meaning.specs.Sequences.{value_at}
use Rattle.rpy_meaning.specs.World.{World, Answer, Gives}
use Rattle.ll_code.specs.State.{Frame, State, Calling, At}
use Rattle.ll_code.specs.declared.program.LlType.{LlType}
use Rattle.ll_code.specs.declared.program.LlOp.{LlOp}
use Rattle.ll_code.specs.declared.program.LlExit.{LlExit}
use Rattle.ll_code.specs.declared.program.LlProgram.{LlProgram}
use Rattle.ll_build.specs.declared.needs.Numbers.{Numbers}
use Rattle.rtyper_layout.specs.declared.dicts.Mapping.{Mapping}
use Rattle.rtyper_layout.specs.Dicts.{is_indexed, is_plain, stored_key, stored_value}
use Rattle.rtyper_layout.specs.Layout.{is_tuple}
use Rattle.rtyper_layout.specs.Types.{type_of as element_type, type_seen}
use Rattle.rtyper_data.specs.declared.small.Small.{Small}
use Rattle.rtyper_data.specs.Comparing.{alone}
use Rattle.rtyper_data.specs.Converting.{present, by_small}
use Rattle.rtyper_data.specs.Finding.{small_number}
use Rattle.rtyper_data.specs.Seen.{Around, Operand, Place, kind_of, type_of, Writing, writing, set, type_at}
use Rattle.rtyper_dict.specs.Lowering.{lower_dict_op, of_dict, of_dict_or, of_first, of_three, get as get_op, get_as, get_if, get_to, other_value}
use Rattle.rtyper_dict.specs.Operands.{dict_of, dict_pointed, key_in, of_dict_or_none, pointed, shape_in, stored_in, there}
use Rattle.rtyper_dict.specs.Parts.{shape_of}
use Rattle.list_shape.specs.Shapes.{taking}
use Rattle.lower_laws.specs.Asked.{Ask, Make}
use Rattle.lower_laws.specs.Values.{AllBelow, IsBelow}
use Rattle.lower_laws.proofs.Stayed.{field_is}
use Rattle.list_laws.proofs.Indexed.{asked_both}
use Rattle.list_copy_laws.proofs.Ready.{Went}
use Rattle.object_laws.specs.Dicts.{DictAt, as_item, keys_of, Arrays, Lacks, values_of}
use Rattle.object_laws.specs.Done.{HasLayout, references}
use Rattle.object_laws.specs.Ghost.{Ghost, DictOf}
use Rattle.object_laws.specs.Known.{Known}
use Rattle.object_laws.specs.Represents.{Represents}
use Rattle.object_laws.specs.Values.{Given, Holds}
use Rattle.object_laws.proofs.Blocks.{found_set}
use Rattle.object_laws.proofs.Growing.{holds_grows, home_grows}
use Rattle.object_laws.proofs.Passing.{operand_kept, none_passed, sets_more, sets_last, is_set_at, calls_at}
use Rattle.object_laws.proofs.Valued.{Dicting, Gone, dict_or_none, held_set, stays_held, stays_typed}
use Rattle.conversion_laws.specs.Asked.{Has as HasConversion}
use Rattle.conversion_laws.specs.Converted.{Came as Converts, IsConverted, converted, items_in, tuples_in}
use Rattle.conversion_laws.specs.Going.{Goes}
use Rattle.conversion_laws.proofs.Converting.{values_are_converted}
use Rattle.conversion_laws.proofs.Moving.{Moved, has_first, has_second, operand_kept as kept_behind}
use Rattle.dict_laws.specs.Keys.{position_from}
use Rattle.dict_op_laws.proofs.Lengths.{same_kind}
use Rattle.dict_find_laws.specs.Keys.{IsThere}
use Rattle.dict_find_laws.specs.Finding.{StandsStill, IsKey, as_key}
use Rattle.dict_find_laws.specs.Lookups.{HasValues, IsAskedFor as IsAskedAsItIs, SecondIsThere}
use Rattle.dict_find_laws.proofs.Arriving.{own_number, same_value}
use Rattle.dict_find_laws.proofs.Restored.{IsOf}
use Rattle.dict_change_laws.proofs.Coming.{Kept, kept_if}
use Rattle.dict_conversion_laws.specs.Asked.{Has, HasAll}
use Rattle.dict_conversion_laws.specs.Done.{Follows, IsDoneWhere}
use Rattle.dict_conversion_laws.specs.Operands.{operand_asks}
use Rattle.dict_conversion_laws.proofs.Composed.{follows_so, moved_so, then_follows}
use Rattle.dict_conversion_laws.proofs.Kept.{all_kept}
use Rattle.dict_conversion_laws.proofs.Operands.{below_more, conversion_has}
use Rattle.dict_conversion_laws.proofs.Valued.{held_is_of}
use Rattle.ll_leads.proofs.Ways.{Comes, on}
use Rattle.csub_tree.specs.declared.tree.COperand.TheVariants.{Var}
use Rattle.lower_laws.proofs.Doing.{after}
use Rattle.lower_laws.proofs.Single.{sets}
use Rattle.dict_find_laws.proofs.Getting.{no_void}
use Rattle.dict_find_laws.proofs.Keyed.{KeyAt}
use Rattle.dict_find_laws.proofs.Read.{same_some}
use Rattle.dict_find_laws.proofs.Sought.{Sought, sought, unsought}
use Rattle.dict_find_laws.proofs.Worth.{as_item_set, value_stands}
use Rattle.rpy_meaning.specs.declared.row.RowOp.TheVariants as row
use Rattle.ll_code.specs.declared.program.LlType.TheVariants as type
use Rattle.ll_code.specs.declared.program.LlOp.TheVariants as op
use Rattle.rtyper_layout.specs.declared.kind.Kind.TheVariants as kind
use Rattle.rtyper_data.specs.declared.small.Small.TheVariants as small
use Rattle.rtyper_data.specs.declared.small.Keyed.TheVariants as keyed
use Rattle.std.specs.Prelude.{cond}
use Rattle.std.proofs.lemmas.List.{get_or-set_other, get_or-set_same, length-set}
use Rattle.csub_tree.specs.State.{Unset}
use Rattle.csub_tree.specs.declared.stuck.StuckReason.TheVariants.{Unset as IsUnset}
use Rattle.ll_code.specs.Machine.{waiting}
use Rattle.ll_code.specs.State.{Returning, Sticks, Goes as GoesOn}
use Rattle.ll_leads.specs.Path.{Leads}
use Rattle.ll_leads.proofs.Joined.{leads_then, leads_more}
use Rattle.ll_leads.proofs.Ways.{one}
use Rattle.rtyper_layout.specs.Kinds.{kind_seen}
use Rattle.rtyper_dict.specs.declared.parts.DictShape.{DictShape}
use Rattle.rtyper_dict.specs.Graphs.{dict_graph}
use Rattle.rtyper_dict.specs.Listing.{get, get_graph}
use Rattle.rtyper_dict.specs.Parts.{dict_at, keyed_number}
use Rattle.object_laws.specs.Done.{AllAsked}
use Rattle.object_laws.proofs.Calling.{back}
use Rattle.conversion_laws.specs.Asked.{asks_for}
use Rattle.conversion_laws.proofs.Moving.{all_had, has_to_kept}
use Rattle.dict_op_laws.specs.Asked.{HasKeyed}
use Rattle.dict_find_laws.specs.Asked.{HasFind, valued}
use Rattle.dict_find_laws.specs.Finding.{place_word}
use Rattle.dict_find_laws.proofs.Found.{keys_are_found}
use Rattle.dict_find_laws.proofs.Got.{whole}
use Rattle.dict_find_laws.proofs.Places.{entries_few, values_long}
use Rattle.dict_find_laws.proofs.Shaped.{shape_is as shape_of_mapping}
use Rattle.dict_find_laws.proofs.Worth.{gives_worth}
use Rattle.dict_conversion_laws.specs.Asked.{HasGetAs}
use Rattle.dict_conversion_laws.proofs.GotAs.{Gave, get_is, gives_other, gives_value, next, reads_number, the_body, valued_is, w3, z as z2}
use Rattle.dict_conversion_laws.proofs.Valued.{goes_from, goes_there}
use Rattle.rtyper_data.specs.declared.found.Found.{Found}

parts_so : {A : Type 0} (xs ys zs : List A) (a b : A) → (((xs ++ ys) ++ zs) ++ a ∷ []) ++ b ∷ [] ≡ xs ++ (ys ++ (zs ++ (a ∷ b ∷ [])))
parts_so xs ys zs a b = append_assoc ((xs ++ ys) ++ zs) (a ∷ []) (b ∷ []) ∙ append_assoc (xs ++ ys) zs (a ∷ b ∷ []) ∙ append_assoc xs ys (zs ++ (a ∷ b ∷ []))

module _ (known : Known) (around : Around) (place : Place) (a b c : Operand) (w : Writing) (site : Option ℕ) (n : ℕ) (m : Mapping) (value : Element) (is : IsAskedAsItIs around known a b n m) (sure : kind_of a ≡ kind.Dict) (values : HasValues around known m value)
    (go_value : Goes around.layout known (Some value) place.element) (real : kind_seen (Some value) ≡ kind.Never → ⊥) (go : Goes around.layout known c.element place.element) (apart : is_tuple around.layout 0 ≡ false) where
  s : Kept m.key (stored_key m) b.x w.body
  s = kept_if b.x w.body (is_plain m.key) m.key (λ h. h)

  abbrev w1 : Writing
  w1 = writing w.found (record { types = w.body.types ++ s.new; ops = w.body.ops ++ s.ops })

  v : IsConverted (λ p. HasConversion p around.layout) known around.layout c.element place.element (operand_asks around c place.element) c.x w1
  v = values_are_converted known around.layout c.element place.element c.x w1 apart go

  abbrev z : COperand
  z = (converted around.layout c.element place.element c.x w1).0

  abbrev w2 : Writing
  w2 = (converted around.layout c.element place.element c.x w1).1

  abbrev t : LlType
  t = type_at around place

  abbrev looks : Small
  looks = small.Keyed (keyed.Get n t)

  abbrev asks : List Ask
  asks = operand_asks around c place.element ++ Make looks ∷ []

  abbrev number : ℕ
  number = (small_number looks w2.found).0

  abbrev m1 : ℕ
  m1 = length w2.body.types

  abbrev calls : LlOp
  calls = op.Call (Some m1) number (a.x ∷ s.y ∷ z ∷ [])

  abbrev puts : LlOp
  puts = op.Set place.variable (Var m1)

  key_typed : type_of around b ≡ m.key
  key_typed = stays_typed is.stays ∙ ap (type_seen around.layout) is.keys.key_is ∙ is.keys.typed

  value_there : element_type around.layout value ≡ type.Void → ⊥
  value_there = goes_from go_value real

  value_typed : m.value ≡ element_type around.layout value
  value_typed = values.typed ∙ field_is (element_type around.layout value) value_there

  shape_is : dict_of around a ≡ Some (shape_of m)
  unfolding dict_of
  shape_is = ap (dict_pointed around.layout) is.dict.typed ∙ ap shape_in is.dict.mapping

  dict_written : there around a w ≡ (a.x, w)
  unfolding there
  dict_written = ap (λ k. present around a (of_dict_or_none k) w) sure

  key_written : key_in around (shape_of m) b w ≡ (s.y, w1)
  unfolding key_in shape_of
  key_written = ap (stored_in m.key (shape_of m).stored_key) (same_value around b m.key w key_typed) ∙ ap (alone w.found) s.written

  dict_number : (shape_of m).dict ≡ m.dict
  unfolding shape_of
  dict_number = refl

  abbrev get_at : ℕ → COperand × Writing → Writing
  get_at k made = taking made (λ v last. set place.variable (by_small (small.Keyed (keyed.Get k t)) t (a.x ∷ s.y ∷ v ∷ []) last))

  is_written : lower_dict_op around (row.Method (codes "get") site) place (a ∷ b ∷ c ∷ []) w ≡ writing (small_number looks w2.found).1 (record { types = w2.body.types ++ t ∷ []; ops = (w2.body.ops ++ calls ∷ []) ++ puts ∷ [] })
  unfolding lower_dict_op of_first of_dict of_three get_if get_op get_as by_small
  is_written =
      ap (λ o. of_dict_or around (row.Method (codes "get") site) place o (a ∷ b ∷ c ∷ []) w) shape_is
      ∙ ap (λ made. taking made (λ x next. get_to around place (shape_of m) x b (Some c) t next)) dict_written
      ∙ no_void around place (shape_of m) a.x b (Some c) t w (goes_there go_value real)
      ∙ ap (λ made. taking made (λ k next. taking (other_value around t (Some c) next) (λ v last. set place.variable (by_small (small.Keyed (keyed.Get (shape_of m).dict t)) t (a.x ∷ k ∷ v ∷ []) last)))) key_written
      ∙ ap (λ k. get_at k (z, w2)) (dict_number ∙ own_number around.layout.mappings n m is.dict.mapping)

  abbrev new : List LlType
  new = s.new ++ (v.new ++ t ∷ [])

  new_long : length new ≡ length s.new + length v.new + 1
  new_long = (let x = length-append s.new (v.new ++ t ∷ []) in let y = length-append v.new (t ∷ []) in omega (arith, x, y))

  w1_long : length w1.body.types ≡ length w.body.types + length s.new
  w1_long = length-append w.body.types s.new

  w2_long : m1 ≡ length w.body.types + length s.new + length v.new
  w2_long = (let x = ap length v.types in let y = length-append w1.body.types v.new in let k = w1_long in omega (arith, x, y, k))

  module _ (p : LlProgram) (numbers : Numbers) (raised : ℕ → Value) (arguments : List (List ℕ)) (rest : List LlOp) (e : LlExit) (frames : List Frame) (core : Core) (g : Ghost) (world : World)
      (structs : HasLayout p around.layout) (has : HasAll p around.layout numbers raised core asks w.found)
      (stands : Represents around.layout known g world.heap world.left core.blocks core.statics) (left : world.left ≡ core.steps)
      (room : length w.body.types + length new ≤ length core.vars) (inside : place.variable < length w.body.types) (below : AllBelow (length w.body.types) (a ∷ b ∷ c ∷ [])) where
    abbrev last : List LlOp
    last = calls ∷ puts ∷ rest

    abbrev Here : State
    Here = At (s.ops ++ (v.ops ++ last)) e frames core

    abbrev Answered : List Meant → Answer → Type 0
    Answered vs answer = Follows (tuples_in place.element + tuples_in place.element) known around place p arguments Here rest e frames core g raised (references world.heap vs + (items_in place.element + items_in place.element)) (length w.body.types) world answer

    abbrev Done : List Meant → Type 0
    Done vs = Answered vs (meant_op known.program w.found.covered (row.Method (codes "get") site) vs world)

    has_graph : HasGetAs p around.layout numbers raised core n t number
    has_graph = subst (λ found. HasGetAs p around.layout numbers raised core n t (small_number looks found).0) (sym v.asked) (has_second (Has p around.layout numbers raised core) (operand_asks around c place.element) (Make looks ∷ []) w.found has).0

    module _ (u k y : Meant) (k_held : Holds around.layout known g b.element (operand core.vars b.x) k) (y_held : Holds around.layout known g c.element (operand core.vars c.x) y) (found_dict : Dicting around.layout known g a.element (operand core.vars a.x) u) (there_so : is_indexed m ≡ true → IsThere k) where
      home : slice_get g.homes found_dict.i ≡ Some (record { sort = DictOf n; head = operand core.vars a.x })
      home = subst (λ k. slice_get g.homes found_dict.i ≡ Some (record { sort = DictOf k; head = operand core.vars a.x })) (ap pointed (sym found_dict.typed ∙ is.dict.typed)) found_dict.home

      abbrev head : Value
      head = operand core.vars a.x

      abbrev kx : Value
      kx = operand core.vars b.x

      key_is : IsOf m.key kx
      key_is = subst (λ t. IsOf t kx) key_typed (held_is_of k_held)

      went1 : Went p arguments Here (v.ops ++ last) e frames core (length w.body.types) s.y (as_item m.key (stored_key m) kx)
      went1 = s.enters p arguments (v.ops ++ last) e frames core (let q = new_long in omega (arith, room, q)) key_is

      abbrev core1 : Core
      core1 = went1.mid

      statics1 : core1.statics ≡ core.statics
      statics1 = ap (λ (c : Core). c.statics) went1.passed.memory

      stands1 : Represents around.layout known g world.heap world.left core1.blocks core1.statics
      stands1 = subst (λ (c : Core). Represents around.layout known g world.heap world.left c.blocks c.statics) (sym went1.passed.memory) stands

      left1 : world.left ≡ core1.steps
      left1 = left ∙ sym (ap (λ (c : Core). c.steps) went1.passed.memory)

      c_below : IsBelow (length w1.body.types) c.x
      c_below = below_more c.x (length w.body.types) (length w1.body.types) (let q = w1_long in omega (arith, q)) below.1.1.0

      it : Converts around.layout known (λ ghost x. Holds around.layout known ghost place.element x y) p arguments (At (v.ops ++ last) e frames core1) last e frames core1 g world.heap world.left (length w1.body.types) place.element z
      it = v.follows p numbers raised arguments last e frames core1 g world.heap world.left y structs
          (conversion_has p around.layout numbers raised core1 (type_of around c) (type_seen around.layout place.element) w.found
          (all_kept p around.layout numbers raised core core1 statics1 (ap (λ (c : Core). c.steps) went1.passed.memory) (operand_asks around c place.element) w.found (has_first (Has p around.layout numbers raised core) (operand_asks around c place.element) (Make looks ∷ []) w.found has)))
          stands1 left1 (let q = went1.passed.room in let l1 = w1_long in let l = new_long in omega (arith, room, q, l1, l)) c_below
          (subst (λ x. Holds around.layout known g c.element x y) (sym (operand_kept went1.passed c.x below.1.1.0)) y_held)

      moved : Moved around.layout known p arguments (At (v.ops ++ last) e frames core1) last e frames core1 g world.heap world.left (length w1.body.types) (items_in place.element) (tuples_in place.element) it.end it.ghost
      moved = record { leads = it.leads; grown = it.grown; stands = it.stands; few = it.few; memory = it.memory; others = it.others; room = it.room; function = it.function; block = it.block }

      abbrev h : Ghost
      h = it.ghost

      abbrev mid : Core
      mid = it.end

      left_mid : world.left ≡ mid.steps
      left_mid = left1 ∙ sym (ap (λ (c : Core). c.steps) it.memory)

      mid_long : length mid.vars ≡ length core.vars
      mid_long = it.room ∙ went1.passed.room

      abbrev x : Value
      x = as_key m kx

      abbrev other : Value
      other = operand mid.vars z

      d : DictAt around.layout known h world.heap mid.blocks mid.statics m found_dict.i head
      d = it.stands.dicts n found_dict.i head m (home_grows it.grown found_dict.i _ home) is.dict.mapping

      dict_here : operand mid.vars a.x ≡ head
      dict_here = kept_behind core1 mid (length w1.body.types) it.others a.x (below_more a.x (length w.body.types) (length w1.body.types) (let q = w1_long in omega (arith, q)) below.0) ∙ operand_kept went1.passed a.x below.0

      key_here : operand mid.vars s.y ≡ x
      key_here = kept_behind core1 mid (length w1.body.types) it.others s.y (subst (λ k. IsBelow k s.y) (sym w1_long) (s.inside below.1.0)) ∙ went1.is

      same : operands mid.vars (a.x ∷ s.y ∷ z ∷ []) ≡ head ∷ x ∷ other ∷ []
      same = ap (λ q. q ∷ operand mid.vars s.y ∷ other ∷ []) dict_here ∙ ap (λ q. head ∷ q ∷ other ∷ []) key_here

      other_set : is_unset other ≡ false
      other_set = held_set it.stands it.fine

      set_all : any_unset (head ∷ x ∷ other ∷ []) ≡ false
      set_all = ap (λ q. q || (is_unset x || (is_unset other || false))) (found_set mid.blocks mid.statics head _ d.head_is) ∙ ap (λ q. q || (is_unset other || false)) (as_item_set m.key (stored_key m) kx (held_set stands k_held)) ∙ ap (λ q. q || false) other_set

      key_in_place : IsKey around.layout known h m kx k
      key_in_place = record { held = holds_grows it.grown (stays_held is.stays k_held); there = there_so }

      abbrev at : Option ℕ
      at = position_from is_equal 0 (keys_of d.pairs) k

      abbrev vs : List Meant
      vs = Ref found_dict.i ∷ k ∷ y ∷ []

      abbrev refs : ℕ
      refs = references world.heap vs

      still : StandsStill m core mid
      still q pointer apart_so = (ap (λ (c : Core). c.statics) it.memory ∙ statics1, sym left_mid ∙ left)

      -- ---- the call

      abbrev Calls : Answer → Type 0
      Calls answer = Follows (tuples_in place.element) known around place p arguments (At last e frames mid) rest e frames mid h raised (refs + items_in place.element) m1 world answer

      value_same : type_seen around.layout (Some value) ≡ m.value
      value_same = sym value_typed

      abbrev made : Found
      made = has_graph.gets.made

      shape : dict_at around.layout n ≡ whole m t
      shape = shape_of_mapping around.layout n m is.dict.mapping

      abbrev reads : ℕ
      reads = reads_number around.layout known m value place.element value_same go_value apart made

      abbrev finds : ℕ
      finds = (keyed_number (keyed.Find m.dict) (w3 around.layout known m value place.element value_same go_value apart made).found).0

      has_reads : HasKeyed p around.layout (keyed.Value n) reads
      has_reads = subst (λ (s : DictShape). HasKeyed p around.layout (keyed.Value n) (keyed_number (keyed.Value s.dict) made).0) shape has_graph.gets.reads

      has_finds : HasFind p around.layout numbers raised core n finds
      has_finds = subst (λ found. HasFind p around.layout numbers raised core n (keyed_number (keyed.Find m.dict) found).0) (valued_is around.layout known m value place.element value_same go_value apart made)
          (subst (λ (s : DictShape). HasFind p around.layout numbers raised core n (keyed_number (keyed.Find s.dict) (valued around.layout s t made)).0) shape has_graph.gets.finds)

      graph : slice_get p.graphs number ≡ Some (get_graph finds (z2 around.layout known m value place.element value_same go_value apart made) t (the_body around.layout known m value place.element value_same go_value apart made))
      unfolding dict_graph
      graph = has_graph.gets.graph ∙ ap (λ s. Some (get around.layout s t made).0) shape ∙ ap Some (get_is around.layout known m value place.element value_same go_value apart made)

      converting : (core2 : Core) → core2.statics ≡ mid.statics → core2.steps ≡ mid.steps → AllAsked (HasConversion p around.layout numbers raised core2) (asks_for around.layout (type_seen around.layout (Some value)) t) (next around.layout known m value place.element value_same go_value apart made)
      converting core2 statics steps =
          all_had (HasConversion p around.layout numbers raised core) (HasConversion p around.layout numbers raised core2)
          (λ ask found has k. has_to_kept p around.layout numbers raised core core2 (statics ∙ (still_both).0) (steps ∙ (still_both).1) k ask found (has k))
          (asks_for around.layout (type_seen around.layout (Some value)) t) (next around.layout known m value place.element value_same go_value apart made)
          (subst (λ s. AllAsked (HasConversion p around.layout numbers raised core) (asks_for around.layout s t) (next around.layout known m value place.element value_same go_value apart made)) (sym value_same)
          (subst (λ (s : DictShape). AllAsked (HasConversion p around.layout numbers raised core) (asks_for around.layout s.value t) (keyed_number (keyed.Value s.dict) made).1) shape has_graph.converts))
        where
          still_both : (mid.statics ≡ core.statics) × (mid.steps ≡ core.steps)
          still_both = (ap (λ (c : Core). c.statics) it.memory ∙ statics1, sym left_mid ∙ left)

      found_at : (o : Option ℕ) → at ≡ o → (function block place2 : ℕ) (vars : List Value) (waits : List Frame)
          → Comes p arguments (Calling finds (head ∷ x ∷ []) waits (record mid { function = function; block = block; at = place2; vars = vars })) [] (place_word o) waits (record mid { function = function; block = block; at = place2; vars = vars })
      found_at o is_o function block place2 vars waits =
          let found = keys_are_found around.layout known p numbers raised arguments n finds m core (record mid { function = function; block = block; at = place2; vars = vars }) h world.heap world.left found_dict.i head kx k is.dict.mapping is.keys structs has_finds it.stands d key_in_place still waits in
          subst (λ o. Comes p arguments (Calling finds (head ∷ x ∷ []) waits (record mid { function = function; block = block; at = place2; vars = vars })) [] (place_word o) waits (record mid { function = function; block = block; at = place2; vars = vars })) is_o
          (record { end = found.end; same = found.same; leads = found.leads })

      head_set : is_unset head ≡ false
      head_set = found_set mid.blocks mid.statics head _ d.head_is

      x_set : is_unset x ≡ false
      x_set = as_item_set m.key (stored_key m) kx (held_set stands k_held)

      wide : m1 < length mid.vars
      wide = (let l = w2_long in let q = new_long in omega (arith, room, mid_long, q, l))

      inside2 : place.variable < length mid.vars
      inside2 = omega (arith, room, inside, mid_long, new_long)

      other_taken : at ≡ None → Calls (Gives y world)
      other_taken none =
          let comes = gives_other around.layout known m value place.element value_same go_value apart made p arguments number finds graph mid head x other head_set x_set other_set (found_at None none) in
          follows_so known around place p arguments rest e frames raised world (tuples_in place.element) (refs + items_in place.element) m1 (At last e frames mid) mid it.stands (Gives y world)
          (sets_last (refs + items_in place.element) m1 (after mid m1 other) other y it.stands left_mid (sets_more m1 other (omega arith) none_passed) inside2 (on (calls_at same set_all comes) (sets other (is_set_at mid m1 other wide) other_set)) it.fine)

      module _ (i : ℕ) (is_at : at ≡ Some i) (all : Arrays around.layout known h mid.blocks mid.statics m found_dict.i d.pairs d.places d.one d.two) where
        abbrev there_at : Sought k d.pairs i
        there_at = sought k d.pairs i is_at

        worth : KeyAt around.layout known h (known.items m.dict) (as_item m.value (stored_value m)) (map (as_item m.value (stored_value m)) all.values ++ all.spare_values) (values_of d.pairs) i
        worth = value_stands around.layout known m mid h world.heap found_dict.i head d all i there_at.inside

        value_held : Holds around.layout known h (Some value) worth.value there_at.value
        value_held = subst (λ o. Holds around.layout known h o worth.value there_at.value) values.value_is (subst (λ u. Holds around.layout known h (known.items m.dict) worth.value u) (same_some worth.meant there_at.value (sym worth.is ∙ there_at.is)) worth.held)

        value_of : IsOf m.value worth.value
        value_of = subst (λ t. IsOf t worth.value) value_same (held_is_of value_held)

        abbrev frame : Frame
        frame = waiting mid (Some m1) (puts ∷ rest) e

        got : Gave around.layout known m value place.element value_same go_value apart made p arguments number (head ∷ x ∷ other ∷ []) mid h world.heap world.left there_at.value (frame ∷ frames)
        got = gives_value around.layout known m value place.element value_same go_value apart made p arguments number finds graph mid head x other head_set x_set other_set i worth.value there_at.value (held_set it.stands value_held) value_of
            (λ function block place2 vars waits. gives_worth around.layout known p arguments n reads m (record mid { function = function; block = block; at = place2; vars = vars }) h world.heap world.left found_dict.i head is.dict.mapping (structs.dicts n m is.dict.mapping) has_reads it.stands d all i there_at.inside
            (entries_few around.layout known p arguments number m mid h world.heap found_dict.i head k (structs.dicts n m is.dict.mapping) d all) (values_long around.layout known p arguments number m mid h world.heap found_dict.i head k (structs.dicts n m is.dict.mapping) d all) worth waits)
            numbers raised h world.heap world.left structs converting it.stands left_mid value_held (frame ∷ frames) (found_at (Some i) is_at)

        abbrev low : Value
        low = got.low

        abbrev returned : Core
        returned = back mid got.end (Some m1) low

        enters : Leads p arguments 0 (At last e frames mid) [] (Calling number (head ∷ x ∷ other ∷ []) (frame ∷ frames) mid)
        enters = one (ap (λ vs. cond (any_unset vs) (Sticks IsUnset) (GoesOn (Calling number vs (frame ∷ frames) mid))) same ∙ ap (λ b. cond b (Sticks IsUnset) (GoesOn (Calling number (head ∷ x ∷ other ∷ []) (frame ∷ frames) mid))) set_all) refl

        leaves : Leads p arguments 0 (Returning low (frame ∷ frames) got.end) [] (At (puts ∷ rest) e frames returned)
        leaves = one refl refl

        moved_value : Moved around.layout known p arguments (At last e frames mid) (puts ∷ rest) e frames mid h world.heap world.left m1 (items_in place.element) (tuples_in place.element) returned got.ghost
        moved_value = record {
          leads = leads_more (0 + (items_in place.element + 0)) (items_in place.element) (omega arith) (leads_then enters (leads_then got.leads leaves));
          grown = got.grown;
          stands = got.stands;
          few = got.few;
          memory = got.memory;
          others = λ k under. get_or-set_other mid.vars m1 k low _ (λ same. absurd (omega (arith, under, same)));
          room = length-set mid.vars m1 low;
          function = refl;
          block = refl;
        }

        value_taken : Calls (Gives there_at.value world)
        value_taken =
            let inside3 : place.variable < length returned.vars = (let q : length returned.vars ≡ length mid.vars = length-set mid.vars m1 low in let j = inside2 in omega (arith, q, j)) in
            then_follows known around place p arguments rest e frames raised world (tuples_in place.element) (items_in place.element) refs (refs + items_in place.element) 0 (tuples_in place.element) m1 m1 moved_value (omega arith) (omega arith) (omega arith) (Gives there_at.value world)
            (sets_last refs m1 returned low there_at.value got.stands (left_mid ∙ sym (ap (λ (c : Core). c.steps) got.memory)) none_passed inside3 (sets low (get_or-set_same mid.vars m1 low Unset wide) (held_set got.stands got.held)) got.held)

      by_place : (o : Option ℕ) → at ≡ o → Calls (Gives (unwrap_or (value_at k d.pairs) y) world)
      by_place None none = subst (λ o. Calls (Gives (unwrap_or o y) world)) (sym (unsought k d.pairs 0 none)) (other_taken none)
      by_place (Some i) is_at = by d.arrays
        where
          by : Lacks around.layout known h mid.blocks mid.statics m found_dict.i d.pairs d.places d.one d.two ⊎ Arrays around.layout known h mid.blocks mid.statics m found_dict.i d.pairs d.places d.one d.two → Calls (Gives (unwrap_or (value_at k d.pairs) y) world)
          by (inl l) = absurd (let q = ap length l.empty in let k2 = (sought k d.pairs i is_at).inside in omega (arith, q, k2))
          by (inr all) = subst (λ o. Calls (Gives (unwrap_or o y) world)) (sym (sought k d.pairs i is_at).high) (value_taken i is_at all)

      abbrev result : Answer
      result = Gives (unwrap_or (value_at k d.pairs) y) world

      meant : meant_op known.program w.found.covered (row.Method (codes "get") site) vs world ≡ result
      meant = ap (λ o. object_method known.program w.found.covered (codes "get") found_dict.i (k ∷ y ∷ []) o world) d.object

      got_so : Done (u ∷ k ∷ y ∷ [])
      got_so =
          let count : ℕ = tuples_in place.element in
          let written : ℕ = items_in place.element in
          let at_call = by_place at refl in
          let at_given = then_follows known around place p arguments rest e frames raised world count written (refs + written) (refs + (written + written)) count (count + count) (length w1.body.types) m1 moved (let q = w2_long in let z = w1_long in omega (arith, q, z)) (omega arith) (omega arith) result at_call in
          let at_key = then_follows known around place p arguments rest e frames raised world 0 0 (refs + (written + written)) (refs + (written + written)) (count + count) (count + count) (length w.body.types) (length w1.body.types) (moved_so known around place p arguments rest e frames raised world stands went1.passed went1.way) (let z = w1_long in omega (arith, z)) (omega arith) (omega arith) result at_given in
          subst (λ u. Done (u ∷ k ∷ y ∷ [])) (sym found_dict.high) (subst (Answered vs) (sym meant) at_key)

    never_gone : (u : Meant) → Gone kind.MaybeDict a.element (operand core.vars a.x) u → ⊥
    never_gone u gone = (let q : kind.Dict ≡ kind.MaybeDict = sym sure ∙ gone.may in absurd (cc))

    either : (u k y : Meant) → Holds around.layout known g b.element (operand core.vars b.x) k → Holds around.layout known g c.element (operand core.vars c.x) y → (is_indexed m ≡ true → IsThere k) → Dicting around.layout known g a.element (operand core.vars a.x) u ⊎ Gone kind.MaybeDict a.element (operand core.vars a.x) u → Done (u ∷ k ∷ y ∷ [])
    either u k y k_held y_held good (inl it) = got_so u k y k_held y_held it good
    either u k y k_held y_held good (inr gone) = absurd (never_gone u gone)

    follow : (vs : List Meant) → Given known around g core (a ∷ b ∷ c ∷ []) vs → SecondIsThere m world vs
        → Follows (tuples_in place.element + tuples_in place.element) known around place p arguments (At ((s.ops ++ (v.ops ++ (calls ∷ puts ∷ []))) ++ rest) e frames core) rest e frames core g raised (references world.heap vs + (items_in place.element + items_in place.element)) (length w.body.types) world (meant_op known.program w.found.covered (row.Method (codes "get") site) vs world)
    follow [] given good = absurd given
    follow (u ∷ []) given good = absurd given.1
    follow (u ∷ k ∷ []) given good = absurd given.1.1
    follow (u ∷ k ∷ y ∷ []) given good =
        subst (λ l. Follows (tuples_in place.element + tuples_in place.element) known around place p arguments (At l e frames core) rest e frames core g raised (references world.heap (u ∷ k ∷ y ∷ []) + (items_in place.element + items_in place.element)) (length w.body.types) world (meant_op known.program w.found.covered (row.Method (codes "get") site) (u ∷ k ∷ y ∷ []) world))
        (sym (append_assoc s.ops (v.ops ++ (calls ∷ puts ∷ [])) rest ∙ ap (λ l. s.ops ++ l) (append_assoc v.ops (calls ∷ puts ∷ []) rest)))
        (either u k y given.1.0 given.1.1.0 good (dict_or_none (sym (same_kind (kind_of a)) ∙ is.dict.dicts) given.0))
    follow (u ∷ k ∷ y ∷ z ∷ more) given good = absurd given.1.1.1

  pub got_as_done : IsDoneWhere (SecondIsThere m) (tuples_in place.element + tuples_in place.element) (items_in place.element + items_in place.element) known around (row.Method (codes "get") site) w.found.covered asks (lower_dict_op around (row.Method (codes "get") site) place (a ∷ b ∷ c ∷ []) w) place (a ∷ b ∷ c ∷ []) w
  got_as_done = record {
    ops = s.ops ++ (v.ops ++ (calls ∷ puts ∷ []));
    new = new;
    asked = ap (λ (q : Writing). q.found) is_written ∙ ap (λ found. (small_number looks found).1) v.asked ∙ sym (asked_both (operand_asks around c place.element) (Make looks ∷ []) w.found);
    written = ap (λ (q : Writing). q.body.ops) is_written ∙ ap (λ l. (l ++ calls ∷ []) ++ puts ∷ []) v.written ∙ parts_so w.body.ops s.ops v.ops calls puts;
    types = ap (λ (q : Writing). q.body.types) is_written ∙ ap (λ l. l ++ t ∷ []) v.types ∙ append_assoc (w.body.types ++ s.new) v.new (t ∷ []) ∙ append_assoc w.body.types s.new (v.new ++ t ∷ []);
    follows = λ p numbers raised arguments rest e frames core g world vs structs has stands left room inside below given good. follow p numbers raised arguments rest e frames core g world structs has stands left room inside below vs given good;
  }

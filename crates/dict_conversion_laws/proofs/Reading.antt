-- The value of a key is read, and converted to its place.
use Rattle.std.proofs.Common.{map, ◌≡◌, ◌<◌, ◌≤◌, ℕ, ◌+◌, ◌⊎◌, inl, inr, true, false, ◌||◌, List, [], ◌∷◌, ◌++◌, length, Option, Some, None, refl, sym, ap, ◌∙◌, subst, arith, append_assoc, length-append, ℤ, ◌&&◌, Bool, pos}
use Rattle.std.specs.Prelude.{slice_get, not}
use Rattle.ann_element.specs.declared.element.Element.{Element}
use Rattle.csub_tree.specs.State.{Value, Core, Word}
use Rattle.csub_tree.specs.Operation.{is_unset}
use Rattle.csub_tree.specs.Statement.{operand, operands, any_unset}
use Rattle.csub_tree.specs.declared.tree.COperand.{COperand}
use Rattle.rpy_tree.specs.Value.{Value as Meant, Ref}
use Rattle.rpy_meaning.specs.Compare.{is_equal}
use Rattle.rpy_meaning.specs.Operations.{op as meant_op}
use Rattle.rpy_meaning.specs.Sequences.{value_at, index_object}
use Rattle.rpy_meaning.specs.World.{give as give_meant, World, Answer, Gives, Throws, if_some, no_key}
use Rattle.ll_code.specs.State.{Frame, State, Calling, At}
use Rattle.ll_code.specs.declared.program.LlType.{LlType}
use Rattle.ll_code.specs.declared.program.LlOp.{LlOp}
use Rattle.ll_code.specs.declared.program.LlExit.{LlExit}
use Rattle.ll_code.specs.declared.program.LlProgram.{LlProgram}
use Rattle.ll_build.specs.declared.needs.Numbers.{Numbers}
use Rattle.rtyper_layout.specs.Kinds.{kind_seen}
use Rattle.rtyper_layout.specs.declared.dicts.Mapping.{Mapping}
use Rattle.rtyper_layout.specs.Dicts.{is_indexed, is_plain, stored_key, stored_value}
use Rattle.rtyper_layout.specs.Layout.{is_tuple}
use Rattle.rtyper_layout.specs.Types.{type_of as element_type, type_seen}
use Rattle.rtyper_data.specs.declared.small.Small.{Small}
use Rattle.rtyper_data.specs.Comparing.{alone}
use Rattle.rtyper_data.specs.Converting.{present, by_small, give_made, give_to, value_as, give}
use Rattle.rtyper_data.specs.Finding.{small_number}
use Rattle.rtyper_data.specs.Seen.{Around, Operand, Place, kind_of, type_of, Writing, writing, set, type_at}
use Rattle.rtyper_dict.specs.Lowering.{lower_dict_op, of_dict, of_dict_or, of_first, give_value, index, of_two}
use Rattle.rtyper_dict.specs.Operands.{dict_of, dict_pointed, key_in, of_dict_or_none, pointed, shape_in, stored_in, there, beside, entry_in}
use Rattle.rtyper_dict.specs.Parts.{shape_of}
use Rattle.list_shape.specs.Shapes.{taking}
use Rattle.lower_laws.specs.Asked.{Ask, Make}
use Rattle.lower_laws.specs.Values.{AllBelow, IsBelow}
use Rattle.lower_laws.proofs.Stayed.{field_is}
use Rattle.list_copy_laws.proofs.Ready.{Went}
use Rattle.object_laws.specs.Dicts.{DictAt, as_item, keys_of, Arrays, Lacks, values_of}
use Rattle.object_laws.specs.Done.{HasLayout, references}
use Rattle.object_laws.specs.Ghost.{Ghost, DictOf}
use Rattle.object_laws.specs.Known.{Known}
use Rattle.object_laws.specs.Represents.{Represents}
use Rattle.object_laws.specs.Values.{Given, Holds}
use Rattle.object_laws.proofs.Blocks.{found_set}
use Rattle.object_laws.proofs.Passing.{operand_kept, none_passed, sets_more, sets_last, is_set_at, calls_at, Passed, both_passed, throws_at}
use Rattle.object_laws.proofs.Valued.{Dicting, Gone, dict_or_none, held_set, stays_held, stays_typed}
use Rattle.conversion_laws.specs.Asked.{Has as HasConversion}
use Rattle.conversion_laws.specs.Converted.{Came as Converts, IsConverted, converted, items_in, tuples_in}
use Rattle.conversion_laws.specs.Going.{Goes}
use Rattle.conversion_laws.proofs.Converting.{values_are_converted}
use Rattle.conversion_laws.proofs.Moving.{Moved}
use Rattle.dict_laws.specs.Keys.{position_from}
use Rattle.dict_op_laws.proofs.Lengths.{same_kind}
use Rattle.dict_find_laws.specs.Keys.{IsThere}
use Rattle.dict_find_laws.specs.Finding.{as_key}
use Rattle.dict_find_laws.specs.Lookups.{HasValues, IsAskedFor as IsAskedAsItIs, SecondIsThere}
use Rattle.dict_find_laws.proofs.Arriving.{own_number, same_value}
use Rattle.dict_find_laws.proofs.Restored.{IsOf, Restored, restored}
use Rattle.dict_change_laws.proofs.Coming.{Kept, kept_if}
use Rattle.dict_conversion_laws.specs.Asked.{HasAll}
use Rattle.dict_conversion_laws.specs.Done.{Follows, IsDoneWhere}
use Rattle.dict_conversion_laws.specs.Operands.{operand_asks}
use Rattle.dict_conversion_laws.proofs.Composed.{follows_so, moved_so, then_follows}
use Rattle.dict_conversion_laws.proofs.Kept.{all_kept}
use Rattle.dict_find_laws.proofs.Hashed.{still_so}
use Rattle.dict_conversion_laws.proofs.Operands.{below_more, conversion_has}
use Rattle.dict_conversion_laws.proofs.Valued.{held_is_of, goes_from, goes_there}
use Rattle.ll_leads.specs.Path.{Leads}
use Rattle.ll_leads.proofs.Ways.{Comes, on}
use Rattle.csub_tree.specs.declared.tree.COperand.TheVariants.{Var}
use Rattle.lower_laws.proofs.Doing.{after}
use Rattle.lower_laws.proofs.Single.{sets}
use Rattle.dict_find_laws.proofs.Keyed.{KeyAt}
use Rattle.dict_find_laws.proofs.Read.{same_some, entry_found}
use Rattle.dict_find_laws.proofs.Sought.{Sought, sought, unsought}
use Rattle.dict_find_laws.proofs.Worth.{as_item_set, value_stands, gives_worth}
use Rattle.std.proofs.lemmas.List.{length-set}
use Rattle.rtyper_data.specs.declared.found.Found.{Found}
use Rattle.lower_laws.specs.Done.{Threw}
use Rattle.dict_find_laws.proofs.Hashed.{still_so}
use Rattle.rtyper_data.specs.declared.body.Body.{Body}
use Rattle.dict_find_laws.proofs.Entered.{Enters}
use Rattle.dict_find_laws.proofs.Places.{entries_few, values_long}
use Rattle.dict_find_laws.proofs.Ready.{Went as Arrives}
use Rattle.rpy_meaning.specs.declared.row.RowOp.TheVariants as row
use Rattle.ll_code.specs.declared.program.LlType.TheVariants as type
use Rattle.ll_code.specs.declared.program.LlOp.TheVariants as op
use Rattle.rtyper_layout.specs.declared.kind.Kind.TheVariants as kind
use Rattle.rtyper_data.specs.declared.small.Small.TheVariants as small
use Rattle.rtyper_data.specs.declared.small.Keyed.TheVariants as keyed

and_second : (a b : Bool) → (a && b) ≡ true → b ≡ true
and_second true b h = h
and_second false b h = absurd (cc)

gives_so : (around : Around) (place : Place) (x : COperand) (from t : LlType) (w : Writing) → (t ≡ type.Void → ⊥) → give_to around place x from t w ≡ set place.variable (value_as around.layout x from t w)
gives_so around place x from type.Void w there = absurd (there refl)
gives_so around place x from type.Signed w there = refl
gives_so around place x from type.Char w there = refl
gives_so around place x from type.Bool w there = refl
gives_so around place x from type.Fn w there = refl
gives_so around place x from (type.Ptr n) w there = refl

parts_so : {A : Type 0} (xs ys : List A) (a b : A) (zs us : List A) (c : A) → ((((((xs ++ ys) ++ a ∷ []) ++ b ∷ []) ++ zs) ++ us) ++ c ∷ []) ≡ xs ++ (ys ++ (a ∷ b ∷ (zs ++ (us ++ c ∷ []))))
parts_so xs ys a b zs us c =
    append_assoc ((((xs ++ ys) ++ a ∷ []) ++ b ∷ []) ++ zs) us (c ∷ []) ∙ append_assoc (((xs ++ ys) ++ a ∷ []) ++ b ∷ []) zs (us ++ c ∷ []) ∙ append_assoc ((xs ++ ys) ++ a ∷ []) (b ∷ []) (zs ++ (us ++ c ∷ []))
    ∙ append_assoc (xs ++ ys) (a ∷ []) (b ∷ (zs ++ (us ++ c ∷ []))) ∙ append_assoc xs ys (a ∷ b ∷ (zs ++ (us ++ c ∷ [])))

types_so : {A : Type 0} (xs ys : List A) (a b : A) (zs us : List A) → (((((xs ++ ys) ++ a ∷ []) ++ b ∷ []) ++ zs) ++ us) ≡ xs ++ (ys ++ (a ∷ b ∷ (zs ++ us)))
types_so xs ys a b zs us =
    append_assoc (((xs ++ ys) ++ a ∷ []) ++ b ∷ []) zs us ∙ append_assoc ((xs ++ ys) ++ a ∷ []) (b ∷ []) (zs ++ us) ∙ append_assoc (xs ++ ys) (a ∷ []) (b ∷ (zs ++ us)) ∙ append_assoc xs ys (a ∷ b ∷ (zs ++ us))

module _ (known : Known) (around : Around) (place : Place) (a b : Operand) (w : Writing) (literal : Option ℤ) (n : ℕ) (m : Mapping) (value : Element) (is : IsAskedAsItIs around known a b n m) (sure : kind_of a ≡ kind.Dict) (values : HasValues around known m value)
    (go : Goes around.layout known (Some value) place.element) (real : kind_seen (Some value) ≡ kind.Never → ⊥) (apart : is_tuple around.layout 0 ≡ false) where
  s : Kept m.key (stored_key m) b.x w.body
  s = kept_if b.x w.body (is_plain m.key) m.key (λ h. h)

  abbrev w1 : Writing
  w1 = writing w.found (record { types = w.body.types ++ s.new; ops = w.body.ops ++ s.ops })

  abbrev looks : Small
  looks = small.Keyed (keyed.Entry n)

  abbrev reads : Small
  reads = small.Keyed (keyed.Value n)

  abbrev asks : List Ask
  asks = Make looks ∷ Make reads ∷ operand_asks around (record { x = a.x; element = Some value }) place.element

  abbrev number : ℕ
  number = (small_number looks w.found).0

  abbrev found_second : Found
  found_second = (small_number looks w.found).1

  abbrev value_number : ℕ
  value_number = (small_number reads found_second).0

  abbrev found_last : Found
  found_last = (small_number reads found_second).1

  abbrev m1 : ℕ
  m1 = length w1.body.types

  abbrev m2 : ℕ
  m2 = length (w1.body.types ++ type.Signed ∷ [])

  abbrev calls : LlOp
  calls = op.Call (Some m1) number (a.x ∷ s.y ∷ [])

  abbrev fetches : LlOp
  fetches = op.Call (Some m2) value_number (a.x ∷ Var m1 ∷ [])

  abbrev body_read : Body
  body_read = record { types = (w1.body.types ++ type.Signed ∷ []) ++ stored_value m ∷ []; ops = (w1.body.ops ++ calls ∷ []) ++ fetches ∷ [] }

  back : Restored (stored_value m) m.value (Var m2) body_read
  back = restored (Var m2) body_read (not (is_plain m.key) && is_plain m.value) m.value (and_second (not (is_plain m.key)) (is_plain m.value))

  abbrev w2 : Writing
  w2 = writing found_last (record { types = body_read.types ++ back.new; ops = body_read.ops ++ back.ops })

  v : IsConverted (λ p. HasConversion p around.layout) known around.layout (Some value) place.element (operand_asks around (record { x = a.x; element = Some value }) place.element) back.y w2
  v = values_are_converted known around.layout (Some value) place.element back.y w2 apart go

  abbrev z : COperand
  z = (converted around.layout (Some value) place.element back.y w2).0

  abbrev w3 : Writing
  w3 = (converted around.layout (Some value) place.element back.y w2).1

  abbrev puts : LlOp
  puts = op.Set place.variable z

  key_typed : type_of around b ≡ m.key
  key_typed = stays_typed is.stays ∙ ap (type_seen around.layout) is.keys.key_is ∙ is.keys.typed

  value_there : element_type around.layout value ≡ type.Void → ⊥
  value_there = goes_from go real

  value_typed : m.value ≡ element_type around.layout value
  value_typed = values.typed ∙ field_is (element_type around.layout value) value_there

  shape_is : dict_of around a ≡ Some (shape_of m)
  unfolding dict_of
  shape_is = ap (dict_pointed around.layout) is.dict.typed ∙ ap shape_in is.dict.mapping

  dict_written : there around a w ≡ (a.x, w)
  unfolding there
  dict_written = ap (λ k. present around a (of_dict_or_none k) w) sure

  key_written : key_in around (shape_of m) b w ≡ (s.y, w1)
  unfolding key_in shape_of
  key_written = ap (stored_in m.key (shape_of m).stored_key) (same_value around b m.key w key_typed) ∙ ap (alone w.found) s.written

  entry_written : (k : ℕ) → entry_in around (shape_of m) a b (keyed.Entry k) w ≡ beside a.x (by_small (small.Keyed (keyed.Entry k)) type.Signed (a.x ∷ s.y ∷ []) w1)
  unfolding entry_in
  entry_written k =
      ap (λ made. taking made (λ x next. taking (key_in around (shape_of m) b next) (λ y last. beside x (by_small (small.Keyed (keyed.Entry k)) type.Signed (x ∷ y ∷ []) last)))) dict_written
      ∙ ap (λ made. taking made (λ y last. beside a.x (by_small (small.Keyed (keyed.Entry k)) type.Signed (a.x ∷ y ∷ []) last))) key_written

  abbrev given_from : (COperand × COperand) × Writing → ℕ → Writing
  given_from made k = taking made (λ at next. give_value around place (shape_of m) (by_small (small.Keyed (keyed.Value k)) (shape_of m).stored_value (at.0 ∷ at.1 ∷ []) next))

  is_written : lower_dict_op around (row.Index literal) place (a ∷ b ∷ []) w ≡ writing w3.found (record { types = w3.body.types; ops = w3.body.ops ++ puts ∷ [] })
  unfolding lower_dict_op of_first of_dict of_two index by_small shape_of give
  is_written = ap (λ o. of_dict_or around (row.Index literal) place o (a ∷ b ∷ []) w) shape_is ∙ ap (λ made. given_from made m.dict) (entry_written m.dict)
      ∙ ap (λ k. given_from (beside a.x (by_small (small.Keyed (keyed.Entry k)) type.Signed (a.x ∷ s.y ∷ []) w1)) k) (own_number around.layout.mappings n m is.dict.mapping)
      ∙ ap (λ (made : COperand × Body). give_made around place m.value (alone found_last made)) back.written
      ∙ gives_so around place back.y m.value (type_at around place) w2 (goes_there go real)
      ∙ ap (λ t. set place.variable (value_as around.layout back.y t (type_at around place) w2)) value_typed

  abbrev new : List LlType
  new = s.new ++ (type.Signed ∷ stored_value m ∷ (back.new ++ v.new))

  new_long : length new ≡ length s.new + 2 + length back.new + length v.new
  new_long = (let x = length-append s.new (type.Signed ∷ stored_value m ∷ (back.new ++ v.new)) in let y = length-append back.new v.new in omega (arith, x, y))

  m1_is : m1 ≡ length w.body.types + length s.new
  m1_is = length-append w.body.types s.new

  m2_is : m2 ≡ m1 + 1
  m2_is = length-append w1.body.types (type.Signed ∷ [])

  body_long : length body_read.types ≡ m1 + 2
  body_long = (let x = length-append (w1.body.types ++ type.Signed ∷ []) (stored_value m ∷ []) in omega (arith, x, m2_is))

  w2_long : length w2.body.types ≡ m1 + 2 + length back.new
  w2_long = (let x = length-append body_read.types back.new in omega (arith, x, body_long))

  abbrev behind : List LlOp
  behind = calls ∷ fetches ∷ (back.ops ++ (v.ops ++ puts ∷ []))

  module _ (p : LlProgram) (numbers : Numbers) (raised : ℕ → Value) (arguments : List (List ℕ)) (rest : List LlOp) (e : LlExit) (frames : List Frame) (core : Core) (g : Ghost) (world : World)
      (structs : HasLayout p around.layout) (has : HasAll p around.layout numbers raised core asks w.found)
      (stands : Represents around.layout known g world.heap world.left core.blocks core.statics) (left : world.left ≡ core.steps)
      (room : length w.body.types + length new ≤ length core.vars) (inside : place.variable < length w.body.types) (below : AllBelow (length w.body.types) (a ∷ b ∷ [])) where
    abbrev later : List LlOp
    later = back.ops ++ (v.ops ++ (puts ∷ rest))

    abbrev last : List LlOp
    last = calls ∷ fetches ∷ later

    abbrev Here : State
    Here = At (s.ops ++ last) e frames core

    abbrev Answered : List Meant → Answer → Type 0
    Answered vs answer = Follows (tuples_in place.element) known around place p arguments Here rest e frames core g raised (references world.heap vs + items_in place.element) (length w.body.types) world answer

    abbrev Done : List Meant → Type 0
    Done vs = Answered vs (meant_op known.program w.found.covered (row.Index literal) vs world)

    module _ (u k : Meant) (held : Holds around.layout known g b.element (operand core.vars b.x) k) (found_dict : Dicting around.layout known g a.element (operand core.vars a.x) u) (there_so : is_indexed m ≡ true → IsThere k) where
      home : slice_get g.homes found_dict.i ≡ Some (record { sort = DictOf n; head = operand core.vars a.x })
      home = subst (λ k. slice_get g.homes found_dict.i ≡ Some (record { sort = DictOf k; head = operand core.vars a.x })) (ap pointed (sym found_dict.typed ∙ is.dict.typed)) found_dict.home

      abbrev head : Value
      head = operand core.vars a.x

      abbrev kx : Value
      kx = operand core.vars b.x

      key_is : IsOf m.key kx
      key_is = subst (λ t. IsOf t kx) key_typed (held_is_of held)

      went1 : Went p arguments Here last e frames core (length w.body.types) s.y (as_item m.key (stored_key m) kx)
      went1 = s.enters p arguments last e frames core (let q = new_long in omega (arith, room, q)) key_is

      abbrev mid : Core
      mid = went1.mid

      mid_long : length mid.vars ≡ length core.vars
      mid_long = went1.passed.room

      stands_mid : Represents around.layout known g world.heap world.left mid.blocks mid.statics
      stands_mid = subst (λ (c : Core). Represents around.layout known g world.heap world.left c.blocks c.statics) (sym went1.passed.memory) stands

      left_mid : world.left ≡ mid.steps
      left_mid = left ∙ sym (ap (λ (c : Core). c.steps) went1.passed.memory)

      d : DictAt around.layout known g world.heap mid.blocks mid.statics m found_dict.i head
      d = stands_mid.dicts n found_dict.i head m home is.dict.mapping

      abbrev x : Value
      x = as_key m kx

      abbrev at : Option ℕ
      at = position_from is_equal 0 (keys_of d.pairs) k

      dict_here : operand mid.vars a.x ≡ head
      dict_here = operand_kept went1.passed a.x below.0

      same : operands mid.vars (a.x ∷ s.y ∷ []) ≡ head ∷ x ∷ []
      same = ap (λ q. q ∷ operand mid.vars s.y ∷ []) dict_here ∙ ap (λ q. head ∷ q ∷ []) went1.is

      head_set : is_unset head ≡ false
      head_set = found_set mid.blocks mid.statics head _ d.head_is

      set_both : any_unset (head ∷ x ∷ []) ≡ false
      set_both = ap (λ q. q || (is_unset x || false)) head_set ∙ ap (λ q. q || false) (as_item_set m.key (stored_key m) kx (held_set stands held))

      looked : Enters p arguments number (head ∷ x ∷ []) mid (raised 7) at
      looked = entry_found around.layout known p numbers raised arguments n number m core mid g world.heap world.left found_dict.i head kx k is.dict.mapping is.keys structs has.0 stands_mid d (record { held = stays_held is.stays held; there = there_so }) (still_so m core mid went1.passed.memory)

      abbrev vs : List Meant
      vs = Ref found_dict.i ∷ k ∷ []

      abbrev refs : ℕ
      refs = references world.heap vs

      meant : meant_op known.program w.found.covered (row.Index literal) vs world ≡ if_some no_key (value_at k d.pairs) give_meant world
      meant = ap (λ o. index_object w.found.covered k o world) d.object

      -- behind the key
      abbrev Calls : Answer → Type 0
      Calls answer = Follows (tuples_in place.element) known around place p arguments (At last e frames mid) rest e frames mid g raised (refs + items_in place.element) m1 world answer

      raises : at ≡ None → Calls (Throws 7 world)
      raises none = follows_so known around place p arguments rest e frames raised world (tuples_in place.element) (refs + items_in place.element) m1 (At last e frames mid) mid stands_mid (Throws 7 world)
          (subst (λ l. Threw p arguments (At (calls ∷ fetches ∷ l) e frames mid) rest e frames mid (raised 7) m1 world world) (append_assoc back.ops (v.ops ++ puts ∷ []) rest ∙ ap (λ l. back.ops ++ l) (append_assoc v.ops (puts ∷ []) rest))
          (throws_at same set_both (fetches ∷ (back.ops ++ (v.ops ++ puts ∷ []))) rest (subst (Enters p arguments number (head ∷ x ∷ []) mid (raised 7)) none looked)))

      module _ (i : ℕ) (is_at : at ≡ Some i) (all : Arrays around.layout known g mid.blocks mid.statics m found_dict.i d.pairs d.places d.one d.two) where
        abbrev it : Sought k d.pairs i
        it = sought k d.pairs i is_at

        few : length d.pairs ≤ d.places
        few = entries_few around.layout known p arguments number m mid g world.heap found_dict.i head k (structs.dicts n m is.dict.mapping) d all

        long : length (map (as_item m.value (stored_value m)) all.values ++ all.spare_values) ≡ d.places
        long = values_long around.layout known p arguments number m mid g world.heap found_dict.i head k (structs.dicts n m is.dict.mapping) d all

        worth : KeyAt around.layout known g (known.items m.dict) (as_item m.value (stored_value m)) (map (as_item m.value (stored_value m)) all.values ++ all.spare_values) (values_of d.pairs) i
        worth = value_stands around.layout known m mid g world.heap found_dict.i head d all i it.inside

        abbrev y : Value
        y = worth.value

        abbrev kept : Value
        kept = as_item m.value (stored_value m) y

        value_held : Holds around.layout known g (Some value) y it.value
        value_held = subst (λ o. Holds around.layout known g o y it.value) values.value_is (subst (λ u. Holds around.layout known g (known.items m.dict) y u) (same_some worth.meant it.value (sym worth.is ∙ it.is)) worth.held)

        value_of : IsOf m.value y
        value_of = subst (λ t. IsOf t y) (sym value_typed) (held_is_of value_held)

        abbrev placed : Core
        placed = after mid m1 (Word (pos i))

        placed_long : length placed.vars ≡ length core.vars
        placed_long = length-set mid.vars m1 (Word (pos i)) ∙ mid_long

        dict_placed : operand placed.vars a.x ≡ head
        dict_placed = operand_kept (sets_more {below = m1} {core = mid} m1 (Word (pos i)) (omega arith) none_passed) a.x (below_more a.x (length w.body.types) m1 (omega (arith, m1_is)) below.0) ∙ dict_here

        same_placed : operands placed.vars (a.x ∷ Var m1 ∷ []) ≡ head ∷ Word (pos i) ∷ []
        same_placed = ap (λ q. q ∷ operand placed.vars (Var m1) ∷ []) dict_placed ∙ ap (λ q. head ∷ q ∷ []) (is_set_at mid m1 (Word (pos i)) (omega (arith, room, m1_is, new_long, mid_long)))

        fetched : (waits : List Frame) → Comes p arguments (Calling value_number (head ∷ Word (pos i) ∷ []) waits placed) [] kept waits placed
        fetched = gives_worth around.layout known p arguments n value_number m placed g world.heap world.left found_dict.i head is.dict.mapping (structs.dicts n m is.dict.mapping) has.1.0 stands_mid d all i it.inside few long worth

        abbrev read_it : Core
        read_it = after placed m2 kept

        read_long : length read_it.vars ≡ length core.vars
        read_long = length-set placed.vars m2 kept ∙ placed_long

        read_passed : Passed m1 mid read_it
        read_passed = sets_more m2 kept (omega (arith, m2_is)) (sets_more m1 (Word (pos i)) (omega arith) none_passed)

        restores : Arrives p arguments (At later e frames read_it) (v.ops ++ (puts ∷ rest)) e frames read_it (length body_read.types) back.y y
        restores = back.enters p arguments (v.ops ++ (puts ∷ rest)) e frames read_it y (omega (arith, room, m1_is, new_long, body_long, read_long)) (is_set_at placed m2 kept (omega (arith, room, m1_is, m2_is, new_long, placed_long))) value_of

        abbrev core2 : Core
        core2 = restores.mid

        passed2 : Passed m1 mid core2
        passed2 = both_passed (omega (arith, body_long)) read_passed restores.passed

        way2 : Leads p arguments 0 (At last e frames mid) [] (At (v.ops ++ (puts ∷ rest)) e frames core2)
        way2 = on (calls_at same set_both (subst (Enters p arguments number (head ∷ x ∷ []) mid (raised 7)) is_at looked)) (on (calls_at same_placed (ap (λ q. q || (false || false)) head_set) fetched) restores.way)

        stands2 : Represents around.layout known g world.heap world.left core2.blocks core2.statics
        stands2 = subst (λ (c : Core). Represents around.layout known g world.heap world.left c.blocks c.statics) (sym passed2.memory) stands_mid

        left2 : world.left ≡ core2.steps
        left2 = left_mid ∙ sym (ap (λ (c : Core). c.steps) passed2.memory)

        core2_long : length core2.vars ≡ length core.vars
        core2_long = passed2.room ∙ mid_long

        y_below : IsBelow (length w2.body.types) back.y
        y_below = below_more back.y (length body_read.types + length back.new) (length w2.body.types) (omega (arith, w2_long, body_long)) (back.inside (omega (arith, body_long, m2_is)))

        converts : Converts around.layout known (λ ghost x. Holds around.layout known ghost place.element x it.value) p arguments (At (v.ops ++ (puts ∷ rest)) e frames core2) (puts ∷ rest) e frames core2 g world.heap world.left (length w2.body.types) place.element z
        converts = v.follows p numbers raised arguments (puts ∷ rest) e frames core2 g world.heap world.left it.value structs
            (conversion_has p around.layout numbers raised core2 (type_seen around.layout (Some value)) (type_seen around.layout place.element) found_last
            (all_kept p around.layout numbers raised core core2 (ap (λ (c : Core). c.statics) passed2.memory ∙ ap (λ (c : Core). c.statics) went1.passed.memory) (ap (λ (c : Core). c.steps) passed2.memory ∙ ap (λ (c : Core). c.steps) went1.passed.memory)
            (operand_asks around (record { x = a.x; element = Some value }) place.element) found_last has.1.1))
            stands2 left2 (omega (arith, room, new_long, m1_is, w2_long, core2_long)) y_below (subst (λ x. Holds around.layout known g (Some value) x it.value) (sym restores.is) value_held)

        moved : Moved around.layout known p arguments (At (v.ops ++ (puts ∷ rest)) e frames core2) (puts ∷ rest) e frames core2 g world.heap world.left (length w2.body.types) (items_in place.element) (tuples_in place.element) converts.end converts.ghost
        moved = record { leads = converts.leads; grown = converts.grown; stands = converts.stands; few = converts.few; memory = converts.memory; others = converts.others; room = converts.room; function = converts.function; block = converts.block }

        gives_it : Calls (Gives it.value world)
        gives_it =
            let made : ℕ = tuples_in place.element in
            let written : ℕ = items_in place.element in
            let result : Answer = Gives it.value world in
            let inside2 : place.variable < length converts.end.vars = (let q = converts.room in omega (arith, room, inside, new_long, core2_long, q)) in
            let at_end = sets_last refs (length w2.body.types) converts.end (operand converts.end.vars z) it.value converts.stands (left2 ∙ sym (ap (λ (c : Core). c.steps) converts.memory)) none_passed inside2 (sets (operand converts.end.vars z) refl (held_set converts.stands converts.fine)) converts.fine in
            let at_given = then_follows known around place p arguments rest e frames raised world made written refs (refs + written) 0 made (length w2.body.types) (length w2.body.types) moved (omega arith) (omega arith) (omega arith) result at_end in
            then_follows known around place p arguments rest e frames raised world 0 0 (refs + written) (refs + written) made made m1 (length w2.body.types) (moved_so known around place p arguments rest e frames raised world stands_mid passed2 way2) (omega (arith, w2_long)) (omega arith) (omega arith) result at_given

      by_place : (o : Option ℕ) → at ≡ o → Calls (if_some no_key (value_at k d.pairs) give_meant world)
      by_place None none = subst (λ o. Calls (if_some no_key o give_meant world)) (sym (unsought k d.pairs 0 none)) (raises none)
      by_place (Some i) is_at = by d.arrays
        where
          by : Lacks around.layout known g mid.blocks mid.statics m found_dict.i d.pairs d.places d.one d.two ⊎ Arrays around.layout known g mid.blocks mid.statics m found_dict.i d.pairs d.places d.one d.two → Calls (if_some no_key (value_at k d.pairs) give_meant world)
          by (inl l) = absurd (let q = ap length l.empty in let k2 = (sought k d.pairs i is_at).inside in omega (arith, q, k2))
          by (inr all) = subst (λ o. Calls (if_some no_key o give_meant world)) (sym (sought k d.pairs i is_at).high) (gives_it i is_at all)

      read_so : Done (u ∷ k ∷ [])
      read_so =
          let result : Answer = if_some no_key (value_at k d.pairs) give_meant world in
          let most : ℕ = refs + items_in place.element in
          let made : ℕ = tuples_in place.element in
          let at_key = then_follows known around place p arguments rest e frames raised world 0 0 most most made made (length w.body.types) m1 (moved_so known around place p arguments rest e frames raised world stands went1.passed went1.way) (omega (arith, m1_is)) (omega arith) (omega arith) result (by_place at refl) in
          subst (λ u. Done (u ∷ k ∷ [])) (sym found_dict.high) (subst (Answered vs) (sym meant) at_key)

    never_gone : (u : Meant) → Gone kind.MaybeDict a.element (operand core.vars a.x) u → ⊥
    never_gone u gone = (let q : kind.Dict ≡ kind.MaybeDict = sym sure ∙ gone.may in absurd (cc))

    either : (u k : Meant) → Holds around.layout known g b.element (operand core.vars b.x) k → (is_indexed m ≡ true → IsThere k) → Dicting around.layout known g a.element (operand core.vars a.x) u ⊎ Gone kind.MaybeDict a.element (operand core.vars a.x) u → Done (u ∷ k ∷ [])
    either u k held good (inl it) = read_so u k held it good
    either u k held good (inr gone) = absurd (never_gone u gone)

    follow : (vs : List Meant) → Given known around g core (a ∷ b ∷ []) vs → SecondIsThere m world vs
        → Follows (tuples_in place.element) known around place p arguments (At ((s.ops ++ behind) ++ rest) e frames core) rest e frames core g raised (references world.heap vs + items_in place.element) (length w.body.types) world (meant_op known.program w.found.covered (row.Index literal) vs world)
    follow [] given good = absurd given
    follow (u ∷ []) given good = absurd given.1
    follow (u ∷ k ∷ []) given good =
        subst (λ l. Follows (tuples_in place.element) known around place p arguments (At l e frames core) rest e frames core g raised (references world.heap (u ∷ k ∷ []) + items_in place.element) (length w.body.types) world (meant_op known.program w.found.covered (row.Index literal) (u ∷ k ∷ []) world))
        (sym (append_assoc s.ops behind rest ∙ ap (λ l. s.ops ++ (calls ∷ fetches ∷ l)) (append_assoc back.ops (v.ops ++ puts ∷ []) rest ∙ ap (λ l. back.ops ++ l) (append_assoc v.ops (puts ∷ []) rest))))
        (either u k given.1.0 good (dict_or_none (sym (same_kind (kind_of a)) ∙ is.dict.dicts) given.0))
    follow (u ∷ k ∷ y ∷ more) given good = absurd given.1.1

  pub read_done : IsDoneWhere (SecondIsThere m) (tuples_in place.element) (items_in place.element) known around (row.Index literal) w.found.covered asks (lower_dict_op around (row.Index literal) place (a ∷ b ∷ []) w) place (a ∷ b ∷ []) w
  read_done = record {
    ops = s.ops ++ behind;
    new = new;
    asked = ap (λ (q : Writing). q.found) is_written ∙ v.asked;
    written = ap (λ (q : Writing). q.body.ops) is_written ∙ ap (λ l. l ++ puts ∷ []) v.written ∙ parts_so w.body.ops s.ops calls fetches back.ops v.ops puts;
    types = ap (λ (q : Writing). q.body.types) is_written ∙ v.types ∙ types_so w.body.types s.new type.Signed (stored_value m) back.new v.new;
    follows = λ p numbers raised arguments rest e frames core g world vs structs has stands left room inside below given good. follow p numbers raised arguments rest e frames core g world structs has stands left room inside below vs given good;
  }

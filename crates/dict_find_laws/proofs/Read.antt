-- The value of a key is read.
use Rattle.std.proofs.Common.{◌≡◌, ℤ, ◌&&◌, None, ◌<◌, ◌≤◌, ℕ, ◌+◌, ◌⊎◌, inl, inr, Bool, true, false, ◌||◌, List, [], ◌∷◌, ◌++◌, length, map, Option, Some, pos, refl, sym, ap, ◌∙◌, subst, arith, append_assoc, length-append}
use Rattle.std.specs.Prelude.{slice_get, not}
use Rattle.std.proofs.lemmas.List.{length-set}
use Rattle.rpy_base.specs.declared.outcome.FailName.TheVariants as fail
use Rattle.csub_tree.specs.State.{Value, Word, Core}
use Rattle.csub_tree.specs.Operation.{is_unset}
use Rattle.csub_tree.specs.Statement.{operand, operands, any_unset}
use Rattle.csub_tree.specs.declared.tree.COperand.{COperand}
use Rattle.csub_tree.specs.declared.tree.COperand.TheVariants.{Var, Const}
use Rattle.rpy_tree.specs.Value.{Value as Meant, Nothing, Ref}
use Rattle.rpy_meaning.specs.declared.row.RowOp.TheVariants as row
use Rattle.rpy_meaning.specs.Compare.{is_equal}
use Rattle.rpy_meaning.specs.Operations.{op as meant_op}
use Rattle.rpy_meaning.specs.Sequences.{index_object, value_at}
use Rattle.rpy_meaning.specs.World.{World, Answer, Gives, Throws, failure, give, if_some, no_key}
use Rattle.ll_code.specs.State.{Frame, State, Calling, At}
use Rattle.ll_code.specs.declared.program.LlType.{LlType}
use Rattle.ll_code.specs.declared.program.LlType.TheVariants as type
use Rattle.ll_code.specs.declared.program.LlOp.{LlOp}
use Rattle.ll_code.specs.declared.program.LlOp.TheVariants as op
use Rattle.ll_code.specs.declared.program.LlExit.{LlExit}
use Rattle.ll_code.specs.declared.program.LlProgram.{LlProgram}
use Rattle.ll_build.specs.declared.needs.Numbers.{Numbers}
use Rattle.ll_leads.proofs.Ways.{Comes, on}
use Rattle.rtyper_layout.specs.declared.dicts.Mapping.{Mapping}
use Rattle.rtyper_layout.specs.declared.kind.Kind.TheVariants as kind
use Rattle.rtyper_layout.specs.Dicts.{is_indexed, is_plain, stored_key, stored_value}
use Rattle.rtyper_data.specs.declared.found.Found.{Found}
use Rattle.rtyper_data.specs.declared.small.Small.{Small}
use Rattle.rtyper_data.specs.declared.small.Small.TheVariants as small
use Rattle.rtyper_data.specs.declared.small.Keyed.TheVariants as keyed
use Rattle.rtyper_data.specs.Comparing.{alone}
use Rattle.rtyper_data.specs.Converting.{by_small, give_made}
use Rattle.rtyper_data.specs.Finding.{small_number}
use Rattle.rtyper_data.specs.Seen.{Around, Operand, Place, kind_of, type_at, Writing, writing}
use Rattle.rtyper_dict.specs.Lowering.{give_value, index, lower_dict_op, of_dict, of_dict_or, of_first, of_two}
use Rattle.rtyper_dict.specs.Operands.{beside, pointed}
use Rattle.rtyper_dict.specs.Parts.{dict_at, keyed_number, shape_of}
use Rattle.list_shape.specs.Shapes.{taking}
use Rattle.lower_laws.specs.Asked.{Ask, Make}
use Rattle.lower_laws.specs.Done.{Threw}
use Rattle.lower_laws.specs.Values.{AllBelow, IsBelow}
use Rattle.lower_laws.proofs.Doing.{after}
use Rattle.lower_laws.proofs.Single.{sets}
use Rattle.list_laws.proofs.Indexed.{asked_both}
use Rattle.dict_op_laws.specs.Dicts.{there_asks}
use Rattle.dict_op_laws.proofs.Lengths.{same_kind}
use Rattle.object_laws.specs.Dicts.{Arrays, DictAt, Lacks, as_item, keys_of, values_of}
use Rattle.object_laws.specs.Done.{Follows, HasLayout, references}
use Rattle.object_laws.specs.Ghost.{Ghost, DictOf}
use Rattle.object_laws.specs.Known.{Known}
use Rattle.object_laws.specs.Represents.{Represents}
use Rattle.object_laws.specs.Values.{Given, Holds}
use Rattle.object_laws.proofs.Blocks.{found_set}
use Rattle.object_laws.proofs.Passing.{Passed, none_passed, both_passed, sets_more, sets_last, operand_kept, is_set_at, calls_at, throws_at, behind as behind_all}
use Rattle.object_laws.proofs.Valued.{Dicting, Gone, dict_or_none, held_set, stays_held, stays_there, stays_typed}
use Rattle.dict_laws.specs.Keys.{position_from}
use Rattle.dict_find_laws.specs.Asked.{HasAll, HasEntry}
use Rattle.dict_find_laws.proofs.Hashed.{still_so}
use Rattle.dict_find_laws.specs.Finding.{StandsStill, HasKeys, IsKey, as_key}
use Rattle.dict_find_laws.specs.Keys.{IsThere}
use Rattle.dict_find_laws.specs.Lookups.{HasValues, IsAskedFor, IsTold, SecondIsThere, ValuesAreRead}
use Rattle.dict_find_laws.proofs.Arriving.{Arrived, arrives, entry_written, first, ops0, own_number, r, s, shape_is, types0, types_long, w2}
use Rattle.dict_find_laws.proofs.Found.{keys_are_found}
use Rattle.ann_element.specs.declared.element.Element.{Element}
use Rattle.ll_build.specs.Build.{block_of}
use Rattle.ll_code.specs.declared.program.LlExit.TheVariants as exit
use Rattle.rpy_tree.specs.Value.{Heap}
use Rattle.rtyper_layout.specs.declared.layout.Layout.{Layout}
use Rattle.rtyper_layout.specs.Layout.{mapping_at}
use Rattle.rtyper_layout.specs.Types.{type_of as element_type}
use Rattle.rtyper_data.specs.declared.body.Body.{Body}
use Rattle.rtyper_data.specs.Graphs.{failing}
use Rattle.rtyper_dict.specs.Graphs.{dict_graph}
use Rattle.rtyper_dict.specs.Looking.{entry, entry_graph}
use Rattle.lower_laws.proofs.Items.{gives_same}
use Rattle.lower_laws.proofs.Stayed.{field_is}
use Rattle.object_laws.specs.Staying.{Stays}
use Rattle.dict_find_laws.proofs.Entered.{Enters, enters}
use Rattle.dict_find_laws.proofs.Restored.{IsOf, Restored, is_of, restored}
use Rattle.dict_find_laws.proofs.Keyed.{KeyAt}
use Rattle.dict_find_laws.proofs.Places.{entries_few, values_long}
use Rattle.dict_find_laws.proofs.Ready.{Went}
use Rattle.dict_find_laws.proofs.Sought.{Sought, sought, unsought}
use Rattle.dict_find_laws.proofs.Worth.{as_item_set, gives_worth, value_stands}
use Rattle.dict_find_laws.proofs.Stage.{five_parts, has_first, has_more}

-- ---- the graph that looks

module _ (layout : Layout) (known : Known) (p : LlProgram) (numbers : Numbers) (raised : ℕ → Value) (args : List (List ℕ)) (n f : ℕ) (m : Mapping) (before core : Core) (g : Ghost) (heap : Heap) (left i : ℕ) (head x : Value) (v : Meant)
    (mapping : mapping_at layout.mappings n ≡ Some m) (keys : HasKeys layout known m) (structs : HasLayout p layout) (asked : HasEntry p layout numbers raised before n f) (stands : Represents layout known g heap left core.blocks core.statics)
    (d : DictAt layout known g heap core.blocks core.statics m i head) (key : IsKey layout known g m x v) (still : StandsStill m before core) where
  entry_is : slice_get p.graphs f ≡ Some (entry_graph (keyed_number (keyed.Find (dict_at layout n).dict) asked.made).0 (block_of [] (op.Call None (small_number (small.Raise 7) (keyed_number (keyed.Find (dict_at layout n).dict) asked.made).1).0 [] ∷ []) (exit.Fail 1)) (dict_at layout n))
  unfolding dict_graph entry failing
  entry_is = asked.graph

  -- a call of it gives the place of the key, or raises
  pub entry_found : Enters p args f (head ∷ as_key m x ∷ []) core (raised 7) (position_from is_equal 0 (keys_of d.pairs) v)
  entry_found = enters p args f (keyed_number (keyed.Find (dict_at layout n).dict) asked.made).0 (small_number (small.Raise 7) (keyed_number (keyed.Find (dict_at layout n).dict) asked.made).1).0 (dict_at layout n) entry_is core head (as_key m x) (raised 7)
      (found_set core.blocks core.statics head _ d.head_is) (as_item_set m.key (stored_key m) x (held_set stands key.held)) asked.raises.0 (position_from is_equal 0 (keys_of d.pairs) v)
      (λ function block at vars waits. (let it = keys_are_found layout known p numbers raised args n (keyed_number (keyed.Find (dict_at layout n).dict) asked.made).0 m before (record core { function = function; block = block; at = at; vars = vars }) g heap left i head x v mapping keys structs asked.finds stands d key still waits in
      record { end = it.end; same = it.same; leads = it.leads }))

-- ---- the operation

pub same_some : {A : Type 0} (a b : A) → Some a ≡ Some b → a ≡ b
same_some a b e = cc

pub below_more : (x : COperand) (j k : ℕ) → j ≤ k → IsBelow j x → IsBelow k x
below_more (Var v) j k h below = omega (arith, h, below)
below_more (Const c) j k h below = tt

and_second : (a b : Bool) → (a && b) ≡ true → b ≡ true
and_second true b h = h
and_second false b h = absurd (cc)

module _ (known : Known) (around : Around) (place : Place) (a b : Operand) (w : Writing) (literal : Option ℤ) (n : ℕ) (m : Mapping) (value : Element) (is : IsAskedFor around known a b n m) (values : HasValues around known m value) (stay : Stays around.layout known (Some value) place.element) where
  abbrev ready_x : COperand
  ready_x = (r known around a b n m is w).x

  abbrev dict_ops : List LlOp
  dict_ops = (r known around a b n m is w).ops

  abbrev dict_new : List LlType
  dict_new = (r known around a b n m is w).new

  abbrev ready_y : COperand
  ready_y = (s known around a b n m is w).y

  abbrev key_ops : List LlOp
  key_ops = (s known around a b n m is w).ops

  abbrev key_new : List LlType
  key_new = (s known around a b n m is w).new

  abbrev before : List LlType
  before = types0 known around a b n m is w

  abbrev found_first : Found
  found_first = first known around a b n m is w

  abbrev looks : Small
  looks = small.Keyed (keyed.Entry n)

  abbrev reads : Small
  reads = small.Keyed (keyed.Value n)

  abbrev asks : List Ask
  asks = there_asks around a w.found.covered ++ Make looks ∷ Make reads ∷ []

  abbrev number : ℕ
  number = (small_number looks found_first).0

  abbrev found_second : Found
  found_second = (small_number looks found_first).1

  abbrev value_number : ℕ
  value_number = (small_number reads found_second).0

  abbrev m1 : ℕ
  m1 = length before

  abbrev m2 : ℕ
  m2 = length (before ++ type.Signed ∷ [])

  abbrev calls : LlOp
  calls = op.Call (Some m1) number (ready_x ∷ ready_y ∷ [])

  abbrev fetches : LlOp
  fetches = op.Call (Some m2) value_number (ready_x ∷ Var m1 ∷ [])

  abbrev body_read : Body
  body_read = record { types = (before ++ type.Signed ∷ []) ++ stored_value m ∷ []; ops = (ops0 known around a b n m is w ++ calls ∷ []) ++ fetches ∷ [] }

  back : Restored (stored_value m) m.value (Var m2) body_read
  back = restored (Var m2) body_read (not (is_plain m.key) && is_plain m.value) m.value (and_second (not (is_plain m.key)) (is_plain m.value))

  abbrev puts : LlOp
  puts = op.Set place.variable back.y

  abbrev found_last : Found
  found_last = (small_number reads found_second).1

  value_there : element_type around.layout value ≡ type.Void → ⊥
  value_there h = stays_there stay (sym (stays_typed stay) ∙ h)

  value_typed : m.value ≡ element_type around.layout value
  value_typed = values.typed ∙ field_is (element_type around.layout value) value_there

  ht : type_at around place ≡ m.value
  ht = sym (stays_typed stay) ∙ sym value_typed

  abbrev given_from : (COperand × COperand) × Writing → ℕ → Writing
  given_from made k = taking made (λ at next. give_value around place (shape_of m) (by_small (small.Keyed (keyed.Value k)) (shape_of m).stored_value (at.0 ∷ at.1 ∷ []) next))

  is_written : lower_dict_op around (row.Index literal) place (a ∷ b ∷ []) w ≡ writing found_last (record { types = body_read.types ++ back.new; ops = (body_read.ops ++ back.ops) ++ puts ∷ [] })
  unfolding lower_dict_op of_first of_dict of_two index by_small shape_of
  is_written = ap (λ o. of_dict_or around (row.Index literal) place o (a ∷ b ∷ []) w) (shape_is known around a b n m is w) ∙ ap (λ made. given_from made m.dict) (entry_written known around a b n m is w (keyed.Entry m.dict))
      ∙ ap (λ k. given_from (beside ready_x (by_small (small.Keyed (keyed.Entry k)) type.Signed (ready_x ∷ ready_y ∷ []) (w2 known around a b n m is w))) k) (own_number around.layout.mappings n m is.dict.mapping)
      ∙ ap (λ (made : COperand × Body). give_made around place m.value (alone found_last made)) back.written
      ∙ gives_same around place back.y m.value (writing found_last (record { types = body_read.types ++ back.new; ops = body_read.ops ++ back.ops })) (λ h. value_there (sym value_typed ∙ h)) ht

  m1_is : m1 ≡ length w.body.types + length dict_new + length key_new
  m1_is = types_long known around a b n m is w

  m2_is : m2 ≡ m1 + 1
  m2_is = length-append before (type.Signed ∷ [])

  abbrev behind : List LlOp
  behind = calls ∷ fetches ∷ (back.ops ++ puts ∷ [])

  abbrev new : List LlType
  new = dict_new ++ (key_new ++ (type.Signed ∷ stored_value m ∷ back.new))

  new_long : length new ≡ length dict_new + length key_new + 2 + length back.new
  new_long = (let x = length-append dict_new (key_new ++ (type.Signed ∷ stored_value m ∷ back.new)) in let y = length-append key_new (type.Signed ∷ stored_value m ∷ back.new) in omega (arith, x, y))

  body_long : length body_read.types ≡ m1 + 2
  body_long = (let x = length-append (before ++ type.Signed ∷ []) (stored_value m ∷ []) in omega (arith, x, m2_is))

  module _ (p : LlProgram) (numbers : Numbers) (raised : ℕ → Value) (arguments : List (List ℕ)) (rest : List LlOp) (e : LlExit) (frames : List Frame) (core : Core) (g : Ghost) (world : World)
      (structs : HasLayout p around.layout) (has : HasAll p around.layout numbers raised core asks w.found)
      (stands : Represents around.layout known g world.heap world.left core.blocks core.statics) (left : world.left ≡ core.steps)
      (room : length w.body.types + length new ≤ length core.vars) (inside : place.variable < length w.body.types) (below : AllBelow (length w.body.types) (a ∷ b ∷ [])) where
    abbrev Here : State
    Here = At (dict_ops ++ (key_ops ++ (calls ∷ fetches ∷ (back.ops ++ (puts ∷ rest))))) e frames core

    abbrev Answered : List Meant → Answer → Type 0
    Answered vs answer = Follows 0 known around place p arguments Here rest e frames core g raised (references world.heap vs) (length w.body.types) world answer

    abbrev Done : List Meant → Type 0
    Done vs = Answered vs (meant_op known.program w.found.covered (row.Index literal) vs world)

    has_there : HasAll p around.layout numbers raised core (there_asks around a w.found.covered) w.found
    has_there = has_first p around numbers raised core (there_asks around a w.found.covered) (Make looks ∷ Make reads ∷ []) w.found has

    has_graphs : HasAll p around.layout numbers raised core (Make looks ∷ Make reads ∷ []) found_first
    has_graphs = has_more p around numbers raised core (there_asks around a w.found.covered) (Make looks ∷ Make reads ∷ []) w.found has

    all_behind : key_ops ++ (behind ++ rest) ≡ key_ops ++ (calls ∷ fetches ∷ (back.ops ++ (puts ∷ rest)))
    all_behind = ap (λ l. key_ops ++ (calls ∷ fetches ∷ l)) (append_assoc back.ops (puts ∷ []) rest)

    dict_missing : (v u : Meant) → Gone kind.MaybeDict a.element (operand core.vars a.x) u → Done (u ∷ v ∷ [])
    dict_missing v u gone = subst (λ u. Done (u ∷ v ∷ [])) (sym gone.high)
        (subst (λ l. Follows 0 known around place p arguments (At (dict_ops ++ l) e frames core) rest e frames core g raised (references world.heap (Nothing ∷ v ∷ [])) (length w.body.types) world (failure w.found.covered.attribute 9 fail.Attribute world)) (append_assoc key_ops behind rest ∙ all_behind)
        ((r known around a b n m is w).misses 0 known place p numbers raised arguments (key_ops ++ behind) rest e frames core core g (references world.heap (Nothing ∷ v ∷ [])) (length w.body.types) world has_there gone.may gone.low))

    module _ (v u : Meant) (held : Holds around.layout known g b.element (operand core.vars b.x) v) (found_dict : Dicting around.layout known g a.element (operand core.vars a.x) u) (there : is_indexed m ≡ true → IsThere v) where
      home : slice_get g.homes found_dict.i ≡ Some (record { sort = DictOf n; head = operand core.vars a.x })
      home = subst (λ k. slice_get g.homes found_dict.i ≡ Some (record { sort = DictOf k; head = operand core.vars a.x })) (ap pointed (sym found_dict.typed ∙ is.dict.typed)) found_dict.home

      went : Arrived known around a b n m is w p arguments (calls ∷ fetches ∷ (back.ops ++ (puts ∷ rest))) e frames core
      went = arrives known around a b n m is w p numbers raised arguments core core g world has_there stands (omega (arith, room, m1_is, new_long)) below.0 below.1.0 found_dict.i home v held (calls ∷ fetches ∷ (back.ops ++ (puts ∷ rest))) e frames

      abbrev mid : Core
      mid = went.mid

      abbrev head : Value
      head = operand core.vars a.x

      abbrev x : Value
      x = operand core.vars b.x

      stands_mid : Represents around.layout known g world.heap world.left mid.blocks mid.statics
      stands_mid = subst (λ (c : Core). Represents around.layout known g world.heap world.left c.blocks c.statics) (sym went.passed.memory) stands

      d : DictAt around.layout known g world.heap mid.blocks mid.statics m found_dict.i head
      d = stands_mid.dicts n found_dict.i head m home is.dict.mapping

      abbrev at : Option ℕ
      at = position_from is_equal 0 (keys_of d.pairs) v

      same : operands mid.vars (ready_x ∷ ready_y ∷ []) ≡ head ∷ as_key m x ∷ []
      same = ap (λ q. q ∷ operand mid.vars ready_y ∷ []) went.dict ∙ ap (λ q. head ∷ q ∷ []) went.key

      head_set : is_unset head ≡ false
      head_set = found_set mid.blocks mid.statics head _ d.head_is

      set : any_unset (head ∷ as_key m x ∷ []) ≡ false
      set = ap (λ q. q || (is_unset (as_key m x) || false)) head_set ∙ ap (λ q. q || false) (as_item_set m.key (stored_key m) x (held_set stands held))

      looked : Enters p arguments number (head ∷ as_key m x ∷ []) mid (raised 7) at
      looked = entry_found around.layout known p numbers raised arguments n number m core mid g world.heap world.left found_dict.i head x v is.dict.mapping is.keys structs has_graphs.0 stands_mid d (record { held = stays_held is.stays held; there = there }) (still_so m core mid went.passed.memory)

      meant : meant_op known.program w.found.covered (row.Index literal) (Ref found_dict.i ∷ v ∷ []) world ≡ if_some no_key (value_at v d.pairs) give world
      meant = ap (λ o. index_object w.found.covered v o world) d.object

      abbrev vs : List Meant
      vs = Ref found_dict.i ∷ v ∷ []

      -- a key that is missing
      raises : at ≡ None → Answered vs (Throws 7 world)
      raises none = behind_all 0 known around place p arguments rest e frames core g raised (references world.heap vs) (length w.body.types) world went.passed went.way (Throws 7 world) tt
          (subst (λ l. Threw p arguments (At (calls ∷ fetches ∷ l) e frames mid) rest e frames mid (raised 7) (length w.body.types) world world) (append_assoc back.ops (puts ∷ []) rest) (throws_at same set (fetches ∷ (back.ops ++ puts ∷ [])) rest (subst (Enters p arguments number (head ∷ as_key m x ∷ []) mid (raised 7)) none looked)))

      -- a key that is there
      module _ (i : ℕ) (is_at : at ≡ Some i) (all : Arrays around.layout known g mid.blocks mid.statics m found_dict.i d.pairs d.places d.one d.two) where
        abbrev it : Sought v d.pairs i
        it = sought v d.pairs i is_at

        few : length d.pairs ≤ d.places
        few = entries_few around.layout known p arguments number m mid g world.heap found_dict.i head v (structs.dicts n m is.dict.mapping) d all

        long : length (map (as_item m.value (stored_value m)) all.values ++ all.spare_values) ≡ d.places
        long = values_long around.layout known p arguments number m mid g world.heap found_dict.i head v (structs.dicts n m is.dict.mapping) d all

        worth : KeyAt around.layout known g (known.items m.dict) (as_item m.value (stored_value m)) (map (as_item m.value (stored_value m)) all.values ++ all.spare_values) (values_of d.pairs) i
        worth = value_stands around.layout known m mid g world.heap found_dict.i head d all i it.inside

        abbrev y : Value
        y = worth.value

        abbrev kept : Value
        kept = as_item m.value (stored_value m) y

        value_held : Holds around.layout known g (Some value) y it.value
        value_held = subst (λ o. Holds around.layout known g o y it.value) values.value_is (subst (λ u. Holds around.layout known g (known.items m.dict) y u) (same_some worth.meant it.value (sym worth.is ∙ it.is)) worth.held)

        value_of : IsOf m.value y
        value_of = subst (λ t. IsOf t y) (sym value_typed) (is_of stay value_held)

        abbrev placed : Core
        placed = after mid m1 (Word (pos i))

        placed_long : length placed.vars ≡ length core.vars
        placed_long = length-set mid.vars m1 (Word (pos i)) ∙ went.passed.room

        r_below : IsBelow m1 ready_x
        r_below = below_more ready_x (length w.body.types + length dict_new) m1 (omega (arith, m1_is)) ((r known around a b n m is w).inside below.0)

        dict_placed : operand placed.vars ready_x ≡ head
        dict_placed = operand_kept (sets_more {below = m1} {core = mid} m1 (Word (pos i)) (omega arith) none_passed) ready_x r_below ∙ went.dict

        same_placed : operands placed.vars (ready_x ∷ Var m1 ∷ []) ≡ head ∷ Word (pos i) ∷ []
        same_placed = ap (λ q. q ∷ operand placed.vars (Var m1) ∷ []) dict_placed ∙ ap (λ q. head ∷ q ∷ []) (is_set_at mid m1 (Word (pos i)) (let q = went.passed.room in omega (arith, room, m1_is, new_long, q)))

        fetched : (waits : List Frame) → Comes p arguments (Calling value_number (head ∷ Word (pos i) ∷ []) waits placed) [] kept waits placed
        fetched = gives_worth around.layout known p arguments n value_number m placed g world.heap world.left found_dict.i head is.dict.mapping (structs.dicts n m is.dict.mapping) has_graphs.1.0 stands_mid d all i it.inside few long worth

        abbrev read_it : Core
        read_it = after placed m2 kept

        read_long : length read_it.vars ≡ length core.vars
        read_long = length-set placed.vars m2 kept ∙ placed_long

        read_passed : Passed (length w.body.types) core read_it
        read_passed = sets_more m2 kept (omega (arith, m1_is, m2_is)) (sets_more m1 (Word (pos i)) (omega (arith, m1_is)) went.passed)

        restores : Went p arguments (At (back.ops ++ (puts ∷ rest)) e frames read_it) (puts ∷ rest) e frames read_it (length body_read.types) back.y y
        restores = back.enters p arguments (puts ∷ rest) e frames read_it y (omega (arith, room, m1_is, new_long, body_long, read_long)) (is_set_at placed m2 kept (omega (arith, room, m1_is, m2_is, new_long, placed_long))) value_of

        gives_it : Answered vs (Gives it.value world)
        gives_it = sets_last (references world.heap vs) (length w.body.types) restores.mid y it.value stands left (both_passed (omega (arith, body_long, m1_is)) read_passed restores.passed) (omega (arith, room, inside))
            (on went.way (on (calls_at same set (subst (Enters p arguments number (head ∷ as_key m x ∷ []) mid (raised 7)) is_at looked)) (on (calls_at same_placed (ap (λ q. q || (false || false)) head_set) fetched) (on restores.way (sets y restores.is (held_set stands_mid value_held))))))
            (stays_held stay value_held)

      by_place : (o : Option ℕ) → at ≡ o → Answered vs (if_some no_key (value_at v d.pairs) give world)
      by_place None none = subst (λ o. Answered vs (if_some no_key o give world)) (sym (unsought v d.pairs 0 none)) (raises none)
      by_place (Some i) is_at = by d.arrays
        where
          by : Lacks around.layout known g mid.blocks mid.statics m found_dict.i d.pairs d.places d.one d.two ⊎ Arrays around.layout known g mid.blocks mid.statics m found_dict.i d.pairs d.places d.one d.two → Answered vs (if_some no_key (value_at v d.pairs) give world)
          by (inl l) = absurd (let q = ap length l.empty in let k = (sought v d.pairs i is_at).inside in omega (arith, q, k))
          by (inr all) = subst (λ o. Answered vs (if_some no_key o give world)) (sym (sought v d.pairs i is_at).high) (gives_it i is_at all)

      there_so : Done (u ∷ v ∷ [])
      there_so = subst (λ u. Done (u ∷ v ∷ [])) (sym found_dict.high) (subst (Answered vs) (sym meant) (by_place at refl))

    either : (v u : Meant) → Holds around.layout known g b.element (operand core.vars b.x) v → (is_indexed m ≡ true → IsThere v) → Dicting around.layout known g a.element (operand core.vars a.x) u ⊎ Gone kind.MaybeDict a.element (operand core.vars a.x) u → Done (u ∷ v ∷ [])
    either v u held there (inl it) = there_so v u held it there
    either v u held there (inr gone) = dict_missing v u gone

    follow : (vs : List Meant) → Given known around g core (a ∷ b ∷ []) vs → SecondIsThere m world vs → Follows 0 known around place p arguments (At ((dict_ops ++ (key_ops ++ behind)) ++ rest) e frames core) rest e frames core g raised (references world.heap vs) (length w.body.types) world (meant_op known.program w.found.covered (row.Index literal) vs world)
    follow [] given good = absurd given
    follow (u ∷ []) given good = absurd given.1
    follow (u ∷ v ∷ []) given good =
        subst (λ l. Follows 0 known around place p arguments (At l e frames core) rest e frames core g raised (references world.heap (u ∷ v ∷ [])) (length w.body.types) world (meant_op known.program w.found.covered (row.Index literal) (u ∷ v ∷ []) world))
        (ap (λ l. dict_ops ++ l) (sym (append_assoc key_ops behind rest ∙ all_behind)) ∙ sym (append_assoc dict_ops (key_ops ++ behind) rest))
        (either v u given.1.0 good (dict_or_none (sym (same_kind (kind_of a)) ∙ is.dict.dicts) given.0))
    follow (u ∷ v ∷ s ∷ more) given good = absurd given.1.1

  read_done : IsTold (SecondIsThere m) known around (row.Index literal) w.found.covered asks place (a ∷ b ∷ []) w
  read_done = record {
    ops = dict_ops ++ (key_ops ++ behind);
    new = new;
    asked = ap (λ (r : Writing). r.found) is_written ∙ sym (asked_both (there_asks around a w.found.covered) (Make looks ∷ Make reads ∷ []) w.found);
    written = ap (λ (r : Writing). r.body.ops) is_written ∙ append_assoc body_read.ops back.ops (puts ∷ []) ∙ five_parts w.body.ops dict_ops key_ops calls fetches (back.ops ++ puts ∷ []);
    types = ap (λ (r : Writing). r.body.types) is_written ∙ five_parts w.body.types dict_new key_new type.Signed (stored_value m) back.new;
    follows = λ p numbers raised arguments rest e frames core g world vs structs has stands left room inside below given good. follow p numbers raised arguments rest e frames core g world structs has stands left room inside below vs given good;
  }

pub values_are_read : ValuesAreRead
values_are_read known around place a b w literal n m value is values stay = read_done known around place a b w literal n m value is values stay

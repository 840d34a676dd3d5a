-- The value of a key is got, or another value.
use Rattle.std.proofs.Common.{◌≡◌, None, ◌<◌, ◌≤◌, ℕ, ◌+◌, ◌⊎◌, inl, inr, true, false, ◌||◌, List, [], ◌∷◌, ◌++◌, length, map, Option, Some, refl, sym, ap, ◌∙◌, subst, arith, append_assoc, length-append}
use Rattle.std.specs.Prelude.{slice_get, unwrap_or}
use Rattle.rpy_base.specs.declared.outcome.FailName.TheVariants as fail
use Rattle.csub_tree.specs.State.{Value, Core}
use Rattle.csub_tree.specs.Operation.{is_unset}
use Rattle.csub_tree.specs.Statement.{operand, operands, any_unset}
use Rattle.csub_tree.specs.declared.tree.COperand.{COperand}
use Rattle.csub_tree.specs.declared.tree.COperand.TheVariants.{Var}
use Rattle.rpy_tree.specs.Value.{Value as Meant, Mapped, Object}
use Rattle.rpy_meaning.specs.declared.row.RowOp.{RowOp}
use Rattle.rpy_meaning.specs.Compare.{is_equal}
use Rattle.rpy_meaning.specs.Sequences.{value_at}
use Rattle.rpy_meaning.specs.World.{World, Answer, Gives, failure}
use Rattle.ll_code.specs.State.{Frame, State, Calling, At}
use Rattle.ll_code.specs.declared.program.LlType.{LlType}
use Rattle.ll_code.specs.declared.program.LlType.TheVariants as type
use Rattle.ll_code.specs.declared.program.LlOp.{LlOp}
use Rattle.ll_code.specs.declared.program.LlOp.TheVariants as op
use Rattle.ll_code.specs.declared.program.LlExit.{LlExit}
use Rattle.ll_code.specs.declared.program.LlProgram.{LlProgram}
use Rattle.ll_build.specs.declared.needs.Numbers.{Numbers}
use Rattle.ll_leads.proofs.Ways.{Comes, on}
use Rattle.rtyper_layout.specs.declared.dicts.Mapping.{Mapping}
use Rattle.rtyper_layout.specs.declared.kind.Kind.TheVariants as kind
use Rattle.rtyper_layout.specs.Dicts.{is_indexed, stored_key, stored_value}
use Rattle.rtyper_data.specs.declared.found.Found.{Found}
use Rattle.rtyper_data.specs.declared.small.Small.{Small}
use Rattle.rtyper_data.specs.declared.small.Small.TheVariants as small
use Rattle.rtyper_data.specs.declared.small.Keyed.TheVariants as keyed
use Rattle.rtyper_data.specs.Converting.{by_small}
use Rattle.rtyper_data.specs.Finding.{small_number}
use Rattle.rtyper_data.specs.Seen.{Around, Operand, Place, type_at, set, Writing, writing}
use Rattle.rtyper_dict.specs.declared.parts.DictShape.{DictShape}
use Rattle.rtyper_dict.specs.Lowering.{get as get_op, get_as, get_to, lower_dict_op, other_value}
use Rattle.rtyper_dict.specs.Operands.{pointed}
use Rattle.rtyper_dict.specs.Parts.{dict_at, keyed_number, shape_of}
use Rattle.list_shape.specs.Shapes.{taking}
use Rattle.lower_laws.specs.Asked.{Make, all_asked}
use Rattle.lower_laws.specs.Values.{IsBelow}
use Rattle.lower_laws.proofs.Doing.{after}
use Rattle.lower_laws.proofs.Single.{sets}
use Rattle.list_laws.proofs.Indexed.{asked_both}
use Rattle.dict_op_laws.specs.Dicts.{there_asks}
use Rattle.object_laws.specs.Dicts.{Arrays, DictAt, Lacks, as_item, keys_of, values_of}
use Rattle.object_laws.specs.Done.{Follows, HasLayout}
use Rattle.object_laws.specs.Ghost.{Ghost, DictOf}
use Rattle.object_laws.specs.Known.{Known}
use Rattle.object_laws.specs.Represents.{Represents}
use Rattle.object_laws.specs.Values.{Holds}
use Rattle.object_laws.proofs.Blocks.{found_set}
use Rattle.object_laws.proofs.Passing.{Passed, sets_more, sets_last, is_set_at, calls_at}
use Rattle.object_laws.proofs.Valued.{Dicting, Gone, held_set, stays_held, stays_there, stays_typed}
use Rattle.dict_laws.specs.Keys.{position_from}
use Rattle.dict_op_laws.specs.Asked.{HasKeyed}
use Rattle.dict_find_laws.specs.Asked.{HasAll, HasFind, HasGet, valued}
use Rattle.dict_find_laws.proofs.Hashed.{still_so}
use Rattle.dict_find_laws.specs.Finding.{StandsStill, HasKeys, IsKey, as_key, place_word}
use Rattle.dict_find_laws.specs.Keys.{IsThere}
use Rattle.dict_find_laws.specs.Lookups.{HasValues, IsAskedFor, get_asks}
use Rattle.dict_find_laws.proofs.Arriving.{Arrived, arrives, key_written, first, ops0, own_number, r, s, types0, types_long, w1, w2}
use Rattle.dict_find_laws.proofs.Found.{keys_are_found}
use Rattle.ann_element.specs.declared.element.Element.{Element}
use Rattle.rpy_tree.specs.Value.{Heap}
use Rattle.rtyper_layout.specs.declared.layout.Layout.{Layout}
use Rattle.rtyper_layout.specs.Layout.{mapping_at}
use Rattle.rtyper_layout.specs.Types.{type_of as element_type}
use Rattle.rtyper_dict.specs.Graphs.{dict_graph}
use Rattle.lower_laws.proofs.Stayed.{field_is}
use Rattle.object_laws.specs.Staying.{Stays}
use Rattle.dict_find_laws.proofs.Got.{back, body, get_is, gives_other, gives_value, valued_is, whole}
use Rattle.dict_find_laws.proofs.Shaped.{shape_is as shape_of_mapping}
use Rattle.rtyper_dict.specs.Listing.{get, get_graph}
use Rattle.dict_find_laws.proofs.Restored.{IsOf, is_of}
use Rattle.dict_find_laws.proofs.Keyed.{KeyAt}
use Rattle.dict_find_laws.proofs.Places.{entries_few, values_long}
use Rattle.dict_find_laws.proofs.Sought.{Sought, sought, unsought}
use Rattle.dict_find_laws.proofs.Worth.{as_item_set, gives_worth, value_stands}
use Rattle.dict_find_laws.proofs.Read.{same_some}
use Rattle.dict_find_laws.proofs.Stage.{has_first, has_more}

-- ---- the graph

module _ (layout : Layout) (known : Known) (p : LlProgram) (numbers : Numbers) (raised : ℕ → Value) (args : List (List ℕ)) (n f : ℕ) (m : Mapping) (t : LlType) (before core : Core) (g : Ghost) (heap : Heap) (left i : ℕ) (head x other : Value) (v : Meant)
    (mapping : mapping_at layout.mappings n ≡ Some m) (keys : HasKeys layout known m) (typed : m.value ≡ t) (structs : HasLayout p layout) (asked : HasGet p layout numbers raised before n t f) (stands : Represents layout known g heap left core.blocks core.statics)
    (d : DictAt layout known g heap core.blocks core.statics m i head) (key : IsKey layout known g m x v) (other_set : is_unset other ≡ false) (still : StandsStill m before core) where
  abbrev reads : ℕ
  reads = (keyed_number (keyed.Value m.dict) asked.made).0

  abbrev finds : ℕ
  finds = (keyed_number (keyed.Find m.dict) (keyed_number (keyed.Value m.dict) asked.made).1).0

  shape : dict_at layout n ≡ whole m t
  shape = shape_of_mapping layout n m mapping

  has_reads : HasKeyed p layout (keyed.Value n) reads
  has_reads = subst (λ (s : DictShape). HasKeyed p layout (keyed.Value n) (keyed_number (keyed.Value s.dict) asked.made).0) shape asked.reads

  has_finds : HasFind p layout numbers raised before n finds
  has_finds = subst (λ found. HasFind p layout numbers raised before n (keyed_number (keyed.Find m.dict) found).0) (valued_is m t layout asked.made typed)
      (subst (λ (s : DictShape). HasFind p layout numbers raised before n (keyed_number (keyed.Find s.dict) (valued layout s t asked.made)).0) shape asked.finds)

  graph : slice_get p.graphs f ≡ Some (get_graph finds (back m t reads).y t (body m t reads))
  unfolding dict_graph
  graph = asked.graph ∙ ap (λ s. Some (get layout s t asked.made).0) shape ∙ ap Some (get_is m t layout asked.made typed)

  head_set : is_unset head ≡ false
  head_set = found_set core.blocks core.statics head _ d.head_is

  x_set : is_unset (as_key m x) ≡ false
  x_set = as_item_set m.key (stored_key m) x (held_set stands key.held)

  found_at : (o : Option ℕ) → position_from is_equal 0 (keys_of d.pairs) v ≡ o → (function block at : ℕ) (vars : List Value) (waits : List Frame)
      → Comes p args (Calling finds (head ∷ as_key m x ∷ []) waits (record core { function = function; block = block; at = at; vars = vars })) [] (place_word o) waits (record core { function = function; block = block; at = at; vars = vars })
  found_at o e function block at vars waits =
      let it = keys_are_found layout known p numbers raised args n finds m before (record core { function = function; block = block; at = at; vars = vars }) g heap left i head x v mapping keys structs has_finds stands d key still waits in
      subst (λ o. Comes p args (Calling finds (head ∷ as_key m x ∷ []) waits (record core { function = function; block = block; at = at; vars = vars })) [] (place_word o) waits (record core { function = function; block = block; at = at; vars = vars })) e
      (record { end = it.end; same = it.same; leads = it.leads })

  -- a key that is missing
  pub other_got : position_from is_equal 0 (keys_of d.pairs) v ≡ None → (waits : List Frame) → Comes p args (Calling f (head ∷ as_key m x ∷ other ∷ []) waits core) [] other waits core
  other_got none = gives_other p args f finds reads m t graph core head (as_key m x) other head_set x_set other_set (found_at None none)

  -- one that is there
  pub value_got : (i2 : ℕ) → position_from is_equal 0 (keys_of d.pairs) v ≡ Some i2 → (lt : i2 < length d.pairs) (a : Arrays layout known g core.blocks core.statics m i d.pairs d.places d.one d.two)
      → (it : KeyAt layout known g (known.items m.dict) (as_item m.value (stored_value m)) (map (as_item m.value (stored_value m)) a.values ++ a.spare_values) (values_of d.pairs) i2) → IsOf m.value it.value
      → (waits : List Frame) → Comes p args (Calling f (head ∷ as_key m x ∷ other ∷ []) waits core) [] it.value waits core
  value_got i2 is_at lt a it of = gives_value p args f finds reads m t graph core head (as_key m x) other head_set x_set other_set i2 it.value (held_set stands it.held) of
      (λ function block at vars waits. gives_worth layout known p args n reads m (record core { function = function; block = block; at = at; vars = vars }) g heap left i head mapping (structs.dicts n m mapping) has_reads stands d a i2 lt
      (entries_few layout known p args f m core g heap i head v (structs.dicts n m mapping) d a) (values_long layout known p args f m core g heap i head v (structs.dicts n m mapping) d a) it waits)
      (found_at (Some i2) is_at)

-- ---- the operation

same_pairs : (ps qs : List (Meant × Meant)) → Some (Mapped ps) ≡ Some (Mapped qs) → ps ≡ qs
same_pairs ps qs e = cc

pub no_void : (around : Around) (place : Place) (d : DictShape) (x : COperand) (b : Operand) (other : Option Operand) (t : LlType) (w : Writing) → (t ≡ type.Void → ⊥) → get_to around place d x b other t w ≡ get_as around place d x b other t w
no_void around place d x b other type.Void w there = absurd (there refl)
no_void around place d x b other type.Signed w there = refl
no_void around place d x b other type.Char w there = refl
no_void around place d x b other type.Bool w there = refl
no_void around place d x b other type.Fn w there = refl
no_void around place d x b other (type.Ptr n) w there = refl

module _ (known : Known) (around : Around) (place : Place) (a b : Operand) (w : Writing) (n : ℕ) (m : Mapping) (value : Element) (is : IsAskedFor around known a b n m) (values : HasValues around known m value) (stay : Stays around.layout known (Some value) place.element) where
  abbrev ready_x : COperand
  ready_x = (r known around a b n m is w).x

  abbrev pub dict_ops : List LlOp
  dict_ops = (r known around a b n m is w).ops

  abbrev dict_new : List LlType
  dict_new = (r known around a b n m is w).new

  abbrev ready_y : COperand
  ready_y = (s known around a b n m is w).y

  abbrev pub key_ops : List LlOp
  key_ops = (s known around a b n m is w).ops

  abbrev key_new : List LlType
  key_new = (s known around a b n m is w).new

  abbrev before : List LlType
  before = types0 known around a b n m is w

  abbrev found_first : Found
  found_first = first known around a b n m is w

  abbrev t : LlType
  t = type_at around place

  abbrev looks : Small
  looks = small.Keyed (keyed.Get n t)

  abbrev number : ℕ
  number = (small_number looks found_first).0

  abbrev m1 : ℕ
  m1 = length before

  abbrev puts : LlOp
  puts = op.Set place.variable (Var m1)

  abbrev found_last : Found
  found_last = (small_number looks found_first).1

  value_there : element_type around.layout value ≡ type.Void → ⊥
  value_there h = stays_there stay (sym (stays_typed stay) ∙ h)

  value_typed : m.value ≡ element_type around.layout value
  value_typed = values.typed ∙ field_is (element_type around.layout value) value_there

  as_placed : m.value ≡ t
  as_placed = value_typed ∙ stays_typed stay

  abbrev pub asked_for : COperand → ℕ → Writing
  asked_for o k = set place.variable (by_small (small.Keyed (keyed.Get k t)) t (ready_x ∷ ready_y ∷ o ∷ []) (w2 known around a b n m is w))

  -- what is written, where this is the other value
  pub is_got : (other : Option Operand) (o : COperand) → other_value around t other (w2 known around a b n m is w) ≡ (o, w2 known around a b n m is w) → get_op around place (shape_of m) a b other w ≡ asked_for o n
  unfolding get_op get_as shape_of
  is_got other o same =
      ap (λ made. taking made (λ x next. get_to around place (shape_of m) x b other t next)) (r known around a b n m is w).written
      ∙ no_void around place (shape_of m) ready_x b other t (w1 known around a b n m is w) (stays_there stay)
      ∙ ap (λ made. taking made (λ k next. taking (other_value around t other next) (λ v last. set place.variable (by_small (small.Keyed (keyed.Get m.dict t)) t (ready_x ∷ k ∷ v ∷ []) last)))) (key_written known around a b n m is w)
      ∙ ap (λ made. taking made (λ v last. set place.variable (by_small (small.Keyed (keyed.Get m.dict t)) t (ready_x ∷ ready_y ∷ v ∷ []) last))) same
      ∙ ap (asked_for o) (own_number around.layout.mappings n m is.dict.mapping)

  m1_is : m1 ≡ length w.body.types + length dict_new + length key_new
  m1_is = types_long known around a b n m is w

  module _ (o : COperand) where
    abbrev pub calls : LlOp
    calls = op.Call (Some m1) number (ready_x ∷ ready_y ∷ o ∷ [])

    written_so : asked_for o n ≡ writing found_last (record { types = before ++ t ∷ []; ops = (ops0 known around a b n m is w ++ calls ∷ []) ++ puts ∷ [] })
    unfolding by_small
    written_so = refl

    abbrev pub behind : List LlOp
    behind = calls ∷ puts ∷ []

    abbrev pub new : List LlType
    new = dict_new ++ (key_new ++ t ∷ [])

    new_long : length new ≡ length dict_new + length key_new + 1
    new_long = (let x = length-append dict_new (key_new ++ t ∷ []) in let y = length-append key_new (t ∷ []) in omega (arith, x, y))

    module _ (site : Option ℕ) (args : List Operand) (p : LlProgram) (numbers : Numbers) (raised : ℕ → Value) (arguments : List (List ℕ)) (rest : List LlOp) (e : LlExit) (frames : List Frame) (core : Core) (g : Ghost) (world : World)
        (structs : HasLayout p around.layout) (has : HasAll p around.layout numbers raised core (get_asks around place a n w.found.covered) w.found)
        (stands : Represents around.layout known g world.heap world.left core.blocks core.statics) (left : world.left ≡ core.steps)
        (room : length w.body.types + length new ≤ length core.vars) (inside : place.variable < length w.body.types) (a_below : IsBelow (length w.body.types) a.x) (b_below : IsBelow (length w.body.types) b.x) (most : ℕ) where
      abbrev pub Here : State
      Here = At (dict_ops ++ (key_ops ++ (behind ++ rest))) e frames core

      abbrev Answered : Answer → Type 0
      Answered answer = Follows 0 known around place p arguments Here rest e frames core g raised most (length w.body.types) world answer

      has_there : HasAll p around.layout numbers raised core (there_asks around a w.found.covered) w.found
      has_there = has_first p around numbers raised core (there_asks around a w.found.covered) (Make looks ∷ []) w.found has

      has_graph : HasGet p around.layout numbers raised core n t number
      has_graph = (has_more p around numbers raised core (there_asks around a w.found.covered) (Make looks ∷ []) w.found has).0

      pub no_dict : (u : Meant) → Gone kind.MaybeDict a.element (operand core.vars a.x) u → Answered (failure w.found.covered.attribute 9 fail.Attribute world)
      no_dict u gone = subst (λ l. Follows 0 known around place p arguments (At (dict_ops ++ l) e frames core) rest e frames core g raised most (length w.body.types) world (failure w.found.covered.attribute 9 fail.Attribute world)) (append_assoc key_ops behind rest)
          ((r known around a b n m is w).misses 0 known place p numbers raised arguments (key_ops ++ behind) rest e frames core core g most (length w.body.types) world has_there gone.may gone.low)

      module _ (v u : Meant) (held : Holds around.layout known g b.element (operand core.vars b.x) v) (found_dict : Dicting around.layout known g a.element (operand core.vars a.x) u) (there : is_indexed m ≡ true → IsThere v)
          (z : Value) (other : Meant) (z_is : (mid : Core) → Passed (length w.body.types) core mid → operand mid.vars o ≡ z) (z_held : Holds around.layout known g place.element z other) where
        home : slice_get g.homes found_dict.i ≡ Some (record { sort = DictOf n; head = operand core.vars a.x })
        home = subst (λ k. slice_get g.homes found_dict.i ≡ Some (record { sort = DictOf k; head = operand core.vars a.x })) (ap pointed (sym found_dict.typed ∙ is.dict.typed)) found_dict.home

        went : Arrived known around a b n m is w p arguments (behind ++ rest) e frames core
        went = arrives known around a b n m is w p numbers raised arguments core core g world has_there stands (omega (arith, room, m1_is, new_long)) a_below b_below found_dict.i home v held (behind ++ rest) e frames

        abbrev mid : Core
        mid = went.mid

        abbrev head : Value
        head = operand core.vars a.x

        abbrev x : Value
        x = operand core.vars b.x

        stands_mid : Represents around.layout known g world.heap world.left mid.blocks mid.statics
        stands_mid = subst (λ (c : Core). Represents around.layout known g world.heap world.left c.blocks c.statics) (sym went.passed.memory) stands

        d : DictAt around.layout known g world.heap mid.blocks mid.statics m found_dict.i head
        d = stands_mid.dicts n found_dict.i head m home is.dict.mapping

        abbrev at : Option ℕ
        at = position_from is_equal 0 (keys_of d.pairs) v

        same : operands mid.vars (ready_x ∷ ready_y ∷ o ∷ []) ≡ head ∷ as_key m x ∷ z ∷ []
        same = ap (λ q. q ∷ operand mid.vars ready_y ∷ operand mid.vars o ∷ []) went.dict ∙ ap (λ q. head ∷ q ∷ operand mid.vars o ∷ []) went.key ∙ ap (λ q. head ∷ as_key m x ∷ q ∷ []) (z_is mid went.passed)

        z_set : is_unset z ≡ false
        z_set = held_set stands z_held

        set_all : any_unset (head ∷ as_key m x ∷ z ∷ []) ≡ false
        set_all = ap (λ q. q || (is_unset (as_key m x) || (is_unset z || false))) (found_set mid.blocks mid.statics head _ d.head_is) ∙ ap (λ q. q || (is_unset z || false)) (as_item_set m.key (stored_key m) x (held_set stands held)) ∙ ap (λ q. q || false) z_set

        key_is : IsKey around.layout known g m x v
        key_is = record { held = stays_held is.stays held; there = there }

        -- the place takes what the call gives
        takes : (y : Value) (answer : Meant) → is_unset y ≡ false → Holds around.layout known g place.element y answer → ((waits : List Frame) → Comes p arguments (Calling number (head ∷ as_key m x ∷ z ∷ []) waits mid) [] y waits mid) → Answered (Gives answer world)
        takes y answer y_set y_held comes =
            let wide = went.passed.room in
            sets_last most (length w.body.types) (after mid m1 y) y answer stands left (sets_more m1 y (omega (arith, m1_is)) went.passed) (omega (arith, room, inside))
            (on went.way (on (calls_at same set_all comes) (sets y (is_set_at mid m1 y (omega (arith, room, m1_is, new_long, wide))) y_set))) y_held

        other_taken : at ≡ None → Answered (Gives other world)
        other_taken none = takes z other z_set z_held (other_got around.layout known p numbers raised arguments n number m t core mid g world.heap world.left found_dict.i head x z v is.dict.mapping is.keys as_placed structs has_graph stands_mid d key_is z_set (still_so m core mid went.passed.memory) none)

        module _ (i : ℕ) (is_at : at ≡ Some i) (all : Arrays around.layout known g mid.blocks mid.statics m found_dict.i d.pairs d.places d.one d.two) where
          abbrev it : Sought v d.pairs i
          it = sought v d.pairs i is_at

          worth : KeyAt around.layout known g (known.items m.dict) (as_item m.value (stored_value m)) (map (as_item m.value (stored_value m)) all.values ++ all.spare_values) (values_of d.pairs) i
          worth = value_stands around.layout known m mid g world.heap found_dict.i head d all i it.inside

          value_held : Holds around.layout known g (Some value) worth.value it.value
          value_held = subst (λ o. Holds around.layout known g o worth.value it.value) values.value_is (subst (λ u. Holds around.layout known g (known.items m.dict) worth.value u) (same_some worth.meant it.value (sym worth.is ∙ it.is)) worth.held)

          value_of : IsOf m.value worth.value
          value_of = subst (λ t. IsOf t worth.value) (sym value_typed) (is_of stay value_held)

          value_taken : Answered (Gives it.value world)
          value_taken = takes worth.value it.value (held_set stands_mid value_held) (stays_held stay value_held)
              (value_got around.layout known p numbers raised arguments n number m t core mid g world.heap world.left found_dict.i head x z v is.dict.mapping is.keys as_placed structs has_graph stands_mid d key_is z_set (still_so m core mid went.passed.memory) i is_at it.inside all worth value_of)

        by_place : (o : Option ℕ) → at ≡ o → Answered (Gives (unwrap_or (value_at v d.pairs) other) world)
        by_place None none = subst (λ o. Answered (Gives (unwrap_or o other) world)) (sym (unsought v d.pairs 0 none)) (other_taken none)
        by_place (Some i) is_at = by d.arrays
          where
            by : Lacks around.layout known g mid.blocks mid.statics m found_dict.i d.pairs d.places d.one d.two ⊎ Arrays around.layout known g mid.blocks mid.statics m found_dict.i d.pairs d.places d.one d.two → Answered (Gives (unwrap_or (value_at v d.pairs) other) world)
            by (inl l) = absurd (let q = ap length l.empty in let k = (sought v d.pairs i is_at).inside in omega (arith, q, k))
            by (inr all) = subst (λ o. Answered (Gives (unwrap_or o other) world)) (sym (sought v d.pairs i is_at).high) (value_taken i is_at all)

        pub got_so : (f : Option Object → Answer) → ((pairs : List (Meant × Meant)) → f (Some (Mapped pairs)) ≡ Gives (unwrap_or (value_at v pairs) other) world) → Answered (f (slice_get world.heap found_dict.i))
        got_so f means = subst (λ o. Answered (f o)) (sym d.object) (subst Answered (sym (means d.pairs)) (by_place at refl))

    module _ (o_op : RowOp) (site : Option ℕ) (args : List Operand) (l : lower_dict_op around o_op place args w ≡ asked_for o n) where
      pub found_so : (lower_dict_op around o_op place args w).found ≡ all_asked (get_asks around place a n w.found.covered) w.found
      found_so = ap (λ (r : Writing). r.found) (l ∙ written_so) ∙ sym (asked_both (there_asks around a w.found.covered) (Make looks ∷ []) w.found)

      pub ops_so : (lower_dict_op around o_op place args w).body.ops ≡ w.body.ops ++ (dict_ops ++ (key_ops ++ behind))
      ops_so = ap (λ (r : Writing). r.body.ops) (l ∙ written_so) ∙ append_assoc (ops0 known around a b n m is w) (calls ∷ []) (puts ∷ []) ∙ append_assoc (w.body.ops ++ dict_ops) key_ops behind ∙ append_assoc w.body.ops dict_ops (key_ops ++ behind)

      pub types_so : (lower_dict_op around o_op place args w).body.types ≡ w.body.types ++ new
      types_so = ap (λ (r : Writing). r.body.types) (l ∙ written_so) ∙ append_assoc (w.body.types ++ dict_new) key_new (t ∷ []) ∙ append_assoc w.body.types dict_new (key_new ++ t ∷ [])

  pub regrouped : (rest : List LlOp) (calls : LlOp) → dict_ops ++ (key_ops ++ ((calls ∷ puts ∷ []) ++ rest)) ≡ (dict_ops ++ (key_ops ++ (calls ∷ puts ∷ []))) ++ rest
  regrouped rest calls = ap (λ l. dict_ops ++ l) (sym (append_assoc key_ops (calls ∷ puts ∷ []) rest)) ∙ sym (append_assoc dict_ops (key_ops ++ (calls ∷ puts ∷ [])) rest)

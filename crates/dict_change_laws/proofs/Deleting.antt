-- An entry of a dict is deleted.
use Rattle.std.proofs.Common.{◌≡◌, ◌<◌, ◌≤◌, ℕ, ◌+◌, ◌*◌, ◌⊎◌, inl, inr, false, ◌||◌, List, [], ◌∷◌, ◌++◌, length, Option, Some, None, pos, refl, sym, ap, ◌∙◌, subst, arith, append_assoc, length-append}
use Rattle.std.specs.Prelude.{slice_get, slice_set, if◌then◌else◌}
use Rattle.std.proofs.lemmas.List.{length-set}
use Rattle.rpy_base.specs.declared.outcome.FailName.TheVariants as fail
use Rattle.csub_tree.specs.State.{Value, Unset, Word, Flag, Core}
use Rattle.csub_tree.specs.Operation.{is_unset}
use Rattle.csub_tree.specs.Statement.{operand, operands, any_unset}
use Rattle.csub_tree.specs.declared.tree.COperand.{COperand}
use Rattle.csub_tree.specs.declared.tree.COperand.TheVariants.{Var}
use Rattle.rpy_tree.specs.Value.{Value as Meant, Nothing, Ref, Mapped}
use Rattle.rpy_meaning.specs.declared.row.RowOp.TheVariants as row
use Rattle.rpy_meaning.specs.Compare.{is_equal}
use Rattle.rpy_meaning.specs.Operations.{op as meant_op}
use Rattle.rpy_meaning.specs.Sequences.{delete_object, has_key, without_key}
use Rattle.rpy_meaning.specs.World.{World, Answer, Gives, Throws, failure, no_key, set_object}
use Rattle.ll_code.specs.State.{Frame, State, Calling, At}
use Rattle.ll_code.specs.declared.program.LlType.{LlType}
use Rattle.ll_code.specs.declared.program.LlType.TheVariants as type
use Rattle.ll_code.specs.declared.program.LlOp.{LlOp}
use Rattle.ll_code.specs.declared.program.LlOp.TheVariants as op
use Rattle.ll_code.specs.declared.program.LlExit.{LlExit}
use Rattle.ll_code.specs.declared.program.LlProgram.{LlProgram}
use Rattle.ll_build.specs.declared.needs.Numbers.{Numbers}
use Rattle.ll_leads.proofs.Ways.{on}
use Rattle.rtyper_layout.specs.declared.dicts.Mapping.{Mapping}
use Rattle.rtyper_layout.specs.declared.kind.Kind.TheVariants as kind
use Rattle.rtyper_layout.specs.Dicts.{stored_key}
use Rattle.rtyper_layout.specs.Kinds.{kind_seen}
use Rattle.rtyper_data.specs.declared.found.Found.{Found}
use Rattle.rtyper_data.specs.declared.small.Small.{Small}
use Rattle.rtyper_data.specs.declared.small.Small.TheVariants as small
use Rattle.rtyper_data.specs.declared.small.Keyed.TheVariants as keyed
use Rattle.rtyper_data.specs.Converting.{by_small, default_operand, nothing_to}
use Rattle.rtyper_data.specs.Finding.{small_number}
use Rattle.rtyper_data.specs.Seen.{Around, Operand, Place, kind_of, Writing, writing}
use Rattle.rtyper_op.specs.Placing.{says_nothing}
use Rattle.rtyper_dict.specs.Lowering.{delete, lower_dict_op, of_dict, of_dict_or, of_first, of_two}
use Rattle.rtyper_dict.specs.Operands.{beside, done_by, pointed}
use Rattle.rtyper_dict.specs.Parts.{shape_of}
use Rattle.list_shape.specs.Shapes.{taking}
use Rattle.lower_laws.specs.Asked.{Ask, Make}
use Rattle.lower_laws.specs.Values.{AllBelow}
use Rattle.lower_laws.proofs.Doing.{after}
use Rattle.lower_laws.proofs.Typing.{place_of_none}
use Rattle.list_laws.proofs.Indexed.{asked_both}
use Rattle.dict_op_laws.specs.Dicts.{there_asks}
use Rattle.dict_op_laws.proofs.Lengths.{same_kind}
use Rattle.object_laws.specs.Dicts.{Arrays, DictAt, Lacks, keys_of}
use Rattle.object_laws.specs.Done.{Follows, HasLayout, items_in, references}
use Rattle.object_laws.specs.Ghost.{Ghost, DictOf}
use Rattle.object_laws.specs.Known.{Known}
use Rattle.object_laws.specs.Represents.{Represents}
use Rattle.object_laws.specs.Values.{Given, Holds, Alone}
use Rattle.object_laws.proofs.Blocks.{found_set}
use Rattle.object_laws.proofs.Growing.{grown_none}
use Rattle.object_laws.proofs.Calling.{Returns}
use Rattle.object_laws.proofs.Passing.{none_passed, sets_more, operand_kept, is_set_at, calls_at, throws_at, behind as behind_all}
use Rattle.object_laws.proofs.Valued.{Dicting, Gone, dict_or_none, held_set, stays_held}
use Rattle.dict_laws.specs.Keys.{position_from}
use Rattle.dict_find_laws.specs.Asked.{HasAll as HasLooking}
use Rattle.dict_find_laws.specs.Finding.{as_key}
use Rattle.dict_find_laws.specs.Lookups.{IsAskedFor}
use Rattle.dict_find_laws.proofs.Hashed.{still_so}
use Rattle.dict_find_laws.proofs.Arriving.{Arrived, arrives, entry_written, first, ops0, own_number, r, s, shape_is, types0, types_long, w2}
use Rattle.dict_find_laws.proofs.Entered.{Enters}
use Rattle.dict_find_laws.proofs.Read.{below_more, entry_found}
use Rattle.dict_change_laws.specs.Asked.{HasAll}
use Rattle.dict_change_laws.specs.Changed.{KeysAreThere, IsTold, EntriesAreDeleted}
use Rattle.dict_change_laws.proofs.Asking.{removes_by}
use Rattle.dict_change_laws.proofs.Keyed.{item_set}
use Rattle.dict_change_laws.proofs.Pairs.{Split, split, is_new}
use Rattle.dict_change_laws.proofs.Removing.{Removed, removed}
use Rattle.dict_change_laws.proofs.Stage.{has_first, has_more, there_has, nothing_given, six_parts, three_parts}

module _ (known : Known) (around : Around) (place : Place) (a b : Operand) (w : Writing) (n : ℕ) (m : Mapping) (is : IsAskedFor around known a b n m) (nothing : kind_seen place.element ≡ kind.Nothing) where
  abbrev ready_x : COperand
  ready_x = (r known around a b n m is w).x

  abbrev dict_ops : List LlOp
  dict_ops = (r known around a b n m is w).ops

  abbrev dict_new : List LlType
  dict_new = (r known around a b n m is w).new

  abbrev ready_y : COperand
  ready_y = (s known around a b n m is w).y

  abbrev key_ops : List LlOp
  key_ops = (s known around a b n m is w).ops

  abbrev key_new : List LlType
  key_new = (s known around a b n m is w).new

  abbrev before : List LlType
  before = types0 known around a b n m is w

  abbrev found_first : Found
  found_first = first known around a b n m is w

  abbrev looks : Small
  looks = small.Keyed (keyed.Entry n)

  abbrev takes_out : Small
  takes_out = small.Keyed (keyed.Remove n)

  abbrev asks : List Ask
  asks = there_asks around a w.found.covered ++ Make looks ∷ Make takes_out ∷ []

  abbrev number : ℕ
  number = (small_number looks found_first).0

  abbrev found_second : Found
  found_second = (small_number looks found_first).1

  abbrev number2 : ℕ
  number2 = (small_number takes_out found_second).0

  abbrev m1 : ℕ
  m1 = length before

  abbrev calls : LlOp
  calls = op.Call (Some m1) number (ready_x ∷ ready_y ∷ [])

  abbrev takes : LlOp
  takes = op.Call None number2 (ready_x ∷ Var m1 ∷ [])

  abbrev puts : LlOp
  puts = op.Set place.variable (default_operand type.Bool)

  abbrev found_last : Found
  found_last = (small_number takes_out found_second).1

  abbrev deleted_from : (COperand × COperand) × Writing → ℕ → Writing
  deleted_from made k = taking made (λ at next. says_nothing around place (done_by (keyed.Remove k) (at.0 ∷ at.1 ∷ []) next))

  is_written : lower_dict_op around row.DeleteIndex place (a ∷ b ∷ []) w ≡ writing found_last (record { types = before ++ type.Signed ∷ []; ops = ((ops0 known around a b n m is w ++ calls ∷ []) ++ takes ∷ []) ++ puts ∷ [] })
  unfolding lower_dict_op of_first of_dict of_two delete by_small shape_of done_by
  is_written = ap (λ o. of_dict_or around row.DeleteIndex place o (a ∷ b ∷ []) w) (shape_is known around a b n m is w) ∙ ap (λ made. deleted_from made m.dict) (entry_written known around a b n m is w (keyed.Entry m.dict))
      ∙ ap (λ k. deleted_from (beside ready_x (by_small (small.Keyed (keyed.Entry k)) type.Signed (ready_x ∷ ready_y ∷ []) (w2 known around a b n m is w))) k) (own_number around.layout.mappings n m is.dict.mapping)
      ∙ ap (λ t. writing found_last (nothing_to place t (record { types = before ++ type.Signed ∷ []; ops = (ops0 known around a b n m is w ++ calls ∷ []) ++ takes ∷ [] }))) (place_of_none around.layout place.element nothing)

  m1_is : m1 ≡ length w.body.types + length dict_new + length key_new
  m1_is = types_long known around a b n m is w

  abbrev behind : List LlOp
  behind = calls ∷ takes ∷ puts ∷ []

  abbrev new : List LlType
  new = dict_new ++ (key_new ++ type.Signed ∷ [])

  new_long : length new ≡ length dict_new + length key_new + 1
  new_long = (let x = length-append dict_new (key_new ++ type.Signed ∷ []) in let y = length-append key_new (type.Signed ∷ []) in omega (arith, x, y))

  module _ (p : LlProgram) (numbers : Numbers) (raised : ℕ → Value) (arguments : List (List ℕ)) (rest : List LlOp) (e : LlExit) (frames : List Frame) (core : Core) (g : Ghost) (world : World)
      (structs : HasLayout p around.layout) (has : HasAll p around.layout numbers raised core asks w.found)
      (stands : Represents around.layout known g world.heap world.left core.blocks core.statics) (left : world.left ≡ core.steps)
      (room : length w.body.types + length new ≤ length core.vars) (inside : place.variable < length w.body.types) (below : AllBelow (length w.body.types) (a ∷ b ∷ [])) where
    abbrev Here : State
    Here = At (dict_ops ++ (key_ops ++ (calls ∷ takes ∷ puts ∷ rest))) e frames core

    abbrev Answered : List Meant → Answer → Type 0
    Answered vs answer = Follows 0 known around place p arguments Here rest e frames core g raised (references world.heap vs) (length w.body.types) world answer

    abbrev Done : List Meant → Type 0
    Done vs = Answered vs (meant_op known.program w.found.covered row.DeleteIndex vs world)

    has_there : HasLooking p around.layout numbers raised core (there_asks around a w.found.covered) w.found
    has_there = there_has p around numbers raised core a w.found.covered w.found (has_first p around numbers raised core (there_asks around a w.found.covered) (Make looks ∷ Make takes_out ∷ []) w.found has)

    has_graphs : HasAll p around.layout numbers raised core (Make looks ∷ Make takes_out ∷ []) found_first
    has_graphs = has_more p around numbers raised core (there_asks around a w.found.covered) (Make looks ∷ Make takes_out ∷ []) w.found has

    dict_missing : (v u : Meant) → Gone kind.MaybeDict a.element (operand core.vars a.x) u → Done (u ∷ v ∷ [])
    dict_missing v u gone = subst (λ u. Done (u ∷ v ∷ [])) (sym gone.high)
        (subst (λ l. Follows 0 known around place p arguments (At (dict_ops ++ l) e frames core) rest e frames core g raised (references world.heap (Nothing ∷ v ∷ [])) (length w.body.types) world (failure w.found.covered.attribute 9 fail.Attribute world)) (append_assoc key_ops behind rest)
        ((r known around a b n m is w).misses 0 known place p numbers raised arguments (key_ops ++ behind) rest e frames core core g (references world.heap (Nothing ∷ v ∷ [])) (length w.body.types) world has_there gone.may gone.low))

    module _ (v u : Meant) (held : Holds around.layout known g b.element (operand core.vars b.x) v) (found_dict : Dicting around.layout known g a.element (operand core.vars a.x) u) (good : KeysAreThere m world (Ref found_dict.i ∷ v ∷ [])) where
      home : slice_get g.homes found_dict.i ≡ Some (record { sort = DictOf n; head = operand core.vars a.x })
      home = subst (λ k. slice_get g.homes found_dict.i ≡ Some (record { sort = DictOf k; head = operand core.vars a.x })) (ap pointed (sym found_dict.typed ∙ is.dict.typed)) found_dict.home

      went : Arrived known around a b n m is w p arguments (calls ∷ takes ∷ puts ∷ rest) e frames core
      went = arrives known around a b n m is w p numbers raised arguments core core g world has_there stands (omega (arith, room, m1_is, new_long)) below.0 below.1.0 found_dict.i home v held (calls ∷ takes ∷ puts ∷ rest) e frames

      abbrev mid : Core
      mid = went.mid

      abbrev head : Value
      head = operand core.vars a.x

      abbrev x : Value
      x = operand core.vars b.x

      stands_mid : Represents around.layout known g world.heap world.left mid.blocks mid.statics
      stands_mid = subst (λ (c : Core). Represents around.layout known g world.heap world.left c.blocks c.statics) (sym went.passed.memory) stands

      left_mid : world.left ≡ mid.steps
      left_mid = left ∙ sym (ap (λ (c : Core). c.steps) went.passed.memory)

      d : DictAt around.layout known g world.heap mid.blocks mid.statics m found_dict.i head
      d = stands_mid.dicts n found_dict.i head m home is.dict.mapping

      abbrev at : Option ℕ
      at = position_from is_equal 0 (keys_of d.pairs) v

      same : operands mid.vars (ready_x ∷ ready_y ∷ []) ≡ head ∷ as_key m x ∷ []
      same = ap (λ q. q ∷ operand mid.vars ready_y ∷ []) went.dict ∙ ap (λ q. head ∷ q ∷ []) went.key

      head_set : is_unset head ≡ false
      head_set = found_set mid.blocks mid.statics head _ d.head_is

      set : any_unset (head ∷ as_key m x ∷ []) ≡ false
      set = ap (λ q. q || (is_unset (as_key m x) || false)) head_set ∙ ap (λ q. q || false) (item_set m.key (stored_key m) x (held_set stands held))

      looked : Enters p arguments number (head ∷ as_key m x ∷ []) mid (raised 7) at
      looked = entry_found around.layout known p numbers raised arguments n number m core mid g world.heap world.left found_dict.i head x v is.dict.mapping is.keys structs has_graphs.0 stands_mid d (record { held = stays_held is.stays held; there = λ q. (good q).0 }) (still_so m core mid went.passed.memory)

      meant : meant_op known.program w.found.covered row.DeleteIndex (Ref found_dict.i ∷ v ∷ []) world ≡ (if has_key v d.pairs then set_object found_dict.i (Mapped (without_key v d.pairs)) Nothing else no_key) world
      meant = ap (λ o. delete_object w.found.covered found_dict.i v o world) d.object

      abbrev vs : List Meant
      vs = Ref found_dict.i ∷ v ∷ []

      -- a key that is missing
      raises : at ≡ None → Answered vs (Throws 7 world)
      raises none = behind_all 0 known around place p arguments rest e frames core g raised (references world.heap vs) (length w.body.types) world went.passed went.way (Throws 7 world) tt
          (throws_at same set (takes ∷ puts ∷ []) rest (subst (Enters p arguments number (head ∷ as_key m x ∷ []) mid (raised 7)) none looked))

      -- a key that is there
      module _ (i : ℕ) (is_at : at ≡ Some i) (all : Arrays around.layout known g mid.blocks mid.statics m found_dict.i d.pairs d.places d.one d.two) where
        part : Split v d.pairs i
        part = split v d.pairs i is_at

        abbrev placed : Core
        placed = after mid m1 (Word (pos i))

        placed_long : length placed.vars ≡ length core.vars
        placed_long = length-set mid.vars m1 (Word (pos i)) ∙ went.passed.room

        dict_placed : operand placed.vars ready_x ≡ head
        dict_placed = operand_kept (sets_more {below = m1} {core = mid} m1 (Word (pos i)) (omega arith) none_passed) ready_x (below_more ready_x (length w.body.types + length dict_new) m1 (omega (arith, m1_is)) ((r known around a b n m is w).inside below.0)) ∙ went.dict

        same_placed : operands placed.vars (ready_x ∷ Var m1 ∷ []) ≡ head ∷ Word (pos i) ∷ []
        same_placed = ap (λ q. q ∷ operand placed.vars (Var m1) ∷ []) dict_placed ∙ ap (λ q. head ∷ q ∷ []) (is_set_at mid m1 (Word (pos i)) (let q = went.passed.room in omega (arith, room, m1_is, new_long, q)))

        gone : Removed p arguments around.layout known g world.heap world.left found_dict.i head (without_key v d.pairs) i number2 (length part.post + length part.post) placed
        unfolding part
        gone = removed p arguments around.layout known structs n m is.dict.mapping number2 (removes_by around.layout n m is.dict.mapping p arguments known is.keys structs raised number2 has_graphs.1.0) g world.heap world.left placed stands_mid found_dict.i head home d all i v part (λ q. (good q).1 d.pairs d.object)

        few : length part.post ≤ length d.pairs
        few = (let q = ap length part.are in let z = length-append part.pre (part.pair ∷ part.post) in omega (arith, q, z))

        fits : length part.post + length part.post ≤ references world.heap vs
        fits = (let k : items_in (slice_get world.heap found_dict.i) ≡ 3 * length d.pairs = ap items_in d.object in let f = few in omega (arith, k, f))

        takes_it : Answered vs (Gives Nothing (record world { heap = slice_set world.heap found_dict.i (Mapped (without_key v d.pairs)) }))
        takes_it = behind_all 0 known around place p arguments rest e frames core g raised (references world.heap vs) (length w.body.types) world (sets_more m1 (Word (pos i)) (omega (arith, m1_is)) went.passed)
            (on went.way (calls_at same set (subst (Enters p arguments number (head ∷ as_key m x ∷ []) mid (raised 7)) is_at looked))) (Gives Nothing (record world { heap = slice_set world.heap found_dict.i (Mapped (without_key v d.pairs)) })) tt
            (nothing_given 0 known around place p arguments rest e frames placed g g (length w.body.types) world (slice_set world.heap found_dict.i (Mapped (without_key v d.pairs))) world.left gone.blocks gone.statics
            (length part.post + length part.post) (references world.heap vs) (Flag false) Nothing fits same_placed (ap (λ q. q || (false || false)) head_set) (omega (arith, room, inside, placed_long)) grown_none gone.stands (let q = gone.few in omega (arith, q)) returns refl refl (Alone nothing refl refl))
          where
            returns : (waits : List Frame) → Returns p arguments (length part.post + length part.post) (Calling number2 (head ∷ Word (pos i) ∷ []) waits placed) Unset waits (record placed { blocks = gone.blocks; statics = gone.statics; steps = world.left })
            returns waits = subst (λ k. Returns p arguments (length part.post + length part.post) (Calling number2 (head ∷ Word (pos i) ∷ []) waits placed) Unset waits (record placed { blocks = gone.blocks; statics = gone.statics; steps = k })) (sym left_mid) (gone.returns waits)

      by_place : (o : Option ℕ) → at ≡ o → Answered vs ((if has_key v d.pairs then set_object found_dict.i (Mapped (without_key v d.pairs)) Nothing else no_key) world)
      by_place None none = subst (λ c. Answered vs ((if c then set_object found_dict.i (Mapped (without_key v d.pairs)) Nothing else no_key) world)) (sym (is_new v d.pairs none).has) (raises none)
      by_place (Some i) is_at = by d.arrays
        where
          by : Lacks around.layout known g mid.blocks mid.statics m found_dict.i d.pairs d.places d.one d.two ⊎ Arrays around.layout known g mid.blocks mid.statics m found_dict.i d.pairs d.places d.one d.two → Answered vs ((if has_key v d.pairs then set_object found_dict.i (Mapped (without_key v d.pairs)) Nothing else no_key) world)
          by (inl l) = absurd (let part = split v d.pairs i is_at in let q = ap length l.empty in let k = ap length part.are in let z = length-append part.pre (part.pair ∷ part.post) in omega (arith, q, k, z))
          by (inr all) = subst (λ c. Answered vs ((if c then set_object found_dict.i (Mapped (without_key v d.pairs)) Nothing else no_key) world)) (sym (split v d.pairs i is_at).has) (takes_it i is_at all)

      there_so : Done (u ∷ v ∷ [])
      there_so = subst (λ u. Done (u ∷ v ∷ [])) (sym found_dict.high) (subst (Answered vs) (sym meant) (by_place at refl))

    either : (v u : Meant) → Holds around.layout known g b.element (operand core.vars b.x) v → KeysAreThere m world (u ∷ v ∷ []) → Dicting around.layout known g a.element (operand core.vars a.x) u ⊎ Gone kind.MaybeDict a.element (operand core.vars a.x) u → Done (u ∷ v ∷ [])
    either v u held good (inl it) = there_so v u held it (subst (λ u. KeysAreThere m world (u ∷ v ∷ [])) it.high good)
    either v u held good (inr gone) = dict_missing v u gone

    follow : (vs : List Meant) → Given known around g core (a ∷ b ∷ []) vs → KeysAreThere m world vs → Follows 0 known around place p arguments (At ((dict_ops ++ (key_ops ++ behind)) ++ rest) e frames core) rest e frames core g raised (references world.heap vs) (length w.body.types) world (meant_op known.program w.found.covered row.DeleteIndex vs world)
    follow [] given good = absurd given
    follow (u ∷ []) given good = absurd given.1
    follow (u ∷ v ∷ []) given good =
        subst (λ l. Follows 0 known around place p arguments (At l e frames core) rest e frames core g raised (references world.heap (u ∷ v ∷ [])) (length w.body.types) world (meant_op known.program w.found.covered row.DeleteIndex (u ∷ v ∷ []) world))
        (ap (λ l. dict_ops ++ l) (sym (append_assoc key_ops behind rest)) ∙ sym (append_assoc dict_ops (key_ops ++ behind) rest))
        (either v u given.1.0 good (dict_or_none (sym (same_kind (kind_of a)) ∙ is.dict.dicts) given.0))
    follow (u ∷ v ∷ t ∷ more) given good = absurd given.1.1

  delete_done : IsTold (KeysAreThere m) 0 known around row.DeleteIndex w.found.covered asks place (a ∷ b ∷ []) w
  delete_done = record {
    ops = dict_ops ++ (key_ops ++ behind);
    new = new;
    asked = ap (λ (r : Writing). r.found) is_written ∙ sym (asked_both (there_asks around a w.found.covered) (Make looks ∷ Make takes_out ∷ []) w.found);
    written = ap (λ (r : Writing). r.body.ops) is_written ∙ six_parts w.body.ops dict_ops key_ops calls takes puts;
    types = ap (λ (r : Writing). r.body.types) is_written ∙ three_parts w.body.types dict_new key_new type.Signed;
    follows = λ p numbers raised arguments rest e frames core g world vs structs has stands left room inside below given good. follow p numbers raised arguments rest e frames core g world structs has stands left room inside below vs given good;
  }

pub entries_are_deleted : EntriesAreDeleted
entries_are_deleted known around place a b w n m is nothing = delete_done known around place a b w n m is nothing

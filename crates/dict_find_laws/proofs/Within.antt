-- Whether a key has an entry.
use Rattle.std.proofs.Common.{◌≡◌, ◌<◌, ◌≤◌, ℕ, ◌+◌, ◌⊎◌, inl, inr, Bool, true, false, ◌||◌, List, [], ◌∷◌, ◌++◌, length, Option, Some, pos, refl, sym, ap, ◌∙◌, subst, arith, append_assoc, length-append}
use Rattle.std.specs.Prelude.{slice_get, is_some, option_map, not}
use Rattle.std.proofs.lemmas.List.{append-nil, length-set}
use Rattle.rpy_base.specs.declared.outcome.FailName.TheVariants as fail
use Rattle.csub_tree.specs.State.{Value, Word, Flag, Core}
use Rattle.csub_tree.specs.Operation.{is_unset, binary_of, unary_of}
use Rattle.csub_tree.specs.Statement.{operand, operands, any_unset}
use Rattle.csub_tree.specs.declared.tree.CBinary.TheVariants as binary
use Rattle.csub_tree.specs.declared.tree.CUnary.TheVariants as unary
use Rattle.csub_tree.specs.declared.tree.COperand.{COperand}
use Rattle.csub_tree.specs.declared.tree.COperand.TheVariants.{Var}
use Rattle.rpy_tree.specs.Value.{Value as Meant, Word as MeantWord, Flag as MeantFlag, Text, Nothing, Tuple, Fun, Ref}
use Rattle.rpy_tree.specs.declared.syntax.CmpOp.{CmpOp}
use Rattle.rpy_tree.specs.declared.syntax.CmpOp.TheVariants as compared
use Rattle.rpy_meaning.specs.declared.row.Covers.{Covers}
use Rattle.rpy_meaning.specs.declared.row.RowOp.TheVariants as row
use Rattle.rpy_meaning.specs.Compare.{is_equal}
use Rattle.rpy_meaning.specs.Operations.{op as meant_op, within as meant_within}
use Rattle.rpy_meaning.specs.Sequences.{is_in_object}
use Rattle.rpy_meaning.specs.World.{World, Gives, flag_if_any, failure}
use Rattle.ll_code.specs.State.{Frame, State, Calling, At}
use Rattle.ll_code.specs.declared.program.LlType.{LlType}
use Rattle.ll_code.specs.declared.program.LlType.TheVariants as type
use Rattle.ll_code.specs.declared.program.LlOp.{LlOp}
use Rattle.ll_code.specs.declared.program.LlOp.TheVariants as op
use Rattle.ll_code.specs.declared.program.LlExit.{LlExit}
use Rattle.ll_code.specs.declared.program.LlProgram.{LlProgram}
use Rattle.ll_build.specs.Build.{word as word_operand}
use Rattle.ll_build.specs.declared.needs.Numbers.{Numbers}
use Rattle.ll_leads.specs.Path.{Leads}
use Rattle.ll_leads.proofs.Ways.{Comes, on, gives, turns}
use Rattle.rtyper_layout.specs.declared.dicts.Mapping.{Mapping}
use Rattle.rtyper_layout.specs.declared.kind.Kind.TheVariants as kind
use Rattle.rtyper_layout.specs.Kinds.{kind_seen}
use Rattle.rtyper_layout.specs.Dicts.{is_indexed, stored_key}
use Rattle.rtyper_data.specs.declared.found.Found.{Found}
use Rattle.rtyper_data.specs.declared.small.Small.{Small}
use Rattle.rtyper_data.specs.declared.small.Small.TheVariants as small
use Rattle.rtyper_data.specs.declared.small.Keyed.TheVariants as keyed
use Rattle.rtyper_data.specs.Comparing.{alone, binary_in, opposite_of, opposite_if}
use Rattle.rtyper_data.specs.Converting.{by_small, give_made}
use Rattle.rtyper_data.specs.Finding.{small_number}
use Rattle.rtyper_data.specs.Seen.{Around, Operand, Place, kind_of, Writing, writing}
use Rattle.rtyper_dict.specs.Lowering.{compare, is_there, lower_dict_op, of_second, within, within_or}
use Rattle.rtyper_dict.specs.Operands.{beside, dict_of, pointed}
use Rattle.rtyper_dict.specs.Parts.{shape_of}
use Rattle.list_shape.specs.Shapes.{taking}
use Rattle.lower_laws.specs.Asked.{Ask, Make}
use Rattle.lower_laws.specs.Values.{AllBelow}
use Rattle.lower_laws.proofs.Doing.{after}
use Rattle.lower_laws.proofs.Single.{sets, gives_flag}
use Rattle.lower_laws.proofs.Typing.{place_of_flags}
use Rattle.list_laws.proofs.Indexed.{asked_both}
use Rattle.list_laws.proofs.Told.{gives_flags}
use Rattle.dict_op_laws.specs.Dicts.{there_asks}
use Rattle.dict_op_laws.proofs.Lengths.{same_kind}
use Rattle.object_laws.specs.Dicts.{DictAt, keys_of}
use Rattle.object_laws.specs.Done.{Follows, HasLayout, references}
use Rattle.object_laws.specs.Ghost.{Ghost, DictOf}
use Rattle.object_laws.specs.Known.{Known}
use Rattle.object_laws.specs.Represents.{Represents}
use Rattle.object_laws.specs.Values.{Given, Holds}
use Rattle.object_laws.proofs.Blocks.{found_set}
use Rattle.object_laws.proofs.Passing.{Passed, sets_more, is_set_at, calls_at}
use Rattle.object_laws.proofs.Valued.{Dicting, Gone, dict_or_none, held_set, stays_held}
use Rattle.dict_laws.specs.Keys.{position_from}
use Rattle.dict_find_laws.specs.Asked.{HasAll, HasFind}
use Rattle.dict_find_laws.proofs.Hashed.{still_so}
use Rattle.dict_find_laws.specs.Finding.{as_key, place_word}
use Rattle.dict_find_laws.specs.Keys.{IsThere}
use Rattle.dict_find_laws.specs.Lookups.{FirstIsThere, IsAskedFor, IsTold, KeysAreLookedFor}
use Rattle.dict_find_laws.proofs.Arriving.{Arrived, arrives, entry_written, first, ops0, own_number, r, s, shape_is, types0, types_long, w2}
use Rattle.dict_find_laws.proofs.Found.{keys_are_found}
use Rattle.dict_find_laws.proofs.Sought.{has_is, is_at_least}
use Rattle.dict_find_laws.proofs.Worth.{as_item_set}
use Rattle.dict_find_laws.proofs.Stage.{five_parts, has_first, has_more}

-- what is asked of such a key
record Asks (c : Covers) (f : Bool → Bool) (v : Meant) : Type 0 where
  there : (i : ℕ) (world : World) → meant_within c f v (Ref i) world ≡ flag_if_any (option_map f (is_in_object v (slice_get world.heap i))) world
  none : (world : World) → meant_within c f v Nothing world ≡ failure c.attribute 9 fail.Attribute world

asks_of : (c : Covers) (f : Bool → Bool) (v : Meant) → Asks c f v
asks_of c f (MeantWord z) = record { there = λ i world. refl; none = λ world. refl }
asks_of c f (MeantFlag b) = record { there = λ i world. refl; none = λ world. refl }
asks_of c f (Text bytes) = record { there = λ i world. refl; none = λ world. refl }
asks_of c f Nothing = record { there = λ i world. refl; none = λ world. refl }
asks_of c f (Tuple vs) = record { there = λ i world. refl; none = λ world. refl }
asks_of c f (Fun g) = record { there = λ i world. refl; none = λ world. refl }
asks_of c f (Ref j) = record { there = λ i world. refl; none = λ world. refl }

-- the answer, or the opposite
abbrev turned : Bool → Bool → Bool
turned false t = t
turned true t = not t

module _ (reversed : Bool) (o : CmpOp) (known : Known) (around : Around) (place : Place) (a b : Operand) (w : Writing) (n : ℕ) (m : Mapping) (is : IsAskedFor around known b a n m) (flags : kind_seen place.element ≡ kind.Flag)
    (l : lower_dict_op around (row.Compare o) place (a ∷ b ∷ []) w ≡ within_or around place (dict_of around b) reversed a b w) (means : (v u : Meant) (world : World) → meant_op known.program w.found.covered (row.Compare o) (v ∷ u ∷ []) world ≡ meant_within w.found.covered (turned reversed) v u world) where
  abbrev ready_x : COperand
  ready_x = (r known around b a n m is w).x

  abbrev dict_ops : List LlOp
  dict_ops = (r known around b a n m is w).ops

  abbrev dict_new : List LlType
  dict_new = (r known around b a n m is w).new

  abbrev ready_y : COperand
  ready_y = (s known around b a n m is w).y

  abbrev key_ops : List LlOp
  key_ops = (s known around b a n m is w).ops

  abbrev key_new : List LlType
  key_new = (s known around b a n m is w).new

  abbrev before : List LlType
  before = types0 known around b a n m is w

  abbrev found_first : Found
  found_first = first known around b a n m is w

  abbrev looks : Small
  looks = small.Keyed (keyed.Find n)

  abbrev asks : List Ask
  asks = there_asks around b w.found.covered ++ Make looks ∷ []

  abbrev number : ℕ
  number = (small_number looks found_first).0

  abbrev m1 : ℕ
  m1 = length before

  abbrev m2 : ℕ
  m2 = length (before ++ type.Signed ∷ [])

  abbrev m3 : ℕ
  m3 = length ((before ++ type.Signed ∷ []) ++ type.Bool ∷ [])

  abbrev calls : LlOp
  calls = op.Call (Some m1) number (ready_x ∷ ready_y ∷ [])

  abbrev tests : LlOp
  tests = op.Binary m2 binary.Ge (Var m1) (word_operand (pos 0))

  abbrev tail : Bool → List LlOp
  tail false = op.Set place.variable (Var m2) ∷ []
  tail true = op.Unary m3 unary.Not (Var m2) ∷ op.Set place.variable (Var m3) ∷ []

  abbrev more : Bool → List LlType
  more false = []
  more true = type.Bool ∷ []

  abbrev ops_told : List LlOp
  ops_told = (ops0 known around b a n m is w ++ calls ∷ []) ++ tests ∷ []

  abbrev types_told : List LlType
  types_told = (before ++ type.Signed ∷ []) ++ type.Bool ∷ []

  abbrev told : Writing
  told = writing (small_number looks found_first).1 (record { types = types_told; ops = ops_told })

  turned_written : (r : Bool) → give_made around place type.Bool (opposite_of r (Var m2, told)) ≡ writing told.found (record { types = types_told ++ more r; ops = ops_told ++ tail r })
  unfolding opposite_if
  turned_written false = gives_flag around place (Var m2) told (place_of_flags around.layout place.element flags)
      ∙ ap (λ ts. writing told.found (record { types = ts; ops = ops_told ++ tail false })) (sym (append-nil types_told))
  turned_written true = gives_flag around place (Var m3) (writing told.found (record { types = types_told ++ type.Bool ∷ []; ops = ops_told ++ op.Unary m3 unary.Not (Var m2) ∷ [] })) (place_of_flags around.layout place.element flags)
      ∙ ap (λ os. writing told.found (record { types = types_told ++ type.Bool ∷ []; ops = os })) (append_assoc ops_told (op.Unary m3 unary.Not (Var m2) ∷ []) (op.Set place.variable (Var m3) ∷ []))

  abbrev told_from : (COperand × COperand) × Writing → Writing
  told_from made = give_made around place type.Bool (taking made (λ at next. opposite_of reversed (alone next.found (binary_in binary.Ge type.Bool at.1 (word_operand (pos 0)) next.body))))

  is_written : lower_dict_op around (row.Compare o) place (a ∷ b ∷ []) w ≡ writing told.found (record { types = types_told ++ more reversed; ops = ops_told ++ tail reversed })
  unfolding within is_there by_small shape_of
  is_written = l ∙ ap (λ o. within_or around place o reversed a b w) (shape_is known around b a n m is w) ∙ ap told_from (entry_written known around b a n m is w (keyed.Find m.dict))
      ∙ ap (λ k. told_from (beside ready_x (by_small (small.Keyed (keyed.Find k)) type.Signed (ready_x ∷ ready_y ∷ []) (w2 known around b a n m is w)))) (own_number around.layout.mappings n m is.dict.mapping) ∙ turned_written reversed

  m1_is : m1 ≡ length w.body.types + length dict_new + length key_new
  m1_is = types_long known around b a n m is w

  m2_is : m2 ≡ m1 + 1
  m2_is = length-append before (type.Signed ∷ [])

  m3_is : m3 ≡ m1 + 2
  m3_is = (let x = length-append (before ++ type.Signed ∷ []) (type.Bool ∷ []) in omega (arith, x, m2_is))

  abbrev behind : List LlOp
  behind = calls ∷ tests ∷ tail reversed

  abbrev new : List LlType
  new = dict_new ++ (key_new ++ (type.Signed ∷ type.Bool ∷ more reversed))

  new_long : length new ≡ length dict_new + length key_new + 2 + length (more reversed)
  new_long = (let x = length-append dict_new (key_new ++ (type.Signed ∷ type.Bool ∷ more reversed)) in let y = length-append key_new (type.Signed ∷ type.Bool ∷ more reversed) in omega (arith, x, y))

  module _ (p : LlProgram) (numbers : Numbers) (raised : ℕ → Value) (arguments : List (List ℕ)) (rest : List LlOp) (e : LlExit) (frames : List Frame) (core : Core) (g : Ghost) (world : World)
      (structs : HasLayout p around.layout) (has : HasAll p around.layout numbers raised core asks w.found)
      (stands : Represents around.layout known g world.heap world.left core.blocks core.statics) (left : world.left ≡ core.steps)
      (room : length w.body.types + length new ≤ length core.vars) (inside : place.variable < length w.body.types) (below : AllBelow (length w.body.types) (a ∷ b ∷ [])) where
    abbrev Here : State
    Here = At (dict_ops ++ (key_ops ++ (behind ++ rest))) e frames core

    abbrev Done : List Meant → Type 0
    Done vs = Follows 0 known around place p arguments Here rest e frames core g raised (references world.heap vs) (length w.body.types) world (meant_op known.program w.found.covered (row.Compare o) vs world)

    has_there : HasAll p around.layout numbers raised core (there_asks around b w.found.covered) w.found
    has_there = has_first p around numbers raised core (there_asks around b w.found.covered) (Make looks ∷ []) w.found has

    has_graph : HasFind p around.layout numbers raised core n number
    has_graph = (has_more p around numbers raised core (there_asks around b w.found.covered) (Make looks ∷ []) w.found has).0

    dict_missing : (v u : Meant) → Holds around.layout known g a.element (operand core.vars a.x) v → Gone kind.MaybeDict b.element (operand core.vars b.x) u → Done (v ∷ u ∷ [])
    dict_missing v u held gone = subst (λ u. Done (v ∷ u ∷ [])) (sym gone.high)
        (subst (λ answer. Follows 0 known around place p arguments Here rest e frames core g raised (references world.heap (v ∷ Nothing ∷ [])) (length w.body.types) world answer) (sym (means v Nothing world ∙ (asks_of w.found.covered (turned reversed) v).none world))
        (subst (λ l. Follows 0 known around place p arguments (At (dict_ops ++ l) e frames core) rest e frames core g raised (references world.heap (v ∷ Nothing ∷ [])) (length w.body.types) world (failure w.found.covered.attribute 9 fail.Attribute world)) (append_assoc key_ops behind rest)
        ((r known around b a n m is w).misses 0 known place p numbers raised arguments (key_ops ++ behind) rest e frames core core g (references world.heap (v ∷ Nothing ∷ [])) (length w.body.types) world has_there gone.may gone.low)))

    module _ (v u : Meant) (held : Holds around.layout known g a.element (operand core.vars a.x) v) (found_dict : Dicting around.layout known g b.element (operand core.vars b.x) u) (there : is_indexed m ≡ true → IsThere v) where
      home : slice_get g.homes found_dict.i ≡ Some (record { sort = DictOf n; head = operand core.vars b.x })
      home = subst (λ k. slice_get g.homes found_dict.i ≡ Some (record { sort = DictOf k; head = operand core.vars b.x })) (ap pointed (sym found_dict.typed ∙ is.dict.typed)) found_dict.home

      went : Arrived known around b a n m is w p arguments (behind ++ rest) e frames core
      went = arrives known around b a n m is w p numbers raised arguments core core g world has_there stands (omega (arith, room, m1_is, new_long)) below.1.0 below.0 found_dict.i home v held (behind ++ rest) e frames

      abbrev mid : Core
      mid = went.mid

      stands_mid : Represents around.layout known g world.heap world.left mid.blocks mid.statics
      stands_mid = subst (λ (c : Core). Represents around.layout known g world.heap world.left c.blocks c.statics) (sym went.passed.memory) stands

      d : DictAt around.layout known g world.heap mid.blocks mid.statics m found_dict.i (operand core.vars b.x)
      d = stands_mid.dicts n found_dict.i (operand core.vars b.x) m home is.dict.mapping

      abbrev at : Option ℕ
      at = position_from is_equal 0 (keys_of d.pairs) v

      abbrev t : Bool
      t = is_some at

      abbrev x : Value
      x = operand core.vars a.x

      comes : (waits : List Frame) → Comes p arguments (Calling number (operand core.vars b.x ∷ as_key m x ∷ []) waits mid) [] (place_word at) waits mid
      comes waits = (let it = keys_are_found around.layout known p numbers raised arguments n number m core mid g world.heap world.left found_dict.i (operand core.vars b.x) x v is.dict.mapping is.keys structs has_graph stands_mid d (record { held = stays_held is.stays held; there = there }) (still_so m core mid went.passed.memory) waits in
          record { end = it.end; same = it.same; leads = it.leads })

      same : operands mid.vars (ready_x ∷ ready_y ∷ []) ≡ operand core.vars b.x ∷ as_key m x ∷ []
      same = ap (λ q. q ∷ operand mid.vars ready_y ∷ []) went.dict ∙ ap (λ q. operand core.vars b.x ∷ q ∷ []) went.key

      set : any_unset (operand core.vars b.x ∷ as_key m x ∷ []) ≡ false
      set = ap (λ q. q || (is_unset (as_key m x) || false)) (found_set mid.blocks mid.statics (operand core.vars b.x) _ d.head_is) ∙ ap (λ q. q || false) (as_item_set m.key (stored_key m) x (held_set stands held))

      abbrev placed : Core
      placed = after mid m1 (place_word at)

      abbrev asked : Core
      asked = after placed m2 (Flag t)

      placed_long : length placed.vars ≡ length core.vars
      placed_long = length-set mid.vars m1 (place_word at) ∙ went.passed.room

      asked_long : length asked.vars ≡ length core.vars
      asked_long = length-set placed.vars m2 (Flag t) ∙ placed_long

      placed_is : operand placed.vars (Var m1) ≡ place_word at
      placed_is = is_set_at mid m1 (place_word at) (let q = went.passed.room in omega (arith, room, m1_is, new_long, q))

      asked_is : operand asked.vars (Var m2) ≡ Flag t
      asked_is = is_set_at placed m2 (Flag t) (omega (arith, room, m1_is, m2_is, new_long, placed_long))

      way : Leads p arguments 0 Here [] (At (tail reversed ++ rest) e frames asked)
      way = on went.way (on (calls_at same set comes) (gives (Flag t) (ap (λ z. binary_of binary.Ge z (Word (pos 0))) placed_is ∙ is_at_least at)))

      asked_passed : Passed (length w.body.types) core asked
      asked_passed = sets_more m2 (Flag t) (omega (arith, m1_is, m2_is)) (sets_more m1 (place_word at) (omega (arith, m1_is)) went.passed)

      ends : (r : Bool) → r ≡ reversed → (last : Core) × (Passed (length w.body.types) core last) × Leads p arguments 0 (At (tail r ++ rest) e frames asked) [] (At rest e frames (after last place.variable (Flag (turned r t))))
      ends false q = (asked, asked_passed, sets (Flag t) asked_is refl)
      ends true q = (
        after asked m3 (Flag (not t)),
        sets_more m3 (Flag (not t)) (omega (arith, m1_is, m3_is)) asked_passed,
        on (turns (Flag (not t)) (ap (unary_of unary.Not) asked_is)) (sets (Flag (not t)) (is_set_at asked m3 (Flag (not t)) (let k = ap (λ r. length (more r)) q in omega (arith, room, new_long, k, m1_is, m3_is, asked_long))) refl),
      )

      meant : meant_op known.program w.found.covered (row.Compare o) (v ∷ Ref found_dict.i ∷ []) world ≡ Gives (MeantFlag (turned reversed t)) world
      meant = means v (Ref found_dict.i) world ∙ (asks_of w.found.covered (turned reversed) v).there found_dict.i world ∙ ap (λ o. flag_if_any (option_map (turned reversed) (is_in_object v o)) world) d.object
          ∙ ap (λ b. flag_if_any (Some (turned reversed b)) world) (has_is v d.pairs 0)

      there_so : Done (v ∷ u ∷ [])
      there_so = (let it = ends reversed refl in subst (λ u. Done (v ∷ u ∷ [])) (sym found_dict.high)
          (subst (λ answer. Follows 0 known around place p arguments Here rest e frames core g raised (references world.heap (v ∷ Ref found_dict.i ∷ [])) (length w.body.types) world answer) (sym meant)
          (gives_flags around raised flags (references world.heap (v ∷ Ref found_dict.i ∷ [])) (length w.body.types) it.0 (turned reversed t) stands left it.1 (omega (arith, room, inside)) (on way it.2))))

    either : (v u : Meant) → Holds around.layout known g a.element (operand core.vars a.x) v → (is_indexed m ≡ true → IsThere v) → Dicting around.layout known g b.element (operand core.vars b.x) u ⊎ Gone kind.MaybeDict b.element (operand core.vars b.x) u → Done (v ∷ u ∷ [])
    either v u held there (inl it) = there_so v u held it there
    either v u held there (inr gone) = dict_missing v u held gone

    follow : (vs : List Meant) → Given known around g core (a ∷ b ∷ []) vs → FirstIsThere m world vs → Follows 0 known around place p arguments (At ((dict_ops ++ (key_ops ++ behind)) ++ rest) e frames core) rest e frames core g raised (references world.heap vs) (length w.body.types) world (meant_op known.program w.found.covered (row.Compare o) vs world)
    follow [] given good = absurd given
    follow (v ∷ []) given good = absurd given.1
    follow (v ∷ u ∷ []) given good =
        subst (λ l. Follows 0 known around place p arguments (At l e frames core) rest e frames core g raised (references world.heap (v ∷ u ∷ [])) (length w.body.types) world (meant_op known.program w.found.covered (row.Compare o) (v ∷ u ∷ []) world))
        (ap (λ l. dict_ops ++ l) (sym (append_assoc key_ops behind rest)) ∙ sym (append_assoc dict_ops (key_ops ++ behind) rest))
        (either v u given.0 good (dict_or_none (sym (same_kind (kind_of b)) ∙ is.dict.dicts) given.1.0))
    follow (v ∷ u ∷ s ∷ vs) given good = absurd given.1.1

  told_done : IsTold (FirstIsThere m) known around (row.Compare o) w.found.covered asks place (a ∷ b ∷ []) w
  told_done = record {
    ops = dict_ops ++ (key_ops ++ behind);
    new = new;
    asked = ap (λ (r : Writing). r.found) is_written ∙ sym (asked_both (there_asks around b w.found.covered) (Make looks ∷ []) w.found);
    written = ap (λ (r : Writing). r.body.ops) is_written ∙ five_parts w.body.ops dict_ops key_ops calls tests (tail reversed);
    types = ap (λ (r : Writing). r.body.types) is_written ∙ five_parts w.body.types dict_new key_new type.Signed type.Bool (more reversed);
    follows = λ p numbers raised arguments rest e frames core g world vs structs has stands left room inside below given good. follow p numbers raised arguments rest e frames core g world structs has stands left room inside below vs given good;
  }

pub within_is : KeysAreLookedFor compared.Within
unfolding compare of_second lower_dict_op
within_is known around place a b w n m is flags = told_done false compared.Within known around place a b w n m is flags refl (λ v u world. refl)

pub not_within_is : KeysAreLookedFor compared.NotWithin
unfolding compare of_second lower_dict_op
not_within_is known around place a b w n m is flags = told_done true compared.NotWithin known around place a b w n m is flags refl (λ v u world. refl)

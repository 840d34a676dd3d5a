-- Tuples are looked for among the items of lists.
use Rattle.std.proofs.Common.{◌≡◌, ◌<◌, ◌≤◌, ℕ, suc, ◌+◌, ◌⊎◌, inl, inr, Bool, true, false, ◌||◌, ◌&&◌, List, [], ◌∷◌, ◌++◌, length, Option, Some, refl, sym, ap, ◌∙◌, subst, arith, append_assoc, length-append}
use Rattle.std.specs.Prelude.{slice_get, if◌then◌else◌, option_map, not}
use Rattle.std.proofs.lemmas.List.{append-nil, length-set}
use Rattle.ann_element.specs.declared.element.Element.{Element}
use Rattle.rpy_base.specs.declared.outcome.FailName.TheVariants as fail
use Rattle.csub_tree.specs.State.{Value, Flag, Core}
use Rattle.csub_tree.specs.Operation.{is_unset, unary_of}
use Rattle.csub_tree.specs.Statement.{operand, operands, any_unset}
use Rattle.csub_tree.specs.declared.tree.CUnary.TheVariants as unary
use Rattle.csub_tree.specs.declared.tree.COperand.{COperand}
use Rattle.csub_tree.specs.declared.tree.COperand.TheVariants.{Var}
use Rattle.rpy_tree.specs.Value.{Value as Meant, Word as MeantWord, Flag as MeantFlag, Text, Nothing, Tuple, Fun, Ref}
use Rattle.rpy_tree.specs.declared.syntax.CmpOp.{CmpOp}
use Rattle.rpy_tree.specs.declared.syntax.CmpOp.TheVariants as compared
use Rattle.rpy_meaning.specs.declared.row.Covers.{Covers}
use Rattle.rpy_meaning.specs.declared.row.RowOp.TheVariants as row
use Rattle.rpy_meaning.specs.Compare.{equal, is_equal, is_among}
use Rattle.rpy_meaning.specs.Operations.{op as meant_op, within as meant_within}
use Rattle.rpy_meaning.specs.Sequences.{is_in_object, tuple}
use Rattle.rpy_meaning.specs.World.{World, Gives, flag_if_any, failure}
use Rattle.ll_code.specs.State.{Frame, State, Calling, At}
use Rattle.ll_code.specs.declared.program.LlType.{LlType}
use Rattle.ll_code.specs.declared.program.LlType.TheVariants as type
use Rattle.ll_code.specs.declared.program.LlOp.{LlOp}
use Rattle.ll_code.specs.declared.program.LlOp.TheVariants as op
use Rattle.ll_code.specs.declared.program.LlExit.{LlExit}
use Rattle.ll_code.specs.declared.program.LlProgram.{LlProgram}
use Rattle.ll_build.specs.declared.needs.Numbers.{Numbers}
use Rattle.ll_leads.specs.Path.{Leads}
use Rattle.ll_leads.proofs.Ways.{Comes, on, turns}
use Rattle.rtyper_layout.specs.declared.kind.Kind.TheVariants as kind
use Rattle.rtyper_layout.specs.declared.layout.Layout.{Layout}
use Rattle.rtyper_layout.specs.Kinds.{kind_seen}
use Rattle.rtyper_layout.specs.Layout.{is_list as is_list_struct, is_tuple}
use Rattle.rtyper_layout.specs.Types.{word, type_of as element_type}
use Rattle.rtyper_data.specs.declared.found.Found.{Found}
use Rattle.rtyper_data.specs.declared.small.Small.{Small}
use Rattle.rtyper_data.specs.declared.small.Small.TheVariants as small
use Rattle.rtyper_data.specs.declared.small.Listed.TheVariants as listed
use Rattle.rtyper_data.specs.Comparing.{opposite_of, opposite_if}
use Rattle.rtyper_data.specs.Converting.{by_small, give_made}
use Rattle.rtyper_data.specs.Finding.{small_number}
use Rattle.rtyper_op.specs.Lowering.{never_comes, lower_op}
use Rattle.rtyper_data.specs.Seen.{Around, Operand, Place, kind_of, type_of, Writing, writing}
use Rattle.list_shape.specs.Shapes.{item_of, shape_of, taking}
use Rattle.list_loops.specs.Loops.{contains}
use Rattle.rtyper_list.specs.Items.{within, is_within}
use Rattle.rtyper_list.specs.Lowering.{lowered, lowered_unless, of_some, of_two, first_of_two, second_of_two, within_or, lower_list_op}
use Rattle.rtyper_list.specs.Operands.{of_list, of_list_or_none, is_none, list_of, pointed, there}
use Rattle.lower_laws.specs.Asked.{Ask, Make, all_asked}
use Rattle.lower_laws.specs.Values.{AllBelow}
use Rattle.lower_laws.proofs.Doing.{after}
use Rattle.lower_laws.proofs.Single.{sets, gives_flag}
use Rattle.lower_laws.proofs.Stayed.{field_is}
use Rattle.lower_laws.proofs.Typing.{place_of_flags}
use Rattle.list_laws.specs.Asked.{HasAll as HasList}
use Rattle.list_laws.specs.Lists.{IsList, if_missing, there_asks}
use Rattle.list_laws.proofs.Indexed.{asked_both}
use Rattle.list_laws.proofs.Lowered.{list_comes, two_come}
use Rattle.list_laws.proofs.Stored.{not_none}
use Rattle.list_laws.proofs.Told.{gives_flags}
use Rattle.object_laws.specs.Known.{Known}
use Rattle.object_laws.specs.Done.{Follows, HasLayout, IsDone, references}
use Rattle.object_laws.specs.Ghost.{Ghost, ListOf}
use Rattle.object_laws.specs.Represents.{Represents, ListAt}
use Rattle.object_laws.specs.Values.{Given, Holds}
use Rattle.object_laws.proofs.Blocks.{found_set, found_there}
use Rattle.object_laws.proofs.Passing.{Passed, sets_more, is_set_at, operand_kept, calls_at}
use Rattle.object_laws.proofs.Valued.{Listing, Absent, list_or_none, held_set}
use Rattle.list_copy_laws.proofs.Ready.{Went, Ready, ready}
use Rattle.conversion_laws.specs.Going.{IsTuple}
use Rattle.conversion_laws.proofs.Equality.{all_levels, tuples_are_told}
use Rattle.conversion_laws.proofs.Moving.{has_first, has_second, has_to_kept}
use Rattle.conversion_laws.proofs.Valued.{tuple_held}
use Rattle.list_tuple_laws.specs.Alike.{AllAlike}
use Rattle.list_tuple_laws.specs.Among.{TuplesAreAmong}
use Rattle.list_tuple_laws.specs.Asked.{Has, HasAll, HasAmong}
use Rattle.list_tuple_laws.proofs.Containing.{contains_tuples, tuples_are}
use Rattle.list_tuple_laws.proofs.Telling.{all_compare, all_told}

-- what is asked of a value
record Asks (c : Covers) (f : Bool → Bool) (v : Meant) : Type 0 where
  there : (i : ℕ) (world : World) → meant_within c f v (Ref i) world ≡ flag_if_any (option_map f (is_in_object v (slice_get world.heap i))) world
  none : (world : World) → meant_within c f v Nothing world ≡ failure c.attribute 9 fail.Attribute world

asks_of : (c : Covers) (f : Bool → Bool) (v : Meant) → Asks c f v
asks_of c f (MeantWord z) = record { there = λ i world. refl; none = λ world. refl }
asks_of c f (MeantFlag b) = record { there = λ i world. refl; none = λ world. refl }
asks_of c f (Text bytes) = record { there = λ i world. refl; none = λ world. refl }
asks_of c f Nothing = record { there = λ i world. refl; none = λ world. refl }
asks_of c f (Tuple vs) = record { there = λ i world. refl; none = λ world. refl }
asks_of c f (Fun g) = record { there = λ i world. refl; none = λ world. refl }
asks_of c f (Ref j) = record { there = λ i world. refl; none = λ world. refl }

-- that a list is there is asked as of other lists
there_has : (p : LlProgram) (around : Around) (numbers : Numbers) (raised : ℕ → Value) (core : Core) (b : Operand) (c : Covers) (made : Found) → HasAll p around.layout numbers raised core (there_asks around b c) made → HasList p around.layout numbers raised core (there_asks around b c) made
there_has p around numbers raised core b c made h = by (of_list_or_none (kind_of b)) h
  where
    by : (t : Bool) → HasAll p around.layout numbers raised core (if_missing t (type_of around b) c) made → HasList p around.layout numbers raised core (if_missing t (type_of around b) c) made
    by true h = (h.0, tt)
    by false h = tt

-- ---- the call

module _ (known : Known) (around : Around) (a b : Operand) (n q r : ℕ) (item : Element) (parts others : List Element) (apart : is_tuple around.layout 0 ≡ false) (tuple_is : IsTuple around.layout a.element q others) (item_is : IsTuple around.layout (Some item) r parts) (all : AllAlike around.layout parts others) (of : IsList around known b.element n item)
    (p : LlProgram) (numbers : Numbers) (raised : ℕ → Value) (arguments : List (List ℕ)) (f : ℕ) (structs : HasLayout p around.layout) (struct : is_list_struct around.layout n ≡ true) (before : Core) (has : HasAmong p around.layout numbers raised before q n f)
    (g : Ghost) (world : World) (core : Core) (statics : core.statics ≡ before.statics) (steps : core.steps ≡ before.steps) (stands : Represents around.layout known g world.heap world.left core.blocks core.statics) (i : ℕ) (head : Value) (s : ListAt around.layout known g world.heap world.left core.blocks core.statics n i head)
    (x : Value) (v : Meant) (held : Holds around.layout known g a.element x v) where
  element_is : item_of around.layout (word (n + 1)) ≡ type.Ptr r
  element_is = of.items ∙ field_is (element_type around.layout item) (λ e. (let k : type.Ptr r ≡ type.Void = sym item_is.typed ∙ e in absurd (cc))) ∙ item_is.typed

  abbrev compares : ℕ
  compares = (small_number (small.Equal r q) has.made).0

  graph_is : slice_get p.graphs f ≡ Some (contains around.layout (type.Ptr q) (shape_of around.layout n) has.made).0
  graph_is = has.graph

  equal_so : (y : Value) (u : Meant) → Holds around.layout known g (Some item) y u → equal u v ≡ Some (is_equal u v)
  equal_so y u other =
      let it = tuple_held r parts item_is other in
      let this = tuple_held q others tuple_is held in
      subst (λ u. equal u v ≡ Some (is_equal u v)) (sym it.high) (subst (λ v. equal (tuple it.vs) v ≡ Some (is_equal (tuple it.vs) v)) (sym this.high) (all_told all it.all this.all))

  tells : (waits : List Frame) → Comes p arguments (Calling f (x ∷ head ∷ []) waits core) [] (Flag (is_among v s.items)) waits core
  tells =
      let all_so = all_compare all in
      contains_tuples p arguments around.layout known structs n struct f g world.heap world.left core stands i head s x v (held_set stands held) q r compares
      (graph_is ∙ ap Some (tuples_are around.layout n q r apart tuple_is.struct item_is.struct has.made element_is))
      (λ y u c other e function block at vs waits. (let place = subst (λ seen. Holds around.layout known g seen y u) of.item_is other in
      subst (λ c. Comes p arguments (Calling compares (y ∷ x ∷ []) waits (record core { function = function; block = block; at = at; vars = vs })) [] (Flag c) waits (record core { function = function; block = block; at = at; vars = vs })) e
      (tuples_are_told around.layout known apart r q parts others item_is tuple_is all_so has.made y x p numbers raised arguments (record core { function = function; block = block; at = at; vars = vs }) g world.heap world.left u v (is_equal u v) structs
      (has_to_kept p around.layout numbers raised before (record core { function = function; block = block; at = at; vars = vs }) statics steps (suc (all_levels all_so)) (Make (small.Equal r q)) has.made (has.tuples r element_is (suc (all_levels all_so)))) stands place held (equal_so y u place) waits)))

-- ---- the operation

-- the answer, or the opposite
abbrev turned : Bool → Bool → Bool
turned false t = t
turned true t = not t

module _ (reversed : Bool) (o : CmpOp) (known : Known) (around : Around) (place : Place) (a b : Operand) (w : Writing) (n : ℕ) (item : Element) (q r : ℕ) (parts others : List Element) (apart : is_tuple around.layout 0 ≡ false) (tuple_is : IsTuple around.layout a.element q others) (item_is : IsTuple around.layout (Some item) r parts) (all : AllAlike around.layout parts others) (of : IsList around known b.element n item) (flags : kind_seen place.element ≡ kind.Flag)
    (l : lower_list_op around (row.Compare o) place (a ∷ b ∷ []) w ≡ within around place reversed a b w) (means : (v u : Meant) (world : World) → meant_op known.program w.found.covered (row.Compare o) (v ∷ u ∷ []) world ≡ meant_within w.found.covered (turned reversed) v u world) where
  it : Ready around b w
  it = ready around b w of.is

  abbrev looks : Small
  looks = small.Listed (listed.Contains (type.Ptr q) n)

  abbrev first : Found
  first = all_asked (there_asks around b w.found.covered) w.found

  abbrev asks : List Ask
  asks = there_asks around b w.found.covered ++ Make looks ∷ []

  abbrev number : ℕ
  number = (small_number looks first).0

  abbrev types0 : List LlType
  types0 = w.body.types ++ it.new

  abbrev m1 : ℕ
  m1 = length types0

  abbrev m2 : ℕ
  m2 = length (types0 ++ type.Bool ∷ [])

  abbrev calls : LlOp
  calls = op.Call (Some m1) number (a.x ∷ it.x ∷ [])

  abbrev tail : Bool → List LlOp
  tail false = op.Set place.variable (Var m1) ∷ []
  tail true = op.Unary m2 unary.Not (Var m1) ∷ op.Set place.variable (Var m2) ∷ []

  abbrev more : Bool → List LlType
  more false = []
  more true = type.Bool ∷ []

  list_is : list_of around b ≡ n
  unfolding list_of
  list_is = ap pointed of.typed

  abbrev called_from : ℕ → COperand × Writing → Writing
  called_from k made = give_made around place type.Bool (taking made (λ y next. opposite_of reversed (by_small (small.Listed (listed.Contains (type.Ptr q) k)) type.Bool (a.x ∷ y ∷ []) next)))

  abbrev called : Writing
  called = writing (small_number looks first).1 (record { types = types0 ++ type.Bool ∷ []; ops = (w.body.ops ++ it.ops) ++ calls ∷ [] })

  turned_written : (r : Bool) → give_made around place type.Bool (opposite_of r (Var m1, called)) ≡ writing (small_number looks first).1 (record { types = (types0 ++ type.Bool ∷ []) ++ more r; ops = ((w.body.ops ++ it.ops) ++ calls ∷ []) ++ tail r })
  unfolding opposite_if
  turned_written false = gives_flag around place (Var m1) called (place_of_flags around.layout place.element flags)
      ∙ ap (λ ts. writing (small_number looks first).1 (record { types = ts; ops = ((w.body.ops ++ it.ops) ++ calls ∷ []) ++ tail false })) (sym (append-nil (types0 ++ type.Bool ∷ [])))
  turned_written true = gives_flag around place (Var m2) (writing (small_number looks first).1 (record { types = (types0 ++ type.Bool ∷ []) ++ type.Bool ∷ []; ops = ((w.body.ops ++ it.ops) ++ calls ∷ []) ++ op.Unary m2 unary.Not (Var m1) ∷ [] })) (place_of_flags around.layout place.element flags)
      ∙ ap (λ os. writing (small_number looks first).1 (record { types = (types0 ++ type.Bool ∷ []) ++ type.Bool ∷ []; ops = os })) (append_assoc ((w.body.ops ++ it.ops) ++ calls ∷ []) (op.Unary m2 unary.Not (Var m1) ∷ []) (op.Set place.variable (Var m2) ∷ []))

  is_written : lower_list_op around (row.Compare o) place (a ∷ b ∷ []) w ≡ writing (small_number looks first).1 (record { types = (types0 ++ type.Bool ∷ []) ++ more reversed; ops = ((w.body.ops ++ it.ops) ++ calls ∷ []) ++ tail reversed })
  unfolding within is_within by_small
  is_written = l ∙ ap (λ t. give_made around place type.Bool (taking (there around b w) (λ y next. opposite_of reversed (by_small (small.Listed (listed.Contains t (list_of around b))) type.Bool (a.x ∷ y ∷ []) next)))) tuple_is.typed ∙ ap (called_from (list_of around b)) it.written ∙ ap (λ k. called_from k (it.x, writing first (record { types = types0; ops = w.body.ops ++ it.ops }))) list_is ∙ turned_written reversed

  m1_is : m1 ≡ length w.body.types + length it.new
  m1_is = length-append w.body.types it.new

  m2_is : m2 ≡ m1 + 1
  m2_is = length-append types0 (type.Bool ∷ [])

  module _ (p : LlProgram) (numbers : Numbers) (raised : ℕ → Value) (arguments : List (List ℕ)) (rest : List LlOp) (e : LlExit) (frames : List Frame) (core : Core) (g : Ghost) (world : World)
      (structs : HasLayout p around.layout) (has : HasAll p around.layout numbers raised core asks w.found)
      (stands : Represents around.layout known g world.heap world.left core.blocks core.statics) (left : world.left ≡ core.steps)
      (room : length w.body.types + length (it.new ++ (type.Bool ∷ more reversed)) ≤ length core.vars) (inside : place.variable < length w.body.types) (below : AllBelow (length w.body.types) (a ∷ b ∷ [])) where
    abbrev Here : State
    Here = At (it.ops ++ (calls ∷ (tail reversed ++ rest))) e frames core

    abbrev Done : List Meant → Type 0
    Done vs = Follows 0 known around place p arguments Here rest e frames core g raised (references world.heap vs) (length w.body.types) world (meant_op known.program w.found.covered (row.Compare o) vs world)

    long : length (it.new ++ (type.Bool ∷ more reversed)) ≡ length it.new + suc (length (more reversed))
    long = length-append it.new (type.Bool ∷ more reversed)

    wide : length w.body.types + length it.new ≤ length core.vars
    wide = omega (arith, room, long)

    has_there : HasList p around.layout numbers raised core (there_asks around b w.found.covered) w.found
    has_there = there_has p around numbers raised core b w.found.covered w.found (has_first (Has p around.layout numbers raised core) (there_asks around b w.found.covered) (Make looks ∷ []) w.found has)

    has_graph : HasAmong p around.layout numbers raised core q n number
    has_graph = (has_second (Has p around.layout numbers raised core) (there_asks around b w.found.covered) (Make looks ∷ []) w.found has).0

    missing : (v u : Meant) → Holds around.layout known g a.element (operand core.vars a.x) v → Absent b.element (operand core.vars b.x) u → Done (v ∷ u ∷ [])
    missing v u held gone = subst (λ u. Done (v ∷ u ∷ [])) (sym gone.high)
        (subst (λ answer. Follows 0 known around place p arguments Here rest e frames core g raised (references world.heap (v ∷ Nothing ∷ [])) (length w.body.types) world answer) (sym (means v Nothing world ∙ (asks_of w.found.covered (turned reversed) v).none world))
        (it.misses 0 known place p numbers raised arguments (calls ∷ tail reversed) rest e frames core core g (references world.heap (v ∷ Nothing ∷ [])) (length w.body.types) world has_there gone.may gone.low))

    module _ (v u : Meant) (held : Holds around.layout known g a.element (operand core.vars a.x) v) (found_list : Listing around.layout known g b.element (operand core.vars b.x) u) where
      struct : is_list_struct around.layout n ≡ true
      struct = subst (λ k. is_list_struct around.layout k ≡ true) (ap pointed (sym found_list.typed ∙ of.typed)) found_list.struct

      home : slice_get g.homes found_list.i ≡ Some (record { sort = ListOf n; head = operand core.vars b.x })
      home = subst (λ k. slice_get g.homes found_list.i ≡ Some (record { sort = ListOf k; head = operand core.vars b.x })) (ap pointed (sym found_list.typed ∙ of.typed)) found_list.home

      list : ListAt around.layout known g world.heap world.left core.blocks core.statics n found_list.i (operand core.vars b.x)
      list = stands.lists n found_list.i (operand core.vars b.x) home struct

      went : Went p arguments Here (calls ∷ (tail reversed ++ rest)) e frames core (length w.body.types) it.x (operand core.vars b.x)
      went = it.enters p numbers raised arguments (calls ∷ (tail reversed ++ rest)) e frames core core has_there wide (found_set core.blocks core.statics (operand core.vars b.x) _ list.head_is) (found_there core.blocks core.statics (operand core.vars b.x) _ list.head_is)

      abbrev mid : Core
      mid = went.mid

      stands_mid : Represents around.layout known g world.heap world.left mid.blocks mid.statics
      stands_mid = subst (λ (c : Core). Represents around.layout known g world.heap world.left c.blocks c.statics) (sym went.passed.memory) stands

      mid_list : ListAt around.layout known g world.heap world.left mid.blocks mid.statics n found_list.i (operand core.vars b.x)
      mid_list = stands_mid.lists n found_list.i (operand core.vars b.x) home struct

      abbrev t : Bool
      t = is_among v mid_list.items

      same : operands mid.vars (a.x ∷ it.x ∷ []) ≡ operand core.vars a.x ∷ operand core.vars b.x ∷ []
      same = ap (λ q. q ∷ operand mid.vars it.x ∷ []) (operand_kept went.passed a.x below.0) ∙ ap (λ q. operand core.vars a.x ∷ q ∷ []) went.is

      set : any_unset (operand core.vars a.x ∷ operand core.vars b.x ∷ []) ≡ false
      set = ap (λ q. q || (is_unset (operand core.vars b.x) || false)) (held_set stands held) ∙ ap (λ q. q || false) (found_set core.blocks core.statics (operand core.vars b.x) _ list.head_is)

      abbrev told : Core
      told = after mid m1 (Flag t)

      asked : Leads p arguments 0 Here [] (At (tail reversed ++ rest) e frames told)
      asked = on went.way (calls_at same set (tells known around a b n q r item parts others apart tuple_is item_is all of p numbers raised arguments number structs struct core has_graph g world mid (ap (λ (c : Core). c.statics) went.passed.memory) (ap (λ (c : Core). c.steps) went.passed.memory) stands_mid found_list.i (operand core.vars b.x) mid_list (operand core.vars a.x) v held))

      told_long : length told.vars ≡ length core.vars
      told_long = length-set mid.vars m1 (Flag t) ∙ went.passed.room

      told_is : operand told.vars (Var m1) ≡ Flag t
      told_is = is_set_at mid m1 (Flag t) (let q = went.passed.room in omega (arith, room, long, m1_is, q))

      told_passed : Passed (length w.body.types) core told
      told_passed = sets_more m1 (Flag t) (omega (arith, m1_is)) went.passed

      ends : (r : Bool) → r ≡ reversed → (last : Core) × (Passed (length w.body.types) core last) × Leads p arguments 0 (At (tail r ++ rest) e frames told) [] (At rest e frames (after last place.variable (Flag (turned r t))))
      ends false q = (told, told_passed, sets (Flag t) told_is refl)
      ends true q = (
        after told m2 (Flag (not t)),
        sets_more m2 (Flag (not t)) (omega (arith, m1_is, m2_is)) told_passed,
        on (turns (Flag (not t)) (ap (unary_of unary.Not) told_is)) (sets (Flag (not t)) (is_set_at told m2 (Flag (not t)) (let s = long in let k = ap (λ r. length (more r)) q in omega (arith, room, s, k, m1_is, m2_is, told_long))) refl),
      )

      meant : meant_op known.program w.found.covered (row.Compare o) (v ∷ Ref found_list.i ∷ []) world ≡ Gives (MeantFlag (turned reversed t)) world
      meant = means v (Ref found_list.i) world ∙ (asks_of w.found.covered (turned reversed) v).there found_list.i world ∙ ap (λ o. flag_if_any (option_map (turned reversed) (is_in_object v o)) world) mid_list.object

      there_so : Done (v ∷ u ∷ [])
      there_so = (let it = ends reversed refl in subst (λ u. Done (v ∷ u ∷ [])) (sym found_list.high)
          (subst (λ answer. Follows 0 known around place p arguments Here rest e frames core g raised (references world.heap (v ∷ Ref found_list.i ∷ [])) (length w.body.types) world answer) (sym meant)
          (gives_flags around raised flags (references world.heap (v ∷ Ref found_list.i ∷ [])) (length w.body.types) it.0 (turned reversed t) stands left it.1 (omega (arith, room, inside)) (on asked it.2))))

    either : (v u : Meant) → Holds around.layout known g a.element (operand core.vars a.x) v → Listing around.layout known g b.element (operand core.vars b.x) u ⊎ Absent b.element (operand core.vars b.x) u → Done (v ∷ u ∷ [])
    either v u held (inl is) = there_so v u held is
    either v u held (inr gone) = missing v u held gone

    follow : (vs : List Meant) → Given known around g core (a ∷ b ∷ []) vs → Follows 0 known around place p arguments (At ((it.ops ++ (calls ∷ tail reversed)) ++ rest) e frames core) rest e frames core g raised (references world.heap vs) (length w.body.types) world (meant_op known.program w.found.covered (row.Compare o) vs world)
    follow [] given = absurd given
    follow (v ∷ []) given = absurd given.1
    follow (v ∷ u ∷ []) given =
        subst (λ l. Follows 0 known around place p arguments (At l e frames core) rest e frames core g raised (references world.heap (v ∷ u ∷ [])) (length w.body.types) world (meant_op known.program w.found.covered (row.Compare o) (v ∷ u ∷ []) world)) (sym (append_assoc it.ops (calls ∷ tail reversed) rest))
        (either v u given.0 (list_or_none of.is given.1.0))
    follow (v ∷ u ∷ s ∷ vs) given = absurd given.1.1

  among_done : IsDone (λ p. Has p around.layout) 0 known around (row.Compare o) w.found.covered asks (lower_list_op around (row.Compare o) place (a ∷ b ∷ []) w) place (a ∷ b ∷ []) w
  among_done = record {
    ops = it.ops ++ (calls ∷ tail reversed);
    new = it.new ++ (type.Bool ∷ more reversed);
    asked = ap (λ (r : Writing). r.found) is_written ∙ sym (asked_both (there_asks around b w.found.covered) (Make looks ∷ []) w.found);
    written = ap (λ (r : Writing). r.body.ops) is_written ∙ append_assoc (w.body.ops ++ it.ops) (calls ∷ []) (tail reversed) ∙ append_assoc w.body.ops it.ops (calls ∷ tail reversed);
    types = ap (λ (r : Writing). r.body.types) is_written ∙ append_assoc (w.body.types ++ it.new) (type.Bool ∷ []) (more reversed) ∙ append_assoc w.body.types it.new (type.Bool ∷ more reversed);
    follows = λ p numbers raised arguments rest e frames core g world vs structs has stands left room inside below given good. follow p numbers raised arguments rest e frames core g world structs has stands left room inside below vs given;
  }

-- ---- both

tuple_comes : {layout : Layout} {seen : Option Element} {n : ℕ} {parts : List Element} → IsTuple layout seen n parts → kind_seen seen ≡ kind.Tuple
tuple_comes is = ap kind_seen is.is

pub within_is : TuplesAreAmong compared.Within
unfolding lowered of_some of_two first_of_two second_of_two within_or
within_is known around place a b w n q r item parts others apart tuple_is item_is all of flags = among_done false compared.Within known around place a b w n item q r parts others apart tuple_is item_is all of flags
    (two_come around (row.Compare compared.Within) place a b w (ap never_comes (tuple_comes tuple_is)) (list_comes b of.is)
    ∙ ap (λ t. lowered_unless (t && not (is_none a)) around (row.Compare compared.Within) place (a ∷ b ∷ []) w) (not_none (kind_of b) of.is)
    ∙ ap (λ t. if t then first_of_two around (row.Compare compared.Within) place a b w else second_of_two around (row.Compare compared.Within) place a b w) (ap of_list (tuple_comes tuple_is))
    ∙ ap (λ t. if t then within around place false a b w else lower_op around (row.Compare compared.Within) place (a ∷ b ∷ []) w) of.is)
    (λ v u world. refl)

pub not_within_is : TuplesAreAmong compared.NotWithin
unfolding lowered of_some of_two first_of_two second_of_two within_or
not_within_is known around place a b w n q r item parts others apart tuple_is item_is all of flags = among_done true compared.NotWithin known around place a b w n item q r parts others apart tuple_is item_is all of flags
    (two_come around (row.Compare compared.NotWithin) place a b w (ap never_comes (tuple_comes tuple_is)) (list_comes b of.is)
    ∙ ap (λ t. lowered_unless (t && not (is_none a)) around (row.Compare compared.NotWithin) place (a ∷ b ∷ []) w) (not_none (kind_of b) of.is)
    ∙ ap (λ t. if t then first_of_two around (row.Compare compared.NotWithin) place a b w else second_of_two around (row.Compare compared.NotWithin) place a b w) (ap of_list (tuple_comes tuple_is))
    ∙ ap (λ t. if t then within around place true a b w else lower_op around (row.Compare compared.NotWithin) place (a ∷ b ∷ []) w) of.is)
    (λ v u world. refl)

-- Lists of the keys, or the values, of dicts.
use Rattle.std.proofs.Common.{◌≡◌, ◌<◌, ◌≤◌, ℕ, ◌+◌, ◌-◌, ◌⊎◌, inl, inr, false, ◌||◌, List, [], ◌∷◌, ◌++◌, length, Option, Some, refl, sym, ap, ◌∙◌, subst, arith, append_assoc, length-append}
use Rattle.std.specs.Prelude.{slice_get, if◌then◌else◌, codes, nat_lt}
use Rattle.std.proofs.lemmas.List.{length-map}
use Rattle.ann_element.specs.declared.element.Element.{Element}
use Rattle.rpy_base.specs.declared.outcome.FailName.TheVariants as fail
use Rattle.csub_tree.specs.State.{Value, Core}
use Rattle.csub_tree.specs.Statement.{operand, operands, any_unset}
use Rattle.csub_tree.specs.declared.tree.COperand.TheVariants.{Var}
use Rattle.rpy_tree.specs.Value.{Value as Meant, Mapped, Nothing, Ref, Listed as ListedObject, Heap}
use Rattle.rpy_meaning.specs.declared.row.RowOp.{RowOp}
use Rattle.rpy_meaning.specs.declared.row.RowOp.TheVariants as row
use Rattle.rpy_meaning.specs.Operations.{op as meant_op, object_method}
use Rattle.rpy_meaning.specs.Walks.{walk_object}
use Rattle.rpy_meaning.specs.World.{World, Gives, Lacks, failure}
use Rattle.ll_code.specs.State.{Frame, State, At}
use Rattle.ll_code.specs.declared.program.LlType.{LlType}
use Rattle.ll_code.specs.declared.program.LlType.TheVariants as type
use Rattle.ll_code.specs.declared.program.LlOp.{LlOp}
use Rattle.ll_code.specs.declared.program.LlOp.TheVariants as op
use Rattle.ll_code.specs.declared.program.LlExit.{LlExit}
use Rattle.ll_code.specs.declared.program.LlProgram.{LlProgram}
use Rattle.ll_build.specs.declared.needs.Numbers.{Numbers}
use Rattle.rtyper_layout.specs.declared.dicts.Mapping.{Mapping}
use Rattle.rtyper_layout.specs.declared.kind.Kind.TheVariants as kind
use Rattle.rtyper_data.specs.declared.found.Found.{Found}
use Rattle.rtyper_data.specs.declared.small.Keyed.{Keyed}
use Rattle.rtyper_data.specs.declared.small.Keyed.TheVariants as keyed
use Rattle.rtyper_data.specs.declared.small.Small.{Small}
use Rattle.rtyper_data.specs.declared.small.Small.TheVariants as small
use Rattle.rtyper_data.specs.Converting.{by_small}
use Rattle.rtyper_data.specs.Finding.{small_number}
use Rattle.rtyper_data.specs.Seen.{Around, Operand, Place, kind_of, set, type_at, Writing, writing}
use Rattle.list_shape.specs.Shapes.{taking}
use Rattle.rtyper_dict.specs.Lowering.{list as list_op, list_if, list_named, list_to, lower_dict_op, method_of_one, of_dict, of_dict_or, of_first, of_one}
use Rattle.rtyper_dict.specs.Operands.{dict_of, dict_pointed, list_at, pointed, shape_in}
use Rattle.rtyper_dict.specs.Parts.{shape_of}
use Rattle.lower_laws.specs.Asked.{Ask, Make, all_asked}
use Rattle.list_laws.proofs.Indexed.{asked_both}
use Rattle.dict_op_laws.specs.Dicts.{IsDictOf, there_asks}
use Rattle.dict_op_laws.proofs.Lengths.{same_kind}
use Rattle.object_laws.specs.Dicts.{DictAt, keys_of, values_of}
use Rattle.object_laws.specs.Done.{Follows, HasLayout, items_in, references}
use Rattle.object_laws.specs.Ghost.{Ghost, DictOf}
use Rattle.object_laws.specs.Known.{Known}
use Rattle.object_laws.specs.Represents.{Represents}
use Rattle.object_laws.specs.Staying.{Stays}
use Rattle.object_laws.specs.Values.{Given}
use Rattle.object_laws.proofs.Blocks.{found_set, found_there}
use Rattle.object_laws.proofs.Valued.{Dicting, Gone, dict_or_none}
use Rattle.list_copy_laws.specs.Joined.{Takes}
use Rattle.list_copy_laws.proofs.Newly.{after_list, list_given}
use Rattle.list_copy_laws.proofs.Ready.{Went as Reached, from_there}
use Rattle.dict_find_laws.specs.Asked.{Has, HasAll, HasListing}
use Rattle.dict_find_laws.specs.Listings.{IsListed, KeysAre, MethodsListKeys, MethodsListValues, WalksListKeys}
use Rattle.dict_find_laws.specs.Lookups.{HasValues}
use Rattle.dict_find_laws.proofs.Arriving.{own_number}
use Rattle.dict_find_laws.proofs.Entries.{Calls, keys_are_made, values_are_made}
use Rattle.dict_find_laws.proofs.Places.{pairs_long}
use Rattle.dict_find_laws.proofs.Ready.{Ready, ready}
use Rattle.dict_find_laws.proofs.Stage.{has_first, has_more}

module _ (graph : ℕ → Keyed) (column : List (Meant × Meant) → List Meant) (counted : (pairs : List (Meant × Meant)) → length (column pairs) ≡ length pairs) (o : RowOp) (known : Known) (around : Around) (place : Place) (a : Operand) (w : Writing) (n l : ℕ) (m : Mapping) (item : Element) (is : IsDictOf around a n m) (takes : Takes around known place l item)
    (lowered : lower_dict_op around o place (a ∷ []) w ≡ list_op around place (graph m.dict) a w)
    (means : (i : ℕ) (pairs : List (Meant × Meant)) (world : World) → slice_get world.heap i ≡ Some (Mapped pairs) → meant_op known.program w.found.covered o (Ref i ∷ []) world ≡ after_list world (column pairs))
    (means_none : (world : World) → meant_op known.program w.found.covered o (Nothing ∷ []) world ≡ failure w.found.covered.attribute 9 fail.Attribute world)
    (listing : (p : LlProgram) (numbers : Numbers) (raised : ℕ → Value) (core : Core) (found : Found) → Has p around.layout numbers raised core (Make (small.Keyed (graph n))) found → HasListing p around.layout raised (graph n) l (small_number (small.Keyed (graph n)) found).0)
    (calls_it : (p : LlProgram) (args : List (List ℕ)) (raised : ℕ → Value) (f : ℕ) (core : Core) (g : Ghost) (heap : Heap) (left i : ℕ) (head : Value) (structs : HasLayout p around.layout) (stands : Represents around.layout known g heap left core.blocks core.statics) (steps : left ≡ core.steps)
    (d : DictAt around.layout known g heap core.blocks core.statics m i head) → HasListing p around.layout raised (graph n) l f → Calls around.layout known p args raised l f m core g heap left i head takes.struct structs n is.mapping stands steps d (column d.pairs)) where
  it : Ready around a w
  it = ready around a w is.dicts

  abbrev first : Found
  first = all_asked (there_asks around a w.found.covered) w.found

  abbrev lists : Small
  lists = small.Keyed (graph n)

  abbrev asks : List Ask
  asks = there_asks around a w.found.covered ++ Make lists ∷ []

  abbrev number : ℕ
  number = (small_number lists first).0

  abbrev types0 : List LlType
  types0 = w.body.types ++ it.new

  abbrev m1 : ℕ
  m1 = length types0

  abbrev calls : LlOp
  calls = op.Call (Some m1) number (it.x ∷ [])

  abbrev puts : LlOp
  puts = op.Set place.variable (Var m1)

  abbrev called_from : ℕ → Writing
  called_from k = set place.variable (by_small (small.Keyed (graph k)) (type.Ptr l) (it.x ∷ []) (writing first (record { types = types0; ops = w.body.ops ++ it.ops })))

  is_written : lower_dict_op around o place (a ∷ []) w ≡ writing (small_number lists first).1 (record { types = types0 ++ type.Ptr l ∷ []; ops = ((w.body.ops ++ it.ops) ++ calls ∷ []) ++ puts ∷ [] })
  unfolding list_op by_small
  is_written = lowered ∙ ap (λ made. taking made (λ x next. list_to around place (graph m.dict) x (type_at around place) next)) it.written
      ∙ ap (λ t. list_to around place (graph m.dict) it.x t (writing first (record { types = types0; ops = w.body.ops ++ it.ops }))) takes.list.typed ∙ ap called_from (own_number around.layout.mappings n m is.mapping)

  m1_is : m1 ≡ length w.body.types + length it.new
  m1_is = length-append w.body.types it.new

  new_long : length (it.new ++ type.Ptr l ∷ []) ≡ length it.new + 1
  new_long = length-append it.new (type.Ptr l ∷ [])

  module _ (p : LlProgram) (numbers : Numbers) (raised : ℕ → Value) (arguments : List (List ℕ)) (rest : List LlOp) (e : LlExit) (frames : List Frame) (core : Core) (g : Ghost) (world : World)
      (structs : HasLayout p around.layout) (has : HasAll p around.layout numbers raised core asks w.found)
      (stands : Represents around.layout known g world.heap world.left core.blocks core.statics) (left : world.left ≡ core.steps)
      (room : length w.body.types + length (it.new ++ type.Ptr l ∷ []) ≤ length core.vars) (inside : place.variable < length w.body.types) where
    abbrev Here : State
    Here = At (it.ops ++ (calls ∷ puts ∷ rest)) e frames core

    abbrev Done : List Meant → Type 0
    Done vs = Follows 2 known around place p arguments Here rest e frames core g raised (references world.heap vs) (length w.body.types) world (meant_op known.program w.found.covered o vs world)

    has_there : HasAll p around.layout numbers raised core (there_asks around a w.found.covered) w.found
    has_there = has_first p around numbers raised core (there_asks around a w.found.covered) (Make lists ∷ []) w.found has

    has_graph : HasListing p around.layout raised (graph n) l number
    has_graph = listing p numbers raised core first (has_more p around numbers raised core (there_asks around a w.found.covered) (Make lists ∷ []) w.found has).0

    module _ (v : Meant) where
      no_dict : Gone kind.MaybeDict a.element (operand core.vars a.x) v → Done (v ∷ [])
      no_dict gone = subst (λ v. Done (v ∷ [])) (sym gone.high)
          (subst (λ answer. Follows 2 known around place p arguments Here rest e frames core g raised (references world.heap (Nothing ∷ [])) (length w.body.types) world answer) (sym (means_none world))
          (it.misses 2 known place p numbers raised arguments (calls ∷ puts ∷ []) rest e frames core core g (references world.heap (Nothing ∷ [])) (length w.body.types) world has_there gone.may gone.low))

      module _ (found_dict : Dicting around.layout known g a.element (operand core.vars a.x) v) where
        home : slice_get g.homes found_dict.i ≡ Some (record { sort = DictOf n; head = operand core.vars a.x })
        home = subst (λ k. slice_get g.homes found_dict.i ≡ Some (record { sort = DictOf k; head = operand core.vars a.x })) (ap pointed (sym found_dict.typed ∙ is.typed)) found_dict.home

        dict : DictAt around.layout known g world.heap core.blocks core.statics m found_dict.i (operand core.vars a.x)
        dict = stands.dicts n found_dict.i (operand core.vars a.x) m home is.mapping

        went : Reached p arguments Here (calls ∷ puts ∷ rest) e frames core (length w.body.types) it.x (operand core.vars a.x)
        went = it.enters p numbers raised arguments (calls ∷ puts ∷ rest) e frames core core has_there (omega (arith, room, new_long)) (found_set core.blocks core.statics (operand core.vars a.x) _ dict.head_is) (found_there core.blocks core.statics (operand core.vars a.x) _ dict.head_is)

        abbrev mid : Core
        mid = went.mid

        stands_mid : Represents around.layout known g world.heap world.left mid.blocks mid.statics
        stands_mid = subst (λ (c : Core). Represents around.layout known g world.heap world.left c.blocks c.statics) (sym went.passed.memory) stands

        left_mid : world.left ≡ mid.steps
        left_mid = left ∙ sym (ap (λ (c : Core). c.steps) went.passed.memory)

        d : DictAt around.layout known g world.heap mid.blocks mid.statics m found_dict.i (operand core.vars a.x)
        d = stands_mid.dicts n found_dict.i (operand core.vars a.x) m home is.mapping

        enough : length d.pairs + 1 ≤ references world.heap (Ref found_dict.i ∷ [])
        enough = (let k : items_in (slice_get world.heap found_dict.i) ≡ items_in (Some (Mapped d.pairs)) = ap items_in d.object in omega (arith, k))

        same : operands mid.vars (it.x ∷ []) ≡ operand core.vars a.x ∷ []
        same = ap (λ q. q ∷ []) went.is

        set_so : any_unset (operand core.vars a.x ∷ []) ≡ false
        set_so = ap (λ b. b || false) (found_set core.blocks core.statics (operand core.vars a.x) _ dict.head_is)

        made : Calls around.layout known p arguments raised l number m mid g world.heap world.left found_dict.i (operand core.vars a.x) takes.struct structs n is.mapping stands_mid left_mid d (column d.pairs)
        made = calls_it p arguments raised number mid g world.heap world.left found_dict.i (operand core.vars a.x) structs stands_mid left_mid d has_graph

        there_so : Done (v ∷ [])
        there_so = subst (λ v. Done (v ∷ [])) (sym found_dict.high)
            (subst (λ answer. Follows 2 known around place p arguments Here rest e frames core g raised (references world.heap (Ref found_dict.i ∷ [])) (length w.body.types) world answer) (sym (means found_dict.i d.pairs world d.object))
            (from_there 2 known around place p arguments rest e frames core g raised (references world.heap (Ref found_dict.i ∷ [])) (length w.body.types) world (omega arith) went (after_list world (column d.pairs))
            (list_given known around place l takes.list.is takes.list.typed takes.struct p raised arguments rest e frames mid g (references world.heap (Ref found_dict.i ∷ [])) (length w.body.types) world number m1 (it.x ∷ []) (operand core.vars a.x ∷ [])
            (column d.pairs) (length d.pairs + 1) same set_so (omega (arith, inside, m1_is)) (let q = went.passed.room in omega (arith, room, new_long, m1_is, q)) (omega (arith, m1_is)) made.0 (λ suffices. (enough, made.1 suffices)))))

      either : Dicting around.layout known g a.element (operand core.vars a.x) v ⊎ Gone kind.MaybeDict a.element (operand core.vars a.x) v → Done (v ∷ [])
      either (inl it) = there_so it
      either (inr gone) = no_dict gone

    follow : (vs : List Meant) → Given known around g core (a ∷ []) vs → Follows 2 known around place p arguments (At ((it.ops ++ (calls ∷ puts ∷ [])) ++ rest) e frames core) rest e frames core g raised (references world.heap vs) (length w.body.types) world (meant_op known.program w.found.covered o vs world)
    follow [] given = absurd given
    follow (v ∷ []) given =
        subst (λ l. Follows 2 known around place p arguments (At l e frames core) rest e frames core g raised (references world.heap (v ∷ [])) (length w.body.types) world (meant_op known.program w.found.covered o (v ∷ []) world)) (sym (append_assoc it.ops (calls ∷ puts ∷ []) rest))
        (either v (dict_or_none (sym (same_kind (kind_of a)) ∙ is.dicts) given.0))
    follow (v ∷ u ∷ vs) given = absurd given.1

  listed_done : IsListed known around o w.found.covered asks place (a ∷ []) w
  listed_done = record {
    ops = it.ops ++ (calls ∷ puts ∷ []);
    new = it.new ++ type.Ptr l ∷ [];
    asked = ap (λ (r : Writing). r.found) is_written ∙ sym (asked_both (there_asks around a w.found.covered) (Make lists ∷ []) w.found);
    written = ap (λ (r : Writing). r.body.ops) is_written ∙ append_assoc (w.body.ops ++ it.ops) (calls ∷ []) (puts ∷ []) ∙ append_assoc w.body.ops it.ops (calls ∷ puts ∷ []);
    types = ap (λ (r : Writing). r.body.types) is_written ∙ append_assoc w.body.types it.new (type.Ptr l ∷ []);
    follows = λ p numbers raised arguments rest e frames core g world vs structs has stands left room inside below given good. follow p numbers raised arguments rest e frames core g world structs has stands left room inside vs given;
  }

-- ---- what it costs

-- so many keys or values
costs : (world : World) (vs : List Meant) (k : ℕ) → length vs ≡ k → (if nat_lt world.left (1 + k) then Lacks else Gives (Ref (length world.heap)) (record world { heap = world.heap ++ ListedObject vs ∷ []; left = world.left - (1 + k) })) ≡ after_list world vs
costs world vs k h = ap (λ k. if nat_lt world.left (1 + k) then Lacks else Gives (Ref (length world.heap)) (record world { heap = world.heap ++ ListedObject vs ∷ []; left = world.left - (1 + k) })) (sym h)

value_count : (pairs : List (Meant × Meant)) → length (values_of pairs) ≡ length pairs
value_count pairs = length-map pairs (λ (q : Meant × Meant). q.1)

module _ (known : Known) (around : Around) (place : Place) (a : Operand) (w : Writing) (n l : ℕ) (m : Mapping) (item : Element) (is : IsDictOf around a n m) (takes : Takes around known place l item) where
  shape_so : dict_of around a ≡ Some (shape_of m)
  unfolding dict_of
  shape_so = ap (dict_pointed around.layout) is.typed ∙ ap shape_in is.mapping

  struct_so : list_at around place ≡ l
  unfolding list_at
  struct_so = ap pointed takes.list.typed

  module _ (name : List ℕ) (site : Option ℕ) where
    keys_written : list_named name m.dict (list_at around place) ≡ Some (keyed.Keys m.dict (list_at around place)) → lower_dict_op around (row.Method name site) place (a ∷ []) w ≡ list_op around place (keyed.Keys m.dict l) a w
    unfolding lower_dict_op of_first of_dict of_one method_of_one shape_of
    keys_written named = ap (λ o. of_dict_or around (row.Method name site) place o (a ∷ []) w) shape_so ∙ ap (λ g. list_if around place g a w) named ∙ ap (λ k. list_op around place (keyed.Keys m.dict k) a w) struct_so

    values_written : list_named name m.dict (list_at around place) ≡ Some (keyed.Values m.dict (list_at around place)) → lower_dict_op around (row.Method name site) place (a ∷ []) w ≡ list_op around place (keyed.Values m.dict l) a w
    unfolding lower_dict_op of_first of_dict of_one method_of_one shape_of
    values_written named = ap (λ o. of_dict_or around (row.Method name site) place o (a ∷ []) w) shape_so ∙ ap (λ g. list_if around place g a w) named ∙ ap (λ k. list_op around place (keyed.Values m.dict k) a w) struct_so

  walk_written : (site : ℕ) → lower_dict_op around (row.Walk site) place (a ∷ []) w ≡ list_op around place (keyed.Keys m.dict l) a w
  unfolding lower_dict_op of_first of_dict of_one shape_of
  walk_written site = ap (λ o. of_dict_or around (row.Walk site) place o (a ∷ []) w) shape_so ∙ ap (λ k. list_op around place (keyed.Keys m.dict k) a w) struct_so

  -- ---- keys

  module _ (key : Element) (keys : KeysAre around known m key) (stay : Stays around.layout known (Some key) (Some item)) (o : RowOp)
      (lowered : lower_dict_op around o place (a ∷ []) w ≡ list_op around place (keyed.Keys m.dict l) a w)
      (means : (i : ℕ) (pairs : List (Meant × Meant)) (world : World) → slice_get world.heap i ≡ Some (Mapped pairs) → meant_op known.program w.found.covered o (Ref i ∷ []) world ≡ after_list world (keys_of pairs))
      (means_none : (world : World) → meant_op known.program w.found.covered o (Nothing ∷ []) world ≡ failure w.found.covered.attribute 9 fail.Attribute world) where
    keys_done : IsListed known around o w.found.covered (there_asks around a w.found.covered ++ Make (small.Keyed (keyed.Keys n l)) ∷ []) place (a ∷ []) w
    keys_done = listed_done (λ n. keyed.Keys n l) keys_of pairs_long o known around place a w n l m item is takes lowered means means_none (λ p numbers raised core found h. h)
        (λ p args raised f core g heap left i head structs stands steps d asked. keys_are_made around.layout known p args raised l f m core g heap left i head takes.struct structs n is.mapping stands steps d key item stay takes.list.item_is takes.list.items keys.key_is keys.typed asked)

  -- ---- values

  module _ (value : Element) (values : HasValues around known m value) (stay : Stays around.layout known (Some value) (Some item)) (o : RowOp)
      (lowered : lower_dict_op around o place (a ∷ []) w ≡ list_op around place (keyed.Values m.dict l) a w)
      (means : (i : ℕ) (pairs : List (Meant × Meant)) (world : World) → slice_get world.heap i ≡ Some (Mapped pairs) → meant_op known.program w.found.covered o (Ref i ∷ []) world ≡ after_list world (values_of pairs))
      (means_none : (world : World) → meant_op known.program w.found.covered o (Nothing ∷ []) world ≡ failure w.found.covered.attribute 9 fail.Attribute world) where
    values_done : IsListed known around o w.found.covered (there_asks around a w.found.covered ++ Make (small.Keyed (keyed.Values n l)) ∷ []) place (a ∷ []) w
    values_done = listed_done (λ n. keyed.Values n l) values_of value_count o known around place a w n l m item is takes lowered means means_none (λ p numbers raised core found h. h)
        (λ p args raised f core g heap left i head structs stands steps d asked. values_are_made around.layout known p args raised l f m core g heap left i head takes.struct structs n is.mapping stands steps d value item stay takes.list.item_is takes.list.items values.value_is values.typed asked)

-- ---- all of them

pub keys_are_listed : MethodsListKeys (codes "keys")
keys_are_listed site known around place a w n l m key item is keys takes stay = keys_done known around place a w n l m item is takes key keys stay (row.Method (codes "keys") site) (keys_written known around place a w n l m item is takes (codes "keys") site refl)
    (λ i pairs world object. ap (λ o. object_method known.program w.found.covered (codes "keys") i [] o world) object ∙ costs world (keys_of pairs) (length pairs) (pairs_long pairs)) (λ world. refl)

pub iterated_keys_are_listed : MethodsListKeys (codes "iterkeys")
iterated_keys_are_listed site known around place a w n l m key item is keys takes stay = keys_done known around place a w n l m item is takes key keys stay (row.Method (codes "iterkeys") site) (keys_written known around place a w n l m item is takes (codes "iterkeys") site refl)
    (λ i pairs world object. ap (λ o. object_method known.program w.found.covered (codes "iterkeys") i [] o world) object ∙ costs world (keys_of pairs) (length pairs) (pairs_long pairs)) (λ world. refl)

pub walked_keys_are_listed : WalksListKeys
walked_keys_are_listed site known around place a w n l m key item is keys takes stay = keys_done known around place a w n l m item is takes key keys stay (row.Walk site) (walk_written known around place a w n l m item is takes site)
    (λ i pairs world object. ap (λ o. walk_object i o world) object ∙ costs world (keys_of pairs) (length pairs) (pairs_long pairs)) (λ world. refl)

pub values_are_listed : MethodsListValues (codes "values")
values_are_listed site known around place a w n l m value item is values takes stay = values_done known around place a w n l m item is takes value values stay (row.Method (codes "values") site) (values_written known around place a w n l m item is takes (codes "values") site refl)
    (λ i pairs world object. ap (λ o. object_method known.program w.found.covered (codes "values") i [] o world) object ∙ costs world (values_of pairs) (length pairs) (value_count pairs)) (λ world. refl)

pub iterated_values_are_listed : MethodsListValues (codes "itervalues")
iterated_values_are_listed site known around place a w n l m value item is values takes stay = values_done known around place a w n l m item is takes value values stay (row.Method (codes "itervalues") site) (values_written known around place a w n l m item is takes (codes "itervalues") site refl)
    (λ i pairs world object. ap (λ o. object_method known.program w.found.covered (codes "itervalues") i [] o world) object ∙ costs world (values_of pairs) (length pairs) (value_count pairs)) (λ world. refl)

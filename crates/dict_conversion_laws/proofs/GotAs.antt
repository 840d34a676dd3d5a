-- The graph that gives the value of a key, converted, or another value.
use Rattle.std.proofs.Common.{◌≡◌, ◌≤◌, ℕ, suc, ◌+◌, ◌-◌, ◌||◌, false, List, [], ◌∷◌, ◌++◌, length, Option, Some, None, pos, refl, sym, ap, ◌∙◌, subst, arith, length-append}
use Rattle.std.specs.Prelude.{slice_get, replicate, cond}
use Rattle.std.proofs.lemmas.List.{append-nil, length-replicate}
use Rattle.ann_element.specs.declared.element.Element.{Element}
use Rattle.csub_tree.specs.State.{Value, Unset, Word, Flag, Core}
use Rattle.csub_tree.specs.Operation.{is_unset}
use Rattle.csub_tree.specs.Statement.{operand}
use Rattle.csub_tree.specs.declared.tree.COperand.{COperand}
use Rattle.csub_tree.specs.declared.tree.COperand.TheVariants.{Var}
use Rattle.rpy_tree.specs.Value.{Value as Meant, Heap}
use Rattle.ll_build.specs.declared.needs.Numbers.{Numbers}
use Rattle.csub_tree.specs.declared.stuck.StuckReason.TheVariants.{Unset as IsUnset}
use Rattle.ll_code.specs.State.{Frame, Calling, At, Returning, Goes, Sticks}
use Rattle.ll_code.specs.declared.program.LlType.{LlType}
use Rattle.ll_code.specs.declared.program.LlOp.TheVariants as op
use Rattle.ll_code.specs.declared.program.LlExit.{LlExit}
use Rattle.ll_code.specs.declared.program.LlExit.TheVariants as exit
use Rattle.ll_code.specs.declared.program.LlProgram.{LlProgram}
use Rattle.ll_leads.specs.Memory.{forgotten}
use Rattle.ll_leads.specs.Path.{Leads}
use Rattle.ll_leads.proofs.Joined.{leads_then, leads_more}
use Rattle.ll_leads.proofs.Ways.{Comes, on, one, many, enter, gives}
use Rattle.ll_texts.proofs.Numbers.{less_false}
use Rattle.list_shape.specs.Shapes.{gives as gives_block}
use Rattle.rtyper_layout.specs.declared.dicts.Mapping.{Mapping}
use Rattle.rtyper_layout.specs.declared.layout.Layout.{Layout}
use Rattle.rtyper_layout.specs.Dicts.{stored_value}
use Rattle.rtyper_layout.specs.Layout.{is_tuple}
use Rattle.rtyper_layout.specs.Types.{type_seen}
use Rattle.rtyper_data.specs.declared.body.Body.{Body}
use Rattle.rtyper_data.specs.declared.found.Found.{Found}
use Rattle.rtyper_data.specs.declared.small.Keyed.TheVariants as keyed
use Rattle.rtyper_data.specs.Converting.{value_as}
use Rattle.rtyper_data.specs.Graphs.{body_of}
use Rattle.rtyper_data.specs.Seen.{Writing, writing}
use Rattle.rtyper_dict.specs.Listing.{get, get_asks, get_blocks, get_given, get_graph, get_types, got, read_as}
use Rattle.rtyper_dict.specs.Parts.{keyed_number}
use Rattle.lower_laws.specs.Values.{IsBelow}
use Rattle.object_laws.specs.Dicts.{as_item}
use Rattle.object_laws.specs.Done.{AllAsked, HasLayout}
use Rattle.object_laws.specs.Ghost.{Ghost, Grown}
use Rattle.object_laws.specs.Known.{Known}
use Rattle.object_laws.specs.Represents.{Represents}
use Rattle.object_laws.specs.Values.{Holds}
use Rattle.object_laws.proofs.Passing.{calls_at}
use Rattle.object_laws.proofs.Valued.{held_set}
use Rattle.conversion_laws.specs.Asked.{Has as HasConversion, asks_for}
use Rattle.conversion_laws.specs.Converted.{Came as Converts, IsConverted, converted, items_in, tuples_in}
use Rattle.conversion_laws.specs.Going.{Goes as GoesTo}
use Rattle.conversion_laws.proofs.Converting.{values_are_converted}
use Rattle.dict_find_laws.specs.Asked.{valued}
use Rattle.dict_find_laws.specs.Finding.{place_word}
use Rattle.dict_find_laws.proofs.Got.{back, start_body, whole}
use Rattle.dict_find_laws.proofs.Ready.{Went as Arrives}
use Rattle.dict_find_laws.proofs.Restored.{IsOf, Restored}
use Rattle.dict_conversion_laws.proofs.Operands.{below_more}

unset_more : (k : ℕ) (j : ℕ) → j ≡ suc (suc (suc k)) → replicate j Unset ≡ Unset ∷ Unset ∷ Unset ∷ replicate k Unset
unset_more k j h = ap (λ j. replicate j Unset) h

module _ (layout : Layout) (known : Known) (m : Mapping) (value : Element) (to : Option Element) (typed : type_seen layout (Some value) ≡ m.value) (go : GoesTo layout known (Some value) to) (apart : is_tuple layout 0 ≡ false) (made : Found) where
  abbrev t : LlType
  t = type_seen layout to

  abbrev pub reads_number : ℕ
  reads_number = (keyed_number (keyed.Value m.dict) made).0

  abbrev pub next : Found
  next = (keyed_number (keyed.Value m.dict) made).1

  pub b : Restored (stored_value m) m.value (Var 5) (start_body m t reads_number)
  b = back m t reads_number

  abbrev w_back : Writing
  w_back = writing next (record { types = get_types (whole m t) t ++ b.new; ops = op.Call (Some 5) reads_number (Var 0 ∷ Var 3 ∷ []) ∷ b.ops })

  pub v : IsConverted (λ p. HasConversion p layout) known layout (Some value) to (asks_for layout (type_seen layout (Some value)) t) b.y w_back
  v = values_are_converted known layout (Some value) to b.y w_back apart go

  abbrev pub z : COperand
  z = (converted layout (Some value) to b.y w_back).0

  abbrev pub w3 : Writing
  w3 = (converted layout (Some value) to b.y w_back).1

  got_is : got layout (whole m t) t (writing made (body_of (get_types (whole m t) t))) ≡ (z, w3)
  unfolding got b
  got_is = ap (read_as layout m.value t next) b.written ∙ ap (λ s. value_as layout b.y s t w_back) (sym typed)

  pub valued_is : valued layout (whole m t) t made ≡ w3.found
  valued_is = ap (λ (g : COperand × Writing). g.1.found) got_is

  abbrev pub the_body : Body
  the_body = record { types = (get_types (whole m t) t ++ b.new) ++ v.new; ops = op.Call (Some 5) reads_number (Var 0 ∷ Var 3 ∷ []) ∷ (b.ops ++ v.ops) }

  pub get_is : (get layout (whole m t) t made).0 ≡ get_graph (keyed_number (keyed.Find m.dict) w3.found).0 z t the_body
  unfolding get
  get_is = ap (λ (g : COperand × Writing). get_graph (keyed_number (keyed.Find m.dict) g.1.found).0 g.0 t g.1.body) got_is
      ∙ ap (λ ts. get_graph (keyed_number (keyed.Find m.dict) w3.found).0 z t (record { types = ts; ops = w3.body.ops })) v.types
      ∙ ap (λ os. get_graph (keyed_number (keyed.Find m.dict) w3.found).0 z t (record { types = the_body.types; ops = os })) v.written

  -- what it gives
  pub record Gave (p : LlProgram) (args : List (List ℕ)) (f : ℕ) (xs : List Value) (core : Core) (g : Ghost) (heap : Heap) (left : ℕ) (u : Meant) (waits : List Frame) : Type 0 where
    pub end : Core
    pub low : Value
    pub ghost : Ghost
    pub grown : Grown g ghost
    pub stands : Represents layout known ghost heap left end.blocks end.statics
    pub held : Holds layout known ghost to low u
    pub few : length end.blocks ≤ length core.blocks + tuples_in to
    pub memory : forgotten end ≡ forgotten (record core { blocks = end.blocks })
    pub leads : Leads p args (items_in to) (Calling f xs waits core) [] (Returning low waits end)

  module _ (p : LlProgram) (args : List (List ℕ)) (f finds : ℕ) (graph : slice_get p.graphs f ≡ Some (get_graph finds z t the_body)) (core : Core) (head x other : Value) (head_set : is_unset head ≡ false) (x_set : is_unset x ≡ false) (other_set : is_unset other ≡ false) where
    abbrev count : ℕ
    count = length b.new + length v.new

    abbrev more : List Value
    more = replicate count Unset

    abbrev begun : List Value → Core
    begun vars = record core { function = f; block = 0; at = 0; vars = vars }

    abbrev Finds : Option ℕ → Type 0
    Finds o = (function block at : ℕ) (vars : List Value) (waits : List Frame) → Comes p args (Calling finds (head ∷ x ∷ []) waits (record core { function = function; block = block; at = at; vars = vars })) [] (place_word o) waits (record core { function = function; block = block; at = at; vars = vars })

    long : length the_body.types - 3 ≡ suc (suc (suc count))
    unfolding get_types
    long = (let q = length-append (get_types (whole m t) t ++ b.new) v.new in let k = length-append (get_types (whole m t) t) b.new in omega (arith, q, k))

    starts : (waits : List Frame) → Leads p args 0 (Calling f (head ∷ x ∷ other ∷ []) waits core) [] (At (get_asks finds).ops (get_asks finds).exit waits (begun (head ∷ x ∷ other ∷ Unset ∷ Unset ∷ Unset ∷ more)))
    unfolding get_graph get_blocks get_asks get_given
    starts waits = subst (λ vs. Leads p args 0 (Calling f (head ∷ x ∷ other ∷ []) waits core) [] (At (get_asks finds).ops (get_asks finds).exit waits (begun (head ∷ x ∷ other ∷ vs)))) (unset_more count (length the_body.types - 3) long) (enter graph refl)

    sets_both : is_unset head || (is_unset x || false) ≡ false
    sets_both = ap (λ b. b || (is_unset x || false)) head_set ∙ ap (λ b. b || false) x_set

    -- a key that is missing
    pub gives_other : Finds None → (waits : List Frame) → Comes p args (Calling f (head ∷ x ∷ other ∷ []) waits core) [] other waits core
    unfolding get_graph get_blocks get_asks get_given gives_block
    gives_other found waits = record { end = _; same = refl; leads = on (starts waits) (on (calls_at refl sets_both (λ waits. found _ _ _ _ waits)) (many 3 graph refl (ap (λ b. b || (b || false)) other_set))) }

    module _ (i : ℕ) (low : Value) (u : Meant) (low_set : is_unset low ≡ false) (of : IsOf m.value low)
        (fetched : (function block at : ℕ) (vars : List Value) (waits : List Frame) → Comes p args (Calling reads_number (head ∷ Word (pos i) ∷ []) waits (record core { function = function; block = block; at = at; vars = vars })) [] (as_item m.value (stored_value m) low) waits (record core { function = function; block = block; at = at; vars = vars }))
        (numbers : Numbers) (raised : ℕ → Value) (g : Ghost) (heap : Heap) (left : ℕ) (structs : HasLayout p layout) (asked : (core2 : Core) → core2.statics ≡ core.statics → core2.steps ≡ core.steps → AllAsked (HasConversion p layout numbers raised core2) (asks_for layout (type_seen layout (Some value)) t) next)
        (stands : Represents layout known g heap left core.blocks core.statics) (steps : left ≡ core.steps) (held : Holds layout known g (Some value) low u) (waits : List Frame) where
      abbrev kept : Value
      kept = as_item m.value (stored_value m) low

      abbrev read_vars : List Value
      read_vars = head ∷ x ∷ other ∷ Word (pos i) ∷ Flag false ∷ kept ∷ more

      abbrev read_core : Core
      read_core = record core { function = f; block = 2; at = 1; vars = read_vars }

      vars_long : length read_vars ≡ 6 + count
      vars_long = (let q = length-replicate count Unset in omega (arith, q))

      start_long : length (start_body m t reads_number).types ≡ 6
      unfolding get_types
      start_long = refl

      abbrev leaves : LlExit
      leaves = exit.Return (Some z)

      restores : Arrives p args (At (b.ops ++ v.ops) leaves waits read_core) v.ops leaves waits read_core (length (start_body m t reads_number).types) b.y low
      restores = b.enters p args v.ops leaves waits read_core low (omega (arith, vars_long, start_long)) refl of

      abbrev core2 : Core
      core2 = restores.mid

      stands2 : Represents layout known g heap left core2.blocks core2.statics
      stands2 = subst (λ (c : Core). Represents layout known g heap left c.blocks c.statics) (sym restores.passed.memory) stands

      back_long : length w_back.body.types ≡ 6 + length b.new
      back_long = (let q = length-append (get_types (whole m t) t) b.new in let k = start_long in omega (arith, q, k))

      y_below : IsBelow (length w_back.body.types) b.y
      y_below = below_more b.y (length (start_body m t reads_number).types + length b.new) (length w_back.body.types) (omega (arith, start_long, back_long)) (b.inside (omega (arith, start_long)))

      it : Converts layout known (λ ghost y. Holds layout known ghost to y u) p args (At (v.ops ++ []) leaves waits core2) [] leaves waits core2 g heap left (length w_back.body.types) to z
      it = v.follows p numbers raised args [] leaves waits core2 g heap left u structs (asked core2 (ap (λ (c : Core). c.statics) restores.passed.memory) (ap (λ (c : Core). c.steps) restores.passed.memory))
          stands2 (steps ∙ sym (ap (λ (c : Core). c.steps) restores.passed.memory)) (let q = restores.passed.room in omega (arith, q, vars_long, back_long)) y_below (subst (λ y. Holds layout known g (Some value) y u) (sym restores.is) held)

      converts : Leads p args (items_in to) (At v.ops leaves waits core2) [] (At [] leaves waits it.end)
      converts = subst (λ l. Leads p args (items_in to) (At l leaves waits core2) [] (At [] leaves waits it.end)) (append-nil v.ops) it.leads

      returns : Leads p args 0 (At [] leaves waits it.end) [] (Returning (operand it.end.vars z) waits it.end)
      returns = one (ap (λ c. cond c (Sticks IsUnset) (Goes (Returning (operand it.end.vars z) waits it.end))) (held_set it.stands it.fine)) refl

      begins : Finds (Some i) → Leads p args 0 (Calling f (head ∷ x ∷ other ∷ []) waits core) [] (At (b.ops ++ v.ops) leaves waits read_core)
      unfolding get_graph get_blocks get_asks get_given gives_block
      begins found =
          on (starts waits) (on (calls_at refl sets_both (λ waits. found _ _ _ _ waits)) (on (gives (Flag false) (less_false i 0 (omega arith))) (on (many 1 graph refl (ap (λ b. b || (false || false)) head_set))
          (calls_at refl (ap (λ b. b || (false || false)) head_set) (λ waits. fetched _ _ _ _ waits)))))

      -- one that is there
      pub gives_value : Finds (Some i) → Gave p args f (head ∷ x ∷ other ∷ []) core g heap left u waits
      gives_value found = record {
        end = it.end;
        low = operand it.end.vars z;
        ghost = it.ghost;
        grown = it.grown;
        stands = it.stands;
        held = it.fine;
        few = (let q = it.few in let k : length core2.blocks ≡ length core.blocks = ap (λ (c : Core). length c.blocks) restores.passed.memory in omega (arith, q, k));
        memory = it.memory ∙ ap (λ (c : Core). record c { blocks = it.end.blocks }) restores.passed.memory;
        leads = leads_more (0 + (0 + (items_in to + 0))) (items_in to) (omega arith) (leads_then (begins found) (leads_then restores.way (leads_then converts returns)));
      }

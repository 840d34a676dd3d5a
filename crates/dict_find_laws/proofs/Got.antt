-- The graph that gives the value of a key, or another value.
use Rattle.std.proofs.Common.{◌≡◌, ◌≤◌, ℕ, suc, ◌+◌, ◌-◌, ◌||◌, ◌&&◌, Bool, true, false, List, [], ◌∷◌, ◌++◌, length, Option, Some, None, pos, refl, ap, ◌∙◌, subst, arith, length-append}
use Rattle.std.specs.Prelude.{slice_get, replicate, if◌then◌else◌, not, cond}
use Rattle.std.proofs.lemmas.List.{append-nil, length-replicate}
use Rattle.csub_tree.specs.State.{Value, Unset, Word, Flag, Core}
use Rattle.csub_tree.specs.Operation.{is_unset}
use Rattle.csub_tree.specs.declared.stuck.StuckReason.TheVariants.{Unset as IsUnset}
use Rattle.csub_tree.specs.declared.tree.COperand.{COperand}
use Rattle.csub_tree.specs.declared.tree.COperand.TheVariants.{Var}
use Rattle.ll_code.specs.State.{Frame, Calling, At, Returning, Goes, Sticks}
use Rattle.ll_code.specs.declared.program.LlType.{LlType}
use Rattle.ll_code.specs.declared.program.LlOp.TheVariants as op
use Rattle.ll_code.specs.declared.program.LlExit.TheVariants as exit
use Rattle.ll_code.specs.declared.program.LlProgram.{LlProgram}
use Rattle.ll_leads.specs.Path.{Leads}
use Rattle.ll_leads.proofs.Ways.{Comes, on, one, many, enter, gives}
use Rattle.ll_texts.proofs.Numbers.{less_false}
use Rattle.rtyper_layout.specs.declared.dicts.Mapping.{Mapping}
use Rattle.rtyper_layout.specs.declared.layout.Layout.{Layout}
use Rattle.rtyper_layout.specs.Dicts.{is_plain, stored_value}
use Rattle.rtyper_data.specs.declared.body.Body.{Body}
use Rattle.rtyper_data.specs.declared.found.Found.{Found}
use Rattle.rtyper_data.specs.declared.small.Keyed.TheVariants as keyed
use Rattle.rtyper_data.specs.Converting.{converted, value_as}
use Rattle.rtyper_data.specs.Finding.{same_type}
use Rattle.rtyper_data.specs.Graphs.{body_of}
use Rattle.rtyper_data.specs.Seen.{Writing, writing}
use Rattle.list_shape.specs.Shapes.{gives as gives_block}
use Rattle.rtyper_dict.specs.declared.parts.DictShape.{DictShape}
use Rattle.rtyper_dict.specs.Listing.{get, get_asks, get_blocks, get_given, get_graph, get_types, got, read_as}
use Rattle.rtyper_dict.specs.Parts.{keyed_number}
use Rattle.lower_laws.proofs.Doing.{same_type_is}
use Rattle.object_laws.specs.Dicts.{as_item}
use Rattle.object_laws.proofs.Passing.{calls_at}
use Rattle.dict_find_laws.specs.Asked.{valued}
use Rattle.dict_find_laws.specs.Finding.{place_word}
use Rattle.dict_find_laws.proofs.Restored.{IsOf, Restored, restored}
use Rattle.dict_find_laws.proofs.Shaped.{shaped}

-- ---- what it is

pub and_second : (a b : Bool) → (a && b) ≡ true → b ≡ true
and_second true b h = h
and_second false b h = absurd (cc)

-- a value of the type that is asked is not converted
pub value_as_it_is : (layout : Layout) (x : COperand) (s t : LlType) (w : Writing) → s ≡ t → value_as layout x s t w ≡ (x, w)
unfolding value_as
value_as_it_is layout x s t w h = ap (λ s. if same_type s t then (x, w) else converted layout x s t w) h ∙ ap (λ c. if c then (x, w) else converted layout x t t w) (same_type_is t)

module _ (m : Mapping) (t : LlType) where
  abbrev pub whole : DictShape
  whole = shaped m (is_plain m.key) (is_plain m.value) m.key

  abbrev pub start_body : ℕ → Body
  start_body reads = record { types = get_types whole t; ops = op.Call (Some 5) reads (Var 0 ∷ Var 3 ∷ []) ∷ [] }

  -- the value as what it is
  pub back : (reads : ℕ) → Restored (stored_value m) m.value (Var 5) (start_body reads)
  back reads = restored (Var 5) (start_body reads) (not (is_plain m.key) && is_plain m.value) m.value (and_second (not (is_plain m.key)) (is_plain m.value))

  abbrev pub body : ℕ → Body
  body reads = record { types = get_types whole t ++ (back reads).new; ops = (op.Call (Some 5) reads (Var 0 ∷ Var 3 ∷ []) ∷ []) ++ (back reads).ops }

  module _ (layout : Layout) (made : Found) (typed : m.value ≡ t) where
    abbrev reads_number : ℕ
    reads_number = (keyed_number (keyed.Value m.dict) made).0

    abbrev next : Found
    next = (keyed_number (keyed.Value m.dict) made).1

    got_is : got layout whole t (writing made (body_of (get_types whole t))) ≡ ((back reads_number).y, writing next (body reads_number))
    unfolding got
    got_is = ap (read_as layout m.value t next) (back reads_number).written ∙ value_as_it_is layout (back reads_number).y m.value t (writing next (body reads_number)) typed

    pub valued_is : valued layout whole t made ≡ next
    valued_is = ap (λ (g : COperand × Writing). g.1.found) got_is

    pub get_is : (get layout whole t made).0 ≡ get_graph (keyed_number (keyed.Find m.dict) next).0 (back reads_number).y t (body reads_number)
    unfolding get
    get_is = ap (λ (g : COperand × Writing). get_graph (keyed_number (keyed.Find m.dict) g.1.found).0 g.0 t g.1.body) got_is

-- ---- what it does

unset_more : (k : ℕ) (j : ℕ) → j ≡ suc (suc (suc k)) → replicate j Unset ≡ Unset ∷ Unset ∷ Unset ∷ replicate k Unset
unset_more k j h = ap (λ j. replicate j Unset) h

module _ (p : LlProgram) (args : List (List ℕ)) (f finds reads : ℕ) (m : Mapping) (t : LlType) (graph : slice_get p.graphs f ≡ Some (get_graph finds (back m t reads).y t (body m t reads))) (core : Core) (head x other : Value) (head_set : is_unset head ≡ false) (x_set : is_unset x ≡ false) (other_set : is_unset other ≡ false) where
  abbrev more : List Value
  more = replicate (length (back m t reads).new) Unset

  abbrev begun : List Value → Core
  begun vars = record core { function = f; block = 0; at = 0; vars = vars }

  abbrev Finds : Option ℕ → Type 0
  Finds o = (function block at : ℕ) (vars : List Value) (waits : List Frame) → Comes p args (Calling finds (head ∷ x ∷ []) waits (record core { function = function; block = block; at = at; vars = vars })) [] (place_word o) waits (record core { function = function; block = block; at = at; vars = vars })

  long : length (body m t reads).types - 3 ≡ suc (suc (suc (length (back m t reads).new)))
  unfolding get_types
  long = (let q = length-append (get_types (whole m t) t) (back m t reads).new in omega (arith, q))

  starts : (waits : List Frame) → Leads p args 0 (Calling f (head ∷ x ∷ other ∷ []) waits core) [] (At (get_asks finds).ops (get_asks finds).exit waits (begun (head ∷ x ∷ other ∷ Unset ∷ Unset ∷ Unset ∷ more)))
  unfolding get_graph get_blocks get_asks get_given
  starts waits = subst (λ vs. Leads p args 0 (Calling f (head ∷ x ∷ other ∷ []) waits core) [] (At (get_asks finds).ops (get_asks finds).exit waits (begun (head ∷ x ∷ other ∷ vs)))) (unset_more (length (back m t reads).new) (length (body m t reads).types - 3) long) (enter graph refl)

  sets : is_unset head || (is_unset x || false) ≡ false
  sets = ap (λ b. b || (is_unset x || false)) head_set ∙ ap (λ b. b || false) x_set

  -- a key that is missing
  pub gives_other : Finds None → (waits : List Frame) → Comes p args (Calling f (head ∷ x ∷ other ∷ []) waits core) [] other waits core
  unfolding get_graph get_blocks get_asks get_given gives_block
  gives_other found waits = record { end = _; same = refl; leads = on (starts waits) (on (calls_at refl sets (λ waits. found _ _ _ _ waits)) (many 3 graph refl (ap (λ b. b || (b || false)) other_set))) }

  module _ (i : ℕ) (value : Value) (value_set : is_unset value ≡ false) (of : IsOf m.value value)
      (fetched : (function block at : ℕ) (vars : List Value) (waits : List Frame) → Comes p args (Calling reads (head ∷ Word (pos i) ∷ []) waits (record core { function = function; block = block; at = at; vars = vars })) [] (as_item m.value (stored_value m) value) waits (record core { function = function; block = block; at = at; vars = vars })) where
    abbrev kept : Value
    kept = as_item m.value (stored_value m) value

    abbrev read_vars : List Value
    read_vars = head ∷ x ∷ other ∷ Word (pos i) ∷ Flag false ∷ kept ∷ more

    abbrev read_core : Core
    read_core = record core { function = f; block = 2; at = 1; vars = read_vars }

    wide : length (start_body m t reads).types + length (back m t reads).new ≤ length read_vars
    unfolding get_types
    wide = (let q = length-replicate (length (back m t reads).new) Unset in omega (arith, q))

    -- one that is there
    pub gives_value : Finds (Some i) → (waits : List Frame) → Comes p args (Calling f (head ∷ x ∷ other ∷ []) waits core) [] value waits core
    unfolding get_graph get_blocks get_asks get_given gives_block
    gives_value found waits =
        let it = (back m t reads).enters p args [] (exit.Return (Some (back m t reads).y)) waits read_core value wide refl of in
        record {
          end = it.mid;
          same = it.passed.memory;
          leads =
              on (starts waits) (on (calls_at refl sets (λ waits. found _ _ _ _ waits)) (on (gives (Flag false) (less_false i 0 (omega arith))) (on (many 1 graph refl (ap (λ b. b || (false || false)) head_set))
              (on (calls_at refl (ap (λ b. b || (false || false)) head_set) (λ waits. fetched _ _ _ _ waits))
              (on (subst (λ l. Leads p args 0 (At l (exit.Return (Some (back m t reads).y)) waits read_core) [] (At [] (exit.Return (Some (back m t reads).y)) waits it.mid)) (append-nil (back m t reads).ops) it.way)
              (one (ap (λ v. cond (is_unset v) (Sticks IsUnset) (Goes (Returning v waits it.mid))) it.is ∙ ap (λ b. cond b (Sticks IsUnset) (Goes (Returning value waits it.mid))) value_set) refl))))));
        }

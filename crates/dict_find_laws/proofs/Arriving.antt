-- The dict and the key of an operation, as they come to the graph that looks for the key.
use Rattle.std.proofs.Common.{◌≡◌, ◌≤◌, inl, ℕ, ◌+◌, ◌==◌, Bool, true, false, List, [], ◌∷◌, ◌++◌, length, Some, refl, sym, ap, ◌∙◌, subst, arith, length-append}
use Rattle.std.specs.Prelude.{slice_get, if◌then◌else◌}
use Rattle.std.proofs.lemmas.Bool.{eqb-true}
use Rattle.csub_tree.specs.State.{Value, Core}
use Rattle.csub_tree.specs.Statement.{operand}
use Rattle.ll_code.specs.State.{Frame, At}
use Rattle.ll_code.specs.declared.program.LlType.{LlType}
use Rattle.ll_code.specs.declared.program.LlType.TheVariants as type
use Rattle.ll_code.specs.declared.program.LlOp.{LlOp}
use Rattle.ll_code.specs.declared.program.LlExit.{LlExit}
use Rattle.ll_code.specs.declared.program.LlProgram.{LlProgram}
use Rattle.ll_build.specs.declared.needs.Numbers.{Numbers}
use Rattle.ll_leads.specs.Path.{Leads}
use Rattle.ll_leads.proofs.Ways.{on}
use Rattle.rpy_tree.specs.Value.{Value as Meant}
use Rattle.rpy_meaning.specs.World.{World}
use Rattle.rtyper_layout.specs.declared.dicts.Mapping.{Mapping}
use Rattle.rtyper_layout.specs.Layout.{mapping_at}
use Rattle.rtyper_layout.specs.Types.{type_seen}
use Rattle.rtyper_data.specs.declared.found.Found.{Found}
use Rattle.rtyper_data.specs.declared.small.Keyed.{Keyed}
use Rattle.rtyper_data.specs.declared.small.Small.TheVariants as small
use Rattle.rtyper_data.specs.Comparing.{alone}
use Rattle.rtyper_data.specs.Converting.{by_small, converted, given, value_as}
use Rattle.rtyper_data.specs.Finding.{same_type}
use Rattle.rtyper_data.specs.Seen.{Around, Operand, type_of, Writing, writing}
use Rattle.rtyper_dict.specs.Operands.{beside, dict_of, dict_pointed, entry_in, key_in, shape_in, stored_in}
use Rattle.rtyper_dict.specs.Parts.{shape_of}
use Rattle.list_shape.specs.Shapes.{taking}
use Rattle.lower_laws.specs.Asked.{all_asked}
use Rattle.lower_laws.specs.Values.{IsBelow}
use Rattle.lower_laws.proofs.Doing.{same_type_is}
use Rattle.dict_op_laws.specs.Dicts.{there_asks}
use Rattle.object_laws.specs.Dicts.{DictAt}
use Rattle.object_laws.specs.Ghost.{Ghost, DictOf}
use Rattle.object_laws.specs.Known.{Known}
use Rattle.object_laws.specs.Represents.{Represents}
use Rattle.object_laws.specs.Values.{Holds, Stands}
use Rattle.object_laws.proofs.Blocks.{found_set, found_there}
use Rattle.object_laws.proofs.Passing.{Passed, both_passed, operand_kept}
use Rattle.object_laws.proofs.Valued.{stays_held, stays_typed}
use Rattle.dict_find_laws.specs.Asked.{HasAll}
use Rattle.dict_find_laws.specs.Finding.{as_key}
use Rattle.dict_find_laws.specs.Lookups.{IsAskedFor}
use Rattle.dict_find_laws.proofs.Hashed.{key_sort, key_stands}
use Rattle.list_copy_laws.proofs.Ready.{Went as Reached}
use Rattle.dict_find_laws.proofs.Ready.{Ready, ready, Stored, stored_key_ready, Went}

pub own_number : (ms : List Mapping) (n : ℕ) (m : Mapping) → mapping_at ms n ≡ Some m → m.dict ≡ n
own_number [] n m h = absurd (cc)
own_number (it ∷ ms) n m h = by (own_number ms n m) (it.dict == n) refl h
  where
    by : (mapping_at ms n ≡ Some m → m.dict ≡ n) → (b : Bool) → (it.dict == n) ≡ b → (if b then Some it else mapping_at ms n) ≡ Some m → m.dict ≡ n
    by more true e q = (let same : it ≡ m = cc in ap (λ (m : Mapping). m.dict) (sym same) ∙ eqb-true it.dict n e)
    by more false e q = more q

-- a value of the type that is asked is not converted
pub same_value : (around : Around) (b : Operand) (t : LlType) (w : Writing) → type_of around b ≡ t → given around b t w ≡ (b.x, w)
unfolding value_as
same_value around b t w h = ap (λ s. if same_type s t then (b.x, w) else converted around.layout b.x s t w) h ∙ ap (λ c. if c then (b.x, w) else converted around.layout b.x t t w) (same_type_is t)

module _ (known : Known) (around : Around) (a b : Operand) (n : ℕ) (m : Mapping) (is : IsAskedFor around known a b n m) (w : Writing) where
  pub r : Ready around a w
  r = ready around a w is.dict.dicts

  abbrev pub first : Found
  first = all_asked (there_asks around a w.found.covered) w.found

  abbrev pub w1 : Writing
  w1 = writing first (record { types = w.body.types ++ r.new; ops = w.body.ops ++ r.ops })

  pub s : Stored m.key b.x w1.body
  s = stored_key_ready b.x w1.body m.key (key_sort around.layout known m is.keys)

  abbrev pub types0 : List LlType
  types0 = (w.body.types ++ r.new) ++ s.new

  abbrev pub ops0 : List LlOp
  ops0 = (w.body.ops ++ r.ops) ++ s.ops

  abbrev pub w2 : Writing
  w2 = writing first (record { types = types0; ops = ops0 })

  key_typed : type_of around b ≡ m.key
  key_typed = stays_typed is.stays ∙ ap (type_seen around.layout) is.keys.key_is ∙ is.keys.typed

  pub key_written : key_in around (shape_of m) b w1 ≡ (s.y, w2)
  unfolding key_in shape_of
  key_written = ap (stored_in m.key (shape_of m).stored_key) (same_value around b m.key w1 key_typed) ∙ ap (alone first) s.written

  pub entry_written : (graph : Keyed) → entry_in around (shape_of m) a b graph w ≡ beside r.x (by_small (small.Keyed graph) type.Signed (r.x ∷ s.y ∷ []) w2)
  unfolding entry_in
  entry_written graph =
      ap (λ made. taking made (λ x next. taking (key_in around (shape_of m) b next) (λ k last. beside x (by_small (small.Keyed graph) type.Signed (x ∷ k ∷ []) last)))) r.written
      ∙ ap (λ made. taking made (λ k last. beside r.x (by_small (small.Keyed graph) type.Signed (r.x ∷ k ∷ []) last))) key_written

  pub shape_is : dict_of around a ≡ Some (shape_of m)
  unfolding dict_of
  shape_is = ap (dict_pointed around.layout) is.dict.typed ∙ ap shape_in is.dict.mapping

  pub types_long : length types0 ≡ length w.body.types + length r.new + length s.new
  types_long = (let x = length-append (w.body.types ++ r.new) s.new in let y = length-append w.body.types r.new in omega (arith, x, y))

  -- where both are
  pub record Arrived (p : LlProgram) (args : List (List ℕ)) (rest : List LlOp) (e : LlExit) (frames : List Frame) (core : Core) : Type 0 where
    pub mid : Core
    pub way : Leads p args 0 (At (r.ops ++ (s.ops ++ rest)) e frames core) [] (At rest e frames mid)
    pub passed : Passed (length w.body.types) core mid
    pub dict : operand mid.vars r.x ≡ operand core.vars a.x
    pub key : operand mid.vars s.y ≡ as_key m (operand core.vars b.x)

  module _ (p : LlProgram) (numbers : Numbers) (raised : ℕ → Value) (arguments : List (List ℕ)) (before core : Core) (g : Ghost) (world : World) (has : HasAll p around.layout numbers raised before (there_asks around a w.found.covered) w.found)
      (stands : Represents around.layout known g world.heap world.left core.blocks core.statics) (room : length types0 ≤ length core.vars) (a_below : IsBelow (length w.body.types) a.x) (b_below : IsBelow (length w.body.types) b.x)
      (i : ℕ) (home : slice_get g.homes i ≡ Some (record { sort = DictOf n; head = operand core.vars a.x })) (v : Meant) (held : Holds around.layout known g b.element (operand core.vars b.x) v) where
    pub here : DictAt around.layout known g world.heap core.blocks core.statics m i (operand core.vars a.x)
    here = stands.dicts n i (operand core.vars a.x) m home is.dict.mapping

    pub key_held : Holds around.layout known g (known.keys m.dict) (operand core.vars b.x) v
    key_held = stays_held is.stays held

    dict_goes : (rest : List LlOp) (e : LlExit) (frames : List Frame) → Reached p arguments (At (r.ops ++ (s.ops ++ rest)) e frames core) (s.ops ++ rest) e frames core (length w.body.types) r.x (operand core.vars a.x)
    dict_goes rest e frames = r.enters p numbers raised arguments (s.ops ++ rest) e frames before core has (omega (arith, room, types_long)) (found_set core.blocks core.statics (operand core.vars a.x) _ here.head_is) (found_there core.blocks core.statics (operand core.vars a.x) _ here.head_is)

    module _ (rest : List LlOp) (e : LlExit) (frames : List Frame) where
      abbrev between : Core
      between = (dict_goes rest e frames).mid

      same_key : operand between.vars b.x ≡ operand core.vars b.x
      same_key = operand_kept (dict_goes rest e frames).passed b.x b_below

      longer : length (w.body.types ++ r.new) ≡ length w.body.types + length r.new
      longer = length-append w.body.types r.new

      key_goes : Went p arguments (At (s.ops ++ rest) e frames between) rest e frames between (length w1.body.types) s.y (as_key m (operand between.vars b.x))
      key_goes = s.enters p arguments rest e frames between g v (let wide = (dict_goes rest e frames).passed.room in omega (arith, room, wide, longer, types_long)) (λ plain. subst (λ x. Stands g m.key x v) (sym same_key) (key_stands around.layout known m is.keys (inl plain) key_held))

      pub arrives : Arrived p arguments rest e frames core
      arrives = record {
        mid = key_goes.mid;
        way = on (dict_goes rest e frames).way key_goes.way;
        passed = both_passed (omega (arith, longer)) (dict_goes rest e frames).passed key_goes.passed;
        dict = operand_kept key_goes.passed r.x (subst (λ k. IsBelow k r.x) (sym longer) (r.inside a_below)) ∙ (dict_goes rest e frames).is;
        key = key_goes.is ∙ ap (as_key m) same_key;
      }

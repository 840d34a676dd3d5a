-- `get` without another value: `None` for a key that is missing.
use Rattle.std.proofs.Common.{◌≡◌, None, ◌<◌, ◌≤◌, ℕ, ◌+◌, ◌⊎◌, inl, inr, true, false, List, [], ◌∷◌, ◌++◌, length, Option, Some, refl, sym, ap, ◌∙◌, subst}
use Rattle.std.specs.Prelude.{codes}
use Rattle.csub_tree.specs.State.{Value, Null, Core}
use Rattle.csub_tree.specs.Layout.{constant}
use Rattle.csub_tree.specs.Statement.{operand}
use Rattle.csub_tree.specs.declared.tree.COperand.{COperand}
use Rattle.rpy_tree.specs.Value.{Value as Meant, Nothing, Ref}
use Rattle.rpy_meaning.specs.declared.row.RowOp.TheVariants as row
use Rattle.rpy_meaning.specs.Operations.{op as meant_op, object_method}
use Rattle.rpy_meaning.specs.World.{World}
use Rattle.ll_code.specs.State.{Frame, At}
use Rattle.ll_code.specs.declared.program.LlType.{LlType}
use Rattle.ll_code.specs.declared.program.LlType.TheVariants as type
use Rattle.ll_code.specs.declared.program.LlOp.{LlOp}
use Rattle.ll_code.specs.declared.program.LlExit.{LlExit}
use Rattle.ll_code.specs.declared.program.LlProgram.{LlProgram}
use Rattle.ll_build.specs.declared.needs.Numbers.{Numbers}
use Rattle.rtyper_layout.specs.declared.dicts.Mapping.{Mapping}
use Rattle.rtyper_layout.specs.declared.kind.Kind.TheVariants as kind
use Rattle.rtyper_layout.specs.Kinds.{kind_seen}
use Rattle.rtyper_layout.specs.Dicts.{is_indexed}
use Rattle.rtyper_data.specs.Converting.{default_constant, default_operand}
use Rattle.rtyper_data.specs.Seen.{Around, Operand, Place, kind_of, type_at, Writing}
use Rattle.rtyper_dict.specs.Lowering.{get_if, lower_dict_op, of_dict, of_dict_or, of_first, of_two}
use Rattle.rtyper_dict.specs.Parts.{shape_of}
use Rattle.lower_laws.specs.Values.{AllBelow, is_plain as is_plain_kind, is_simple}
use Rattle.lower_laws.specs.Tuples.{Same, Wider, Whole}
use Rattle.lower_laws.proofs.Typing.{place_of_texts}
use Rattle.dict_op_laws.proofs.Lengths.{same_kind}
use Rattle.object_laws.specs.Done.{Follows, HasLayout, references}
use Rattle.object_laws.specs.Ghost.{Ghost}
use Rattle.object_laws.specs.Known.{Known}
use Rattle.object_laws.specs.Represents.{Represents}
use Rattle.object_laws.specs.Values.{Given, Holds, Plain, Missing, Stands, missing, may_be_missing}
use Rattle.object_laws.proofs.Valued.{Dicting, Gone, dict_or_none, function_type, simple_is_there}
use Rattle.dict_find_laws.specs.Asked.{HasAll}
use Rattle.dict_find_laws.specs.Keys.{IsThere}
use Rattle.dict_find_laws.specs.Lookups.{HasValues, IsAskedFor, IsTold, SecondIsThere, ValuesAreGotOrNone, get_asks}
use Rattle.dict_find_laws.proofs.Arriving.{r, s, shape_is}
use Rattle.ann_element.specs.declared.element.Element.{Element}
use Rattle.rtyper_layout.specs.declared.layout.Layout.{Layout}
use Rattle.rtyper_layout.specs.Types.{type_seen}
use Rattle.object_laws.specs.Staying.{Stays, Plainly, AsList, AsMaybe, AsDict, AsMaybeDict, AsInstance, AsFunction}
use Rattle.dict_find_laws.proofs.Getting.{Here, asked_for, behind, calls, dict_ops, found_so, got_so, is_got, key_ops, new, no_dict, ops_so, regrouped, types_so}

null_of : (t : LlType) → (t ≡ type.Fn) ⊎ ((k : ℕ) × (t ≡ type.Ptr k)) → constant (default_constant t) ≡ Null
null_of t (inl h) = ap (λ t. constant (default_constant t)) h
null_of t (inr h) = ap (λ t. constant (default_constant t)) h.1

module _ {layout : Layout} {known : Known} {from to : Option Element} where
  -- where it may be missing, it has the type of a pointer or of a function
  pointed_so : Stays layout known from to → may_be_missing (kind_seen to) ≡ true → (type_seen layout to ≡ type.Fn) ⊎ ((k : ℕ) × (type_seen layout to ≡ type.Ptr k))
  pointed_so (Plainly (Same k simple f t)) may = absurd (simple_is_there (kind_seen to) may (ap is_simple t ∙ simple))
  pointed_so (Plainly (Wider f t)) may = absurd (let q : false ≡ true = sym (ap may_be_missing t) ∙ may in cc)
  pointed_so (Plainly (Whole n e k t)) may = inr (n, t)
  pointed_so (AsList n f t k l) may = inr (n, t)
  pointed_so (AsMaybe n f t k l) may = inr (n, t)
  pointed_so (AsDict n f t k l) may = inr (n, t)
  pointed_so (AsMaybeDict n f t k l) may = inr (n, t)
  pointed_so (AsInstance n a b r s f t k l m i) may = inr (n, t)
  pointed_so (AsFunction fs gs r s f t m i) may = inl (ap (type_seen layout) t ∙ function_type layout gs s)

  null_default : Stays layout known from to → (kind_seen to ≡ kind.MaybeText) ⊎ (may_be_missing (kind_seen to) ≡ true) → constant (default_constant (type_seen layout to)) ≡ Null
  null_default stay (inl h) = null_of (type_seen layout to) (inr (0, place_of_texts layout to h))
  null_default stay (inr h) = null_of (type_seen layout to) (pointed_so stay h)

null_held : {layout : Layout} {known : Known} {g : Ghost} {to : Option Element} → (kind_seen to ≡ kind.MaybeText) ⊎ (may_be_missing (kind_seen to) ≡ true) → Holds layout known g to Null Nothing
null_held {layout = layout} {g = g} {to = to} (inl h) = Plain (ap is_plain_kind h) (subst (λ t. Stands g t Null Nothing) (sym (place_of_texts layout to h)) missing)
null_held (inr h) = Missing h refl refl

module _ (known : Known) (around : Around) (place : Place) (a b : Operand) (w : Writing) (site : Option ℕ) (n : ℕ) (m : Mapping) (value : Element) (is : IsAskedFor around known a b n m) (values : HasValues around known m value) (stay : Stays around.layout known (Some value) place.element)
    (may : (kind_seen place.element ≡ kind.MaybeText) ⊎ (may_be_missing (kind_seen place.element) ≡ true)) where
  abbrev method : List ℕ
  method = codes "get"

  abbrev nothing : COperand
  nothing = default_operand (type_at around place)

  none_written : lower_dict_op around (row.Method method site) place (a ∷ b ∷ []) w ≡ asked_for known around place a b w n m value is values stay nothing n
  unfolding lower_dict_op of_first of_dict of_two get_if shape_of
  none_written = ap (λ o. of_dict_or around (row.Method method site) place o (a ∷ b ∷ []) w) (shape_is known around a b n m is w) ∙ is_got known around place a b w n m value is values stay None nothing refl

  module _ (p : LlProgram) (numbers : Numbers) (raised : ℕ → Value) (arguments : List (List ℕ)) (rest : List LlOp) (e : LlExit) (frames : List Frame) (core : Core) (g : Ghost) (world : World)
      (structs : HasLayout p around.layout) (has : HasAll p around.layout numbers raised core (get_asks around place a n w.found.covered) w.found)
      (stands : Represents around.layout known g world.heap world.left core.blocks core.statics) (left : world.left ≡ core.steps)
      (room : length w.body.types + length (new known around place a b w n m value is values stay nothing) ≤ length core.vars) (inside : place.variable < length w.body.types) (below : AllBelow (length w.body.types) (a ∷ b ∷ [])) where
    abbrev Done : List Meant → Type 0
    Done vs = Follows 0 known around place p arguments (Here known around place a b w n m value is values stay nothing site (a ∷ b ∷ []) p numbers raised arguments rest e frames core g world structs has stands left room inside below.0 below.1.0 (references world.heap vs)) rest e frames core g raised (references world.heap vs) (length w.body.types) world
        (meant_op known.program w.found.covered (row.Method method site) vs world)

    either : (u v : Meant) → Holds around.layout known g b.element (operand core.vars b.x) v → (is_indexed m ≡ true → IsThere v)
        → Dicting around.layout known g a.element (operand core.vars a.x) u ⊎ Gone kind.MaybeDict a.element (operand core.vars a.x) u → Done (u ∷ v ∷ [])
    either u v held there (inl it) = subst (λ u. Done (u ∷ v ∷ [])) (sym it.high)
        (got_so known around place a b w n m value is values stay nothing site (a ∷ b ∷ []) p numbers raised arguments rest e frames core g world structs has stands left room inside below.0 below.1.0 (references world.heap (Ref it.i ∷ v ∷ [])) v u held it there Null Nothing
        (λ mid passed. null_default stay may) (null_held may) (λ o. object_method known.program w.found.covered method it.i (v ∷ []) o world) (λ pairs. refl))
    either u v held there (inr gone) = subst (λ u. Done (u ∷ v ∷ [])) (sym gone.high)
        (no_dict known around place a b w n m value is values stay nothing site (a ∷ b ∷ []) p numbers raised arguments rest e frames core g world structs has stands left room inside below.0 below.1.0 (references world.heap (Nothing ∷ v ∷ [])) u gone)

    follow : (vs : List Meant) → Given known around g core (a ∷ b ∷ []) vs → SecondIsThere m world vs → Done vs
    follow [] given good = absurd given
    follow (u ∷ []) given good = absurd given.1
    follow (u ∷ v ∷ []) given good = either u v given.1.0 good (dict_or_none (sym (same_kind (kind_of a)) ∙ is.dict.dicts) given.0)
    follow (u ∷ v ∷ s ∷ more) given good = absurd given.1.1

  got_or_none : IsTold (SecondIsThere m) known around (row.Method method site) w.found.covered (get_asks around place a n w.found.covered) place (a ∷ b ∷ []) w
  got_or_none = record {
    ops = dict_ops known around place a b w n m value is values stay ++ (key_ops known around place a b w n m value is values stay ++ behind known around place a b w n m value is values stay nothing);
    new = new known around place a b w n m value is values stay nothing;
    asked = found_so known around place a b w n m value is values stay nothing (row.Method method site) site (a ∷ b ∷ []) none_written;
    written = ops_so known around place a b w n m value is values stay nothing (row.Method method site) site (a ∷ b ∷ []) none_written;
    types = types_so known around place a b w n m value is values stay nothing (row.Method method site) site (a ∷ b ∷ []) none_written;
    follows = λ p numbers raised arguments rest e frames core g world vs structs has stands left room inside below given good.
        subst (λ l. Follows 0 known around place p arguments (At l e frames core) rest e frames core g raised (references world.heap vs) (length w.body.types) world (meant_op known.program w.found.covered (row.Method method site) vs world))
        (regrouped known around place a b w n m value is values stay rest (calls known around place a b w n m value is values stay nothing)) (follow p numbers raised arguments rest e frames core g world structs has stands left room inside below vs given good);
  }

pub values_are_got_or_none : ValuesAreGotOrNone
values_are_got_or_none known around place a b w site n m value is values stay may = got_or_none known around place a b w site n m value is values stay may

-- `get` with another value, for a key that is missing.
use Rattle.std.proofs.Common.{◌≡◌, ◌<◌, ◌≤◌, ℕ, ◌+◌, ◌⊎◌, inl, inr, true, List, [], ◌∷◌, ◌++◌, length, Option, Some, refl, sym, ap, ◌∙◌, subst}
use Rattle.std.specs.Prelude.{codes}
use Rattle.csub_tree.specs.State.{Value, Core}
use Rattle.csub_tree.specs.Statement.{operand}
use Rattle.rpy_tree.specs.Value.{Value as Meant, Nothing, Ref}
use Rattle.rpy_meaning.specs.declared.row.RowOp.TheVariants as row
use Rattle.rpy_meaning.specs.Operations.{op as meant_op, object_method}
use Rattle.rpy_meaning.specs.World.{World}
use Rattle.ll_code.specs.State.{Frame, At}
use Rattle.ll_code.specs.declared.program.LlOp.{LlOp}
use Rattle.ll_code.specs.declared.program.LlExit.{LlExit}
use Rattle.ll_code.specs.declared.program.LlProgram.{LlProgram}
use Rattle.ll_build.specs.declared.needs.Numbers.{Numbers}
use Rattle.rtyper_layout.specs.declared.dicts.Mapping.{Mapping}
use Rattle.rtyper_layout.specs.declared.kind.Kind.TheVariants as kind
use Rattle.rtyper_layout.specs.Dicts.{is_indexed}
use Rattle.rtyper_data.specs.Seen.{Around, Operand, Place, kind_of, type_at, Writing}
use Rattle.rtyper_dict.specs.Lowering.{get_if, lower_dict_op, of_dict, of_dict_or, of_first, of_three, other_value}
use Rattle.rtyper_dict.specs.Parts.{shape_of}
use Rattle.lower_laws.specs.Values.{AllBelow}
use Rattle.dict_op_laws.proofs.Lengths.{same_kind}
use Rattle.object_laws.specs.Done.{Follows, HasLayout, references}
use Rattle.object_laws.specs.Ghost.{Ghost}
use Rattle.object_laws.specs.Known.{Known}
use Rattle.object_laws.specs.Represents.{Represents}
use Rattle.object_laws.specs.Values.{Given, Holds}
use Rattle.object_laws.proofs.Passing.{operand_kept}
use Rattle.object_laws.proofs.Valued.{Dicting, Gone, dict_or_none, stays_held, stays_typed}
use Rattle.dict_find_laws.specs.Asked.{HasAll}
use Rattle.dict_find_laws.specs.Keys.{IsThere}
use Rattle.dict_find_laws.specs.Lookups.{HasValues, IsAskedFor, IsTold, SecondIsThere, ValuesAreGot, get_asks}
use Rattle.dict_find_laws.proofs.Arriving.{same_value, s, shape_is, w2}
use Rattle.ann_element.specs.declared.element.Element.{Element}
use Rattle.object_laws.specs.Staying.{Stays}
use Rattle.dict_find_laws.proofs.Getting.{Here, asked_for, behind, calls, dict_ops, found_so, got_so, is_got, key_ops, new, no_dict, ops_so, regrouped, types_so}

module _ (known : Known) (around : Around) (place : Place) (a b c : Operand) (w : Writing) (site : Option ℕ) (n : ℕ) (m : Mapping) (value : Element) (is : IsAskedFor around known a b n m) (values : HasValues around known m value) (stay : Stays around.layout known (Some value) place.element) (stay_other : Stays around.layout known c.element place.element) where
  abbrev name : List ℕ
  name = codes "get"

  given_same : other_value around (type_at around place) (Some c) (w2 known around a b n m is w) ≡ (c.x, w2 known around a b n m is w)
  given_same = same_value around c (type_at around place) (w2 known around a b n m is w) (stays_typed stay_other)

  is_written : lower_dict_op around (row.Method name site) place (a ∷ b ∷ c ∷ []) w ≡ asked_for known around place a b w n m value is values stay c.x n
  unfolding lower_dict_op of_first of_dict of_three get_if shape_of
  is_written = ap (λ o. of_dict_or around (row.Method name site) place o (a ∷ b ∷ c ∷ []) w) (shape_is known around a b n m is w) ∙ is_got known around place a b w n m value is values stay (Some c) c.x given_same

  module _ (p : LlProgram) (numbers : Numbers) (raised : ℕ → Value) (arguments : List (List ℕ)) (rest : List LlOp) (e : LlExit) (frames : List Frame) (core : Core) (g : Ghost) (world : World)
      (structs : HasLayout p around.layout) (has : HasAll p around.layout numbers raised core (get_asks around place a n w.found.covered) w.found)
      (stands : Represents around.layout known g world.heap world.left core.blocks core.statics) (left : world.left ≡ core.steps)
      (room : length w.body.types + length (new known around place a b w n m value is values stay c.x) ≤ length core.vars) (inside : place.variable < length w.body.types) (below : AllBelow (length w.body.types) (a ∷ b ∷ c ∷ [])) where
    abbrev Done : List Meant → Type 0
    Done vs = Follows 0 known around place p arguments (Here known around place a b w n m value is values stay c.x site (a ∷ b ∷ c ∷ []) p numbers raised arguments rest e frames core g world structs has stands left room inside below.0 below.1.0 (references world.heap vs)) rest e frames core g raised (references world.heap vs) (length w.body.types) world
        (meant_op known.program w.found.covered (row.Method name site) vs world)

    either : (u v y : Meant) → Holds around.layout known g b.element (operand core.vars b.x) v → Holds around.layout known g c.element (operand core.vars c.x) y → (is_indexed m ≡ true → IsThere v)
        → Dicting around.layout known g a.element (operand core.vars a.x) u ⊎ Gone kind.MaybeDict a.element (operand core.vars a.x) u → Done (u ∷ v ∷ y ∷ [])
    either u v y held held_other there (inl it) = subst (λ u. Done (u ∷ v ∷ y ∷ [])) (sym it.high)
        (got_so known around place a b w n m value is values stay c.x site (a ∷ b ∷ c ∷ []) p numbers raised arguments rest e frames core g world structs has stands left room inside below.0 below.1.0 (references world.heap (Ref it.i ∷ v ∷ y ∷ [])) v u held it there (operand core.vars c.x) y
        (λ mid passed. operand_kept passed c.x below.1.1.0) (stays_held stay_other held_other) (λ o. object_method known.program w.found.covered name it.i (v ∷ y ∷ []) o world) (λ pairs. refl))
    either u v y held held_other there (inr gone) = subst (λ u. Done (u ∷ v ∷ y ∷ [])) (sym gone.high)
        (no_dict known around place a b w n m value is values stay c.x site (a ∷ b ∷ c ∷ []) p numbers raised arguments rest e frames core g world structs has stands left room inside below.0 below.1.0 (references world.heap (Nothing ∷ v ∷ y ∷ [])) u gone)

    follow : (vs : List Meant) → Given known around g core (a ∷ b ∷ c ∷ []) vs → SecondIsThere m world vs → Done vs
    follow [] given good = absurd given
    follow (u ∷ []) given good = absurd given.1
    follow (u ∷ v ∷ []) given good = absurd given.1.1
    follow (u ∷ v ∷ y ∷ []) given good = either u v y given.1.0 given.1.1.0 good (dict_or_none (sym (same_kind (kind_of a)) ∙ is.dict.dicts) given.0)
    follow (u ∷ v ∷ y ∷ s ∷ more) given good = absurd given.1.1.1

  got_done : IsTold (SecondIsThere m) known around (row.Method name site) w.found.covered (get_asks around place a n w.found.covered) place (a ∷ b ∷ c ∷ []) w
  got_done = record {
    ops = dict_ops known around place a b w n m value is values stay ++ (key_ops known around place a b w n m value is values stay ++ behind known around place a b w n m value is values stay c.x);
    new = new known around place a b w n m value is values stay c.x;
    asked = found_so known around place a b w n m value is values stay c.x (row.Method name site) site (a ∷ b ∷ c ∷ []) is_written;
    written = ops_so known around place a b w n m value is values stay c.x (row.Method name site) site (a ∷ b ∷ c ∷ []) is_written;
    types = types_so known around place a b w n m value is values stay c.x (row.Method name site) site (a ∷ b ∷ c ∷ []) is_written;
    follows = λ p numbers raised arguments rest e frames core g world vs structs has stands left room inside below given good.
        subst (λ l. Follows 0 known around place p arguments (At l e frames core) rest e frames core g raised (references world.heap vs) (length w.body.types) world (meant_op known.program w.found.covered (row.Method name site) vs world))
        (regrouped known around place a b w n m value is values stay rest (calls known around place a b w n m value is values stay c.x)) (follow p numbers raised arguments rest e frames core g world structs has stands left room inside below vs given good);
  }

pub values_are_got : ValuesAreGot
values_are_got known around place a b c w site n m value is values stay stay_other = got_done known around place a b c w site n m value is values stay stay_other

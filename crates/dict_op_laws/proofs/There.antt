-- A dict that has to be there, in a variable: `None` fails, or raises.
use Rattle.std.proofs.Common.{◌≡◌, ◌<◌, ◌≤◌, ℕ, ◌+◌, ◌||◌, Bool, true, false, List, [], ◌∷◌, ◌++◌, length, Some, Ok, refl, sym, ap, ◌∙◌, subst, arith}
use Rattle.rpy_base.specs.declared.outcome.FailName.TheVariants as fail
use Rattle.csub_tree.specs.State.{Value, Flag, Null, Core}
use Rattle.csub_tree.specs.Operation.{is_unset, compared}
use Rattle.csub_tree.specs.Statement.{operand}
use Rattle.ll_code.specs.State.{Frame, At}
use Rattle.ll_code.specs.declared.program.LlType.{LlType}
use Rattle.ll_code.specs.declared.program.LlOp.{LlOp}
use Rattle.ll_code.specs.declared.program.LlOp.TheVariants as op
use Rattle.ll_code.specs.declared.program.LlExit.{LlExit}
use Rattle.ll_code.specs.declared.program.LlProgram.{LlProgram}
use Rattle.ll_build.specs.declared.needs.Numbers.{Numbers}
use Rattle.ll_leads.proofs.Ways.{call}
use Rattle.rpy_meaning.specs.World.{World, failure}
use Rattle.rtyper_layout.specs.declared.kind.Kind.{Kind}
use Rattle.rtyper_layout.specs.declared.kind.Kind.TheVariants as kind
use Rattle.rtyper_data.specs.declared.body.Body.{Body}
use Rattle.rtyper_data.specs.declared.small.Small.TheVariants as small
use Rattle.rtyper_data.specs.Converting.{by_small, present}
use Rattle.rtyper_data.specs.Finding.{small_number}
use Rattle.rtyper_data.specs.Seen.{Around, Operand, Place, kind_of, type_of, Writing, writing}
use Rattle.rtyper_data.specs.Tuples.{variable_of}
use Rattle.rtyper_dict.specs.Operands.{of_dict, of_dict_or_none, there}
use Rattle.rtyper_dict.specs.Parts.{variable_in}
use Rattle.lower_laws.specs.Asked.{all_asked, HasSmall}
use Rattle.lower_laws.specs.Values.{IsBelow}
use Rattle.lower_laws.proofs.Doing.{after}
use Rattle.dict_op_laws.specs.Asked.{HasAll}
use Rattle.object_laws.specs.Known.{Known}
use Rattle.object_laws.specs.Done.{Follows}
use Rattle.object_laws.specs.Ghost.{Ghost}
use Rattle.dict_op_laws.specs.Dicts.{if_missing, there_asks}
use Rattle.object_laws.proofs.Passing.{none_passed, sets_more, is_set_at, throws_at, fails_at, Went}
use Rattle.object_laws.proofs.Present.{present_comes, present_flies, present_fails}
use Rattle.object_laws.proofs.Variables.{InVariable, in_variable}

-- what is written for it, and what that does
pub record Entered (around : Around) (t : LlType) (a : Operand) (w : Writing) : Type 0 where
  pub x : ℕ
  pub ops : List LlOp
  pub new : List LlType
  pub written : variable_in t (there around a w) ≡ (x, writing (all_asked (there_asks around a w.found.covered) w.found) (record { types = w.body.types ++ new; ops = w.body.ops ++ ops }))
  pub inside : IsBelow (length w.body.types) a.x → x < length w.body.types + length new
  pub enters : (p : LlProgram) (numbers : Numbers) (raised : ℕ → Value) (arguments : List (List ℕ)) (rest : List LlOp) (e : LlExit) (frames : List Frame) (core : Core)
      → HasAll p around.layout numbers raised core (there_asks around a w.found.covered) w.found → length w.body.types + length new ≤ length core.vars
      → is_unset (operand core.vars a.x) ≡ false → compared (operand core.vars a.x) Null ≡ Ok (Flag false)
      → Went p arguments (At (ops ++ rest) e frames core) rest e frames core (length w.body.types) x (operand core.vars a.x)
  pub misses : (known : Known) (place : Place) (p : LlProgram) (numbers : Numbers) (raised : ℕ → Value) (arguments : List (List ℕ)) (later rest : List LlOp) (e : LlExit) (frames : List Frame) (core : Core) (g : Ghost) (most : ℕ) (world : World)
      → HasAll p around.layout numbers raised core (there_asks around a w.found.covered) w.found → kind_of a ≡ kind.MaybeDict → operand core.vars a.x ≡ Null
      → Follows 0 known around place p arguments (At (ops ++ (later ++ rest)) e frames core) rest e frames core g raised most (length w.body.types) world (failure w.found.covered.attribute 9 fail.Attribute world)

module _ (around : Around) (t : LlType) (a : Operand) (w : Writing) where
  abbrev m : ℕ
  m = length w.body.types

  -- ---- a dict that is there

  module _ (h : kind_of a ≡ kind.Dict) where
    none_asked : all_asked (there_asks around a w.found.covered) w.found ≡ w.found
    none_asked = ap (λ k. all_asked (if_missing (of_dict_or_none k) (type_of around a) w.found.covered) w.found) h

    alone : variable_in t (there around a w) ≡ ((variable_of a.x t w.body).0, writing w.found (variable_of a.x t w.body).1)
    unfolding there
    alone = ap (λ k. variable_in t (present around a (of_dict_or_none k) w)) h

    never_missing : kind_of a ≡ kind.MaybeDict → ⊥
    never_missing k = (let q : kind.Dict ≡ kind.MaybeDict = sym h ∙ k in absurd (cc))

    value : InVariable t a.x w.body
    value = in_variable t a.x w.body

    by_value : Entered around t a w
    by_value = record {
      x = value.x;
      ops = value.ops;
      new = value.new;
      written = alone ∙ ap (λ (made : ℕ × Body). (made.0, writing w.found made.1)) value.written ∙ ap (λ f. (value.x, writing f (record { types = w.body.types ++ value.new; ops = w.body.ops ++ value.ops }))) (sym none_asked);
      inside = value.inside;
      enters = λ p numbers raised arguments rest e frames core has room set there. value.enters p arguments rest e frames core room set;
      misses = λ known place p numbers raised arguments later rest e frames core g most world has k low. absurd (never_missing k);
    }

  -- ---- one that may be missing

  module _ (h : kind_of a ≡ kind.MaybeDict) where
    abbrev number : ℕ
    number = (small_number (small.Present (type_of around a) w.found.covered.attribute) w.found).0

    asked_is : all_asked (there_asks around a w.found.covered) w.found ≡ (small_number (small.Present (type_of around a) w.found.covered.attribute) w.found).1
    asked_is = ap (λ k. all_asked (if_missing (of_dict_or_none k) (type_of around a) w.found.covered) w.found) h

    by_call : variable_in t (there around a w) ≡ (m, writing (small_number (small.Present (type_of around a) w.found.covered.attribute) w.found).1 (record { types = w.body.types ++ type_of around a ∷ []; ops = w.body.ops ++ op.Call (Some m) number (a.x ∷ []) ∷ [] }))
    unfolding there by_small variable_of
    by_call = ap (λ k. variable_in t (present around a (of_dict_or_none k) w)) h

    module _ (p : LlProgram) (numbers : Numbers) (raised : ℕ → Value) (arguments : List (List ℕ)) (core : Core) (has : HasAll p around.layout numbers raised core (there_asks around a w.found.covered) w.found) where
      present_has : HasSmall p around.layout raised (small.Present (type_of around a) w.found.covered.attribute) number
      present_has = (subst (λ k. HasAll p around.layout numbers raised core (if_missing (of_dict_or_none k) (type_of around a) w.found.covered) w.found) h has).0

      missing_follows : (known : Known) (place : Place) (later rest : List LlOp) (e : LlExit) (frames : List Frame) (g : Ghost) (most : ℕ) (world : World) → operand core.vars a.x ≡ Null
          → (c : Bool) → HasSmall p around.layout raised (small.Present (type_of around a) c) number
          → Follows 0 known around place p arguments (At (op.Call (Some m) number (a.x ∷ []) ∷ (later ++ rest)) e frames core) rest e frames core g raised most m world (failure c 9 fail.Attribute world)
      missing_follows known place later rest e frames g most world low true s = throws_at (ap (λ x. x ∷ []) low) refl later rest (present_flies p around.layout arguments raised (type_of around a) number core s)
      missing_follows known place later rest e frames g most world low false s = fails_at (ap (λ x. x ∷ []) low) refl (later ++ rest) (present_fails p around.layout arguments raised (type_of around a) number core s)

    by_present : Entered around t a w
    by_present = record {
      x = m;
      ops = op.Call (Some m) number (a.x ∷ []) ∷ [];
      new = type_of around a ∷ [];
      written = by_call ∙ ap (λ f. (m, writing f (record { types = w.body.types ++ type_of around a ∷ []; ops = w.body.ops ++ op.Call (Some m) number (a.x ∷ []) ∷ [] }))) (sym asked_is);
      inside = λ below. omega arith;
      enters = λ p numbers raised arguments rest e frames core has room set there. record {
        mid = after core m (operand core.vars a.x);
        way = call (ap (λ b. b || false) set) (present_comes p around.layout arguments raised (type_of around a) number core w.found.covered.attribute (present_has p numbers raised arguments core has) (operand core.vars a.x) set there);
        passed = sets_more m (operand core.vars a.x) (omega arith) none_passed;
        is = is_set_at core m (operand core.vars a.x) (omega (arith, room));
      };
      misses = λ known place p numbers raised arguments later rest e frames core g most world has k low.
          missing_follows p numbers raised arguments core has known place later rest e frames g most world low w.found.covered.attribute (present_has p numbers raised arguments core has);
    }

  -- ---- either

  by_kind : (k : Kind) → kind_of a ≡ k → of_dict k ≡ true → Entered around t a w
  by_kind kind.Dict h l = by_value h
  by_kind kind.MaybeDict h l = by_present h
  by_kind _ h l = absurd (cc)

  pub entered : of_dict (kind_of a) ≡ true → Entered around t a w
  entered h = by_kind (kind_of a) refl h

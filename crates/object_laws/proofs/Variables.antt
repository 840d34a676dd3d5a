-- The value of an operand, in a variable.
use Rattle.std.proofs.Common.{◌≡◌, ◌<◌, ◌≤◌, ℕ, ◌+◌, false, List, [], ◌∷◌, ◌++◌, length, refl, sym, ap, ◌∙◌, arith}
use Rattle.std.proofs.lemmas.List.{append-nil}
use Rattle.csub_tree.specs.State.{Core}
use Rattle.csub_tree.specs.Operation.{is_unset}
use Rattle.csub_tree.specs.Statement.{operand}
use Rattle.csub_tree.specs.declared.tree.COperand.{COperand}
use Rattle.csub_tree.specs.declared.tree.COperand.TheVariants.{Var, Const}
use Rattle.ll_code.specs.State.{Frame, At}
use Rattle.ll_code.specs.declared.program.LlType.{LlType}
use Rattle.ll_code.specs.declared.program.LlOp.{LlOp}
use Rattle.ll_code.specs.declared.program.LlOp.TheVariants as op
use Rattle.ll_code.specs.declared.program.LlExit.{LlExit}
use Rattle.ll_code.specs.declared.program.LlProgram.{LlProgram}
use Rattle.ll_leads.proofs.Ways.{rests}
use Rattle.rtyper_data.specs.declared.body.Body.{Body}
use Rattle.rtyper_data.specs.Tuples.{variable_of}
use Rattle.lower_laws.specs.Values.{IsBelow}
use Rattle.lower_laws.proofs.Doing.{after}
use Rattle.lower_laws.proofs.Single.{sets}
use Rattle.object_laws.proofs.Passing.{none_passed, sets_more, is_set_at, Went}

-- what is written for it, and what that does
pub record InVariable (t : LlType) (a : COperand) (body : Body) : Type 0 where
  pub x : ℕ
  pub ops : List LlOp
  pub new : List LlType
  pub written : variable_of a t body ≡ (x, record { types = body.types ++ new; ops = body.ops ++ ops })
  pub inside : IsBelow (length body.types) a → x < length body.types + length new
  pub enters : (p : LlProgram) (arguments : List (List ℕ)) (rest : List LlOp) (e : LlExit) (frames : List Frame) (core : Core) → length body.types + length new ≤ length core.vars → is_unset (operand core.vars a) ≡ false
      → Went p arguments (At (ops ++ rest) e frames core) rest e frames core (length body.types) x (operand core.vars a)

pub in_variable : (t : LlType) (a : COperand) (body : Body) → InVariable t a body
unfolding variable_of
in_variable t (Var b) body = record {
  x = b;
  ops = [];
  new = [];
  written = ap (λ ts. (b, record body { types = ts })) (sym (append-nil body.types)) ∙ ap (λ os. (b, record { types = body.types ++ []; ops = os })) (sym (append-nil body.ops));
  inside = λ below. omega (arith, below);
  enters = λ p arguments rest e frames core room set. record { mid = core; way = rests; passed = none_passed; is = refl };
}
in_variable t (Const c) body = record {
  x = length body.types;
  ops = op.Set (length body.types) (Const c) ∷ [];
  new = t ∷ [];
  written = refl;
  inside = λ below. omega arith;
  enters = λ p arguments rest e frames core room set. record {
    mid = after core (length body.types) (operand core.vars (Const c));
    way = sets (operand core.vars (Const c)) refl set;
    passed = sets_more (length body.types) (operand core.vars (Const c)) (omega arith) none_passed;
    is = is_set_at core (length body.types) (operand core.vars (Const c)) (omega (arith, room));
  };
}

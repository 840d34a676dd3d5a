-- Calls that make blocks or write into them, whatever waits behind them.
use Rattle.std.proofs.Common.{◌≡◌, ℕ, ◌+◌, false, List, [], ◌∷◌, Option, refl, ap, ◌∙◌, subst, arith}
use Rattle.std.specs.Prelude.{cond}
use Rattle.csub_tree.specs.State.{Value, Core}
use Rattle.csub_tree.specs.Statement.{operands, any_unset, taken_by}
use Rattle.csub_tree.specs.declared.stuck.StuckReason.TheVariants.{Unset as IsUnset}
use Rattle.csub_tree.specs.declared.tree.COperand.{COperand}
use Rattle.ll_code.specs.State.{Frame, State, Calling, At, Returning, Goes, Sticks}
use Rattle.ll_code.specs.Machine.{waiting}
use Rattle.ll_code.specs.declared.program.LlOp.{LlOp}
use Rattle.ll_code.specs.declared.program.LlOp.TheVariants as op
use Rattle.ll_code.specs.declared.program.LlExit.{LlExit}
use Rattle.ll_code.specs.declared.program.LlProgram.{LlProgram}
use Rattle.ll_leads.specs.Memory.{forgotten}
use Rattle.ll_leads.specs.Path.{Leads}
use Rattle.ll_leads.proofs.Joined.{leads_then, leads_more}
use Rattle.ll_leads.proofs.Ways.{one}

-- a value is given back, over this memory; so many references are written at most
pub record Returns (p : LlProgram) (args : List (List ℕ)) (most : ℕ) (s : State) (value : Value) (frames : List Frame) (memory : Core) : Type 0 where
  pub end : Core
  pub same : forgotten end ≡ forgotten memory
  pub leads : Leads p args most s [] (Returning value frames end)

-- the core that comes back to a call
abbrev pub back : Core → Core → Option ℕ → Value → Core
back core memory into value = record memory { function = core.function; block = core.block; at = core.at + 1; vars = taken_by core.vars into value }

module _ {p : LlProgram} {args : List (List ℕ)} {into : Option ℕ} {f : ℕ} {xs : List COperand} {ops : List LlOp} {e : LlExit} {frames : List Frame} {core : Core} {values : List Value} {value : Value} {memory : Core} where
  pub calls_back : (most : ℕ) → operands core.vars xs ≡ values → any_unset values ≡ false → ((waits : List Frame) → Returns p args most (Calling f values waits core) value waits memory)
      → Leads p args most (At (op.Call into f xs ∷ ops) e frames core) [] (At ops e frames (back core memory into value))
  calls_back most same set go =
      let g = go (waiting core into ops e ∷ frames) in
      let enters : Leads p args 0 (At (op.Call into f xs ∷ ops) e frames core) [] (Calling f values (waiting core into ops e ∷ frames) core) =
      one (ap (λ vs. cond (any_unset vs) (Sticks IsUnset) (Goes (Calling f vs (waiting core into ops e ∷ frames) core))) same ∙ ap (λ b. cond b (Sticks IsUnset) (Goes (Calling f values (waiting core into ops e ∷ frames) core))) set) refl in
      let leaves : Leads p args 0 (Returning value (waiting core into ops e ∷ frames) g.end) [] (At ops e frames (back core memory into value)) =
      subst (λ (c : Core). Leads p args 0 (Returning value (waiting core into ops e ∷ frames) g.end) [] (At ops e frames (back core c into value))) g.same (one refl refl) in
      leads_more (0 + (most + 0)) most (omega arith) (leads_then enters (leads_then g.leads leaves))

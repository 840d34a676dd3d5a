-- Several payments in a row: they suffice, or the run ends at one of them.
use Rattle.std.proofs.Common.{◌≡◌, ◌<◌, ◌≤◌, ℕ, ◌+◌, ◌-◌, Bool, true, false, List, [], ◌∷◌, pos, refl, subst, arith}
use Rattle.std.specs.Prelude.{nat_lt}
use Rattle.std.proofs.lemmas.Bool.Decides.{nat_tests}
use Rattle.rpy_base.specs.declared.outcome.Outcome.TheVariants.{Running}
use Rattle.csub_tree.specs.State.{Value, Word, Core}
use Rattle.csub_tree.specs.Statement.{operand}
use Rattle.csub_tree.specs.declared.tree.COperand.{COperand}
use Rattle.ll_code.specs.State.{Frame, At, Ends}
use Rattle.ll_code.specs.Machine.{step}
use Rattle.ll_code.specs.declared.program.LlOp.{LlOp}
use Rattle.ll_code.specs.declared.program.LlOp.TheVariants as op
use Rattle.ll_code.specs.declared.program.LlExit.{LlExit}
use Rattle.ll_code.specs.declared.program.LlProgram.{LlProgram}
use Rattle.ll_leads.specs.Path.{Leads}
use Rattle.ll_leads.proofs.Ways.{on, rests, pays, lacks}

abbrev pub Cost : Type 0
Cost = COperand × ℕ

-- the payments before what comes behind
abbrev pub before : List Cost → List LlOp → List LlOp
before [] ops = ops
before (c ∷ costs) ops = op.Step c.0 ∷ before costs ops

abbrev pub all_costs : List Cost → ℕ
all_costs [] = 0
all_costs (c ∷ costs) = c.1 + all_costs costs

abbrev pub AreCosts : List Value → List Cost → Type 0
AreCosts vars [] = Unit {0}
AreCosts vars (c ∷ costs) = (operand vars c.0 ≡ Word (pos c.1)) × AreCosts vars costs

-- where they have been paid
abbrev pub behind : List Cost → ℕ → ℕ
behind [] at = at
behind (c ∷ costs) at = behind costs (at + 1)

-- the run ends where one of them lacks steps
pub record Short (p : LlProgram) (args : List (List ℕ)) (ops : List LlOp) (e : LlExit) (frames : List Frame) (core : Core) : Type 0 where
  pub rest : List LlOp
  pub at : ℕ
  pub steps : ℕ
  pub leads : Leads p args 0 (At ops e frames core) [] (At rest e frames (record core { at = at; steps = steps }))
  pub ends : step p args (At rest e frames (record core { at = at; steps = steps })) ≡ Ends Running (record core { at = at; steps = steps })

module _ (p : LlProgram) (args : List (List ℕ)) (ops : List LlOp) (e : LlExit) (frames : List Frame) where
  pub all_paid : (costs : List Cost) (core : Core) (left : ℕ) → AreCosts core.vars costs → core.steps ≡ all_costs costs + left → Leads p args 0 (At (before costs ops) e frames core) [] (At ops e frames (record core { at = behind costs core.at; steps = left }))
  all_paid [] core left are h = (let q : core.steps ≡ left = omega (arith, h) in subst (λ n. Leads p args 0 (At ops e frames core) [] (At ops e frames (record core { steps = n }))) q rests)
  all_paid (c ∷ costs) core left are h = on (pays c.1 (all_costs costs + left) are.0 (omega (arith, h))) (all_paid costs (record core { at = core.at + 1; steps = all_costs costs + left }) left are.1 refl)

  pub not_paid : (costs : List Cost) (core : Core) → AreCosts core.vars costs → core.steps < all_costs costs → Short p args (before costs ops) e frames core
  not_paid [] core are h = absurd (omega (arith, h))
  not_paid (c ∷ costs) core are h = by (λ less. not_paid costs (record core { at = core.at + 1; steps = core.steps - c.1 }) are.1 less) (nat_lt core.steps c.1) refl
    where
      by : (core.steps - c.1 < all_costs costs → Short p args (before costs ops) e frames (record core { at = core.at + 1; steps = core.steps - c.1 })) → (t : Bool) → nat_lt core.steps c.1 ≡ t → Short p args (op.Step c.0 ∷ before costs ops) e frames core
      by go true k = record { rest = op.Step c.0 ∷ before costs ops; at = core.at; steps = core.steps; leads = rests; ends = lacks p args (before costs ops) e frames core c.0 c.1 are.0 (grind (arith, nat_tests, k)) }
      by go false k =
          let enough : c.1 ≤ core.steps = grind (arith, nat_tests, k) in
          let it = go (omega (arith, h, enough)) in
          record { rest = it.rest; at = it.at; steps = it.steps; leads = on (pays c.1 (core.steps - c.1) are.0 (omega (arith, enough))) it.leads; ends = it.ends }

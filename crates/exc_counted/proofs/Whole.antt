-- The explicit program of one that passes the tests for both can be counted.
use Rattle.std.proofs.Common.{◌≡◌, Bool, true, false, List, refl, sym, ap, subst}
use Rattle.std.specs.Prelude.{cond}
use Rattle.ll_code.specs.declared.program.LlStage.TheVariants as stage
use Rattle.ll_code.specs.declared.program.LlGraph.{LlGraph}
use Rattle.ll_code.specs.declared.program.LlProgram.{LlProgram}
use Rattle.ll_laws.proofs.Values.{and_left, and_right}
use Rattle.ll_points.proofs.Found.{slots_found}
use Rattle.exc_transform.specs.Explicit.{graphs_calm}
use Rattle.exc_transform.specs.Pieces.{graphs_of, explicit}
use Rattle.exc_laws.proofs.WellTyped.{explicit_typed}
use Rattle.exc_ready.specs.Raisable.{slots_for}
use Rattle.exc_ready.proofs.Agreeing.{explicit_agrees}
use Rattle.exc_ready.proofs.Reading.{explicit_reads_inputs}
use Rattle.refcount_typed.specs.Leads.{LeadsToRoots}
use Rattle.refcount_checks.specs.Countable.{is_countable}
use Rattle.refcount_ready.specs.Programs.{CanBeCounted}
use Rattle.ll_compiled.specs.Compiled.{CanBeCompiled}
use Rattle.exc_counted.specs.Both.{CanBeBoth}
use Rattle.exc_counted.proofs.Roots.{made_lead, made_numbered}
use Rattle.exc_counted.proofs.Counting.{made_countable}

module _ (p : LlProgram) (both : CanBeBoth p) where
  -- nothing raises, and nothing catches
  same_graphs : graphs_calm p.graphs ≡ true → p.graphs ≡ (explicit p).graphs
  same_graphs e = sym (ap (λ b. cond b p.graphs (graphs_of p.structs p.graphs)) e)

  leads : LeadsToRoots (explicit p)
  leads = by (graphs_calm p.graphs) refl
    where
      by : (b : Bool) → graphs_calm p.graphs ≡ b → LeadsToRoots (explicit p)
      by true e = subst (λ (graphs : List LlGraph). LeadsToRoots (record p { stage = stage.Explicit; graphs = graphs })) (same_graphs e) both.leads
      by false e = made_lead p both.typed both.raisable both.leads e

  countable : is_countable (explicit p) ≡ true
  countable = by (graphs_calm p.graphs) refl
    where
      by : (b : Bool) → graphs_calm p.graphs ≡ b → is_countable (explicit p) ≡ true
      by true e = subst (λ (graphs : List LlGraph). is_countable (record p { stage = stage.Explicit; graphs = graphs }) ≡ true) (same_graphs e) both.countable
      by false e = made_countable p both.raisable e both.few (and_right _ _ (and_left _ _ both.typed)) both.countable both.catches

pub can_be_counted : (p : LlProgram) → CanBeBoth p → CanBeCounted (explicit p)
can_be_counted p both = record {
  typed = explicit_typed p both.typed both.raw;
  agrees = slots_found (explicit p) (slots_for p) (explicit_agrees p both.typed both.raw both.raisable);
  leads = leads p both;
  numbers = made_numbered p both.raisable both.numbers;
  inputs = explicit_reads_inputs p both.raisable;
  countable = countable p both;
}

pub can_be_compiled : (p : LlProgram) → CanBeBoth p → CanBeCompiled (explicit p)
can_be_compiled p both = record { explicit = refl; counts = can_be_counted p both }

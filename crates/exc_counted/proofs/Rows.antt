-- A program that raises and catches an exception passes the tests for both, and its file means what it means.
use Rattle.std.proofs.Common.{◌≡◌, ◌<◌, zero, suc, false, [], ◌∷◌, Some, refl, length, subst}
use Rattle.csub_tree.specs.Meaning as c
use Rattle.csub_tree.specs.declared.tree.COperand.TheVariants.{Var}
use Rattle.ll_code.specs.Machine.{shapes_from}
use Rattle.ll_code.specs.declared.program.LlOp.TheVariants as op
use Rattle.ll_code.specs.declared.program.LlExit.TheVariants as exit
use Rattle.ll_code.specs.declared.program.LlGraph.{LlGraph}
use Rattle.ll_laws.proofs.Values.{is_less}
use Rattle.exc_transform.specs.Pieces.{explicit}
use Rattle.exc_laws.specs.Holds.{HasFewVariables}
use Rattle.exc_ready.proofs.Rows.{caught, typed, passes, classed, meant, means}
use Rattle.refcount_checks.specs.Countable.{most}
use Rattle.refcount_ready.specs.Programs.{RunsSmall}
use Rattle.refcount_ready.proofs.Small.{fine_within, small_run}
use Rattle.ll_compiled.specs.Compiled.{compiled, MeansAlike}
use Rattle.exc_counted.specs.Both.{CanBeBoth, catches_other}
use Rattle.exc_counted.specs.Along.{HasFile, RunsWell}
use Rattle.exc_counted.proofs.Whole.{can_be_compiled}
use Rattle.exc_counted.proofs.Composed.{same_runs}

few_of : (g graph : LlGraph) → Some g ≡ Some graph → length g.types < most → length graph.types < most
few_of g graph e lt = let same : g ≡ graph = cc in subst (λ (g : LlGraph). length g.types < most) same lt

few : HasFewVariables most caught
few zero graph e = few_of _ graph e (is_less 2 most refl)
few (suc zero) graph e = few_of _ graph e (is_less 2 most refl)
few (suc (suc f)) graph e = absurd (cc)

both : CanBeBoth caught
both = record { typed = typed; raw = refl; raisable = passes; catches = refl; few = few; leads = refl; numbers = refl; countable = refl }

-- not where a block catches what it raises in the same variable
same_variable : catches_other (op.Raise 0 ∷ []) (exit.OnRaise 0 (Some (record { to = 1; args = Var 0 ∷ [] })) (record { to = 1; args = [] })) ≡ false
same_variable = refl

has : HasFile caught
has = record { typed = typed; raw = refl; raisable = passes; can = can_be_compiled caught both }

small : RunsSmall (explicit caught) [] 0
unfolding fine_within shapes_from
small = small_run (explicit caught) [] 40 0 refl

well : RunsWell caught [] 0
well = record { classed = classed; small = small }

-- the file comes to seven too
means_file : (c_meant : c.Meant) × c.CMeans (compiled (explicit caught)) [] 0 c_meant × MeansAlike meant c_meant
means_file = (same_runs caught has [] 0 well).forth meant means tt

-- A low-level program with explicit exceptions that passes the tests for counting.
use Rattle.std.specs.Prelude.{◌≡◌, ◌&&◌, Bool, true, List}
use Rattle.ll_code.specs.declared.program.LlGraph.{LlGraph}
use Rattle.refcount_transform.specs.Plan.{Plan}
use Rattle.refcount_laws.specs.Made.{structs_lead}
use Rattle.ll_code.specs.declared.program.LlProgram.{LlProgram}
use Rattle.ll_held.specs.Quiet.{ReadsInputs}
use Rattle.ll_points.specs.Agrees.{Agrees, slots_of, slots_among, graphs_agree}
use Rattle.refcount_typed.specs.Leads.{LeadsToRoots, graphs_lead}
use Rattle.refcount_typed.specs.Numbered.{HasNumbers, structs_numbered}
use Rattle.refcount_checks.specs.Countable.{is_countable, graphs_count}
use Rattle.refcount_checks.specs.Watch.{graphs_read_known}

-- what is tested
abbrev pub plan_passes : Plan → List LlGraph → Bool
plan_passes plan graphs =
    graphs_read_known graphs && graphs_count plan graphs graphs && (structs_lead plan plan.structs && graphs_lead plan graphs) && structs_numbered plan plan.structs && graphs_agree (slots_among graphs) graphs

-- references lead to roots, arrays of references have their numbers, blocks read their inputs alone, the exception slots are used alike and nothing is raised or freed, and references can be counted
pub record Passes (p : LlProgram) : Type 0 where
  pub leads : LeadsToRoots p
  pub numbers : HasNumbers p
  pub closed : ReadsInputs p
  pub agrees : Agrees (slots_of p) p
  pub countable : is_countable p ≡ true

-- What is asked for gives something, where it stands.
use Rattle.std.proofs.Common.{◌≡◌, ℕ, Some, sym, ◌∙◌, ap, subst}
use Rattle.std.specs.Prelude.{slice_get, ◌≢◌}
use Rattle.ll_code.specs.declared.program.LlGraph.{LlGraph}
use Rattle.ll_code.specs.declared.program.LlProgram.{LlProgram}
use Rattle.ll_code.specs.declared.program.LlType.TheVariants as type
use Rattle.ll_helpers.specs.Helpers.{graph_for}
use Rattle.rtyper_raising.specs.Raising.{raising_graph}
use Rattle.rtyper_data.specs.Finding.{failures_of, helper_number, small_number}
use Rattle.rtyper_program.specs.Program.{small_of}
use Rattle.program_asks.specs.Standing.{HasAsked, HelperStands, Stands}
use Rattle.reading_laws.specs.Standing.{CallsGiveInPrograms}
use Rattle.reading_laws.specs.Tidy.{GivesAt}
use Rattle.reading_laws.proofs.Results.{helper_result, small_result}

-- what stands at the number gives something
at_number : (p : LlProgram) (number : ℕ) (there : LlGraph) → slice_get p.graphs number ≡ Some there → there.result ≢ type.Void → GivesAt p number
at_number p number there is gives graph e = let q : there ≡ graph = (let r : Some there ≡ Some graph = sym is ∙ e in cc) in subst (λ (g : LlGraph). g.result ≢ type.Void) q gives

pub calls_give : CallsGiveInPrograms
calls_give p known world numbers first last asked few typed functions = record {
  helpers = λ h g found a b.
      let it : HelperStands p.graphs numbers last (helper_number h found).0 h (failures_of h found.covered) = asked.helpers h found a b in
      at_number p (helper_number h found).0 (raising_graph (failures_of h found.covered) (graph_for numbers h) it.made) it.graph (helper_result numbers h g);
  smalls = λ s g found a.
      let it : Stands p.graphs world last (small_number s found).0 s = asked.smalls few s found a in
      at_number p (small_number s found).0 (small_of world s it.made).0 it.graph (small_result world s it.made typed g);
  functions = functions;
}

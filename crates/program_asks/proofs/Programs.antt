-- Programs that are made of flow graphs have what they ask for.
use Rattle.std.proofs.Common.{◌<◌, ◌^◌, length, sym, subst}
use Rattle.ll_code.specs.declared.program.LlProgram.{LlProgram}
use Rattle.class_desc.specs.Tables.{Tables}
use Rattle.rtyper_layout.specs.declared.layout.Layout.{Layout}
use Rattle.rtyper_data.specs.Finding.{failures_of, helper_number}
use Rattle.rtyper_program.specs.Program.{IsSettled}
use Rattle.rtyper_program.specs.Seen.{Known}
use Rattle.program_asks.specs.Standing.{HasAsked, HasStatics, HelperStands, OnlyAsks, StandsAsked, first_in, last_in, numbers_in, world_in}
use Rattle.program_asks.proofs.Helpers.{helpers_stand, statics_stand}
use Rattle.program_asks.proofs.Passes.{asked_stand}

pub programs_have_asked : (known : Known) (classes : Tables) (layout : Layout) (p : LlProgram) (r : IsSettled known classes layout p) → OnlyAsks known (world_in known classes layout p r)
    → HasAsked p known (world_in known classes layout p r) (numbers_in known classes layout p r) (first_in known classes layout p r) (last_in known classes layout p r)
programs_have_asked known classes layout p r only = record {
  smalls = λ few s found late.
      subst (λ q. StandsAsked q.graphs (world_in known classes layout p r) (last_in known classes layout p r) s found) (sym r.written)
      (asked_stand known classes layout r.needs r.caught r.count only r.no_small_more (subst (λ q. length q.graphs < 2 ^ 64) r.written few) s found late);
  helpers = λ h found early late.
      subst (λ q. HelperStands q.graphs (numbers_in known classes layout p r) (last_in known classes layout p r) (helper_number h found).0 h (failures_of h found.covered)) (sym r.written)
      (helpers_stand known classes layout r.needs r.caught r.count only r.no_helper_more h found early late);
  statics = subst (λ q. HasStatics known (world_in known classes layout p r) q) (sym r.written) (statics_stand known classes layout r.needs r.caught r.count only);
}

-- What is told need not be asked of the parts of a program.
use Rattle.std.proofs.Common.{[], ◌∷◌, sym, subst}
use Rattle.ll_code.specs.declared.program.LlProgram.{LlProgram}
use Rattle.rtyper_program.specs.Handlers.{any_other}
use Rattle.rtyped_laws.specs.Programs.{layout_for}
use Rattle.catch_laws.specs.Exits.{excepting, the_caught}
use Rattle.told_graphs.specs.Told.{AreTested}
use Rattle.told_graphs.specs.Suffices.{LandingsSuffice, PartsSuffice, WaysSuffice}
use Rattle.told_graphs.proofs.CountingPrograms.{blocks_are_few}
use Rattle.told_graphs.proofs.Programs.{programs_are_told}
use Rattle.told_graphs.proofs.Tests.{handlers_are_tested}

pub parts_suffice : PartsSuffice
parts_suffice known classes p r seen graphs arguments few parts = record {
  same = parts.same;
  knows = parts.knows;
  parts = parts.parts;
  told = λ found early late. programs_are_told known classes p r seen graphs arguments few parts.knows found late;
  few = λ number graph there. blocks_are_few known classes (layout_for known classes) p r parts.functions number graph there;
}

pub landings_suffice : LandingsSuffice
landings_suffice s numbers l caught names [] next land test = tt
landings_suffice s numbers l caught names (hand ∷ hands) next land test = (landings_suffice s numbers l caught names hands next land.0 test.0, record { class = land.1.class; landing = land.1.landing; test = test.1 })

pub ways_suffice : WaysSuffice
ways_suffice known classes layout p r few s numbers l names o v hands any without w e least low same late ways =
    let caught = the_caught s numbers l names o v hands any without w e in
    let next = any_other l caught any (excepting s numbers l names o v hands any without w e) in
    record {
      own = ways.own;
      way = ways.way;
      conversions = ways.conversions;
      are = ways.are;
      fits = ways.fits;
      any_done = ways.any_lands;
      hands_done = λ raises.
          landings_suffice s numbers l caught names hands next (ways.hands_land raises)
          (subst (λ (q : LlProgram). AreTested q s.known.exception l caught hands next) (sym low) (handlers_are_tested known classes layout p r few s.known.exception s numbers l names o v hands any without w e least same raises late));
    }

-- Constants that are lists and dicts of modules give their values.
use Rattle.std.proofs.Common.{Some, ap, ◌∙◌, subst, refl, sym}
use Rattle.rpy_meaning.specs.declared.row.RowOp.TheVariants as row
use Rattle.rpy_meaning.specs.Operations.{constant as meant_of}
use Rattle.rtyper_data.specs.Seen.{type_at}
use Rattle.rtyper_op.specs.Constants.{constant_of}
use Rattle.rtyper_op.specs.Lowering.{literal, of_some}
use Rattle.growth_laws.proofs.Operating.{constant_of_grows}
use Rattle.conversion_laws.proofs.Cells.{begun_at}
use Rattle.conversion_laws.proofs.Constants.{Made}
use Rattle.conversion_laws.proofs.Given.{given, to_constant}
use Rattle.program_asks.specs.Standing.{first_in, world_in}
use Rattle.rtyped_laws.specs.Programs.{layout_for}
use Rattle.rtyper_data.specs.Finding.{prebuilt_at}
use Rattle.rtyper_op.specs.Prebuilt.{type_of_site}
use Rattle.start_laws.specs.Begins.{built_in, seen_at}
use Rattle.start_laws.specs.Given.{ConstantsAreGivenWithSites, ConstantsOfProgramsAreGiven, ProgramsKnowSites}
use Rattle.start_laws.specs.Knowing.{home_at, home_by}
use Rattle.start_laws.proofs.Making.{constant_ready, in_front, sites_are_made}
use Rattle.start_laws.proofs.Serving.{Kept, are_made, constant_held, made_typed}

pub constants_are_given : ConstantsAreGivenWithSites
unfolding of_some literal
constants_are_given known around sites same place found w covers c knows grows constant ready =
    let parts = are_made around known sites same found constant ready in
    let begins = (constant_of_grows around c (type_at around place) w.found).statics in
    let made : Made around.layout known place.element (constant_of around c (type_at around place) w.found) w.found (meant_of known.program.sites c) = record {
      begins = record { more = begins.0; is = sym begins.1 };
      holds = λ p last g heap left blocks statics has begun kept r.
          constant_held p around known sites same has g w.found parts (subst (Kept found.prebuilt) grows.sites.1 (in_front found.prebuilt grows.sites.0)) (λ dict site n number is at. r.sites site _ (knows dict site n number is at))
          (λ s static at settled. r.constants s _ (kept s static (begun_at begun s static at) settled));
    } in
    given known around (row.Constant c) covers place w (constant_of around c (type_at around place) w.found) (meant_of known.program.sites c)
    (to_constant around place c (type_at around place) w (made_typed around known sites same parts)) (λ world. refl) made

pub programs_know_sites : ProgramsKnowSites
programs_know_sites known classes p r meant dict site n number it at =
    let around = (world_in known classes (layout_for known classes) p r).around in
    let sites = known.program.sites in
    let same = known.annotation.same in
    ap (λ s. home_by around sites same site s (prebuilt_at (built_in known classes p r).prebuilt site)) it.is ∙ ap (home_by around sites same site (Some it.of)) at
    ∙ ap (λ d. home_at d (type_of_site around sites same site d) number) it.so ∙ ap (λ t. home_at dict t number) it.typed

pub constants_of_programs_are_given : ConstantsOfProgramsAreGiven
constants_of_programs_are_given known classes p r meant depth place w covers c nested grows constant filled =
    let around = (world_in known classes (layout_for known classes) p r).around in
    let found = built_in known classes p r in
    constants_are_given (seen_at known classes p r meant) around known.program.sites known.annotation.same place found w covers c (programs_know_sites known classes p r meant) grows constant
    (constant_ready found c (λ j x h. let it = filled j x h in sites_are_made around known.program.sites known.annotation.same depth (first_in known classes (layout_for known classes) p r) nested x it.0 it.1))

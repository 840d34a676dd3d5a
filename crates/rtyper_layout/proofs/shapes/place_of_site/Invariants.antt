use Rattle.std.proofs.Common.{◌≡◌, drop}
use Rattle.rtyper_layout.specs.Types.{site_from}
use Rattle.rtyper_layout.proofs.shapes.place_of_site.Given as goal

abbrev pub invariant-loop-each : goal.invariant-loop-each
invariant-loop-each l = record {
  counted : l.place ≡ l.each-index;
  rest : site_from l.each-index (drop l.each-index l.sites) l.site ≡ site_from 0 l.sites l.site;
}

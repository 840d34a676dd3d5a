use Rattle.std.proofs.Common.{◌≡◌, drop}
use Rattle.rtyper_data.specs.Finding.{prebuilt_at}
use Rattle.rtyper_data.proofs.found.static_of_site.Given as goal

abbrev pub invariant-loop-each : goal.invariant-loop-each
invariant-loop-each l = prebuilt_at (drop l.each-index l.found.prebuilt) l.site ≡ prebuilt_at l.found.prebuilt l.site

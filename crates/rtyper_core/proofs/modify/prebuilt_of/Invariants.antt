use Rattle.std.proofs.Common.{◌≡◌, drop}
use Rattle.rtyper_core.specs.Modify.{prebuilt_from, prebuilt}
use Rattle.rtyper_core.proofs.modify.prebuilt_of.Given as goal

abbrev pub invariant-loop-number : goal.invariant-loop-number
invariant-loop-number l = prebuilt_from l.same l.number (drop l.number l.sites) l.marks ≡ prebuilt l.same l.sites

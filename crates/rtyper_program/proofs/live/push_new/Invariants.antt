use Rattle.std.proofs.Common.{◌≡◌, drop}
use Rattle.rtyper_program.specs.Live.{with_new}
use Rattle.rtyper_program.proofs.live.push_new.Given as goal

abbrev pub invariant-loop-v : goal.invariant-loop-v
invariant-loop-v l = with_new (drop l.v-index l.variables) l.set l.into ≡ with_new l.variables l.set l.initial.into

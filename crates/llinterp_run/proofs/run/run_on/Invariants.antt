use Rattle.std.proofs.Common.{◌≡◌}
use Rattle.llinterp_run.proofs.run.run_on.Given as goal

abbrev pub invariant-loop : goal.invariant-loop
invariant-loop g l = g.K.Sink.faults l.out ≡ g.K.Sink.faults l.initial.out

use Rattle.std.proofs.Common.{◌≡◌, drop}
use Rattle.ll_code.specs.Typed.{params_ok}
use Rattle.ll_code.proofs.check.graphs.params_ok.Given as goal

abbrev pub invariant-loop-i : goal.invariant-loop-i
invariant-loop-i l = params_ok l.program l.graph.types l.i (drop l.i l.params) ≡ params_ok l.program l.graph.types 0 l.params

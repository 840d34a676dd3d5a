use Rattle.std.proofs.Common.{◌≡◌, ◌++◌, replicate}
use Rattle.csub_runner.specs.declared.val.Val.TheVariants.{Unset}
use Rattle.csub_runner.proofs.calls.push_unset.Given as goal

abbrev pub invariant-loop : goal.invariant-loop
invariant-loop l = l.vars.items ≡ l.initial.vars.items ++ replicate l.counter Unset

use Rattle.std.proofs.Common.{◌≡◌, ◌+◌, ◌-◌, length}
use Rattle.resolver_names.specs.Tables.{grown}
use Rattle.resolver_names.proofs.index.grow.Given as goal

abbrev pub invariant-loop-table : goal.invariant-loop-table
invariant-loop-table l = grown l.node l.table ≡ grown l.node l.initial.table

abbrev pub decreases-loop-table : goal.decreases-loop-table
decreases-loop-table l = l.node + 1 - length l.table

use Rattle.std.proofs.Common.{◌≡◌, drop}
use Rattle.ann_needs.specs.View.{named}
use Rattle.ann_needs.proofs.plan.named.Given as goal

abbrev pub invariant-loop-entry : goal.invariant-loop-entry
invariant-loop-entry l = named l.name (drop l.entry-index l.row) ≡ named l.name l.row

use Rattle.std.proofs.Common.{◌≡◌, drop}
use Rattle.csub_tree.specs.Checked.{are_types}
use Rattle.csub_tree.proofs.check.types.are_types.Given as goal

abbrev pub invariant-loop-kind : goal.invariant-loop-kind
invariant-loop-kind l = are_types l.structs (drop l.kind-index l.kinds) ≡ are_types l.structs l.kinds

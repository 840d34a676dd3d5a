use Rattle.std.proofs.Common.{◌≡◌, ◌++◌, drop, map}
use Rattle.csub_tree.specs.declared.tree.COperand.TheVariants.{Var}
use Rattle.refcount_transform.specs.Made.{first_operands}
use Rattle.refcount_transform.proofs.made.first_operands.Given as goal

abbrev pub invariant-loop-v : goal.invariant-loop-v
invariant-loop-v l = l.xs ++ map Var (drop l.v-index l.v-items) ≡ first_operands l.count

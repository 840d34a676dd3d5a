use Rattle.std.proofs.Common.{◌≡◌, ◌++◌, drop, map}
use Rattle.csub_tree.specs.declared.tree.COperand.TheVariants.{Var}
use Rattle.exc_transform.proofs.live.as_operands.Given as goal

abbrev pub invariant-loop-v : goal.invariant-loop-v
invariant-loop-v l = l.xs ++ map Var (drop l.v-index l.variables) ≡ map Var l.variables

use Rattle.std.proofs.Common.{◌≡◌, ◌++◌, drop}
use Rattle.ll_joined.specs.Named.{naming}
use Rattle.ll_joined.specs.Joined.{pairs_of, constants_of}
use Rattle.ll_joined.proofs.join.pairs_of.Given as goal

abbrev pub invariant-loop-i : goal.invariant-loop-i
invariant-loop-i l = (l.pairs ++ pairs_of (naming l.names) (drop l.i l.inputs) (drop l.i l.args) ≡ pairs_of (naming l.names) l.inputs l.args) × (l.ops ++ constants_of (drop l.i l.inputs) (drop l.i l.args) ≡ l.initial.ops ++ constants_of l.inputs l.args)

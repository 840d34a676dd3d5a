use Rattle.std.proofs.Common.{◌≡◌, ◌++◌, drop, map}
use Rattle.ll_joined.specs.Named.{named, naming}
use Rattle.ll_joined.proofs.names.push_named.Given as goal

abbrev pub invariant-loop-op : goal.invariant-loop-op
invariant-loop-op l = l.all ++ map (named (naming l.names)) (drop l.op-index l.ops) ≡ l.initial.all ++ map (named (naming l.names)) l.ops

use Rattle.std.proofs.Common.{◌≡◌, ◌++◌, drop, map}
use Rattle.ll_joined.specs.Named.{name_of, naming}
use Rattle.ll_joined.proofs.names.variables.Given as goal

abbrev pub invariant-loop-v : goal.invariant-loop-v
invariant-loop-v l = l.named ++ map (name_of (naming l.names)) (drop l.v-index l.given) ≡ map (name_of (naming l.names)) l.given

use Rattle.std.proofs.Common.{◌≡◌, ◌∷◌, codes, take}
use Rattle.rpy_crun.proofs.command.arguments.Given as goal

abbrev pub invariant-loop-arg : goal.invariant-loop-arg
invariant-loop-arg l = l.made.items ≡ codes "program" ∷ take l.arg-index l.args

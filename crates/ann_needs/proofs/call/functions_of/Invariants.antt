use Rattle.std.proofs.Common.{◌≡◌, map, take}
use Rattle.ann_needs.proofs.call.functions_of.Given as goal

abbrev pub invariant-loop-method : goal.invariant-loop-method
invariant-loop-method l = l.fs ≡ map (λ f. f.1) (take l.method-index l.methods)

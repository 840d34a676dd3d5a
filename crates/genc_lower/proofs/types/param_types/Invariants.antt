use Rattle.std.proofs.Common.{◌≡◌, ◌++◌, drop, map}
use Rattle.ll_code.specs.Machine.{type_or_word}
use Rattle.std.specs.Prelude.{slice_get}
use Rattle.genc_lower.proofs.types.param_types.Given as goal

abbrev pub invariant-loop-v : goal.invariant-loop-v
invariant-loop-v l = l.types ++ map (λ v. type_or_word (slice_get l.graph.types v)) (drop l.v-index l.v-items) ≡ map (λ v. type_or_word (slice_get l.graph.types v)) l.v-items

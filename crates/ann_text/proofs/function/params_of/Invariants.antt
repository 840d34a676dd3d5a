use Rattle.std.proofs.Common.{◌≡◌, drop}
use Rattle.ann_text.specs.AnnotationText.{with_modules, params}
use Rattle.ann_text.proofs.function.params_of.Given as goal

abbrev pub invariant-loop-module : goal.invariant-loop-module
invariant-loop-module l = with_modules (drop l.module-index l.modules) l.lists ≡ params l.modules

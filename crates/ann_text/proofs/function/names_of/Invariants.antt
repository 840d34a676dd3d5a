use Rattle.std.proofs.Common.{◌≡◌, take}
use Rattle.std.specs.Prelude.{map}
use Rattle.ann_text.specs.AnnotationText.{name_of}
use Rattle.ann_text.proofs.function.names_of.Given as goal

abbrev pub invariant-loop-param : goal.invariant-loop-param
invariant-loop-param l = l.names ≡ map name_of (take l.param-index l.params)

-- The texts of tuples, and of parameters at their places.
use Rattle.std.specs.Prelude.{ℕ, List, ◌++◌, codes}
use Rattle.rpy_resolved.specs.declared.label.Labels.{Labels}
use Rattle.ann_element.specs.declared.element.Element.{Element}
use Rattle.ann_text.specs.AnnotationText.{comma, named}
use Rattle.ann_text.specs.ElementText.{elements}

abbrev pub tuple_text : Labels → List ℕ → List Element → List ℕ
tuple_text labels same parts = codes "tuple(" ++ elements labels same parts ++ codes ")"

abbrev pub placed : Labels → List ℕ → ℕ → List ℕ → Element → List ℕ
placed labels same place name e = comma place ++ named labels same name e

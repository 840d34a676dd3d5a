-- How large an element is: one for it and for each of its parts, at any depth.
use Rattle.std.specs.Prelude.{ℕ, ◌+◌, List, sum, sum_by}
use Rattle.ann_element.specs.declared.element.Element.{Element, fold-Element}
use Rattle.ann_element.specs.declared.element.Element.TheOpen.{Element-F}

abbrev pub step : Element-F ℕ → ℕ
step Element-F.Unreached = 1
step Element-F.NoneOnly = 1
step Element-F.KnownTrue = 1
step Element-F.KnownFalse = 1
step Element-F.Bool = 1
step Element-F.IntPos = 1
step Element-F.Int = 1
step Element-F.Char = 1
step Element-F.Str = 1
step Element-F.StrOrNone = 1
step (Element-F.Tuple parts) = sum parts + 1
step (Element-F.List site none) = 1
step (Element-F.Dict site none) = 1
step (Element-F.Instance class none) = 1
step (Element-F.Func functions none) = 1
step (Element-F.Conflict lists dicts) = 1

abbrev pub size : Element → ℕ
size = fold-Element ℕ step

abbrev pub sizes : List Element → ℕ
sizes = sum_by size

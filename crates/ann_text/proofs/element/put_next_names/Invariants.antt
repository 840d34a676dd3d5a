use Rattle.std.proofs.Common.{◌≡◌, ◌++◌, take}
use Rattle.std.specs.List.{flat_map}
use Rattle.ann_text.specs.ElementText.{next_name}
use Rattle.ann_text.proofs.element.put_next_names.Given as goal

abbrev pub invariant-loop-number : goal.invariant-loop-number
invariant-loop-number l = l.text ≡ l.initial.text ++ flat_map (next_name l.names) (take l.number-index l.numbers)

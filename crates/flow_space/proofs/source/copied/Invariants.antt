use Rattle.std.proofs.Common.{◌≡◌, ◌++◌, take}
use Rattle.flow_space.proofs.source.copied.Given as goal

abbrev pub invariant-loop-item : goal.invariant-loop-item
invariant-loop-item l = l.path ≡ l.fn.path ++ take l.item-index l.items

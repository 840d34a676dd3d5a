use Rattle.std.proofs.Common.{◌≡◌, drop}
use Rattle.rpy_nodes.specs.Walk.{classes}
use Rattle.rpy_nodes.proofs.statement.walk_classes.Given as goal

abbrev pub invariant-loop-path : goal.invariant-loop-path
invariant-loop-path l = classes (drop l.path-index l.classes) l.walk ≡ classes l.classes l.fn.walk

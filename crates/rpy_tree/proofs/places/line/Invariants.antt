use Rattle.std.proofs.Common.{◌≡◌, drop}
use Rattle.rpy_tree.specs.Places.{node_line}
use Rattle.rpy_tree.proofs.places.line.Given as goal

-- what is left gives the same line
abbrev pub invariant-loop-module : goal.invariant-loop-module
invariant-loop-module l = node_line l.modules l.fn.node ≡ node_line (drop l.module-index l.modules) l.node

use Rattle.std.proofs.Common.{◌≡◌, ◌+◌, drop}
use Rattle.rpy_tree.specs.Places.{node_file}
use Rattle.rpy_tree.proofs.places.file.Given as goal

-- what is left gives the rest
abbrev pub invariant-loop-place : goal.invariant-loop-place
invariant-loop-place l = node_file l.modules l.fn.node ≡ l.place + node_file (drop l.place l.modules) l.node

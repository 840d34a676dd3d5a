use Rattle.std.proofs.Common.{◌≡◌, ◌+◌, drop}
use Rattle.rpy_tree.specs.Places.{node_file, node_line}
use Rattle.rpy_names.specs.Place.{modules_of}
use Rattle.rpy_names.proofs.place.fault_place.Given as goal

-- what is left gives the rest of the files, and the same line
abbrev pub invariant-loop-of : goal.invariant-loop-of
invariant-loop-of l = record {
  file : node_file (modules_of l.modules) l.fn.node ≡ l.file + node_file (modules_of (drop l.of-index l.modules)) l.node;
  line : node_line (modules_of l.modules) l.fn.node ≡ node_line (modules_of (drop l.of-index l.modules)) l.node;
}

use Rattle.std.proofs.Common.{◌≡◌, drop}
use Rattle.csub_tree.specs.Layout.{shapes_from, shapes_of}
use Rattle.csub_runner.proofs.shape.shapes_of.Given as goal

abbrev pub invariant-loop-structure : goal.invariant-loop-structure
invariant-loop-structure l = shapes_from l.shapes.items (drop l.structure-index l.structs) ≡ shapes_of l.structs

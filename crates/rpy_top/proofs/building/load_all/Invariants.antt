use Rattle.std.proofs.Common.{◌≡◌, ◌-◌, length}
use Rattle.rpy_edge.specs.Edge.{filed}
use Rattle.rpy_top.specs.Answer.{AreFirst}
use Rattle.rpy_top.proofs.building.load_all.Given as goal

abbrev pub invariant-loop-name : goal.invariant-loop-name
invariant-loop-name g l =
    AreFirst (filed g.F.Files.held g.F.Files.faults l.initial.files l.files) l.names l.sources
    × (g.F.Files.held l.files ≡ g.F.Files.held l.initial.files) × (g.F.Files.faults l.files ≡ g.F.Files.faults l.initial.files)

abbrev pub decreases-loop-name : goal.decreases-loop-name
decreases-loop-name g l = length l.names - length l.sources

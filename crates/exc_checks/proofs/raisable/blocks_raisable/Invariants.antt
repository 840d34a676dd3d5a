use Rattle.std.proofs.Common.{◌≡◌, drop}
use Rattle.exc_checks.specs.Tests as tests
use Rattle.exc_checks.proofs.raisable.blocks_raisable.Given as goal

abbrev pub invariant-loop-block : goal.invariant-loop-block
invariant-loop-block l = tests.blocks_raisable l.raising.graphs.now l.raising.any l.root l.types (drop l.block-index l.blocks) ≡ tests.blocks_raisable l.raising.graphs.now l.raising.any l.root l.types l.blocks

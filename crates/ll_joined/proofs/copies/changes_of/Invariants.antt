use Rattle.std.proofs.Common.{◌≡◌, drop}
use Rattle.ll_joined.specs.Counted.{zeros}
use Rattle.ll_joined.specs.Copied.{changes_in}
use Rattle.ll_joined.proofs.copies.changes_of.Given as goal

abbrev pub invariant-loop-block : goal.invariant-loop-block
invariant-loop-block l = changes_in (drop l.block-index l.blocks) l.changes ≡ changes_in l.blocks (zeros l.count)

use Rattle.std.proofs.Common.{◌≡◌, ◌++◌, reverse, length}
use Rattle.rtyper_raising.specs.Raising.{raising_blocks}
use Rattle.rtyper_raising.proofs.raising.raising_blocks.Given as goal

abbrev pub invariant-loop-block : goal.invariant-loop-block
invariant-loop-block l = record {
  given : l.made ++ (raising_blocks l.caught (reverse l.left) l.found).0 ≡ (raising_blocks l.caught (reverse l.initial.left) l.initial.found).0;
  left : (raising_blocks l.caught (reverse l.left) l.found).1 ≡ (raising_blocks l.caught (reverse l.initial.left) l.initial.found).1;
}

abbrev pub decreases-loop-block : goal.decreases-loop-block
decreases-loop-block l = length l.left

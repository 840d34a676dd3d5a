use Rattle.std.proofs.Common.{◌≡◌, ◌++◌, drop, length}
use Rattle.ll_joined.specs.Copied.{blocks_without, no_copies, facts}
use Rattle.ll_joined.proofs.copies.without_copies.Given as goal

abbrev pub invariant-loop-i : goal.invariant-loop-i
invariant-loop-i l = l.all ++ blocks_without (facts l.known) l.i l.copies (drop l.i l.blocks) ≡ blocks_without (facts l.known) 0 (no_copies (length l.types)) l.blocks

use Rattle.std.proofs.Common.{◌≡◌, drop, []}
use Rattle.rpy_nodes.specs.Listing.{see_from}
use Rattle.rpy_nodes.proofs.listing.see_words.Given as goal

abbrev pub invariant-loop-byte : goal.invariant-loop-byte
invariant-loop-byte l = see_from (drop l.byte-index l.words) (l.names, l.word) ≡ see_from l.words ([], [])

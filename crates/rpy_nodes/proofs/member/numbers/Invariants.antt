use Rattle.std.proofs.Common.{◌≡◌, drop}
use Rattle.rpy_nodes.specs.Listing.{numbers_onto, numbers}
use Rattle.rpy_nodes.proofs.member.numbers.Given as goal

abbrev pub invariant-loop-name : goal.invariant-loop-name
invariant-loop-name l = numbers_onto l.numbers (drop l.name-index l.names) l.walk ≡ numbers l.names l.fn.walk

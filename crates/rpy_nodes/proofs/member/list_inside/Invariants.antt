use Rattle.std.proofs.Common.{◌≡◌, drop}
use Rattle.rpy_nodes.specs.Listing.{list_inside}
use Rattle.rpy_nodes.proofs.member.list_inside.Given as goal

abbrev pub invariant-loop-of : goal.invariant-loop-of
invariant-loop-of l = list_inside l.file l.place (drop l.of-index l.members) (l.units, l.walk) ≡ list_inside l.file l.place l.members (l.fn.units, l.fn.walk)

use Rattle.std.proofs.Common.{◌≡◌, drop}
use Rattle.rpy_nodes.specs.Listing.{list_members}
use Rattle.rpy_nodes.proofs.member.list_members.Given as goal

abbrev pub invariant-loop-place : goal.invariant-loop-place
invariant-loop-place l = list_members l.file l.place (drop l.place l.members) (l.units, l.walk) ≡ list_members l.file 0 l.members (l.fn.units, l.fn.walk)

use Rattle.std.proofs.Common.{◌≡◌, drop, []}
use Rattle.rpy_nodes.specs.Listing.{list_modules}
use Rattle.rpy_nodes.proofs.listing.list_modules.Given as goal

abbrev pub invariant-loop-file : goal.invariant-loop-file
invariant-loop-file l = list_modules l.file (drop l.file l.modules) (l.units, l.walk) ≡ list_modules 0 l.modules ([], l.fn.walk)

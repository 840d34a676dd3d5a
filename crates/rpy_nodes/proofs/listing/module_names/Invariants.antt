use Rattle.std.proofs.Common.{◌≡◌, drop, map}
use Rattle.rpy_nodes.specs.Listing.{numbers_onto, module_names}
use Rattle.rpy_nodes.proofs.listing.module_names.Given as goal

abbrev pub invariant-loop-of : goal.invariant-loop-of
invariant-loop-of l = numbers_onto l.names (map (λ m. m.name) (drop l.of-index l.modules)) l.walk ≡ module_names l.modules l.fn.walk

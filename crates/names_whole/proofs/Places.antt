-- The place of a fault is that of its node by the numbering.
use Rattle.std.proofs.Common.{◌≡◌, ◌<◌, ℕ, List, ◌∷◌, ◌++◌, length}
use Rattle.std.specs.List.{AllByRecursion}
use Rattle.rpy_nodes.specs.declared.listing.Named.{Named}
use Rattle.rpy_tree.specs.Places.{line_in}
use Rattle.names_rules.specs.Laws.{IsCounted, StandsIn, number_in}
use Rattle.names_rules.specs.Members.{module_nodes}
use Rattle.names_rules.proofs.Places.{stands}
use Rattle.rpy_names.specs.Place.{place}

pub place_is : (before rest : List Named) (m : Named) → AllByRecursion IsCounted (before ++ m ∷ rest) → (i : ℕ) → i < module_nodes m.module.members → place (before ++ m ∷ rest) (number_in before i) ≡ (length before, line_in m.module i)
place_is before rest m all i h = let at : StandsIn before m rest i = stands before rest m all i h in λ j. (at.0 j, at.1 j)

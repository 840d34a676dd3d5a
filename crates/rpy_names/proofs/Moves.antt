-- One more module is moved.
use Rattle.std.proofs.Common.{◌≡◌, ℕ, List, [], ◌∷◌, ◌++◌, map, reverse, arith, refl}
use Rattle.std.proofs.lemmas.Grind.{common_steps}
use Rattle.rpy_nodes.specs.declared.listing.Named.{Named}
use Rattle.rpy_names.specs.Place.{modules_of, names_of}
use Rattle.rpy_tree.specs.declared.syntax.Module.{Module}

pub names_turn : (rest : List Named) (m : Named) (done : List (List ℕ)) → names_of (rest ++ m ∷ []) ++ reverse done ≡ names_of rest ++ reverse (done ++ m.name ∷ [])
names_turn rest m done = grind (arith, common_steps)

pub modules_turn : (rest : List Named) (m : Named) (done : List Module) → modules_of (rest ++ m ∷ []) ++ reverse done ≡ modules_of rest ++ reverse (done ++ m.module ∷ [])
modules_turn rest m done = grind (arith, common_steps)

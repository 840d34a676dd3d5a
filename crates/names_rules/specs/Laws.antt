-- What the laws of this crate say.
use Rattle.std.specs.Prelude.{◌≡◌, ◌+◌, ℕ, List, ◌∷◌, ◌++◌, length, map}
use Rattle.rpy_tree.specs.Places.{node_file, node_line, line_in}
use Rattle.rpy_tree.specs.declared.syntax.Module.{Module}
use Rattle.rpy_nodes.specs.declared.listing.Named.{Named}
use Rattle.names_rules.specs.Members.{module_nodes, modules_nodes}

abbrev pub modules : List Named → List Module
modules ms = map (λ m. m.module) ms

-- a module that says of itself how many nodes it has
abbrev pub IsCounted : Named → Type 0
IsCounted m = m.module.nodes ≡ module_nodes m.module.members

-- the node of a module with so many nodes of it before
abbrev pub number_in : List Named → ℕ → ℕ
number_in before i = modules_nodes before + i

abbrev pub StandsIn : List Named → Named → List Named → ℕ → Type 0
StandsIn before m rest i =
    (node_file (modules (before ++ m ∷ rest)) (number_in before i) ≡ length before)
    × (node_line (modules (before ++ m ∷ rest)) (number_in before i) ≡ line_in m.module i)

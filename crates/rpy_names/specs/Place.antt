-- Where a node of modules stands.
use Rattle.std.specs.Prelude.{ℕ, List, map}
use Rattle.rpy_nodes.specs.declared.listing.Named.{Named}
use Rattle.rpy_tree.specs.Places.{node_file, node_line}
use Rattle.rpy_tree.specs.declared.syntax.Module.{Module}

abbrev pub modules_of : List Named → List Module
modules_of named = map (λ m. m.module) named

abbrev pub names_of : List Named → List (List ℕ)
names_of named = map (λ m. m.name) named

-- the place of the file of a node, and its line
abbrev pub place : List Named → ℕ → ℕ × ℕ
place named node = (node_file (modules_of named) node, node_line (modules_of named) node)

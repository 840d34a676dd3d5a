-- Modules whose nodes are numbered, each once.
use Rattle.std.specs.Prelude.{◌≡◌, ℕ, ◌≤◌, List, [], ◌∷◌, map}
use Rattle.std.specs.List.{flat_map}
use Rattle.rpy_tree.specs.declared.syntax.Module.{Module}
use Rattle.resolver_names.specs.Nodes.{total, block_nodes}
use Rattle.resolver_laws.specs.Made.{Source, member_sources}

-- how many expressions and targets of functions have the number as their node
abbrev pub count_in : ℕ → List Source → ℕ
count_in k ss = total (map (λ (s : Source). block_nodes k s.0 s.1.body) ss)

abbrev pub own_count : ℕ → Module → ℕ
own_count k m = count_in k (flat_map (member_sources 0) m.members)

-- a number is the node of one of them at most, and of none if it is not below the count of nodes
abbrev pub IsNumbered : Module → Type 0
IsNumbered m = (k : ℕ) → (own_count k m ≤ 1) × (m.nodes ≤ k → own_count k m ≡ 0)

abbrev pub AreNumbered : List Module → Type 0
AreNumbered [] = Unit {0}
AreNumbered (m ∷ modules) = IsNumbered m × AreNumbered modules

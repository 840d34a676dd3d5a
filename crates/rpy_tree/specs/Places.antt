-- Where nodes stand. Their numbers go on from module to module.
use Rattle.std.specs.Prelude.{ℕ, suc, ◌-◌, nat_lt, List, [], ◌∷◌, sum_by, slice_get, unwrap_or, if◌then◌else◌}
use Rattle.rpy_tree.specs.declared.syntax.Module.{Module}

abbrev pub node_count : List Module → ℕ
node_count = sum_by (λ m. m.nodes)

-- the place of the file of a node; past the last node the number of files
abbrev pub node_file : List Module → ℕ → ℕ
node_file [] n = 0
node_file (m ∷ ms) n = if nat_lt n m.nodes then 0 else suc (node_file ms (n - m.nodes))

-- the line of a node of a module
abbrev pub line_in : Module → ℕ → ℕ
line_in m n = unwrap_or (slice_get m.lines n) 0

-- the line of a node; past the last node 0
abbrev pub node_line : List Module → ℕ → ℕ
node_line [] n = 0
node_line (m ∷ ms) n = if nat_lt n m.nodes then line_in m n else node_line ms (n - m.nodes)

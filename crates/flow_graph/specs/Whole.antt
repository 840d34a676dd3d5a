-- The graphs of a whole program.
use Rattle.std.specs.Prelude.{◌≡◌, ℕ, ◌+◌, List, [], ◌∷◌, length}
use Rattle.rpy_resolved.specs.Count.{function_count}
use Rattle.rpy_tree.specs.declared.program.Program.{Program}
use Rattle.flow_graph.specs.declared.graph.Graph.{Graph}
use Rattle.flow_graph.specs.declared.graph.Graphs.{Graphs}

-- the graphs are those of the functions from k on
abbrev pub CountFrom : ℕ → List Graph → Type 0
CountFrom k [] = Unit {0}
CountFrom k (g ∷ gs) = (g.function ≡ k) × CountFrom (k + 1) gs

-- each function has its graph
abbrev pub Covers : Program → Graphs → Type 0
Covers p gs = CountFrom 0 gs.graphs × (length gs.graphs ≡ function_count p.modules)

-- Exceptions that leave a graph, and those that do not.
use Rattle.std.specs.Prelude.{◌≡◌, ℕ, false, List, [], ◌∷◌, slice_get, Some, None}
use Rattle.rpy_resolved.specs.declared.tree.Resolved.{Resolved}
use Rattle.flow_graph.specs.declared.graph.Block.{Block}
use Rattle.flow_graph.specs.declared.graph.Exit.{Exit}
use Rattle.flow_graph.specs.declared.graph.Exit.TheVariants as exit
use Rattle.flow_graph.specs.declared.graph.Graph.{Graph}
use Rattle.flow_graph.specs.declared.graph.Graphs.{Graphs}
use Rattle.flow_graph.specs.declared.graph.Op.{Op}
use Rattle.flow_stands.specs.Stands.{raise_block}
use Rattle.flow_space.specs.Placed.{NodesAt}
use Rattle.rtyper_program.specs.Raises.{exit_catches}
use Rattle.run_laws.specs.Points.{Setting}
use Rattle.block_laws.specs.Escaping.{LetsPass}
use Rattle.block_laws.specs.Operations.{IsUncaught}

-- Behind an exit that catches nothing what is thrown leaves the graph: no handler is there, and any exception goes on alone, to a block that takes it
-- and raises it.
abbrev pub ExceptionsPass : Type 0
ExceptionsPass = (r : Resolved) (s : Setting) → NodesAt r s.graphs → (f : ℕ) (graph : Graph) → slice_get s.graphs.graphs f ≡ Some graph → (n : ℕ) (b : Block) → slice_get graph.blocks n ≡ Some b → exit_catches graph b.exit ≡ false
    → LetsPass s f b.inputs b.exit × ((ops : List Op) → IsUncaught s f b.inputs ops b.exit)

-- no handler, and for any exception the block by which exceptions leave a function
abbrev pub LeadsOut : Exit → Type 0
LeadsOut (exit.OnRaise v [] None without) = Unit {0}
LeadsOut (exit.OnRaise v [] (Some by) without) = by.to ≡ raise_block
LeadsOut (exit.OnRaise v (hand ∷ hands) by without) = ⊥
LeadsOut e = Unit {0}

-- An exit catches nothing where it leads out so.
abbrev pub NothingIsCaught : Type 0
NothingIsCaught = (r : Resolved) (gs : Graphs) → NodesAt r gs → (f : ℕ) (graph : Graph) → slice_get gs.graphs f ≡ Some graph → (e : Exit) → LeadsOut e → exit_catches graph e ≡ false

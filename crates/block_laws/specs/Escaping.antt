-- Exceptions that nothing in their graph catches.
use Rattle.std.specs.Prelude.{◌≡◌, ℕ, false, List, [], ◌∷◌, slice_get, Some, None}
use Rattle.ll_live.specs.Live.{among}
use Rattle.flow_graph.specs.declared.graph.Block.{Block}
use Rattle.flow_graph.specs.declared.graph.Exit.{Exit}
use Rattle.flow_graph.specs.declared.graph.Exit.TheVariants as exit
use Rattle.flow_graph.specs.declared.graph.Link.{Link}
use Rattle.flow_graph.specs.declared.graph.Op.{Op}
use Rattle.flow_meaning.specs.Machine.{block_in}
use Rattle.run_laws.specs.Points.{Setting}
use Rattle.block_laws.specs.Operations.{IsUncaught}

-- the link passes the exception to a block that takes it alone, and does nothing but raise it
pub record RaisesAgain (s : Setting) (f v : ℕ) (link : Link) : Type 0 where
  pub block : Block
  pub is : block_in (slice_get s.graphs.graphs f) link.to ≡ Some block
  pub does : block.ops ≡ []
  pub input : ℕ
  pub takes : block.inputs ≡ input ∷ []
  pub raises : block.exit ≡ exit.Raise input
  pub passes : link.args ≡ v ∷ []

-- an exit that has no handler, and by which any exception is raised again
abbrev pub LetsPass : Setting → ℕ → List ℕ → Exit → Type 0
LetsPass s f names (exit.OnRaise v [] None without) = Unit {0}
LetsPass s f names (exit.OnRaise v [] (Some by) without) = (among v names ≡ false) × RaisesAgain s f v by
LetsPass s f names (exit.OnRaise v (hand ∷ hands) by without) = ⊥
LetsPass s f names other = Unit {0}

-- what is thrown before such an exit leaves the graph
abbrev pub ExceptionsEscape : Type 0
ExceptionsEscape = (s : Setting) (f : ℕ) (names : List ℕ) (ops : List Op) (e : Exit) → LetsPass s f names e → IsUncaught s f names ops e

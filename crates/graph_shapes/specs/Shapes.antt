-- What the blocks of flow graphs are like.
use Rattle.std.specs.Prelude.{◌≡◌, ◌≢◌, ◌≤◌, ℕ, ◌+◌, true, false, List, [], ◌∷◌, ◌++◌, length, slice_get, Option, Some, None}
use Rattle.ll_live.specs.Live.{among}
use Rattle.rpy_resolved.specs.declared.tree.Resolved.{Resolved}
use Rattle.flow_graph.specs.declared.graph.Block.{Block}
use Rattle.flow_graph.specs.declared.graph.Exit.{Exit}
use Rattle.flow_graph.specs.declared.graph.Exit.TheVariants as exit
use Rattle.flow_graph.specs.declared.graph.Graph.{Graph}
use Rattle.flow_graph.specs.declared.graph.Graphs.{Graphs}
use Rattle.flow_graph.specs.declared.graph.Link.{Link}
use Rattle.flow_graph.specs.declared.graph.Op.{Op}
use Rattle.flow_space.specs.Placed.{NodesAt}
use Rattle.block_laws.specs.Links.{AreDistinct, AllAmong}
use Rattle.rtyped_runs.specs.Parts.{names_behind}

-- the numbers from one on, one after the other
abbrev pub AreFrom : ℕ → List ℕ → Type 0
AreFrom n [] = Unit {0}
AreFrom n (v ∷ vs) = (v ≡ n) × AreFrom (n + 1) vs

-- a link to a block that is there, behind the first one: it passes on variables that have been set, as many as the block has inputs
pub record Joins (blocks : List Block) (names : List ℕ) (link : Link) : Type 0 where
  pub later : link.to ≢ 0
  pub block : Block
  pub is : slice_get blocks link.to ≡ Some block
  pub counted : length link.args ≡ length block.inputs
  pub own : AllAmong link.args names

abbrev pub AllJoin : List Block → List ℕ → List (ℕ × Link) → Type 0
AllJoin blocks names [] = Unit {0}
AllJoin blocks names (hand ∷ hands) = Joins blocks names hand.1 × AllJoin blocks names hands

abbrev pub OtherJoins : List Block → List ℕ → Option Link → Type 0
OtherJoins blocks names None = Unit {0}
OtherJoins blocks names (Some by) = Joins blocks names by

-- operands have been set, and a result is new
abbrev pub OpsRead : List ℕ → List Op → Type 0
OpsRead names [] = Unit {0}
OpsRead names (o ∷ ops) = AllAmong o.args names × (among o.result names ≡ false) × OpsRead (names ++ o.result ∷ []) ops

-- What an exit reads has been set, behind the inputs alone and behind all that the block sets. An exception is a variable beside the inputs, and goes on
-- with these alone.
abbrev pub ExitReads : List Block → List ℕ → List ℕ → Exit → Type 0
ExitReads blocks inputs names (exit.Goto link) = Joins blocks names link
ExitReads blocks inputs names (exit.If v there elsewhere) = (among v names ≡ true) × Joins blocks names there × Joins blocks names elsewhere
ExitReads blocks inputs names (exit.OnRaise v hands by without) = (among v inputs ≡ false) × AllJoin blocks (inputs ++ v ∷ []) hands × OtherJoins blocks (inputs ++ v ∷ []) by × Joins blocks names without
ExitReads blocks inputs names (exit.Return v) = among v names ≡ true
ExitReads blocks inputs names (exit.Raise v) = among v names ≡ true

-- The inputs are consecutive, so that none stands there twice. There is at most one operation.
pub record HasShape (blocks : List Block) (b : Block) : Type 0 where
  pub base : ℕ
  pub inputs : AreFrom base b.inputs
  pub apart : AreDistinct b.inputs
  pub few : length b.ops ≤ 1
  pub ops : OpsRead b.inputs b.ops
  pub exit : ExitReads blocks b.inputs (names_behind b.inputs b.ops) b.exit

-- each block of the graphs of a program
abbrev pub BlocksHaveShapes : Type 0
BlocksHaveShapes = (r : Resolved) (gs : Graphs) → NodesAt r gs → (f : ℕ) (graph : Graph) → slice_get gs.graphs f ≡ Some graph → (n : ℕ) (b : Block) → slice_get graph.blocks n ≡ Some b → HasShape graph.blocks b

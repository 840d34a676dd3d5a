-- Blocks whose last operation may raise, and whose exit catches that.
use Rattle.std.specs.Prelude.{◌≡◌, ◌≢◌, ◌<◌, ◌≤◌, ◌⊎◌, ℕ, ◌+◌, Bool, true, false, List, [], ◌∷◌, ◌++◌, length, slice_get, Option, Some, None}
use Rattle.csub_tree.specs.declared.tree.COperand.{COperand}
use Rattle.ll_code.specs.declared.program.LlType.TheVariants as type
use Rattle.ll_code.specs.declared.program.LlOp.{LlOp}
use Rattle.ll_code.specs.declared.program.LlExit.{LlExit}
use Rattle.ll_code.specs.declared.program.LlExit.TheVariants as made
use Rattle.ll_code.specs.declared.program.LlGraph.{LlGraph}
use Rattle.ll_code.specs.declared.program.LlLink.{LlLink}
use Rattle.ll_code.specs.declared.program.LlProgram.{LlProgram}
use Rattle.ll_build.specs.declared.needs.Numbers.{Numbers}
use Rattle.ll_live.specs.Live.{among}
use Rattle.flow_graph.specs.declared.graph.Exit.TheVariants as exit
use Rattle.flow_graph.specs.declared.graph.Graphs.{Graphs}
use Rattle.flow_graph.specs.declared.graph.Link.{Link}
use Rattle.flow_graph.specs.declared.graph.Op.{Op}
use Rattle.rtyper_data.specs.Seen.{Writing}
use Rattle.rtyper_program.specs.declared.links.Caught.{Caught}
use Rattle.rtyper_program.specs.Cuts.{passed_by}
use Rattle.rtyper_program.specs.Links.{link_of, typed}
use Rattle.rtyper_program.specs.Live.{live}
use Rattle.rtyper_program.specs.Seen.{Lowered, type_at}
use Rattle.object_laws.specs.Done.{HasLayout}
use Rattle.object_laws.specs.Known.{Known}
use Rattle.run_laws.specs.Points.{Setting}
use Rattle.run_laws.specs.Does.{Does}
use Rattle.block_laws.specs.Links.{setting, AllAmong, HasBlocks, IsLink}
use Rattle.block_laws.specs.Operations.{AreRead, HasTypes, IsOperation, NeverGives}
use Rattle.throw_laws.specs.Pieces.{IsCut, NeverThrow}
use Rattle.throw_laws.specs.Ready.{AllFit, GiveValues, ReadIn, through}
use Rattle.catch_laws.specs.Handlers.{IsTaken}

-- ---- the program

-- Of the graphs of a program some are told never to throw, and do not; those of functions are not among them. A graph with a result gives something.
pub record IsTold (s : Setting) (quiet : ℕ → Bool) : Type 0 where
  pub silent : NeverThrow s.low s.arguments quiet
  pub loud : (f number : ℕ) → s.known.graph f ≡ Some number → quiet number ≡ false
  pub gives : GiveValues s.low s.arguments

-- ---- the operation

-- what pieces pass on to the next ones
abbrev pub needed_by : LlLink → ℕ → List COperand → List LlOp → List ℕ
needed_by by v last ops = live ops (passed_by by v) last

-- The operations that an operation is written as read only variables of the block that have a type, and those that they have set; they set that of the result, where
-- it has a type.
pub record ReadsInside (l : Lowered) (names : List ℕ) (result : ℕ) (written : List LlOp) : Type 0 where
  pub reads : ReadIn written (typed l names)
  pub sets : type_at l result ≢ type.Void → among result (through written (typed l names)) ≡ true

-- ---- behind it

-- the link is done, or the operation never gives a value
abbrev pub GoesOn : Setting → Numbers → Lowered → List ℕ → Op → Link → Writing → Type 0
GoesOn s numbers l names o without w = IsLink s numbers l (names ++ o.result ∷ []) without w ⊎ NeverGives s l.number o

-- ---- the cut

-- The operations of an operation, with what its link passes on behind them, are cut where they may raise, and an exception takes the link.
pub record IsCutSo (s : Setting) (l : Lowered) (quiet : ℕ → Bool) (exception : ℕ) (by : LlLink) (all : List LlOp) (last : LlLink) (left : List LlOp) (ends : LlExit) : Type 0 where
  pub number : ℕ
  pub is : s.known.graph l.number ≡ Some number
  pub graph : LlGraph
  pub stands : slice_get s.low.graphs number ≡ Some graph
  pub cut : IsCut quiet (needed_by by exception last.args) graph.blocks exception by all (made.Goto last) left ends
  pub fits : AllFit s.low (s.size l.number) all

-- Where what is written for an operation does what it does, what is passed on behind it, if it gives anything, is converted, and the link that an exception takes leads to its
-- handler, the first piece does what the operation and the exit do.
abbrev pub CaughtOperationsAreFollowed : Type 0
CaughtOperationsAreFollowed = (l : Lowered) (known : Known) (graphs : Graphs) (p : LlProgram) (arguments : List (List ℕ)) (numbers : Numbers) (quiet : ℕ → Bool) (below start new : ℕ) (names : List ℕ) (o : Op) (caught : Caught) (hands : List (ℕ × Link)) (any : Option Link) (without : Link) (w : Writing)
    → (written conversions : List LlOp) (by : LlLink) (left : List LlOp) (ends : LlExit)
    → HasLayout p l.world.around.layout → HasTypes (setting l known graphs p arguments) l.number below → slice_get graphs.graphs l.number ≡ Some l.graph → HasBlocks (setting l known graphs p arguments) l → IsTold (setting l known graphs p arguments) quiet
    → below ≤ start → start + new ≤ length w.body.types → IsOperation (setting l known graphs p arguments) l.number o start new written → AreRead (setting l known graphs p arguments) l.number o.args → among o.result names ≡ false → ReadsInside l names o.result written
    → AllAmong without.args (names ++ o.result ∷ []) → GoesOn (setting l known graphs p arguments) numbers l names o without w → (link_of l None without w).1.body.ops ≡ w.body.ops ++ conversions → length (link_of l None without w).1.body.types ≤ (setting l known graphs p arguments).size l.number
    → below ≤ caught.exception → caught.exception < (setting l known graphs p arguments).size l.number → IsTaken (setting l known graphs p arguments) l names caught hands any by
    → IsCutSo (setting l known graphs p arguments) l quiet caught.exception by (written ++ conversions) (link_of l None without w).0 left ends
    → Does (setting l known graphs p arguments) l.number names (o ∷ []) (exit.OnRaise caught.variable hands any without) left ends

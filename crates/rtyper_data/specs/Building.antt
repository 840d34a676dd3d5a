-- Parts of graphs.
use Rattle.std.specs.Prelude.{ℕ, zero, suc, List, [], ◌∷◌, ◌++◌, Some}
use Rattle.csub_tree.specs.declared.tree.COperand.{COperand}
use Rattle.csub_tree.specs.declared.tree.COperand.TheVariants.{Var}
use Rattle.ll_code.specs.declared.program.LlType.{LlType}
use Rattle.ll_code.specs.declared.program.LlOp.{LlOp}
use Rattle.ll_code.specs.declared.program.LlLink.{LlLink}
use Rattle.ll_code.specs.declared.program.LlExit.{LlExit}
use Rattle.ll_code.specs.declared.program.LlExit.TheVariants as exit
use Rattle.ll_code.specs.declared.program.LlBlock.{LlBlock}
use Rattle.ll_code.specs.declared.program.LlGraph.{LlGraph}

abbrev pub link_to : ℕ → List COperand → LlLink
link_to to args = record { to = to; args = args }

abbrev pub block_with : List ℕ → List LlOp → LlExit → LlBlock
block_with inputs ops e = record { inputs = inputs; ops = ops; exit = e }

-- by the truth of a variable
abbrev pub fork : ℕ → ℕ → List COperand → ℕ → List COperand → LlExit
fork a there xs elsewhere ys = exit.If a (link_to there xs) (link_to elsewhere ys)

abbrev pub gives : ℕ → LlExit
gives v = exit.Return (Some (Var v))

-- the first so many numbers
abbrev pub numbers : ℕ → List ℕ
numbers zero = []
numbers (suc n) = numbers n ++ n ∷ []

abbrev pub graph_with : List ℕ → List ℕ → LlType → List LlType → List LlBlock → LlGraph
graph_with name params result types blocks = record { name = name; params = params; result = result; types = types; blocks = blocks }

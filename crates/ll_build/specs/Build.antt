-- Graphs, written down.
use Rattle.std.specs.Prelude.{ℕ, ℤ, Bool as Truth, List, [], ◌∷◌, Some, None}
use Rattle.csub_tree.specs.declared.tree.COperand.{COperand}
use Rattle.csub_tree.specs.declared.tree.COperand.TheVariants.{Var, Const}
use Rattle.csub_tree.specs.declared.tree.CConst.TheVariants.{Word, Bool, Char, Null, Static}
use Rattle.csub_tree.specs.declared.tree.CBinary.TheVariants.{Peq}
use Rattle.ll_code.specs.declared.program.LlType.{LlType}
use Rattle.ll_code.specs.declared.program.LlOp.{LlOp}
use Rattle.ll_code.specs.declared.program.LlOp.TheVariants.{Binary}
use Rattle.ll_code.specs.declared.program.LlLink.{LlLink}
use Rattle.ll_code.specs.declared.program.LlExit.{LlExit}
use Rattle.ll_code.specs.declared.program.LlExit.TheVariants.{If, Return, Fail}
use Rattle.ll_code.specs.declared.program.LlBlock.{LlBlock}
use Rattle.ll_code.specs.declared.program.LlGraph.{LlGraph}

abbrev pub word : ℤ → COperand
word n = Const (Word n)

abbrev pub flag : Truth → COperand
flag b = Const (Bool b)

abbrev pub byte : ℕ → COperand
byte b = Const (Char b)

abbrev pub null : COperand
null = Const Null

-- the static string of this number
abbrev pub static_text : ℕ → COperand
static_text n = Const (Static 0 n)

-- the table of the strings of one byte, which is of this struct
abbrev pub static_table : ℕ → COperand
static_table table = Const (Static table 257)

abbrev pub to : ℕ → List COperand → LlLink
to block args = record { to = block; args = args }

-- by the truth of a variable
abbrev pub fork : ℕ → ℕ → List COperand → ℕ → List COperand → LlExit
fork a there xs elsewhere ys = If a (to there xs) (to elsewhere ys)

abbrev pub block_of : List ℕ → List LlOp → LlExit → LlBlock
block_of inputs ops exit = record { inputs = inputs; ops = ops; exit = exit }

abbrev pub graph_of : List ℕ → List ℕ → LlType → List LlType → List LlBlock → LlGraph
graph_of name params gives types blocks = record { name = name; params = params; result = gives; types = types; blocks = blocks }

-- a block that asks whether a string is missing
abbrev pub ask : List ℕ → List COperand → ℕ → ℕ → ℕ → ℕ → LlBlock
ask inputs args text test missing there = block_of inputs (Binary test Peq (Var text) null ∷ []) (fork test missing [] there args)

abbrev pub fails : ℕ → LlBlock
fails number = block_of [] [] (Fail number)

abbrev pub done : LlBlock
done = block_of [] [] (Return None)

-- a block that gives a constant
abbrev pub answer : COperand → LlBlock
answer x = block_of [] [] (Return (Some x))
